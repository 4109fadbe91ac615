-- The key of a node, by the words that the table has for it. Assumes nothing.
use Prim.Native.Nat.{ℕ, ◌+◌, ◌*◌, ◌≤◌}
use native.Mathlib.Omega.{arith}
use mathlib.Core.Path.{◌≡◌}
use mathlib.Core.List.{List}
use lib.ListN.{length}
use borrow.Author.Tests.{lt-ltb}
use Rattle.format.specs.Table.{width}
use Rattle.format.specs.Reading.{capacity_of}
use Rattle.keys.specs.KeyWords.{key_words_at, key_words_in}

-- of a node whose words the table has
pub key-there : (t : List ℕ) (i : ℕ) → i * width + width ≤ length t → key_words_in t i ≡ key_words_at t i
unfolding key_words_in
key-there t i h = rw (key_words_in, lt-ltb i (capacity_of t) (omega arith))
