-- The byte at an index.
use Rattle.std.specs.Prelude.{List, ℕ, get_or}

-- the byte at an index, and 256, which is no byte, past the end
unfoldable pub byte_at : List ℕ → ℕ → ℕ
byte_at s i = get_or s i 256
