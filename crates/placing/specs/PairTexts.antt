-- The texts of the new pair.
use Rattle.std.specs.Prelude.{◌≡◌, List, [], ℕ, get_or, Option, Some, None}
use Rattle.format.specs.Syntax.{Key, Scalar, write_key, write_scalar}
use Rattle.format.specs.Fits.{KeyFits, ScalarFits}
use Rattle.format.specs.Answer.{Answer, ok, refused, ◌>>=◌}
use Rattle.format.specs.Table.{key_node}
use Rattle.format.specs.Writing.{key_of, scalar_of}
use Rattle.scanner.specs.Scans.{scalar_told}
use Rattle.scanner.specs.declared.Text.{Text}
use Rattle.keys.specs.declared.KeyWords.{KeyWords}

-- exactly one scalar, and what it tells
pub record IsScalar (s : List ℕ) (x : Text) : Type 0 where
  pub scalar : Scalar
  pub written : s ≡ write_scalar scalar []
  pub fits : ScalarFits scalar
  pub tells : x ≡ scalar_told 1 scalar x.next

abbrev pub Exact : List ℕ → Option Text → Type 0
Exact s (Some x) = IsScalar s x
Exact s None = (y : Scalar) → ScalarFits y → s ≡ write_scalar y [] → ⊥

-- words 0, 2 and 3 of the node that a key has whose tag stands at 0
abbrev pub text_words : Key → KeyWords
text_words k = record { tag = (key_node 0 0 k).tag; content = (key_node 0 0 k).content; size = (key_node 0 0 k).size }

-- exactly one key, and its words
pub record IsKey (s : List ℕ) (w : KeyWords) : Type 0 where
  pub key : Key
  pub written : s ≡ write_key key []
  pub fits : KeyFits key
  pub words : w ≡ text_words key

abbrev pub ExactKey : List ℕ → Option Text → Type 0
ExactKey s (Some x) = IsKey s (record { tag = get_or s 0 0; content = x.content; size = x.size })
ExactKey s None = (k : Key) → KeyFits k → s ≡ write_key k [] → ⊥

-- ---- 13

-- the paper's number and values for each case: "key or value text unfit"
abbrev pub texts_answer : Option KeyWords → Answer KeyWords
texts_answer (Some w) = ok w
texts_answer None = refused 13 0

-- both texts judged in one step: the words of the key
unfoldable pub pair_words : (key value : List ℕ) → Answer KeyWords
pair_words key value = do
  k ← key_of key
  _ ← scalar_of value
  ok (text_words k)
