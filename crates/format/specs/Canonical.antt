-- "Canonical text": every integer and number in shortest decimal form.
use Rattle.std.specs.Prelude.{List, false, ℕ, zero, suc, ℤ, pos, negsuc}
use Rattle.format.specs.Tree.{map_tree}
use Rattle.format.specs.Syntax.{Spelling, Sign, unsigned, plus, minus, Literal, Quoted, Key, Scalar, Head, Reference, Value}
use Rattle.format.specs.Syntax.{map_key, map_scalar, map_container}

-- "no leading zero", and of the plus "Canonical text never has it." (paper 02, L1)
abbrev pub shortest : Spelling
shortest = record { plus = false; zeros = 0 }

-- "no `+` … `0` for zero and never `-0`"
abbrev pub shortest_sign : Sign → (magnitude : ℕ) → Sign
shortest_sign unsigned n = unsigned
shortest_sign plus n = unsigned
shortest_sign minus zero = unsigned
shortest_sign minus (suc n) = minus

abbrev pub shortest_int : Literal → Literal
shortest_int x = record { sign = shortest_sign x.sign x.magnitude; zeros = 0; magnitude = x.magnitude }

-- "Float texts, strings and class names are copied."
abbrev pub shortest_quoted : Quoted → Quoted
shortest_quoted q = record { spelling = shortest; text = q.text }

-- the shortest way to write an integer, and a text
abbrev pub literal_of : ℤ → Literal
literal_of (pos n) = record { sign = unsigned; zeros = 0; magnitude = n }
literal_of (negsuc n) = record { sign = minus; zeros = 0; magnitude = suc n }

abbrev pub quoted_of : List ℕ → Quoted
quoted_of t = record { spelling = shortest; text = t }

abbrev pub canonical_key : Key → Key
canonical_key k = map_key shortest_int shortest_quoted k

abbrev pub canonical_scalar : Scalar → Scalar
canonical_scalar x = map_scalar shortest_int shortest_quoted x

abbrev pub canonical_head : Head → Head
canonical_head h = record { container = map_container shortest_quoted h.container; spelling = shortest }

abbrev pub canonical_reference : Reference → Reference
canonical_reference r = record { kind = r.kind; spelling = shortest; named = r.named }

-- the syntax whose print is the canonical text
unfoldable pub canonical : Value → Value
canonical v = map_tree canonical_key canonical_scalar canonical_head canonical_reference v
