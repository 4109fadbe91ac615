-- Tokens: what a loop over a plan's bytes meets, one after another.
use Rattle.std.specs.Prelude.{◌≡◌, ◌⊎◌, List, [], ◌∷◌, ◌++◌, true, false, ℕ, suc, ◌+◌, ◌-◌, ◌≤◌, eqb, get_or}
use Rattle.format.specs.Bytes.{byte}
use Rattle.format.specs.Kind.{Kind, tag, is_tag_of}
use Rattle.format.specs.Tree.{leaf, ref, branch, none, pair, count, one}
use Rattle.format.specs.Syntax.{int_key, string_key, int, string, Key, Spelling, Scalar, Container, Head, RefKind, object_ref, variable_ref, ref_kind}
use Rattle.format.specs.Syntax.{Reference, Value, Values, write_number, write_scalar, write_container}
use Rattle.format.specs.Limits.{number_limit}
use Rattle.format.specs.Fits.{ScalarFits, ContainerFits}
use Rattle.format.specs.Edit.{raised}
use Rattle.format.specs.Canonical.{canonical_scalar, canonical_head, canonical_reference}
use Rattle.format.specs.Answer.{ok, refused, ◌>>=◌}
use Rattle.format.specs.Read.{Reader, named_text, head_text}
use Rattle.scanner.specs.Scans.{Told, scalar_behind, tell, scalar_told, head_told}

-- a scalar, be it a key or a value; a reference; a container's head with its count; the closing brace
pub data Token : Type 0 where
  scalar : Scalar → Token
  reference : Reference → Token
  opening : Head → (count : ℕ) → Token
  closing : Token

abbrev pub opening_of : Container × (Spelling × ℕ) → Token
opening_of h = opening (record { container = h.0; spelling = h.1.0 }) h.1.1

abbrev pub reference_of : RefKind → Spelling × ℕ → Token
reference_of k n = reference (record { kind = k; spelling = n.0; named = n.1 })

-- what follows a tag
unfoldable pub token_behind : (tag : ℕ) → Reader Token
token_behind b l s = elim (eqb b (byte "}")) [
  | true ↦ ok (closing, s)
  | false ↦ elim (eqb b (tag Kind.array)) [
    | true ↦ head_text true l s >>= λ (h, s₁). ok (opening_of h, s₁)
    | false ↦ elim (eqb b (tag Kind.object)) [
      | true ↦ head_text false l s >>= λ (h, s₁). ok (opening_of h, s₁)
      | false ↦ elim (eqb b (tag Kind.object_reference)) [
        | true ↦ named_text l s >>= λ (n, s₁). ok (reference_of object_ref n, s₁)
        | false ↦ elim (eqb b (tag Kind.variable_reference)) [
          | true ↦ named_text l s >>= λ (n, s₁). ok (reference_of variable_ref n, s₁)
          | false ↦ scalar_behind b l s >>= λ (x, s₁). ok (scalar x, s₁)
        ]
      ]
    ]
  ]
]

unfoldable pub read_token : Reader Token
read_token l [] = refused 2 l
read_token l (b ∷ s) = token_behind b l s

-- what it tells, its tag standing at an index
abbrev pub token_told : (at : ℕ) → Told Token
token_told at (scalar x) next = scalar_told (at + 1) x next
token_told at (reference r) next = tell r.named 0 0 next
token_told at (opening h n) next = head_told (at + 1) (h.container, (h.spelling, n)) next
token_told at closing next = tell 0 0 0 next

-- ---- a plan as the list of its tokens, in the order of its bytes

abbrev pub key_scalar : Key → Scalar
key_scalar (int_key x) = int x
key_scalar (string_key q) = string q

abbrev mutual
  pub tokens : Value → List Token
  tokens (leaf x) = scalar x ∷ []
  tokens (ref r) = reference r ∷ []
  tokens (branch h ps) = opening h (count ps) ∷ tokens_in ps ++ (closing ∷ [])

  pub tokens_in : Values → List Token
  tokens_in none = []
  tokens_in (pair k v ps) = scalar (key_scalar k) ∷ tokens v ++ tokens_in ps

-- ---- their bytes, put before the bytes that follow

abbrev pub write_token : Token → List ℕ → List ℕ
write_token (scalar x) r = write_scalar x r
write_token (reference n) r = tag (ref_kind n.kind) ∷ byte ":" ∷ write_number n.spelling n.named (byte ";" ∷ r)
write_token (opening h n) r = write_container h.container (write_number h.spelling n (byte ":" ∷ byte "{" ∷ r))
write_token closing r = byte "}" ∷ r

abbrev pub write_tokens : List Token → List ℕ → List ℕ
write_tokens [] r = r
write_tokens (t ∷ ts) r = write_token t (write_tokens ts r)

abbrev pub canonical_token : Token → Token
canonical_token (scalar x) = scalar (canonical_scalar x)
canonical_token (reference r) = reference (canonical_reference r)
canonical_token (opening h n) = opening (canonical_head h) n
canonical_token closing = closing

abbrev pub raised_token : (k : ℕ) → Token → Token
raised_token k (scalar x) = scalar x
raised_token k (reference r) = reference (raised k r)
raised_token k (opening h n) = opening h n
raised_token k closing = closing

-- what reading asks of a token
abbrev pub TokenFits : Token → Type 0
TokenFits (scalar x) = ScalarFits x
TokenFits (reference r) = r.named ≤ number_limit
TokenFits (opening h n) = ContainerFits h.container × (n ≤ number_limit)
TokenFits closing = Unit {0}

abbrev pub AllFit : List Token → Type 0
AllFit [] = Unit {0}
AllFit (t ∷ ts) = TokenFits t × AllFit ts

-- ---- tokens and nodes: each token but a closing brace is the next node

-- the index of the next node behind a token, from its own on
abbrev pub node_behind : (node : ℕ) → Token → ℕ
node_behind i (scalar x) = suc i
node_behind i (reference r) = suc i
node_behind i (opening h n) = suc i
node_behind i closing = i

-- tokens, each changed by what the index of its node tells; a closing brace is told the next one's
abbrev pub at_nodes : (change : (node : ℕ) → Token → Token) → (node : ℕ) → List Token → List Token
at_nodes f i [] = []
at_nodes f i (t ∷ ts) = f i t ∷ at_nodes f (node_behind i t) ts

-- the tags of those that are nodes
abbrev pub node_tag : Token → List ℕ
node_tag (scalar x) = get_or (write_scalar x []) 0 0 ∷ []
node_tag (reference r) = tag (ref_kind r.kind) ∷ []
node_tag (opening h n) = get_or (write_container h.container []) 0 0 ∷ []
node_tag closing = []

abbrev pub node_tags : List Token → List ℕ
node_tags [] = []
node_tags (t ∷ ts) = node_tag t ++ node_tags ts

-- ---- what tokens count: the nodes, the containers that they open, and those that they close

abbrev pub opens : Token → ℕ
opens (scalar x) = 0
opens (reference r) = 0
opens (opening h n) = 1
opens closing = 0

abbrev pub closes : Token → ℕ
closes (scalar x) = 0
closes (reference r) = 0
closes (opening h n) = 0
closes closing = 1

-- r and R, in the order of their bytes
abbrev pub ReferenceTag : ℕ → Type 0
ReferenceTag b = (b ≡ tag Kind.variable_reference) ⊎ (b ≡ tag Kind.object_reference)

-- the same by a token's first byte
abbrev pub opens_of : (first : ℕ) → ℕ
opens_of b = one (is_tag_of (Kind.array ∷ Kind.object ∷ []) b)

abbrev pub closes_of : (first : ℕ) → ℕ
closes_of b = one (eqb b (byte "}"))

abbrev pub nodes_of : List Token → ℕ
nodes_of [] = 0
nodes_of (t ∷ ts) = (1 - closes t) + nodes_of ts

abbrev pub opened : List Token → ℕ
opened [] = 0
opened (t ∷ ts) = opens t + opened ts

abbrev pub closed : List Token → ℕ
closed [] = 0
closed (t ∷ ts) = closes t + closed ts
