-- Laws of tokens: a plan is its tokens, and each is read back. Assumes nothing.
use Prim.Native.Nat.{ℕ, ◌≤◌, ◌<◌}
use native.Mathlib.Omega.{arith}
use mathlib.Core.Path.{◌≡◌, refl, sym, ap, ap₂, ◌∙◌}
use mathlib.Core.List.{List, [], ◌∷◌, ◌++◌, map, map-append}
use lib.ListN.{length, length-append}
use Rattle.format.specs.Bytes.{byte}
use Rattle.format.specs.Kind.{tag}
use Rattle.format.specs.Tree.{leaf, ref, branch, none, pair, count}
use Rattle.format.specs.Syntax.{int_key, string_key, null, bool, int, float, string, array, object, Key, Scalar, Container, Spelling, RefKind, object_ref}
use Rattle.format.specs.Syntax.{variable_ref, ref_kind, Value, Values, write_number, write_key, write_container, write, write_pairs}
use Rattle.format.specs.Limits.{number_limit}
use Rattle.format.specs.Fits.{KeyFits, ScalarFits, Sound, SoundIn, Limited, LimitedIn}
use Rattle.format.specs.Answer.{ok}
use Rattle.format.specs.Canonical.{canonical_key, canonical_head, canonical}
use Rattle.format.proofs.Fronts.{number-front, scalar-front, container-front}
use Rattle.format.proofs.NormalForm.{canonical_pairs, count-canonical}
use Rattle.scanner.specs.Scans.{scalar_behind}
use Rattle.scanner.proofs.Printed.{named-printed, array-printed, object-printed, scalar_kind, scalar-tagged, scalar-printed, behind_tag}
use Rattle.tokens.specs.Tokens.{Token, scalar, reference, opening, closing, token_behind, read_token, key_scalar, tokens, tokens_in, write_token, write_tokens}
use Rattle.tokens.specs.Tokens.{canonical_token, TokenFits, AllFit}

-- ---- a plan is its tokens

pub tokens_append : (xs ys : List Token) (r : List ℕ) → write_tokens (xs ++ ys) r ≡ write_tokens xs (write_tokens ys r)
tokens_append [] ys r = refl
tokens_append (x ∷ xs) ys r = ap (write_token x) (tokens_append xs ys r)

pub key-written : (k : Key) (r : List ℕ) → write_token (scalar (key_scalar k)) r ≡ write_key k r
key-written (int_key x) r = refl
key-written (string_key q) r = refl

mutual
  unfolding write

  pub tokens-write : (v : Value) (r : List ℕ) → write_tokens (tokens v) r ≡ write v r
  tokens-write (leaf x) r = refl
  tokens-write (ref n) r = refl
  tokens-write (branch h ps) r = ap (write_token (opening h (count ps))) (tokens_append (tokens_in ps) (closing ∷ []) r ∙ tokens_in-write ps (byte "}" ∷ r))

  pub tokens_in-write : (ps : Values) (r : List ℕ) → write_tokens (tokens_in ps) r ≡ write_pairs ps r
  tokens_in-write none r = refl
  tokens_in-write (pair k v ps) r =
      ap (write_token (scalar (key_scalar k))) (tokens_append (tokens v) (tokens_in ps) r ∙ tokens-write v (write_tokens (tokens_in ps) r)
      ∙ ap (write v) (tokens_in-write ps r))
      ∙ key-written k (write v (write_pairs ps r))

-- ---- the tokens of canonical text are the canonical tokens

key-canonical : (k : Key) → scalar (key_scalar (canonical_key k)) ≡ canonical_token (scalar (key_scalar k))
key-canonical (int_key x) = refl
key-canonical (string_key q) = refl

mutual
  unfolding canonical

  pub tokens-canonical : (v : Value) → tokens (canonical v) ≡ map canonical_token (tokens v)
  tokens-canonical (leaf x) = refl
  tokens-canonical (ref r) = refl
  tokens-canonical (branch h ps) =
      ap₂ (λ (n : ℕ) (ts : List Token). opening (canonical_head h) n ∷ ts) (count-canonical ps)
      (ap (λ (ts : List Token). ts ++ (closing ∷ [])) (tokens_in-canonical ps) ∙ sym (map-append canonical_token (tokens_in ps) (closing ∷ [])))

  tokens_in-canonical : (ps : Values) → tokens_in (canonical_pairs ps) ≡ map canonical_token (tokens_in ps)
  tokens_in-canonical none = refl
  tokens_in-canonical (pair k v ps) =
      ap₂ {C = List Token} ◌∷◌ (key-canonical k) (ap₂ ◌++◌ (tokens-canonical v) (tokens_in-canonical ps)
      ∙ sym (map-append canonical_token (tokens v) (tokens_in ps)))

-- ---- the tokens of a valid plan fit

pub all_append : (xs ys : List Token) → AllFit xs → AllFit ys → AllFit (xs ++ ys)
all_append [] ys f g = g
all_append (x ∷ xs) ys f g = (f.0, all_append xs ys f.1 g)

key_fits : (k : Key) → KeyFits k → ScalarFits (key_scalar k)
key_fits (int_key x) f = f
key_fits (string_key q) f = f

mutual
  pub tokens-fit : (v : Value) → Sound v → Limited v → AllFit (tokens v)
  tokens-fit (leaf x) s l = (s, tt)
  tokens-fit (ref r) s l = (l, tt)
  tokens-fit (branch h ps) s l = ((s.0, l.0), all_append (tokens_in ps) (closing ∷ []) (tokens_in-fit h.container [] ps s.1 l.1) (tt, tt))

  tokens_in-fit : (c : Container) (earlier : List Key) (ps : Values) → SoundIn c earlier ps → LimitedIn ps → AllFit (tokens_in ps)
  tokens_in-fit c earlier none s l = tt
  tokens_in-fit c earlier (pair k v ps) s l =
      (key_fits k s.0, all_append (tokens v) (tokens_in ps) (tokens-fit v s.3 l.0) (tokens_in-fit c (k ∷ earlier) ps s.4 l.1))

-- ---- one token

pub token-front : (t : Token) (r s : List ℕ) → write_token t (r ++ s) ≡ write_token t r ++ s
token-front (scalar x) r s = scalar-front x r s
token-front (reference n) r s = ap {B = List ℕ} (λ y. tag (ref_kind n.kind) ∷ byte ":" ∷ y) (number-front n.spelling n.named (byte ";" ∷ r) s)
token-front (opening h n) r s =
    ap (write_container h.container) (number-front h.spelling n (byte ":" ∷ byte "{" ∷ r) s)
    ∙ container-front h.container (write_number h.spelling n (byte ":" ∷ byte "{" ∷ r)) s
token-front closing r s = refl

pub token-some : (t : Token) (r : List ℕ) → 0 < length (write_token t r)
token-some (scalar null) r = omega arith
token-some (scalar (bool b)) r = omega arith
token-some (scalar (int x)) r = omega arith
token-some (scalar (float f)) r = omega arith
token-some (scalar (string q)) r = omega arith
token-some (reference n) r = omega arith
token-some (opening h n) r = some h.container
  where
    some : (c : Container) → 0 < length (write_container c (write_number h.spelling n (byte ":" ∷ byte "{" ∷ r)))
    some array = omega arith
    some (object q) = omega arith
token-some closing r = omega arith

-- a token is longer than what follows it
pub token_longer : (t : Token) (r : List ℕ) → length r < length (write_token t r)
token_longer t r = omega (arith, ap length (token-front t [] r), length-append (write_token t []) r, token-some t [])

pub tokens_longer : (ts : List Token) (r : List ℕ) → length r ≤ length (write_tokens ts r)
tokens_longer [] r = omega arith
tokens_longer (t ∷ ts) r = omega (arith, tokens_longer ts r, token_longer t (write_tokens ts r))

pub tokens-front : (ts : List Token) (r : List ℕ) → write_tokens ts r ≡ write_tokens ts [] ++ r
tokens-front [] r = refl
tokens-front (t ∷ ts) r = ap (write_token t) (tokens-front ts r) ∙ token-front t (write_tokens ts []) r

-- a scalar's tag is no other token's
scalar-token : (x : Scalar) (l : ℕ) (s r : List ℕ) → scalar_behind (tag (scalar_kind x)) l s ≡ ok (x, r) → token_behind (tag (scalar_kind x)) l s ≡ ok (scalar x, r)
unfolding token_behind
scalar-token null l s r e = rw e
scalar-token (bool b) l s r e = rw e
scalar-token (int x) l s r e = rw e
scalar-token (float t) l s r e = rw e
scalar-token (string q) l s r e = rw e

opening-printed : (l : ℕ) (c : Container) (w : Spelling) (n : ℕ) (r : List ℕ) → TokenFits (opening (record { container = c; spelling = w }) n)
    → read_token l (write_token (opening (record { container = c; spelling = w }) n) r) ≡ ok (opening (record { container = c; spelling = w }) n, r)
unfolding read_token token_behind
opening-printed l array w n r f = rw (array-printed l w n r f.1)
opening-printed l (object q) w n r f = rw (object-printed l q w n r f.0 f.1)

reference-printed : (l : ℕ) (k : RefKind) (w : Spelling) (n : ℕ) (r : List ℕ) → n ≤ number_limit
    → read_token l (write_token (reference (record { kind = k; spelling = w; named = n })) r) ≡ ok (reference (record { kind = k; spelling = w; named = n }), r)
unfolding read_token token_behind
reference-printed l object_ref w n r f = rw (named-printed l w n r f)
reference-printed l variable_ref w n r f = rw (named-printed l w n r f)

-- A TOKEN THAT FITS IS READ BACK
pub token-printed : (l : ℕ) (t : Token) (r : List ℕ) → TokenFits t → read_token l (write_token t r) ≡ ok (t, r)
unfolding read_token token_behind
token-printed l (scalar x) r f = ap (read_token l) (scalar-tagged x r) ∙ scalar-token x l (behind_tag x r) r (scalar-printed l x r f)
token-printed l (reference n) r f = reference-printed l n.kind n.spelling n.named r f
token-printed l (opening h n) r f = opening-printed l h.container h.spelling n r f
token-printed l closing r f = refl
