-- THE THEOREMS OF INSERTING AS A SERVICE, over the definitions that `insert` equals. Assumes nothing.
use Prim.Native.Nat.{ℕ, suc, ◌+◌}
use mathlib.Core.Path.{◌≡◌, refl, sym, ap, ap₂, ◌∙◌, subst}
use mathlib.Core.List.{List, [], ◌∷◌, ◌++◌, map, append_assoc}
use lib.Dec.{T}
use Rattle.format.specs.Bytes.{bytes}
use Rattle.format.specs.Tree.{count, nodes, ordinals}
use Rattle.format.specs.Syntax.{float, array, Head, own}
use Rattle.format.specs.Limits.{Terms}
use Rattle.format.specs.Answer.{ok}
use Rattle.format.specs.Reading.{terms_of, answer, table_after}
use Rattle.format.specs.Edit.{upto, count_shortest, new_ordinal, insert}
use Rattle.format.specs.Writing.{insert_bytes}
use Rattle.format.proofs.Floats.{no_semicolon, float-semicolon}
use Rattle.format.proofs.Results.{after-terms}
use Rattle.format.proofs.Unique.{accepted-exactly}
use Rattle.insertion.proofs.Inserting.{Inserted, inserted}
use Rattle.tokens.specs.Tokens.{Token, scalar, opening, closing, key_scalar, tokens, tokens_in, write_tokens, raised_token, TokenFits, AllFit, nodes_of}
use Rattle.tokens.proofs.TokenLaws.{tokens-write, tokens-fit}
use Rattle.placing.proofs.PairParts.{after}
use Rattle.placing.proofs.Sites.{site-tokens, parts}
use Rattle.placing.proofs.Gaps.{new-tokens}

-- "All other bytes are the old ones": the tokens of the plan given, and what becomes of each in the bytes written. They are the plan's own, so a reference
-- is one of them and no part of another. The head is that of the array asked for, and `middle` are its pairs before the place
pub record Kept {terms : Terms} {room : ℕ} {source : List ℕ} {node place : ℕ} {key value bytes : List ℕ}
    (i : Inserted terms room source node place key value bytes) : Type 0 where
  pub front : List Token
  pub head : Head
  pub middle : List Token
  pub back : List Token
  pub old-tokens : tokens i.old ≡ front ++ (opening head (count i.site.pairs) ∷ middle ++ back)
  pub is-array : head.container ≡ array
  pub old-bytes : source ≡ write_tokens (front ++ (opening head (count i.site.pairs) ∷ middle ++ back)) []
  pub new-bytes : bytes ≡ write_tokens (map (raised_token (new_ordinal i.site.path place i.old)) front
      ++ (opening (count_shortest head) (suc (count i.site.pairs))
      ∷ map (raised_token (new_ordinal i.site.path place i.old)) middle
      ++ (scalar (key_scalar i.k) ∷ scalar i.x ∷ map (raised_token (new_ordinal i.site.path place i.old)) back))) []
  pub before : nodes_of front ≡ node
  pub pairs : middle ≡ tokens_in (upto place i.site.pairs)

-- DEMAND 3, "Inserting a pair gives a plan that, read afresh, means the old one with that pair at that place, every old reference still naming the value it
-- named. All other bytes are the old ones."
pub record Preserved (room : ℕ) (t source : List ℕ) (node place : ℕ) (key value bytes : List ℕ) : Type 0 where
  -- the bytes are an accepted plan, with that meaning and those numbers
  pub plan : Inserted (terms_of t) room source node place key value bytes
  -- "the old ones with three changes"
  pub bytes-kept : Kept plan
  -- "Fresh reading, into the table that reading the old plan left, returns two nodes and one number more."
  pub fresh : answer (terms_of (table_after (terms_of t) source t)) bytes ≡ ok (record { nodes = nodes plan.old + 2; ordinals = suc (ordinals own plan.old) })

kept : {terms : Terms} {room : ℕ} {source : List ℕ} {node place : ℕ} {key value bytes : List ℕ} (i : Inserted terms room source node place key value bytes) → Kept i
kept {node = node} {place} i =
    let st = site-tokens i.at in
    let earlier : List Token = tokens_in (upto place i.site.pairs) in
    let later : List Token = tokens_in (after place i.site.pairs) in
    let split : tokens i.old ≡ st.front ++ (opening st.head (count i.site.pairs) ∷ earlier ++ (later ++ (closing ∷ st.back))) =
    st.split
    ∙ ap (λ (l : List Token). st.front ++ (opening st.head (count i.site.pairs) ∷ l))
    (ap (λ (l : List Token). l ++ (closing ∷ st.back)) (parts place i.site.pairs) ∙ append_assoc earlier later (closing ∷ st.back)) in
    record {
      front = st.front;
      head = st.head;
      middle = earlier;
      back = later ++ (closing ∷ st.back);
      old-tokens = split;
      is-array = st.is-array;
      old-bytes = i.was.printed ∙ sym (tokens-write i.old []) ∙ ap (λ (l : List Token). write_tokens l []) split;
      new-bytes = i.text ∙ sym (tokens-write (insert i.site.path place i.k i.x i.old) [])
          ∙ ap (λ (l : List Token). write_tokens l []) (new-tokens i.old node i.site i.at place i.k i.x);
      before = st.nodes;
      pairs = refl;
    }

pub demand_3 : (room : ℕ) (t source : List ℕ) (node place : ℕ) (key value bytes : List ℕ)
    → insert_bytes (terms_of t) room source node place key value ≡ ok bytes → Preserved room t source node place key value bytes
unfolding answer
demand_3 room t source node place key value bytes e =
    let i = inserted (terms_of t) room source node place key value bytes e in
    record {
      plan = i;
      bytes-kept = kept i;
      fresh = ap (λ (c : Terms). answer c bytes) (after-terms source t) ∙ rw ((accepted-exactly (terms_of t) bytes _).1 i.plan)
          (ap₂ (λ (a b : ℕ). ok (record { nodes = a; ordinals = b })) i.nodes-more i.ordinals-more);
    }

-- ---- the tokens that are kept fit: a reference cannot hide in one of them

fit_at : (xs : List Token) (t : Token) (ys : List Token) → AllFit (xs ++ (t ∷ ys)) → TokenFits t
fit_at [] t ys f = f.0
fit_at (x ∷ xs) t ys f = fit_at xs t ys f.1

module _ {terms : Terms} {room : ℕ} {source : List ℕ} {node place : ℕ} {key value written : List ℕ}
    {i : Inserted terms room source node place key value written} (k : Kept i) where
  abbrev kept_tokens : List Token
  kept_tokens = k.front ++ (opening k.head (count i.site.pairs) ∷ k.middle ++ k.back)

  pub kept-fit : AllFit kept_tokens
  kept-fit = subst AllFit k.old-tokens (tokens-fit i.old i.was.fits.valid.sound i.was.fits.valid.limited)

  -- a float's text has no `;`
  pub kept-float : (before behind : List Token) (t : List ℕ) → kept_tokens ≡ before ++ (scalar (float t) ∷ behind) → T (no_semicolon t)
  kept-float before behind t e = float-semicolon t (fit_at before (scalar (float t)) behind (subst AllFit e kept-fit))

  -- so `d:1;i:1;R:3;` is never kept as one float, which would keep its reference as it is
  pub no_hidden_reference : (before behind : List Token) → kept_tokens ≡ before ++ (scalar (float (bytes "1;i:1;R:3")) ∷ behind) → ⊥
  no_hidden_reference before behind e = kept-float before behind (bytes "1;i:1;R:3") e
