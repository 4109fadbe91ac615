-- How long an edited text can be: no longer than an index can say. Assumes nothing.
use Prim.Native.Nat.{ℕ, suc, ◌+◌, ◌-◌, ◌*◌, ◌/◌, ◌%◌, ◌≤◌, ◌<◌}
use native.Mathlib.Omega.{arith}
use mathlib.Core.Path.{◌≡◌, refl, ap, ◌∙◌}
use mathlib.Core.Logic.{◌⊎◌, inl, inr, ⊎_elim}
use mathlib.Core.Bool.{Bool, true, false}
use mathlib.Core.List.{List, [], ◌∷◌, ◌++◌}
use lib.ListN.{length, drop, length-append, length-drop}
use lib.Seq.{slice, length-slice}
use Rattle.decimal.specs.Digits.{decimal}
use Rattle.decimal.proofs.Decide.{Order, below, above, order}
use Rattle.decimal.proofs.Numerals.{decimal-large, decimal-length, decimal-some, by-tens}
use Rattle.format.specs.Syntax.{Reference}
use Rattle.format.specs.Limits.{number_limit, source_limit}
use Rattle.format.specs.Table.{word_at, tag_word}
use Rattle.format.specs.Canonical.{shortest}
use Rattle.format.proofs.Fronts.{number-length}
use Rattle.format.proofs.NormalForm.{number_shorter, scalar_shorter, container_shorter}
use Rattle.tokens.specs.Tokens.{Token, scalar, reference, opening, closing, write_token, write_tokens, canonical_token, TokenFits, AllFit, node_behind}
use Rattle.tokens.specs.Between.{tokens_between, Stretch}
use Rattle.tokens.proofs.TokenLaws.{token-front, tokens-front}
use Rattle.tokens.proofs.Stretches.{Prefix, between-prefix, between_stretch}
use Rattle.rewriting.specs.declared.rewrite.Change.{Change}
use Rattle.rewriting.specs.declared.splice.Renumbering.{Renumbering}
use Rattle.rewriting.specs.declared.splice.Splice.{Splice}
use Rattle.rewriting.specs.Rewriting.{is_renumbered, new_number, renumbered_token, changed_token, changed_text, rewritten_text}
use Rattle.rewriting.specs.Rewriting.{renumbered_between}
use Rattle.rewriting.specs.Edited.{canonical_text, spliced_head, spliced_text, stands, Parted}
use Rattle.rewriting.proofs.Respelled.{renumbered-by}
use Rattle.rewriting.proofs.Anywhere.{renumbered_anywhere}
use Rattle.rewriting.proofs.SplicedTexts.{Room, room_of}

-- ---- one token

-- the next number has at most one digit more
one_more : (n : ℕ) → length (decimal (suc n)) ≤ length (decimal n) + 1
one_more = by-tens (λ n. length (decimal (suc n)) ≤ length (decimal n) + 1)
    (λ n h. omega (arith, decimal-length 1 (suc n) (omega arith), decimal-some n))
    (λ n h ih. tens n h ih (order (n % 10) 9))
  where
    tens : (n : ℕ) → 10 ≤ n → length (decimal (suc (n / 10))) ≤ length (decimal (n / 10)) + 1 → Order (n % 10) 9
        → length (decimal (suc n)) ≤ length (decimal n) + 1
    tens n h ih o =
        let next : ℕ = suc n / 10 in
        omega (
          arith,
          ap length (decimal-large n h),
          length-append (decimal (n / 10)) ((48 + n % 10) ∷ []),
          ap length (decimal-large (suc n) (omega arith)),
          length-append (decimal next) ((48 + suc n % 10) ∷ []),
          by o,
        )
      where
        by : Order (n % 10) 9 → length (decimal (suc n / 10)) ≤ length (decimal (n / 10)) + 1
        by (below l) = let e : suc n / 10 ≡ n / 10 = omega arith in omega (arith, ap (λ (k : ℕ). length (decimal k)) e)
        by (above l) = let e : suc n / 10 ≡ suc (n / 10) = omega arith in omega (arith, ih, ap (λ (k : ℕ). length (decimal k)) e)

-- a lower number has no more digits
pub fewer : (m n : ℕ) → m ≤ n → length (decimal m) ≤ length (decimal n)
fewer m n = by-tens (λ (n : ℕ). (m : ℕ) → m ≤ n → length (decimal m) ≤ length (decimal n))
    (λ n h m i. omega (arith, decimal-length 0 m (omega arith), decimal-some n))
    (λ n h ih m i. tens n h ih m i (order m 10)) n m
  where
    tens : (n : ℕ) → 10 ≤ n → ((m : ℕ) → m ≤ n / 10 → length (decimal m) ≤ length (decimal (n / 10))) → (m : ℕ) → m ≤ n → Order m 10
        → length (decimal m) ≤ length (decimal n)
    tens n h ih m i (below l) = omega (arith, decimal-length 0 m (omega arith), decimal-some n)
    tens n h ih m i (above l) = omega (
      arith,
      ih (m / 10) (omega arith),
      ap length (decimal-large n h),
      length-append (decimal (n / 10)) ((48 + n % 10) ∷ []),
      ap length (decimal-large m l),
      length-append (decimal (m / 10)) ((48 + m % 10) ∷ []),
    )

canonical-most : (t : Token) → length (write_token (canonical_token t) []) ≤ length (write_token t [])
canonical-most (scalar x) = scalar_shorter x [] [] (omega arith)
canonical-most (reference r) = omega (arith, number_shorter r.spelling r.named (59 ∷ []) (59 ∷ []) (omega arith))
canonical-most (opening h n) = container_shorter h.container _ _ (number_shorter h.spelling n (58 ∷ 123 ∷ []) (58 ∷ 123 ∷ []) (omega arith))
canonical-most closing = omega arith

-- four times what a token that fits becomes at the most, by its bytes
record Grows (c : Change) (most : ℕ → ℕ) : Type 0 where
  adds : (m n : ℕ) → most (m + n) ≡ most m + most n
  token : (g : ℕ) (t : Token) → TokenFits t → 4 * length (write_token (changed_token c g t) []) ≤ most (length (write_token t []))

shrinks : Grows Change.Canonical (λ n. 4 * n)
shrinks = record { adds = λ m n. omega arith; token = λ g t f. omega (arith, canonical-most t) }

-- a reference's tag, its colon, its number and its semicolon
reference-length : (r : Reference) → 3 + length (decimal r.named) ≤ length (write_token (reference r) [])
reference-length r = omega (arith, number-length r.spelling r.named (59 ∷ []))

-- it stays, or has its new number in shortest form
renumbered-length : (m : Renumbering) (r : Reference) → (length (write_token (renumbered_token m (reference r)) []) ≡ length (write_token (reference r) []))
    ⊎ (length (write_token (renumbered_token m (reference r)) []) ≡ 3 + length (decimal (new_number m r.named)))
renumbered-length m r = by (is_renumbered m r.named) refl
  where
    by : (b : Bool) → is_renumbered m r.named ≡ b → (length (write_token (renumbered_token m (reference r)) []) ≡ length (write_token (reference r) []))
        ⊎ (length (write_token (renumbered_token m (reference r)) []) ≡ 3 + length (decimal (new_number m r.named)))
    by false e = inl (ap (λ (q : Reference). length (write_token (reference q) [])) (renumbered-by m r false e))
    by true e =
        inr (omega (
          arith,
          ap (λ (q : Reference). length (write_token (reference q) [])) (renumbered-by m r true e),
          number-length shortest (new_number m r.named) (59 ∷ []),
        ))

-- a reference has four bytes or more, and grows by one at the most where its number does
grows-by-one : (m : Renumbering) → m.up ≤ 1 → Grows (Change.Renumber m) (λ n. 5 * n)
grows-by-one m h = record { adds = λ a b. omega arith; token = λ g t f. token t f }
  where
    token : (t : Token) → TokenFits t → 4 * length (write_token (renumbered_token m t) []) ≤ 5 * length (write_token t [])
    token (scalar x) f = omega arith
    token (reference r) f =
        let n : ℕ = r.named in
        let some : 0 < length (decimal n) = decimal-some n in
        let higher : length (decimal (new_number m n)) ≤ length (decimal n) + 1 =
        omega (arith, fewer (new_number m n) (suc n) (omega (arith, h)), one_more n) in
        ⊎_elim (λ e. omega (arith, e)) (λ e. omega (arith, e, reference-length r, higher, some)) (renumbered-length m r)
    token (opening k n) f = omega arith
    token closing f = omega arith

-- and to nine bytes whatever its number becomes
grows-to_nine : (m : Renumbering) → m.up ≤ number_limit → Grows (Change.Renumber m) (λ n. 9 * n)
grows-to_nine m h = record { adds = λ a b. omega arith; token = λ g t f. token t f }
  where
    token : (t : Token) → TokenFits t → 4 * length (write_token (renumbered_token m t) []) ≤ 9 * length (write_token t [])
    token (scalar x) f = omega arith
    token (reference r) f =
        let n : ℕ = r.named in
        let some : 0 < length (decimal n) = decimal-some n in
        let six : length (decimal (new_number m n)) ≤ 6 = decimal-length 5 (new_number m n) (omega (arith, h, f)) in
        ⊎_elim (λ e. omega (arith, e)) (λ e. omega (arith, e, reference-length r, six, some)) (renumbered-length m r)
    token (opening k n) f = omega arith
    token closing f = omega arith

-- ---- tokens

stretch_length : {s : List ℕ} {from to : ℕ} (g : Stretch s from to) → length s - from ≡ length (write_tokens g.tokens []) + (length s - to)
stretch_length {s} {from} {to} g = omega (
  arith,
  ap length (g.text ∙ tokens-front g.tokens (drop to s)),
  length-append (write_tokens g.tokens []) (drop to s),
  length-drop from s,
  length-drop to s,
)

module _ {c : Change} {most : ℕ → ℕ} (g : Grows c most) (t : List ℕ) where
  tokens-most : (i : ℕ) (ts : List Token) → AllFit ts → 4 * length (changed_text c t i ts) ≤ most (length (write_tokens ts []))
  tokens-most i [] f = omega arith
  tokens-most i (u ∷ us) f =
      let old : ℕ = length (write_token u []) in
      let olds : ℕ = length (write_tokens us []) in
      let new : Token = changed_token c (word_at t i tag_word) u in
      let news : List ℕ = changed_text c t (node_behind i u) us in
      omega (
        arith,
        tokens-most (node_behind i u) us f.1,
        g.token (word_at t i tag_word) u f.0,
        ap most (ap length (token-front u [] (write_tokens us [])) ∙ length-append (write_token u []) (write_tokens us [])),
        g.adds old olds,
        ap length (token-front new [] news),
        length-append (write_token new []) news,
      )

  -- what stands between two indices, whatever it is
  between-most : (i : ℕ) (s : List ℕ) (from to : ℕ) → 4 * length (rewritten_text c t i s from to) ≤ most (length (write_tokens (tokens_between s from to) []))
  between-most i s from to = tokens-most i (tokens_between s from to) (between-prefix s from to).fit

  -- a stretch has as many bytes as it takes
  stretch_most : (i : ℕ) {s : List ℕ} {from to : ℕ} → Stretch s from to → 4 * length (rewritten_text c t i s from to) ≤ most (to - from)
  stretch_most i {s} {from} {to} a =
      let size : length (write_tokens (tokens_between s from to) []) ≡ to - from =
      omega (arith, ap (λ (ts : List Token). length (write_tokens ts [])) (between_stretch a), stretch_length a, a.inside) in
      omega (arith, between-most i s from to, ap most size)

between-length : (s : List ℕ) (from to : ℕ) → length (write_tokens (tokens_between s from to) []) ≤ length s
between-length s from to =
    let g : Prefix (drop from s) (tokens_between s from to) = between-prefix s from to in
    let ts : List Token = tokens_between s from to in
    omega (arith, ap length (g.text ∙ tokens-front ts g.rest), length-append (write_tokens ts []) g.rest, length-drop from s)

-- ---- an edit

module _ (s key value : List ℕ) (p : Splice) where
  abbrev m : Renumbering
  m = p.renumbering

  abbrev front : List ℕ
  front = renumbered_between m s 0 p.at

  abbrev middle : List ℕ
  middle = renumbered_between m s p.inside p.from

  abbrev back : List ℕ
  back = renumbered_between m s p.to (length s)

  spliced_length : length (spliced_text s key value p) ≡ length front + length (spliced_head s p) + length middle + length key + length value + length back
  spliced_length = omega (
    arith,
    length-append front (spliced_head s p ++ (middle ++ (key ++ (value ++ back)))),
    length-append (spliced_head s p) (middle ++ (key ++ (value ++ back))),
    length-append middle (key ++ (value ++ back)),
    length-append key (value ++ back),
    length-append value back,
  )

  -- the texts are part of it
  pub texts_inside : (length key ≤ length (spliced_text s key value p)) × (length value ≤ length (spliced_text s key value p))
  texts_inside = (omega (arith, spliced_length), omega (arith, spliced_length))

  module _ (e : stands (length s) p ≡ true) where
    abbrev room : Room (length s) p
    room = room_of (length s) p e

    head-most : length (spliced_head s p) ≤ 9
    head-most =
        omega (
          arith,
          room.some,
          room.long,
          decimal-length 4 p.count (omega (arith, room.low)),
          length-append (slice p.at (p.at + 2) s) (decimal p.count ++ slice (p.inside - 2) p.inside s),
          length-append (decimal p.count) (slice (p.inside - 2) p.inside s),
          length-slice p.at (p.at + 2) s (omega (arith, room.some, room.long, room.inside)),
          length-slice (p.inside - 2) p.inside s room.inside,
        )

    -- whatever the table says
    same : (from to : ℕ) → length (rewritten_text (Change.Renumber m) [] 0 s from to) ≡ length (renumbered_between m s from to)
    same from to = ap length (renumbered_anywhere m [] 0 s from to)

    -- whatever the indices
    spliced_most : 4 * length (spliced_text s key value p) ≤ 27 * length s + 4 * length key + 4 * length value + 36
    spliced_most =
        let grows = grows-to_nine m room.up in
        omega (
          arith,
          spliced_length,
          head-most,
          between-most grows [] 0 s 0 p.at,
          between-most grows [] 0 s p.inside p.from,
          between-most grows [] 0 s p.to (length s),
          same 0 p.at,
          same p.inside p.from,
          same p.to (length s),
          between-length s 0 p.at,
          between-length s p.inside p.from,
          between-length s p.to (length s),
        )

    pub spliced-index : length s ≤ source_limit → length key ≤ source_limit → length value ≤ source_limit → length (spliced_text s key value p) ≤ 1048576
    spliced-index h i j = omega (arith, spliced_most)

    -- between tokens, where no reference rises by more than one
    pub parted-most : Parted s p → m.up ≤ 1 → 4 * length (spliced_text s key value p) ≤ 5 * length s + 4 * length key + 4 * length value + 36
    parted-most g h =
        let grows = grows-by-one m h in
        omega (
          arith,
          spliced_length,
          head-most,
          stretch_most grows [] 0 g.front,
          stretch_most grows [] 0 g.middle,
          stretch_most grows [] 0 g.back,
          same 0 p.at,
          same p.inside p.from,
          same p.to (length s),
          room.long,
          room.inside,
          stretch_length g.middle,
          stretch_length g.left,
          g.middle.inside,
          g.left.inside,
        )

-- a canonical text is never longer than its source
pub canonical-text-most : (t s : List ℕ) → length (canonical_text t s) ≤ length s
canonical-text-most t s = omega (arith, between-most shrinks t 0 s 0 (length s), between-length s 0 (length s))
