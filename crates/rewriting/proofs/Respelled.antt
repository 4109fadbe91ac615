-- The text of a token that stands in the source, changed, is the changed token's. Assumes nothing.
use Prim.Native.Nat.{ℕ, zero, suc, ◌+◌, ◌-◌, ◌≤◌}
use native.Mathlib.Nat.{add-zero}
use native.Mathlib.Omega.{arith}
use mathlib.Core.Path.{◌≡◌, refl, sym, ap, ap₂, ◌∙◌, subst}
use mathlib.Core.List.{List, [], ◌∷◌, ◌++◌, append_assoc}
use mathlib.Core.Bool.{Bool, true, false}
use lib.ListN.{length, get_or, drop, length-append, length-drop}
use lib.Seq.{slice}
use Rattle.decimal.specs.Digits.{decimal, spelled}
use Rattle.decimal.specs.Complement.{pattern}
use Rattle.decimal.proofs.Numerals.{spelled-some}
use Rattle.decimal.proofs.Complements.{InBits, sign-back, magnitude-back}
use Rattle.format.specs.Bytes.{byte}
use Rattle.format.specs.Kind.{Kind, tag}
use Rattle.format.specs.Syntax.{null, bool, int, float, string, array, object, Spelling, Sign, unsigned, plus, minus, Literal, Quoted, Container, RefKind}
use Rattle.format.specs.Syntax.{object_ref, variable_ref, ref_kind, Reference, write_number, write_sign}
use Rattle.format.specs.Keys.{signed, integer}
use Rattle.format.specs.Limits.{number_limit, integer_limit}
use Rattle.format.specs.Table.{word}
use Rattle.format.specs.Canonical.{shortest, shortest_sign}
use Rattle.format.proofs.Fronts.{sign-front, number-front, number-length, number-adds, quoted_length}
use Rattle.scanner.specs.declared.Text.{Text}
use Rattle.rewriting.specs.Output.{with_sign, signed_digits}
use Rattle.rewriting.specs.Shortest.{numbered_text, shortest_by, shortest_text, QuotedBounds, Bounds}
use Rattle.tokens.specs.Tokens.{Token, scalar, reference, opening, closing, ReferenceTag, write_token, canonical_token}
use Rattle.rewriting.specs.Rewriting.{Named, is_renumbered, new_number, renumbered_text, respelled_text, renumbered, renumbered_token, changed_token}
use Rattle.rewriting.specs.declared.rewrite.Change.{Change}
use Rattle.rewriting.specs.declared.splice.Renumbering.{Renumbering}
use Rattle.rewriting.proofs.Spelled.{spelled-moved, spelled_kept, spelled-other}
use Rattle.tokens.proofs.Tagged.{Refers, tagged}
use Rattle.rewriting.proofs.Outputs.{slice_of}
use Rattle.tokens.proofs.TokenLaws.{token-front, token-some}
use Rattle.tokens.proofs.Standing.{Stands, first_byte}

-- ---- integers

digits-back : (negative : Bool) (n : ℕ) → InBits 64 negative n → signed_digits (pattern 64 negative n) ≡ with_sign negative (decimal n)
unfolding signed_digits
digits-back negative n h = ap₂ (λ (b : Bool) (m : ℕ). with_sign b (decimal m)) (sign-back 64 negative n h) (magnitude-back 64 negative n h)

-- the digits of an integer's word are its canonical ones
signed-digits : (g : Sign) (n : ℕ) (r : List ℕ) → n ≤ integer_limit g → signed_digits (word (signed g n)) ++ r ≡ write_sign (shortest_sign g n) (decimal n ++ r)
signed-digits unsigned n r h = ap (λ (l : List ℕ). l ++ r) (digits-back false n (omega arith))
signed-digits plus n r h = ap (λ (l : List ℕ). l ++ r) (digits-back false n (omega arith))
signed-digits minus zero r h = ap (λ (l : List ℕ). l ++ r) (digits-back false 0 (omega arith))
signed-digits minus (suc n) r h = ap (λ (l : List ℕ). l ++ r) (digits-back true (suc n) (omega arith))

-- ---- parts of a token's text

module _ (s : List ℕ) (at : ℕ) where
  -- a tag and its colon
  front : (b : ℕ) (r : List ℕ) → drop at s ≡ b ∷ 58 ∷ r → slice at (at + 2) s ≡ b ∷ 58 ∷ []
  front b r e = slice_of s at [] (b ∷ 58 ∷ []) r e at (at + 2) (sym (add-zero at)) refl

  -- a number m in the place of the n between a tag and a tail
  numbered_is : (b : ℕ) (w : Spelling) (n m : ℕ) (tail r : List ℕ) → drop at s ≡ b ∷ 58 ∷ write_number w n (tail ++ r) → (from to : ℕ)
      → from ≡ at + 2 + length (write_number w n []) → to ≡ from + length tail
      → numbered_text s at m from to ≡ b ∷ 58 ∷ write_number shortest m tail
  numbered_is b w n m tail r e from to f g =
      ap₂ ◌++◌ (front b (write_number w n (tail ++ r)) e)
      (ap (λ (l : List ℕ). decimal m ++ l) (slice_of s at (b ∷ 58 ∷ write_number w n []) tail r split from to (omega arith) g))
    where
      split : drop at s ≡ (b ∷ 58 ∷ write_number w n []) ++ (tail ++ r)
      split = e ∙ ap {B = List ℕ} (λ y. b ∷ 58 ∷ y) (number-front w n [] (tail ++ r))

  -- a token that stands there
  module _ (t : Token) (next : ℕ) (e : drop at s ≡ write_token t (drop next s)) (h : next ≤ length s) where
    token-ends : next ≡ at + length (write_token t [])
    token-ends = omega (
      arith,
      token-some t [],
      h,
      length-drop at s,
      length-drop next s,
      ap length (e ∙ token-front t [] (drop next s)),
      length-append (write_token t []) (drop next s),
    )

    pub token-bytes : slice at next s ≡ write_token t []
    token-bytes = slice_of s at [] (write_token t []) (drop next s) (e ∙ token-front t [] (drop next s)) at next (sym (add-zero at)) token-ends

  module _ (x : Text) (t : Token) (st : Stands s at t x) where
    -- where the token ends
    ends : x.next ≡ at + length (write_token t [])
    ends = token-ends t x.next st.written st.inside

    -- all of it
    pub whole : slice at x.next s ≡ write_token t []
    whole = token-bytes t x.next st.written st.inside

-- ---- each kind of token

module _ (s : List ℕ) (at : ℕ) (x : Text) where
  -- the tag decides
  by-tag : (b : ℕ) (r t : List ℕ) → drop at s ≡ b ∷ r → shortest_by b s at x ≡ t → shortest_text s at x ≡ t
  unfolding shortest_text
  by-tag b r t e f = ap (λ (k : ℕ). shortest_by k s at x) (first_byte s at b r e) ∙ f

  respelled-int : (i : Literal) → Stands s at (scalar (int i)) x → shortest_text s at x ≡ write_token (canonical_token (scalar (int i))) []
  respelled-int i st =
      let ds : List ℕ = write_sign i.sign (spelled i.zeros i.magnitude) in
      let e : drop at s ≡ 105 ∷ 58 ∷ ds ++ (59 ∷ drop x.next s) =
      st.written ∙ ap {B = List ℕ} (λ y. 105 ∷ 58 ∷ y) (sign-front i.sign (spelled i.zeros i.magnitude) (59 ∷ drop x.next s)) in
      let n : x.next ≡ at + 2 + length ds + 1 =
      omega (arith, st.inside, length-drop at s, length-drop x.next s, ap length e, length-append ds (59 ∷ drop x.next s)) in
      by-tag 105 _ _ e (
      ap₂ ◌++◌ (front s at 105 _ e) (
      ap (λ (c : ℕ). signed_digits c ++ slice (x.next - 1) x.next s) (ap (λ (u : Text). u.content) st.tells)
      ∙ ap (λ (l : List ℕ). signed_digits (word (integer i)) ++ l)
      (slice_of s at (105 ∷ 58 ∷ ds) (59 ∷ []) (drop x.next s) e (x.next - 1) x.next (omega arith) (omega arith))
      ∙ signed-digits i.sign i.magnitude (59 ∷ []) st.fits
      )
      )

  respelled-string : (q : Quoted) → Stands s at (scalar (string q)) x → shortest_text s at x ≡ write_token (canonical_token (scalar (string q))) []
  respelled-string q st =
      let w : Spelling = q.spelling in
      let n : ℕ = length q.text in
      let tail : List ℕ = 58 ∷ 34 ∷ q.text ++ (34 ∷ 59 ∷ []) in
      let e : drop at s ≡ 115 ∷ 58 ∷ write_number w n (tail ++ drop x.next s) =
      st.written ∙ ap (λ (y : List ℕ). 115 ∷ 58 ∷ write_number w n (58 ∷ 34 ∷ y)) (sym (append_assoc q.text (34 ∷ 59 ∷ []) (drop x.next s))) in
      let c : x.content ≡ at + 1 + 3 + length (write_number w n []) = ap (λ (u : Text). u.content) st.tells in
      by-tag 115 _ _ e (
      ap (λ (k : ℕ). numbered_text s at k (x.content - 2) x.next) (ap (λ (u : Text). u.size) st.tells)
      ∙ numbered_is s at 115 w n n tail (drop x.next s) e (x.content - 2) x.next (omega arith)
      (omega (
        arith,
        number-adds w n (tail ++ drop x.next s),
        length-append tail (drop x.next s),
        st.inside,
        length-drop at s,
        length-drop x.next s,
        ap length e,
      ))
      )

  -- a number m in the place of the n before a tail that ends the token
  pub tail_of : (b : ℕ) (w : Spelling) (n m k : ℕ) (tail : List ℕ) → x.next ≤ length s → drop at s ≡ b ∷ 58 ∷ write_number w n (tail ++ drop x.next s)
      → k ≡ length tail
      → numbered_text s at m (x.next - k) x.next ≡ b ∷ 58 ∷ write_number shortest m tail
  tail_of b w n m k tail h e f =
      let z : x.next ≡ at + 2 + length (write_number w n []) + length tail = omega (
        arith,
        h,
        length-drop at s,
        length-drop x.next s,
        ap length e,
        number-adds w n (tail ++ drop x.next s),
        length-append tail (drop x.next s),
      ) in
      numbered_is s at b w n m tail (drop x.next s) e (x.next - k) x.next (omega arith) (omega arith)

  respelled-array : (w : Spelling) (n : ℕ) → Stands s at (opening (record { container = array; spelling = w }) n) x
      → shortest_text s at x ≡ write_token (canonical_token (opening (record { container = array; spelling = w }) n)) []
  respelled-array w n st =
      by-tag 97 _ _ st.written (
      ap (λ (k : ℕ). numbered_text s at k (x.next - 2) x.next) (ap (λ (u : Text). u.link) st.tells)
      ∙ tail_of 97 w n n 2 (58 ∷ 123 ∷ []) st.inside st.written refl
      )

  respelled-reference : (k : RefKind) (w : Spelling) (n : ℕ) → Stands s at (reference (record { kind = k; spelling = w; named = n })) x
      → shortest_text s at x ≡ write_token (canonical_token (reference (record { kind = k; spelling = w; named = n }))) []
  respelled-reference k w n st = by-tag (tag (ref_kind k)) _ _ st.written (referred k ∙ named)
    where
      referred : (k : RefKind) → shortest_by (tag (ref_kind k)) s at x ≡ numbered_text s at x.content (x.next - 1) x.next
      referred object_ref = refl
      referred variable_ref = refl

      named : numbered_text s at x.content (x.next - 1) x.next ≡ write_token (canonical_token (reference (record { kind = k; spelling = w; named = n }))) []
      named =
          ap (λ (c : ℕ). numbered_text s at c (x.next - 1) x.next) (ap (λ (u : Text). u.content) st.tells)
          ∙ tail_of (tag (ref_kind k)) w n n 1 (59 ∷ []) st.inside st.written refl

  respelled-object : (q : Quoted) (v : Spelling) (n : ℕ) → Stands s at (opening (record { container = object q; spelling = v }) n) x
      → shortest_text s at x ≡ write_token (canonical_token (opening (record { container = object q; spelling = v }) n)) []
  respelled-object q v n st =
      let w : Spelling = q.spelling in
      let m : ℕ = length q.text in
      let r : List ℕ = drop x.next s in
      let rest : List ℕ = write_number v n (58 ∷ 123 ∷ r) in
      let tail : List ℕ = 58 ∷ 34 ∷ q.text ++ (34 ∷ 58 ∷ []) in
      let before : List ℕ = write_number w m tail ++ write_number v n [] in
      let e : drop at s ≡ 79 ∷ 58 ∷ write_number w m (tail ++ rest) =
      st.written ∙ ap (λ (y : List ℕ). 79 ∷ 58 ∷ write_number w m (58 ∷ 34 ∷ y)) (sym (append_assoc q.text (34 ∷ 58 ∷ []) rest)) in
      let f : drop at s ≡ (79 ∷ 58 ∷ before) ++ (58 ∷ 123 ∷ r) =
      e ∙ ap {B = List ℕ} (λ y. 79 ∷ 58 ∷ y)
      (number-front w m tail rest ∙ ap (λ (y : List ℕ). write_number w m tail ++ y) (number-front v n [] (58 ∷ 123 ∷ r))
      ∙ sym (append_assoc (write_number w m tail) (write_number v n []) (58 ∷ 123 ∷ r))) in
      let len : x.next ≡ at + 2 + length before + 2 =
      omega (arith, st.inside, length-drop at s, length-drop x.next s, ap length f, length-append before (58 ∷ 123 ∷ r)) in
      let c : x.content ≡ at + 1 + 3 + length (write_number w m []) = ap (λ (u : Text). u.content) st.tells in
      let z : x.size ≡ m = ap (λ (u : Text). u.size) st.tells in
      let named : numbered_text s at m (x.content - 2) (x.content + x.size + 2) ≡ 79 ∷ 58 ∷ write_number shortest m tail
      = numbered_is s at 79 w m m tail rest e (x.content - 2) (x.content + x.size + 2) (omega arith)
      (omega (arith, length-append q.text (34 ∷ 58 ∷ []))) in
      let brace : slice (x.next - 2) x.next s ≡ 58 ∷ 123 ∷ [] =
      slice_of s at (79 ∷ 58 ∷ before) (58 ∷ 123 ∷ []) r f (x.next - 2) x.next (omega arith) (omega arith) in
      by-tag 79 _ _ st.written (
      ap₂ ◌++◌ (ap (λ (k : ℕ). numbered_text s at k (x.content - 2) (x.content + x.size + 2)) z ∙ named)
      (ap₂ (λ (k : ℕ) (l : List ℕ). decimal k ++ l) (ap (λ (u : Text). u.link) st.tells) brace)
      ∙ ap {B = List ℕ} (λ y. 79 ∷ 58 ∷ y) (sym (number-front shortest m tail (decimal n ++ (58 ∷ 123 ∷ [])))
      ∙ ap (λ (y : List ℕ). write_number shortest m (58 ∷ 34 ∷ y)) (append_assoc q.text (34 ∷ 58 ∷ []) (decimal n ++ (58 ∷ 123 ∷ []))))
      )

  respelled-opening : (c : Container) (w : Spelling) (n : ℕ) → Stands s at (opening (record { container = c; spelling = w }) n) x
      → shortest_text s at x ≡ write_token (canonical_token (opening (record { container = c; spelling = w }) n)) []
  respelled-opening array w n st = respelled-array w n st
  respelled-opening (object q) w n st = respelled-object q w n st

  -- THE SHORTEST TEXT IS CANONICAL
  pub respelled : (t : Token) → Stands s at t x → shortest_text s at x ≡ write_token (canonical_token t) []
  respelled (scalar null) st = by-tag 78 _ _ st.written (whole s at x (scalar null) st)
  respelled (scalar (bool b)) st = by-tag 98 _ _ st.written (whole s at x (scalar (bool b)) st)
  respelled (scalar (int i)) st = respelled-int i st
  respelled (scalar (float f)) st = by-tag 100 _ _ st.written (whole s at x (scalar (float f)) st)
  respelled (scalar (string q)) st = respelled-string q st
  respelled (reference r) st = respelled-reference r.kind r.spelling r.named st
  respelled (opening h n) st = respelled-opening h.container h.spelling n st
  respelled closing st = by-tag 125 _ _ st.written (whole s at x closing st)

module _ (s : List ℕ) (at : ℕ) (x : Text) where
  -- the first byte of what stands there is the token's
  pub first_of : (t : Token) → Stands s at t x → get_or s at 0 ≡ (tagged t (drop x.next s)).byte
  first_of t st = let g = tagged t (drop x.next s) in first_byte s at g.byte g.behind (st.written ∙ g.is)

  named_bound : (t : Token) → Stands s at t x → Refers t → x.content ≤ number_limit
  named_bound (scalar y) st e = absurd e
  named_bound (reference r) st e = omega (arith, st.fits, ap (λ (u : Text). u.content) st.tells)
  named_bound (opening h n) st e = absurd e
  named_bound closing st e = absurd e

  pub named : (t : Token) → Stands s at t x → Named s at x
  named t st o = named_bound t st ((tagged t (drop x.next s)).refers (subst ReferenceTag (first_of t st) o))

-- ---- renumbered

module _ (m : Renumbering) (r : Reference) where
  pub renumbered-by : (b : Bool) → is_renumbered m r.named ≡ b
      → renumbered m r ≡ elim b [ true ↦ record { kind = r.kind; spelling = shortest; named = new_number m r.named } | false ↦ r ]
  renumbered-by b e = rw (e, renumbered)

module _ (m : Renumbering) (s : List ℕ) (at : ℕ) (x : Text) where
  renumbered-reference : (r : Reference) → Stands s at (reference r) x → ReferenceTag (get_or s at 0)
      → renumbered_text m s at x ≡ write_token (renumbered_token m (reference r)) []
  renumbered-reference r st o = by (is_renumbered m r.named) refl
    where
      named : x.content ≡ r.named
      named = ap (λ (u : Text). u.content) st.tells

      by : (b : Bool) → is_renumbered m r.named ≡ b → renumbered_text m s at x ≡ write_token (renumbered_token m (reference r)) []
      by false e =
          spelled_kept m s at x o (ap (is_renumbered m) named ∙ e) ∙ whole s at x (reference r) st
          ∙ ap (λ (q : Reference). write_token (reference q) []) (sym (renumbered-by m r false e))
      by true e =
          spelled-moved m s at x o (ap (is_renumbered m) named ∙ e)
          ∙ ap (λ (n : ℕ). numbered_text s at (new_number m n) (x.next - 1) x.next) named
          ∙ tail_of s at x (tag (ref_kind r.kind)) r.spelling r.named (new_number m r.named) 1 (59 ∷ []) st.inside st.written refl
          ∙ ap (λ (q : Reference). write_token (reference q) []) (sym (renumbered-by m r true e))

  other : (t : Token) → Stands s at t x → (Refers t → ⊥) → renumbered_text m s at x ≡ write_token t []
  other t st n = spelled-other m s at x (λ o. n ((tagged t (drop x.next s)).refers (subst ReferenceTag (first_of s at x t st) o))) ∙ whole s at x t st

  -- A REFERENCE RENUMBERED, ALL ELSE AS IT STANDS
  pub renumbered-is : (t : Token) → Stands s at t x → renumbered_text m s at x ≡ write_token (renumbered_token m t) []
  renumbered-is (scalar y) st = other (scalar y) st (λ e. e)
  renumbered-is (reference r) st =
      renumbered-reference r st (subst ReferenceTag (sym (first_of s at x (reference r) st)) ((tagged (reference r) (drop x.next s)).referred tt))
  renumbered-is (opening h n) st = other (opening h n) st (λ e. e)
  renumbered-is closing st = other closing st (λ e. e)

-- what is written of a token is the changed token
pub changed-is : (c : Change) (g : ℕ) (s : List ℕ) (at : ℕ) (x : Text) (t : Token) → Stands s at t x
    → respelled_text c g s at x ≡ write_token (changed_token c g t) []
changed-is Change.Canonical g s at x t st = respelled s at x t st
changed-is (Change.Renumber m) g s at x t st = renumbered-is m s at x t st

-- ---- what is copied stands in the source

module _ (s : List ℕ) (at : ℕ) (x : Text) where
  bounded : (t : Token) → Stands s at t x → (b : ℕ) (r : List ℕ) → drop at s ≡ b ∷ r → ((b ≡ byte "}" → ⊥) → 2 ≤ length (write_token t []))
      → (b ≡ tag Kind.int → 4 ≤ length (write_token t [])) → (b ≡ tag Kind.string → QuotedBounds at x) → (b ≡ tag Kind.object → QuotedBounds at x)
      → Bounds s at x
  bounded t st b r e more num str obj =
      let tagged : get_or s at 0 ≡ b = first_byte s at b r e in
      let next : x.next ≡ at + length (write_token t []) = ends s at x t st in
      record {
        on = omega (arith, token-some t []);
        inside = st.inside;
        more = λ n. omega (arith, more (λ i. n (tagged ∙ i)));
        int = λ i. omega (arith, num (sym tagged ∙ i));
        string = λ i. str (sym tagged ∙ i);
        object = λ i. obj (sym tagged ∙ i);
      }

  -- a token without quotes, whose tag is known
  plain : (t : Token) → Stands s at t x → (b : ℕ) (r : List ℕ) → drop at s ≡ b ∷ r → 2 ≤ length (write_token t []) → (b ≡ tag Kind.int → ⊥)
      → (b ≡ tag Kind.string → ⊥) → (b ≡ tag Kind.object → ⊥) → Bounds s at x
  plain t st b r e h m n o = bounded t st b r e (λ i. h) (λ i. absurd (m i)) (λ i. absurd (n i)) (λ i. absurd (o i))

  -- a sign or none, a digit or more, and the semicolon
  int-length : (i : Literal) → 4 ≤ length (write_token (scalar (int i)) [])
  int-length i =
      omega (
        arith,
        ap length (sign-front i.sign (spelled i.zeros i.magnitude) (59 ∷ [])),
        length-append (write_sign i.sign (spelled i.zeros i.magnitude)) (59 ∷ []),
        signed i.sign,
      )
    where
      signed : (g : Sign) → 1 ≤ length (write_sign g (spelled i.zeros i.magnitude))
      signed unsigned = omega (arith, spelled-some i.zeros i.magnitude)
      signed plus = omega arith
      signed minus = omega arith

  string-bounds : (q : Quoted) → Stands s at (scalar (string q)) x → QuotedBounds at x
  string-bounds q st =
      let c : x.content ≡ at + 1 + 3 + length (write_number q.spelling (length q.text) []) = ap (λ (u : Text). u.content) st.tells in
      let z : x.size ≡ length q.text = ap (λ (u : Text). u.size) st.tells in
      record {
        from = omega arith;
        to = omega (arith, ends s at x (scalar (string q)) st, quoted_length q (59 ∷ []), number-length q.spelling (length q.text) []);
      }

  object-bounds : (q : Quoted) (v : Spelling) (n : ℕ) → Stands s at (opening (record { container = object q; spelling = v }) n) x → QuotedBounds at x
  object-bounds q v n st =
      let c : x.content ≡ at + 1 + 3 + length (write_number q.spelling (length q.text) []) = ap (λ (u : Text). u.content) st.tells in
      let z : x.size ≡ length q.text = ap (λ (u : Text). u.size) st.tells in
      record {
        from = omega arith;
        to = omega (
          arith,
          ends s at x (opening (record { container = object q; spelling = v }) n) st,
          quoted_length q (58 ∷ write_number v n (58 ∷ 123 ∷ [])),
          number-length q.spelling (length q.text) [],
        );
      }

  opening-bounds : (c : Container) (w : Spelling) (n : ℕ) → Stands s at (opening (record { container = c; spelling = w }) n) x → Bounds s at x
  opening-bounds array w n st =
      plain (opening (record { container = array; spelling = w }) n) st 97 _ st.written (omega arith) (λ i. omega (arith, i)) (λ i. omega (arith, i))
      (λ i. omega (arith, i))
  opening-bounds (object q) w n st =
      bounded (opening (record { container = object q; spelling = w }) n) st 79 _ st.written (λ i. omega arith) (λ i. absurd (omega (arith, i)))
      (λ i. absurd (omega (arith, i))) (λ i. object-bounds q w n st)

  reference-bounds : (k : RefKind) (w : Spelling) (n : ℕ) → Stands s at (reference (record { kind = k; spelling = w; named = n })) x → Bounds s at x
  reference-bounds object_ref w n st =
      plain (reference (record { kind = object_ref; spelling = w; named = n })) st 114 _ st.written (omega arith) (λ i. omega (arith, i))
      (λ i. omega (arith, i)) (λ i. omega (arith, i))
  reference-bounds variable_ref w n st =
      plain (reference (record { kind = variable_ref; spelling = w; named = n })) st 82 _ st.written (omega arith) (λ i. omega (arith, i))
      (λ i. omega (arith, i)) (λ i. omega (arith, i))

  pub bounds : (t : Token) → Stands s at t x → Bounds s at x
  bounds (scalar null) st = plain (scalar null) st 78 _ st.written (omega arith) (λ i. omega (arith, i)) (λ i. omega (arith, i)) (λ i. omega (arith, i))
  bounds (scalar (bool b)) st =
      plain (scalar (bool b)) st 98 _ st.written (omega arith) (λ i. omega (arith, i)) (λ i. omega (arith, i)) (λ i. omega (arith, i))
  bounds (scalar (int i)) st =
      bounded (scalar (int i)) st 105 _ st.written (λ n. omega arith) (λ n. int-length i) (λ n. absurd (omega (arith, n))) (λ n. absurd (omega (arith, n)))
  bounds (scalar (float f)) st =
      plain (scalar (float f)) st 100 _ st.written (omega arith) (λ i. omega (arith, i)) (λ i. omega (arith, i)) (λ i. omega (arith, i))
  bounds (scalar (string q)) st =
      bounded (scalar (string q)) st 115 _ st.written (λ i. omega arith) (λ i. absurd (omega (arith, i))) (λ i. string-bounds q st)
      (λ i. absurd (omega (arith, i)))
  bounds (reference r) st = reference-bounds r.kind r.spelling r.named st
  bounds (opening h n) st = opening-bounds h.container h.spelling n st
  bounds closing st =
      bounded closing st 125 _ st.written (λ n. absurd (n refl)) (λ i. absurd (omega (arith, i))) (λ i. absurd (omega (arith, i)))
      (λ i. absurd (omega (arith, i)))
