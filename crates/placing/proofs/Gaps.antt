-- The array and the gap in the bytes of a plan, and the bytes with the pair in it. Assumes nothing.
use Prim.Native.Nat.{ℕ, suc, ◌+◌, ◌-◌, ◌≤◌}
use native.Mathlib.Numerals.{add-one}
use native.Mathlib.Omega.{arith}
use mathlib.Core.Path.{◌≡◌, refl, sym, ap, ap₂, ◌∙◌, subst}
use mathlib.Core.List.{List, [], ◌∷◌, ◌++◌, map, map-append, append_assoc}
use lib.ListN.{length, drop, length-append, length-drop, drop_of_length-le}
use lib.Seq.{drop_at}
use Rattle.format.specs.Bytes.{byte}
use Rattle.format.specs.Kind.{Kind, tag}
use Rattle.format.specs.Tree.{leaf, branch, count, nodes_in}
use Rattle.format.specs.Syntax.{array, Container, Key, Scalar, Head, Value, Values, write_key, write_scalar, write_number, write_container, write_pairs, print}
use Rattle.format.specs.Limits.{number_limit}
use Rattle.format.specs.Fits.{Valid}
use Rattle.format.specs.Answer.{refused}
use Rattle.format.specs.Canonical.{shortest}
use Rattle.format.specs.Edit.{put_pair, at_path, upto, count_shortest, new_ordinal, insert}
use Rattle.format.specs.Writing.{Site}
use Rattle.insertion.specs.Ways.{WayTo}
use Rattle.insertion.proofs.SiteRows.{site-valid, site-inside}
use Rattle.insertion.proofs.Sizes.{write_longer, count_most}
use Rattle.scanner.specs.declared.Text.{Text}
use Rattle.scanner.specs.Scans.{Found}
use Rattle.tokens.specs.Tokens.{Token, read_token, token_told, scalar, opening, closing, key_scalar, tokens, tokens_in, write_token, write_tokens, raised_token}
use Rattle.tokens.specs.Tokens.{AllFit}
use Rattle.tokens.proofs.TokenLaws.{tokens-write, tokens_in-write, tokens_append, all_append, tokens-fit, token-front, tokens-front, key-written}
use Rattle.tokens.proofs.Standing.{standing, never-unfit}
use Rattle.rewriting.specs.declared.splice.Renumbering.{Renumbering}
use Rattle.rewriting.specs.declared.splice.Splice.{Splice}
use Rattle.rewriting.specs.Rewriting.{raising, renumbered_bytes}
use Rattle.rewriting.proofs.Raised.{raised-tokens}
use Rattle.placing.specs.declared.pass.Passed.{Passed}
use Rattle.placing.specs.Passing.{Ahead, Reached}
use Rattle.placing.specs.Locating.{before, nothing, pairs_before, splice_of}
use Rattle.placing.specs.Placing.{HeadAhead, BehindHead, SpotAhead, SpotIs}
use Rattle.placing.proofs.PairParts.{after}
use Rattle.placing.proofs.SplicedTexts.{Splices, pieces}
use Rattle.placing.proofs.Sites.{SiteTokens, site-tokens, nodes-pairs, balanced-pairs, put_count, put-tokens, parts, tokens-raised}

pub fit-front : (xs ys : List Token) → AllFit (xs ++ ys) → AllFit xs
fit-front [] ys f = tt
fit-front (x ∷ xs) ys f = (f.0, fit-front xs ys f.1)

fit-back : (xs ys : List Token) → AllFit (xs ++ ys) → AllFit ys
fit-back [] ys f = f
fit-back (x ∷ xs) ys f = fit-back xs ys f.1

-- ---- a position, and what stands before and behind it

module _ {s : List ℕ} (front rest : List ℕ) (e : s ≡ front ++ rest) where
  pub behind : drop (length front) s ≡ rest
  behind = ap (drop (length front)) e ∙ drop_at front rest (length front) refl

  pub no_further : length front ≤ length s
  no_further = omega (arith, ap length e, length-append front rest)

  index_is : {i : ℕ} → drop i s ≡ rest → i ≤ length s → i ≡ length front
  index_is {i} d h = omega (arith, ap length e, length-append front rest, ap length d, length-drop i s)

same_spot : (p q : Splice) → p.at ≡ q.at → p.inside ≡ q.inside → p.from ≡ q.from → p.to ≡ q.to → p.count ≡ q.count
    → p.renumbering ≡ q.renumbering → p ≡ q
same_spot p q a b c d e f = λ i. record { at = a i; inside = b i; from = c i; to = d i; count = e i; renumbering = f i }

-- ---- where they stand

module _ (v : Value) (valid : Valid v) (node : ℕ) (site : Site) (way : WayTo v node site.path site.pairs) (place : ℕ) where
  abbrev qs : Values
  qs = site.pairs

  abbrev st : SiteTokens (tokens v) (λ g f. tokens (at_path g f site.path v)) (λ part. before part site.path v) node site.path qs
  st = site-tokens way

  -- behind the gap, behind the head, and from the head on
  abbrev rest : List Token
  rest = tokens_in (after place qs) ++ (closing ∷ st.back)

  abbrev from-gap : List ℕ
  from-gap = write_tokens rest []

  abbrev from-pairs : List ℕ
  from-pairs = write_tokens (tokens_in (upto place qs)) from-gap

  abbrev from-head : List ℕ
  from-head = tag Kind.array ∷ byte ":" ∷ write_number st.head.spelling (count qs) (byte ":" ∷ byte "{" ∷ from-pairs)

  array_head : (n : ℕ) (h : Head) (r : List ℕ) → h.container ≡ array
      → write_token (opening h n) r ≡ tag Kind.array ∷ byte ":" ∷ write_number h.spelling n (byte ":" ∷ byte "{" ∷ r)
  array_head n h r i = ap (λ (c : Container). write_container c (write_number h.spelling n (byte ":" ∷ byte "{" ∷ r))) i

  pairs-text : write_tokens (tokens_in qs ++ (closing ∷ st.back)) [] ≡ from-pairs
  pairs-text =
      tokens_append (tokens_in qs) (closing ∷ st.back) []
      ∙ ap (λ (l : List Token). write_tokens l (write_tokens (closing ∷ st.back) [])) (parts place qs)
      ∙ tokens_append (tokens_in (upto place qs)) (tokens_in (after place qs)) (write_tokens (closing ∷ st.back) [])
      ∙ ap (write_tokens (tokens_in (upto place qs))) (sym (tokens_append (tokens_in (after place qs)) (closing ∷ st.back) []))

  pub printed : print v ≡ write_tokens st.front from-head
  printed =
      sym (tokens-write v []) ∙ ap (λ (l : List Token). write_tokens l []) st.split
      ∙ tokens_append st.front (opening st.head (count qs) ∷ tokens_in qs ++ (closing ∷ st.back)) []
      ∙ ap (write_tokens st.front) (ap (write_token (opening st.head (count qs))) pairs-text ∙ array_head (count qs) st.head from-pairs st.is-array)

  pub all_fit : AllFit (st.front ++ (opening st.head (count qs) ∷ tokens_in qs ++ (closing ∷ st.back)))
  all_fit = subst AllFit st.split (tokens-fit v valid.sound valid.limited)

  pub pairs-fit : AllFit (tokens_in (upto place qs) ++ tokens_in (after place qs))
  pairs-fit = subst AllFit (parts place qs) (fit-front (tokens_in qs) (closing ∷ st.back) (fit-back st.front _ all_fit).1)

  pub rest-fit : AllFit rest
  rest-fit =
      all_append (tokens_in (after place qs)) (closing ∷ st.back) (fit-back (tokens_in (upto place qs)) (tokens_in (after place qs)) pairs-fit)
      (fit-back (tokens_in qs) (closing ∷ st.back) (fit-back st.front _ all_fit).1)

  pub few : count qs ≤ number_limit
  few = (site-valid v node site valid way).most

  -- a plan has fewer pairs than bytes
  pub one_more : count qs + 1 ≤ number_limit
  one_more = omega (arith, count_most qs, site-inside v node site way, write_longer v [], valid.short)

  pub no_brace : (r : List ℕ) → from-head ≡ byte "}" ∷ r → ⊥
  no_brace r i = let z : ◌≡◌ {A = ℕ} 97 125 = cc in omega (arith, z)

  module _ (s : List ℕ) (p : s ≡ print v) where
    abbrev pub ahead : Ahead s 0 node
    ahead = record {
      tokens = st.front;
      fit = fit-front st.front _ all_fit;
      rest = from-head;
      text = p ∙ printed;
      counted = st.nodes;
      around = length site.path;
      level = st.level;
      stops = λ r i. absurd (no_brace r i);
      inside = omega arith;
    }

    module _ (x : Passed) (r : Reached s from-head (length site.path) x) (gap : ℕ) (g : gap ≡ node + 1 + nodes_in (upto place qs)) where
      abbrev head-ahead : HeadAhead s x.at
      head-ahead = record { spelling = st.head.spelling; pairs = count qs; few = few; rest = from-pairs; text = r.here }

      abbrev pub spot-ahead : SpotAhead s x.at (gap - (node + 1))
      spot-ahead = record {
        head = head-ahead;
        rest = from-gap;
        pairs = λ i d h. record {
          tokens = tokens_in (upto place qs);
          fit = fit-front (tokens_in (upto place qs)) (tokens_in (after place qs)) pairs-fit;
          rest = from-gap;
          text = d;
          counted = nodes-pairs (upto place qs) ∙ omega (arith, g);
          around = 0;
          level = balanced-pairs (upto place qs) ∙ omega arith;
          stops = λ l z. refl;
          inside = h;
        };
        same = λ i d h. refl;
      }

    -- ---- the spot: each of its positions is the length of what stands before, and there stands the rest

    module _ (part : Value → List ℕ) (more : List ℕ) where
      stands-before : (front : List ℕ) → print v ≡ write_tokens st.front (front ++ more) → part (branch st.head qs) ≡ front
          → s ≡ before part site.path v ++ more
      stands-before front t e =
          p ∙ t ∙ tokens-front st.front (front ++ more) ∙ sym (append_assoc (write_tokens st.front []) front more)
          ∙ ap (λ (l : List ℕ). l ++ more) (sym (tokens-front st.front front) ∙ ap (write_tokens st.front) (sym e) ∙ sym (st.stands part))

    -- up to the array's tag, to its first pair and to the gap
    abbrev to-head : List ℕ
    to-head = before nothing site.path v

    abbrev to-pairs : List ℕ
    to-pairs = before (pairs_before 0) site.path v

    abbrev to-gap : List ℕ
    to-gap = before (pairs_before place) site.path v

    pub before_head : s ≡ to-head ++ from-head
    before_head = stands-before nothing from-head [] printed refl

    -- the pairs before a place as text, and what follows
    before-place : (q : ℕ) (more : List ℕ) → from-pairs ≡ write_tokens (tokens_in (upto q qs)) more → s ≡ before (pairs_before q) site.path v ++ more
    before-place q more d =
        let head : Token = opening st.head (count qs) in
        stands-before (pairs_before q) more (write_token head (write_pairs (upto q qs) []))
        (printed ∙ ap (write_tokens st.front) (sym (array_head (count qs) st.head from-pairs st.is-array)
        ∙ ap (write_token head) (d ∙ tokens-front (tokens_in (upto q qs)) more ∙ ap (λ (l : List ℕ). l ++ more) (tokens_in-write (upto q qs) []))
        ∙ token-front head (write_pairs (upto q qs) []) more))
        refl

    pub before-pairs : s ≡ to-pairs ++ from-pairs
    before-pairs = before-place 0 from-pairs refl

    pub before-gap : s ≡ to-gap ++ from-gap
    before-gap = before-place place from-gap refl

    module _ (k : Key) (y : Scalar) where
      abbrev spot : Splice
      spot = splice_of place (record { plan = v; site = site; key = k; value = y })

      pub tag-here : drop spot.at s ≡ from-head
      tag-here = behind to-head from-head before_head

      pub pairs-here : drop spot.inside s ≡ from-pairs
      pairs-here = behind to-pairs from-pairs before-pairs

      pub gap_here : drop spot.from s ≡ from-gap
      gap_here = behind to-gap from-gap before-gap

      abbrev pub splices : Splices s spot
      splices = record {
        head = record { spelling = st.head.spelling; pairs = count qs; few = few; rest = from-pairs; text = tag-here };
        behind = sym pairs-here;
        inside = no_further to-pairs from-pairs before-pairs;
        parted = record {
          front = record {
            tokens = st.front;
            fit = fit-front st.front _ all_fit;
            text = p ∙ printed ∙ ap (write_tokens st.front) (sym tag-here);
            inside = no_further to-head from-head before_head;
          };
          middle = record {
            tokens = tokens_in (upto place qs);
            fit = fit-front (tokens_in (upto place qs)) (tokens_in (after place qs)) pairs-fit;
            text = pairs-here ∙ ap (write_tokens (tokens_in (upto place qs))) (sym gap_here);
            inside = no_further to-gap from-gap before-gap;
          };
          left = record { tokens = []; fit = tt; text = refl; inside = no_further to-gap from-gap before-gap };
          back = record {
            tokens = rest;
            fit = rest-fit;
            text = gap_here ∙ ap (write_tokens rest) (sym (drop_of_length-le s {i = length s} (omega arith)));
            inside = omega arith;
          };
        };
        few = one_more;
        up = omega arith;
        down = omega arith;
      }

      -- what the code reached is that spot
      module _ (x : Passed) (r : Reached s from-head (length site.path) x) (m o : ℕ) (z : Splice) (i : SpotIs s from-pairs from-gap x.at m o z) where
        pub spot_is : m ≡ count qs + 1 → o ≡ new_ordinal site.path place v → z ≡ spot
        spot_is c n =
            let gap : z.from ≡ length to-gap = index_is to-gap from-gap before-gap i.gap.here i.gap.inside in
            same_spot z spot (i.tag ∙ index_is to-head from-head before_head r.here r.inside)
            (index_is to-pairs from-pairs before-pairs i.first.here i.first.inside) gap (i.none ∙ gap) (i.counted ∙ c) (i.taken ∙ ap raising n)

-- ---- the bytes with the pair in it

module _ (v : Value) (node : ℕ) (site : Site) (way : WayTo v node site.path site.pairs) (place : ℕ) (k : Key) (x : Scalar) where
  abbrev tk : SiteTokens (tokens v) (λ g f. tokens (at_path g f site.path v)) (λ part. before part site.path v) node site.path site.pairs
  tk = site-tokens way

  abbrev K : ℕ
  K = new_ordinal site.path place v

  abbrev raise : List Token → List Token
  raise ts = map (raised_token K) ts

  -- THE TOKENS WRITTEN ARE THE OLD ONES WITH THREE CHANGES: each reference to an ordinal from K on names the next, the array's count is one more, and the key
  -- and the value stand at the place
  pub new-tokens : tokens (insert site.path place k x v)
      ≡ raise tk.front ++ (opening (count_shortest tk.head) (suc (count site.pairs))
      ∷ raise (tokens_in (upto place site.pairs)) ++ (scalar (key_scalar k) ∷ scalar x ∷ raise (tokens_in (after place site.pairs) ++ (closing ∷ tk.back))))
  unfolding insert
  new-tokens =
      let qs : Values = site.pairs in
      let more : List Token = tokens_in (after place qs) ++ (closing ∷ tk.back) in
      tokens-raised K (at_path count_shortest (put_pair place k (leaf x)) site.path v)
      ∙ ap raise (tk.edits count_shortest (put_pair place k (leaf x)))
      ∙ map-append (raised_token K) tk.front
      (opening (count_shortest tk.head) (count (put_pair place k (leaf x) qs)) ∷ tokens_in (put_pair place k (leaf x) qs) ++ (closing ∷ tk.back))
      ∙ ap (λ (l : List Token). raise tk.front ++ l)
      (ap₂ (λ (n : ℕ) (l : List Token). opening (count_shortest tk.head) n ∷ raise l) (put_count place k (leaf x) qs)
      (ap (λ (l : List Token). l ++ (closing ∷ tk.back)) (put-tokens place k x qs)
      ∙ append_assoc (tokens_in (upto place qs)) (scalar (key_scalar k) ∷ scalar x ∷ tokens_in (after place qs)) (closing ∷ tk.back))
      ∙ ap (λ (l : List Token). opening (count_shortest tk.head) (suc (count qs)) ∷ l)
      (map-append (raised_token K) (tokens_in (upto place qs)) (scalar (key_scalar k) ∷ scalar x ∷ more)))

  -- the same in bytes, by what the code knows: how references move, the count and the two texts
  abbrev parts_with : Renumbering → (m : ℕ) (key value : List ℕ) → List ℕ
  parts_with = pieces tk.front (tokens_in (upto place site.pairs)) (tokens_in (after place site.pairs) ++ (closing ∷ tk.back))

  head-text : write_token (opening (count_shortest tk.head) (suc (count site.pairs))) []
      ≡ tag Kind.array ∷ byte ":" ∷ write_number shortest (count site.pairs + 1) (byte ":" ∷ byte "{" ∷ [])
  head-text =
      ap (λ (c : Container). write_container c (write_number shortest (suc (count site.pairs)) (byte ":" ∷ byte "{" ∷ []))) tk.is-array
      ∙ ap (λ (n : ℕ). tag Kind.array ∷ byte ":" ∷ write_number shortest n (byte ":" ∷ byte "{" ∷ [])) (sym (add-one (count site.pairs)))

  -- its references renumbered
  moved : (ts : List Token) → write_tokens (raise ts) [] ≡ renumbered_bytes (raising K) ts
  moved ts = ap (λ (l : List Token). write_tokens l []) (sym (raised-tokens K ts))

  parts_are : print (insert site.path place k x v) ≡ parts_with (raising K) (count site.pairs + 1) (write_key k []) (write_scalar x [])
  parts_are =
      let qs : Values = site.pairs in
      let a : List Token = raise tk.front in
      let o : Token = opening (count_shortest tk.head) (suc (count qs)) in
      let b : List Token = raise (tokens_in (upto place qs)) in
      let c : List Token = raise (tokens_in (after place qs) ++ (closing ∷ tk.back)) in
      let key : Token = scalar (key_scalar k) in
      let behind : List ℕ = write_token key (write_token (scalar x) (write_tokens c [])) in
      sym (tokens-write (insert site.path place k x v) []) ∙ ap (λ (l : List Token). write_tokens l []) new-tokens
      ∙ tokens_append a (o ∷ b ++ (key ∷ scalar x ∷ c)) []
      ∙ tokens-front a (write_token o (write_tokens (b ++ (key ∷ scalar x ∷ c)) []))
      ∙ ap (λ (l : List ℕ). write_tokens a [] ++ l)
      (token-front o [] (write_tokens (b ++ (key ∷ scalar x ∷ c)) []) ∙ ap₂ ◌++◌ head-text
      (tokens_append b (key ∷ scalar x ∷ c) [] ∙ tokens-front b behind ∙ ap (λ (l : List ℕ). write_tokens b [] ++ l)
      (token-front key [] (write_token (scalar x) (write_tokens c [])) ∙ ap₂ ◌++◌ (key-written k []) (token-front (scalar x) [] (write_tokens c [])))))
      ∙ ap₂ ◌++◌ (moved tk.front)
      (ap (λ (l : List ℕ). (tag Kind.array ∷ byte ":" ∷ write_number shortest (count qs + 1) (byte ":" ∷ byte "{" ∷ [])) ++ l)
      (ap₂ ◌++◌ (moved (tokens_in (upto place qs)))
      (ap (λ (l : List ℕ). write_key k [] ++ (write_scalar x [] ++ l)) (moved (tokens_in (after place qs) ++ (closing ∷ tk.back))))))

  pub written_is : (key value : List ℕ) → key ≡ write_key k [] → value ≡ write_scalar x []
      → print (insert site.path place k x v) ≡ parts_with (raising K) (count site.pairs + 1) key value
  written_is key value h i = parts_are ∙ ap₂ (parts_with (raising K) (count site.pairs + 1)) (sym h) (sym i)

-- ---- as the code meets them

module _ {s : List ℕ} {at : ℕ} (h : HeadAhead s at) where
  abbrev head_token : Token
  head_token = opening (record { container = array; spelling = h.spelling }) h.pairs

  pub head-fit : {c : ℕ} → ((l : ℕ) → read_token l (drop at s) ≡ refused c l) → ⊥
  head-fit {c} f = never-unfit s at head_token h.rest c (tt, h.few) h.text f

  pub behind-head : (x : Text) → Found read_token (token_told at) s at x → BehindHead s h.rest x.next
  behind-head x f = record { here = (standing s at head_token h.rest x (tt, h.few) h.text f).rest; inside = f.inside }

pub behind-gap : {s rest rest' : List ℕ} {around : ℕ} {r : Passed} → Reached s rest around r → rest ≡ rest' → BehindHead s rest' r.at
behind-gap r e = record { here = r.here ∙ e; inside = r.inside }
