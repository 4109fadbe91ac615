-- The choice at a tag, the room for a value, scalars and references, by the definitions of reading. Assumes nothing.
use Rattle.std.proofs.Common.{◌≡◌, ℕ, zero, suc, ◌+◌, ◌-◌, ◌*◌, ◌<◌, ◌≤◌, Bool, true, false, ◌&&◌, T, ltb, leb, List, [], ◌∷◌, length, get_or, drop}
use Rattle.std.proofs.Common.{sym, refl, ap, ◌∙◌, subst, add-one, sub-one, arith, lit<, ltb→lt, le-ltb, lt-ltb, le-leb}
use Rattle.std.specs.Prelude.{Option, unwrap_or}
use lib.Seq.{sets}
use borrow.Author.Tests.{lt-leb}
use Rattle.format.specs.Kind.{Kind, kinds, scalar_kinds, is_tag_of, has_ordinal}
use Rattle.format.specs.Tree.{leaf, ref, nodes, ordinals, one}
use Rattle.format.specs.Syntax.{Reference, Value, own}
use Rattle.format.specs.Limits.{Seen}
use Rattle.format.specs.Answer.{Answer, ok, refused, ◌>>=◌, require}
use Rattle.format.specs.Read.{scalar_text, named_text, read_body, read_value}
use Rattle.format.specs.Table.{Node, words, width, flat, ref_node, taken, table}
use Rattle.format.proofs.Answers.{bind_ok, require-ok}
use Rattle.format.proofs.Tags.{all}
use Rattle.scanner.specs.declared.Text.{Text}
use Rattle.scanner.specs.Scans.{Found, value_told, scalar_told}
use Rattle.reader.specs.declared.cursor.Cursor.{Cursor}
use Rattle.reader.specs.Texts.{kind_for, OneOf, scalar_tag, reference_kinds, reference_tag}
use Rattle.reader.specs.Nodes.{node_of, NodeAdded, CarrierIn}
use Rattle.reader.specs.Steps.{Points, Takes, Fit, KeptBelow, GoodValue, TagAt, room_at, setting_at, value_at, inner_at}
use Rattle.reader.proofs.Tagged.{position-is, tag-end, tag-other, tag_is, passes}
use Rattle.reader.proofs.Bodies.{body-scalar, scalar-node, ref_for, resolved, body-reference, ref-tag}
use Rattle.reader.proofs.Stored.{run_kept, run_word, points_kept, points_add, link-is}

-- ---- the checks at a tag

module _ (s : List ℕ) (capacity at node : ℕ) (seen : Seen) where
  abbrev l : ℕ
  l = length s - length (drop at s)

  abbrev reads : ℕ → Answer (Value × List ℕ)
  reads levels = read_value (setting_at s capacity) levels seen node (drop at s)

  at-end : (levels : ℕ) → length s ≤ at → at ≤ length s → reads levels ≡ refused 2 at
  at-end zero h i = rw (tag-end kinds 3 l s at h, position-is s at i)
  at-end (suc d) h i = rw (tag-end kinds 3 l s at h, position-is s at i)

  module _ (b : ℕ) (h : at < length s) (q : get_or s at 0 ≡ b) where
    here : at ≤ length s
    here = omega arith

    at_other : (levels : ℕ) → is_tag_of kinds b ≡ false → reads levels ≡ refused 3 at
    at_other zero n = rw (tag-other kinds 3 l s at b h q n, position-is s at here)
    at_other (suc d) n = rw (tag-other kinds 3 l s at b h q n, position-is s at here)

    abbrev body : (levels : ℕ) → Answer (Value × List ℕ)
    body levels = read_body (setting_at s capacity) (read_value (setting_at s capacity) (levels - 1)) (kind_for b) at seen node (drop (at + 1) s)

    at-known : is_tag_of kinds b ≡ true → (levels : ℕ)
        → reads levels ≡ ((require (ltb 0 levels) 8 at >>= λ u. require (ltb node capacity) 7 at) >>= λ u. body levels)
    unfolding kind_for
    at-known k zero = rw (tag_is kinds 3 l s at b h q k, position-is s at here)
    at-known k (suc d) = rw (tag_is kinds 3 l s at b h q k, position-is s at here, lt-ltb 0 (suc d) (omega arith), sub-one (suc d))

-- ---- whether there is room

module _ (capacity : ℕ) (c : Cursor) where
  pub room-there : ok tt ≡ room_at capacity c → (0 < c.levels) × (c.node < capacity)
  unfolding room_at
  room-there e =
      let both = bind_ok (require (ltb 0 c.levels) 8 c.at) (λ u. require (ltb c.node capacity) 7 c.at) tt (sym e) in (
        ltb→lt 0 c.levels (require-ok (ltb 0 c.levels) 8 c.at _ both.1),
        ltb→lt c.node capacity (require-ok (ltb c.node capacity) 7 c.at _ both.2),
      )

module _ (s : List ℕ) (capacity : ℕ) (c : Cursor) where
  pub gate_end : length s ≤ c.at → c.at ≤ length s → value_at s capacity c ≡ refused 2 c.at
  unfolding value_at
  gate_end h i = at-end s capacity c.at c.node c.ordinal c.levels h i

  module _ (b : ℕ) (here : TagAt s c b) where
    pub gate_other : is_tag_of kinds b ≡ false → value_at s capacity c ≡ refused 3 c.at
    unfolding value_at
    gate_other n = at_other s capacity c.at c.node c.ordinal b here.inside here.is c.levels n

    -- of one of some kinds
    module _ (ks : List Kind) (taken : T (all ks (is_tag_of kinds))) (is : OneOf ks b) where
      abbrev rest : Answer (Value × List ℕ)
      rest = read_body (setting_at s capacity) (inner_at s capacity (c.levels - 1)) (kind_for b) c.at c.ordinal c.node (drop (c.at + 1) s)

      checked : value_at s capacity c ≡ (room_at capacity c >>= λ u. rest)
      unfolding value_at inner_at room_at
      checked = at-known s capacity c.at c.node c.ordinal b here.inside here.is (passes (is_tag_of kinds) ks b taken is) c.levels

      pub gate_shut : (code at : ℕ) → refused code at ≡ room_at capacity c → value_at s capacity c ≡ refused code at
      gate_shut code at e = checked ∙ ap (λ (o : Answer (Unit {0})). o >>= λ u. rest) (sym e)

      pub gate_open : ok tt ≡ room_at capacity c → value_at s capacity c ≡ rest
      gate_open e = checked ∙ ap (λ (o : Answer (Unit {0})). o >>= λ u. rest) (sym e)

-- ---- a value that holds none

module _ (s t t' : List ℕ) (capacity : ℕ) (c c' : Cursor) (b : ℕ) (x : Text) (takes : Bool) (fit : Fit s t capacity c) (room : c.node < capacity)
    (p : NodeAdded t t' c b x takes c') where
  abbrev row : Node
  row = node_of b (taken takes (c.ordinal + 1)) (c.node + 1) x

  long : c.node * width + width ≤ length t
  long = omega arith

  -- the value, the words of its node, and that it takes the next ordinal if it takes one
  pub leaf_good : (o : Answer (Value × List ℕ)) (v : Value) → o ≡ ok (v, drop x.next s) → c.at < x.next → x.next ≤ length s → nodes v ≡ 1
      → ordinals own v ≡ one takes
      → ((to : ℕ → ℕ) → Points to t c.node c.ordinal
      → table to c.at c.node (suc c.ordinal) v ≡ node_of b (taken takes (suc c.ordinal)) (suc c.node) x ∷ [])
      → ((to : ℕ → ℕ) → Takes to c.node (suc c.ordinal) v → T takes → to (suc c.ordinal) ≡ c.node)
      → GoodValue s t t' capacity c o c'
  leaf_good o v is on inside single numbered rows takes-own =
      subst (GoodValue s t t' capacity c o) (sym p.cursor) (record {
        value = v;
        is = is;
        on = on;
        inside = inside;
        node = ap (λ (n : ℕ). c.node + n) (sym single);
        fits = omega arith;
        ordinal = ap (λ (n : ℕ). c.ordinal + n) (sym numbered);
        levels = refl;
        end = run_word t t' (words row) c.node 5 p.table (lit< tt) long;
        kept = kept;
        wrote = record {
          of = λ to q r. (
            p.table ∙ ap (λ (n : Node). sets t (c.node * width) (flat (n ∷ []))) same
                ∙ ap (λ (ns : List Node). sets t (c.node * width) (flat ns)) (sym (rows to q)),
            points_add to t' c.node c.ordinal (points_kept to t t' c.node c.ordinal q kept) takes
                (run_word t t' (words row) c.node 1 p.table (lit< tt) long) (takes-own to r),
          );
        };
      })
    where
      kept : KeptBelow t t' c.node
      kept = run_kept t t' (words row) c.node p.table

      same : row ≡ node_of b (taken takes (suc c.ordinal)) (suc c.node) x
      same = ap (λ (n : ℕ). node_of b (taken takes n) (c.node + 1) x) (add-one c.ordinal)
          ∙ ap (λ (n : ℕ). node_of b (taken takes (suc c.ordinal)) n x) (add-one c.node)

-- ---- scalars

module _ (s : List ℕ) (capacity : ℕ) (c : Cursor) (b : ℕ) (here : TagAt s c b) (is : scalar_tag b) (room : ok tt ≡ room_at capacity c) where
  opened : value_at s capacity c ≡ (scalar_text (kind_for b) c.at (drop (c.at + 1) s) >>= λ q. ok (leaf q.0, q.1))
  opened =
      gate_open s capacity c b here scalar_kinds tt is room
      ∙ body-scalar (setting_at s capacity) (inner_at s capacity (c.levels - 1)) b c.at c.ordinal c.node (drop (c.at + 1) s) is

  pub scalar_not : (code at : ℕ) → scalar_text (kind_for b) c.at (drop (c.at + 1) s) ≡ refused code at → value_at s capacity c ≡ refused code at
  scalar_not code at e = opened ∙ rw e

  pub scalar_good : (t t' : List ℕ) (x : Text) (c' : Cursor) (takes : Bool) → Fit s t capacity c
      → Found (scalar_text (kind_for b)) (scalar_told (c.at + 1)) s (c.at + 1) x → takes ≡ has_ordinal b → NodeAdded t t' c b x takes c'
      → GoodValue s t t' capacity c (value_at s capacity c) c'
  scalar_good t t' x c' takes fit f e p =
      let q : NodeAdded t t' c b x true c' = subst (λ (own : Bool). NodeAdded t t' c b x own c') (e ∙ passes has_ordinal scalar_kinds b tt is) p in
      leaf_good s t t' capacity c c' b x true fit (room-there capacity c room).1 q (value_at s capacity c) (leaf f.what) (opened ∙ rw (f.is c.at))
      (omega (arith, f.on)) f.inside refl refl
      (λ to q. ap (λ (n : Node). n ∷ []) (scalar-node b c.at c.at c.node (suc c.ordinal) x.next (drop (c.at + 1) s) (
        f.what,
        drop x.next s,
      ) is (f.is c.at)
      ∙ ap (node_of b (suc c.ordinal) (suc c.node)) (sym f.tells)))
      (λ to r u. r)

-- ---- references

module _ (s : List ℕ) (capacity : ℕ) (c : Cursor) (b : ℕ) (here : TagAt s c b) (is : reference_tag b) (room : ok tt ≡ room_at capacity c) where
  named-at : value_at s capacity c ≡ (named_text c.at (drop (c.at + 1) s) >>= resolved (ref_for b) c.at c.ordinal)
  named-at =
      gate_open s capacity c b here reference_kinds tt is room
      ∙ body-reference (setting_at s capacity) (inner_at s capacity (c.levels - 1)) b c.at c.ordinal c.node (drop (c.at + 1) s) is

  pub reference_not : (code at : ℕ) → named_text c.at (drop (c.at + 1) s) ≡ refused code at → value_at s capacity c ≡ refused code at
  reference_not code at e = named-at ∙ rw e

  module _ (x : Text) (f : Found named_text value_told s (c.at + 1) x) where
    value-is : f.what.1 ≡ x.content
    value-is = sym (ap (λ (u : Text). u.content) f.tells)

    pub reference_zero : x.content ≡ 0 → value_at s capacity c ≡ refused 6 c.at
    reference_zero z = named-at ∙ rw (f.is c.at, value-is, le-ltb 0 x.content (omega arith))

    module _ (z : x.content ≡ 0 → ⊥) where
      some : 0 < x.content
      some = omega (arith, z)

      pub reference-above : c.ordinal < x.content → value_at s capacity c ≡ refused 6 c.at
      reference-above h = named-at ∙ rw (f.is c.at, value-is, lt-ltb 0 x.content some, lt-leb x.content c.ordinal h)

      module _ (h : x.content ≤ c.ordinal) where
        abbrev reference : Reference
        reference = record { kind = ref_for b; spelling = f.what.0; named = f.what.1 }

        accepted : value_at s capacity c ≡ ok (ref reference, drop x.next s)
        accepted =
            named-at ∙ rw (f.is c.at)
            (ap (λ (n : ℕ). earlier n) value-is ∙ rw (lt-ltb 0 x.content some, le-leb x.content c.ordinal h))
          where
            earlier : ℕ → Answer (Value × List ℕ)
            earlier n = require (ltb 0 n && leb n c.ordinal) 6 c.at >>= λ u. ok (ref reference, drop x.next s)

        pub reference_good : (t t' : List ℕ) (found : Option ℕ) (target next : ℕ) (c' : Cursor) (takes : Bool) → Fit s t capacity c → next ≡ x.next
            → takes ≡ has_ordinal b → CarrierIn t 0 c.node x.content found → target ≡ unwrap_or found c.node
            → NodeAdded t t' c b (record { content = x.content; size = 0; link = target; next = next }) takes c'
            → GoodValue s t t' capacity c (value_at s capacity c) c'
        reference_good t t' found target next c' takes fit n e carried v p =
            leaf_good s t t' capacity c c' b (record { content = x.content; size = 0; link = target; next = next }) takes fit (room-there capacity c room).1 p
            (value_at s capacity c) (ref reference)
            (accepted ∙ ap (λ (k : ℕ). ok (ref reference, drop k s)) (sym n)) (omega (arith, f.on)) (omega (arith, f.inside)) refl (ap one own_is)
            (λ to q. ap (λ (r : Node). r ∷ []) (rows to q))
            (λ to r u. r (subst T (sym own_is) u))
          where
            own_is : own reference ≡ takes
            own_is = ap has_ordinal (ref-tag b is) ∙ sym e

            row : (tag ordinal content link : ℕ) → Node
            row tag ordinal content link = record { tag = tag; ordinal = ordinal; content = content; size = 0; link = link; end = suc c.node }

            rows : (to : ℕ → ℕ) → Points to t c.node c.ordinal
                → ref_node (to f.what.1) c.node (suc c.ordinal) reference ≡ row b (taken takes (suc c.ordinal)) x.content target
            rows to q =
                ap (λ (k : ℕ). row k (taken (own reference) (suc c.ordinal)) f.what.1 (to f.what.1)) (ref-tag b is)
                ∙ ap (λ (o : Bool). row b (taken o (suc c.ordinal)) f.what.1 (to f.what.1)) own_is
                ∙ ap (λ (k : ℕ). row b (taken takes (suc c.ordinal)) k (to k)) value-is
                ∙ ap (row b (taken takes (suc c.ordinal)) x.content) (sym (v ∙ link-is to t c.node c.ordinal q x.content found carried some h))
