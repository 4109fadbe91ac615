-- A container, by the definitions of reading. Assumes nothing.
use Rattle.std.proofs.Common.{◌≡◌, ℕ, suc, ◌+◌, ◌-◌, ◌*◌, ◌<◌, ◌≤◌, Bool, true, false, eqb, List, [], ◌∷◌, ◌++◌, length, get_or, drop, sym, refl, ap}
use Rattle.std.proofs.Common.{◌∙◌, subst, ap₂, subst₂, add-one, arith, lit<, get_or-set_other, get_or-set_same}
use lib.Seq.{sets, length-sets}
use Rattle.format.specs.Bytes.{byte, bytes}
use Rattle.format.specs.Kind.{has_ordinal}
use Rattle.format.specs.Tree as tree
use Rattle.format.specs.Tree.{branch, nodes_in, one}
use Rattle.format.specs.Syntax.{array, object, Spelling, Container, Value, Values}
use Rattle.format.specs.Answer.{Answer, ok, refused, ◌>>=◌}
use Rattle.format.specs.Read.{expect, head_text, is_array, Inner, read_pairs}
use Rattle.format.specs.Table.{Node, words, width, end_word, flat, branch_node, pairs_offset, taken, table, table_in}
use Rattle.format.proofs.Forms.{pairs-count}
use Rattle.format.proofs.Texts.{head_ok}
use Rattle.scanner.specs.declared.Text.{Text}
use Rattle.bytes_at.specs.ByteAt.{byte_at}
use Rattle.scanner.specs.Scans.{Found, container_told, head_told}
use Rattle.bytes_at.proofs.BytesAt.{byte-there, expect_yes, expect-no}
use Rattle.reader.specs.declared.cursor.Cursor.{Cursor}
use Rattle.reader.specs.Texts.{is_array_tag, container_kinds, container_tag}
use Rattle.reader.specs.Nodes.{node_of, NodeOpened}
use Rattle.reader.specs.Steps.{Points, Takes, TakesIn, Fit, KeptBelow, GoodValue, GoodPairs, TagAt, room_at, setting_at, value_at, inner_at, pairs_at}
use Rattle.reader.proofs.Tagged.{passes}
use Rattle.reader.proofs.Bodies.{pairs_of, body-head, head-node}
use Rattle.reader.proofs.HeadTexts.{head-written}
use Rattle.reader.proofs.Stored.{node-around, run_kept, run_word, points_keep, points_kept, points_step}
use Rattle.reader.proofs.Leaves.{room-there, gate_open}

-- the cursor at a container's first pair
abbrev pub within : Cursor → (next : ℕ) → Cursor
within c next = record { at = next; node = c.node + 1; ordinal = c.ordinal + 1; levels = c.levels - 1 }

pub first-fit : (s t t₁ : List ℕ) (capacity : ℕ) (c inside : Cursor) (next : ℕ) → inside ≡ within c next → next ≤ length s → Fit s t capacity c
    → c.node < capacity → length t₁ ≡ length t → Fit s t₁ capacity inside
first-fit s t t₁ capacity c inside next e h f room l =
    subst (Fit s t₁ capacity) (sym e) (record { inside = h; table = omega arith; node = omega arith; ordinal = omega arith })

-- a container takes an ordinal
numbered : (b : ℕ) → container_tag b → has_ordinal b ≡ true
numbered b is = passes has_ordinal container_kinds b tt is

pub first-pair : (t t₁ : List ℕ) (c inside : Cursor) (b : ℕ) (x : Text) → container_tag b → NodeOpened t t₁ c b x inside → inside ≡ within c x.next
first-pair t t₁ c inside b x is p =
    p.cursor ∙ ap (λ (own : Bool). record { at = x.next; node = c.node + 1; ordinal = c.ordinal + one own; levels = c.levels - 1 }) (numbered b is)

module _ (s : List ℕ) (capacity : ℕ) (c : Cursor) (b : ℕ) (here : TagAt s c b) (is : container_tag b) (room : ok tt ≡ room_at capacity c) where
  abbrev inner : Inner
  inner = inner_at s capacity (c.levels - 1)

  abbrev given : Answer (Value × List ℕ)
  given = value_at s capacity c

  opened : given ≡ (head_text (is_array_tag b) c.at (drop (c.at + 1) s) >>= pairs_of (setting_at s capacity) inner c.at c.ordinal c.node)
  opened =
      gate_open s capacity c b here container_kinds tt is room
      ∙ body-head (setting_at s capacity) inner c.at c.ordinal c.node b (drop (c.at + 1) s) is

  pub head_not : (code at : ℕ) → head_text (is_array_tag b) c.at (drop (c.at + 1) s) ≡ refused code at → given ≡ refused code at
  head_not code at e = opened ∙ rw e

  module _ (x : Text) (f : Found (head_text (is_array_tag b)) (head_told (c.at + 1)) s (c.at + 1) x) where
    abbrev container : Container
    container = f.what.0

    abbrev spelling : Spelling
    spelling = f.what.1.0

    abbrev pairs : Answer (Values × List ℕ)
    pairs = pairs_at s capacity b x.link (within c x.next)

    abbrev shut : Values × List ℕ → Answer (Value × List ℕ)
    shut q = expect c.at (bytes "}") q.1 >>= λ s₄. ok (branch (record { container = container; spelling = spelling }) q.0, s₄)

    link-told : (h : Container × (Spelling × ℕ)) → x ≡ head_told (c.at + 1) h x.next → h.1.1 ≡ x.link
    link-told (array, n) e = sym (ap (λ (u : Text). u.link) e)
    link-told (object q, n) e = sym (ap (λ (u : Text). u.link) e)

    count-is : f.what.1.1 ≡ x.link
    count-is = link-told f.what f.tells

    of_array : is_array container ≡ is_array_tag b
    of_array = (head_ok (is_array_tag b) c.at (drop (c.at + 1) s) (f.what, drop x.next s) (f.is c.at)).container

    same-pairs : read_pairs (setting_at s capacity) inner (is_array container) f.what.1.1 [] (suc c.ordinal) (suc c.node) (drop x.next s) ≡ pairs
    unfolding pairs_at
    same-pairs =
        ap (λ (a : Bool). read_pairs (setting_at s capacity) inner a f.what.1.1 [] (suc c.ordinal) (suc c.node) (drop x.next s)) of_array
        ∙ ap (λ (n : ℕ). read_pairs (setting_at s capacity) inner (is_array_tag b) n [] (suc c.ordinal) (suc c.node) (drop x.next s)) count-is
        ∙ ap₂ (λ (n i : ℕ). read_pairs (setting_at s capacity) inner (is_array_tag b) x.link [] n i (drop x.next s)) (sym (add-one c.ordinal))
        (sym (add-one c.node))

    opened-pairs : given ≡ (pairs >>= shut)
    opened-pairs = opened ∙ rw (f.is c.at) (ap (λ (o : Answer (Values × List ℕ)). o >>= shut) same-pairs)

    -- the code's cursor is that one
    at_first : (inside : Cursor) → inside ≡ within c x.next → pairs ≡ pairs_at s capacity b x.link inside
    at_first inside e = ap (pairs_at s capacity b x.link) (sym e)

    pub pairs-refused : (inside : Cursor) → inside ≡ within c x.next → (code at : ℕ) → pairs_at s capacity b x.link inside ≡ refused code at
        → given ≡ refused code at
    pairs-refused inside i code at e = closed-by (at_first inside i ∙ e)
      where
        closed-by : pairs ≡ refused code at → given ≡ refused code at
        closed-by e = opened-pairs ∙ ap (λ (o : Answer (Values × List ℕ)). o >>= shut) e

    module _ (t t₁ t₂ t₃ : List ℕ) (fit : Fit s t capacity c) (last : Cursor) (inside : Cursor)
        (first : NodeOpened t t₁ c b x inside)
        (read : GoodPairs s t₁ t₂ capacity inside (pairs_at s capacity b x.link inside) last) where
      g : GoodPairs s t₁ t₂ capacity (within c x.next) pairs last
      g = subst (λ (i : Cursor). GoodPairs s t₁ t₂ capacity i (pairs_at s capacity b x.link i) last) (first-pair t t₁ c inside b x is first) read

      pub brace_missing : eqb (byte_at s last.at) (byte "}") ≡ false → given ≡ refused 2 c.at
      brace_missing e = opened-pairs ∙ ap (λ (o : Answer (Values × List ℕ)). o >>= shut) g.is ∙ rw (expect-no c.at s last.at (byte "}") [] e)

      module _ (e : eqb (byte_at s last.at) (byte "}") ≡ true) (l₂ : length t₂ ≡ length t₁)
          (e₃ : t₃ ≡ sets t₂ (c.node * width + end_word) (last.node ∷ [])) where
        e₁ : t₁ ≡ sets t (c.node * width) (words (node_of b (c.ordinal + 1) (c.node + 1) x))
        e₁ = first.table ∙ ap (λ (own : Bool). sets t (c.node * width) (words (node_of b (taken own (c.ordinal + 1)) (c.node + 1) x))) (numbered b is)

        long : c.node * width + width ≤ length t
        long = omega (arith, fit.table, (room-there capacity c room).1)

        l₁ : length t₁ ≡ length t
        l₁ = ap length e₁ ∙ length-sets t (c.node * width) (words (node_of b (c.ordinal + 1) (c.node + 1) x))

        abbrev front : List ℕ
        front = b ∷ (c.ordinal + 1) ∷ x.content ∷ x.size ∷ x.link ∷ []

        keeps : KeptBelow t t₃ c.node
        keeps i l =
            ap (λ (u : List ℕ). get_or u i 0) e₃ ∙ get_or-set_other t₂ (c.node * width + end_word) i last.node 0 (λ q. omega arith)
            ∙ g.kept i (omega arith) ∙ run_kept t t₁ (words (node_of b (c.ordinal + 1) (c.node + 1) x)) c.node e₁ i l

        all : tree.count g.pairs ≡ x.link
        unfolding pairs_at
        all = pairs-count (setting_at s capacity) inner (is_array_tag b) x.link [] (c.ordinal + 1) (c.node + 1) (drop x.next s) (
          g.pairs,
          drop last.at s,
        ) g.is

        abbrev value : Value
        value = branch (record { container = container; spelling = spelling }) g.pairs

        begins : x.next ≡ pairs_offset c.at (record { container = container; spelling = spelling }) (tree.count g.pairs)
        begins =
            head-written s c.at (is_array_tag b) x f (omega (arith, fit.inside))
            ∙ ap (pairs_offset c.at (record { container = container; spelling = spelling })) (count-is ∙ sym all)

        -- the rows of its pairs, and its own
        abbrev below : (ℕ → ℕ) → List Node
        below to = table_in to x.next (c.node + 1) (suc (c.ordinal + 1)) g.pairs

        end_is : last.node ≡ c.node + suc (nodes_in g.pairs)
        end_is = omega (arith, g.node)

        own_row : node_of b (c.ordinal + 1) last.node x ≡ branch_node c.at (suc c.ordinal) container (tree.count g.pairs)
            (c.node + suc (nodes_in g.pairs))
        own_row =
            ap (λ (n : ℕ). node_of b n last.node x) (add-one c.ordinal)
            ∙ ap (λ (n : ℕ). node_of b (suc c.ordinal) n x) end_is
            ∙ ap (node_of b (suc c.ordinal) (c.node + suc (nodes_in g.pairs)))
            (f.tells ∙ ap (λ (n : ℕ). container_told (c.at + 1) container n x.next) (count-is ∙ sym all))
            ∙ sym (head-node b c.at (suc c.ordinal) (c.node + suc (nodes_in g.pairs)) x.next container (tree.count g.pairs) is of_array)

        below-is : (to : ℕ → ℕ)
            → below to ≡ table_in to (pairs_offset c.at (record { container = container; spelling = spelling }) (tree.count g.pairs)) (suc c.node)
            (suc (suc c.ordinal)) g.pairs
        below-is to =
            ap (λ (n : ℕ). table_in to n (c.node + 1) (suc (c.ordinal + 1)) g.pairs) begins
            ∙ ap₂ (λ (i n : ℕ). table_in to (pairs_offset c.at (record { container = container; spelling = spelling }) (tree.count g.pairs)) i n
            g.pairs) (add-one c.node) (ap suc (add-one c.ordinal))

        rows : (to : ℕ → ℕ) → front ++ (last.node ∷ []) ++ flat (below to) ≡ flat (table to c.at c.node (suc c.ordinal) value)
        rows to =
            ap (λ (n : Node). words n ++ flat (below to)) own_row
            ∙ ap (λ (ns : List Node). flat (branch_node c.at (suc c.ordinal) container (tree.count g.pairs) (c.node + suc (nodes_in g.pairs))
            ∷ ns)) (below-is to)

        row-behind : (n : ℕ) → (n + 1) * width ≡ n * width + width
        row-behind n = omega arith

        writes : (to : ℕ → ℕ) → Points to t c.node c.ordinal → Takes to c.node (suc c.ordinal) value
            → (t₃ ≡ sets t (c.node * width) (flat (table to c.at c.node (suc c.ordinal) value))) × Points to t₃ last.node last.ordinal
        writes to p q =
            let ws : List ℕ = words (node_of b (c.ordinal + 1) (c.node + 1) x) in
            let p₁ : Points to t₁ (c.node + 1) (c.ordinal + 1) =
            points_step to t₁ c.node c.ordinal (points_kept to t t₁ c.node c.ordinal p (run_kept t t₁ ws c.node e₁))
            (run_word t t₁ ws c.node 1 e₁ (lit< tt) long) q.0 in
            let q₁ : TakesIn to (c.node + 1) (suc (c.ordinal + 1)) g.pairs =
            subst₂ (λ (i n : ℕ). TakesIn to i n g.pairs) (sym (add-one c.node)) (ap suc (sym (add-one c.ordinal))) q.1 in
            let w = g.wrote.of to p₁ q₁ in (
              node-around t t₁ t₂ t₃ front (flat (below to)) (c.node * width) (c.node + 1) last.node refl e₁
                  (w.0 ∙ ap (λ (k : ℕ). sets t₁ k (flat (below to))) (row-behind c.node)) e₃
                  ∙ ap (sets t (c.node * width)) (rows to),
              points_keep to t₂ t₃ last.node last.ordinal w.1 (λ i l. ap (λ (u : List ℕ). get_or u (i * width + 1) 0) e₃
                  ∙ get_or-set_other t₂ (c.node * width + end_word) (i * width + 1) last.node 0 (λ z. omega arith)),
            )

        pub container_good : GoodValue s t t₃ capacity c given (record { at = last.at + 1; node = last.node; ordinal = last.ordinal; levels = c.levels })
        container_good =
            let there : last.at < length s = byte-there s last.at (byte "}") (lit< tt) e in
            record {
              value = value;
              is = opened-pairs ∙ ap (λ (o : Answer (Values × List ℕ)). o >>= shut) g.is ∙ rw (expect_yes c.at s last.at (byte "}") [] (lit< tt) e);
              on = omega (arith, f.on, g.on);
              inside = omega arith;
              node = omega (arith, g.node);
              fits = g.fits;
              ordinal = omega (arith, g.ordinal);
              levels = refl;
              end = ap (λ (u : List ℕ). get_or u (c.node * width + end_word) 0) e₃
                  ∙ get_or-set_same t₂ (c.node * width + end_word) last.node 0 (omega (arith, long, l₁));
              kept = keeps;
              wrote = record { of = writes };
            }
