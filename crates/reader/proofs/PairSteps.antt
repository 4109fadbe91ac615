-- The loop over a container's pairs, by the definitions of reading. Assumes nothing.
use Rattle.std.proofs.Common.{◌≡◌, ℕ, suc, ◌+◌, ◌*◌, ◌<◌, ◌≤◌, Bool, true, false, ◌||◌, List, [], ◌∷◌, ◌++◌, length, get_or, drop, sym}
use Rattle.std.proofs.Common.{refl, ap, ◌∙◌, subst, subst₂, arith, lit<, length-drop}
use lib.Seq.{sets}
use Rattle.std.specs.Prelude.{Ok}
use Rattle.decimal.proofs.Stores.{sets-append}
use Rattle.format.specs.Tree as tree
use Rattle.format.specs.Tree.{leaf, ref, branch, nodes, nodes_in, ordinals, ordinals_in}
use Rattle.format.specs.Syntax.{int_key, string_key, Key, Value, Values, own, write, write_pairs}
use Rattle.format.specs.Keys.{same_key, has_key}
use Rattle.format.specs.Answer.{Answer, ok, refused, ◌>>=◌}
use Rattle.format.specs.Read.{read_pairs}
use Rattle.format.specs.Table.{words, width, word_at, end_word, pair_end, flat, key_node, value_offset, table, table_in}
use Rattle.format.proofs.Inversion.{key-written, value_written}
use Rattle.format.proofs.Results.{flat-length}
use Rattle.format.proofs.Rows.{table_in-length}
use Rattle.keys.proofs.NodeKeys.{key-there}
use Rattle.keys.proofs.Chains.{chain-le}
use Rattle.reader.specs.declared.cursor.Cursor.{Cursor}
use Rattle.key_filter.specs.Filter.{Grows}
use Rattle.reader.specs.declared.seen.Seen.{Seen}
use Rattle.keys.specs.declared.KeyWords.{KeyWords}
use Rattle.keys.specs.KeyWords.{key_words_at, key_words_in, Held, Chain, none, pair}
use Rattle.reader.specs.Texts.{is_array_tag}
use Rattle.reader.specs.KeysSeen.{Known, next}
use Rattle.reader.specs.Steps.{Points, Takes, TakesIn, Fit, KeptBelow, WroteIn, GoodValue, GoodPairs, GoodKey, Earlier, Remembers, inner_at}
use Rattle.reader.specs.Steps.{Step, step_answer, terms_at, setting_at, value_at, pairs_at, key_at}
use Rattle.key_filter.proofs.Marking.{grows_none, grows-on}
use Rattle.reader.proofs.KeyLaws.{known-grows}
use Rattle.reader.proofs.Snoc.{snoc, onto, onto-none, onto-done, onto-refused, onto-snoc, nodes-snoc, ordinals-snoc, key-adds, write-adds, length-snoc}
use Rattle.reader.proofs.Snoc.{ordinals-le, flat_append, table-snoc, takes-snoc}
use Rattle.reader.proofs.Stored.{run_kept, run_word, points_kept, points_skip}

-- ---- the pairs in the table grow at their end

or_swap : (a b c : Bool) → (a || (b || c)) ≡ (b || (a || c))
or_swap true true c = refl
or_swap true false c = refl
or_swap false true c = refl
or_swap false false c = refl

has_snoc : (x k : Key) (ks : List Key) → has_key x (ks ++ (k ∷ [])) ≡ (same_key x k || has_key x ks)
has_snoc x k [] = refl
has_snoc x k (j ∷ ks) = ap (λ (b : Bool). same_key x j || b) (has_snoc x k ks) ∙ or_swap (same_key x j) (same_key x k) (has_key x ks)

-- the key at a node, where the words are as they were
held_kept : {o : Bool} {s : List ℕ} (t t' : List ℕ) (k : Key) (i : ℕ) → ((j : ℕ) → j < width → word_at t' i j ≡ word_at t i j) → Held o s k (key_words_at t i)
    → Held o s k (key_words_at t' i)
held_kept t t' k i same h = rw (same 0 (lit< tt), same 2 (lit< tt), same 3 (lit< tt)) h

chain_more : {o : Bool} {s t : List ℕ} (t' : List ℕ) {i n : ℕ} {ks : List Key} (k : Key) (m : ℕ) → KeptBelow t t' n → Held o s k (key_words_at t' n)
    → word_at t' n pair_end ≡ m → n + 1 < m → Chain o s t i n ks → Chain o s t' i m (ks ++ (k ∷ []))
chain_more t' k m same h e l none = pair h e l none
chain_more {t = t} t' k m same h e l (pair {i = i} {k = j} a b u c) =
    let q = chain-le c in
    pair (held_kept t t' j i (λ x v. same (i * width + x) (omega arith)) a) (same (i * width + pair_end) (omega arith) ∙ b) u (chain_more t' k m same h e l c)

-- ---- what the loop keeps

unfoldable rest_at : (s : List ℕ) (capacity container levels more : ℕ) → List Key → Cursor → Answer (Values × List ℕ)
rest_at s capacity container levels more earlier c =
    read_pairs (setting_at s capacity) (inner_at s capacity levels) (is_array_tag container) more earlier c.ordinal c.node (drop c.at s)

pub record Run (s t₀ t m₀ m : List ℕ) (capacity container count : ℕ) (c₀ c : Cursor) (more : ℕ) (seen : Seen) : Type 0 where
  pub pairs : Values
  pub earlier : List Key
  all : pairs_at s capacity container count c₀ ≡ onto pairs (rest_at s capacity container c₀.levels more earlier c)
  pub keys : Earlier (is_array_tag container) s t m c₀.node c.node seen earlier
  node : c.node ≡ c₀.node + nodes_in pairs
  ordinal : c.ordinal ≡ c₀.ordinal + ordinals_in own pairs
  behind : c.at ≡ c₀.at + length (write_pairs pairs [])
  levels : c.levels ≡ c₀.levels
  pub fit : Fit s t capacity c
  kept : KeptBelow t₀ t c₀.node
  wrote : WroteIn t₀ t c₀ c pairs
  pub long : length t ≡ length t₀
  pub grown : Grows m₀ m
  pub filter-long : length m ≡ length m₀

pub run_start : (s t m : List ℕ) (capacity container count more : ℕ) (c : Cursor) → more ≡ count → Fit s t capacity c
    → Run s t t m m capacity container count c c more Seen.Nothing
unfolding write pairs_at rest_at
run_start s t m capacity container count more c e f =
    record {
      pairs = tree.none;
      earlier = [];
      all = rw e (sym (onto-none (rest_at s capacity container c.levels count [] c)));
      keys = record { keys = []; chain = none; same = λ k. refl; known = refl };
      node = omega arith;
      ordinal = omega arith;
      behind = omega arith;
      levels = refl;
      fit = f;
      kept = λ i h. refl;
      wrote = record { of = λ to p q. (refl, p) };
      long = refl;
      grown = grows_none m;
      filter-long = refl;
    }

module _ {s t₀ t m₀ m : List ℕ} {capacity container count : ℕ} {c₀ c : Cursor} {more : ℕ} {seen : Seen}
    (r : Run s t₀ t m₀ m capacity container count c₀ c more seen) where
  pub run_on : c₀.at ≤ c.at
  run_on = omega (arith, r.behind)

  abbrev given : Answer (Values × List ℕ)
  given = pairs_at s capacity container count c₀

  pub run_done : more ≡ 0 → GoodPairs s t₀ t capacity c₀ given c
  unfolding rest_at
  run_done e =
      record {
        pairs = r.pairs;
        is = r.all ∙ rw (rest_at, e) (onto-done r.pairs (drop c.at s));
        on = run_on;
        inside = r.fit.inside;
        node = r.node;
        fits = r.fit.node;
        ordinal = r.ordinal;
        levels = r.levels;
        kept = r.kept;
        wrote = r.wrote;
      }

  module _ (left : ℕ) (some : more ≡ suc left) where
    -- the pairs that are left are a key, a value and the pairs behind them
    all_left : given ≡ onto r.pairs (rest_at s capacity container c₀.levels (suc left) r.earlier c)
    all_left = r.all ∙ rw some

    rest_bad : (code at : ℕ) → rest_at s capacity container c₀.levels (suc left) r.earlier c ≡ refused code at → given ≡ refused code at
    rest_bad code at e = all_left ∙ ap (onto r.pairs) e ∙ onto-refused r.pairs code at

    pub run_key_bad : (code at : ℕ) → key_at s capacity container r.earlier c ≡ refused code at → given ≡ refused code at
    unfolding rest_at key_at
    run_key_bad code at e = rest_bad code at (rw e)

    module _ (t₁ : List ℕ) (mid : Cursor) (k : GoodKey (is_array_tag container) s t t₁ capacity c (key_at s capacity container r.earlier c) mid) where
      value-is : inner_at s capacity c₀.levels c.ordinal (suc c.node) (drop mid.at s) ≡ value_at s capacity mid
      unfolding inner_at value_at
      value-is =
          let a : c₀.levels ≡ mid.levels = sym (k.levels ∙ r.levels) in
          let b : c.ordinal ≡ mid.ordinal = sym k.ordinal in
          let d : suc c.node ≡ mid.node = omega (arith, k.node) in
          rw (a, b, d)

      pub run_value_bad : (code at : ℕ) → value_at s capacity mid ≡ refused code at → given ≡ refused code at
      unfolding rest_at key_at
      run_value_bad code at e = rest_bad code at (rw (k.is, value-is, e))

      pub mid_fit : length t₁ ≡ length t → Fit s t₁ capacity mid
      mid_fit l = let f = r.fit in record { inside = k.inside; table = omega arith; node = k.fits; ordinal = omega (arith, k.node, k.ordinal) }

      key-long : mid.at ≡ value_offset c.at k.key
      unfolding key_at
      key-long =
          let w = key-written (terms_at capacity) s (is_array_tag container) r.earlier c.node (drop c.at s) (k.key, drop mid.at s) k.is in
          let f = r.fit in
          omega (arith, ap length w, key-adds k.key (drop mid.at s), length-drop c.at s, length-drop mid.at s, k.inside, k.on)

      module _ (t₂ : List ℕ) (after : Cursor) (g : GoodValue s t₁ t₂ capacity mid (value_at s capacity mid) after) (l₁ : length t₁ ≡ length t)
          (l₂ : length t₂ ≡ length t₁)
          (m₁ m₂ : List ℕ) (n₁ : length m₁ ≡ length m) (n₂ : length m₂ ≡ length m₁) (step : Step) (done : step ≡ Ok mid)
          (a : Remembers (is_array_tag container) s t t₁ m m₁ c₀.node c.node seen step) (b : Grows m₁ m₂)
          (seen' : Seen) (w : KeyWords) (of-key : w ≡ key_words_in t₁ c.node) (e : seen' ≡ next seen w) where
        value-long : after.at ≡ mid.at + length (write g.value [])
        unfolding value_at
        value-long =
            let w = value_written (terms_at capacity) s mid.levels mid.ordinal mid.node (drop mid.at s) (g.value, drop after.at s) g.is in
            omega (
              arith,
              ap length w,
              write-adds g.value (drop after.at s),
              length-drop after.at s,
              length-drop mid.at s,
              k.inside,
              g.inside,
              g.on,
            )

        rest_good : rest_at s capacity container c₀.levels (suc left) r.earlier c
            ≡ (rest_at s capacity container c₀.levels left (k.key ∷ r.earlier) after >>= λ q. ok (tree.pair k.key g.value q.0, q.1))
        unfolding rest_at key_at
        rest_good =
            let x : c.ordinal + ordinals own g.value ≡ after.ordinal = omega (arith, g.ordinal, k.ordinal) in
            let y : suc (c.node + nodes g.value) ≡ after.node = omega (arith, g.node, k.node) in
            rw (k.is, value-is, g.is, x, y)

        ordinal-none : (j : Key) (o i : ℕ) → get_or (words (key_node o i j)) 1 0 ≡ 0
        ordinal-none (int_key x) o i = refl
        ordinal-none (string_key q) o i = refl

        nodes-some : (v : Value) → 1 ≤ nodes v
        nodes-some (leaf x) = omega arith
        nodes-some (ref n) = omega arith
        nodes-some (branch h ps) = omega arith

        same-below : KeptBelow t t₂ c.node
        same-below i h = g.kept i (omega (arith, k.node)) ∙ run_kept t t₁ (words (key_node c.at c.node k.key)) c.node k.table i h

        ends : word_at t₂ c.node pair_end ≡ after.node
        ends = ap (λ (i : ℕ). get_or t₂ i 0) (behind k.node) ∙ g.end
          where
            behind : mid.node ≡ c.node + 1 → c.node * width + pair_end ≡ mid.node * width + end_word
            behind e = omega arith

        listed : Earlier (is_array_tag container) s t₂ m₂ c₀.node after.node seen' (k.key ∷ r.earlier)
        listed =
            record {
              keys = r.keys.keys ++ (k.key ∷ []);
              chain = chain_more t₂ k.key after.node same-below
                  (held_kept t₁ t₂ k.key c.node (λ j h. g.kept (c.node * width + j) (omega (arith, k.node))) k.held) ends
                  (omega (arith, g.node, k.node, nodes-some g.value)) r.keys.chain;
              same = λ x. ap (λ (b : Bool). same_key x k.key || b) (r.keys.same x) ∙ sym (has_snoc x k.key r.keys.keys);
              known = subst (λ (z : Seen). Known z m₂ c₀.node (r.keys.keys ++ (k.key ∷ [])))
                  (sym (e ∙ ap (next seen) (of-key ∙ key-there t₁ c.node (omega (arith, k.node, k.fits, r.fit, l₁)))))
                  (known-grows (next seen (key_words_at t₁ c.node)) m₁ m₂ c₀.node (r.keys.keys ++ (k.key ∷ [])) b
                  (a.known mid (ap step_answer done) k.key r.keys.keys k.held r.keys.chain r.keys.known));
            }

        writes : (to : ℕ → ℕ) → Points to t₀ c₀.node c₀.ordinal → TakesIn to c₀.node (suc c₀.ordinal) (snoc r.pairs k.key g.value)
            → (t₂ ≡ sets t₀ (c₀.node * width) (flat (table_in to c₀.at c₀.node (suc c₀.ordinal) (snoc r.pairs k.key g.value))))
            × Points to t₂ after.node after.ordinal
        writes to p q =
            let q' = takes-snoc to r.pairs k.key g.value c₀.node (suc c₀.ordinal) q in
            let w₀ = r.wrote.of to p q'.0 in
            let ks : List ℕ = words (key_node c.at c.node k.key) in
            let p₁ : Points to t₁ mid.node mid.ordinal =
            subst₂ (λ (x y : ℕ). Points to t₁ x y) (sym k.node) (sym k.ordinal)
            (points_skip to t₁ c.node c.ordinal (points_kept to t t₁ c.node c.ordinal w₀.1 (run_kept t t₁ ks c.node k.table))
            (run_word t t₁ ks c.node 1 k.table (lit< tt) (room r.fit) ∙ ordinal-none k.key c.at c.node)) in
            let q₁ : Takes to mid.node (suc mid.ordinal) g.value = subst₂ (λ (x y : ℕ). Takes to x y g.value) nodes-are ordinals-are q'.1 in
            let w₁ = g.wrote.of to p₁ q₁ in (
              w₁.0
                  ∙ ap (λ (u : List ℕ). sets u (mid.node * width) (vs to)) k.table
                  ∙ sets-append ks (vs to) t (c.node * width) (mid.node * width) (omega (arith, k.node))
                  ∙ ap (λ (u : List ℕ). sets u (c.node * width) (ks ++ vs to)) w₀.0
                  ∙ sets-append (before to) (ks ++ vs to) t₀ (c₀.node * width) (c.node * width)
                  (omega (
                    arith,
                    flat-length (table_in to c₀.at c₀.node (suc c₀.ordinal) r.pairs),
                    table_in-length to r.pairs c₀.at c₀.node (suc c₀.ordinal),
                    r.node,
                  ))
                  ∙ ap (sets t₀ (c₀.node * width)) (rows to),
              w₁.1,
            )
          where
            before : (ℕ → ℕ) → List ℕ
            before to = flat (table_in to c₀.at c₀.node (suc c₀.ordinal) r.pairs)

            vs : (ℕ → ℕ) → List ℕ
            vs to = flat (table to mid.at mid.node (suc mid.ordinal) g.value)

            room : Fit s t capacity c → c.node * width + width ≤ length t
            room f = omega (arith, k.fits, k.node)

            nodes-are : suc (c₀.node + nodes_in r.pairs) ≡ mid.node
            nodes-are = omega (arith, r.node, k.node)

            ordinals-are : suc c₀.ordinal + ordinals_in own r.pairs ≡ suc mid.ordinal
            ordinals-are = omega (arith, r.ordinal, k.ordinal)

            next-node : suc c.node ≡ mid.node
            next-node = omega (arith, k.node)

            rows : (to : ℕ → ℕ)
                → before to ++ (words (key_node c.at c.node k.key) ++ vs to) ≡ flat
                (table_in to c₀.at c₀.node (suc c₀.ordinal) (snoc r.pairs k.key g.value))
            rows to =
                sym (ap flat (table-snoc to r.pairs k.key g.value c₀.at c₀.node (suc c₀.ordinal) c.at c.node (suc mid.ordinal)
                r.behind r.node (sym ordinals-are))
                ∙ flat_append (table_in to c₀.at c₀.node (suc c₀.ordinal) r.pairs)
                (key_node c.at c.node k.key ∷ table to (value_offset c.at k.key) (suc c.node) (suc mid.ordinal) g.value)
                ∙ ap (λ (n : ℕ). before to
                ++ (words (key_node c.at c.node k.key) ++ flat (table to n (suc c.node) (suc mid.ordinal) g.value))) (sym key-long)
                ∙ ap (λ (n : ℕ). before to ++ (words (key_node c.at c.node k.key) ++ flat (table to mid.at n (suc mid.ordinal) g.value)))
                next-node)

        pub run_more : Run s t₀ t₂ m₀ m₂ capacity container count c₀ after left seen'
        run_more =
            record {
              pairs = snoc r.pairs k.key g.value;
              earlier = k.key ∷ r.earlier;
              all = all_left ∙ ap (onto r.pairs) rest_good
                  ∙ onto-snoc r.pairs k.key g.value (rest_at s capacity container c₀.levels left (k.key ∷ r.earlier) after);
              keys = listed;
              node = omega (arith, r.node, k.node, g.node, nodes-snoc r.pairs k.key g.value);
              ordinal = omega (arith, r.ordinal, k.ordinal, g.ordinal, ordinals-snoc r.pairs k.key g.value);
              behind = omega (arith, r.behind, key-long, value-long, length-snoc r.pairs k.key g.value);
              levels = g.levels ∙ k.levels ∙ r.levels;
              fit = fits r.fit;
              kept = λ i h. same-below i (omega (arith, r.node)) ∙ r.kept i h;
              wrote = record { of = writes };
              long = l₂ ∙ l₁ ∙ r.long;
              grown = grows-on r.grown (grows-on a.grows b);
              filter-long = n₂ ∙ n₁ ∙ r.filter-long;
            }
          where
            fits : Fit s t capacity c → Fit s t₂ capacity after
            fits f = record {
              inside = g.inside;
              table = omega arith;
              node = g.fits;
              ordinal = omega (arith, g.ordinal, g.node, k.ordinal, k.node, ordinals-le g.value);
            }
