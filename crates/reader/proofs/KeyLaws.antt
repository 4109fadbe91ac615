-- Laws of keys and of the pairs that stand in the table. Assumes nothing.
use Rattle.std.proofs.Common.{◌≡◌, ℕ, ◌+◌, ◌*◌, ◌<◌, ◌≤◌, Bool, true, false, eqb, List, [], ◌∷◌, ◌++◌, length, sym, refl, ap, ◌∙◌, subst, arith}
use Rattle.std.proofs.Common.{ltb-true, le-ltb, lt-ltb, ne_eqb, eqb-true}
use Rattle.std.proofs.Math.Logic.{∥∥₁_map, ∥∥₁_elim}
use Rattle.std.proofs.Props.{props}
use Rattle.decimal.proofs.Decide.{T_of, T_true, and_left, and_right}
use Rattle.format.specs.Kind.{Kind, tag}
use Rattle.format.specs.Syntax.{Quoted, int_key, string_key, Key}
use Rattle.format.specs.Keys.{integer, same_key, has_key}
use Rattle.format.specs.Fits.{KeyFits}
use Rattle.format.specs.Table.{width, word_at, pair_end, word}
use Rattle.format.proofs.Words.{same_word}
use Rattle.keys.specs.declared.KeyWords.{KeyWords}
use Rattle.keys.specs.KeyWords.{key_words_at, key_words_in, key_said, keys_said, Held, Chain, none, pair}
use Rattle.keys.proofs.NodeKeys.{key-there}
use Rattle.keys.proofs.Chains.{chain-le, said_has}
use Rattle.key_filter.specs.Hash.{hash_words, hash_key}
use Rattle.key_filter.specs.Filter.{marked, Entered, Grows, AllMarked}
use Rattle.key_filter.proofs.Hashing.{hash_held}
use Rattle.key_filter.proofs.Marking.{grows_none, grows-on, entered-grows, entered-marked, all_grow, all_snoc, all_none, new-key}
use Rattle.reader.specs.declared.seen.Seen.{Seen}
use Rattle.reader.specs.KeysSeen.{rank, key_or, Walk, KeyUnder, Under, Known, unmarked_from, above, rises, next, MarkedAll, Tested}

-- ---- pairs in the table

record Stepped (o : Bool) (s t : List ℕ) (i n : ℕ) (ks : List Key) : Type 0 where
  key : Key
  rest : List Key
  is : ks ≡ key ∷ rest
  held : Held o s key (key_words_at t i)
  on : i + 1 < word_at t i pair_end
  chain : Chain o s t (word_at t i pair_end) n rest

stepped : {o : Bool} {s t : List ℕ} {i n : ℕ} {ks : List Key} → Chain o s t i n ks → i < n → Stepped o s t i n ks
stepped {n = n} none h = absurd (omega arith)
stepped {o = o} {s = s} {t = t} {n = n} (pair {i = i} {k = k} {ks = ks} h e l c) lt =
    record { key = k; rest = ks; is = refl; held = h; on = omega arith; chain = subst (λ (x : ℕ). Chain o s t x n ks) (sym e) c }

-- ---- marking them

pub or_in : (t : List ℕ) (i n : ℕ) (w : KeyWords) → i < n → key_or t i n w ≡ key_words_at t i
unfolding key_or
or_in t i n w l = rw (key_or, lt-ltb i n l)

pub or_key : (t : List ℕ) (i n : ℕ) (w : KeyWords) → i < n → n * width ≤ length t → key_words_in t i ≡ key_or t i n w
or_key t i n w l h = key-there t i (omega (arith, l, h)) ∙ sym (or_in t i n w l)

pub or_behind : (t : List ℕ) (i n : ℕ) (w : KeyWords) → n ≤ i → key_or t i n w ≡ w
unfolding key_or
or_behind t i n w l = rw (key_or, le-ltb i n l)

-- what is left to mark
record Unmarked (o : Bool) (s t m : List ℕ) (first i n : ℕ) (all : List Key) : Type 0 where
  keys : List Key
  chain : Chain o s t i n keys
  rest : (m' : List ℕ) → Grows m m' → AllMarked m' first keys → AllMarked m' first all

-- marking goes on at node i, from node b on
pub record Marking (s t m₀ m : List ℕ) (first n b i : ℕ) : Type 0 where
  pub walk : ∥ Walk s t i n ∥₁
  pub grows : Grows m₀ m
  pub long : length m ≡ length m₀
  left : (o : Bool) (ks : List Key) → Chain o s t b n ks → Unmarked o s t m first i n ks

none_left : {o : Bool} {s t : List ℕ} {i n : ℕ} {ks : List Key} (m : List ℕ) (first : ℕ) → Chain o s t i n ks → n ≤ i → AllMarked m first ks
none_left m first none h = tt
none_left m first (pair p e o q) h = let z = chain-le q in absurd (omega arith)

walk_from : (s t : List ℕ) (first n : ℕ) (h : Seen) → Walk s t first n → Walk s t (unmarked_from h first n) n
walk_from s t first n Seen.Nothing a = a
walk_from s t first n (Seen.Upto top) a = a
walk_from s t first n Seen.Marked a = record { of_array = a.of_array; keys = []; chain = none }

pub marking_none : (s t m₀ : List ℕ) (first n b : ℕ) (h : Seen) → b ≡ unmarked_from h first n → ∥ Walk s t first n ∥₁ → Marking s t m₀ m₀ first n b b
marking_none s t m₀ first n b h e a =
    record {
      walk = ∥∥₁_map a (λ a. subst (λ (i : ℕ). Walk s t i n) (sym e) (walk_from s t first n h a));
      grows = grows_none m₀;
      long = refl;
      left = λ o ks c. record { keys = ks; chain = c; rest = λ m' g a. a };
    }

module _ {s t m₀ m : List ℕ} {first n b i : ℕ} (l : Marking s t m₀ m first n b i) where
  -- a pair ends behind its key, and not behind the last one
  pub marking-on : i < n → (i + 1 < word_at t i pair_end) × (word_at t i pair_end ≤ n)
  marking-on lt = ∥∥₁_elim l.walk (Prim.hlevel props) (λ a. let p = stepped a.chain lt in (p.on, chain-le p.chain))

  -- the key at hand is entered
  module _ (m₁ : List ℕ) (hash : ℕ) (r : Bool) (w w' : KeyWords) (e : w ≡ key_or t i n w') (q : hash ≡ hash_words s first w) (d : Entered m m₁ hash r) where
    module _ {o : Bool} (v : KeyWords) (is : key_or t i n w' ≡ v) (k : Key) (held : Held o s k v) where
      hash_is : hash ≡ hash_key first k
      hash_is = q ∙ ap (hash_words s first) (e ∙ is) ∙ hash_held s first v k held

      own : marked m₁ (hash_key first k) ≡ true
      own = ap (marked m₁) (sym hash_is) ∙ entered-marked d

    grown : Grows m₀ m₁
    grown = grows-on l.grows (entered-grows d)

    pub marking_more : i < n → length m₁ ≡ length m → Marking s t m₀ m₁ first n b (word_at t i pair_end)
    marking_more lt size =
        record {
          walk = ∥∥₁_map l.walk (λ a. let p = stepped a.chain lt in record { of_array = a.of_array; keys = p.rest; chain = p.chain });
          grows = grown;
          long = size ∙ l.long;
          left = λ o ks c.
              let x = l.left o ks c in
              let p = stepped x.chain lt in
              record {
                keys = p.rest;
                chain = p.chain;
                rest = λ m' g a.
                    let mine = g.keeps (hash_key first p.key) (own (key_words_at t i) (or_in t i n w' lt) p.key p.held) in
                    x.rest m' (grows-on (entered-grows d) g) (subst (AllMarked m' first) (sym p.is) (mine, a));
              };
        }

    pub marking_end : n ≤ i → (h : Seen) → b ≡ unmarked_from h first n → MarkedAll s t m₀ m₁ first n w' h r
    marking_end le h f =
        record {
          grows = grown;
          all = λ o k ks g c u. all_snoc m₁ first ks k (earlier h f m₁ (entered-grows d) o ks c u) (own w' (or_behind t i n w' le) k g);
          new = λ z o k ks g c u.
              new-key m first k ks (ap (marked m) (sym (hash_is w' (or_behind t i n w' le) k g)) ∙ sym d.answer ∙ z) (earlier h f m (grows_none m) o ks c u);
        }
      where
        from : (m' : List ℕ) → Grows m m' → (o : Bool) (ks : List Key) → Chain o s t b n ks → AllMarked m' first ks
        from m' g o ks c = let x = l.left o ks c in x.rest m' g (none_left m' first x.chain le)

        earlier : (h : Seen) → b ≡ unmarked_from h first n → (m' : List ℕ) → Grows m m' → (o : Bool) (ks : List Key) → Chain o s t first n ks
            → Known h m₀ first ks → AllMarked m' first ks
        earlier Seen.Nothing f m' g o ks c u = from m' g o ks (subst (λ (j : ℕ). Chain o s t j n ks) (sym f) c)
        earlier (Seen.Upto top) f m' g o ks c u = from m' g o ks (subst (λ (j : ℕ). Chain o s t j n ks) (sym f) c)
        earlier Seen.Marked f m' g o ks c u = all_grow m₀ m' first ks (grows-on l.grows g) u

-- ---- integers above all earlier ones

int_tag : {o : Bool} {s : List ℕ} {q : Quoted} {w : KeyWords} → Held o s (string_key q) w → w.tag ≡ tag Kind.int → ⊥
int_tag h e = let q = h.is in omega arith

higher-key : {o : Bool} (s : List ℕ) (k j : Key) (w : KeyWords) (top : ℕ) → Held o s k w → w.tag ≡ tag Kind.int → top < rank w.content → KeyFits j
    → KeyUnder top j → same_key k j ≡ false
higher-key s (string_key q) j w top h e a f u = absurd (int_tag h e)
higher-key s (int_key x) (string_key q) w top h e a f u = refl
higher-key s (int_key x) (int_key y) w top h e a f u =
    same_word x y h.fits f
    ∙ ne_eqb (word (integer x)) (word (integer y)) (λ q. omega (arith, a, u, ap rank (sym q ∙ h.says)))

higher-keys : {o : Bool} {s t : List ℕ} {i n : ℕ} {ks : List Key} (k : Key) (w : KeyWords) (top : ℕ) → Held o s k w → w.tag ≡ tag Kind.int
    → top < rank w.content → Chain o s t i n ks → Under top ks → false ≡ has_key k ks
higher-keys k w top h e a none u = refl
higher-keys {s = s} k w top h e a (pair {k = j} {ks = ks} g b l c) u = rw (higher-key s k j w top h e a g.fits u.0) (higher-keys k w top h e a c u.1)

under_more : (top r : ℕ) (ks : List Key) → top ≤ r → Under top ks → Under r ks
under_more top r [] l u = tt
under_more top r (int_key x ∷ ks) l u = (omega (arith, u.0), under_more top r ks l u.1)
under_more top r (string_key q ∷ ks) l u = (tt, under_more top r ks l u.1)

under-key : {o : Bool} (s : List ℕ) (k : Key) (w : KeyWords) → Held o s k w → KeyUnder (rank w.content) k
under-key s (int_key x) w g = omega (arith, ap rank g.says)
under-key s (string_key q) w g = tt

under-snoc : (r : ℕ) (ks : List Key) (k : Key) → Under r ks → KeyUnder r k → Under r (ks ++ (k ∷ []))
under-snoc r [] k u v = (v, tt)
under-snoc r (j ∷ ks) k u v = (u.0, under-snoc r ks k u.1 v)

-- ---- the test

next_rising : (h : Seen) (w : KeyWords) → rises h w ≡ true → next h w ≡ Seen.Upto (rank w.content)
unfolding next
next_rising h w e = rw (next, e)

next-marked : (h : Seen) (w : KeyWords) → rises h w ≡ false → next h w ≡ Seen.Marked
unfolding next
next-marked h w e = rw (next, e)

module _ (o : Bool) (s t m : List ℕ) (first n : ℕ) (w : KeyWords) (h : Seen) (b : Bool) (is : b ≡ rises h w) where
  module _ (up : b ≡ true) where
    tag-int : w.tag ≡ tag Kind.int
    unfolding rises
    tag-int = eqb-true w.tag 105 (T_true (eqb w.tag 105) (and_left (eqb w.tag 105) (above h (rank w.content)) (T_of (sym is ∙ up))))

    higher : above h (rank w.content) ≡ true
    unfolding rises
    higher = T_true (above h (rank w.content)) (and_right (eqb w.tag 105) (above h (rank w.content)) (T_of (sym is ∙ up)))

    pub tested_rising : Tested o s t m m first n w h false
    tested_rising =
        record {
          answer = λ k ks g c u. new h higher k ks g c u;
          known = λ k ks g c u. subst (λ (z : Seen). Known z m first (ks ++ (k ∷ []))) (sym (next_rising h w (sym is ∙ up)))
              (under-snoc (rank w.content) ks k (before h higher ks u) (under-key s k w g));
          grows = grows_none m;
        }
      where
        new : (h : Seen) → above h (rank w.content) ≡ true → (k : Key) (ks : List Key) → Held o s k w → Chain o s t first n ks → Known h m first ks
            → false ≡ has_key k ks
        new Seen.Nothing a k ks g c u = rw u
        new (Seen.Upto top) a k ks g c u = higher-keys k w top g tag-int (ltb-true top (rank w.content) a) c u
        new Seen.Marked a k ks g c u = absurd (let z : ◌≡◌ {A = ℕ} 0 1 = cc in omega arith)

        before : (h : Seen) → above h (rank w.content) ≡ true → (ks : List Key) → Known h m first ks → Under (rank w.content) ks
        before Seen.Nothing a ks u = rw u tt
        before (Seen.Upto top) a ks u = under_more top (rank w.content) ks (let l = ltb-true top (rank w.content) a in omega arith) u
        before Seen.Marked a ks u = absurd (let z : ◌≡◌ {A = ℕ} 0 1 = cc in omega arith)

  -- the test that walks
  module _ (room : n * width ≤ length t) (f : Bool) (walked : f ≡ has_key (key_said o s w) (keys_said o s t first n)) where
    answered : (k : Key) (ks : List Key) → Held o s k w → Chain o s t first n ks → f ≡ has_key k ks
    answered k ks g c = walked ∙ said_has s w k room g c

    pub tested_bare : b ≡ false → length m ≡ 0 → Tested o s t m m first n w h f
    tested_bare down e =
        record {
          answer = λ k ks g c u. answered k ks g c;
          known = λ k ks g c u. subst (λ (z : Seen). Known z m first (ks ++ (k ∷ []))) (sym (next-marked h w (sym is ∙ down)))
              (all_none m first (ks ++ (k ∷ [])) e);
          grows = grows_none m;
        }

  module _ (down : b ≡ false) (m₁ : List ℕ) (r : Bool) (a : MarkedAll s t m m₁ first n w h r) where
    listed : (k : Key) (ks : List Key) → Held o s k w → Chain o s t first n ks → Known h m first ks → Known (next h w) m₁ first (ks ++ (k ∷ []))
    listed k ks g c u = subst (λ (z : Seen). Known z m₁ first (ks ++ (k ∷ []))) (sym (next-marked h w (sym is ∙ down))) (a.all o k ks g c u)

    pub tested_new : r ≡ false → Tested o s t m m₁ first n w h false
    tested_new e = record { answer = λ k ks g c u. sym (a.new e o k ks g c u); known = listed; grows = a.grows }

    pub tested_walk : n * width ≤ length t → (f : Bool) → f ≡ has_key (key_said o s w) (keys_said o s t first n) → Tested o s t m m₁ first n w h f
    tested_walk room f e = record { answer = λ k ks g c u. answered room f e k ks g c; known = listed; grows = a.grows }

pub known-grows : (h : Seen) (m m' : List ℕ) (first : ℕ) (ks : List Key) → Grows m m' → Known h m first ks → Known h m' first ks
known-grows Seen.Nothing m m' first ks g u = u
known-grows (Seen.Upto top) m m' first ks g u = u
known-grows Seen.Marked m m' first ks g u = all_grow m m' first ks g u
