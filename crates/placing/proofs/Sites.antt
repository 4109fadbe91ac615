-- Where the array stands among a plan's tokens, and what inserting makes of them. Assumes nothing.
use Prim.Native.Nat.{ℕ, zero, suc, ◌+◌}
use native.Mathlib.Omega.{arith}
use mathlib.Core.Path.{◌≡◌, refl, sym, ap, ap₂, ◌∙◌}
use mathlib.Core.List.{List, [], ◌∷◌, ◌++◌, map, map-append, append_assoc}
use lib.ListN.{length}
use Rattle.format.specs.Tree.{leaf, ref, branch, none, pair, TreePath, count, nodes, nodes_in, map_pairs}
use Rattle.format.specs.Syntax.{array, Key, Scalar, Head, Value, Values, write_key, write}
use Rattle.format.specs.Edit.{put_pair, at_place, at_path, upto, raised, renumbered}
use Rattle.format.proofs.Maps.{count_map}
use Rattle.insertion.specs.Ways.{WayTo, found, inside, WayIn, first, later}
use Rattle.tokens.specs.Tokens.{Token, scalar, opening, closing, key_scalar, tokens, tokens_in, write_token, write_tokens, raised_token, nodes_of, opened}
use Rattle.tokens.specs.Tokens.{closed}
use Rattle.tokens.proofs.TokenLaws.{tokens_append, tokens-write, key-written}
use Rattle.placing.specs.Locating.{before, before_in}
use Rattle.placing.proofs.PairParts.{after}

-- ---- counts of tokens

pub nodes-append : (xs ys : List Token) → nodes_of (xs ++ ys) ≡ nodes_of xs + nodes_of ys
nodes-append [] ys = omega arith
nodes-append (x ∷ xs) ys = omega (arith, nodes-append xs ys)

pub opened-append : (xs ys : List Token) → opened (xs ++ ys) ≡ opened xs + opened ys
opened-append [] ys = omega arith
opened-append (x ∷ xs) ys = omega (arith, opened-append xs ys)

pub closed-append : (xs ys : List Token) → closed (xs ++ ys) ≡ closed xs + closed ys
closed-append [] ys = omega arith
closed-append (x ∷ xs) ys = omega (arith, closed-append xs ys)

-- a token a node, but for the closing braces; and what is opened is closed
mutual
  nodes-tokens : (v : Value) → nodes_of (tokens v) ≡ nodes v
  nodes-tokens (leaf x) = refl
  nodes-tokens (ref r) = refl
  nodes-tokens (branch h ps) = omega (arith, nodes-append (tokens_in ps) (closing ∷ []), nodes-pairs ps)

  pub nodes-pairs : (ps : Values) → nodes_of (tokens_in ps) ≡ nodes_in ps
  nodes-pairs none = refl
  nodes-pairs (pair k v ps) = omega (arith, nodes-append (tokens v) (tokens_in ps), nodes-tokens v, nodes-pairs ps)

mutual
  balanced : (v : Value) → opened (tokens v) ≡ closed (tokens v)
  balanced (leaf x) = refl
  balanced (ref r) = refl
  balanced (branch h ps) = omega (arith, opened-append (tokens_in ps) (closing ∷ []), closed-append (tokens_in ps) (closing ∷ []), balanced-pairs ps)

  pub balanced-pairs : (ps : Values) → opened (tokens_in ps) ≡ closed (tokens_in ps)
  balanced-pairs none = refl
  balanced-pairs (pair k v ps) = omega (arith, opened-append (tokens v) (tokens_in ps), closed-append (tokens v) (tokens_in ps), balanced v, balanced-pairs ps)

-- ---- the array among the tokens

-- the tokens of the array at hand, the ones before and behind it being the same whatever becomes of its head and its pairs
abbrev whole : List Token → Head → Values → List Token → List Token
whole front h ps back = front ++ (opening h (count ps) ∷ tokens_in ps ++ (closing ∷ back))

pub record SiteTokens (all : List Token) (edited : (Head → Head) → (Values → Values) → List Token) (earlier : (Value → List ℕ) → List ℕ)
    (node : ℕ) (a : TreePath) (qs : Values) : Type 0 where
  pub front : List Token
  pub head : Head
  pub back : List Token
  pub is-array : head.container ≡ array
  pub split : all ≡ whole front head qs back
  pub edits : (g : Head → Head) (f : Values → Values) → edited g f ≡ whole front (g head) (f qs) back
  -- what stands before a part of the array
  pub stands : (part : Value → List ℕ) → earlier part ≡ write_tokens front (part (branch head qs))
  pub nodes : nodes_of front ≡ node
  pub level : opened front ≡ closed front + length a

place-count : (q : ℕ) (f : Value → Value) (ps : Values) → count (at_place q f ps) ≡ count ps
place-count q f none = refl
place-count zero f (pair k v ps) = refl
place-count (suc q) f (pair k v ps) = ap suc (place-count q f ps)

-- behind more tokens, and before more
between : (xs front : List Token) (h : Head) (ps : Values) (back ys : List Token) → xs ++ (whole front h ps back ++ ys) ≡ whole (xs ++ front) h ps (back ++ ys)
between xs front h ps back ys =
    ap (λ (l : List Token). xs ++ l) (append_assoc front (opening h (count ps) ∷ tokens_in ps ++ (closing ∷ back)) ys
    ∙ ap (λ (l : List Token). front ++ (opening h (count ps) ∷ l)) (append_assoc (tokens_in ps) (closing ∷ back) ys))
    ∙ sym (append_assoc xs front (opening h (count ps) ∷ tokens_in ps ++ (closing ∷ back ++ ys)))

mutual
  pub site-tokens : {v : Value} {i : ℕ} {a : TreePath} {qs : Values} → WayTo v i a qs
      → SiteTokens (tokens v) (λ g f. tokens (at_path g f a v)) (λ part. before part a v) i a qs
  site-tokens (found h ps c) = record {
    front = [];
    head = h;
    back = [];
    is-array = c;
    split = refl;
    edits = λ g f. refl;
    stands = λ part. refl;
    nodes = refl;
    level = refl;
  }
  site-tokens (inside h {ps} {qs} {q = q} {a = a} w) =
      let s = site-tokens_in w in
      record {
        front = opening h (count ps) ∷ s.front;
        head = s.head;
        back = s.back ++ (closing ∷ []);
        is-array = s.is-array;
        split =
            ap (λ (l : List Token). opening h (count ps) ∷ l ++ (closing ∷ [])) s.split
            ∙ between (opening h (count ps) ∷ []) s.front s.head qs s.back (closing ∷ []);
        edits = λ g f.
            ap₂ (λ (n : ℕ) (l : List Token). opening h n ∷ l ++ (closing ∷ [])) (place-count q (at_path g f a) ps) (s.edits g f)
            ∙ between (opening h (count ps) ∷ []) s.front (g s.head) (f qs) s.back (closing ∷ []);
        stands = λ part. ap (write_token (opening h (count ps))) (s.stands part);
        nodes = omega (arith, s.nodes);
        level = omega (arith, s.level);
      }

  site-tokens_in : {ps : Values} {i q : ℕ} {a : TreePath} {qs : Values} → WayIn ps i q a qs
      → SiteTokens (tokens_in ps) (λ g f. tokens_in (at_place q (at_path g f a) ps)) (λ part. before_in q (before part a) ps) i a qs
  site-tokens_in (first k {v} ps {qs} w) =
      let s = site-tokens w in
      let key : Token = scalar (key_scalar k) in
      record {
        front = key ∷ s.front;
        head = s.head;
        back = s.back ++ tokens_in ps;
        is-array = s.is-array;
        split = ap (λ (l : List Token). key ∷ l ++ tokens_in ps) s.split ∙ between (key ∷ []) s.front s.head qs s.back (tokens_in ps);
        edits =
            λ g f. ap (λ (l : List Token). key ∷ l ++ tokens_in ps) (s.edits g f) ∙ between (key ∷ []) s.front (g s.head) (f qs) s.back (tokens_in ps);
        stands = λ part. ap (write_key k) (s.stands part) ∙ sym (key-written k _);
        nodes = omega (arith, s.nodes);
        level = omega (arith, s.level);
      }
  site-tokens_in (later k v {ps} {qs} e w) =
      let s = site-tokens_in w in
      let key : Token = scalar (key_scalar k) in
      record {
        front = key ∷ tokens v ++ s.front;
        head = s.head;
        back = s.back;
        is-array = s.is-array;
        split = ap (λ (l : List Token). key ∷ tokens v ++ l) s.split ∙ ap {B = List Token} (λ l. key ∷ l) (sym (append_assoc (tokens v) s.front _));
        edits = λ g f.
            ap (λ (l : List Token). key ∷ tokens v ++ l) (s.edits g f) ∙ ap {B = List Token} (λ l. key ∷ l) (sym (append_assoc (tokens v) s.front _));
        stands = λ part.
            ap (λ (r : List ℕ). write_key k (write v r)) (s.stands part)
            ∙ sym (key-written k _ ∙ ap (write_key k) (tokens_append (tokens v) s.front _ ∙ tokens-write v _));
        nodes = omega (arith, e, s.nodes, nodes-append (tokens v) s.front, nodes-tokens v);
        level = omega (arith, s.level, opened-append (tokens v) s.front, closed-append (tokens v) s.front, balanced v);
      }

-- ---- one pair more, and references raised

pub put_count : (p : ℕ) (k : Key) (u : Value) (ps : Values) → count (put_pair p k u ps) ≡ suc (count ps)
put_count zero k u ps = refl
put_count (suc p) k u none = refl
put_count (suc p) k u (pair j v ps) = ap suc (put_count p k u ps)

pub put-tokens : (p : ℕ) (k : Key) (x : Scalar) (ps : Values)
    → tokens_in (put_pair p k (leaf x) ps) ≡ tokens_in (upto p ps) ++ (scalar (key_scalar k) ∷ scalar x ∷ tokens_in (after p ps))
put-tokens zero k x ps = refl
put-tokens (suc p) k x none = refl
put-tokens (suc p) k x (pair j v ps) =
    ap (λ (l : List Token). scalar (key_scalar j) ∷ tokens v ++ l) (put-tokens p k x ps)
    ∙ ap {B = List Token} (λ l. scalar (key_scalar j) ∷ l)
    (sym (append_assoc (tokens v) (tokens_in (upto p ps)) (scalar (key_scalar k) ∷ scalar x ∷ tokens_in (after p ps))))

pub parts : (p : ℕ) (ps : Values) → tokens_in ps ≡ tokens_in (upto p ps) ++ tokens_in (after p ps)
parts zero ps = refl
parts (suc p) none = refl
parts (suc p) (pair j v ps) =
    ap (λ (l : List Token). scalar (key_scalar j) ∷ tokens v ++ l) (parts p ps)
    ∙ ap {B = List Token} (λ l. scalar (key_scalar j) ∷ l) (sym (append_assoc (tokens v) (tokens_in (upto p ps)) (tokens_in (after p ps))))

module _ (k : ℕ) where
  abbrev raised_pairs : Values → Values
  raised_pairs ps = map_pairs (λ j. j) (λ x. x) (λ h. h) (raised k) ps

  mutual
    pub tokens-raised : (v : Value) → tokens (renumbered k v) ≡ map (raised_token k) (tokens v)
    tokens-raised (leaf x) = refl
    tokens-raised (ref r) = refl
    tokens-raised (branch h ps) =
        ap₂ (λ (n : ℕ) (l : List Token). opening h n ∷ l ++ (closing ∷ [])) (count_map (λ j. j) (λ x. x) (λ h. h) (raised k) ps) (tokens_in-raised ps)
        ∙ ap {B = List Token} (λ l. opening h (count ps) ∷ l) (sym (map-append (raised_token k) (tokens_in ps) (closing ∷ [])))

    tokens_in-raised : (ps : Values) → tokens_in (raised_pairs ps) ≡ map (raised_token k) (tokens_in ps)
    tokens_in-raised none = refl
    tokens_in-raised (pair j v ps) =
        ap {B = List Token} (λ l. scalar (key_scalar j) ∷ l)
        (ap₂ ◌++◌ (tokens-raised v) (tokens_in-raised ps) ∙ sym (map-append (raised_token k) (tokens v) (tokens_in ps)))
