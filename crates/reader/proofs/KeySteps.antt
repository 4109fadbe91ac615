-- The steps of reading a key, by the definitions of reading. Assumes nothing.
use Rattle.std.proofs.Common.{◌≡◌, ℕ, suc, ◌+◌, ◌-◌, ◌*◌, ◌<◌, ◌≤◌, Bool, true, false, not, eqb, List, [], ◌∷◌, ◌++◌, length, get_or, take, drop, sym}
use Rattle.std.proofs.Common.{refl, ap, ◌∙◌, subst, ⊎_elim, add-zero, add-one, arith, lit<, length-drop, drop-cons, le-ltb, lt-ltb}
use lib.Seq.{sets}
use Rattle.format.specs.Bytes.{byte}
use Rattle.format.specs.Kind.{Kind, tag, is_tag_of, key_kinds, may_be_key}
use Rattle.format.specs.Syntax.{int_key, string_key, Key, write_number, write_key}
use Rattle.format.specs.Keys.{has_key}
use Rattle.format.specs.Answer.{Answer, ok, refused, ◌>>=◌, require}
use Rattle.format.specs.Read.{key_text, read_key}
use Rattle.format.specs.Table.{Node, words, width, word_at, tag_word, content_word, size_word, key_node, text_offset}
use Rattle.format.proofs.Texts.{KeyKind, is-int, is-string, key_text-ok}
use Rattle.format.proofs.Fronts.{number-length, quoted_length}
use Rattle.format.proofs.Places.{quoted_text_lem}
use Rattle.scanner.specs.declared.Text.{Text}
use Rattle.scanner.specs.Scans.{Found}
use Rattle.reader.specs.declared.cursor.Cursor.{Cursor}
use Rattle.keys.specs.declared.KeyWords.{KeyWords}
use Rattle.keys.specs.KeyWords.{key_words_at, key_kind, Says, Held}
use Rattle.reader.specs.Texts.{kind_for, is_array_tag, key_told}
use Rattle.reader.specs.Nodes.{node_of, NodeAdded}
use Rattle.reader.specs.declared.seen.Seen.{Seen}
use Rattle.reader.specs.KeysSeen.{Known, next, Tested}
use Rattle.reader.specs.Steps.{Step, Fit, Earlier, GoodKey, Remembers, key_at}
use Rattle.reader.proofs.Tagged.{position-is, tag-end, tag-other, tag_is, key-kind-is, key-any, one_of}
use Rattle.reader.proofs.Bodies.{key-told, key-of-int, key-of-string}
use Rattle.reader.proofs.Stored.{run_word}

-- what the scan of a key says of its words
module _ (a : Bool) (s : List ℕ) (at b : ℕ) (may : may_be_key b ≡ true) (here : at < length s) (tagged : get_or s at 0 ≡ b) (x : Text)
    (f : Found (key_text a (kind_for b)) (key_told (at + 1)) s (at + 1) x) where
  which : KeyKind (kind_for b)
  unfolding kind_for
  which = ⊎_elim (λ e. is-int (rw e)) (λ o. ⊎_elim (λ e. is-string (rw e)) (λ z. absurd z) o) (one_of (key_kinds true) b may)

  kind-is : key_kind f.what ≡ kind_for b
  kind-is = go which
    where
      go : KeyKind (kind_for b) → key_kind f.what ≡ kind_for b
      go (is-int e) =
          key-of-int a 0 (drop (at + 1) s) (
            f.what,
            drop x.next s,
          ) (subst (λ (k : Kind). key_text a k 0 (drop (at + 1) s) ≡ ok (f.what, drop x.next s)) e (f.is 0))
          ∙ sym e
      go (is-string e) =
          key-of-string a 0 (drop (at + 1) s) (
            f.what,
            drop x.next s,
          ) (subst (λ (k : Kind). key_text a k 0 (drop (at + 1) s) ≡ ok (f.what, drop x.next s)) e (f.is 0))
          ∙ sym e

  tag_back : tag (kind_for b) ≡ b
  unfolding kind_for
  tag_back = ⊎_elim (λ e. rw e) (λ o. ⊎_elim (λ e. rw e) (λ z. absurd z) o) (one_of (key_kinds true) b may)

  key-node : (i : ℕ) → key_node at i f.what ≡ node_of b 0 (suc i) x
  key-node i =
      key-told at i x.next f.what
      ∙ ap (λ (k : ℕ). node_of k 0 (suc i) (key_told (at + 1) f.what x.next)) (ap tag kind-is ∙ tag_back)
      ∙ ap (node_of b 0 (suc i)) (sym f.tells)

  written : tag (kind_for b) ∷ drop (at + 1) s ≡ write_key f.what (drop x.next s)
  written = (key_text-ok a (kind_for b) 0 (drop (at + 1) s) (f.what, drop x.next s) which (f.is 0)).text

  at_key : drop at s ≡ write_key f.what (drop x.next s)
  at_key =
      drop-cons s at 0 here ∙ ap (λ (k : ℕ). k ∷ drop (suc at) s) (tagged ∙ sym tag_back) ∙ ap (λ (k : ℕ). tag (kind_for b) ∷ drop k s) (sym (add-one at))
      ∙ written

  says : (k : Key) → drop at s ≡ write_key k (drop x.next s) → x ≡ key_told (at + 1) k x.next → Says s k x.content x.size
  says (int_key y) w e = sym (ap (λ (u : Text). u.content) e)
  says (string_key q) w e =
      let o : x.content ≡ at + 1 + 3 + length (write_number q.spelling (length q.text) []) = ap (λ (u : Text). u.content) e in
      let n : x.size ≡ length q.text = ap (λ (u : Text). u.size) e in
      let z : text_offset at q ≡ x.content = omega (arith, o) in (
        sym (ap (λ (k : ℕ). take k (drop x.content s)) n ∙ ap (λ (k : ℕ). take (length q.text) (drop k s)) (sym z)
            ∙ quoted_text_lem s at (byte "s") q (byte ";" ∷ drop x.next s) w),
        omega (arith, o, n, ap length w, length-drop at s, quoted_length q (byte ";" ∷ drop x.next s), number-length q.spelling (length q.text) []),
      )

  pub held_of : is_tag_of (key_kinds a) b ≡ true → Held a s f.what (record { tag = b; content = x.content; size = x.size })
  held_of e =
      record {
        is = sym (ap tag kind-is ∙ tag_back);
        allowed = e;
        says = says f.what at_key f.tells;
        fits = (key_text-ok a (kind_for b) 0 (drop (at + 1) s) (f.what, drop x.next s) which (f.is 0)).fits;
      }

-- ---- the words of a key that is added

added-words : (t t' : List ℕ) (c c' : Cursor) (b : ℕ) (x : Text) → c.node * width + width ≤ length t → NodeAdded t t' c b x false c'
    → key_words_at t' c.node ≡ record { tag = b; content = x.content; size = x.size }
added-words t t' c c' b x room p =
    of_words (word_at t' c.node tag_word) b (word_at t' c.node content_word) x.content (word_at t' c.node size_word) x.size (word-is 0 (lit< tt))
    (word-is 2 (lit< tt)) (word-is 3 (lit< tt))
  where
    ws : List ℕ
    ws = words (node_of b 0 (c.node + 1) x)

    word-is : (j : ℕ) → j < length ws → word_at t' c.node j ≡ get_or ws j 0
    word-is j u = run_word t t' ws c.node j p.table u room

    of_words : (a₁ a₂ b₁ b₂ d₁ d₂ : ℕ) → a₁ ≡ a₂ → b₁ ≡ b₂ → d₁ ≡ d₂
        → ◌≡◌ {A = KeyWords} (record { tag = a₁; content = b₁; size = d₁ }) (record { tag = a₂; content = b₂; size = d₂ })
    of_words a₁ a₂ b₁ b₂ d₁ d₂ u v w = rw (u, v, w)

-- ---- what is known of the keys

-- the test is told whether the container is an array
pub told_array : {s t m m' : List ℕ} {first node : ℕ} {w : KeyWords} {seen : Seen} {r : Bool} (container : ℕ)
    → Tested (eqb container (tag Kind.array)) s t m m' first node w seen r → Tested (is_array_tag container) s t m m' first node w seen r
unfolding is_array_tag
told_array container d = d

pub one_more : (of_array : Bool) (s t t' m m' : List ℕ) (first capacity : ℕ) (seen : Seen) (c c' : Cursor) (b : ℕ) (x : Text) (r : Step) (found : Bool)
    → Fit s t capacity c → c.node < capacity → Tested of_array s t m m' first c.node (record { tag = b; content = x.content; size = x.size }) seen found
    → NodeAdded t t' c b x false c' → Remembers of_array s t t' m m' first c.node seen r
one_more of_array s t t' m m' first capacity seen c c' b x r found fit room d p =
    record {
      grows = d.grows;
      known = λ c'' q k ks h l u.
          subst (λ (w : KeyWords). Known (next seen w) m' first (ks ++ (k ∷ []))) (sym same) (d.known k ks (subst (Held of_array s k) same h) l u);
    }
  where
    same : key_words_at t' c.node ≡ record { tag = b; content = x.content; size = x.size }
    same = added-words t t' c c' b x (omega (arith, fit.table)) p

-- ---- the steps

module _ (s : List ℕ) (capacity container : ℕ) (c : Cursor) (earlier : List Key) where
  abbrev given : Answer (Key × List ℕ)
  given = key_at s capacity container earlier c

  abbrev a : Bool
  a = is_array_tag container

  abbrev among : List Kind
  among = key_kinds a

  abbrev l : ℕ
  l = length s - length (drop c.at s)

  pub key-end : length s ≤ c.at → c.at ≤ length s → given ≡ refused 2 c.at
  unfolding key_at read_key
  key-end h i = rw (read_key, tag-end among 4 l s c.at h, position-is s c.at i)

  module _ (b : ℕ) (h : c.at < length s) (q : get_or s c.at 0 ≡ b) where
    inside : c.at ≤ length s
    inside = omega arith

    pub key-other : is_tag_of among b ≡ false → given ≡ refused 4 c.at
    unfolding key_at read_key
    key-other e = rw (read_key, tag-other among 4 l s c.at b h q e, position-is s c.at inside)

    module _ (e : is_tag_of among b ≡ true) where
      pub key-full : capacity ≤ c.node → given ≡ refused 7 c.at
      unfolding key_at read_key
      key-full f = rw (read_key, tag_is among 4 l s c.at b h q e, le-ltb c.node capacity f, position-is s c.at inside)

      module _ (room : c.node < capacity) where
        -- what follows the tag
        abbrev rest : Key × List ℕ → Answer (Key × List ℕ)
        rest (k, s₂) = require (not (has_key k earlier)) 9 c.at >>= λ u. ok (k, s₂)

        opened : given ≡ (key_text a (kind_for b) c.at (drop (c.at + 1) s) >>= rest)
        unfolding key_at read_key
        opened = rw (
          read_key,
          tag_is among 4 l s c.at b h q e,
          key-kind-is a b e,
          lt-ltb c.node capacity room,
          position-is s c.at inside,
        )

        pub key_not : (code at : ℕ) → key_text a (kind_for b) c.at (drop (c.at + 1) s) ≡ refused code at → given ≡ refused code at
        key_not code at z = opened ∙ rw z

        module _ (x : Text) (f : Found (key_text a (kind_for b)) (key_told (c.at + 1)) s (c.at + 1) x) where
          may : may_be_key b ≡ true
          may = key-any a b e

          key-held : Held a s f.what (record { tag = b; content = x.content; size = x.size })
          key-held = held_of a s c.at b may h q x f e

          -- the test says whether it is among those read before
          module _ {t m m' : List ℕ} {first : ℕ} {seen : Seen} {found : Bool}
              (d : Tested a s t m m' first c.node (record { tag = b; content = x.content; size = x.size }) seen found)
              (before : Earlier a s t m first c.node seen earlier) where
            tested : has_key f.what earlier ≡ found
            tested = before.same f.what ∙ sym (d.answer f.what before.keys key-held before.chain before.known)

            pub key_twice : found ≡ true → given ≡ refused 9 c.at
            key_twice z = let g = tested ∙ z in opened ∙ rw (f.is c.at, g)

            pub key_good : found ≡ false → (t' : List ℕ) (c' : Cursor) → Fit s t capacity c → NodeAdded t t' c b x false c'
                → GoodKey a s t t' capacity c given c'
            key_good z t' c' fit p =
                let g = tested ∙ z in
                subst (GoodKey a s t t' capacity c given) (sym p.cursor) (record {
                  key = f.what;
                  is = opened ∙ rw (f.is c.at, g);
                  on = omega (arith, f.on);
                  inside = f.inside;
                  node = refl;
                  fits = omega arith;
                  ordinal = add-zero c.ordinal;
                  levels = refl;
                  table = p.table ∙ ap (λ (n : ℕ). sets t (c.node * width) (words (node_of b 0 n x))) (add-one c.node)
                      ∙ ap (λ (n : Node). sets t (c.node * width) (words n)) (sym (key-node a s c.at b may h q x f c.node));
                  held = subst (Held a s f.what) (sym (added-words t t' c c' b x (omega arith) p)) key-held;
                })
