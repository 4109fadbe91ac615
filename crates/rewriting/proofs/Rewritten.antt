-- Stretches that stay, and tokens written again between them. Assumes nothing.
use Prim.Native.Nat.{ℕ, ◌+◌, ◌-◌, ◌≤◌, ◌<◌, min}
use native.Mathlib.Numerals.{add-one}
use native.Mathlib.Omega.{arith}
use mathlib.Core.Path.{◌≡◌, refl, sym, ap, ◌∙◌, subst}
use mathlib.Core.Bool.{Bool, true, false}
use mathlib.Core.List.{List, [], ◌++◌, append_assoc}
use lib.ListN.{length, take, drop}
use Rattle.decimal.proofs.Decide.{Order, below, above, order}
use Rattle.std.specs.Prelude.{Err}
use Rattle.format.specs.declared.codes.Code.{Code}
use Rattle.format.specs.Codes.{number_of}
use lib.Seq.{slice, slice_empty}
use Rattle.scanner.specs.declared.Text.{Text}
use Rattle.scanner.specs.Scans.{Scan, Found, Scans}
use Rattle.scanner.proofs.Numbers.{unfit-of}
use Rattle.format.specs.Table.{word_at, tag_word}
use Rattle.tokens.specs.Tokens.{Token, scalar, reference, opening, closing, read_token, token_told, write_token, node_behind, closes_of}
use Rattle.tokens.proofs.Tagged.{tagged}
use Rattle.tokens.proofs.TokenLaws.{token-front}
use Rattle.tokens.proofs.Standing.{Stands, found-stands}
use Rattle.tokens.proofs.Stretches.{between_more, between-end, between-outside, between-unfit}
use Rattle.rewriting.specs.declared.rewrite.Change.{Change}
use Rattle.rewriting.specs.declared.output.Output.{Output}
use Rattle.rewriting.specs.declared.stretch.Stop.{Stop}
use Rattle.rewriting.specs.Output.{Appends}
use Rattle.rewriting.specs.Shortest.{Bounds, Respells}
use Rattle.rewriting.specs.Rewriting.{ChangeFits, Named, respelled_text, changed_token, changed_text, rewritten_text}
use Rattle.rewriting.specs.Stretches.{Changes, Stays, Passes, node_next, Keeps, Halts, Ends, Stops, halted, ended}
use Rattle.rewriting.proofs.Outputs.{appends_part, Owes, owes-all, owes_as, owes-last, owes_more, slice_join}
use Rattle.rewriting.proofs.Respelled.{changed-is, bounds, first_of, named}

-- ---- nodes

-- the next node behind what is found there
module _ (s : List ℕ) (at node : ℕ) (x : Text) (f : Found read_token (token_told at) s at x) where
  next-is : node_next s at node ≡ node_behind node f.what
  next-is = ap (λ (b : ℕ). node + (1 - closes_of b)) (first_of s at x f.what (found-stands s at x f)) ∙ counted f.what
    where
      counted : (t : Token) → node + (1 - closes_of (tagged t (drop x.next s)).byte) ≡ node_behind node t
      counted (scalar y) = omega (arith, (tagged (scalar y) (drop x.next s)).closes)
      counted (reference r) = omega (arith, (tagged (reference r) (drop x.next s)).closes)
      counted (opening h n) = omega (arith, (tagged (opening h n) (drop x.next s)).closes)
      counted closing = omega (arith, (tagged closing (drop x.next s)).closes)

module _ (c : Change) (t s : List ℕ) (at to node : ℕ) where
  -- a token, and what follows it
  rewritten_more : (x : Text) → at < to → Found read_token (token_told at) s at x
      → rewritten_text c t node s at to ≡ respelled_text c (word_at t node tag_word) s at x ++ rewritten_text c t (node_next s at node) s x.next to
  rewritten_more x h f =
      let g : ℕ = word_at t node tag_word in
      let more : List ℕ = rewritten_text c t (node_next s at node) s x.next to in
      ap (changed_text c t node) (between_more s at to f.what x.next h (omega (arith, f.on, f.inside)) (f.is 0))
      ∙ ap (λ (i : ℕ). write_token (changed_token c g f.what) (rewritten_text c t i s x.next to)) (sym (next-is s at node x f))
      ∙ token-front (changed_token c g f.what) [] more
      ∙ ap (λ (l : List ℕ). l ++ more) (sym (changed-is c g s at x f.what (found-stands s at x f)))

-- ---- a stretch

-- told by the table
pub stays_as : {c : Change} {g g' : ℕ} {s : List ℕ} {at : ℕ} {x : Text} {r : Bool} → g ≡ g' → Stays c g s at x r → Stays c g' s at x r
stays_as {c} {s = s} {at} {x} {r} e k = subst (λ (g : ℕ). Stays c g s at x r) e k

module _ {c : Change} {t s : List ℕ} {first from to at node : ℕ} (k : Keeps c t s first from to at node) where
  -- it goes on to an index and a node
  keeps_on : (next more : ℕ) → at ≤ next → next ≤ length s → more ≤ next
      → rewritten_text c t node s at to ≡ slice at next s ++ rewritten_text c t more s next to → Keeps c t s first from to next more
  keeps_on next more h i j e =
      let rest : List ℕ = rewritten_text c t more s next to in
      record {
        on = omega (arith, k.on, h);
        inside = i;
        low = j;
        split =
            k.split ∙ ap (λ (l : List ℕ). slice from at s ++ l) e
            ∙ sym (append_assoc (slice from at s) (slice at next s) rest)
            ∙ ap (λ (l : List ℕ). l ++ rest) (slice_join from at next s k.on h i);
      }

  pub keeps-plain : at < to → {next : ℕ} → Passes s at next → Keeps c t s first from to next (node + 1)
  keeps-plain h {next} p =
      keeps_on next (node + 1) (omega (arith, p.on)) p.inside (omega (arith, p.on, k.low))
      (p.split c t node to h ∙ ap (λ (i : ℕ). slice at next s ++ rewritten_text c t i s next to) (sym (add-one node)))

  -- nothing is left
  pub ends_there : to ≤ at → Ends c t s to at node
  ends_there h = record { none = ap (changed_text c t node) (between-end s at to h) }

  pub ends-unfit : {scan : Scan} {n : Code} → Scans read_token (token_told at) s at scan → scan ≡ Err n → Ends c t s to at node
  ends-unfit {n = n} g e = record { none = ap (changed_text c t node) (between-unfit s at to (number_of n) 0 (unfit-of g e 0)) }

  -- one token more
  module _ (h : at < to) {x : Text} (f : Found read_token (token_told at) s at x) {r : Bool} (stays : Stays c (word_at t node tag_word) s at x r) where
    pub halts : r ≡ false → Halts c s to at x
    halts e = record { before = h; found = f; changes = stays.changes e }

    pub keeps-more : r ≡ true → {next : ℕ} → next ≡ node_next s at node → Keeps c t s first from to x.next next
    keeps-more e {next} i =
        subst (λ (n : ℕ). Keeps c t s first from to x.next n) (sym i)
        (keeps_on x.next (node_next s at node) (omega (arith, f.on)) f.inside (omega (arith, f.on, k.low))
        (rewritten_more c t s at to node x h f ∙ ap (λ (l : List ℕ). l ++ rewritten_text c t (node_next s at node) s x.next to) (stays.kept e)))

-- the node where nothing is left
pub record Ended (c : Change) (t s : List ℕ) (first from to at : ℕ) : Type 0 where
  pub node : ℕ
  pub keeps : Keeps c t s first from to at node
  pub ends : Ends c t s to at node

-- what ended it
module _ {c : Change} {t s : List ℕ} {first from to : ℕ} where
  pub halted-of : {r : Stop} {at : ℕ} {x : Text} {node : ℕ} → Stops c t s first from to r → r ≡ Stop.Token at x node
      → Keeps c t s first from to at node × Halts c s to at x
  halted-of {at = n} {node = j} (halted a y i k h) e = (
    subst (λ (m : ℕ). Keeps c t s first from to m j) (there e) (subst (Keeps c t s first from to a) (numbered e) k),
    subst (λ (u : Text). Halts c s to n u) (told e) (subst (λ (m : ℕ). Halts c s to m y) (there e) h),
  )
    where
      there : {m n i j : ℕ} {u v : Text} → Stop.Token m u i ≡ Stop.Token n v j → m ≡ n
      there j = cc

      told : {m n i j : ℕ} {u v : Text} → Stop.Token m u i ≡ Stop.Token n v j → u ≡ v
      told j = cc

      numbered : {m n i j : ℕ} {u v : Text} → Stop.Token m u i ≡ Stop.Token n v j → i ≡ j
      numbered j = cc
  halted-of (ended a i k n) e = absurd (never e)
    where
      never : {m n j : ℕ} {u : Text} → Stop.End m ≡ Stop.Token n u j → ⊥
      never j = let z : ◌≡◌ {A = ℕ} 0 1 = cc in omega arith

  pub ended_of : {r : Stop} {at : ℕ} → Stops c t s first from to r → r ≡ Stop.End at → Ended c t s first from to at
  ended_of (ended a i k n) e = subst (Ended c t s first from to) (there e) (record { node = i; keeps = k; ends = n })
    where
      there : {m n : ℕ} → Stop.End m ≡ Stop.End n → m ≡ n
      there j = cc
  ended_of (halted a y i k h) e = absurd (never e)
    where
      never : {m n j : ℕ} {u : Text} → Stop.Token n u j ≡ Stop.End m → ⊥
      never j = let z : ◌≡◌ {A = ℕ} 0 1 = cc in omega arith

-- ---- stretches, with a token written again behind each but the last

-- what is left to write: the bytes from an index on up to another, and what comes from there and a node on
abbrev Left : (c : Change) (t s : List ℕ) (to kept behind node : ℕ) → List ℕ
Left c t s to kept behind node = slice kept behind s ++ rewritten_text c t node s behind to

-- that, behind what was written, is the rewritten text
pub record Rewriting (t s : List ℕ) (from to : ℕ) (c : Change) (o₀ : Output) (kept behind node : ℕ) (o : Output) : Type 0 where
  pub on : kept ≤ behind
  pub inside : behind ≤ length s
  pub low : node ≤ behind
  pub owes : Owes (rewritten_text c t 0 s from to) o₀ (Left c t s to kept behind node) o

-- outside of the source there is nothing to write
pub rewriting-none : (t s : List ℕ) (from to : ℕ) (c : Change) (o : Output) {kept : ℕ} → kept ≡ min from (length s) → Rewriting t s from to c o kept kept 0 o
rewriting-none t s from to c o {kept} e = record {
  on = omega arith;
  inside = omega arith;
  low = omega arith;
  owes = owes-all (by (order from (length s)) ∙ sym (ap (λ (l : List ℕ). l ++ rewritten_text c t 0 s kept to) (slice_empty kept s)));
}
  where
    by : Order from (length s) → rewritten_text c t 0 s from to ≡ rewritten_text c t 0 s kept to
    by (below h) = ap (λ (i : ℕ). rewritten_text c t 0 s i to) (omega arith)
    by (above h) = ap (changed_text c t 0) (between-outside s from to h ∙ sym (between-outside s kept to (omega arith)))

module _ {t s : List ℕ} {from to : ℕ} {c : Change} {o₀ : Output} {kept behind next : ℕ} {o : Output}
    (r : Rewriting t s from to c o₀ kept behind next o) {at node : ℕ} (k : Keeps c t s next behind to at node) where
  -- the stretch stays
  stretched : Owes (rewritten_text c t 0 s from to) o₀ (Left c t s to kept at node) o
  stretched = owes_as r.owes
      (ap (λ (l : List ℕ). slice kept behind s ++ l) k.split ∙ sym (append_assoc (slice kept behind s) (slice behind at s) (rewritten_text c t node s at to))
      ∙ ap (λ (l : List ℕ). l ++ rewritten_text c t node s at to) (slice_join kept behind at s r.on k.on k.inside))

  pub rewriting_all : Ends c t s to at node → {o₁ : Output} → Appends (take (at - kept) (drop kept s)) o o₁
      → Appends (rewritten_text c t 0 s from to) o₀ o₁
  rewriting_all n p = owes-last stretched (ap (λ (l : List ℕ). slice kept at s ++ l) n.none) (appends_part s kept at p)

  module _ {x : Text} (h : Halts c s to at x) where
    st : Stands s at h.found.what x
    st = found-stands s at x h.found

    -- behind its tag and its colon
    pub numbered-on : at + 2 ≤ x.next
    numbered-on = (bounds s at x h.found.what st).more h.changes.number

    pub rewriting_more : {o₁ : Output} → Appends (take (at + 2 - kept) (drop kept s)) o o₁ → {tag : ℕ} → tag ≡ word_at t node tag_word
        → {later : ℕ} {o₂ : Output} → Respells (respelled_text c tag s at x) s at x.next o₁ later o₂
        → {after : ℕ} → after ≡ node_next s at node → Rewriting t s from to c o₀ later x.next after o₂
    rewriting_more p {tag} i {later} q {after} j = record {
      on = q.inside;
      inside = h.found.inside;
      low = omega (arith, j, k.low, h.found.on);
      owes = owes_more (owes_more stretched split (appends_part s kept (at + 2) p)) refl q.wrote;
    }
      where
        g : ℕ
        g = word_at t node tag_word

        rest : List ℕ
        rest = rewritten_text c t after s x.next to

        token : rewritten_text c t node s at to ≡ slice at (at + 2) s ++ (q.numbers ++ (slice later x.next s ++ rest))
        token =
            rewritten_more c t s at to node x h.before h.found
            ∙ ap (λ (n : ℕ). respelled_text c g s at x ++ rewritten_text c t n s x.next to) (sym j)
            ∙ ap (λ (b : ℕ). respelled_text c b s at x ++ rest) (sym i)
            ∙ ap (λ (l : List ℕ). l ++ rest) q.split
            ∙ append_assoc (slice at (at + 2) s) (q.numbers ++ slice later x.next s) rest
            ∙ ap (λ (l : List ℕ). slice at (at + 2) s ++ l) (append_assoc q.numbers (slice later x.next s) rest)

        split : Left c t s to kept at node ≡ slice kept (at + 2) s ++ (q.numbers ++ (slice later x.next s ++ rest))
        split =
            ap (λ (l : List ℕ). slice kept at s ++ l) token
            ∙ sym (append_assoc (slice kept at s) (slice at (at + 2) s) (q.numbers ++ (slice later x.next s ++ rest)))
            ∙ ap (λ (l : List ℕ). l ++ (q.numbers ++ (slice later x.next s ++ rest)))
            (slice_join kept at (at + 2) s (omega (arith, r.on, k.on)) (omega arith) (omega (arith, numbered-on, h.found.inside)))

    -- what is known of it
    pub token-bounds : ChangeFits c → ChangeFits c × Bounds s at x × Named s at x × Changes c s at x
    token-bounds sound = (sound, bounds s at x h.found.what st, named s at x h.found.what st, h.changes)
