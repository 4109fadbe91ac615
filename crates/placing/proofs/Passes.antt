-- Tokens passed one by one. Assumes nothing.
use Prim.Native.Nat.{ℕ, ◌+◌, ◌-◌, ◌≤◌, ◌<◌}
use native.Mathlib.Nat.{add-zero}
use native.Mathlib.Omega.{arith}
use mathlib.Core.Path.{◌≡◌, refl, sym, ap, ◌∙◌}
use mathlib.Core.Bool.{true, false, true≢false}
use Rattle.std.specs.Prelude.{Err}
use mathlib.Core.List.{List, [], ◌∷◌}
use lib.Dec.{eqb}
use lib.ListN.{length, get_or, drop, length-drop}
use lib.Seq.{get_or-drop}
use borrow.Author.Tests.{eqb-true, lt-ltb, le-ltb, eq-eqb}
use Rattle.decimal.proofs.Decide.{Order, below, above, order}
use Rattle.format.specs.declared.codes.Code.{Code}
use Rattle.bytes_at.specs.ByteAt.{byte_at}
use Rattle.scanner.specs.declared.Text.{Text}
use Rattle.scanner.specs.Scans.{Scan, Found, Scans}
use Rattle.scanner.proofs.Numbers.{unfit-of}
use Rattle.tokens.specs.Tokens.{Token, scalar, reference, opening, closing, read_token, token_told, write_token, write_tokens, TokenFits, AllFit, opens_of, closes_of}
use Rattle.tokens.specs.Tokens.{opens, closes, nodes_of, opened, closed}
use Rattle.tokens.proofs.TokenLaws.{token_longer}
use Rattle.tokens.proofs.Tagged.{tagged}
use Rattle.tokens.proofs.Standing.{first_byte}
use Rattle.tokens.proofs.Standing.{standing, never-unfit}
use Rattle.placing.specs.declared.pass.Passed.{Passed}
use Rattle.placing.specs.Passing.{goes_on, Ahead, Reached}

-- ---- the test

module _ (b left o c : ℕ) where
  pub goes_node : 0 < left → true ≡ goes_on b left o c
  goes_node h = sym (rw (lt-ltb 0 left h))

  pub stops-closed : left ≤ 0 → o ≤ c → false ≡ goes_on b left o c
  stops-closed h k = sym (rw (le-ltb 0 left h, le-ltb c o k))

  pub goes_brace : left ≤ 0 → c < o → eqb b 125 ≡ goes_on b left o c
  goes_brace h k = sym (rw (le-ltb 0 left h, lt-ltb c o k))

module _ (b left o c : ℕ) where
  -- where no node is left, a brace stands there, of what was opened
  goes_true : goes_on b left o c ≡ true → left ≤ 0 → (c < o) × (b ≡ 125)
  goes_true e h = by (order c o)
    where
      by : Order c o → (c < o) × (b ≡ 125)
      by (below k) = (k, eqb-true b 125 (goes_brace b left o c h k ∙ e))
      by (above k) = absurd (true≢false (sym (stops-closed b left o c h k ∙ e)))

  -- and where it stops, neither
  goes_false : goes_on b left o c ≡ false → (left ≤ 0) × (c < o → b ≡ 125 → ⊥)
  goes_false e = by (order 0 left)
    where
      by : Order 0 left → (left ≤ 0) × (c < o → b ≡ 125 → ⊥)
      by (below h) = absurd (true≢false (goes_node b left o c h ∙ e))
      by (above h) = (h, λ k f. true≢false (sym (eq-eqb b 125 f) ∙ goes_brace b left o c h k ∙ e))

-- ---- what is left

record NodesLeft (s rest : List ℕ) (nodes around at passed o c : ℕ) : Type 0 where
  tokens : List Token
  fit : AllFit tokens
  text : drop at s ≡ write_tokens tokens rest
  counted : passed + nodes_of tokens ≡ nodes
  level : o + opened tokens ≡ c + closed tokens + around

-- of whichever tokens stand ahead
pub record Passing (s : List ℕ) (from nodes at passed o c : ℕ) : Type 0 where
  pub inside : at ≤ length s
  pub fewer : passed ≤ at
  pub fewer-opened : o ≤ at
  pub fewer-closed : c ≤ at
  left : (a : Ahead s from nodes) → NodesLeft s a.rest nodes a.around at passed o c

pub passing_none : (s : List ℕ) (from nodes : ℕ) → Ahead s from nodes → Passing s from nodes from 0 0 0
passing_none s from nodes a = record {
  inside = a.inside;
  fewer = omega arith;
  fewer-opened = omega arith;
  fewer-closed = omega arith;
  left = λ b. record { tokens = b.tokens; fit = b.fit; text = b.text; counted = omega (arith, b.counted); level = omega (arith, b.level) };
}

opened-nodes : (ts : List Token) → opened ts ≤ nodes_of ts
opened-nodes [] = omega arith
opened-nodes (scalar x ∷ ts) = omega (arith, opened-nodes ts)
opened-nodes (reference r ∷ ts) = omega (arith, opened-nodes ts)
opened-nodes (opening h n ∷ ts) = omega (arith, opened-nodes ts)
opened-nodes (closing ∷ ts) = omega (arith, opened-nodes ts)

byte-at : (s : List ℕ) (at : ℕ) (r : List ℕ) → drop at s ≡ r → byte_at s at ≡ get_or r 0 256
unfolding byte_at
byte-at s at r e = ap (λ (i : ℕ). get_or s i 256) (sym (add-zero at)) ∙ sym (get_or-drop at s 0 256) ∙ ap (λ (l : List ℕ). get_or l 0 256) e

-- ---- it goes on exactly while a token is left

record One (s rest : List ℕ) (at : ℕ) (ts : List Token) : Type 0 where
  token : Token
  more : List Token
  are : ts ≡ token ∷ more
  fit : TokenFits token
  others : AllFit more
  text : drop at s ≡ write_token token (write_tokens more rest)

braced : (rest : List ℕ) → get_or rest 0 256 ≡ 125 → (r : List ℕ) × (rest ≡ 125 ∷ r)
braced [] e = absurd (omega (arith, e))
braced (b ∷ r) e = (r, ap {B = List ℕ} (λ x. x ∷ r) e)

module _ (s rest : List ℕ) (nodes around at passed o c : ℕ) where
  one_of : ((r : List ℕ) → rest ≡ 125 ∷ r → around ≡ 0) → goes_on (byte_at s at) (nodes - passed) o c ≡ true → (ts : List Token) → AllFit ts
      → drop at s ≡ write_tokens ts rest
      → passed + nodes_of ts ≡ nodes → o + opened ts ≡ c + closed ts + around → One s rest at ts
  one_of z e [] fit t n l =
      let g = goes_true (byte_at s at) (nodes - passed) o c e (omega (arith, n)) in
      let r = braced rest (sym (byte-at s at rest t) ∙ g.1) in
      absurd (omega (arith, g.0, l, z r.0 r.1))
  one_of z e (u ∷ ts) fit t n l = record { token = u; more = ts; are = refl; fit = fit.0; others = fit.1; text = t }

  none_left : goes_on (byte_at s at) (nodes - passed) o c ≡ false → (ts : List Token) → drop at s ≡ write_tokens ts rest → passed + nodes_of ts ≡ nodes
      → o + opened ts ≡ c + closed ts + around
      → (drop at s ≡ rest) × (o ≡ c + around)
  none_left e [] t n l = (t, omega (arith, l))
  none_left e (scalar x ∷ ts) t n l = absurd (omega (arith, n, (goes_false (byte_at s at) (nodes - passed) o c e).0))
  none_left e (reference x ∷ ts) t n l = absurd (omega (arith, n, (goes_false (byte_at s at) (nodes - passed) o c e).0))
  none_left e (opening h m ∷ ts) t n l = absurd (omega (arith, n, (goes_false (byte_at s at) (nodes - passed) o c e).0))
  none_left e (closing ∷ ts) t n l =
      let g = goes_false (byte_at s at) (nodes - passed) o c e in
      let m : c < o = omega (arith, l, n, g.0, opened-nodes ts) in
      absurd (g.1 m (byte-at s at (125 ∷ write_tokens ts rest) t))

module _ {s : List ℕ} {from nodes at passed o c : ℕ} (p : Passing s from nodes at passed o c) where
  pub passed-most : Ahead s from nodes → passed ≤ nodes
  passed-most a = omega (arith, (p.left a).counted)

  module _ (e : goes_on (byte_at s at) (nodes - passed) o c ≡ true) where
    next : (a : Ahead s from nodes) → One s a.rest at (p.left a).tokens
    next a = let l = p.left a in one_of s a.rest nodes a.around at passed o c a.stops e l.tokens l.fit l.text l.counted l.level

    pub at-token : Ahead s from nodes → at < length s
    at-token a = omega (arith, ap length (next a).text, length-drop at s, token_longer (next a).token (write_tokens (next a).more a.rest))

    pub fit-token : Ahead s from nodes → (scan : Scan) (n : Code) → Scans read_token (token_told at) s at scan → scan ≡ Err n → ⊥
    fit-token a scan n g f = let u = next a in never-unfit s at u.token (write_tokens u.more a.rest) _ u.fit u.text (unfit-of g f)

    module _ (x : Text) (f : Found read_token (token_told at) s at x) (shut up : ℕ) (sh : shut ≡ closes_of (get_or s at 0)) (op : up ≡ opens_of (get_or s at 0))
        (sh-low : shut ≤ 1) (op-low : up ≤ 1) where
      -- one token more
      pub passing_more : Passing s from nodes x.next (passed + (1 - shut)) (o + up) (c + shut)
      passing_more = record {
        inside = f.inside;
        fewer = omega (arith, p.fewer, f.on);
        fewer-opened = omega (arith, p.fewer-opened, f.on);
        fewer-closed = omega (arith, p.fewer-closed, f.on);
        left = λ a.
            let l = p.left a in
            let u = next a in
            let rest : List ℕ = write_tokens u.more a.rest in
            let st = standing s at u.token rest x u.fit u.text f in
            let g = tagged u.token rest in
            let first : get_or s at 0 ≡ g.byte = first_byte s at g.byte g.behind (u.text ∙ g.is) in
            let shuts : shut ≡ closes u.token = sh ∙ ap closes_of first ∙ g.closes in
            let ups : up ≡ opens u.token = op ∙ ap opens_of first ∙ g.opens in
            record {
              tokens = u.more;
              fit = u.others;
              text = st.rest;
              counted = omega (arith, l.counted, ap nodes_of u.are, shuts);
              level = omega (arith, l.level, ap opened u.are, ap closed u.are, shuts, ups);
            };
      }

  pub passing_all : goes_on (byte_at s at) (nodes - passed) o c ≡ false → (a : Ahead s from nodes) → (r : Passed) → r.at ≡ at → r.around ≡ o - c
      → Reached s a.rest a.around r
  passing_all e a r f g =
      let l = p.left a in
      let z = none_left s a.rest nodes a.around at passed o c e l.tokens l.text l.counted l.level in
      record { here = ap (λ (n : ℕ). drop n s) f ∙ z.0; inside = omega (arith, p.inside, f); still = omega (arith, g, z.1) }

  pub closed-most : goes_on (byte_at s at) (nodes - passed) o c ≡ false → Ahead s from nodes → c ≤ o
  closed-most e a = let l = p.left a in omega (arith, (none_left s a.rest nodes a.around at passed o c e l.tokens l.text l.counted l.level).1)
