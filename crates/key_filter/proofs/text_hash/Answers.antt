-- `key_filter::text_hash` meets its contract. Assumes nothing.
use Prim.Native.Nat.{ℕ}
use native.Mathlib.Omega.{arith}
use mathlib.Core.Path.{◌≡◌, ap, ◌∙◌}
use lib.ListN.{take, drop}
use Rattle.keys.proofs.SaidKeys.{text-past, text-long}
use Rattle.key_filter.specs.Hash.{spread, mixed_text, start}
use Rattle.key_filter.proofs.Hashing as hashing
use Rattle.key_filter.proofs.text_hash.Goals as goal

pub returns-then-source-offset : goal.returns-then-source-offset
returns-then-source-offset c = c.spread.ensures ∙ ap spread c.start.ensures ∙ hashing.text-outside _ _ _ _ (text-past _ _ _ c.if-source-offset.true)

pub returns-then-source-offset-2 : goal.returns-then-source-offset-2
returns-then-source-offset-2 c = c.spread-then-source-offset-2.ensures ∙ ap spread c.start-then-source-offset-2.ensures
    ∙ hashing.text-outside _ _ _ _ (text-long _ _ _ (omega (arith, c.if-source-offset.false)) c.if-source-offset-2.true)

pub returns : goal.returns
returns c = let text = c.args in
    let begun : c.start-2.result ≡ start text.holder text.size = c.start-2.ensures in
    c.spread-2.ensures
    ∙ ap spread (c.mixed_text.ensures ∙ ap (λ (h : ℕ). mixed_text h (take text.size (drop text.offset text.source.now))) begun)
    ∙ hashing.text-inside text.source.now text.holder text.offset text.size (omega (arith, c.if-source-offset.false, c.if-source-offset-2.false))
