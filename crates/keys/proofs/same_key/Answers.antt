-- `keys::same_key` meets its contract. Assumes nothing.
use native.Mathlib.Omega.{arith}
use mathlib.Core.Path.{◌≡◌, sym, ap, ap₂, ◌∙◌}
use mathlib.Core.Bool.{true, false, not}
use borrow.Author.Tests.{ne_eqb}
use Rattle.format.specs.Bytes.{same_bytes}
use Rattle.keys.specs.KeyWords.{says_text}
use Rattle.keys.proofs.SaidKeys as said
use Rattle.keys.proofs.same_key.Goals as goal

pub returns-then-a-b : goal.returns-then-a-b
returns-then-a-b c =
    let pattern : says_text c.args.of_array c.args.a ≡ false = sym c.says_text.ensures ∙ c.if-not-says_text.true in
    ap not c.says_text-then-a-b.ensures ∙ sym (said.patterns_same _ _ _ _ _ pattern c.if-a-b.true)

pub returns-else-a-b : goal.returns-else-a-b
returns-else-a-b c =
    let pattern : says_text c.args.of_array c.args.a ≡ false = sym c.says_text.ensures ∙ c.if-not-says_text.true in
    ne_eqb _ _ c.if-a-b.false ∙ sym (said.patterns_differ _ _ _ _ _ pattern (omega arith) (omega arith) c.if-a-b.false)

pub returns-then-says_text : goal.returns-then-says_text
returns-then-says_text c =
    let text : says_text c.args.of_array c.args.a ≡ true = sym c.says_text.ensures ∙ c.if-not-says_text.false in
    c.same_bytes.ensures ∙ ap₂ same_bytes c.text.ensures c.text-then-says_text.ensures
    ∙ sym (said.same_texts _ _ _ _ _ text (sym c.says_text-2.ensures ∙ c.if-says_text.true))

pub returns-else-says_text : goal.returns-else-says_text
returns-else-says_text c =
    let text : says_text c.args.of_array c.args.a ≡ true = sym c.says_text.ensures ∙ c.if-not-says_text.false in
    c.if-says_text.false ∙ sym (said.text-integer _ _ _ _ _ text (sym c.says_text-2.ensures ∙ c.if-says_text.false))
