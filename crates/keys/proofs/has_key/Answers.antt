-- `keys::has_key` meets its contract. Assumes nothing.
use Rattle.std.proofs.Common.{◌≡◌, ℕ, ◌-◌, ◌<◌, min, Bool, List, ap, sym, ◌∙◌, arith}
use Rattle.format.specs.Keys.{same_key}
use Rattle.format.specs.Reading.{capacity_of}
use Rattle.keys.specs.declared.KeyWords.{KeyWords}
use Rattle.keys.specs.KeyWords.{key_words_at, key_words_in, key_said}
use Rattle.keys.proofs.NodeKeys.{key-there}
use Rattle.keys.proofs.Chains as chains
use Rattle.keys.proofs.has_key.Goals as goal

-- where a pair stands at i, what the answer says of its key
pair_at : (t : List ℕ) (end : ℕ) {i last : ℕ} → i < last → last ≡ min end (capacity_of t) - 1 → i < min end (capacity_of t) - 1
pair_at t end l e = omega (arith, l, e)

same_told : (of_array : Bool) (source t other : List ℕ) (key : KeyWords) (end : ℕ) {w : KeyWords} {i : ℕ} {r : Bool} → i < min end (capacity_of t) - 1
    → w ≡ key_words_in t i → r ≡ same_key (key_said of_array other key) (key_said of_array source w)
    → same_key (key_said of_array other key) (key_said of_array source (key_words_at t i)) ≡ r
same_told of_array source t other key end {i = i} before words same =
    sym (same ∙ ap (λ (w : KeyWords). same_key (key_said of_array other key) (key_said of_array source w)) (words ∙ key-there t i (omega (arith, before))))

pub loop-i-init : goal.loop-i-init
loop-i-init c = chains.left-all _ _ _ _ _ _

pub returns-then-same_key : goal.returns-then-same_key
returns-then-same_key c =
    let before = pair_at c.args.table.now c.args.end c.loop-i-test.true c.last_node-last.ensures in
    let same = same_told c.args.of_array c.args.source.now c.args.table.now c.args.other.now c.args.key c.args.end before c.key_at.ensures c.same_key.ensures in
    chains.left-found _ _ _ _ _ _ c.loop-i.invariant before (same ∙ c.if-same_key.true)

pub returns-then-next-i : goal.returns-then-next-i
returns-then-next-i c =
    let before = pair_at c.args.table.now c.args.end c.loop-i-test.true c.last_node-last.ensures in
    let same = same_told c.args.of_array c.args.source.now c.args.table.now c.args.other.now c.args.key c.args.end before c.key_at.ensures c.same_key.ensures in
    chains.left_back _ _ _ _ _ _ c.loop-i.invariant before (same ∙ c.if-same_key.false) c.if-next-i.true

pub loop-i-preserved : goal.loop-i-preserved
loop-i-preserved c =
    let before = pair_at c.args.table.now c.args.end c.loop-i-test.true c.last_node-last.ensures in
    let same = same_told c.args.of_array c.args.source.now c.args.table.now c.args.other.now c.args.key c.args.end before c.key_at.ensures c.same_key.ensures in
    chains.left-next _ _ _ _ _ _ c.loop-i.invariant before (same ∙ c.if-same_key.false) c.if-next-i.false

pub returns : goal.returns
returns c = chains.left-none _ _ _ _ _ _ c.loop-i.invariant (omega (arith, c.loop-i-test.false, c.last_node-last.ensures))
