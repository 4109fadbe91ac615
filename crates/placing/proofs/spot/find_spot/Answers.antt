-- `placing::spot::find_spot` meets its contract. Assumes nothing.
use Rattle.std.proofs.Common.{◌≡◌, ℕ, List, Some, ap, ◌∙◌, arith}
use Rattle.keys.specs.declared.KeyWords.{KeyWords}
use Rattle.placing.specs.Words.{target_answer, array_words, gap_answer, gap_words}
use Rattle.placing.specs.PairTexts.{texts_answer, pair_words}
use Rattle.format.specs.declared.codes.Refusal.{Refusal}
use Rattle.format.specs.Codes.{number_of}
use Rattle.format.specs.Answer.{Answer, refused}
use Rattle.rewriting.specs.declared.splice.Splice.{Splice}
use Rattle.placing.specs.Placing.{Given}
use Rattle.placing.specs.declared.target.ArrayWords.{ArrayWords}
use Rattle.placing.specs.declared.target.GapWords.{GapWords}
use Rattle.placing.proofs.WordLaws as words
use Rattle.placing.proofs.TextLaws as texts
use Rattle.placing.proofs.StepLaws as steps
use Rattle.placing.proofs.SpotLaws as spots
use Rattle.placing.proofs.spot.find_spot.Goals as goal

-- ---- what is known where the array is told, the gap in it, and the texts of the pair

array_told : {s t : List ℕ} {n node : ℕ} {array : ArrayWords} (g : Given s t n) (place : ℕ) (key value : List ℕ)
    → target_answer (Some array) ≡ array_words t n node → steps.Here g node place key value array.count array.ordinal
array_told {t = t} {n = n} {node = node} g place key value told = steps.here g node place key value (words.array-is t n node told)

found_told : {s t key value : List ℕ} {n node place : ℕ} {array : ArrayWords} {gap : GapWords} {w : KeyWords} (g : Given s t n)
    → target_answer (Some array) ≡ array_words t n node → gap_answer (Some gap) ≡ gap_words t node array.count array.ordinal place
    → texts_answer (Some w) ≡ pair_words key value → steps.GapFound g node place key value array.count array.ordinal gap.node gap.ordinal w
found_told {key = key} {value = value} {place = place} g told told_gap told_fit = record {
  array = array_told g place key value told;
  spot = words.gap_is _ _ _ _ place told_gap;
  pair = texts.are-pair key value told_fit;
}

-- a refusal that was made, by what it is
made : (a : Answer Splice) {r q : Refusal} → r ≡ q → refused (number_of q.code) q.at ≡ a → refused (number_of r.code) r.at ≡ a
made a e f = ap (λ (r : Refusal). refused (number_of r.code) r.at) e ∙ f

pub returns-in_default : goal.returns-in_default
returns-in_default c = made _ c.at.ensures (steps.refuses_11 c.requires _ _ _ _ c.in_default.ensures)

pub gap_at-requires : goal.gap_at-requires
gap_at-requires c = steps.bounds (array_told c.requires c.args.pair_index c.args.key.now c.args.value.now c.in-Some.ensures)

pub returns-in_default-gap_at : goal.returns-in_default-gap_at
returns-in_default-gap_at c =
    made _ c.at-in_default-gap_at.ensures
    (steps.refuses_12 (array_told c.requires c.args.pair_index c.args.key.now c.args.value.now c.in-Some.ensures) c.in_default-gap_at.ensures)

pub returns-in_default-pair_texts : goal.returns-in_default-pair_texts
returns-in_default-pair_texts c =
    made _ c.at-in_default-pair_texts.ensures
    (steps.refuses_13 (array_told c.requires c.args.pair_index c.args.key.now c.args.value.now c.in-Some.ensures)
    (words.gap_is _ _ _ _ c.args.pair_index c.in-Some-gap_at.ensures) c.in_default-pair_texts.ensures)

pub new_key-requires : goal.new_key-requires
new_key-requires c = steps.array-inside (found_told c.requires c.in-Some.ensures c.in-Some-gap_at.ensures c.in-Some-pair_texts.ensures)

pub returns-in_default-new_key : goal.returns-in_default-new_key
returns-in_default-new_key c =
    made _ c.at-in_default-new_key.ensures
    (steps.refuses_9 (found_told c.requires c.in-Some.ensures c.in-Some-gap_at.ensures c.in-Some-pair_texts.ensures)
    (words.check_failed _ 9 0 c.in_default-new_key.ensures))

pub pass-reached-requires : goal.pass-reached-requires
pass-reached-requires c = spots.ahead (found_told c.requires c.in-Some.ensures c.in-Some-gap_at.ensures c.in-Some-pair_texts.ensures)

pub returns-in_default-shallow : goal.returns-in_default-shallow
returns-in_default-shallow c =
    let found = found_told c.requires c.in-Some.ensures c.in-Some-gap_at.ensures c.in-Some-pair_texts.ensures in
    made _ c.at-in_default-shallow.ensures
    (steps.refuses_8 found (words.check_passed _ 9 0 c.in-Ok.ensures) (spots.around-is found c.pass-reached.ensures)
    (words.check_failed _ 8 0 c.in_default-shallow.ensures))

pub returns-in_default-two_more : goal.returns-in_default-two_more
returns-in_default-two_more c =
    let found = found_told c.requires c.in-Some.ensures c.in-Some-gap_at.ensures c.in-Some-pair_texts.ensures in
    made _ c.at-in_default-two_more.ensures
    (steps.refuses_7 found (words.check_passed _ 9 0 c.in-Ok.ensures) (spots.around-is found c.pass-reached.ensures)
    (words.check_passed _ 8 0 c.in-Ok-shallow.ensures) (words.check_failed _ 7 0 c.in_default-two_more.ensures))

pub overflow_add-first : goal.overflow_add-first
overflow_add-first c =
    let found = found_told c.requires c.in-Some.ensures c.in-Some-gap_at.ensures c.in-Some-pair_texts.ensures in
    omega (arith, steps.node-low found, steps.table-room c.requires)

pub overflow_sub-gap : goal.overflow_sub-gap
overflow_sub-gap c =
    omega (arith, steps.gap_is (found_told c.requires c.in-Some.ensures c.in-Some-gap_at.ensures c.in-Some-pair_texts.ensures))

pub overflow_add-array : goal.overflow_add-array
overflow_add-array c =
    omega (arith, spots.one_more (found_told c.requires c.in-Some.ensures c.in-Some-gap_at.ensures c.in-Some-pair_texts.ensures))

pub spot_at-requires : goal.spot_at-requires
spot_at-requires c =
    spots.spot-ahead (found_told c.requires c.in-Some.ensures c.in-Some-gap_at.ensures c.in-Some-pair_texts.ensures) c.pass-reached.ensures

pub returns : goal.returns
returns c =
    let found = found_told c.requires c.in-Some.ensures c.in-Some-gap_at.ensures c.in-Some-pair_texts.ensures in
    spots.spot-found found c.pass-reached.ensures
    (steps.with_nodes found (words.check_passed _ 9 0 c.in-Ok.ensures) (spots.around-is found c.pass-reached.ensures)
    (words.check_passed _ 8 0 c.in-Ok-shallow.ensures) (words.check_passed _ 7 0 c.in-Ok-two_more.ensures))
    c.spot_at.ensures
