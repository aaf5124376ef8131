use Rattle.std.proofs.Common.{Some, ◌≤◌, ◌∷◌, ◌∙◌, ap}
use Rattle.joint_machine.specs.declared.names.Sort.{Sort}
use Rattle.joint_machine.specs.declared.events.Op.TheVariants as op
use Rattle.bridge_script.specs.Words.{sort_text}
use Rattle.entry_reader.specs.declared.events.EventWord.TheVariants as word
use Rattle.entry_reader.specs.Events.{IsEventOf, others}
use Rattle.entry_reader.proofs.Parts.{goes_all, goes_on, goes_whole, goes_wrong}
use Rattle.entry_reader.proofs.Steps.{behind, make_0, make_1, make_2, numbers, sorts}
use Rattle.entry_reader.proofs.events.take_make.Goals as goal

pub returns-in_err-sort : goal.returns-in_err-sort
returns-in_err-sort c = rw c.from_residual.ensures
    (let g0 = goes_all (IsEventOf word.Make) others c.args.words.now in
    goes_wrong (λ (s : Sort). Unit {0}) sorts (IsEventOf word.Make) others (behind 0) (behind 1) c.args.words.now c.args.words.now c.take_sort.new.words make_0 c.in_err-sort.ensures g0)

pub returns-in_err-fields : goal.returns-in_err-fields
returns-in_err-fields c = rw c.from_residual-in_err-fields.ensures
    (let g0 = goes_all (IsEventOf word.Make) others c.args.words.now in
    let g1 = goes_on (λ (s : Sort). Unit {0}) sorts (IsEventOf word.Make) others (behind 0)
    (behind 1) c.args.words.now c.args.words.now c.take_sort.new.words (Some c.in_ok-sort.sort) make_0 c.in_ok-sort.ensures g0 in
    goes_wrong (λ n. n ≤ 16) numbers (IsEventOf word.Make) others (behind 1) (behind 2) c.args.words.now c.take_sort.new.words c.take_fields.new.words make_1 c.in_err-fields.ensures g1)

pub returns : goal.returns
returns c =
    let g0 = goes_all (IsEventOf word.Make) others c.args.words.now in
    let g1 = goes_on (λ (s : Sort). Unit {0}) sorts (IsEventOf word.Make) others (behind 0)
    (behind 1) c.args.words.now c.args.words.now c.take_sort.new.words (Some c.in_ok-sort.sort) make_0 c.in_ok-sort.ensures g0 in
    let g2 = goes_on (λ n. n ≤ 16) numbers (IsEventOf word.Make) others (behind 1)
    (behind 2) c.args.words.now c.take_sort.new.words c.take_fields.new.words (Some c.in_ok-fields.fields) make_1 c.in_ok-fields.ensures g1 in
    goes_whole (IsEventOf word.Make) others (behind 2) c.args.words.now c.take_fields.new.words (op.Make c.in_ok-sort.sort c.in_ok-fields.fields) make_2 g2 c.in_ok-fields.ensures.sound.0
    (c.in_ok-sort.ensures.sound.1 ∙ ap (λ z. sort_text c.in_ok-sort.sort ∷ z) (c.in_ok-fields.ensures.sound.1))
