use Rattle.std.proofs.Common.{Some}
use Rattle.joint_machine.specs.Lines.{IsVar}
use Rattle.joint_machine.specs.declared.events.Op.TheVariants as op
use Rattle.entry_reader.specs.declared.events.EventWord.TheVariants as word
use Rattle.entry_reader.specs.Events.{IsEventOf, others}
use Rattle.entry_reader.proofs.Parts.{goes_all, goes_on, goes_whole, goes_wrong}
use Rattle.entry_reader.proofs.Steps.{behind, give_0, give_1, vars}
use Rattle.entry_reader.proofs.events.take_give.Goals as goal

pub returns-in_err-v : goal.returns-in_err-v
returns-in_err-v c = rw c.from_residual.ensures
    (let g0 = goes_all (IsEventOf word.Give) others c.args.words.now in
    goes_wrong IsVar vars (IsEventOf word.Give) others (behind 0) (behind 1) c.args.words.now c.args.words.now c.take_var.new.words give_0 c.in_err-v.ensures g0)

pub returns : goal.returns
returns c =
    let g0 = goes_all (IsEventOf word.Give) others c.args.words.now in
    let g1 = goes_on IsVar vars (IsEventOf word.Give) others (behind 0) (behind 1) c.args.words.now c.args.words.now c.take_var.new.words (Some c.in_ok-v.v) give_0 c.in_ok-v.ensures g0 in
    goes_whole (IsEventOf word.Give) others (behind 1) c.args.words.now c.take_var.new.words (op.Give c.in_ok-v.v) give_1 g1 c.in_ok-v.ensures.sound.0 (c.in_ok-v.ensures.sound.1)
