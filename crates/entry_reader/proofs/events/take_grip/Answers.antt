use Rattle.std.proofs.Common.{Some, ◌<◌}
use Rattle.joint_machine.specs.declared.names.StaticNo.{StaticNo}
use Rattle.joint_machine.specs.declared.events.Op.TheVariants as op
use Rattle.entry_reader.specs.declared.events.EventWord.TheVariants as word
use Rattle.entry_reader.specs.Events.{IsEventOf, others}
use Rattle.entry_reader.proofs.Parts.{goes_all, goes_on, goes_whole, goes_wrong}
use Rattle.entry_reader.proofs.Steps.{behind, grip_0, grip_1, statics}
use Rattle.entry_reader.proofs.events.take_grip.Goals as goal

pub returns-in_err-x : goal.returns-in_err-x
returns-in_err-x c = rw c.from_residual.ensures
    (let g0 = goes_all (IsEventOf word.Grip) others c.args.words.now in
    goes_wrong (λ (x : StaticNo). x.0 < 16) statics (IsEventOf word.Grip) others (behind 0) (behind 1) c.args.words.now c.args.words.now c.take_static.new.words grip_0 c.in_err-x.ensures g0)

pub returns : goal.returns
returns c =
    let g0 = goes_all (IsEventOf word.Grip) others c.args.words.now in
    let g1 = goes_on (λ (x : StaticNo). x.0 < 16) statics (IsEventOf word.Grip) others (behind 0)
    (behind 1) c.args.words.now c.args.words.now c.take_static.new.words (Some c.in_ok-x.x) grip_0 c.in_ok-x.ensures g0 in
    goes_whole (IsEventOf word.Grip) others (behind 1) c.args.words.now c.take_static.new.words (op.Grip c.in_ok-x.x) grip_1 g1 c.in_ok-x.ensures.sound.0 (c.in_ok-x.ensures.sound.1)
