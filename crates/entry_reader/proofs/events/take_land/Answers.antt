use Rattle.std.proofs.Common.{Some, ◌<◌, ◌∷◌, ◌∙◌, ap}
use Rattle.joint_machine.specs.declared.names.HNum.{HNum}
use Rattle.joint_machine.specs.declared.names.StaticNo.{StaticNo}
use Rattle.joint_machine.specs.declared.events.Op.TheVariants as op
use Rattle.history_report.specs.Report.{handle_text}
use Rattle.entry_reader.specs.Fitting.{Short}
use Rattle.entry_reader.specs.declared.events.EventWord.TheVariants as word
use Rattle.entry_reader.specs.Events.{IsEventOf, others}
use Rattle.entry_reader.proofs.Parts.{goes_all, goes_on, goes_whole, goes_wrong}
use Rattle.entry_reader.proofs.Steps.{behind, handles, land_0, land_1, land_2, statics}
use Rattle.entry_reader.proofs.events.take_land.Goals as goal

pub returns-in_err-h : goal.returns-in_err-h
returns-in_err-h c = rw c.from_residual.ensures
    (let g0 = goes_all (IsEventOf word.Land) others c.args.words.now in
    goes_wrong (λ (h : HNum). Short h.0) handles (IsEventOf word.Land) others (behind 0) (behind 1) c.args.words.now c.args.words.now c.take_handle.new.words land_0 c.in_err-h.ensures g0)

pub returns-in_err-x : goal.returns-in_err-x
returns-in_err-x c = rw c.from_residual-in_err-x.ensures
    (let g0 = goes_all (IsEventOf word.Land) others c.args.words.now in
    let g1 = goes_on (λ (h : HNum). Short h.0) handles (IsEventOf word.Land) others (behind 0)
    (behind 1) c.args.words.now c.args.words.now c.take_handle.new.words (Some c.in_ok-h.h) land_0 c.in_ok-h.ensures g0 in
    goes_wrong (λ (x : StaticNo). x.0 < 16) statics (IsEventOf word.Land) others (behind 1) (behind 2) c.args.words.now c.take_handle.new.words c.take_static.new.words land_1 c.in_err-x.ensures g1)

pub returns : goal.returns
returns c =
    let g0 = goes_all (IsEventOf word.Land) others c.args.words.now in
    let g1 = goes_on (λ (h : HNum). Short h.0) handles (IsEventOf word.Land) others (behind 0)
    (behind 1) c.args.words.now c.args.words.now c.take_handle.new.words (Some c.in_ok-h.h) land_0 c.in_ok-h.ensures g0 in
    let g2 = goes_on (λ (x : StaticNo). x.0 < 16) statics (IsEventOf word.Land) others (behind 1)
    (behind 2) c.args.words.now c.take_handle.new.words c.take_static.new.words (Some c.in_ok-x.x) land_1 c.in_ok-x.ensures g1 in
    goes_whole (IsEventOf word.Land) others (behind 2) c.args.words.now c.take_static.new.words (op.Land c.in_ok-h.h c.in_ok-x.x) land_2 g2
    (c.in_ok-h.ensures.sound.0, c.in_ok-x.ensures.sound.0) (c.in_ok-h.ensures.sound.1 ∙ ap (λ z. handle_text c.in_ok-h.h ∷ z) (c.in_ok-x.ensures.sound.1))
