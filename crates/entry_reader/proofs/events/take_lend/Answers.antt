use Rattle.std.proofs.Common.{Some, ◌<◌, ◌∷◌, ◌∙◌, ap}
use Rattle.joint_machine.specs.Lines.{IsVar}
use Rattle.joint_machine.specs.declared.names.StaticNo.{StaticNo}
use Rattle.joint_machine.specs.declared.events.Op.TheVariants as op
use Rattle.bridge_script.specs.Words.{var_text}
use Rattle.entry_reader.specs.declared.events.EventWord.TheVariants as word
use Rattle.entry_reader.specs.Events.{IsEventOf, others}
use Rattle.entry_reader.proofs.Parts.{goes_all, goes_on, goes_whole, goes_wrong}
use Rattle.entry_reader.proofs.Steps.{behind, lend_0, lend_1, lend_2, statics, vars}
use Rattle.entry_reader.proofs.events.take_lend.Goals as goal

pub returns-in_err-v : goal.returns-in_err-v
returns-in_err-v c = rw c.from_residual.ensures
    (let g0 = goes_all (IsEventOf word.Lend) others c.args.words.now in
    goes_wrong IsVar vars (IsEventOf word.Lend) others (behind 0) (behind 1) c.args.words.now c.args.words.now c.take_var.new.words lend_0 c.in_err-v.ensures g0)

pub returns-in_err-x : goal.returns-in_err-x
returns-in_err-x c = rw c.from_residual-in_err-x.ensures
    (let g0 = goes_all (IsEventOf word.Lend) others c.args.words.now in
    let g1 = goes_on IsVar vars (IsEventOf word.Lend) others (behind 0) (behind 1) c.args.words.now c.args.words.now c.take_var.new.words (Some c.in_ok-v.v) lend_0 c.in_ok-v.ensures g0 in
    goes_wrong (λ (x : StaticNo). x.0 < 16) statics (IsEventOf word.Lend) others (behind 1) (behind 2) c.args.words.now c.take_var.new.words c.take_static.new.words lend_1 c.in_err-x.ensures g1)

pub returns : goal.returns
returns c =
    let g0 = goes_all (IsEventOf word.Lend) others c.args.words.now in
    let g1 = goes_on IsVar vars (IsEventOf word.Lend) others (behind 0) (behind 1) c.args.words.now c.args.words.now c.take_var.new.words (Some c.in_ok-v.v) lend_0 c.in_ok-v.ensures g0 in
    let g2 = goes_on (λ (x : StaticNo). x.0 < 16) statics (IsEventOf word.Lend) others (behind 1)
    (behind 2) c.args.words.now c.take_var.new.words c.take_static.new.words (Some c.in_ok-x.x) lend_1 c.in_ok-x.ensures g1 in
    goes_whole (IsEventOf word.Lend) others (behind 2) c.args.words.now c.take_static.new.words (op.Lend c.in_ok-v.v c.in_ok-x.x) lend_2 g2
    (c.in_ok-v.ensures.sound.0, c.in_ok-x.ensures.sound.0) (c.in_ok-v.ensures.sound.1 ∙ ap (λ z. var_text c.in_ok-v.v ∷ z) (c.in_ok-x.ensures.sound.1))
