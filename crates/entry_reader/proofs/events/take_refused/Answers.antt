use Rattle.std.proofs.Common.{Some}
use Rattle.joint_machine.specs.declared.names.PhaseWord.{PhaseWord}
use Rattle.joint_machine.specs.declared.events.Op.TheVariants as op
use Rattle.entry_reader.specs.declared.events.EventWord.TheVariants as word
use Rattle.entry_reader.specs.Events.{IsEventOf, others}
use Rattle.entry_reader.proofs.Parts.{goes_all, goes_on, goes_whole, goes_wrong}
use Rattle.entry_reader.proofs.Steps.{behind, phases, refused_0, refused_1}
use Rattle.entry_reader.proofs.events.take_refused.Goals as goal

pub returns-in_err-word : goal.returns-in_err-word
returns-in_err-word c = rw c.from_residual.ensures
    (let g0 = goes_all (IsEventOf word.Refused) others c.args.words.now in
    goes_wrong (λ (w : PhaseWord). Unit {0}) phases (IsEventOf word.Refused) others (behind 0)
    (behind 1) c.args.words.now c.args.words.now c.take_phase_word.new.words refused_0 c.in_err-word.ensures g0)

pub returns : goal.returns
returns c =
    let g0 = goes_all (IsEventOf word.Refused) others c.args.words.now in
    let g1 = goes_on (λ (w : PhaseWord). Unit {0}) phases (IsEventOf word.Refused) others (behind 0)
    (behind 1) c.args.words.now c.args.words.now c.take_phase_word.new.words (Some c.in_ok-word.word) refused_0 c.in_ok-word.ensures g0 in
    goes_whole (IsEventOf word.Refused) others (behind 1) c.args.words.now c.take_phase_word.new.words (op.Refused c.in_ok-word.word) refused_1 g1 tt (c.in_ok-word.ensures.sound.1)
