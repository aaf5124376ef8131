-- One phase after another is run, and less is to come.
use Rattle.std.proofs.Common.{rules, [], ◌∷◌, ◌∙◌}
use Rattle.std.proofs.lemmas.Result.{IfOk-weaker}
use Rattle.joint_machine.proofs.Deciding.{true_false}
use Rattle.joint_machine.proofs.Results.{at_error}
use Rattle.bridge_cycle.specs.Progress.{EndsWithReply}
use Rattle.bridge_cycle.specs.Words.{next_word, to_come}
use Rattle.bridge_cycle.proofs.Composed.{closes_now, partway_lacks, partway_more, partway_none}
use Rattle.bridge_cycle.proofs.driver.Driver.finish_cycle.Goals as goal

pub phases-init : goal.phases-init
phases-init g c = (partway_none c.args.self.now c.args.index, c.requires.index)

pub phases-preserved : goal.phases-preserved
phases-preserved g c =
    let f = partway_more c.args.self.now c.phases.self c.advance.new.self c.args.index c.in_ok-advance.field-0 c.phases.invariant.0
    (λ e. let q = c.phase.ensures ∙ e in true_false (rw q at c.phases-test.ensures)) c.in_ok-advance.ensures.ok in
    (f.now, c.advance.ensures.index)

pub returns-in_err-advance-clause-err : goal.returns-in_err-advance-clause-err
returns-in_err-advance-clause-err g c = at_error c.from_residual.result (partway_lacks c.args.self.now c.phases.self c.advance.new.self c.args.index c.phases.invariant.0 c.in_err-advance.ensures.err)

pub returns-clause-ok : goal.returns-clause-ok
returns-clause-ok g c =
    IfOk-weaker c.advance-2.result (λ reply. EndsWithReply c.phases.self c.advance-2.new.self c.args.index (next_word c.phases.self.phase ∷ []) reply)
    (λ reply. EndsWithReply c.args.self.now c.advance-2.new.self c.args.index (to_come c.args.self.now.phase) reply)
    (λ reply w. closes_now c.args.self.now c.phases.self c.advance-2.new.self c.args.index reply c.phases.invariant.0 (search rules) w) c.advance-2.ensures.ok
