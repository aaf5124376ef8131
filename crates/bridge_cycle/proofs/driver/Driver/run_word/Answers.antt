-- A word that isn't refused is the next phase's, or asks for a cycle of an idle driver.
use Rattle.std.proofs.Common.{rules, [], ◌∷◌}
use Rattle.std.proofs.lemmas.Result.{on_err_weaker}
use Rattle.bridge_cycle.specs.Words.{next_word, to_come}
use Rattle.bridge_cycle.proofs.Composed.{cycle_due, line_stops, one_stops, word_due}
use Rattle.bridge_cycle.proofs.driver.Driver.run_word.Goals as goal

pub returns-then-eq-clause-err : goal.returns-then-eq-clause-err
returns-then-eq-clause-err g c =
    on_err_weaker c.finish_cycle.result (line_stops c.args.self.now c.finish_cycle.new.self c.args.index c.args.word (to_come c.args.self.now.phase)
    (search rules) (cycle_due c.args.self.now.phase c.args.word (search rules) (search rules))) c.finish_cycle.ensures.err

pub returns-clause-err : goal.returns-clause-err
returns-clause-err g c =
    on_err_weaker c.advance.result (λ w. line_stops c.args.self.now c.advance.new.self c.args.index c.args.word (next_word c.args.self.now.phase ∷ []) (search rules)
    (word_due c.args.self.now.phase c.args.word (search rules)) (one_stops c.args.self.now c.advance.new.self c.args.index (next_word c.args.self.now.phase) w)) c.advance.ensures.err
