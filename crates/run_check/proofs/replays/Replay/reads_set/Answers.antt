-- The cell's target is named where it lives, and else it is gone.
use Rattle.std.proofs.Common.{Some, ap, sym, ◌∙◌, true≢false}
use Rattle.run_check.proofs.ReadAnswers.{none-open, open-is, set-answers}
use Rattle.run_check.proofs.Reading.{set-gone, set-live}
use Rattle.run_check.proofs.replays.Replay.reads_set.Goals as goal
use Rattle.run_check.proofs.replays.Replay.reads_set.Goals.{then-is_live, else-is_live}

pub returns-after-is_live : goal.returns-after-is_live
returns-after-is_live c = λ h past t w.
    let shut = none-open c.args.self.now.managed.state.managed.cycle
    (sym (open-is c.open_cycle.result c.args.self.now.managed.state.managed.cycle c.open_cycle.ensures) ∙ (sym c.is_some.ensures ∙ c.if-is_some.false)) in
    let there = c.target.ensures ∙ ap (λ x. Some x) c.in-Some.is in
    elim c.if-is_live.branch [
      | then-is_live x ↦ set-answers c.args.reply.now c.if-is_live.says _ c.is_same.result c.is_same.ensures x.says-is _
          (set-live h past c.args.self.now w t c.args.k.0 c.in-Some.target shut there (c.is_live.ensures.0 x.if-is_live.true))
      | else-is_live x ↦ set-answers c.args.reply.now c.if-is_live.says _ c.is_same.result c.is_same.ensures x.says-is _
          (set-gone h past c.args.self.now w t c.args.k.0 c.in-Some.target shut there (λ l. true≢false (sym (c.is_live.ensures.1 l) ∙ x.if-is_live.false)))
    ]
