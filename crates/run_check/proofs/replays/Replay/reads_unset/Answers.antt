-- An `unset` goes by the counts, and by whether the cell's target lives.
use Rattle.std.proofs.Common.{sym, ◌∙◌, true≢false}
use Rattle.run_check.proofs.ReadAnswers.{unset-gone-answers, unset-live-answers, unset-none-answers}
use Rattle.run_check.proofs.replays.Replay.reads_unset.Goals as goal
use Rattle.run_check.proofs.replays.Replay.reads_unset.Goals.{in-None, in-Some}

pub returns-then-live : goal.returns-then-live
returns-then-live c = λ h past w. elim c.match-target.branch [
  | in-None x ↦ unset-none-answers h past c.args.self.now w c.args.caller c.requires.caller c.args.k.0
      c.requires.cell c.target.result c.target.ensures x.in-None.is c.may_be_unset.result c.may_be_unset.ensures
  | in-Some x ↦ unset-live-answers h past c.args.self.now w c.args.caller c.requires.caller c.args.k.0 c.requires.cell c.target.result c.target.ensures x.in-Some.target x.in-Some.is
      (x.is_live-live.ensures.0 (sym x.live-is ∙ c.if-live.true)) c.may_be_unset.result c.may_be_unset.ensures
]

pub returns-else-live : goal.returns-else-live
returns-else-live c = λ h past w. elim c.match-target.branch [
  | in-None x ↦ absurd (true≢false (sym x.live-is ∙ c.if-live.false))
  | in-Some x ↦ unset-gone-answers h past c.args.self.now w c.args.caller c.requires.caller c.args.k.0 c.requires.cell c.target.result c.target.ensures x.in-Some.target x.in-Some.is
      (λ l. true≢false (sym (x.is_live-live.ensures.1 l) ∙ (sym x.live-is ∙ c.if-live.false))) c.match-target.live c.if-live.false
]
