use Rattle.std.proofs.Common.{◌≡◌, sym, ◌∙◌, true≢false}
use Rattle.joint_machine.proofs.Deciding.{none_some}
use Rattle.run_check.proofs.Wholes.{follows-done, nothing-follows, owed-none}
use Rattle.run_check.proofs.replays.Replay.is_whole.Goals as goal

pub returns-in-Some : goal.returns-in-Some
returns-in-Some c = λ past a f. (
  (λ t. absurd (true≢false (sym t))),
  λ n. absurd (none_some _ (sym (owed-none past c.args.self.now.readers.owed f.callers.owed n.snapped) ∙ (sym c.owed.ensures ∙ c.in-Some.is))),
)

pub returns-in-None : goal.returns-in-None
returns-in-None c = λ past a f.
    let p = c.part-part.ensures past a f.sides in (
      (λ t. nothing-follows past c.args.self.now f c.part-part.result p (c.is_done.ensures.0 t) (sym c.owed.ensures ∙ c.in-None.is)),
      λ n. c.is_done.ensures.1 (follows-done past c.args.self.now f c.part-part.result p n),
    )
