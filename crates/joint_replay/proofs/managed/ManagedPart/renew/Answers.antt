-- There are as many places as before.
use Rattle.std.proofs.Common.{List, Option, ℕ, length, ap, ◌∙◌}
use Rattle.joint_replay.specs.Answers.{answers_as}
use Rattle.joint_replay.proofs.Answering.{renewed-length}
use Rattle.joint_replay.proofs.managed.ManagedPart.renew.Goals as goal

pub invariant_of-self : goal.invariant_of-self
invariant_of-self c = (
  c.self.invariant.0,
  ap (λ (l : List (Option ℕ)). length l) c.renew_each.ensures ∙ (renewed-length c.self.inside.held.items c.candidates.result.now (answers_as c.args.answers.now) ∙ c.self.invariant.1),
  c.self.invariant.2,
  c.self.invariant.3,
)
