-- The rows are freed, and then the cycle ends.
use Rattle.std.proofs.Common.{None, ap, ◌∙◌, ◌++◌}
use Rattle.std.specs.Prelude.{filter}
use Rattle.joint_machine.specs.Heaps.{with_freed}
use Rattle.joint_machine.specs.Managed.{Managed, candidates_of, holds_handle}
use Rattle.joint_replay.specs.Answers.{answers_as, given_in, renewed_by}
use Rattle.joint_replay.proofs.Answering.{renewed-all}
use Rattle.joint_replay.proofs.managed.ManagedPart.close.Goals as goal

pub returns-clause-ok : goal.returns-clause-ok
returns-clause-ok c =
    let s = c.args.self.now in
    let freed = c.args.freed.now in
    let xs = answers_as c.args.answers.now in
    let t : Managed = record s { heap = with_freed s.heap freed; notices = s.notices ++ filter (holds_handle s) freed } in
    c.end.ensures
    ∙ (ap (λ (z : Managed). record z { held = renewed_by z.held (candidates_of z) xs; cycle = None }) c.in_ok-free.ensures.ok
    ∙ ap (λ l. record t { held = l; cycle = None }) (ap (renewed_by s.held (candidates_of s)) c.requires.given ∙ renewed-all s.held (candidates_of s) (given_in xs)))
