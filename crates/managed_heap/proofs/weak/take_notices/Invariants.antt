-- So many were taken as the loop went round.
use Rattle.std.proofs.Common.{◌≡◌, ◌+◌}
use Rattle.managed_heap.proofs.weak.take_notices.Given as goal

abbrev pub invariant-loop : goal.invariant-loop
invariant-loop l = (l.notices.taken ≡ l.fn.notices.taken + l.counter) × (l.notices.queued ≡ l.fn.notices.queued) × (l.notices.spare ≡ l.fn.notices.spare)
