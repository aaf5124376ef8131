-- Nothing is there, so nothing has to be kept.
use Rattle.std.proofs.Common.{[], refl, arith}
use Rattle.std.proofs.lemmas.List.Elements.{All-nil}
use Rattle.joint_laws.proofs.Adopting.{ReplayInvariant-opening}
use Rattle.joint_machine.proofs.Deciding.{none_some}
use Rattle.managed_heap.proofs.side.ManagedSide.new.Goals as goal

pub invariant_of-result : goal.invariant_of-result
invariant_of-result c = rw (c.new-3.ensures.entries, c.in-Ok.ensures, c.in_ok-takings.ensures) (
  record { rise = tt; noted = []; same = refl; leads = refl },
  λ e o. (let f : ⊥ = cc in absurd f),
  All-nil _,
  record { kept = ReplayInvariant-opening; few = omega (arith) },
  omega arith,
  λ r e. absurd (none_some r e),
  λ r e. absurd (none_some r e),
)
