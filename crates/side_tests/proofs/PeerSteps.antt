-- What a step of a peer side asks of a state and of a plain count.
use Rattle.std.proofs.Common.{◌≡◌, ℕ, ◌≤◌, Option, Some, None, inl, inr, refl, sym, ◌∙◌}
use Rattle.joint_machine.specs.Draws.{counting}
use Rattle.joint_machine.specs.declared.names.Marking.{Marking as Number}
use Rattle.joint_machine.specs.declared.names.Thread.{Thread}
use Rattle.joint_machine.specs.declared.names.Thread.TheVariants.{M, P, C}
use Rattle.joint_machine.specs.declared.lines.Act.{Act}
use Rattle.joint_machine.specs.declared.lines.Act.TheVariants as act
use Rattle.joint_machine.specs.declared.events.Op.{Op}
use Rattle.joint_machine.specs.declared.events.Op.TheVariants as op
use Rattle.joint_machine.specs.PeerReplay.{PeerReplay, Marking}
use Rattle.joint_machine.specs.Sides.{Side, TakesPeer, peer_rules}
use Rattle.peer_heap.specs.Makings.{IsSideStep, MayDrawStep}
use Rattle.peer_heap.specs.Sides.{IsDrivers, IsMarkingOf, MayEnd}
use Rattle.side_tests.specs.Drives.{IsCounted}
use Rattle.side_tests.proofs.Counting.{counted-may}

-- a side for all eight threads takes each step
line-thread : (i : ℕ) (a : Act) → IsSideStep (P i) (op.Line a) → i ≤ 8
line-thread i act.Collect s = s.1
line-thread i _ s = s.0.1

pub step-taken : (t : Thread) (o : Op) → IsSideStep t o → TakesPeer 8 t
step-taken (M i) o s = tt
step-taken C o s = tt
step-taken (P i) (op.Line a) s = line-thread i a s
step-taken (P i) op.Begin (inl s) = s.1
step-taken (P i) op.Begin (inr s) = absurd s
step-taken (P i) op.Sweep (inl s) = s.1
step-taken (P i) op.Sweep (inr s) = absurd s
step-taken (P i) (op.Make sort n) s = absurd s.0
step-taken (P i) (op.Land h x) s = absurd s.0
step-taken (P i) (op.Grip x) s = absurd s.0
step-taken (P i) _ s = absurd s

-- each step may draw from a plain count
pub counted-may-step : (s : Side PeerReplay) (count : ℕ) (t : Thread) (o : Op) → TakesPeer 8 t → IsCounted s count → MayDrawStep counting count s t o
counted-may-step s count t (op.Line act.Collect) takes k = (counted-may peer_rules s count t op.Begin takes k, counted-may peer_rules s count t op.Sweep takes k)
counted-may-step s count t o takes k = counted-may peer_rules s count t o takes k

-- the driver may end each marking
pub driver-ends : (o : Option Marking) → MayEnd o C
driver-ends None = tt
driver-ends (Some mk) = inl refl

-- what a look at the open marking answers tells whose it is
pub drivers-none : (o : Option Marking) → IsMarkingOf None o → IsDrivers o
drivers-none None m = tt
drivers-none (Some mk) m = absurd m

pub drivers-some : (j : Number) (by : Thread) (o : Option Marking) → IsMarkingOf (Some (j, by)) o → by ≡ C → IsDrivers o
drivers-some j by None m e = absurd m
drivers-some j by (Some mk) m e = sym m.1 ∙ e
