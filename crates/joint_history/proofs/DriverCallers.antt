-- The driver's caller knows a past after a call of the driver, whether it made its entry or found no memory.
use Rattle.std.proofs.Common.{ℕ}
use Rattle.std.specs.Prelude.{Result, Ok, Err, IfOk, OnErr}
use Rattle.joint_machine.specs.declared.names.Thread.{Thread}
use Rattle.joint_machine.specs.declared.names.Thread.TheVariants.{M, P, C}
use Rattle.joint_machine.specs.Control.{Stand}
use Rattle.joint_machine.specs.Lines.{IsDriver}
use Rattle.joint_machine.specs.Linked.{Linkage}
use Rattle.joint_machine.specs.Managed.{Managed}
use Rattle.known_laws.specs.Pasts.{end_of}
use Rattle.order_table.specs.declared.views.View.{View}
use Rattle.joint_history.specs.Callers.{CallerKnows, HasReleased}
use Rattle.joint_history.specs.Driven.{DriverMakesNone, DriverStands}
use Rattle.view_laws.specs.Knowing.{IsDrawnView}

released : (t : Thread) (s : Linkage) → IsDriver t → HasReleased t s
released (M n) s is = absurd is
released (P n) s is = tt
released C s is = tt

pub driver_called : (t : Thread) (v : View) → IsDriver t → IsDrawnView v → CallerKnows t v
driver_called t v is known = record { known = known; released = released t (end_of known.known.past) is }

pub known_either : {X E : Type 0} (old new : View) (result : Result X E) (Q : X → Type 0) → IfOk result Q → ((x : X) → Q x → IsDrawnView new)
    → OnErr result (DriverMakesNone old new) → (index : ℕ) (stand : Stand) (seen : Managed) → DriverStands old index stand seen → IsDrawnView new
known_either old new (Ok x) Q q known none index stand seen s = known x q
known_either old new (Err e) Q q known none index stand seen s = (none.stands index stand seen s).known
