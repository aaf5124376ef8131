-- The driver's entry of a snapshot: it is answered as the replay answers it, so the list goes on by it.
use Rattle.std.proofs.Common.{ℕ, List, Option, false, refl, subst}
use Rattle.joint_machine.specs.declared.events.Entry.{Entry}
use Rattle.joint_machine.specs.Cycles.{IsSnapshot}
use Rattle.joint_machine.specs.Managed.{with_snapshot}
use Rattle.joint_machine.specs.ManagedReplay.{ManagedReplay}
use Rattle.joint_machine.specs.PinsTold.{with_pins}
use Rattle.joint_machine.specs.Sides.{GoesOn, IsReplayed, managed_rules}
use Rattle.joint_machine.specs.Told.{kept_pins, snap_of}
use Rattle.bridge_graph.specs.Parts.{Part}
use Rattle.managed_heap.specs.Openings.{snap_made}
use Rattle.managed_heap.specs.Sides.{state_of}
use Rattle.managed_heap.specs.Snapping.{TakesSnapshot}
use Rattle.managed_heap.proofs.Goes.{goes-pinned}

pub snap-goes : (es : List Entry) (taken : List (List ℕ)) (rows next : ManagedReplay) (pins : List (Option ℕ)) (index number first count : ℕ) (freed : List ℕ) (graph : Part)
    → IsReplayed managed_rules es (state_of taken rows) → (t : TakesSnapshot rows next pins freed number first count graph)
    → GoesOn managed_rules (state_of taken rows) (snap_made rows.managed index freed t.candidates) (kept_pins pins (snap_of freed t.candidates t.dead)) (state_of taken next)
snap-goes es taken rows next pins index number first count freed graph r t =
    goes-pinned es taken rows next (record rows { managed = with_snapshot rows.managed freed t.candidates t.dead; contracted = false })
    (snap_made rows.managed index freed t.candidates) pins (snap_of freed t.candidates t.dead) r
    (record { event = tt; side = refl }) refl refl
    (record { allowed = subst (λ k. IsSnapshot (with_pins rows pins).managed k freed t.candidates t.dead) t.snapshot.next t.snapshot; replies = refl }) t.state refl refl
