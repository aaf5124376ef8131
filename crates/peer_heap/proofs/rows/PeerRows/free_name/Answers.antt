-- The name is free, and its handle leaves the table.
use Rattle.std.proofs.Common.{◌≡◌, None, sym, subst, ◌∙◌}
use Rattle.std.specs.Prelude.{slice_set}
use Rattle.joint_machine.specs.declared.events.Reply.TheVariants as says
use Rattle.joint_machine.specs.Heaps.{answer, slot}
use Rattle.joint_machine.specs.Peers.{name_freed}
use Rattle.joint_machine.specs.PeerReplay.{on_table, untabled}
use Rattle.peer_heap.specs.Rows.{Rows, peers_in, with_rows}
use Rattle.peer_heap.proofs.Events.{goes-unset, goes-unnamed}
use Rattle.peer_heap.proofs.rows.PeerRows.free_name.Goals as goal

pub returns-in-None-clause-goes : goal.returns-in-None-clause-goes
returns-in-None-clause-goes c = goes-unset c.args.self.now c.args.g c.in-None.ensures

pub returns-in-Some-clause-goes : goal.returns-in-Some-clause-goes
returns-in-Some-clause-goes c = λ s.
    let old = c.args.self.now in
    let g = c.args.g in
    subst (λ (z : Rows). on_table (untabled (with_rows s old) (slot old.names g)) (name_freed (peers_in old) g) ≡ answer says.Ok (with_rows s (record z { names = slice_set z.names g None })))
    (sym (c.self.view_is ∙ c.remove.ensures.rows)) (goes-unnamed old g c.in-Some.h c.remove.new.self.tabled c.in-Some.ensures s)
