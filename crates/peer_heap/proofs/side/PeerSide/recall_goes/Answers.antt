-- As the side keeps it; the list by the links is the list of grey peers.
use Rattle.std.proofs.Common.{◌≡◌, Some, sym, subst}
use Rattle.joint_machine.specs.PeerReplay.{Marking}
use Rattle.marking_laws.specs.Slices.{AreMarksGoing}
use Rattle.peer_heap.specs.Sides.{PeerModel, state_with}
use Rattle.peer_heap.proofs.Going.{grey-list}
use Rattle.peer_heap.proofs.side.PeerSide.recall_goes.Goals as goal

pub returns : goal.returns
returns c =
    let i = c.self.inside in
    let v = i.rows.rows in
    subst (λ (z : PeerModel). (mk : Marking) → z.state.marking ≡ Some mk → AreMarksGoing z.state mk z.colours.follows z.colours.marks z.colours.greys) c.self.view_is
    (λ mk q.
    let g = c.self.invariant.2.going mk q in
    subst (λ l. AreMarksGoing (state_with i.entries.entries i.rows i.marking i.markings i.mirroring) mk v.follows v.marks l) (sym (grey-list v.marks v.links i.grey g.greys g.chained)) g.right)
