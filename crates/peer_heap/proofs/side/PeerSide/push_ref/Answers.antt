-- One more reference waits, and the temporaries that it has as ends have room.
use Rattle.std.proofs.Common.{refl, sym}
use Rattle.peer_heap.specs.Mirroring.{end_of}
use Rattle.peer_heap.proofs.Cycles.{IsSide-pushed}
use Rattle.peer_heap.proofs.Sides.{AreGoing-same}
use Rattle.peer_heap.proofs.side.PeerSide.push_ref.Goals as goal

pub invariant_of-self : goal.invariant_of-self
invariant_of-self c =
    let i = c.self.inside in
    let some = rw (sym c.self.view_is) at c.requires.room in
    let from = rw (sym c.self.view_is) at c.requires.from in
    let to = rw (sym c.self.view_is) at c.requires.to in (
      IsSide-pushed i.rows i.marking i.markings i.mirroring c.push.new.self i.entries (end_of c.args.from) (end_of c.args.to) c.self.invariant.0 some from to c.push.ensures,
      c.self.invariant.1,
      AreGoing-same i.rows i.rows i.marking i.grey i.markings i.mirroring c.push.new.self i.entries.entries i.entries.entries refl refl refl refl refl refl c.self.invariant.2,
      c.self.invariant.3,
    )
