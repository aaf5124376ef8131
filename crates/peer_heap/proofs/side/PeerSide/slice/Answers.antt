-- So many grey peers are made black; the list says whether one is left.
use Rattle.std.proofs.Common.{sym}
use Rattle.peer_heap.proofs.Ends.{AreGoing-black, IsSide-black, end-told, sliced-by}
use Rattle.peer_heap.proofs.Counted.{counted-drivers}
use Rattle.peer_heap.proofs.side.PeerSide.slice.Goals as goal

pub blacken-requires : goal.blacken-requires
blacken-requires c = c.self.invariant.2.list

pub invariant_of-self : goal.invariant_of-self
invariant_of-self c =
    let i = c.self.inside in (
      IsSide-black i.rows c.blacken.new.self i.marking i.markings i.mirroring i.entries c.blacken.ensures.rest c.self.invariant.0,
      c.self.invariant.1,
      AreGoing-black i.rows c.blacken.new.self i.marking i.grey c.blacken.new.grey i.markings c.blacken.result
          i.mirroring i.entries c.blacken.ensures.rest c.self.invariant.0 c.blacken.ensures.steps c.self.invariant.2,
      counted-drivers i.rows.issued i.entries.entries i.marking _ (rw (sym c.self.view_is) at c.requires),
    )

pub returns-clause-end : goal.returns-clause-end
returns-clause-end c =
    let v = c.blacken.new.self.rows in
    let y = c.blacken.ensures.steps c.self.invariant.2.list.0 c.self.invariant.2.list.1 in
    end-told c.end_of.result v.marks v.links c.blacken.new.grey y.waits y.chained c.end_of.ensures.done c.end_of.ensures.more

pub returns-clause-sliced : goal.returns-clause-sliced
returns-clause-sliced c =
    let i = c.self.inside in
    rw (sym c.self.view_is) (sliced-by i.rows c.blacken.new.self i.marking i.grey c.blacken.new.grey i.markings c.args.n c.blacken.result
    i.mirroring i.entries.entries c.blacken.ensures.rest c.blacken.ensures.steps c.self.invariant.2 c.blacken.ensures.most c.blacken.ensures.end)
