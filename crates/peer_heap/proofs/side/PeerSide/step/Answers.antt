-- Each operation by the call that makes it: a begin, a sweep, a line, or another event.
use Rattle.std.proofs.Common.{◌≡◌, None}
use Rattle.peer_heap.proofs.side.PeerSide.step.Goals as goal

pub returns-in-Begin-clause-adds : goal.returns-in-Begin-clause-adds
returns-in-Begin-clause-adds g c =
    let none : c.args.cites ≡ None = rw c.in-Begin.is at c.requires.allowed in
    rw (c.in-Begin.is, none) c.begin.ensures.adds

pub returns-in-Sweep-clause-adds : goal.returns-in-Sweep-clause-adds
returns-in-Sweep-clause-adds g c =
    let none : c.args.cites ≡ None = (rw c.in-Sweep.is at c.requires.allowed).0 in
    rw (c.in-Sweep.is, none) c.end.ensures.adds
