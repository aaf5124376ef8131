use Rattle.std.proofs.Common.{arith}
use Rattle.history_report.specs.Lists.{numbers_of}
use Rattle.history_report.proofs.Places.{place_past, place_in}
use Rattle.history_report.proofs.lists.Numbers.at.Goals as goal

pub returns-then-i : goal.returns-then-i
returns-then-i c = place_past (numbers_of c.args.h.now c.args.self) c.args.i (omega arith)

pub returns-in-Freed : goal.returns-in-Freed
returns-in-Freed c = rw (c.in-Freed.is) (place_in (λ m. m.0) c.args.h.now.freed_managed c.args.i c.freed_managed.result c.managed_number.result
    (omega arith) c.freed_managed.ensures c.managed_number.ensures)

pub returns-in-FreedPeers : goal.returns-in-FreedPeers
returns-in-FreedPeers c = rw (c.in-FreedPeers.is) (place_in (λ p. p.0) c.args.h.now.freed_peers c.args.i c.freed_peer.result c.peer_number.result
    (omega arith) c.freed_peer.ensures c.peer_number.ensures)

pub returns-in-Notices : goal.returns-in-Notices
returns-in-Notices c = rw (c.in-Notices.is) (place_in (λ m. m.0) c.args.h.now.notices c.args.i c.notice.result c.managed_number-in-Notices.result
    (omega arith) c.notice.ensures c.managed_number-in-Notices.ensures)
