-- A cleared handle is removed; another one is renewed, and its peer is shaded.
use Rattle.std.proofs.Common.{sym, ◌∙◌}
use Rattle.peer_heap.proofs.Reset.{peer-live, restored-alive, restored-gone}
use Rattle.peer_heap.proofs.rows.PeerRows.restore.Goals as goal

pub bring_back-requires : goal.bring_back-requires
bring_back-requires c = record {
  live = peer-live c.args.self.now c.renew-back.new.self c.args.h.0 c.renew-back.result.1.0 c.renew-back.result.0
      (sym c.is_alive.ensures ∙ c.if-is_alive.true) c.requires.live c.renew-back.ensures.peer c.renew-back.ensures.row;
}

pub returns-then-is_alive : goal.returns-then-is_alive
returns-then-is_alive c = restored-alive c.args.is_open c.args.self.now c.renew-back.new.self c.bring_back.new.self c.args.grey.now c.bring_back.new.grey c.args.h.0 c.renew-back.result.1.0
    c.renew-back.result.0 (sym c.is_alive.ensures ∙ c.if-is_alive.true) c.renew-back.ensures.peer c.renew-back.ensures.row c.bring_back.ensures.rest c.bring_back.ensures.shaded

pub returns-else-is_alive : goal.returns-else-is_alive
returns-else-is_alive c = restored-gone c.args.is_open c.args.self.now c.renew-back.new.self c.args.grey.now c.args.h.0 c.renew-back.result.0
    (sym c.is_alive.ensures ∙ c.if-is_alive.false) c.renew-back.ensures.row
