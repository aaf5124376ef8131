use Rattle.std.proofs.Common.{◌≡◌, sym, ◌∙◌}
use Rattle.run_check.proofs.Wholes.{other-plain, peer-plain, tells-so}
use Rattle.run_check.proofs.replays.Replay.replies.Goals as goal

pub returns-then-is_peers : goal.returns-then-is_peers
returns-then-is_peers c =
    let m = c.args.entry.now.made in
    tells-so c.args.h.now m c.args.self.now c.peer_replies.new.self c.in_ok-right.right c.done-then-is_peers.result (peer-plain m.caller m.op (sym c.is_peers.ensures ∙ c.if-is_peers.true))
    c.done-then-is_peers.ensures.told c.done-then-is_peers.ensures.untold c.in_ok-right.ensures

pub returns : goal.returns
returns c =
    let m = c.args.entry.now.made in
    tells-so c.args.h.now m c.args.self.now c.managed_replies.new.self c.in_ok-right-2.right c.done-2.result
    (other-plain m.op c.in_default-op.not-Refused) c.done-2.ensures.told c.done-2.ensures.untold c.in_ok-right-2.ensures
