use Rattle.std.proofs.Common.{None, refl}
use Rattle.run_check.proofs.Wholes.{opened}
use Rattle.run_check.proofs.replays.Replay.new.Goals as goal

pub returns-in-Ok : goal.returns-in-Ok
returns-in-Ok c =
    opened (record {
      alloc = c.args.alloc;
      managed = c.in_ok-managed.managed;
      peers = c.in-Ok.peers;
      draw = c.new-in-Ok.result;
      turns = c.new-in-Ok-2.result;
      readers = c.new-in-Ok-3.result;
      cycle = None;
    }) c.new-in-Ok.ensures c.in_ok-managed.ensures.threads c.in_ok-managed.ensures.entries c.in_ok-managed.ensures.state c.in-Ok.ensures
    c.new-in-Ok-2.ensures c.new-in-Ok-3.ensures refl
