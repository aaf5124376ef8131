-- One number more was put.
use Rattle.std.proofs.Common.{get_or, refl, arith}
use Rattle.joint_machine.specs.declared.names.PNum.{PNum}
use Rattle.joint_replay.proofs.Naming.{map-next}
use Rattle.joint_replay.proofs.dead.as_peers.Goals as goal

pub loop-p-preserved : goal.loop-p-preserved
loop-p-preserved c =
    let xs = c.args.numbers.now in
    let i = c.loop-p.p-index in
    map-next (λ (n : PNum). n.0) xs i (record { 0 = get_or xs i 0 }) c.loop-p.peers.items c.push.new.self.items c.loop-p.invariant (omega (arith, c.loop-p-test.true)) refl c.in_ok-push.ensures.items
