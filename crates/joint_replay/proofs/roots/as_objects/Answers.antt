-- One number more was put.
use Rattle.std.proofs.Common.{get_or, refl, arith}
use Rattle.joint_machine.specs.declared.names.MNum.{MNum}
use Rattle.joint_replay.proofs.Naming.{map-next}
use Rattle.joint_replay.proofs.roots.as_objects.Goals as goal

pub loop-x-preserved : goal.loop-x-preserved
loop-x-preserved c =
    let xs = c.args.numbers.now in
    let i = c.loop-x.x-index in
    map-next (λ (n : MNum). n.0) xs i (record { 0 = get_or xs i 0 }) c.loop-x.objects.items c.push.new.self.items c.loop-x.invariant (omega (arith, c.loop-x-test.true)) refl c.in_ok-push.ensures.items
