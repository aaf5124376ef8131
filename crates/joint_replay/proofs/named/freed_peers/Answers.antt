-- One place more was read.
use Rattle.std.proofs.Common.{◌+◌, arith, length, [], ◌∷◌, ap, sym, refl, length-append}
use Rattle.joint_machine.specs.declared.names.PNum.{PNum}
use Rattle.joint_replay.proofs.Naming.{stretch-next, stretch-read, stretch-short}
use Rattle.joint_replay.proofs.named.freed_peers.Goals as goal

pub loop-i-preserved : goal.loop-i-preserved
loop-i-preserved c = record {
  count = omega (arith, c.loop-i.invariant.count, ap length c.in_ok-push-in-Some.ensures.items, length-append c.loop-i.numbers.items (c.in-Some.p.0 ∷ []));
  read = stretch-next (λ (m : PNum). m.0) c.args.h.now.freed_peers c.args.span.first c.loop-i.i
      (c.args.span.first + c.loop-i.i) c.in-Some.p c.loop-i.numbers.items _ refl (sym c.in-Some.ensures) c.loop-i.invariant.read c.in_ok-push-in-Some.ensures.items;
}

pub returns : goal.returns
returns c = stretch-read (λ (m : PNum). m.0) c.args.h.now.freed_peers c.args.span.first c.args.span.count c.loop-i.i c.loop-i.numbers.items
    (omega (arith, c.loop-i-test.false, c.loop-i.auto.i-end)) c.loop-i.invariant.count c.loop-i.invariant.read

pub returns-in-None : goal.returns-in-None
returns-in-None c = λ whole. stretch-short (λ (m : PNum). m.0) c.args.h.now.freed_peers c.args.span.first c.args.span.count c.loop-i.i
    (c.args.span.first + c.loop-i.i) refl (sym c.in-None.ensures) c.loop-i-test.true whole
