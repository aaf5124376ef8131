-- One more notice stands last in each turn.
use Rattle.std.proofs.Common.{◌≡◌, ◌+◌, ◌++◌, ◌∷◌, [], take, get_or, refl, ap, ◌∙◌, arith, length, length-append}
use Rattle.std.proofs.lemmas.List.{take_all, take_more}
use Rattle.joint_machine.specs.declared.names.MNum.{MNum}
use Rattle.finaliser_queue.proofs.copied.Goals as goal

pub loop-m-init : goal.loop-m-init
loop-m-init c = record { items = c.requires.empty; capacity = refl; few = omega (arith, ap length c.requires.empty) }

pub loop-m-preserved : goal.loop-m-preserved
loop-m-preserved c =
    let d : MNum = record { 0 = 0 } in
    let xs = c.args.notices.now in
    let i = c.loop-m.m-index in
    record {
      items =
          (let more : take (i + 1) xs ≡ take i xs ++ get_or xs i d ∷ [] = take_more xs i d c.loop-m-test.true in
          rw (c.push_reserved.ensures.items, c.loop-m.invariant.items, more) refl);
      capacity = c.push_reserved.ensures.capacity ∙ c.loop-m.invariant.capacity;
      few = (let many = ap length c.push_reserved.ensures.items ∙ length-append c.loop-m.list.items _ in omega (arith, many, c.loop-m.invariant.few));
    }

pub returns-clause-items : goal.returns-clause-items
returns-clause-items c = c.loop-m.invariant.items ∙ take_all c.loop-m.m-index c.args.notices.now c.loop-m-test.false
