use Rattle.std.proofs.Common.{◌≡◌, ◌-◌, length, refl, sym, ap, ◌∙◌, arith}
use Rattle.global_handles.proofs.Chains.{cleared_above-all, cleared_above-none, cleared_above-down, length-cleared_above, walk-step}
use Rattle.global_handles.proofs.clear_chain.Goals as goal

pub loop-at-init : goal.loop-at-init
loop-at-init c =
    let all = c.args.slots.now.items in
    let leads = c.requires.leads in
    record {
      cleared = sym (cleared_above-none c.args.p (length all) all (omega arith)) ∙ cleared_above-down c.args.p c.args.from (length all) all leads.within leads.settled;
      within = leads.within;
      own = leads.own;
      capacity = refl;
    }

pub index-slot-requires : goal.index-slot-requires
index-slot-requires c = omega (arith, ap length c.loop-at.invariant.cleared, length-cleared_above c.args.p c.loop-at.at c.args.slots.now.items)

pub index_mut-requires : goal.index_mut-requires
index_mut-requires c = omega (arith, ap length c.loop-at.invariant.cleared, length-cleared_above c.args.p c.loop-at.at c.args.slots.now.items)

pub loop-at-smaller : goal.loop-at-smaller
loop-at-smaller c =
    let i = c.loop-at.invariant in
    let step = walk-step c.args.p c.args.slots.now.items c.loop-at.slots.items c.loop-at.at (c.loop-at.at - 1) c.index-slot.result.now c.requires.linked i.cleared (omega arith) i.within
    i.own c.index-slot.ensures in
    omega (arith, step.1)

pub loop-at-preserved : goal.loop-at-preserved
loop-at-preserved c =
    let i = c.loop-at.invariant in
    let step = walk-step c.args.p c.args.slots.now.items c.loop-at.slots.items c.loop-at.at (c.loop-at.at - 1) c.index-slot.result.now c.requires.linked i.cleared (omega arith) i.within
    i.own c.index-slot.ensures in
    record { cleared = rw c.cleared.ensures step.0; within = omega (arith, step.1); own = step.2; capacity = i.capacity }

pub returns-clause-items : goal.returns-clause-items
returns-clause-items c =
    let done : c.loop-at.at ≡ 0 = omega arith in
    (rw done at c.loop-at.invariant.cleared) ∙ cleared_above-all c.args.p c.args.slots.now.items
