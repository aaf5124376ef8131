use Rattle.std.proofs.Common.{◌∙◌, sym, ap, length, arith}
use Rattle.std.proofs.lemmas.List.{length-map}
use Rattle.global_handles.specs.Slots.{rows_of, cleared_slot, head_in}
use Rattle.global_handles.proofs.Slots.{RisesBetween-named, cleared_for-rows}
use Rattle.global_handles.proofs.Chains.{IsChained-cleared}
use Rattle.global_handles.proofs.HandleTable.clear_target.Goals as goal

pub clear_chain-requires-clause-leads : goal.clear_chain-requires-clause-leads
clear_chain-requires-clause-leads c = rw c.take_head-from.ensures.before (c.self.invariant.chained.heads_lead c.args.p)

pub invariant_of-self : goal.invariant_of-self
invariant_of-self c =
    let all = c.self.inside.slots.items in
    let es = c.self.inside.names.items in
    let i = c.self.invariant in
    let e = c.clear_chain.ensures.items in
    let len = length-map all (cleared_slot c.args.p) in
    record {
      most = rw e (omega (arith, len));
      counted = rw (e, cleared_for-rows c.args.p all es) (i.counted ∙ sym (length-map (rows_of all es) _));
      few = rw e (omega (arith, len, i.few));
      rise = i.rise;
      placed = rw (e, len) i.placed;
      twice = rw e (omega (arith, len, i.twice));
      chained = rw e (IsChained-cleared c.args.p all (head_in c.self.inside.heads.items) _ len c.take_head-from.ensures.head i.chained);
      slots_room = omega (arith, i.slots_room, ap length e, len, c.clear_chain.ensures.capacity);
      names_room = omega (arith, i.names_room, ap length e, len);
      heads_most = omega (arith, i.heads_most, c.take_head-from.ensures.len);
      heads_room = omega (arith, i.heads_room, c.take_head-from.ensures.capacity);
    }

pub returns-clause-rows : goal.returns-clause-rows
returns-clause-rows c = rw (c.clear_chain.ensures.items, ← c.self.view_is) (cleared_for-rows c.args.p c.self.inside.slots.items c.self.inside.names.items)

pub returns-clause-rising : goal.returns-clause-rising
returns-clause-rising c = RisesBetween-named 0 _ c.clear_chain.new.slots.items _ c.self.invariant.rise
