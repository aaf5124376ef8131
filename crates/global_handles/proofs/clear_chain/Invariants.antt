use Rattle.std.proofs.Common.{◌≡◌, ℕ, ◌≤◌, suc, true, length, slice_get, Some}
use Rattle.std.specs.Vec.{vec_capacity}
use Rattle.global_handles.specs.declared.Slot.{Slot}
use Rattle.global_handles.specs.Slots.{opens}
use Rattle.global_handles.proofs.Chains.{cleared_above}
use Rattle.global_handles.proofs.clear_chain.Given as goal

abbrev pub invariant-loop-at : goal.invariant-loop-at
invariant-loop-at l = record {
  cleared : l.slots.items ≡ cleared_above l.fn.p l.at l.initial.slots.items;
  within : l.at ≤ length l.initial.slots.items;
  capacity : vec_capacity l.slots ≡ vec_capacity l.initial.slots;
  own : (j : ℕ) (s : Slot) → l.at ≡ suc j → slice_get l.initial.slots.items j ≡ Some s → opens l.fn.p s ≡ true;
}

abbrev pub decreases-loop-at : goal.decreases-loop-at
decreases-loop-at l = l.at
