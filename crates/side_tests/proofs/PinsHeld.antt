-- A pin that holds a live object while no cycle is open stands.
use Rattle.std.proofs.Common.{◌≡◌, ℕ, List, inl, inr, Option, Some, None, sym, subst, ◌∙◌}
use Rattle.std.specs.Prelude.{Contains, IfSome}
use Rattle.joint_machine.specs.declared.names.MNum.{MNum}
use Rattle.joint_machine.specs.Heaps.{IsLive}
use Rattle.joint_machine.specs.Managed.{Managed}
use Rattle.joint_machine.specs.PinsTold.{no_pins}
use Rattle.joint_machine.proofs.Deciding.{none_some, some-same}
use Rattle.joint_machine.proofs.Numbered.{Contains-set_cases, replicate-none}
use Rattle.known_laws.specs.Known.{PinsStand}
use Rattle.managed_heap.specs.Pinned.{pin_given}
use Rattle.managed_heap.specs.Rows.{number_or_none}

-- the object is live, and no cycle is open
abbrev pub MayHold : Managed → Option MNum → Type 0
MayHold s pin = IfSome pin (λ m. IsLive s.heap m.0 × (s.cycle ≡ None))

module _ (s : Managed) where
  one : (m : MNum) (x : ℕ) → IsLive s.heap m.0 × (s.cycle ≡ None) → Some m.0 ≡ Some x → IsLive s.heap x
  one m x h e = subst (IsLive s.heap) (some-same m.0 x e) h.0

  by-pin : (pin : Option MNum) (x : ℕ) → MayHold s pin → number_or_none pin ≡ Some x → IsLive s.heap x × (s.cycle ≡ None)
  by-pin None x h e = absurd (none_some x e)
  by-pin (Some m) x h e = (one m x h e, h.1)

  stands : (pins : List (Option ℕ)) (pin : Option MNum) → MayHold s pin → ((x : ℕ) → Contains pins (Some x) → number_or_none pin ≡ Some x) → PinsStand s pins
  stands pins pin h holds = record {
    live = λ x c. (by-pin pin x h (holds x c)).0;
    outside = λ c o x k d. absurd (none_some c (sym (by-pin pin x h (holds x k)).1 ∙ o));
  }

  pub take-stands : (t : ℕ) (pin : Option MNum) → MayHold s pin → PinsStand s (pin_given t pin)
  take-stands t pin h = stands (pin_given t pin) pin h (λ x c. elim (Contains-set_cases no_pins t (number_or_none pin) (Some x) c) [ inl k ↦ absurd (replicate-none 9 x k) | inr e ↦ e ])
