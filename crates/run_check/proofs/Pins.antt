-- The pins as they are kept: each thread's pin stands in its place, and one that is set there is set in the state's
-- pins.
use Rattle.std.proofs.Common.{◌≡◌, inl, inr, ℕ, zero, suc, ◌≤◌, List, [], ◌∷◌, get_or, length, drop, map, Option, Some, None, refl, sym, ap, ◌∙◌, subst, arith}
use Rattle.std.specs.Prelude.{Contains, slice_get, slice_set}
use Rattle.std.specs.Option.{option_map}
use Rattle.std.proofs.lemmas.List.{map-set}
use Rattle.std.proofs.lemmas.Option.{slice_get-map}
use Rattle.joint_machine.specs.declared.names.MNum.{MNum}
use Rattle.joint_machine.specs.Heaps.{slot}
use Rattle.joint_machine.specs.Managed.{Managed}
use Rattle.joint_machine.specs.PinsTold.{no_pins}
use Rattle.joint_machine.proofs.Numbered.{Contains-set_cases, slot-Contains}
use Rattle.joint_laws.specs.ManagedInvariants.{ManagedInvariant}
use Rattle.known_laws.specs.Known.{PinsStand}
use Rattle.known_laws.proofs.Pinned.{none_stand, own_stand}
use Rattle.managed_heap.specs.Pinned.{pin_given, pins_given}
use Rattle.managed_heap.specs.Rows.{number_or_none}
use Rattle.run_check.specs.Follows.{shown_pins}

pub shown-slot : (pins : List (Option MNum)) (t : ℕ) (pin : Option MNum) → 1 ≤ t → slice_get pins t ≡ Some pin → slot (shown_pins pins) t ≡ number_or_none pin
shown-slot pins zero pin l e = absurd (omega (arith, l))
shown-slot [] (suc t) pin l e = absurd (let f : ⊥ = cc in f)
shown-slot (p ∷ pins) (suc t) pin l e = ap (λ (z : Option (Option ℕ)). elim z [ None ↦ None | Some x ↦ x ]) (slice_get-map number_or_none pins t ∙ ap (option_map number_or_none) e)

pub shown-set : (pins : List (Option MNum)) (t : ℕ) (x : Option MNum) → 1 ≤ t → shown_pins (slice_set pins t x) ≡ slice_set (shown_pins pins) t (number_or_none x)
shown-set pins zero x l = absurd (omega (arith, l))
shown-set [] (suc t) x l = refl
shown-set (p ∷ pins) (suc t) x l = ap (λ (z : List (Option ℕ)). None ∷ z) (map-set number_or_none pins t x)

-- an empty pin is emptied
pub emptied : (xs : List (Option ℕ)) (t : ℕ) → slot xs t ≡ None → slice_set xs t None ≡ xs
emptied [] t e = refl
emptied (x ∷ xs) zero e = ap (λ z. z ∷ xs) (sym e)
emptied (x ∷ xs) (suc t) e = ap (λ z. x ∷ z) (emptied xs t e)

-- a thread's own pin stands
pub pin_stands : (s : Managed) → ManagedInvariant s → (t : ℕ) (pin : Option MNum) → slot s.pins t ≡ number_or_none pin → PinsStand s (pin_given t pin)
pin_stands s k t pin e = record {
  live = λ m c. elim (Contains-set_cases no_pins t (number_or_none pin) (Some m) c) [
    | inl n ↦ (none_stand s).live m n
    | inr q ↦ (own_stand s k).live m (slot-Contains s.pins t m (e ∙ q))
  ];
  outside = λ o f m c. elim (Contains-set_cases no_pins t (number_or_none pin) (Some m) c) [
    | inl n ↦ (none_stand s).outside o f m n
    | inr q ↦ (own_stand s k).outside o f m (slot-Contains s.pins t m (e ∙ q))
  ];
}

-- pins stand in the same objects with other pins
pub stand_bare : (s : Managed) (pins own : List (Option ℕ)) → PinsStand s pins → PinsStand (record s { pins = own }) pins
stand_bare s pins own w = record { live = w.live; outside = w.outside }

-- the pins behind the first, one by one
pub behind_first : (pins : List (Option MNum)) → length pins ≡ 9
    → (get_or pins 1 None ∷ get_or pins 2 None ∷ get_or pins 3 None ∷ get_or pins 4 None ∷ get_or pins 5 None ∷ get_or pins 6 None ∷ get_or pins 7 None ∷ get_or pins 8 None ∷ []) ≡ drop 1 pins
behind_first [] l = absurd (omega (arith, l))
behind_first (p ∷ []) l = absurd (omega (arith, l))
behind_first (p ∷ a ∷ []) l = absurd (omega (arith, l))
behind_first (p ∷ a ∷ b ∷ []) l = absurd (omega (arith, l))
behind_first (p ∷ a ∷ b ∷ c ∷ []) l = absurd (omega (arith, l))
behind_first (p ∷ a ∷ b ∷ c ∷ d ∷ []) l = absurd (omega (arith, l))
behind_first (p ∷ a ∷ b ∷ c ∷ d ∷ e ∷ []) l = absurd (omega (arith, l))
behind_first (p ∷ a ∷ b ∷ c ∷ d ∷ e ∷ f ∷ []) l = absurd (omega (arith, l))
behind_first (p ∷ a ∷ b ∷ c ∷ d ∷ e ∷ f ∷ g ∷ []) l = absurd (omega (arith, l))
behind_first (p ∷ a ∷ b ∷ c ∷ d ∷ e ∷ f ∷ g ∷ i ∷ []) l = refl
behind_first (p ∷ a ∷ b ∷ c ∷ d ∷ e ∷ f ∷ g ∷ i ∷ j ∷ js) l = absurd (omega (arith, l))
