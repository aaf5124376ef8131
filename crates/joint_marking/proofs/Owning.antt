-- Which live objects hold a handle, as a walk over the objects marks them.
use Rattle.std.proofs.Common.{◌≡◌, ℕ, ◌+◌, ◌<◌, ◌↔◌, ◌⊎◌, inl, inr, Bool, List, length, Some, None, sym, subst, ◌∙◌, arith}
use Rattle.joint_machine.specs.Heaps.{IsLive}
use Rattle.joint_machine.specs.Managed.{Managed, Holds, handle_of}
use Rattle.joint_machine.proofs.Members.{last-or}
use Rattle.joint_machine.proofs.HeapLemmas.{Holds-handle_of}
use Rattle.reachability.specs.Marks.{HasMark}
use Rattle.joint_marking.specs.Owned.{IsOwnedBelow}

-- an object without a handle holds none
pub Holds-none : (s : Managed) (m k : ℕ) → handle_of s m ≡ None → Holds s m k → ⊥
Holds-none s m k e w = (let f : None ≡ Some k = sym e ∙ Holds-handle_of s m k w in cc)

-- an object without a handle marks none
pub marks-none : (s : Managed) (m : ℕ) (old : List Bool) → handle_of s m ≡ None → (k : ℕ) → HasMark old k ↔ (HasMark old k ⊎ (Holds s m k × (k < length old)))
marks-none s m old e k = (λ o. inl o, elim [ inl o ↦ o | inr w ↦ absurd (Holds-none s m k e w.0) ])

owned-later : (s : Managed) (m marks h : ℕ) → IsOwnedBelow s m marks h → IsOwnedBelow s (m + 1) marks h
owned-later s m marks h w = record { owner = w.owner; below = omega (arith, w.below); holds = w.holds; marked = w.marked }

-- one object more was asked
pub owned-push : (s : Managed) (m : ℕ) (old new : List Bool) (n : ℕ) → length old ≡ n
    → ((h : ℕ) → HasMark old h ↔ IsOwnedBelow s m n h)
    → ((h : ℕ) → HasMark new h ↔ (HasMark old h ⊎ (Holds s m h × (h < length old))))
    → (h : ℕ) → HasMark new h ↔ IsOwnedBelow s (m + 1) n h
owned-push s m old new n len before step h = (
  λ c. elim ((step h).0 c) [
    | inl o ↦ owned-later s m n h ((before h).0 o)
    | inr w ↦ record { owner = m; below = omega arith; holds = w.0; marked = omega (arith, w.1) }
  ],
  λ w. elim (last-or w.owner m w.below) [
    | inl l ↦ (step h).1 (inl ((before h).1 (record { owner = w.owner; below = l; holds = w.holds; marked = w.marked })))
    | inr e ↦ (step h).1 (inr (subst (λ z. Holds s z h) e w.holds, omega (arith, w.marked)))
  ],
)

pub owned-skip : (s : Managed) (m : ℕ) (old : List Bool) (n : ℕ) → (IsLive s.heap m → ⊥) → ((h : ℕ) → HasMark old h ↔ IsOwnedBelow s m n h) → (h : ℕ) → HasMark old h ↔ IsOwnedBelow s (m + 1) n h
owned-skip s m old n dead before h = (
  λ c. owned-later s m n h ((before h).0 c),
  λ w. elim (last-or w.owner m w.below) [
    | inl l ↦ (before h).1 (record { owner = w.owner; below = l; holds = w.holds; marked = w.marked })
    | inr e ↦ absurd (dead (subst (IsLive s.heap) e w.holds.live))
  ],
)
