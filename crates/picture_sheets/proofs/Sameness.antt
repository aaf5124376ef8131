-- What is the same by its test is the same.
use Rattle.std.proofs.Common.{◌≡◌, inl, inr, ℕ, zero, suc, Bool, true, false, ◌&&◌, ◌||◌, nat_eq, List, [], ◌∷◌, refl, sym, ap, subst, ◌∙◌, arith}
use Rattle.std.specs.Prelude.{Contains}
use Rattle.std.specs.List.{list_any}
use Rattle.std.proofs.lemmas.Bool.{eqb-true}
use Rattle.std.proofs.lemmas.Bool.Decides.{nat_tests}
use Rattle.std.proofs.lemmas.Map.Views.{Contains-from_any}
use Rattle.joint_machine.proofs.Members.{Contains-nil, Contains-cons_cases}
use Rattle.heap_pictures.specs.declared.pictures.Slots.{Slots}
use Rattle.heap_pictures.specs.declared.pictures.Slots.TheVariants as slots
use Rattle.heap_pictures.specs.declared.pictures.Spot.{Spot}
use Rattle.heap_pictures.specs.declared.pictures.Spot.TheVariants as spot
use Rattle.picture_sheets.specs.Same.{same_slots, same_spot, slots_number}

nat-self : (n : ℕ) → nat_eq n n ≡ true
nat-self n = grind (arith, nat_tests)

abbrev slots_of : ℕ → Slots
slots_of zero = slots.ManagedVars
slots_of (suc zero) = slots.ManagedStatics
slots_of (suc (suc zero)) = slots.Pins
slots_of (suc (suc (suc zero))) = slots.PeerVars
slots_of (suc (suc (suc (suc zero)))) = slots.PeerStatics
slots_of (suc (suc (suc (suc (suc n))))) = slots.Names

slots-back : (s : Slots) → slots_of (slots_number s) ≡ s
slots-back slots.ManagedVars = refl
slots-back slots.ManagedStatics = refl
slots-back slots.Pins = refl
slots-back slots.PeerVars = refl
slots-back slots.PeerStatics = refl
slots-back slots.Names = refl

slots-same : (s t : Slots) → same_slots s t ≡ true → s ≡ t
slots-same s t e = sym (slots-back s) ∙ (ap slots_of (eqb-true (slots_number s) (slots_number t) e) ∙ slots-back t)

both : (a b : Bool) → (a && b) ≡ true → (a ≡ true) × (b ≡ true)
both true b e = (refl, e)
both false b e = cc

pub spot-same : (x y : Spot) → same_spot x y ≡ true → x ≡ y
spot-same (spot.Object m) (spot.Object n) e = ap spot.Object (eqb-true m n e)
spot-same (spot.Peer p) (spot.Peer q) e = ap spot.Peer (eqb-true p q e)
spot-same (spot.Handle h) (spot.Handle g) e = ap spot.Handle (eqb-true h g e)
spot-same (spot.Slot s i) (spot.Slot t j) e =
    let b = both (same_slots s t) (nat_eq i j) e in
    ap (λ u. spot.Slot u i) (slots-same s t b.0) ∙ ap (spot.Slot t) (eqb-true i j b.1)
spot-same (spot.Temporary i) (spot.Temporary j) e = ap spot.Temporary (eqb-true i j e)
spot-same (spot.Object m) (spot.Peer p) e = cc
spot-same (spot.Object m) (spot.Handle h) e = cc
spot-same (spot.Object m) (spot.Slot s i) e = cc
spot-same (spot.Object m) (spot.Temporary i) e = cc
spot-same (spot.Peer p) (spot.Object m) e = cc
spot-same (spot.Peer p) (spot.Handle h) e = cc
spot-same (spot.Peer p) (spot.Slot s i) e = cc
spot-same (spot.Peer p) (spot.Temporary i) e = cc
spot-same (spot.Handle h) (spot.Object m) e = cc
spot-same (spot.Handle h) (spot.Peer p) e = cc
spot-same (spot.Handle h) (spot.Slot s i) e = cc
spot-same (spot.Handle h) (spot.Temporary i) e = cc
spot-same (spot.Slot s i) (spot.Object m) e = cc
spot-same (spot.Slot s i) (spot.Peer p) e = cc
spot-same (spot.Slot s i) (spot.Handle h) e = cc
spot-same (spot.Slot s i) (spot.Temporary j) e = cc
spot-same (spot.Temporary i) (spot.Object m) e = cc
spot-same (spot.Temporary i) (spot.Peer p) e = cc
spot-same (spot.Temporary i) (spot.Handle h) e = cc
spot-same (spot.Temporary i) (spot.Slot s j) e = cc

pub spot-self : (x : Spot) → same_spot x x ≡ true
spot-self (spot.Object m) = nat-self m
spot-self (spot.Peer p) = nat-self p
spot-self (spot.Handle h) = nat-self h
spot-self (spot.Slot s i) = ap (λ b. b && nat_eq i i) (nat-self (slots_number s)) ∙ nat-self i
spot-self (spot.Temporary i) = nat-self i

-- a list has what its test finds
any-of : {A : Type 0} (same : A → A → Bool) → ((x : A) → same x x ≡ true) → (x : A) (xs : List A) → Contains xs x → list_any (same x) xs ≡ true
any-of same self x [] c = absurd (Contains-nil x c)
any-of {A} same self x (y ∷ ys) c = elim (Contains-cons_cases y ys x c) [
  | inl e ↦ here y e
  | inr d ↦ there (same x y) (any-of same self x ys d)
]
  where
    here : (z : A) → z ≡ x → (same x z || list_any (same x) ys) ≡ true
    here z e = subst (λ u. (same x u || list_any (same x) ys) ≡ true) (sym e) (ap (λ b. b || list_any (same x) ys) (self x))

    there : (b : Bool) → list_any (same x) ys ≡ true → (b || list_any (same x) ys) ≡ true
    there true e = refl
    there false e = e

pub number-in : (n : ℕ) (ns : List ℕ) → Contains ns n → list_any (nat_eq n) ns ≡ true
number-in n ns c = any-of nat_eq nat-self n ns c

pub in-number : (n : ℕ) (ns : List ℕ) → list_any (nat_eq n) ns ≡ true → Contains ns n
in-number n ns e = Contains-from_any {eq = nat_eq} (λ a b t. eqb-true a b t) n ns e
