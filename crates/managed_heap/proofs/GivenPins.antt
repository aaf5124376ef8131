-- Pins that are given: what each place of the list says, and that a `take` finds the object that it is given.
use Rattle.std.proofs.Common.{◌≡◌, ℕ, zero, suc, ◌+◌, ◌<◌, ◌≤◌, Bool, List, [], ◌∷◌, ◌++◌, map, option_map, take, length, replicate, Option, Some, None, refl, sym, ap, subst, ◌∙◌, arith}
use Rattle.std.specs.Prelude.{Contains, slice_get, slice_set}
use Rattle.std.proofs.lemmas.List.{map-append, take_all}
use Rattle.std.proofs.lemmas.Option.{slice_get-map}
use Rattle.joint_machine.specs.declared.names.MNum.{MNum}
use Rattle.joint_machine.specs.Heaps.{slot}
use Rattle.joint_machine.proofs.Members.{Contains-at, Contains-there, take-next}
use Rattle.joint_machine.proofs.Numbered.{slot-Contains}
use Rattle.row_marking.specs.Traces.{Greyed}
use Rattle.row_marking.proofs.Greys.{Greyed-push_some, Greyed-push_none}
use Rattle.managed_heap.specs.Pinned.{pin_given, pins_given}
use Rattle.managed_heap.specs.Rows.{number_or_none}

-- one pin more
pub pins-next : (xs : List (Option MNum)) (i : ℕ) (x : Option MNum) → slice_get xs i ≡ Some x → pins_given (take (i + 1) xs) ≡ pins_given (take i xs) ++ number_or_none x ∷ []
pins-next xs i x e = ap pins_given (take-next xs i x e) ∙ ap (λ z. None ∷ z) (map-append number_or_none (take i xs) (x ∷ []))

-- what a place holds is held by a pin
pub pin-there : (xs : List (Option MNum)) (i : ℕ) (m : MNum) → slice_get xs i ≡ Some (Some m) → Contains (pins_given xs) (Some m.0)
pin-there xs i m e = Contains-there (Some m.0) None (map number_or_none xs) (Contains-at (map number_or_none xs) i (Some m.0) (slice_get-map number_or_none xs i ∙ ap (option_map number_or_none) e))

slot-set : {X : Type 0} (n t : ℕ) (o : Option X) → t < n → slot (slice_set (replicate n None) t o) t ≡ o
slot-set zero t o l = absurd (omega (arith, l))
slot-set (suc n) zero o l = refl
slot-set (suc n) (suc t) o l = slot-set n t o (omega (arith, l))

-- the pin of the thread is the one that is given
pub pin-slot : (t : ℕ) (pin : Option MNum) → t < 9 → slot (pin_given t pin) t ≡ number_or_none pin
pin-slot t pin l = slot-set 9 t (number_or_none pin) l

-- and so it is a pin
pub pin-held : (t : ℕ) (m : MNum) → t < 9 → Contains (pin_given t (Some m)) (Some m.0)
pin-held t m l = slot-Contains (pin_given t (Some m)) t m.0 (pin-slot t (Some m) l)

-- one pin more is done: it holds a row, which is marked
pub greyed-some : (xs : List (Option MNum)) (i : ℕ) (m : MNum) (a : List Bool) (k : List ℕ) (h : ℕ) (b : List Bool) (l : List ℕ) (j : ℕ) (c : List Bool) (n : List ℕ) (g : ℕ)
    → slice_get xs i ≡ Some (Some m)
    → Greyed (λ z. Contains (pins_given (take i xs)) (Some z)) a k h b l j → Greyed (λ z. z ≡ m.0) b l j c n g → Greyed (λ z. Contains (pins_given (take (i + 1) xs)) (Some z)) a k h c n g
greyed-some xs i m a k h b l j c n g e v w = subst (λ (zs : List (Option ℕ)). Greyed (λ z. Contains zs (Some z)) a k h c n g)
    (sym (pins-next xs i (Some m) e)) (Greyed-push_some (pins_given (take i xs)) m.0 a k h b l j c n g v w)

-- or it holds none
pub greyed-none : (xs : List (Option MNum)) (i : ℕ) (a : List Bool) (k : List ℕ) (h : ℕ) (b : List Bool) (l : List ℕ) (j : ℕ) → slice_get xs i ≡ Some None
    → Greyed (λ z. Contains (pins_given (take i xs)) (Some z)) a k h b l j → Greyed (λ z. Contains (pins_given (take (i + 1) xs)) (Some z)) a k h b l j
greyed-none xs i a k h b l j e v = subst (λ (zs : List (Option ℕ)). Greyed (λ z. Contains zs (Some z)) a k h b l j)
    (sym (pins-next xs i None e)) (Greyed-push_none (pins_given (take i xs)) a k h b l j v)

pub greyed-all : (xs : List (Option MNum)) (i : ℕ) (a : List Bool) (k : List ℕ) (h : ℕ) (b : List Bool) (l : List ℕ) (j : ℕ) → length xs ≤ i
    → Greyed (λ z. Contains (pins_given (take i xs)) (Some z)) a k h b l j → Greyed (λ z. Contains (pins_given xs) (Some z)) a k h b l j
greyed-all xs i a k h b l j e v = subst (λ ys. Greyed (λ z. Contains (pins_given ys) (Some z)) a k h b l j) (take_all i xs e) v
