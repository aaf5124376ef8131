-- What each managed thread of a generated script has in its variables, as its own entries tell it: of each object its
-- number, its fields and the handle that it holds. Other threads change none of it.
use Rattle.std.proofs.Common.{◌≡◌, ◌≢◌, ℕ, zero, suc, ◌<◌, ◌⊎◌, Bool, true, false, List, [], ◌∷◌, Option, Some, None, replicate, refl, arith}
use Rattle.joint_machine.specs.declared.names.HNum.{HNum}
use Rattle.joint_machine.specs.declared.lines.Act.TheVariants as act
use Rattle.joint_machine.specs.declared.events.Op.{Op}
use Rattle.joint_machine.specs.declared.events.Op.TheVariants as op
use Rattle.joint_machine.specs.declared.events.Reply.{Reply}
use Rattle.joint_machine.specs.declared.events.Reply.TheVariants as says
use Rattle.joint_machine.specs.declared.events.Entry.{Entry}

-- an object as its thread knows it
pub record Seen : Type 0 where
  pub number : ℕ
  pub fields : List (Option ℕ)
  pub handle : Option ℕ

abbrev pub seen : ℕ → List (Option ℕ) → Option ℕ → Seen
seen x fs h = record { number = x; fields = fs; handle = h }

-- the variables a, b and c
pub record Slots : Type 0 where
  pub a : Option Seen
  pub b : Option Seen
  pub c : Option Seen

abbrev pub at : Slots → ℕ → Option Seen
at s zero = s.a
at s (suc zero) = s.b
at s (suc (suc zero)) = s.c
at s (suc (suc (suc n))) = None

abbrev pub put : Slots → ℕ → Option Seen → Slots
put s zero x = record s { a = x }
put s (suc zero) x = record s { b = x }
put s (suc (suc zero)) x = record s { c = x }
put s (suc (suc (suc n))) x = s

-- what a thread has: its variables, a handle that it has made and not adopted, and whether what is in its variables
-- stands in a static already
pub record Mind : Type 0 where
  pub slots : Slots
  pub hand : Option ℕ
  pub stored : Bool

abbrev pub no_slots : Slots
no_slots = record { a = None; b = None; c = None }

abbrev pub empty_mind : Mind
empty_mind = record { slots = no_slots; hand = None; stored = false }

-- one object in a variable has another one in its only field, which has none
pub record IsOver (s : Slots) (v : ℕ) (over under : Option ℕ) : Type 0 where
  pub outer : Seen
  pub inner : Seen
  pub other : ℕ
  pub here : at s v ≡ Some outer
  pub there : at s other ≡ Some inner
  pub over_fields : outer.fields ≡ Some inner.number ∷ []
  pub under_fields : inner.fields ≡ []
  pub over_handle : outer.handle ≡ over
  pub under_handle : inner.handle ≡ under

-- what a write asks for: the object in the variable has one field, which is empty, and the other variable has an object
pub record IsBare (s : Slots) (v w i : ℕ) : Type 0 where
  pub target : Seen
  pub value : Seen
  pub here : at s v ≡ Some target
  pub there : at s w ≡ Some value
  pub first : i ≡ 0
  pub bare : target.fields ≡ None ∷ []
  pub v_small : v < 3
  pub w_small : w < 3

-- one entry of a managed thread: what it asks for, and what the thread has then
abbrev pub Step : Mind → Op → Reply → (Mind → Type 0) → Type 0
Step m (op.Line (act.New v k n)) (says.M z) go = (v.0 < 3) × go (record m { slots = put m.slots v.0 (Some (seen z.0 (replicate n None) None)) })
Step m (op.Line (act.Set v i (Some w))) r go = (b : IsBare m.slots v.0 w.0 i) × go (record m { slots = put m.slots v.0 (Some (seen b.target.number (Some b.value.number ∷ []) b.target.handle)) })
Step m (op.Line (act.Drop v)) r go = (v.0 < 3) × (stored : Bool) × ((stored ≡ m.stored) ⊎ ((w : ℕ) → at (put m.slots v.0 None) w ≡ None))
    × go (record m { slots = put m.slots v.0 None; stored = stored })
Step m (op.Line (act.Store x (Some v))) r go = (x.0 < 16) × (v.0 < 3) × (h : ℕ) × IsOver m.slots v.0 None (Some h) × (m.stored ≡ false) × go (record m { stored = true })
Step m (op.Make sort f) (says.Made p h) go = (m.hand ≡ None) × go (record m { hand = Some h.0 })
Step m (op.Adopt v k n p h) (says.M z) go = (m.hand ≡ Some h.0) × (v.0 < 3) × go (record m { slots = put m.slots v.0 (Some (seen z.0 (replicate n None) (Some h.0))); hand = None })
Step m (op.Lend v x) r go = (v.0 < 3) × (h : ℕ) × IsOver m.slots v.0 (Some h) None × ((g : HNum) → r ≡ says.H g → g.0 ≡ h → go m)
Step m (op.Land h x) r go = (x.0 < 16) × (v : ℕ) × IsOver m.slots v (Some h.0) None × (m.stored ≡ false) × go (record m { stored = true })
Step m o r go = ⊥

-- what is left of a thread's entries goes on from what it has, and leaves nothing in the end
abbrev pub Going : List Entry → Mind → Type 0
Going [] m = ((v : ℕ) → at m.slots v ≡ None) × (m.hand ≡ None)
Going (e ∷ es) m = Step m e.made.op e.made.reply (Going es)

pub at-put_same : (s : Slots) (v : ℕ) (x : Option Seen) → v < 3 → at (put s v x) v ≡ x
at-put_same s zero x l = refl
at-put_same s (suc zero) x l = refl
at-put_same s (suc (suc zero)) x l = refl
at-put_same s (suc (suc (suc n))) x l = absurd (omega (arith, l))

pub at-put_other : (s : Slots) (v w : ℕ) (x : Option Seen) → w ≢ v → at (put s v x) w ≡ at s w
at-put_other s zero zero x n = absurd (n refl)
at-put_other s zero (suc zero) x n = refl
at-put_other s zero (suc (suc zero)) x n = refl
at-put_other s zero (suc (suc (suc w))) x n = refl
at-put_other s (suc zero) zero x n = refl
at-put_other s (suc zero) (suc zero) x n = absurd (n refl)
at-put_other s (suc zero) (suc (suc zero)) x n = refl
at-put_other s (suc zero) (suc (suc (suc w))) x n = refl
at-put_other s (suc (suc zero)) zero x n = refl
at-put_other s (suc (suc zero)) (suc zero) x n = refl
at-put_other s (suc (suc zero)) (suc (suc zero)) x n = absurd (n refl)
at-put_other s (suc (suc zero)) (suc (suc (suc w))) x n = refl
at-put_other s (suc (suc (suc v))) w x n = refl

-- only the three variables are ever filled
pub at-small : (s : Slots) (v : ℕ) (x : Seen) → at s v ≡ Some x → v < 3
at-small s zero x e = omega arith
at-small s (suc zero) x e = omega arith
at-small s (suc (suc zero)) x e = omega arith
at-small s (suc (suc (suc v))) x e = cc
