-- A `weak` by the cell's word: it sets the cell exactly where the word is 0 and the variable names an object, and that
-- is its target.
use Rattle.std.proofs.Common.{◌≡◌, ℕ, Option, Some, None, refl, ap, subst, ◌∙◌}
use Rattle.std.specs.Prelude.{IfSome}
use Rattle.joint_machine.specs.declared.names.Cell.{Cell}
use Rattle.joint_machine.specs.declared.names.MNum.{MNum}
use Rattle.joint_machine.specs.declared.names.Thread.{Thread}
use Rattle.joint_machine.specs.declared.names.Var.{Var}
use Rattle.joint_machine.specs.declared.events.Reply.TheVariants as says
use Rattle.joint_machine.specs.Heaps.{Answered, IsLive, answer, place, slot}
use Rattle.joint_machine.specs.Managed.{Managed, cell_set, weakened_to}
use Rattle.joint_machine.specs.ManagedReplay.{ManagedReplay}
use Rattle.joint_machine.specs.Run.{thread_number}
use Rattle.joint_machine.specs.Sides.{MaySetCell, cell_target, object_or_none}
use Rattle.managed_heap.specs.Pinned.{unset_target, weak_target}
use Rattle.managed_heap.specs.Steps.{weak_op}

-- a test of words that holds of nothing else
none-or : (o : Option ℕ) (P : Type 0) → (o ≡ None → P) → ((y : ℕ) → o ≡ Some y → P) → P
none-or None P f g = f refl
none-or (Some y) P f g = g y refl

-- by what the variable names and by the cell's target
abbrev weak_by : Managed → ℕ → Option ℕ → Option ℕ → Answered Managed
weak_by s k None y = answer says.Empty s
weak_by s k (Some x) y = cell_set s k x y

target-by : (s : Managed) (t : Thread) (k : Cell) (v : Var) (r : ManagedReplay) (o y : Option ℕ)
    → slot r.managed.heap.vars (place (thread_number t) v.0) ≡ o → cell_target r t (weak_op k v) (weak_by s k.0 o y).reply ≡ unset_target y o
target-by s t k v r None None e = refl
target-by s t k v r None (Some y) e = refl
target-by s t k v r (Some x) None e = ap object_or_none e
target-by s t k v r (Some x) (Some y) e = refl

weak-is : (s : Managed) (k v : ℕ) (o : Option ℕ) → slot s.heap.vars v ≡ o → weakened_to s k v ≡ weak_by s k o (slot s.cells k)
weak-is s k v None e = ap (λ o. elim o [ None ↦ answer says.Empty s | Some x ↦ cell_set s k x (slot s.cells k) ]) e
weak-is s k v (Some x) e = ap (λ o. elim o [ None ↦ answer says.Empty s | Some x ↦ cell_set s k x (slot s.cells k) ]) e

pub target-is : (r : ManagedReplay) (t : Thread) (k : Cell) (v : Var)
    → cell_target r t (weak_op k v) (weakened_to r.managed k.0 (place (thread_number t) v.0)).reply ≡ weak_target r k.0 (place (thread_number t) v.0)
target-is r t k v =
    let o = slot r.managed.heap.vars (place (thread_number t) v.0) in
    ap (λ (a : Answered Managed). cell_target r t (weak_op k v) a.reply) (weak-is r.managed k.0 (place (thread_number t) v.0) o refl) ∙ target-by r.managed t k v r o (slot r.managed.cells k.0) refl

-- the cell may be set to it
pub target-may : (r : ManagedReplay) (k : Cell) (v : Var) (m : Option MNum) → IfSome m (λ x. slot r.managed.cells k.0 ≡ None)
    → IfSome m (λ x. IsLive r.managed.heap x.0) → (x : MNum) → m ≡ Some x → MaySetCell r (weak_op k v) x
target-may r k v None unset live x e = (let f : ⊥ = cc in absurd f)
target-may r k v (Some y) unset live x e = (unset, subst (λ (o : Option MNum). IfSome o (λ z. IsLive r.managed.heap z.0)) e live)

pub set-taken : (s : Managed) (k x w : ℕ) → (slot s.cells k ≡ None → w ≡ 0) → (w ≡ 0 → ⊥) → cell_set s k x (slot s.cells k) ≡ answer says.Taken s
set-taken s k x w word set = none-or (slot s.cells k) (cell_set s k x (slot s.cells k) ≡ answer says.Taken s) (λ e. absurd (set (word e))) (λ y e. ap (λ o. cell_set s k x o) e)
