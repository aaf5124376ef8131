-- What an open cycle keeps ready stays so: an operation makes and frees no object and touches no mark, and a further
-- object has its mark.
use Rattle.std.proofs.Common.{◌≡◌, ℕ, ◌+◌, inl, inr, true, [], ◌∷◌, ◌++◌, length, replicate, Option, Some, None, sym, ap, subst, ◌∙◌, arith, length-append}
use Rattle.std.specs.Prelude.{Contains, slice_get}
use Rattle.joint_machine.specs.declared.events.Reply.{Reply}
use Rattle.joint_machine.specs.Heaps.{Heap, Answered, IsLive, answer, with_var, with_object}
use Rattle.joint_machine.specs.Managed.{OpenCycle}
use Rattle.joint_machine.proofs.Members.{last-or}
use Rattle.joint_machine.proofs.Numbered.{push-at_old, push-at_new}
use Rattle.joint_laws.proofs.HeapMoves.{HasMoved}
use Rattle.reachability.specs.Marks.{HasMark}
use Rattle.row_heap.specs.Rows.{HeapRows}
use Rattle.managed_heap.specs.Dues.{AreDues}

live-as : (h k : Heap) (m : ℕ) → length k.fields ≡ length h.fields → k.freed ≡ h.freed → IsLive h m → IsLive k m
live-as h k m len freed l = record {
  made = (l.made.0, omega (arith, l.made.1, len));
  kept = λ c. l.kept (subst (λ xs. Contains xs m) freed c);
}

-- the same objects are live, with the same marks
pub AreDues-as : (cycle : Option OpenCycle) (v w : HeapRows) (spare : ℕ) → length w.heap.fields ≡ length v.heap.fields
    → w.heap.freed ≡ v.heap.freed → w.marks ≡ v.marks → AreDues cycle v spare → AreDues cycle w spare
AreDues-as cycle v w spare len freed marks a = λ c e. (
    let d = a c e in
    record {
      rise = d.rise;
      white = λ m. (
        λ k. (let u = (d.white m).0 k in (live-as v.heap w.heap m len freed u.0, λ h. u.1 (subst (λ ms. HasMark ms m) marks h))),
        λ u. (d.white m).1 (live-as w.heap v.heap m (sym len) (sym freed) u.0, λ h. u.1 (subst (λ ms. HasMark ms m) (sym marks) h)),
      );
      notices = d.notices;
    })

-- a variable names another object, or none
pub AreDues-var : (cycle : Option OpenCycle) (v w : HeapRows) (spare p : ℕ) (o : Option ℕ) → w ≡ record v { heap = with_var v.heap p o } → AreDues cycle v spare → AreDues cycle w spare
AreDues-var cycle v w spare p o e a = AreDues-as cycle v w spare (ap (λ (u : HeapRows). length u.heap.fields) e) (ap (λ (u : HeapRows). u.heap.freed) e) (ap (λ (u : HeapRows). u.marks) e) a

-- an operation of the heap
pub AreDues-moved : (cycle : Option OpenCycle) (v w : HeapRows) (spare : ℕ) (a : Answered Heap) (r : Reply)
    → HasMoved v.heap a.state → a ≡ answer r w.heap → w ≡ record v { heap = w.heap } → AreDues cycle v spare → AreDues cycle w spare
AreDues-moved cycle v w spare a r moved is e d =
    let same : a.state ≡ w.heap = ap (λ (z : Answered Heap). z.state) is in
    AreDues-as cycle v w spare (subst (λ h. length h.fields ≡ length v.heap.fields) same moved.made) (subst (λ h. h.freed ≡ v.heap.freed) same moved.freed) (ap (λ (u : HeapRows). u.marks) e) d

-- a further object, which a variable names
pub AreDues-object : (cycle : Option OpenCycle) (v w : HeapRows) (spare n p : ℕ) (o : Option ℕ) → length v.marks ≡ length v.heap.fields + 1
    → w ≡ record v { heap = with_var (with_object v.heap n) p o; marks = v.marks ++ true ∷ []; links = v.links ++ 0 ∷ [] } → AreDues cycle v spare → AreDues cycle w spare
AreDues-object cycle v w spare n p o fit e a = λ c q. (
    let d = a c q in
    let marks : w.marks ≡ v.marks ++ true ∷ [] = ap (λ (u : HeapRows). u.marks) e in
    let freed : w.heap.freed ≡ v.heap.freed = ap (λ (u : HeapRows). u.heap.freed) e in
    let longer : length w.heap.fields ≡ length v.heap.fields + 1 = ap (λ (u : HeapRows). length u.heap.fields) e ∙ length-append v.heap.fields (replicate n None ∷ []) in
    record {
      rise = d.rise;
      white = λ m. (
        λ k. (
            let u = (d.white m).0 k in (
              record { made = (u.0.made.0, omega (arith, u.0.made.1, longer)); kept = λ x. u.0.kept (subst (λ xs. Contains xs m) freed x) },
              λ h. u.1 (sym (push-at_old v.marks true m (omega (arith, u.0.made.1, fit))) ∙ subst (λ ms. HasMark ms m) marks h),
            )),
        λ u. elim (last-or m (length v.heap.fields + 1) (omega (arith, u.0.made.1, longer))) [
          | inl l ↦ (d.white m).1 (
            record { made = (u.0.made.0, omega (arith, l)); kept = λ x. u.0.kept (subst (λ xs. Contains xs m) (sym freed) x) },
            λ h. u.1 (subst (λ ms. HasMark ms m) (sym marks) (push-at_old v.marks true m (omega (arith, l, fit)) ∙ h)),
          )
          | inr l ↦ absurd (u.1 (subst (λ ms. HasMark ms m) (sym marks) (subst (λ i. slice_get (v.marks ++ true ∷ []) i ≡ Some true) (fit ∙ sym l) (push-at_new v.marks true))))
        ],
      );
      notices = d.notices;
    })
