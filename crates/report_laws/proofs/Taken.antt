-- No managed event but the taking of notices changes how many were taken.
use Rattle.std.proofs.Common.{◌≡◌, ℕ, Option, Some, None, refl, ap, ◌∙◌}
use Rattle.std.specs.Prelude.{slice_set}
use Rattle.joint_machine.specs.declared.names.Kind.{Kind}
use Rattle.joint_machine.specs.declared.names.Sort.{Sort}
use Rattle.joint_machine.specs.declared.names.Thread.{Thread}
use Rattle.joint_machine.specs.declared.lines.Act.{Act}
use Rattle.joint_machine.specs.declared.lines.Act.TheVariants as act
use Rattle.joint_machine.specs.declared.events.Op.{Op}
use Rattle.joint_machine.specs.declared.events.Op.TheVariants as op
use Rattle.joint_machine.specs.declared.events.Reply.TheVariants as says
use Rattle.joint_machine.specs.Heaps.{Answered, answer, slot, place, is_freed, is_full}
use Rattle.joint_machine.specs.Managed.{Managed, OpenCycle, managed_name, adopted, cell_set, target_read, cell_read, read_cell, twin_met, met, given_up, without_handle, managed_line}
use Rattle.joint_machine.specs.ManagedReplay.{ManagedReplay, registered, managed_answer}
use Rattle.joint_machine.specs.Run.{thread_number}
use Rattle.joint_machine.specs.Told.{Told, snap_of, contraction_of, resolution_of, phase_of}
use Rattle.joint_machine.proofs.Deciding.{option-cases, test-cases}
use Rattle.joint_machine.proofs.HeapLemmas.{adopt_by-managed}
use Rattle.joint_laws.proofs.ManagedMoves.{met_by}
use Rattle.joint_laws.proofs.ManagedSteps.{meet_by-managed, give_by-managed}

module _ (s : Managed) where
  abbrev Keeps : Answered Managed → Type 0
  Keeps a = a.state.taken ≡ s.taken

  cell-keeps : (k x : ℕ) (o : Option ℕ) → Keeps (cell_set s k x o)
  cell-keeps k x None = refl
  cell-keeps k x (Some y) = refl

  target-keeps : (t : ℕ) (o : Option ℕ) → Keeps (target_read s t o)
  target-keeps t None = refl
  target-keeps t (Some x) = test-cases Keeps (is_freed s.heap x) (answer says.Gone s) (answer (managed_name x) (record s { pins = slice_set s.pins t (Some x) })) refl refl

  open-keeps : (t k : ℕ) (o : Option OpenCycle) → Keeps (cell_read s t k o)
  open-keeps t k None = target-keeps t (slot s.cells k)
  open-keeps t k (Some c) = refl

  read-keeps : (t k : ℕ) → Keeps (read_cell s t k)
  read-keeps t k = option-cases Keeps _ _ (slot s.pins t) (open-keeps t k s.cycle) (λ x. refl)

  twin-keeps : (v h : ℕ) (sort : Sort) (n : ℕ) (o : Option ℕ) → Keeps (twin_met s v h sort n o)
  twin-keeps v h sort n (Some m) = refl
  twin-keeps v h sort n None = test-cases Keeps (is_full s.heap.fields) _ _ refl refl

  met_by-keeps : (v h : ℕ) (sort : Sort) (n : ℕ) (o : Option ℕ) (c : Option OpenCycle) → Keeps (met_by s v h sort n o c)
  met_by-keeps v h sort n o None = twin-keeps v h sort n o
  met_by-keeps v h sort n o (Some c) = refl

  met-keeps : (v h : ℕ) (sort : Sort) (n : ℕ) (o : Option ℕ) → Keeps (met s v h sort n o)
  met-keeps v h sort n o = met_by-keeps v h sort n o s.cycle

  adopted-keeps : (v : ℕ) (kind : Kind) (n h : ℕ) → Keeps (adopted s v kind n h)
  adopted-keeps v kind n h = test-cases Keeps (is_full s.heap.fields) _ _ refl refl

  give-keeps : (o : Option ℕ) → (without_handle s o).taken ≡ s.taken
  give-keeps None = refl
  give-keeps (Some x) = refl

-- the taking of notices
abbrev pub IsTaking : Op → Type 0
IsTaking (op.Line (act.Finalise n)) = Unit {0}
IsTaking _ = ⊥

line-keeps : (s : Managed) (t : ℕ) (a : Act) → (IsTaking (op.Line a) → ⊥) → (managed_line s t a).state.taken ≡ s.taken
line-keeps s t (act.New v kind n) out = test-cases (Keeps s) (is_full s.heap.fields) _ _ refl refl
line-keeps s t (act.Weak k v) out = option-cases (Keeps s) _ _ (slot s.heap.vars (place t v.0)) refl (λ x. cell-keeps s k.0 x (slot s.cells k.0))
line-keeps s t (act.Read k) out = read-keeps s t k.0
line-keeps s t (act.Await k) out = read-keeps s t k.0
line-keeps s t (act.Take v) out = option-cases (Keeps s) _ _ (slot s.pins t) refl (λ x. refl)
line-keeps s t (act.Finalise n) out = absurd (out tt)
line-keeps s t _ out = refl

pub answer-keeps : (r : ManagedReplay) (t : Thread) (o : Op) (told : Told) → (IsTaking o → ⊥) → (managed_answer r t o told).state.managed.taken ≡ r.managed.taken
answer-keeps r t (op.Line a) told out = line-keeps r.managed (thread_number t) a out
answer-keeps r t (op.Adopt v kind n p h) told out =
    let a = adopted r.managed (place (thread_number t) v.0) kind n h.0 in
    ap (λ (z : Managed). z.taken) (adopt_by-managed r p.0 h.0 a.state a.reply) ∙ adopted-keeps r.managed (place (thread_number t) v.0) kind n h.0
answer-keeps r t (op.Meet v sort n p h) told out =
    let a = met r.managed (place (thread_number t) v.0) h.0 sort n (registered r.registry p.0) in
    ap (λ (z : Managed). z.taken) (meet_by-managed r p.0 h.0 a.state a.reply) ∙ met-keeps r.managed (place (thread_number t) v.0) h.0 sort n (registered r.registry p.0)
answer-keeps r t (op.Give v) told out =
    let u = place (thread_number t) v.0 in
    ap (λ (z : Managed). z.taken) (give_by-managed r (slot r.managed.heap.vars u) (given_up r.managed u)) ∙ give-keeps r.managed (slot r.managed.heap.vars u)
answer-keeps r t (op.Snap k) (snap_of freed candidates dead) out = refl
answer-keeps r t (op.Snap k) told out = refl
answer-keeps r t (op.Contract k) (contraction_of comps heavy xrefs) out = refl
answer-keeps r t (op.Contract k) told out = refl
answer-keeps r t (op.Resolve k) (resolution_of alive freed) out = refl
answer-keeps r t (op.Resolve k) told out = refl
answer-keeps r t (op.Abandon k) told out = refl
answer-keeps r t (op.Refused x) (phase_of phase) out = refl
answer-keeps r t (op.Refused x) told out = refl
answer-keeps r t _ told out = refl
