-- But for a `weak`, a `take` and what the driver does with a cycle, no event of the managed side touches cells or
-- notices; a `weak` leaves the notices, and a `take` both.
use Rattle.std.proofs.Common.{◌≡◌, ℕ, zero, suc, ◌+◌, ◌-◌, ◌≤◌, Bool, true, false, List, [], ◌∷◌, ◌++◌, length, Option, Some, None, refl, sym, ap, ◌∙◌, subst, arith, length-append, true≢false}
use Rattle.std.specs.Prelude.{if◌then◌else◌, filter, min}
use Rattle.joint_machine.specs.declared.names.Thread.{Thread}
use Rattle.joint_machine.specs.declared.names.Thread.TheVariants.{M, P, C}
use Rattle.joint_machine.specs.declared.names.Kind.{Kind}
use Rattle.joint_machine.specs.declared.names.Sort.{Sort}
use Rattle.joint_machine.specs.declared.lines.Act.{Act}
use Rattle.joint_machine.specs.declared.lines.Act.TheVariants as act
use Rattle.joint_machine.specs.declared.events.Op.{Op}
use Rattle.joint_machine.specs.declared.events.Op.TheVariants as op
use Rattle.joint_machine.specs.declared.events.Made.{Made}
use Rattle.joint_machine.specs.declared.events.Reply.{Reply}
use Rattle.joint_machine.specs.declared.events.Reply.TheVariants as says
use Rattle.joint_machine.specs.Heaps.{Answered, answer, is_full, next_number, place, slot}
use Rattle.joint_machine.specs.Lines.{is_peer_event, is_read}
use Rattle.joint_machine.specs.Linked.{Linkage, MayCome, linkage_after, managed_after}
use Rattle.joint_machine.specs.Managed.{Managed, OpenCycle, adopted, cell_set, given_up, holds_handle, managed_line, managed_name, met, pin_taken, twin_fields, twin_kind, twin_met, weakened_to}
use Rattle.joint_machine.specs.Managed.{with_row, without_handle}
use Rattle.joint_machine.specs.ManagedReplay.{ManagedReplay, managed_answer, registered}
use Rattle.joint_machine.specs.Readers.{entry_after, reader_after}
use Rattle.joint_machine.specs.Run.{thread_number}
use Rattle.joint_machine.specs.Told.{Noted, Told, contraction_of, phase_of, resolution_of, snap_of}
use Rattle.joint_machine.proofs.Deciding.{option-cases, test-cases}
use Rattle.joint_machine.proofs.HeapLemmas.{adopt_by-managed}
use Rattle.joint_laws.specs.ManagedInvariants.{ReplayInvariant}
use Rattle.joint_laws.proofs.ManagedSteps.{give_by-managed, meet_by-managed}
use Rattle.run_check.specs.Judging.{IsStepped}

-- the cells and the notices are as before
pub record Untouched (s t : Managed) : Type 0 where
  pub cells : t.cells ≡ s.cells
  pub notices : t.notices ≡ s.notices

module _ (s : Managed) where
  abbrev Leaves : Answered Managed → Type 0
  Leaves a = Untouched s a.state

  row-leaves : (b : Bool) (r : Reply) (v : ℕ) (kind : Kind) (n : ℕ) (h : Option ℕ) → Leaves (if b then answer says.Full s else answer r (with_row s v kind n h))
  row-leaves b r v kind n h = test-cases Leaves b _ _ (record { cells = refl; notices = refl }) (record { cells = refl; notices = refl })

  twin-leaves : (v h : ℕ) (sort : Sort) (n : ℕ) (o : Option ℕ) → Leaves (twin_met s v h sort n o)
  twin-leaves v h sort n None = row-leaves (is_full s.heap.fields) _ v (twin_kind sort) (twin_fields sort n) (Some h)
  twin-leaves v h sort n (Some m) = record { cells = refl; notices = refl }

  met-leaves : (v h : ℕ) (sort : Sort) (n : ℕ) (o : Option ℕ) → Leaves (met s v h sort n o)
  met-leaves v h sort n o = by s.cycle
    where
      by : (c : Option OpenCycle) → Leaves (elim c [ None ↦ twin_met s v h sort n o | Some c ↦ answer (says.Pending record { 0 = c.number }) s ])
      by None = twin-leaves v h sort n o
      by (Some c) = record { cells = refl; notices = refl }

  give-leaves : (o : Option ℕ) → Untouched s (without_handle s o)
  give-leaves None = record { cells = refl; notices = refl }
  give-leaves (Some x) = record { cells = refl; notices = refl }

  pub line-leaves : (t : ℕ) (a : Act) → IsStepped (op.Line a) → is_read (op.Line a) ≡ false → Leaves (managed_line s t a)
  line-leaves t (act.New v kind n) w e = row-leaves (is_full s.heap.fields) (managed_name (next_number s.heap)) (place t v.0) kind n None
  line-leaves t (act.Weak k v) w e = absurd w
  line-leaves t (act.Take v) w e = absurd w
  line-leaves t (act.Read k) w e = absurd (true≢false e)
  line-leaves t (act.Await k) w e = absurd (true≢false e)
  line-leaves t _ w e = record { cells = refl; notices = refl }

  -- a `weak` sets a cell alone, and a `take` a variable and a pin
  pub weak-notices : (k v : ℕ) → (weakened_to s k v).state.notices ≡ s.notices
  weak-notices k v = option-cases (λ (a : Answered Managed). a.state.notices ≡ s.notices) _ _ (slot s.heap.vars v) refl (λ x. set x (slot s.cells k))
    where
      set : (x : ℕ) (o : Option ℕ) → (cell_set s k x o).state.notices ≡ s.notices
      set x None = refl
      set x (Some y) = refl

  pub take-leaves : (t v : ℕ) → Leaves (pin_taken s t v)
  take-leaves t v = option-cases Leaves _ _ (slot s.pins t) (record { cells = refl; notices = refl }) (λ x. record { cells = refl; notices = refl })

untouched-as : (s t u : Managed) → u ≡ t → Untouched s t → Untouched s u
untouched-as s t u e w = subst (Untouched s) (sym e) w

pub stepped-leaves : (s : ManagedReplay) (t : Thread) (o : Op) (told : Told) → IsStepped o → is_read o ≡ false → Untouched s.managed (managed_answer s t o told).state.managed
stepped-leaves s t (op.Line a) told w e = line-leaves s.managed (thread_number t) a w e
stepped-leaves s t (op.Adopt v kind n p h) told w e =
    let a = adopted s.managed (place (thread_number t) v.0) kind n h.0 in
    untouched-as s.managed a.state _ (adopt_by-managed s p.0 h.0 a.state a.reply)
    (row-leaves s.managed (is_full s.managed.heap.fields) (managed_name (next_number s.managed.heap)) (place (thread_number t) v.0) kind n (Some h.0))
stepped-leaves s t (op.Meet v sort n p h) told w e =
    let a = met s.managed (place (thread_number t) v.0) h.0 sort n (registered s.registry p.0) in
    untouched-as s.managed a.state _ (meet_by-managed s p.0 h.0 a.state a.reply) (met-leaves s.managed (place (thread_number t) v.0) h.0 sort n (registered s.registry p.0))
stepped-leaves s t (op.Give v) told w e =
    let u = place (thread_number t) v.0 in
    untouched-as s.managed (given_up s.managed u).state _ (give_by-managed s (slot s.managed.heap.vars u) (given_up s.managed u)) (give-leaves s.managed (slot s.managed.heap.vars u))
stepped-leaves s t (op.Snap k) told w e = absurd w
stepped-leaves s t (op.Contract k) told w e = absurd w
stepped-leaves s t (op.Resolve k) told w e = absurd w
stepped-leaves s t (op.Abandon k) told w e = absurd w
stepped-leaves s t (op.Refused x) told w e = absurd w
stepped-leaves s t _ told w e = record { cells = refl; notices = refl }
