-- What an entry of the managed list does to the open cycle and to the cells: a snap, a resolve and an abandon alone
-- change the cycle, as the events say, and a `weak` that answers ok alone sets a cell, its own. A case for each event,
-- since the machine's answers are computed by cases.
use Rattle.std.proofs.Common.{◌≡◌, ⊎_elim, ℕ, Bool, true, false, Option, Some, None, refl, sym, ap, ◌∙◌, subst}
use Rattle.std.specs.Prelude.{if◌then◌else◌, slice_set}
use Rattle.joint_machine.specs.declared.names.Thread.{Thread}
use Rattle.joint_machine.specs.declared.names.Kind.{Kind}
use Rattle.joint_machine.specs.declared.names.Sort.{Sort}
use Rattle.joint_machine.specs.declared.lines.Act.{Act}
use Rattle.joint_machine.specs.declared.lines.Act.TheVariants as act
use Rattle.joint_machine.specs.declared.events.Op.{Op}
use Rattle.joint_machine.specs.declared.events.Op.TheVariants as op
use Rattle.joint_machine.specs.declared.events.Reply.{Reply}
use Rattle.joint_machine.specs.declared.events.Reply.TheVariants as says
use Rattle.joint_machine.specs.Heaps.{Answered, answer, slot, place, is_full, is_freed}
use Rattle.joint_machine.specs.Managed.{Managed, OpenCycle, managed_name, managed_line, adopted, met, given_up, with_row, cell_set, target_read, cell_read, read_cell, pin_taken, without_handle}
use Rattle.joint_machine.specs.Managed.{twin_met, twin_kind, twin_fields}
use Rattle.joint_machine.specs.ManagedReplay.{ManagedReplay, ManagedAllows, managed_answer, registered}
use Rattle.joint_machine.specs.Readers.{SetsCell}
use Rattle.joint_machine.specs.Run.{thread_number}
use Rattle.joint_machine.specs.Told.{Told, snap_of, contraction_of, resolution_of, phase_of}
use Rattle.joint_machine.proofs.HeapLemmas.{adopt_by-managed}
use Rattle.joint_machine.proofs.Joining.{same_or_not, slice_get-set_other}
use Rattle.joint_laws.proofs.KeptPins.{weak_by, take_by}
use Rattle.joint_laws.proofs.ManagedMoves.{met_by}
use Rattle.joint_laws.proofs.ManagedSteps.{meet_by-managed, give_by-managed}
use Rattle.known_laws.specs.Drawn.{open_after}
use Rattle.known_laws.specs.Held.{open_number}

-- the cycle and the cells stay
record Stays (s t : Managed) : Type 0 where
  cycle : t.cycle ≡ s.cycle
  cells : t.cells ≡ s.cells

-- a read by the pin
abbrev read_by : Managed → ℕ → ℕ → Option ℕ → Answered Managed
read_by s t k None = cell_read s t k s.cycle
read_by s t k (Some x) = answer (says.Pinned record { 0 = x }) s

module _ (s : Managed) where
  same : Stays s s
  same = record { cycle = refl; cells = refl }

  row-stays : (b : Bool) (r : Reply) (v : ℕ) (kind : Kind) (n : ℕ) (h : Option ℕ) → Stays s (if b then answer says.Full s else answer r (with_row s v kind n h)).state
  row-stays true r v kind n h = same
  row-stays false r v kind n h = record { cycle = refl; cells = refl }

  twin-stays : (v h : ℕ) (sort : Sort) (n : ℕ) (o : Option ℕ) → Stays s (twin_met s v h sort n o).state
  twin-stays v h sort n None = row-stays (is_full s.heap.fields) _ v (twin_kind sort) (twin_fields sort n) (Some h)
  twin-stays v h sort n (Some m) = record { cycle = refl; cells = refl }

  met-stays : (v h : ℕ) (sort : Sort) (n : ℕ) (o : Option ℕ) → Stays s (met s v h sort n o).state
  met-stays v h sort n o = by s.cycle
    where
      by : (c : Option OpenCycle) → Stays s (met_by s v h sort n o c).state
      by None = twin-stays v h sort n o
      by (Some x) = same

  give-stays : (o : Option ℕ) → Stays s (without_handle s o)
  give-stays None = same
  give-stays (Some x) = record { cycle = refl; cells = refl }

  target-stays : (t : ℕ) (o : Option ℕ) → Stays s (target_read s t o).state
  target-stays t None = same
  target-stays t (Some x) = by (is_freed s.heap x)
    where
      by : (b : Bool) → Stays s (if b then answer says.Gone s else answer (managed_name x) (record s { pins = slice_set s.pins t (Some x) })).state
      by true = same
      by false = record { cycle = refl; cells = refl }

  cell-stays : (t k : ℕ) (o : Option OpenCycle) → Stays s (cell_read s t k o).state
  cell-stays t k None = target-stays t (slot s.cells k)
  cell-stays t k (Some c) = same

  read-stays : (t k : ℕ) → Stays s (read_cell s t k).state
  read-stays t k = by (slot s.pins t)
    where
      by : (o : Option ℕ) → Stays s (read_by s t k o).state
      by None = cell-stays t k s.cycle
      by (Some x) = same

  take-stays : (t v : ℕ) → Stays s (pin_taken s t v).state
  take-stays t v = by (slot s.pins t)
    where
      by : (o : Option ℕ) → Stays s (take_by s t v o).state
      by None = same
      by (Some x) = record { cycle = refl; cells = refl }

-- the cycle is as the event says, and a cell without a target has none afterwards, unless the event has set it
pub record HasGone (s t : Managed) (o : Op) (r : Reply) : Type 0 where
  pub cycle : open_number t.cycle ≡ open_after o (open_number s.cycle)
  pub cells : (c : ℕ) → (SetsCell o c → r ≡ says.Ok → ⊥) → slot s.cells c ≡ None → slot t.cells c ≡ None

stay-gone : (s t : Managed) (o : Op) (r : Reply) → ((z : Option ℕ) → open_after o z ≡ z) → Stays s t → HasGone s t o r
stay-gone s t o r d k = record { cycle = ap open_number k.cycle ∙ sym (d (open_number s.cycle)); cells = λ c n e. ap (λ z. slot z c) k.cells ∙ e }

-- a `weak` sets its own cell alone, and answers ok then
module _ (s : Managed) (k : ℕ) where
  set-cycle : (x : ℕ) (o : Option ℕ) → (cell_set s k x o).state.cycle ≡ s.cycle
  set-cycle x None = refl
  set-cycle x (Some y) = refl

  weak-cycle : (o : Option ℕ) → (weak_by s k o).state.cycle ≡ s.cycle
  weak-cycle None = refl
  weak-cycle (Some x) = set-cycle x (slot s.cells k)

  set-cells : (x c : ℕ) (o : Option ℕ) → (k ≡ c → (cell_set s k x o).reply ≡ says.Ok → ⊥) → slot s.cells c ≡ None → slot (cell_set s k x o).state.cells c ≡ None
  set-cells x c None n e = ⊎_elim
      (λ (q : c ≡ k). absurd (n (sym q) refl))
      (λ other. ap (λ (z : Option (Option ℕ)). elim z [ None ↦ None | Some y ↦ y ]) (slice_get-set_other s.cells k c (Some x) other) ∙ e)
      (same_or_not c k)
  set-cells x c (Some y) n e = e

  weak-cells : (c : ℕ) (o : Option ℕ) → (k ≡ c → (weak_by s k o).reply ≡ says.Ok → ⊥) → slot s.cells c ≡ None → slot (weak_by s k o).state.cells c ≡ None
  weak-cells c None n e = e
  weak-cells c (Some x) n e = set-cells x c (slot s.cells k) n e

line-gone : (s : Managed) (t : ℕ) (a : Act) → HasGone s (managed_line s t a).state (op.Line a) (managed_line s t a).reply
line-gone s t (act.Weak k v) = record { cycle = ap open_number (weak-cycle s k.0 (slot s.heap.vars (place t v.0))); cells = λ c n e. weak-cells s k.0 c (slot s.heap.vars (place t v.0)) n e }
line-gone s t (act.New v kind n) = stay-gone s _ _ _ (λ z. refl) (row-stays s (is_full s.heap.fields) _ (place t v.0) kind n None)
line-gone s t (act.Read k) = stay-gone s _ _ _ (λ z. refl) (read-stays s t k.0)
line-gone s t (act.Await k) = stay-gone s _ _ _ (λ z. refl) (read-stays s t k.0)
line-gone s t (act.Take v) = stay-gone s _ _ _ (λ z. refl) (take-stays s t (place t v.0))
line-gone s t _ = record { cycle = refl; cells = λ c n e. e }

pub gone_after : (s : ManagedReplay) (t : Thread) (o : Op) (told : Told) → ManagedAllows s o told → HasGone s.managed (managed_answer s t o told).state.managed o (managed_answer s t o told).reply
gone_after s t (op.Line a) told w = line-gone s.managed (thread_number t) a
gone_after s t (op.Adopt v kind n p h) told w =
    let a = adopted s.managed (place (thread_number t) v.0) kind n h.0 in
    stay-gone s.managed _ _ _ (λ z. refl)
    (subst (Stays s.managed) (sym (adopt_by-managed s p.0 h.0 a.state a.reply)) (row-stays s.managed (is_full s.managed.heap.fields) _ (place (thread_number t) v.0) kind n (Some h.0)))
gone_after s t (op.Meet v sort n p h) told w =
    let a = met s.managed (place (thread_number t) v.0) h.0 sort n (registered s.registry p.0) in
    stay-gone s.managed _ _ _ (λ z. refl)
    (subst (Stays s.managed) (sym (meet_by-managed s p.0 h.0 a.state a.reply)) (met-stays s.managed (place (thread_number t) v.0) h.0 sort n (registered s.registry p.0)))
gone_after s t (op.Give v) told w =
    let u = place (thread_number t) v.0 in
    stay-gone s.managed _ _ _ (λ z. refl) (subst (Stays s.managed) (sym (give_by-managed s (slot s.managed.heap.vars u) (given_up s.managed u))) (give-stays s.managed (slot s.managed.heap.vars u)))
gone_after s t (op.Snap k) (snap_of freed candidates dead) w = record { cycle = ap Some (sym w.next); cells = λ c n e. e }
gone_after s t (op.Snap k) told w = absurd w
gone_after s t (op.Resolve k) (resolution_of alive freed) w = record { cycle = refl; cells = λ c n e. e }
gone_after s t (op.Resolve k) told w = absurd w
gone_after s t (op.Abandon k) told w = record { cycle = refl; cells = λ c n e. e }
gone_after s t (op.Contract k) (contraction_of comps heavy xrefs) w = record { cycle = refl; cells = λ c n e. e }
gone_after s t (op.Contract k) told w = record { cycle = refl; cells = λ c n e. e }
gone_after s t (op.Refused x) (phase_of phase) w = record { cycle = refl; cells = λ c n e. e }
gone_after s t (op.Refused x) told w = record { cycle = refl; cells = λ c n e. e }
gone_after s t o told w = record { cycle = refl; cells = λ c n e. e }
