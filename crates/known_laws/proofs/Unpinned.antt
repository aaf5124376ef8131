-- Only a snap, a `take` and a read ask for pins. Every other entry of the managed side's list is lawful with any pins
-- where it is so with some, answers the same and leaves the same, but for the pins.
use Rattle.std.proofs.Common.{◌≡◌, ℕ, Bool, true, false, List, Option, Some, None, refl, ap, ◌∙◌, true≢false}
use Rattle.std.specs.Prelude.{if◌then◌else◌}
use Rattle.joint_machine.specs.declared.names.Thread.{Thread}
use Rattle.joint_machine.specs.declared.names.Thread.TheVariants.{M, P, C}
use Rattle.joint_machine.specs.declared.names.Kind.{Kind}
use Rattle.joint_machine.specs.declared.names.Sort.{Sort}
use Rattle.joint_machine.specs.declared.lines.Act.{Act}
use Rattle.joint_machine.specs.declared.lines.Act.TheVariants as act
use Rattle.joint_machine.specs.declared.events.Op.{Op}
use Rattle.joint_machine.specs.declared.events.Op.TheVariants as op
use Rattle.joint_machine.specs.declared.events.Reply.{Reply}
use Rattle.joint_machine.specs.declared.events.Reply.TheVariants as says
use Rattle.joint_machine.specs.Control.{Control, CallerAllows}
use Rattle.joint_machine.specs.Heaps.{Answered, answer, slot, place, is_full, next_number}
use Rattle.joint_machine.specs.Lines.{is_read}
use Rattle.joint_machine.specs.PinsTold.{is_pinned, with_pins}
use Rattle.joint_machine.specs.Managed.{Managed, OpenCycle, managed_name, managed_line, adopted, met, handle_reply, with_row, cell_set, weakened_to, without_handle, twin_met, twin_kind, twin_fields}
use Rattle.joint_machine.specs.ManagedReplay.{ManagedReplay, managed_answer, ManagedAllows, registered, adopt_by, meet_by, give_by, plainly}
use Rattle.joint_machine.specs.Peers.{Issued}
use Rattle.joint_machine.specs.Run.{thread_number}
use Rattle.joint_machine.specs.Told.{Told, nothing, contraction_of, resolution_of, phase_of}
use Rattle.known_laws.proofs.Moving.{driver_move}
use Rattle.known_laws.proofs.Pinned.{contraction_to}

-- an answer with other pins in its state
abbrev pub pinned_answer : Answered ManagedReplay → List (Option ℕ) → Answered ManagedReplay
pinned_answer a q = answer a.reply (with_pins a.state q)

module _ (q : List (Option ℕ)) where
  abbrev put : Managed → Managed
  put s = record s { pins = q }

  -- an answer of the managed objects that is the same with these pins
  abbrev Same : (Managed → Answered Managed) → Managed → Type 0
  Same f s = f (put s) ≡ answer (f s).reply (put (f s).state)

  row-same : (s : Managed) (r : Reply) (v : ℕ) (kind : Kind) (n : ℕ) (h : Option ℕ) (b : Bool)
      → (if b then answer says.Full (put s) else answer r (with_row (put s) v kind n h))
      ≡ (let a : Answered Managed = (if b then answer says.Full s else answer r (with_row s v kind n h)) in answer a.reply (put a.state))
  row-same s r v kind n h true = refl
  row-same s r v kind n h false = refl

  cell-same : (s : Managed) (k x : ℕ) (o : Option ℕ) → cell_set (put s) k x o ≡ answer (cell_set s k x o).reply (put (cell_set s k x o).state)
  cell-same s k x None = refl
  cell-same s k x (Some y) = refl

  weak-same : (s : Managed) (k v : ℕ) → Same (λ z. weakened_to z k v) s
  weak-same s k v = by (slot s.heap.vars v)
    where
      by : (o : Option ℕ) → (elim o [ None ↦ answer says.Empty (put s) | Some x ↦ cell_set (put s) k x (slot s.cells k) ])
          ≡ (let a : Answered Managed = elim o [ None ↦ answer says.Empty s | Some x ↦ cell_set s k x (slot s.cells k) ] in answer a.reply (put a.state))
      by None = refl
      by (Some x) = cell-same s k x (slot s.cells k)

  line-same : (s : Managed) (t : ℕ) (a : Act) → is_read (op.Line a) ≡ false → is_pinned (op.Line a) ≡ false → Same (λ z. managed_line z t a) s
  line-same s t (act.New v kind n) e f = row-same s (managed_name (next_number s.heap)) (place t v.0) kind n None (is_full s.heap.fields)
  line-same s t (act.Weak k v) e f = weak-same s k.0 (place t v.0)
  line-same s t (act.Read k) e f = absurd (true≢false e)
  line-same s t (act.Await k) e f = absurd (true≢false e)
  line-same s t (act.Take v) e f = absurd (true≢false f)
  line-same s t _ e f = refl

  twin-same : (s : Managed) (v h : ℕ) (sort : Sort) (n : ℕ) (o : Option ℕ) → Same (λ z. twin_met z v h sort n o) s
  twin-same s v h sort n None = row-same s (says.New record { 0 = next_number s.heap }) v (twin_kind sort) (twin_fields sort n) (Some h) (is_full s.heap.fields)
  twin-same s v h sort n (Some m) = refl

  met-same : (s : Managed) (v h : ℕ) (sort : Sort) (n : ℕ) (o : Option ℕ) → Same (λ z. met z v h sort n o) s
  met-same s v h sort n o = by s.cycle
    where
      by : (c : Option OpenCycle) → (elim c [ None ↦ twin_met (put s) v h sort n o | Some c ↦ answer (says.Pending record { 0 = c.number }) (put s) ])
          ≡ (let a : Answered Managed = elim c [ None ↦ twin_met s v h sort n o | Some c ↦ answer (says.Pending record { 0 = c.number }) s ] in answer a.reply (put a.state))
      by None = twin-same s v h sort n o
      by (Some c) = refl

  give-same : (s : Managed) (o : Option ℕ) → without_handle (put s) o ≡ put (without_handle s o)
  give-same s None = refl
  give-same s (Some x) = refl

  adopt-by-same : (r : ManagedReplay) (p h : ℕ) (m : Managed) (y : Reply) → adopt_by (with_pins r q) p h (put m) y ≡ pinned_answer (adopt_by r p h m y) q
  adopt-by-same r p h m (says.M x) = refl
  adopt-by-same r p h m y = refl

  meet-by-same : (r : ManagedReplay) (p h : ℕ) (m : Managed) (y : Reply) → meet_by (with_pins r q) p h (put m) y ≡ pinned_answer (meet_by r p h m y) q
  meet-by-same r p h m (says.New x) = refl
  meet-by-same r p h m y = refl

  give-by-same : (r : ManagedReplay) (o : Option ℕ) (y : Reply) (m : Managed) → give_by (with_pins r q) o (answer y (put m)) ≡ pinned_answer (give_by r o (answer y m)) q
  give-by-same r None y m = refl
  give-by-same r (Some x) y m = refl

  -- the answer to an entry that asks for no pins
  pub answers_same : (r : ManagedReplay) (t : Thread) (o : Op) (told : Told) → is_read o ≡ false
      → is_pinned o ≡ false → managed_answer (with_pins r q) t o told ≡ pinned_answer (managed_answer r t o told) q
  answers_same r t (op.Line a) told e f = ap (plainly (with_pins r q)) (line-same r.managed (thread_number t) a e f)
  answers_same r t (op.Adopt v kind n p h) told e f =
      let a = adopted r.managed (place (thread_number t) v.0) kind n h.0 in
      ap (λ (z : Answered Managed). adopt_by (with_pins r q) p.0 h.0 z.state z.reply)
      (row-same r.managed (managed_name (next_number r.managed.heap)) (place (thread_number t) v.0) kind n (Some h.0) (is_full r.managed.heap.fields))
      ∙ adopt-by-same r p.0 h.0 a.state a.reply
  answers_same r t (op.Meet v sort n p h) told e f =
      let a = met r.managed (place (thread_number t) v.0) h.0 sort n (registered r.registry p.0) in
      ap (λ (z : Answered Managed). meet_by (with_pins r q) p.0 h.0 z.state z.reply) (met-same r.managed (place (thread_number t) v.0) h.0 sort n (registered r.registry p.0))
      ∙ meet-by-same r p.0 h.0 a.state a.reply
  answers_same r t (op.Give v) told e f =
      let u = place (thread_number t) v.0 in
      ap (λ m. give_by (with_pins r q) (slot r.managed.heap.vars u) (answer (handle_reply r.managed u) m)) (give-same r.managed (slot r.managed.heap.vars u))
      ∙ give-by-same r (slot r.managed.heap.vars u) (handle_reply r.managed u) (without_handle r.managed (slot r.managed.heap.vars u))
  answers_same r t (op.Snap k) told e f = absurd (true≢false f)
  answers_same r t (op.Contract k) (contraction_of comps heavy xrefs) e f = refl
  answers_same r t (op.Contract k) _ e f = refl
  answers_same r t (op.Resolve k) (resolution_of alive freed) e f = refl
  answers_same r t (op.Resolve k) _ e f = refl
  answers_same r t (op.Refused w) (phase_of phase) e f = refl
  answers_same r t (op.Refused w) _ e f = refl
  answers_same r t _ told e f = refl

  -- and what it asks for
  pub allows_same : (r : ManagedReplay) (o : Op) (told : Told) → is_pinned o ≡ false → ManagedAllows r o told → ManagedAllows (with_pins r q) o told
  allows_same r (op.Line a) nothing f w = tt
  allows_same r (op.Line a) _ f w = absurd w
  allows_same r (op.Adopt v kind n p h) nothing f w = w
  allows_same r (op.Adopt v kind n p h) _ f w = absurd w
  allows_same r (op.Lend v x) nothing f w = tt
  allows_same r (op.Lend v x) _ f w = absurd w
  allows_same r (op.Meet v sort n p h) nothing f w = w
  allows_same r (op.Meet v sort n p h) _ f w = absurd w
  allows_same r (op.Give v) nothing f w = tt
  allows_same r (op.Give v) _ f w = absurd w
  allows_same r (op.Snap k) told f w = absurd (true≢false f)
  allows_same r (op.Contract k) (contraction_of comps heavy xrefs) f
      w = record { cycle = w.cycle; open_cycle = w.open_cycle; once = w.once; exact = contraction_to r q w.cycle.dead comps heavy xrefs w.exact }
  allows_same r (op.Contract k) _ f w = absurd w
  allows_same r (op.Resolve k) (resolution_of alive freed) f w =
      record { cycle = w.cycle; open_cycle = w.open_cycle; answers = w.answers; new = w.new; resolution = record { rise = w.resolution.rise; frees = w.resolution.frees } }
  allows_same r (op.Resolve k) _ f w = absurd w
  allows_same r (op.Abandon k) nothing f w = w
  allows_same r (op.Abandon k) _ f w = absurd w
  allows_same r (op.Refused x) (phase_of phase) f w = record { refused = w.refused; idle = w.idle }
  allows_same r (op.Refused x) _ f w = absurd w
  allows_same r _ told f w = absurd w

  -- a caller's turn asks for no pins
  pub turn_same : (c : Control) (m : Managed) (issued : List Issued) (t : Thread) (line : ℕ) (o : Op) (reply : Reply) (cites : Option ℕ) (told : Told)
      → CallerAllows c m issued t line o reply cites told → CallerAllows c (put m) issued t line o reply cites told
  turn_same c m issued (M t) line o reply cites told w = w
  turn_same c m issued (P t) line o reply cites told w = w
  turn_same c m issued C line o reply cites told w = driver_move c.stand m (put m) issued issued o reply cites told
      (record { candidates = refl; handles = λ i h x. x; edges = λ p comps heavy xrefs i x. refl }) (λ x. refl) w
