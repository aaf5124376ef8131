-- What a managed event does to the managed numbers, by its reply.
use Rattle.std.proofs.Common.{◌≡◌, ℕ, ◌+◌, true, false, length, Option, Some, None, refl, sym, ap, subst, arith}
use Rattle.std.specs.Prelude.{Contains}
use Rattle.joint_machine.specs.declared.names.Kind.{Kind}
use Rattle.joint_machine.specs.declared.names.Sort.{Sort}
use Rattle.joint_machine.specs.declared.names.Thread.{Thread}
use Rattle.joint_machine.specs.declared.lines.Act.{Act}
use Rattle.joint_machine.specs.declared.lines.Act.TheVariants as act
use Rattle.joint_machine.specs.declared.events.Op.{Op}
use Rattle.joint_machine.specs.declared.events.Op.TheVariants as op
use Rattle.joint_machine.specs.declared.events.Reply.{Reply}
use Rattle.joint_machine.specs.declared.events.Reply.TheVariants as says
use Rattle.joint_machine.specs.Heaps.{Heap, IsMade, Answered, answer, slot, place, is_full, is_freed}
use Rattle.joint_machine.specs.Managed.{Managed, OpenCycle, managed_name, managed_line, with_row, adopted, cell_set, target_read, cell_read, read_cell, without_handle, given_up, twin_met, met}
use Rattle.joint_machine.specs.ManagedReplay.{ManagedReplay, registered, managed_answer, ManagedAllows}
use Rattle.joint_machine.specs.Run.{thread_number}
use Rattle.joint_machine.specs.Told.{Told, nothing, snap_of, contraction_of, resolution_of, phase_of}
use Rattle.joint_machine.proofs.Deciding.{option-cases, test-cases}
use Rattle.joint_machine.proofs.HeapLemmas.{adopt_by-managed, adopt_by-reply}
use Rattle.joint_laws.specs.ManagedInvariants.{ReplayInvariant}
use Rattle.joint_laws.proofs.Fields.{with_object-length}
use Rattle.joint_laws.proofs.HeapMoves.{HasMoved, heap_line-moved}
use Rattle.joint_laws.proofs.ManagedSteps.{meet_by-managed, meet_by-reply, give_by-managed, give_by-reply}
use Rattle.joint_laws.proofs.PlainReplies.{IsPlain, line-plain, handle-plain, refusal-plain}
use Rattle.run_summary.specs.Tallies.{makes_managed, opens_cycle, freed_managed}
use Rattle.run_summary.specs.Lines.{one}
use Rattle.summary_laws.proofs.HeapCounts.{HeapCounts, counts-alike, counts-stay, counts-moved, counts-object, counts-freed}

-- the managed numbers between two states, by an event and its reply
pub record ManagedCounts (s t : Managed) (o : Op) (r : Reply) : Type 0 where
  pub heap : HeapCounts s.heap t.heap (one (makes_managed o r)) (freed_managed r)
  pub cycles : t.cycles ≡ s.cycles + one (opens_cycle o)

pub plain-none : (r : Reply) → IsPlain r → freed_managed r ≡ 0
plain-none (says.Snapped n s) p = absurd p
plain-none (says.Freed s) p = absurd p
plain-none _ p = refl

-- nothing made or freed
abbrev SameNumbers : Managed → Managed → Type 0
SameNumbers s t = HeapCounts s.heap t.heap 0 0 × (t.cycles ≡ s.cycles)

same-stay : (s : Managed) → SameNumbers s s
same-stay s = (counts-stay s.heap, refl)

module _ (s : Managed) (o : Op) where
  abbrev Counts : Answered Managed → Type 0
  Counts a = ManagedCounts s a.state o a.reply

  by_same : (t : Managed) (r : Reply) → SameNumbers s t → makes_managed o r ≡ false → opens_cycle o ≡ false → IsPlain r → ManagedCounts s t o r
  by_same t r e m c p = record {
    heap = subst (λ b. HeapCounts s.heap t.heap (one b) (freed_managed r)) (sym m) (subst (λ n. HeapCounts s.heap t.heap 0 n) (sym (plain-none r p)) e.0);
    cycles = (let f = ap one c in omega (arith, e.1, f));
  }

  -- an object was made, and the reply names it
  by_object : (t : Managed) (r : Reply) → length t.heap.fields ≡ length s.heap.fields + 1 → t.heap.freed ≡ s.heap.freed → t.cycles ≡ s.cycles → ((x : ℕ) → Contains s.heap.freed x → IsMade s.heap x)
      → makes_managed o r ≡ true → opens_cycle o ≡ false → IsPlain r → ManagedCounts s t o r
  by_object t r e f c made m q p = record {
    heap = subst (λ b. HeapCounts s.heap t.heap (one b) (freed_managed r)) (sym m) (subst (λ n. HeapCounts s.heap t.heap 1 n) (sym (plain-none r p)) (counts-object s.heap t.heap e f made));
    cycles = (let g = ap one q in omega (arith, c, g));
  }

-- the lines
module _ (s : Managed) where
  abbrev Same : Answered Managed → Type 0
  Same a = SameNumbers s a.state

  moved : (k : Heap) → HasMoved s.heap k → SameNumbers s (record s { heap = k })
  moved k m = (counts-moved s.heap k m, refl)

  cell-same : (k x : ℕ) (o : Option ℕ) → Same (cell_set s k x o)
  cell-same k x None = (counts-alike _ _ refl refl, refl)
  cell-same k x (Some y) = same-stay s

  target-same : (t : ℕ) (o : Option ℕ) → Same (target_read s t o)
  target-same t None = same-stay s
  target-same t (Some x) = test-cases Same (is_freed s.heap x) _ _ (same-stay s) (counts-alike _ _ refl refl, refl)

  open-same : (t k : ℕ) (o : Option OpenCycle) → Same (cell_read s t k o)
  open-same t k None = target-same t (slot s.cells k)
  open-same t k (Some c) = same-stay s

  read-same : (t k : ℕ) → Same (read_cell s t k)
  read-same t k = option-cases Same _ _ (slot s.pins t) (open-same t k s.cycle) (λ x. same-stay s)

  -- each line but a `new`
  abbrev MakesNone : Act → Type 0
  MakesNone (act.New v kind n) = ⊥
  MakesNone _ = Unit {0}

  line-same : (t : ℕ) (a : Act) → MakesNone a → Same (managed_line s t a)
  line-same t (act.New v kind n) e = absurd e
  line-same t (act.Weak k v) e = option-cases Same _ _ (slot s.heap.vars (place t v.0)) (same-stay s) (λ x. cell-same k.0 x (slot s.cells k.0))
  line-same t (act.Read k) e = read-same t k.0
  line-same t (act.Await k) e = read-same t k.0
  line-same t (act.Take v) e = option-cases Same _ _ (slot s.pins t) (same-stay s) (λ x. (counts-alike _ _ refl refl, refl))
  line-same t (act.Finalise n) e = (counts-alike _ _ refl refl, refl)
  line-same t (act.Handle v) e = same-stay s
  line-same t a e = moved _ (heap_line-moved managed_name s.heap t a)

-- a further row
row-counts : (s : Managed) (o : Op) (v : ℕ) (kind : Kind) (n : ℕ) (h : Option ℕ) (r : Reply) → ((x : ℕ) → Contains s.heap.freed x → IsMade s.heap x)
    → makes_managed o r ≡ true → opens_cycle o ≡ false → IsPlain r → ManagedCounts s (with_row s v kind n h) o r
row-counts s o v kind n h r made m q p = by_object s o (with_row s v kind n h) r (with_object-length s.heap n) refl refl made m q p

module _ (s : Managed) (made : (x : ℕ) → Contains s.heap.freed x → IsMade s.heap x) where
  line-counts : (t : ℕ) (a : Act) → Counts s (op.Line a) (managed_line s t a)
  line-counts t (act.New v kind n) = test-cases (Counts s (op.Line (act.New v kind n))) (is_full s.heap.fields) _ _
      (by_same s (op.Line (act.New v kind n)) s says.Full (same-stay s) refl refl tt)
      (row-counts s (op.Line (act.New v kind n)) (place t v.0) kind n None _ made refl refl tt)
  line-counts t (act.Finalise n) = record { heap = counts-alike _ _ refl refl; cycles = omega arith }
  line-counts t a = by_same s (op.Line a) _ _ (line-same s t a tt) refl refl (line-plain s t a tt)

  adopt-counts : (v : ℕ) (kind : Kind) (n h : ℕ) (o : Op) → makes_managed o says.Full ≡ false
      → ((m : ℕ) → makes_managed o (managed_name m) ≡ true) → opens_cycle o ≡ false → Counts s o (adopted s v kind n h)
  adopt-counts v kind n h o f m q = test-cases (Counts s o) (is_full s.heap.fields) _ _
      (by_same s o s says.Full (same-stay s) f q tt)
      (row-counts s o v kind n (Some h) _ made (m _) q tt)

  twin-counts : (v h : ℕ) (sort : Sort) (n : ℕ) (twin : Option ℕ) (o : Op) → makes_managed o says.Full ≡ false → ((m : ℕ) → makes_managed o (says.Twin record { 0 = m }) ≡ false)
      → ((m : ℕ) → makes_managed o (says.New record { 0 = m }) ≡ true) → opens_cycle o ≡ false → Counts s o (twin_met s v h sort n twin)
  twin-counts v h sort n (Some m) o f t w q = by_same s o _ (says.Twin record { 0 = m }) (counts-alike _ _ refl refl, refl) (t m) q tt
  twin-counts v h sort n None o f t w q = test-cases (Counts s o) (is_full s.heap.fields) _ _
      (by_same s o s says.Full (same-stay s) f q tt)
      (row-counts s o v _ _ (Some h) _ made (w _) q tt)

  meet-counts : (v h : ℕ) (sort : Sort) (n : ℕ) (twin : Option ℕ) (c : Option OpenCycle) (o : Op) → makes_managed o says.Full ≡ false
      → ((m : ℕ) → makes_managed o (says.Twin record { 0 = m }) ≡ false) → ((m : ℕ) → makes_managed o (says.New record { 0 = m }) ≡ true) → opens_cycle o ≡ false
      → ((k : ℕ) → makes_managed o (says.Pending record { 0 = k }) ≡ false) → Counts s o (elim c [ None ↦ twin_met s v h sort n twin | Some c ↦ answer (says.Pending record { 0 = c.number }) s ])
  meet-counts v h sort n twin None o f t w q p = twin-counts v h sort n twin o f t w q
  meet-counts v h sort n twin (Some c) o f t w q p = by_same s o s _ (same-stay s) (p c.number) q tt

  given-same : (x : Option ℕ) → SameNumbers s (without_handle s x)
  given-same None = same-stay s
  given-same (Some x) = (counts-alike _ _ refl refl, refl)

-- an event's counts, seen through an equal state and an equal reply
through : (s t u : Managed) (o : Op) (r q : Reply) → u ≡ t → q ≡ r → ManagedCounts s t o r → ManagedCounts s u o q
through s t u o r q e f c = subst (λ z. ManagedCounts s z o q) (sym e) (subst (λ z. ManagedCounts s t o z) (sym f) c)

pub answer-counts : (s : ManagedReplay) (t : Thread) (o : Op) (told : Told) → ReplayInvariant s → ManagedAllows s o told
    → ManagedCounts s.managed (managed_answer s t o told).state.managed o (managed_answer s t o told).reply
answer-counts s t (op.Line a) told k w = line-counts s.managed k.managed.freed (thread_number t) a
answer-counts s t (op.Adopt v kind n p h) told k w =
    let a = adopted s.managed (place (thread_number t) v.0) kind n h.0 in
    through s.managed a.state _ (op.Adopt v kind n p h) a.reply _ (adopt_by-managed s p.0 h.0 a.state a.reply) (adopt_by-reply s p.0 h.0 a.state a.reply)
    (adopt-counts s.managed k.managed.freed (place (thread_number t) v.0) kind n h.0 (op.Adopt v kind n p h) refl (λ m. refl) refl)
answer-counts s t (op.Lend v x) told k w = by_same s.managed (op.Lend v x) s.managed _ (same-stay s.managed) refl refl (handle-plain s.managed (place (thread_number t) v.0))
answer-counts s t (op.Meet v sort n p h) told k w =
    let o = op.Meet v sort n p h in
    let twin = registered s.registry p.0 in
    let a = met s.managed (place (thread_number t) v.0) h.0 sort n twin in
    through s.managed a.state _ o a.reply _ (meet_by-managed s p.0 h.0 a.state a.reply) (meet_by-reply s p.0 h.0 a.state a.reply)
    (meet-counts s.managed k.managed.freed (place (thread_number t) v.0) h.0 sort n twin s.managed.cycle o refl (λ m. refl) (λ m. refl) refl (λ m. refl))
answer-counts s t (op.Give v) told k w =
    let u = place (thread_number t) v.0 in
    let x = slot s.managed.heap.vars u in
    through s.managed (given_up s.managed u).state _ (op.Give v) (given_up s.managed u).reply _ (give_by-managed s x (given_up s.managed u))
    (give_by-reply s x (given_up s.managed u)) (by_same s.managed (op.Give v) _ _ (given-same s.managed k.managed.freed x) refl refl (handle-plain s.managed u))
answer-counts s t (op.Snap n) (snap_of freed candidates dead) k w = record { heap = counts-freed s.managed.heap _ freed refl refl w.freed_rise (λ x c. ((w.frees x).0 c).0); cycles = refl }
answer-counts s t (op.Contract n) (contraction_of comps heavy xrefs) k w = by_same s.managed (op.Contract n) s.managed _ (same-stay s.managed) refl refl tt
answer-counts s t (op.Resolve n) (resolution_of alive freed) k w = record {
  heap = counts-freed s.managed.heap _ freed refl refl w.resolution.rise (λ x c. (k.managed.dead w.cycle w.open_cycle.0).live x ((w.resolution.frees x).0 c).0);
  cycles = omega arith;
}
answer-counts s t (op.Abandon n) nothing k w = by_same s.managed (op.Abandon n) _ _ (counts-alike _ _ refl refl, refl) refl refl tt
answer-counts s t (op.Refused r) (phase_of phase) k w = by_same s.managed (op.Refused r) s.managed _ (same-stay s.managed) refl refl (refusal-plain s.managed phase r)
answer-counts s t _ _ k w = absurd w
