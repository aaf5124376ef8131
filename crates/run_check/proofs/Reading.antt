-- What a reader's entry may answer, by the pins, the cells' targets and the counts that are kept.
use Rattle.std.proofs.Common.{◌≡◌, ℕ, zero, suc, ◌<◌, ◌↔◌, Bool, true, false, List, [], ◌∷◌, length, map, Option, Some, None, refl, sym, ap, ◌∙◌, subst, arith, true≢false}
use Rattle.std.specs.Prelude.{Contains, if◌then◌else◌, is_some, slice_get, slice_set}
use Rattle.joint_machine.specs.declared.names.MNum.{MNum}
use Rattle.joint_machine.specs.declared.names.Thread.{Thread}
use Rattle.joint_machine.specs.declared.names.Thread.TheVariants.{M, P, C}
use Rattle.joint_machine.specs.declared.lines.Act.TheVariants as act
use Rattle.joint_machine.specs.declared.events.Op.{Op}
use Rattle.joint_machine.specs.declared.events.Op.TheVariants as op
use Rattle.joint_machine.specs.declared.events.Reply.{Reply}
use Rattle.joint_machine.specs.declared.events.Reply.TheVariants as says
use Rattle.joint_machine.specs.Heaps.{Answered, Heap, IsLive, answer, is_freed, slot}
use Rattle.joint_machine.specs.Histories.{Finished}
use Rattle.joint_machine.specs.Lines.{IsEvent, IsManagedThread, IsThread, is_read}
use Rattle.joint_machine.specs.Managed.{Managed, OpenCycle, cell_read, managed_name, read_cell, target_read}
use Rattle.joint_machine.specs.Readers.{MayBeUnset, ReadsCell}
use Rattle.joint_machine.specs.Run.{thread_number}
use Rattle.joint_machine.specs.Told.{Noted}
use Rattle.joint_machine.proofs.Deciding.{none_some}
use Rattle.joint_machine.proofs.HeapLemmas.{Contains-is_freed, is_freed-live}
use Rattle.joint_machine.proofs.Numbered.{slot-Contains}
use Rattle.check_laws.specs.Behind.{IsReplyBehind, MayBePendingBehind, in_turn, state_of}
use Rattle.check_laws.specs.Counts.{AreCounted}
use Rattle.check_laws.proofs.Counting.{reads_counted}
use Rattle.check_laws.proofs.Naming.{all_read}
use Rattle.check_laws.proofs.Turned.{all_come, in_place}
use Rattle.reader_counts.specs.Counts.{IsPendingIn, IsUnknownIn}
use Rattle.reader_counts.specs.Told.{AreTold}
use Rattle.reader_counts.proofs.Counted.{told_by_counts}
use Rattle.managed_heap.specs.Rows.{number_or_none}
use Rattle.run_check.specs.declared.replays.Replay.{Replay}
use Rattle.run_check.specs.Follows.{shown_pins}
use Rattle.run_check.specs.Judging.{IsBehind, IsReplyUnpinned}
use Rattle.run_check.proofs.PastFacts.{replay_kept}

-- readers are managed threads, and cells are below 64
pub reader-thread : (t : Thread) (o : Op) → IsEvent t o → is_read o ≡ true → IsManagedThread t
reader-thread (M n) (op.Line (act.Read k)) w e = w.0.0
reader-thread (M n) (op.Line (act.Await k)) w e = w.0.0
reader-thread (P n) (op.Line (act.Read k)) w e = absurd w.0.1
reader-thread (P n) (op.Line (act.Await k)) w e = absurd w.0.1
reader-thread C (op.Line (act.Read k)) w e = absurd w.0
reader-thread C (op.Line (act.Await k)) w e = absurd w.0
reader-thread t o w e = absurd (let f : false ≡ true = e in cc)

pub reader-cell : (t : Thread) (o : Op) (k : ℕ) → IsEvent t o → ReadsCell o k → k < 64
reader-cell (M n) (op.Line (act.Read c)) k w r = (let a = w.0.1 in omega (arith, a, r))
reader-cell (M n) (op.Line (act.Await c)) k w r = (let a = w.0.1 in omega (arith, a, r))
reader-cell (P n) (op.Line (act.Read c)) k w r = absurd w.0.1
reader-cell (P n) (op.Line (act.Await c)) k w r = absurd w.0.1
reader-cell C (op.Line (act.Read c)) k w r = absurd w.0
reader-cell C (op.Line (act.Await c)) k w r = absurd w.0
reader-cell t o k w r = absurd r

pub managed-is-thread : (t : Thread) → IsManagedThread t → IsThread t
managed-is-thread (M n) w = w
managed-is-thread (P n) w = absurd w
managed-is-thread C w = absurd w

-- a place of a list of numbers that are kept
pub slot-shown : (ms : List (Option MNum)) (i : ℕ) (o : Option MNum) → slice_get ms i ≡ Some o → slot (map number_or_none ms) i ≡ number_or_none o
slot-shown [] i o e = absurd (none_some o e)
slot-shown (m ∷ ms) zero o e = ap number_or_none (inner e)
  where
    inner : Some m ≡ Some o → m ≡ o
    inner q = ap (λ (x : Option (Option MNum)). elim x [ None ↦ m | Some y ↦ y ]) q
slot-shown (m ∷ ms) (suc i) o e = slot-shown ms i o e

-- the pin of a thread
pub pin-shown : (pins : List (Option MNum)) (t : Thread) (o : Option MNum) → IsManagedThread t → slice_get pins (thread_number t) ≡ Some o → slot (shown_pins pins) (thread_number t) ≡ number_or_none o
pin-shown pins (M zero) o w e = absurd (let a = w.0 in omega (arith, a))
pin-shown [] (M (suc n)) o w e = absurd (none_some o e)
pin-shown (p ∷ pins) (M (suc n)) o w e = slot-shown pins n o e
pin-shown pins (P n) o w e = absurd w
pin-shown pins C o w e = absurd w

-- with a filled pin there is one reply
pub pinned-only : (past : List Noted) (s : Managed) (i : ℕ) (t : Thread) (k : ℕ) (r : Reply) (m : MNum) → slot s.pins (thread_number t) ≡ Some m.0 → IsReplyBehind past s i t k r ↔ (r ≡ says.Pinned m)
pinned-only past s i t k r m e = ((λ w. there r w), λ q. subst (IsReplyBehind past s i t k) (sym q) (sym read))
  where
    read : (read_cell s (thread_number t) k).reply ≡ says.Pinned m
    read = ap (λ (o : Option ℕ). (let a : Answered Managed = elim o [ None ↦ cell_read s (thread_number t) k s.cycle | Some x ↦ answer (says.Pinned record { 0 = x }) s ] in a.reply)) e

    there : (q : Reply) → IsReplyBehind past s i t k q → q ≡ says.Pinned m
    there (says.Pending c) w = absurd (none_some m.0 (sym w.0 ∙ e))
    there says.Unset w = absurd (none_some m.0 (sym w.0 ∙ e))
    there q w = w ∙ read

-- and with an empty one as the rules say
pub unpinned-only : (past : List Noted) (t : Thread) (k : ℕ) (r : Reply) → slot (state_of past).managed.managed.pins (thread_number t) ≡ None
    → IsReplyBehind past (state_of past).managed.managed (length past) t k r ↔ IsReplyUnpinned past t k r
unpinned-only past t k (says.Pending c) e = ((λ w. w.1), λ w. (e, w))
unpinned-only past t k says.Unset e = ((λ w. w.1), λ w. (e, w))
unpinned-only past t k r e = ((λ w. w ∙ read), λ w. w ∙ sym read)
  where
    read : (read_cell (state_of past).managed.managed (thread_number t) k).reply ≡ (cell_read (state_of past).managed.managed (thread_number t) k (state_of past).managed.managed.cycle).reply
    read = ap (λ (o : Option ℕ). (let a : Answered Managed = elim o
        [ None ↦ cell_read (state_of past).managed.managed (thread_number t) k (state_of past).managed.managed.cycle | Some x ↦ answer (says.Pinned record { 0 = x }) (state_of past).managed.managed ]
        in a.reply)) e

module _ (h : Finished) (past : List Noted) (r : Replay) (w : IsBehind h past r) where
  told-by : (t : Thread) (k : ℕ) → IsThread t → AreTold past r.readers.counts t k
  told-by t k i = told_by_counts past r.readers.counts (all_come h past w.so_far.order) (all_read h past w.so_far.order) (in_place past w.so_far.numbers) w.follows.callers.counts t k i

  counted-by : (t : Thread) (k : ℕ) → AreCounted past t k
  counted-by t k = reads_counted past (all_come h past w.so_far.order) (all_read h past w.so_far.order) (in_place past w.so_far.numbers) t k

  cycles-are : r.managed.state.managed.cycles ≡ (state_of past).managed.managed.cycles
  cycles-are = ap (λ z. z.managed.cycles) w.follows.sides.managed.state

  cycle-is : r.managed.state.managed.cycle ≡ (state_of past).managed.managed.cycle
  cycle-is = ap (λ z. z.managed.cycle) w.follows.sides.managed.state

  heap-is : r.managed.state.managed.heap ≡ (state_of past).managed.managed.heap
  heap-is = ap (λ z. z.managed.heap) w.follows.sides.managed.state

  pub pending-so : (t : Thread) (k : ℕ) → IsThread t → IsPendingIn r.readers.counts t k r.managed.state.managed.cycles (is_some r.managed.state.managed.cycle)
      ↔ MayBePendingBehind past (state_of past).managed.managed (length past) t k
  pending-so t k i = subst (λ n. IsPendingIn r.readers.counts t k n (is_some r.managed.state.managed.cycle) ↔ MayBePendingBehind past (state_of past).managed.managed (length past) t k)
      (sym cycles-are)
      (subst (λ (c : Option OpenCycle). IsPendingIn r.readers.counts t k (state_of past).managed.managed.cycles (is_some c) ↔ MayBePendingBehind past (state_of past).managed.managed (length past) t k)
      (sym cycle-is) (told-by t k i).pending)

  -- the target of a cell
  pub cell-is : (k : ℕ) (o : Option MNum) → slice_get r.readers.targets k ≡ Some o → slot (state_of past).managed.managed.cells k ≡ number_or_none o
  cell-is k o e = ap (λ cs. slot cs k) (sym w.follows.sides.stores.cells) ∙ slot-shown r.readers.targets k o e

  pub made-live : (k : ℕ) (m : MNum) → slice_get r.readers.targets k ≡ Some (Some m) → (Contains (state_of past).managed.managed.heap.freed m.0 → ⊥) → IsLive r.managed.state.managed.heap m.0
  made-live k m e not-live = subst (λ (x : Heap). IsLive x m.0) (sym heap-is) record {
    made = (replay_kept h past w.so_far.order).managed.cells m.0 (slot-Contains (state_of past).managed.managed.cells k m.0 (cell-is k (Some m) e));
    kept = not-live;
  }

  pub live-kept : (m : ℕ) → IsLive r.managed.state.managed.heap m → Contains (state_of past).managed.managed.heap.freed m → ⊥
  live-kept m l = (subst (λ (x : Heap). IsLive x m) heap-is l).kept

  -- `unset`
  pub unset-none : (t : Thread) (k : ℕ) → IsThread t → k < 64 → slice_get r.readers.targets k ≡ Some None
      → IsUnknownIn r.readers.counts t k ↔ MayBeUnset (in_turn past) (state_of past).managed.managed.cells (length past) t k
  unset-none t k i l e =
      let u = (told-by t k i).unknown l in
      let c = (counted-by t k).unset in
      ((λ x. c.0 (record { unknown = u.0 x; unfreed = λ m q f. none_some m (sym (cell-is k None e) ∙ q) })), λ x. u.1 (c.1 x).unknown)

  pub unset-live : (t : Thread) (k : ℕ) (m : MNum) → IsThread t → k < 64 → slice_get r.readers.targets k ≡ Some (Some m)
      → (IsLive r.managed.state.managed.heap m.0 × IsUnknownIn r.readers.counts t k) ↔ MayBeUnset (in_turn past) (state_of past).managed.managed.cells (length past) t k
  unset-live t k m i l e =
      let u = (told-by t k i).unknown l in
      let c = (counted-by t k).unset in (
        (λ x. c.0 (record { unknown = u.0 x.1; unfreed = λ n q f. live-kept m.0 x.0 (subst (Contains (state_of past).managed.managed.heap.freed) (same n q) f) })),
        λ x. (made-live k m e (λ f. (c.1 x).unfreed m.0 (cell-is k (Some m) e) f), u.1 (c.1 x).unknown),
      )
    where
      same : (n : ℕ) → slot (state_of past).managed.managed.cells k ≡ Some n → n ≡ m.0
      same n q = ap (λ (o : Option ℕ). elim o [ None ↦ 0 | Some y ↦ y ]) (sym q ∙ cell-is k (Some m) e)

  -- any other reply
  abbrev s : Managed
  s = (state_of past).managed.managed

  shut-read : (t k : ℕ) (o : Option MNum) → r.managed.state.managed.cycle ≡ None → slice_get r.readers.targets k ≡ Some o → (cell_read s t k s.cycle).reply ≡ (target_read s t (number_or_none o)).reply
  shut-read t k o e g = ap (λ (c : Option OpenCycle). (cell_read s t k c).reply) (sym cycle-is ∙ e) ∙ ap (λ (x : Option ℕ). (target_read s t x).reply) (cell-is k o g)

  abbrev freed-by : Bool → ℕ → ℕ → Reply
  freed-by b t x = if b then says.Gone else says.M record { 0 = x }

  read-by : (t : ℕ) (m : MNum) (b : Bool) → is_freed s.heap m.0 ≡ b → (target_read s t (Some m.0)).reply ≡ freed-by b t m.0
  read-by t m true e = ap (λ (z : Bool). (let a : Answered Managed = (if z then answer says.Gone s else answer (managed_name m.0) (record s { pins = slice_set s.pins t (Some m.0) })) in a.reply)) e
  read-by t m false e = ap (λ (z : Bool). (let a : Answered Managed = (if z then answer says.Gone s else answer (managed_name m.0) (record s { pins = slice_set s.pins t (Some m.0) })) in a.reply)) e

  pub set-live : (t k : ℕ) (m : MNum) → r.managed.state.managed.cycle ≡ None → slice_get r.readers.targets k ≡ Some (Some m)
      → IsLive r.managed.state.managed.heap m.0 → (cell_read s t k s.cycle).reply ≡ says.M m
  set-live t k m e g l = shut-read t k (Some m) e g ∙ read-by t m false (is_freed-live s.heap m.0 (subst (λ (x : Heap). IsLive x m.0) heap-is l))

  pub set-gone : (t k : ℕ) (m : MNum) → r.managed.state.managed.cycle ≡ None → slice_get r.readers.targets k ≡ Some (Some m)
      → (IsLive r.managed.state.managed.heap m.0 → ⊥) → (cell_read s t k s.cycle).reply ≡ says.Gone
  set-gone t k m e g not-live = shut-read t k (Some m) e g ∙ by (is_freed s.heap m.0) refl
    where
      by : (b : Bool) → is_freed s.heap m.0 ≡ b → (target_read s t (Some m.0)).reply ≡ says.Gone
      by true q = read-by t m true q
      by false q = absurd (not-live (made-live k m g (λ f. true≢false (sym (Contains-is_freed s.heap m.0 f) ∙ q))))
