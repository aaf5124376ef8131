-- The reply of every event but a snapshot, a sweep, a resolution and the taking of notices has no span.
use Rattle.std.proofs.Common.{ℕ, ◌+◌, ◌-◌, ◌||◌, List, length, Option, Some, None}
use Rattle.std.specs.Prelude.{min, nat_lt, nat_le, slice_set}
use Rattle.joint_machine.specs.declared.names.Kind.{Kind}
use Rattle.joint_machine.specs.declared.names.Phase.{Phase}
use Rattle.joint_machine.specs.declared.names.PhaseWord.{PhaseWord}
use Rattle.joint_machine.specs.declared.names.PhaseWord.TheVariants as word
use Rattle.joint_machine.specs.declared.names.Sort.{Sort}
use Rattle.joint_machine.specs.declared.names.Thread.{Thread}
use Rattle.joint_machine.specs.declared.lines.Act.{Act}
use Rattle.joint_machine.specs.declared.lines.Act.TheVariants as act
use Rattle.joint_machine.specs.declared.events.Reply.{Reply}
use Rattle.joint_machine.specs.declared.events.Reply.TheVariants as says
use Rattle.joint_machine.specs.Heaps.{Heap, Answered, answer, slot, place, fields_of, is_freed, is_full, copied, field_set, field_stored, field_got, read_into, stored, place_or_none, heap_line}
use Rattle.joint_machine.specs.Managed.{Managed, OpenCycle, managed_name, handle_of, adopted, cell_set, target_read, cell_read, read_cell, handle_reply, twin_met, met, managed_line}
use Rattle.joint_machine.specs.ManagedReplay.{open_reply, refusal_to}
use Rattle.joint_machine.specs.Peers.{Peers, Strength, peer_name, pair_made, peer_gripped, gripped, landed, name_given, globalised, peer_read, handles_full, peer_line}
use Rattle.joint_machine.specs.PeerReplay.{PeerReplay, Marking, TableRow, is_thread, sliced, begun, restored_by}
use Rattle.joint_machine.proofs.Deciding.{option-cases, test-cases}
use Rattle.joint_laws.proofs.ManagedMoves.{met_by}
use Rattle.joint_laws.proofs.Restores.{restored-any}

abbrev pub IsPlain : Reply → Type 0
IsPlain (says.Snapped n s) = ⊥
IsPlain (says.Swept j s) = ⊥
IsPlain (says.Freed s) = ⊥
IsPlain (says.Took s) = ⊥
IsPlain _ = Unit {0}

abbrev pub SaysPlain : {S : Type 0} → Answered S → Type 0
SaysPlain a = IsPlain a.reply

-- the operations of both heaps
module _ (name : ℕ → Reply) (named : (x : ℕ) → IsPlain (name x)) (h : Heap) where
  copied-plain : (v w : ℕ) → SaysPlain (copied name h v w)
  copied-plain v w = option-cases SaysPlain _ _ (slot h.vars w) tt (λ x. named x)

  stored_in-plain : (x i : ℕ) (w : Option ℕ) → SaysPlain (field_stored h x i w)
  stored_in-plain x i None = tt
  stored_in-plain x i (Some w) = option-cases SaysPlain _ _ (slot h.vars w) tt (λ y. tt)

  set-plain : (v i : ℕ) (w : Option ℕ) → SaysPlain (field_set h v i w)
  set-plain v i w = option-cases SaysPlain _ _ (slot h.vars v) tt (λ x. test-cases SaysPlain (nat_le (length (fields_of h x)) i) _ _ tt (stored_in-plain x i w))

  into-plain : (v : ℕ) (o : Option ℕ) → SaysPlain (read_into name h v o)
  into-plain v None = tt
  into-plain v (Some y) = named y

  got-plain : (v w i : ℕ) → SaysPlain (field_got name h v w i)
  got-plain v w i = option-cases SaysPlain _ _ (slot h.vars w) tt (λ x. test-cases SaysPlain (nat_le (length (fields_of h x)) i) _ _ tt (into-plain v (slot (fields_of h x) i)))

  stored-plain : (s : ℕ) (v : Option ℕ) → SaysPlain (stored h s v)
  stored-plain s None = tt
  stored-plain s (Some v) = option-cases SaysPlain _ _ (slot h.vars v) tt (λ x. tt)

  heap_line-plain : (t : ℕ) (a : Act) → SaysPlain (heap_line name h t a)
  heap_line-plain t (act.Copy v w) = copied-plain (place t v.0) (place t w.0)
  heap_line-plain t (act.Set v i w) = set-plain (place t v.0) i (place_or_none t w)
  heap_line-plain t (act.Get v w i) = got-plain (place t v.0) (place t w.0) i
  heap_line-plain t (act.Load v x) = into-plain (place t v.0) (slot h.statics x.0)
  heap_line-plain t (act.Store x v) = stored-plain x.0 (place_or_none t v)
  heap_line-plain t _ = tt

-- the managed side
module _ (s : Managed) where
  cell-plain : (k x : ℕ) (o : Option ℕ) → SaysPlain (cell_set s k x o)
  cell-plain k x None = tt
  cell-plain k x (Some y) = tt

  target-plain : (t : ℕ) (o : Option ℕ) → SaysPlain (target_read s t o)
  target-plain t None = tt
  target-plain t (Some x) = test-cases (SaysPlain {S = Managed}) (is_freed s.heap x) (answer says.Gone s) (answer (managed_name x) (record s { pins = slice_set s.pins t (Some x) })) tt tt

  open-plain : (t k : ℕ) (o : Option OpenCycle) → SaysPlain (cell_read s t k o)
  open-plain t k None = target-plain t (slot s.cells k)
  open-plain t k (Some c) = tt

  read-plain : (t k : ℕ) → SaysPlain (read_cell s t k)
  read-plain t k = option-cases SaysPlain _ _ (slot s.pins t) (open-plain t k s.cycle) (λ x. tt)

  pub handle-plain : (v : ℕ) → IsPlain (handle_reply s v)
  handle-plain v = option-cases IsPlain _ _ (slot s.heap.vars v) tt (λ x. option-cases IsPlain _ _ (handle_of s x) tt (λ h. tt))

  twin-plain : (v h : ℕ) (sort : Sort) (n : ℕ) (o : Option ℕ) → SaysPlain (twin_met s v h sort n o)
  twin-plain v h sort n (Some m) = tt
  twin-plain v h sort n None = test-cases SaysPlain (is_full s.heap.fields) _ _ tt tt

  met_by-plain : (v h : ℕ) (sort : Sort) (n : ℕ) (o : Option ℕ) (c : Option OpenCycle) → SaysPlain (met_by s v h sort n o c)
  met_by-plain v h sort n o None = twin-plain v h sort n o
  met_by-plain v h sort n o (Some c) = tt

  pub met-plain : (v h : ℕ) (sort : Sort) (n : ℕ) (o : Option ℕ) → SaysPlain (met s v h sort n o)
  met-plain v h sort n o = met_by-plain v h sort n o s.cycle

  pub adopted-plain : (v : ℕ) (kind : Kind) (n h : ℕ) → SaysPlain (adopted s v kind n h)
  adopted-plain v kind n h = test-cases SaysPlain (is_full s.heap.fields) _ _ tt tt

  -- each line but the taking of notices
  abbrev pub TakesNone : Act → Type 0
  TakesNone (act.Finalise n) = ⊥
  TakesNone _ = Unit {0}

  pub line-plain : (t : ℕ) (a : Act) → TakesNone a → SaysPlain (managed_line s t a)
  line-plain t (act.New v kind n) e = test-cases SaysPlain (is_full s.heap.fields) _ _ tt tt
  line-plain t (act.Weak k v) e = option-cases SaysPlain _ _ (slot s.heap.vars (place t v.0)) tt (λ x. cell-plain k.0 x (slot s.cells k.0))
  line-plain t (act.Read k) e = read-plain t k.0
  line-plain t (act.Await k) e = read-plain t k.0
  line-plain t (act.Take v) e = option-cases SaysPlain _ _ (slot s.pins t) tt (λ x. tt)
  line-plain t (act.Handle v) e = handle-plain (place t v.0)
  line-plain t (act.Finalise n) e = absurd e
  line-plain t a e = heap_line-plain managed_name (λ x. tt) s.heap t a

  open_reply-plain : (o : Option OpenCycle) → IsPlain (open_reply o)
  open_reply-plain None = tt
  open_reply-plain (Some c) = tt

  pub refusal-plain : (phase : Phase) (w : PhaseWord) → IsPlain (refusal_to s phase w)
  refusal-plain phase word.Cycle = open_reply-plain s.cycle
  refusal-plain phase word.Snap = open_reply-plain s.cycle
  refusal-plain phase _ = tt

-- the peer side
module _ (s : Peers) where
  pub pair-plain : (sort : Sort) (n : ℕ) → SaysPlain (pair_made s sort n)
  pair-plain sort n = test-cases SaysPlain (is_full s.heap.fields || handles_full s) _ _ tt tt

  grip_by-plain : (o : Option ℕ) → SaysPlain (peer_gripped s o)
  grip_by-plain None = tt
  grip_by-plain (Some p) = test-cases SaysPlain (handles_full s) _ _ tt tt

  pub grip-plain : (x : ℕ) → SaysPlain (gripped s x)
  grip-plain x = grip_by-plain (slot s.heap.statics x)

  pub land-plain : (x : ℕ) (o : Option ℕ) → SaysPlain (landed s x o)
  land-plain x None = tt
  land-plain x (Some p) = tt

  name-plain : (g p : ℕ) (strength : Strength) (o : Option ℕ) → SaysPlain (name_given s g p strength o)
  name-plain g p strength (Some h) = tt
  name-plain g p strength None = test-cases SaysPlain (handles_full s) _ _ tt tt

  global-plain : (g v : ℕ) (strength : Strength) → SaysPlain (globalised s g v strength)
  global-plain g v strength = option-cases SaysPlain _ _ (slot s.heap.vars v) tt (λ p. name-plain g p strength (slot s.names g))

  peer_read-plain : (v : ℕ) (o : Option ℕ) → SaysPlain (peer_read s v o)
  peer_read-plain v None = tt
  peer_read-plain v (Some p) = tt

  pub peer_line-plain : (target : ℕ → Option ℕ) (t : ℕ) (a : Act) → SaysPlain (peer_line target s t a)
  peer_line-plain target t (act.NewPeer v n) = test-cases SaysPlain (is_full s.heap.fields) _ _ tt tt
  peer_line-plain target t (act.Global g v) = global-plain g.0 (place t v.0) _
  peer_line-plain target t (act.WGlobal g v) = global-plain g.0 (place t v.0) _
  peer_line-plain target t (act.UnGlobal g) = option-cases SaysPlain _ _ (slot s.names g.0) tt (λ h. tt)
  peer_line-plain target t (act.WRead v g) = option-cases SaysPlain _ _ (slot s.names g.0) tt (λ h. peer_read-plain (place t v.0) (target h))
  peer_line-plain target t a = heap_line-plain peer_name (λ x. tt) s.heap t a

module _ (s : PeerReplay) where
  pub sliced-plain : (x : Option Marking) (t : Thread) (n : ℕ) (closure : List ℕ) → SaysPlain (sliced s x t n closure)
  sliced-plain None t n closure = tt
  sliced-plain (Some mk) t n closure = test-cases SaysPlain (is_thread t mk.by) _ _ (test-cases IsPlain (nat_lt (mk.blackened + min n (length closure - mk.blackened)) (length closure)) _ _ tt tt) tt

  pub begun-plain : (x : Option Marking) (t : Thread) → SaysPlain (begun s x t)
  begun-plain None t = tt
  begun-plain (Some mk) t = tt

  pub restored-plain : (h : ℕ) (x : Option TableRow) → SaysPlain (restored_by s h x)
  restored-plain h x = restored-any SaysPlain s h x tt tt (λ p. tt)
