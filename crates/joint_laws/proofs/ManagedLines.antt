-- The events of a managed thread's lines that are one event, by what they may change. A fact that each of these kinds
-- of change keeps holds after each of the events.
use Rattle.std.proofs.Common.{◌≡◌, ℕ, inl, Bool, true, false, Option, Some, None, set, refl}
use Rattle.std.specs.Prelude.{Contains, if◌then◌else◌}
use Rattle.joint_machine.specs.declared.names.Kind.{Kind}
use Rattle.joint_machine.specs.declared.lines.Act.{Act}
use Rattle.joint_machine.specs.declared.lines.Act.TheVariants as act
use Rattle.joint_machine.specs.declared.events.Reply.{Reply}
use Rattle.joint_machine.specs.declared.events.Reply.TheVariants as says
use Rattle.joint_machine.specs.Heaps.{Heap, IsMade, IsLive, Answered, answer, slot, is_freed, is_full, next_number, place, with_var}
use Rattle.joint_machine.specs.Managed.{Managed, OpenCycle, IsManagedRoot, managed_name, with_row, cell_set, target_read, cell_read, managed_line, notices_taken}
use Rattle.joint_machine.proofs.Numbered.{slot-Contains}
use Rattle.joint_machine.proofs.HeapLemmas.{not_freed}
use Rattle.joint_laws.proofs.HeapMoves.{HasMoved, heap_line-moved}

-- the kinds of change: none; an operation of the heap alone; a further row without a handle; a cell comes to name what
-- a slot names; a pin comes to hold an unfreed row, while no cycle is open; a variable comes to name what a pin held;
-- notices are taken
pub record LineKeeps (s : Managed) (P : Managed → Type 0) : Type 0 where
  pub stay : P s
  pub on_heap : (k : Heap) → HasMoved s.heap k → P (record s { heap = k })
  pub row : (v : ℕ) (kind : Kind) (n : ℕ) → P (with_row s v kind n None)
  pub cell : (k x : ℕ) → IsManagedRoot s x → P (record s { cells = set s.cells k (Some x) })
  pub pin : (t x : ℕ) → s.cycle ≡ None → IsLive s.heap x → P (record s { pins = set s.pins t (Some x) })
  pub take : (t v x : ℕ) → slot s.pins t ≡ Some x → P (record s { heap = with_var s.heap v (Some x); pins = set s.pins t None })
  pub notices : (n : ℕ) → P (notices_taken s n).state

pub if_full : (s : Managed) (P : Managed → Type 0) (b : Bool) (r : Reply) (t : Managed) → P s → P t → P (if b then answer says.Full s else answer r t).state
if_full s P true r t p q = p
if_full s P false r t p q = q

abbrev weakened_by : Managed → ℕ → Option ℕ → Answered Managed
weakened_by s k o = elim o [ None ↦ answer says.Empty s | Some x ↦ cell_set s k x (slot s.cells k) ]

abbrev read_by : Managed → ℕ → ℕ → Option ℕ → Answered Managed
read_by s t k o = elim o [ None ↦ cell_read s t k s.cycle | Some x ↦ answer (says.Pinned record { 0 = x }) s ]

abbrev taken_by : Managed → ℕ → ℕ → Option ℕ → Answered Managed
taken_by s t v o = elim o [ None ↦ answer says.Empty s | Some x ↦ answer (managed_name x) (record s { heap = with_var s.heap v (Some x); pins = set s.pins t None }) ]

module _ (s : Managed) (P : Managed → Type 0) (k : LineKeeps s P) where
  cell_set-keeps : (i x : ℕ) (o : Option ℕ) → IsManagedRoot s x → P (cell_set s i x o).state
  cell_set-keeps i x None r = k.cell i x r
  cell_set-keeps i x (Some y) r = k.stay

  weakened_by-keeps : (i v : ℕ) (o : Option ℕ) → slot s.heap.vars v ≡ o → P (weakened_by s i o).state
  weakened_by-keeps i v None e = k.stay
  weakened_by-keeps i v (Some x) e = cell_set-keeps i x (slot s.cells i) (inl (inl (slot-Contains s.heap.vars v x e)))

  target_by-keeps : (t x : ℕ) (b : Bool) → is_freed s.heap x ≡ b → s.cycle ≡ None → IsMade s.heap x
      → P (if b then answer says.Gone s else answer (managed_name x) (record s { pins = set s.pins t (Some x) })).state
  target_by-keeps t x true e o m = k.stay
  target_by-keeps t x false e o m = k.pin t x o (record { made = m; kept = not_freed s.heap x e })

  target_read-keeps : (t : ℕ) (o : Option ℕ) → s.cycle ≡ None → ((x : ℕ) → o ≡ Some x → IsMade s.heap x) → P (target_read s t o).state
  target_read-keeps t None c m = k.stay
  target_read-keeps t (Some x) c m = target_by-keeps t x (is_freed s.heap x) refl c (m x refl)

  cell_read-keeps : (t i : ℕ) (c : Option OpenCycle) → s.cycle ≡ c → ((x : ℕ) → Contains s.cells (Some x) → IsMade s.heap x) → P (cell_read s t i c).state
  cell_read-keeps t i None e m = target_read-keeps t (slot s.cells i) e (λ x q. m x (slot-Contains s.cells i x q))
  cell_read-keeps t i (Some c) e m = k.stay

  read_by-keeps : (t i : ℕ) (o : Option ℕ) → ((x : ℕ) → Contains s.cells (Some x) → IsMade s.heap x) → P (read_by s t i o).state
  read_by-keeps t i None m = cell_read-keeps t i s.cycle refl m
  read_by-keeps t i (Some x) m = k.stay

  taken_by-keeps : (t v : ℕ) (o : Option ℕ) → slot s.pins t ≡ o → P (taken_by s t v o).state
  taken_by-keeps t v None e = k.stay
  taken_by-keeps t v (Some x) e = k.take t v x e

  pub managed_line-keeps : ((x : ℕ) → Contains s.cells (Some x) → IsMade s.heap x) → (t : ℕ) (a : Act) → P (managed_line s t a).state
  managed_line-keeps m t (act.New v kind n) = if_full s P (is_full s.heap.fields) (managed_name (next_number s.heap)) (with_row s (place t v.0) kind n None) k.stay (k.row (place t v.0) kind n)
  managed_line-keeps m t (act.Weak i v) = weakened_by-keeps i.0 (place t v.0) (slot s.heap.vars (place t v.0)) refl
  managed_line-keeps m t (act.Read i) = read_by-keeps t i.0 (slot s.pins t) m
  managed_line-keeps m t (act.Await i) = read_by-keeps t i.0 (slot s.pins t) m
  managed_line-keeps m t (act.Take v) = taken_by-keeps t (place t v.0) (slot s.pins t) refl
  managed_line-keeps m t (act.Handle v) = k.stay
  managed_line-keeps m t (act.Finalise n) = k.notices n
  managed_line-keeps m t a = k.on_heap _ (heap_line-moved managed_name s.heap t a)
