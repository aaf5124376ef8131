-- The managed objects, with the handles that they hold, the weak cells, the pins, the notices and the open
-- cycle: what the joint machine and the managed side's own replay share, and how each event changes it.
-- (The four kinds of class and the life of a cycle are those of SGen's bridge header; handles and `Dispose`
-- are those of the Xamarin.Android documentation.)
-- Believed: the clauses of the program's top call rest on all that stands here.
use Rattle.std.specs.Prelude.{◌≡◌, ℕ, ◌+◌, ◌-◌, ◌⊎◌, Bool, true, false, min, if◌then◌else◌, List, [], ◌∷◌, ◌++◌, length}
use Rattle.std.specs.Prelude.{filter, replicate, slice_set, Contains, Option, Some, None}
use Rattle.joint_machine.specs.declared.names.Kind.{Kind}
use Rattle.joint_machine.specs.declared.names.Kind.TheVariants.{Bridge, LeafBridge}
use Rattle.joint_machine.specs.declared.names.Sort.{Sort}
use Rattle.joint_machine.specs.declared.names.Sort.TheVariants.{User, Framework}
use Rattle.joint_machine.specs.declared.lines.Act.{Act}
use Rattle.joint_machine.specs.declared.lines.Act.TheVariants as act
use Rattle.joint_machine.specs.declared.events.Reply.{Reply}
use Rattle.joint_machine.specs.declared.events.Reply.TheVariants as says
use Rattle.joint_machine.specs.Heaps.{Heap, IsLive, HasField, InSlot, Answered, answer, opening_heap, slot, numbered_at}
use Rattle.joint_machine.specs.Heaps.{numbered_set, place, is_freed, is_full, next_number, with_var, with_object}
use Rattle.joint_machine.specs.Heaps.{with_freed, of_object, heap_line}
use Rattle.joint_machine.specs.Told.{Answer, said_alive, said_cleared}
use Rattle.joint_machine.specs.Walks.{Reached}
use Rattle.joint_machine.specs.declared.names.TheConstants.{PINS, CELLS}

-- an open cycle: its number, the candidates of its snapshot and its dead part, both rising
pub record OpenCycle : Type 0 where
  pub number : ℕ
  pub candidates : List ℕ
  pub dead : List ℕ

-- `kinds` and `held` have a place for each object that was made; `cycles` counts the cycles opened
pub record Managed : Type 0 where
  pub heap : Heap
  pub kinds : List Kind
  pub held : List (Option ℕ)
  pub pins : List (Option ℕ)
  pub cells : List (Option ℕ)
  pub notices : List ℕ
  pub taken : ℕ
  pub cycle : Option OpenCycle
  pub cycles : ℕ

-- nothing is there; a thread's pin has the thread's number, so the pin with number 0 is nobody's
abbrev pub opening_managed : Managed
opening_managed = record {
  heap = opening_heap;
  kinds = [];
  held = [];
  pins = replicate PINS None;
  cells = replicate CELLS None;
  notices = [];
  taken = 0;
  cycle = None;
  cycles = 0;
}

-- the candidates of the open cycle; none where no cycle is open
abbrev pub candidates_of : Managed → List ℕ
candidates_of s = elim s.cycle [ None ↦ [] | Some c ↦ c.candidates ]

-- how a reply names a managed object
abbrev pub managed_name : ℕ → Reply
managed_name m = says.M record { 0 = m }

-- the handle that an object holds; a freed one holds none
abbrev pub handle_of : Managed → ℕ → Option ℕ
handle_of s m = if is_freed s.heap m then None else elim (numbered_at s.held m) [ None ↦ None | Some h ↦ h ]

-- an unfreed object holds the handle
pub record Holds (s : Managed) (m h : ℕ) : Type 0 where
  pub live : IsLive s.heap m
  pub held : numbered_at s.held m ≡ Some (Some h)

-- a bridge row: an unfreed object that holds a handle
abbrev pub IsBridge : Managed → ℕ → Type 0
IsBridge s m = (h : ℕ) × Holds s m h

-- a variable, a static or a pin names the object
abbrev pub IsManagedRoot : Managed → ℕ → Type 0
IsManagedRoot s m = InSlot s.heap m ⊎ Contains s.pins (Some m)

-- x leads to y over a managed field
abbrev pub ManagedEdge : Managed → ℕ → ℕ → Type 0
ManagedEdge s x y = HasField s.heap x y

-- a walk over managed fields leads to the object from a managed slot
abbrev pub IsManagedReached : Managed → ℕ → Type 0
IsManagedReached s m = Reached (IsManagedRoot s) (ManagedEdge s) m

-- a walk over managed fields leads to the object from a bridge row
abbrev pub IsBridgeReached : Managed → ℕ → Type 0
IsBridgeReached s m = Reached (IsBridge s) (ManagedEdge s) m

-- the heap's own events, as events of the managed state
abbrev pub on_heap : Managed → Answered Heap → Answered Managed
on_heap s a = answer a.reply (record s { heap = a.state })

-- a further object of that kind with so many fields, which holds a handle or none; the variable names it
abbrev pub with_row : Managed → ℕ → Kind → ℕ → Option ℕ → Managed
with_row s v kind n h = record s {
  heap = with_var (with_object s.heap n) v (Some (next_number s.heap));
  kinds = s.kinds ++ kind ∷ [];
  held = s.held ++ h ∷ [];
}

-- `new`: a further object without a handle, unless there are 65,535
abbrev pub made_new : Managed → ℕ → Kind → ℕ → Answered Managed
made_new s v kind n = if is_full s.heap.fields then answer says.Full s else answer
    (managed_name (next_number s.heap)) (with_row s v kind n None)

-- `adopt`: a further object that holds the handle, unless there are 65,535
abbrev pub adopted : Managed → ℕ → Kind → ℕ → ℕ → Answered Managed
adopted s v kind n h = if is_full s.heap.fields then answer says.Full s else answer
    (managed_name (next_number s.heap)) (with_row s v kind n (Some h))

-- the cell gets a target, unless it was ever set
abbrev pub cell_set : Managed → ℕ → ℕ → Option ℕ → Answered Managed
cell_set s k x None = answer says.Ok (record s { cells = slice_set s.cells k (Some x) })
cell_set s k x (Some y) = answer says.Taken s

-- `weak K V`: the cell's target is V's object
abbrev pub weakened_to : Managed → ℕ → ℕ → Answered Managed
weakened_to s k v = of_object s (slot s.heap.vars v) (λ x. cell_set s k x (slot s.cells k))

-- the reader's pin holds the cell's target, if that isn't freed
abbrev pub target_read : Managed → ℕ → Option ℕ → Answered Managed
target_read s t None = answer says.Unset s
target_read s t (Some x) = if is_freed s.heap x then answer says.Gone s else answer
    (managed_name x) (record s { pins = slice_set s.pins t (Some x) })

-- while a cycle is open a read is pending
abbrev pub cell_read : Managed → ℕ → ℕ → Option OpenCycle → Answered Managed
cell_read s t k None = target_read s t (slot s.cells k)
cell_read s t k (Some c) = answer (says.Pending record { 0 = c.number }) s

-- `read K` and `wait K`: a filled pin alone decides, then an open cycle
abbrev pub read_cell : Managed → ℕ → ℕ → Answered Managed
read_cell s t k = elim (slot s.pins t)
    [ None ↦ cell_read s t k s.cycle | Some x ↦ answer (says.Pinned record { 0 = x }) s ]

-- `take V`: V names the pin's object, and the pin is emptied
abbrev pub pin_taken : Managed → ℕ → ℕ → Answered Managed
pin_taken s t v = of_object s (slot s.pins t) (λ x. answer (managed_name x)
    (record s { heap = with_var s.heap v (Some x); pins = slice_set s.pins t None }))

-- the reply that names the handle of V's object
abbrev pub handle_reply : Managed → ℕ → Reply
handle_reply s v = elim (slot s.heap.vars v) [
  | None ↦ says.Empty
  | Some x ↦ elim (handle_of s x) [ None ↦ says.Plain | Some h ↦ says.H record { 0 = h } ]
]

-- the object holds no handle any more
abbrev pub without_handle : Managed → Option ℕ → Managed
without_handle s None = s
without_handle s (Some x) = record s { held = numbered_set s.held x None }

-- `give V`: V's object gives its handle up
abbrev pub given_up : Managed → ℕ → Answered Managed
given_up s v = answer (handle_reply s v) (without_handle s (slot s.heap.vars v))

-- the kind of the twin that is made for a peer of that sort
abbrev pub twin_kind : Sort → Kind
twin_kind User = Bridge
twin_kind Framework = LeafBridge

-- the number of fields of the twin that is made for a peer of that sort, which has n fields itself
abbrev pub twin_fields : Sort → ℕ → ℕ
twin_fields User n = n
twin_fields Framework n = 0

-- V names the peer's twin, or a new one that holds the handle
abbrev pub twin_met : Managed → ℕ → ℕ → Sort → ℕ → Option ℕ → Answered Managed
twin_met s v h sort n (Some m) = answer (says.Twin record { 0 = m }) (record s { heap = with_var s.heap v (Some m) })
twin_met s v h sort n None = if is_full s.heap.fields then answer says.Full s
    else answer (says.New record { 0 = next_number s.heap })
    (with_row s v (twin_kind sort) (twin_fields sort n) (Some h))

-- `meet V p h SORT F`, given the twin that p has: while a cycle is open it is pending
abbrev pub met : Managed → ℕ → ℕ → Sort → ℕ → Option ℕ → Answered Managed
met s v h sort n twin = elim s.cycle [
  | None ↦ twin_met s v h sort n twin
  | Some c ↦ answer (says.Pending record { 0 = c.number }) s
]

-- `finalise N`: the oldest N of the waiting notices are taken, or all
abbrev pub notices_taken : Managed → ℕ → Answered Managed
notices_taken s n = let count = min n (length s.notices - s.taken) in
    answer (says.Took record { first = s.taken; count = count }) (record s { taken = s.taken + count })

-- the events of a managed thread's lines that are one event: what managed objects alone have, and what both heaps have
abbrev pub managed_line : Managed → ℕ → Act → Answered Managed
managed_line s t (act.New v kind n) = made_new s (place t v.0) kind n
managed_line s t (act.Weak k v) = weakened_to s k.0 (place t v.0)
managed_line s t (act.Read k) = read_cell s t k.0
managed_line s t (act.Await k) = read_cell s t k.0
managed_line s t (act.Take v) = pin_taken s t (place t v.0)
managed_line s t (act.Handle v) = answer (handle_reply s (place t v.0)) s
managed_line s t (act.Finalise n) = notices_taken s n
managed_line s t a = on_heap s (heap_line managed_name s.heap t a)

-- a snapshot: its rows are freed, and the next cycle is opened
abbrev pub with_snapshot : Managed → List ℕ → List ℕ → List ℕ → Managed
with_snapshot s freed candidates dead = record s {
  heap = with_freed s.heap freed;
  cycle = Some record { number = s.cycles + 1; candidates = candidates; dead = dead };
  cycles = s.cycles + 1;
}

-- whether an object holds a handle
abbrev pub holds_handle : Managed → ℕ → Bool
holds_handle s m = elim (handle_of s m) [ None ↦ false | Some h ↦ true ]

-- what the objects hold, once each candidate that was answered alive holds the handle that its restore gave
abbrev pub renewed : List (Option ℕ) → List ℕ → List Answer → List (Option ℕ)
renewed held [] answers = held
renewed held (m ∷ ms) [] = held
renewed held (m ∷ ms) (said_alive h ∷ answers) = renewed (numbered_set held m (Some h)) ms answers
renewed held (m ∷ ms) (said_cleared ∷ answers) = renewed held ms answers

-- a resolution: its rows are freed, each kept candidate holds its new handle, a notice is queued for each freed bridge
-- row, and the cycle is closed
abbrev pub resolved : Managed → List Answer → List ℕ → Managed
resolved s answers freed = record s {
  heap = with_freed s.heap freed;
  held = renewed s.held (candidates_of s) answers;
  notices = s.notices ++ filter (holds_handle s) freed;
  cycle = None;
}

-- the cycle is closed, and nothing is freed
abbrev pub abandoned : Managed → Managed
abandoned s = record s { cycle = None }
