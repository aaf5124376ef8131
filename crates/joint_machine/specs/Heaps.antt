-- A heap of either side: its objects with their fields, the variables of its threads and its statics, and
-- the operations that both heaps have. (The managed replay, the peer replay and the joint machine share
-- these definitions, so that they can't disagree. Textbook; the operations are this project's own.)
-- Believed: the clauses of the program's top call rest on all that stands here.
use Rattle.std.specs.Prelude.{ℕ, zero, suc, ◌+◌, ◌*◌, ◌≤◌, ◌⊎◌, Bool, nat_le, nat_eq, if◌then◌else◌, List, [], ◌∷◌}
use Rattle.std.specs.Prelude.{◌++◌, length, replicate, slice_get, slice_set, Contains, Option, Some, None}
use Rattle.std.specs.List.{list_any}
use Rattle.joint_machine.specs.declared.names.Span.{Span}
use Rattle.joint_machine.specs.declared.names.Var.{Var}
use Rattle.joint_machine.specs.declared.lines.Act.{Act}
use Rattle.joint_machine.specs.declared.lines.Act.TheVariants as act
use Rattle.joint_machine.specs.declared.events.Reply.{Reply}
use Rattle.joint_machine.specs.declared.events.Reply.TheVariants as says
use Rattle.joint_machine.specs.declared.names.TheConstants.{VARS, STATICS}

-- objects have the numbers from 1 on, in the order in which they were made; `freed` has the numbers of those
-- that were freed, in the order of freeing
pub record Heap : Type 0 where
  pub fields : List (List (Option ℕ))
  pub freed : List ℕ
  pub vars : List (Option ℕ)
  pub statics : List (Option ℕ)

-- the most objects that a heap makes, and the most handles
abbrev pub MOST : ℕ
MOST = 65535

-- no object, and every variable and static empty; a thread's variables stand at eight times its number, so the first
-- eight are nobody's
abbrev pub opening_heap : Heap
opening_heap = record { fields = []; freed = []; vars = replicate VARS None; statics = replicate STATICS None }

-- what stands at a place of a list of slots; None past the end
abbrev pub slot : {A : Type 0} → List (Option A) → ℕ → Option A
slot xs i = elim (slice_get xs i) [ None ↦ None | Some x ↦ x ]

-- the element of a list by its number, which counts from 1
abbrev pub numbered_at : {A : Type 0} → List A → ℕ → Option A
numbered_at xs zero = None
numbered_at xs (suc i) = slice_get xs i

-- the list with another element at that number
abbrev pub numbered_set : {A : Type 0} → List A → ℕ → A → List A
numbered_set xs zero x = xs
numbered_set xs (suc i) x = slice_set xs i x

-- the place of a thread's variable
abbrev pub place : ℕ → ℕ → ℕ
place thread v = 8 * thread + v

-- the fields of an object; none where there is no such object
abbrev pub fields_of : Heap → ℕ → List (Option ℕ)
fields_of h x = elim (numbered_at h.fields x) [ None ↦ [] | Some fs ↦ fs ]

-- whether the object was freed
abbrev pub is_freed : Heap → ℕ → Bool
is_freed h x = list_any (nat_eq x) h.freed

-- the object was made
abbrev pub IsMade : Heap → ℕ → Type 0
IsMade h x = (1 ≤ x) × (x ≤ length h.fields)

-- the object was made and isn't freed
pub record IsLive (h : Heap) (x : ℕ) : Type 0 where
  pub made : IsMade h x
  pub kept : Contains h.freed x → ⊥

-- an unfreed object has another unfreed one in a field
pub record HasField (h : Heap) (x y : ℕ) : Type 0 where
  pub live : IsLive h x
  pub field : Contains (fields_of h x) (Some y)
  pub there : IsLive h y

-- a variable or a static names the object
abbrev pub InSlot : Heap → ℕ → Type 0
InSlot h x = Contains h.vars (Some x) ⊎ Contains h.statics (Some x)

-- whether no further object can be made
abbrev pub is_full : {A : Type 0} → List A → Bool
is_full xs = nat_le MOST (length xs)

-- the number of the next object
abbrev pub next_number : Heap → ℕ
next_number h = length h.fields + 1

-- the variable at that place names another object, or none
abbrev pub with_var : Heap → ℕ → Option ℕ → Heap
with_var h v x = record h { vars = slice_set h.vars v x }

-- the static holds another object, or none
abbrev pub with_static : Heap → ℕ → Option ℕ → Heap
with_static h s x = record h { statics = slice_set h.statics s x }

-- a field of an object holds another one, or none
abbrev pub with_field : Heap → ℕ → ℕ → Option ℕ → Heap
with_field h x i y = record h { fields = numbered_set h.fields x (slice_set (fields_of h x) i y) }

-- a further object with so many empty fields
abbrev pub with_object : Heap → ℕ → Heap
with_object h n = record h { fields = h.fields ++ replicate n None ∷ [] }

-- further objects are freed
abbrev pub with_freed : Heap → List ℕ → Heap
with_freed h xs = record h { freed = h.freed ++ xs }

-- where objects that are freed next stand in the list of freed ones
abbrev pub freed_span : Heap → List ℕ → Span
freed_span h xs = record { first = length h.freed; count = length xs }

-- a reply, and the state after it
pub record Answered (S : Type 0) : Type 0 where
  pub reply : Reply
  pub state : S

abbrev pub answer : {S : Type 0} → Reply → S → Answered S
answer r s = record { reply = r; state = s }

-- what stands for the answer where an operation doesn't come: one that no event answers here, so that an operation that
-- was forgotten is refused
abbrev pub not_here : {S : Type 0} → S → Answered S
not_here s = answer says.NoMark s

-- the answer where there may be no object: `empty`, and nothing changes
abbrev pub of_object : {S : Type 0} → S → Option ℕ → (ℕ → Answered S) → Answered S
of_object s o f = elim o [ None ↦ answer says.Empty s | Some x ↦ f x ]

-- `copy V W`: V names W's object. In these operations `name` is how a reply names an object, and variables
-- go by their places.
abbrev pub copied : (ℕ → Reply) → Heap → ℕ → ℕ → Answered Heap
copied name h v w = of_object h (slot h.vars w) (λ x. answer (name x) (with_var h v (Some x)))

-- field i of object x gets the object of the variable at a place, or nothing
abbrev pub field_stored : Heap → ℕ → ℕ → Option ℕ → Answered Heap
field_stored h x i None = answer says.Ok (with_field h x i None)
field_stored h x i (Some w) = of_object h (slot h.vars w) (λ y. answer says.Ok (with_field h x i (Some y)))

-- `set V I W`: field I of V's object holds W's object, or nothing
abbrev pub field_set : Heap → ℕ → ℕ → Option ℕ → Answered Heap
field_set h v i w = of_object h (slot h.vars v)
    (λ x. if nat_le (length (fields_of h x)) i then answer says.Range h else field_stored h x i w)

-- V names the object that was read, or is emptied where there was none
abbrev pub read_into : (ℕ → Reply) → Heap → ℕ → Option ℕ → Answered Heap
read_into name h v None = answer says.Null (with_var h v None)
read_into name h v (Some y) = answer (name y) (with_var h v (Some y))

-- `get V W I`: V names the object in field I of W's object
abbrev pub field_got : (ℕ → Reply) → Heap → ℕ → ℕ → ℕ → Answered Heap
field_got name h v w i = of_object h (slot h.vars w) (λ x. if nat_le (length (fields_of h x)) i
    then answer says.Range h else read_into name h v (slot (fields_of h x) i))

-- `drop V`: V is emptied
abbrev pub dropped : Heap → ℕ → Answered Heap
dropped h v = answer says.Ok (with_var h v None)

-- `load V x`: V names the static's object
abbrev pub loaded : (ℕ → Reply) → Heap → ℕ → ℕ → Answered Heap
loaded name h v s = read_into name h v (slot h.statics s)

-- `store x V`: the static holds V's object, or nothing
abbrev pub stored : Heap → ℕ → Option ℕ → Answered Heap
stored h s None = answer says.Ok (with_static h s None)
stored h s (Some v) = of_object h (slot h.vars v) (λ x. answer says.Ok (with_static h s (Some x)))

-- the place of a variable that may be missing
abbrev pub place_or_none : ℕ → Option Var → Option ℕ
place_or_none t None = None
place_or_none t (Some v) = Some (place t v.0)

-- the events of lines that both heaps have, each on the thread's own heap
abbrev pub heap_line : (ℕ → Reply) → Heap → ℕ → Act → Answered Heap
heap_line name h t (act.Copy v w) = copied name h (place t v.0) (place t w.0)
heap_line name h t (act.Set v i w) = field_set h (place t v.0) i (place_or_none t w)
heap_line name h t (act.Get v w i) = field_got name h (place t v.0) (place t w.0) i
heap_line name h t (act.Drop v) = dropped h (place t v.0)
heap_line name h t (act.Load v x) = loaded name h (place t v.0) x.0
heap_line name h t (act.Store x v) = stored h x.0 (place_or_none t v)
heap_line name h t _ = not_here h
