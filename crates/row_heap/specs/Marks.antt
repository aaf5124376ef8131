-- What a marking of a heap of rows follows, and what it leaves as it is. (Textbook: the edges of a tracing collector.)
use Rattle.std.specs.Prelude.{◌≡◌, ℕ, ◌⊎◌, ◌↔◌, Bool, true, if◌then◌else◌, nat_le, List, [], Option, Some, None}
use Rattle.std.specs.Prelude.{Contains, length}
use Rattle.std.specs.Option.{is_some}
use Rattle.joint_machine.specs.Components.{Rises}
use Rattle.joint_machine.specs.Heaps.{Heap, IsLive, HasField, fields_of, slot}
use Rattle.joint_machine.specs.PeerReplay.{HasReference, Refers}
use Rattle.reachability.specs.Marks.{HasMark}
use Rattle.row_heap.specs.Rows.{HeapRows}

-- the edges that a marking follows: fields, and references if it follows them
abbrev pub EdgeOf : HeapRows → ℕ → ℕ → Type 0
EdgeOf v x y = HasField v.heap x y ⊎ ((v.follows ≡ true) × HasReference v.heap v.refs x y)

-- all but marks and links
abbrev pub unmarked_rows : HeapRows → HeapRows
unmarked_rows v = record v { marks = []; links = [] }

-- what a marking finds that a row leads to: what its fields hold, and what its references lead to, if it follows them
abbrev pub LeadsTo : HeapRows → ℕ → ℕ → Type 0
LeadsTo v x y = Contains (fields_of v.heap x) (Some y) ⊎ ((v.follows ≡ true) × Refers v.refs x y)

-- what a live object's reference leads to is live
abbrev pub AreEndsLive : HeapRows → Type 0
AreEndsLive v = (p q : ℕ) → Refers v.refs p q → IsLive v.heap p → IsLive v.heap q

-- the list has exactly the live objects without a mark, and rises
pub record AreWhite (v : HeapRows) (xs : List ℕ) : Type 0 where
  pub rises : Rises xs
  pub exact : (x : ℕ) → Contains xs x ↔ (IsLive v.heap x × (HasMark v.marks x → ⊥))

-- an object that a live object's references lead to, directly or over temporaries
abbrev pub IsReferred : HeapRows → ℕ → Type 0
IsReferred v q = (p : ℕ) × HasReference v.heap v.refs p q

-- whether the variable that a field is to be written from names an object; true where the field is emptied
abbrev pub is_given : Heap → Option ℕ → Bool
is_given h None = true
is_given h (Some w) = is_some (slot h.vars w)

-- what `set V I W` takes out of the field that it writes
abbrev pub overwritten : Heap → ℕ → ℕ → Option ℕ → Option ℕ
overwritten h v i w = elim (slot h.vars v) [
  | None ↦ None
  | Some x ↦ if nat_le (length (fields_of h x)) i then None else if is_given h w then slot (fields_of h x) i else None
]
