-- How the table keeps its rows: a slot for each handle that make made, and the names, which lead from numbers to slots.
use Rattle.std.specs.Prelude.{◌≡◌, ◌==◌, ◌+◌, ◌*◌, ◌-◌, ◌≤◌, ◌<◌, ℕ, Bool, zero, suc, true, false, not, List, [], ◌∷◌}
use Rattle.std.specs.Prelude.{Option, None, Some, ⊤, is_some, length, slice_get, slice_index_or, if◌then◌else◌}
use Rattle.std.specs.Option.{option_map, option_and_then}
use Rattle.std.specs.Vec.{vec_capacity}
use Rattle.joint_machine.specs.declared.names.HNum.{HNum}
use Rattle.joint_machine.specs.declared.names.PNum.{PNum}
use Rattle.global_handles.specs.declared.HandleRow.{HandleRow}
use Rattle.global_handles.specs.declared.Kept.{Kept}
use Rattle.global_handles.specs.declared.Name.{Name}
use Rattle.global_handles.specs.declared.Slot.{Slot}
use Rattle.global_handles.specs.declared.HandleTable.TheInside.{Inside}
use Rattle.global_handles.specs.Rows.{Table}

-- the row of a number, from its peer and what else is kept of it
abbrev pub row_at : ℕ → PNum → Kept → HandleRow
row_at n p k = record { number = record { 0 = n }; peer = p; hold = k.hold; strength = k.strength; cleared = k.cleared }

-- the row of a number that is kept for a peer, if what is kept has that number
abbrev pub kept_row : ℕ → PNum → Option Kept → Option HandleRow
kept_row n p None = None
kept_row n p (Some k) = if n == k.number then Some (row_at n p k) else None

-- the row of a number that a slot has
abbrev pub row_of : ℕ → Slot → Option HandleRow
row_of n s = kept_row n s.peer s.row

-- the row that a name leads to: that of its place, if it has the name's number
abbrev pub named_row : List Slot → Name → Option HandleRow
named_row ss e = option_and_then (row_of e.number) (slice_get ss e.place)

abbrev pub is_named : List Slot → Name → Bool
is_named ss e = is_some (named_row ss e)

-- the first n names lead to no row
abbrev pub AreHoles : List Slot → ℕ → List Name → Type 0
AreHoles ss n es = (i : ℕ) (e : Name) → i < n → slice_get es i ≡ Some e → is_named ss e ≡ false

-- a row, if there is one, in front of other rows
abbrev pub put : Option HandleRow → List HandleRow → List HandleRow
put None rows = rows
put (Some r) rows = r ∷ rows

-- the rows that names lead to
abbrev pub rows_of : List Slot → List Name → List HandleRow
rows_of ss [] = []
rows_of ss (e ∷ es) = put (named_row ss e) (rows_of ss es)

-- the name of a number; None where it isn't among these
abbrev pub name_in : List Name → HNum → Option Name
name_in [] h = None
name_in (e ∷ es) h = if h.0 == e.number then Some e else name_in es h

-- the numbers of the names rise; each is above the first number and at most the last
abbrev pub NamesRise : ℕ → ℕ → List Name → Type 0
NamesRise low high [] = low ≤ high
NamesRise low high (e ∷ es) = (low < e.number) × NamesRise e.number high es

-- the names lead to places below this one
abbrev pub ArePlaced : ℕ → List Name → Type 0
ArePlaced n [] = ⊤
ArePlaced n (e ∷ es) = (e.place < n) × ArePlaced n es

-- the slots, with another row in the slot at a place
abbrev pub with_row : List Slot → ℕ → Option Kept → List Slot
with_row [] i row = []
with_row (s ∷ ss) zero row = record { peer = s.peer; next = s.next; previous = s.previous; row = row } ∷ ss
with_row (s ∷ ss) (suc i) row = s ∷ with_row ss i row

-- the slots, each changed by its number; n is the number of the first
abbrev pub numbered : (ℕ → Slot → Slot) → ℕ → List Slot → List Slot
numbered f n [] = []
numbered f n (s ∷ ss) = f n s ∷ numbered f (n + 1) ss

-- the slots, where that of a number leads on to another one; 0 is the number of no slot
abbrev pub next_at : ℕ → ℕ → ℕ → Slot → Slot
next_at m next n s = record {
  peer = s.peer;
  next = if n == m then next else s.next;
  previous = s.previous;
  row = s.row;
}

abbrev pub with_next : List Slot → ℕ → ℕ → List Slot
with_next ss m next = numbered (next_at m next) 1 ss

-- the slots, where that of a number leads back to another one
abbrev pub previous_at : ℕ → ℕ → ℕ → Slot → Slot
previous_at m previous n s = record {
  peer = s.peer;
  next = s.next;
  previous = if n == m then previous else s.previous;
  row = s.row;
}

abbrev pub with_previous : List Slot → ℕ → ℕ → List Slot
with_previous ss m previous = numbered (previous_at m previous) 1 ss

-- what is kept of a row, once it is cleared
abbrev pub cleared_kept : Kept → Kept
cleared_kept k = record { number = k.number; hold = k.hold; strength = k.strength; cleared = true }

-- the slot, with its row cleared where it names the peer
abbrev pub cleared_slot : PNum → Slot → Slot
cleared_slot p s = if p.0 == s.peer.0 then
    record { peer = s.peer; next = s.next; previous = s.previous; row = option_map cleared_kept s.row } else s

-- a place has a row, which differs from this one by its strength alone
pub record DiffersByStrength (ss : List Slot) (i : ℕ) (k : Kept) : Type 0 where
  pub slot : Slot
  pub before : Kept
  pub there : slice_get ss i ≡ Some slot
  pub row : slot.row ≡ Some before
  pub is : record before { strength = k.strength } ≡ k

-- there is a row, and it isn't cleared
abbrev pub is_open : Option Kept → Bool
is_open None = false
is_open (Some k) = not k.cleared

-- the slot has a row of the peer to clear
abbrev pub opens : PNum → Slot → Bool
opens p s = if p.0 == s.peer.0 then is_open s.row else false

-- of the slots below a place, the last one with a row to clear for the peer has the number n; 0 where none has one
pub record IsLastOpen (ss : List Slot) (p : PNum) (n high : ℕ) : Type 0 where
  pub within : n ≤ high
  pub own : (j : ℕ) (s : Slot) → n ≡ suc j → slice_get ss j ≡ Some s → opens p s ≡ true
  pub settled : (j : ℕ) (s : Slot) → n ≤ j → j < high → slice_get ss j ≡ Some s → opens p s ≡ false

-- each slot with a row to clear leads on to the one before it of the same peer
abbrev pub AreLinkedSlots : List Slot → Type 0
AreLinkedSlots ss = (i : ℕ) (s : Slot) → slice_get ss i ≡ Some s
    → (p : PNum) → opens p s ≡ true → IsLastOpen ss p s.next i

-- what the number m leads back to, which is the head of the peer at 0 and else a slot of it with a row to clear,
-- leads on to the number n
pub record LeadsBack (ss : List Slot) (head : PNum → ℕ) (p : PNum) (m n : ℕ) : Type 0 where
  pub first : m ≡ 0 → head p ≡ n
  pub later : (j : ℕ) → m ≡ suc j → (s : Slot) × (slice_get ss j ≡ Some s) × (opens p s ≡ true) × (s.next ≡ n)

-- each slot with a row to clear leads back to what leads on to it
abbrev pub IsBacked : List Slot → (PNum → ℕ) → Type 0
IsBacked ss head = (i : ℕ) (s : Slot) → slice_get ss i ≡ Some s
    → (p : PNum) → opens p s ≡ true → LeadsBack ss head p s.previous (suc i)

-- from the head of each peer on, just the slots with a row to clear for it are chained, the last made first
pub record IsChained (ss : List Slot) (head : PNum → ℕ) : Type 0 where
  pub heads_lead : (p : PNum) → IsLastOpen ss p (head p) (length ss)
  pub linked : AreLinkedSlots ss
  pub backed : IsBacked ss head

-- the number at which the chain of a peer begins; 0 where there is nothing to clear, as past the end of the list
abbrev pub head_in : List ℕ → PNum → ℕ
head_in heads p = slice_index_or heads p.0 0

-- what contracts see of a table with these fields
abbrev pub table_of : Inside → Table
table_of t = record {
  rows = rows_of t.slots.items t.names.items;
  made = length t.slots.items;
  last = t.last;
  room = t.ready;
  holes = length t.names.items - length (rows_of t.slots.items t.names.items);
}

-- what holds of a table's fields: at most 65,535 handles were made, the rows are counted and are no more than the
-- slots, the names rise up to the greatest number given and lead to slots, there are at most two for each slot, just
-- the slots that have something to clear are chained, those of each peer from its head on, and the room that is said is
-- there: for the slots, for two names for each, and for the head of any peer, whose number is at most 65,535
pub record IsTable (t : Inside) : Type 0 where
  pub most : length t.slots.items ≤ 65535
  pub counted : t.live ≡ length (rows_of t.slots.items t.names.items)
  pub few : t.live ≤ length t.slots.items
  pub rise : NamesRise 0 t.last t.names.items
  pub placed : ArePlaced (length t.slots.items) t.names.items
  pub twice : length t.names.items ≤ 2 * length t.slots.items
  pub chained : IsChained t.slots.items (head_in t.heads.items)
  pub slots_room : length t.slots.items + t.ready ≤ vec_capacity t.slots
  pub names_room : 2 * (length t.slots.items + t.ready) ≤ vec_capacity t.names
  pub heads_most : length t.heads.items ≤ 65536
  pub heads_room : 1 ≤ t.ready → 65536 ≤ vec_capacity t.heads
