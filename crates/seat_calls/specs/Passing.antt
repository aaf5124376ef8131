-- How a side draws its entries' numbers by a seat, and how a caller's pass is handed to a locked seat and back.
use Rattle.std.specs.Prelude.{◌≡◌, ◌⊎◌, ℕ, ◌+◌, ◌-◌, ◌<◌, max, true, false, List, [], ◌∷◌, length, Option}
use mathlib.Core.List.{IsPrefix}
use Rattle.joint_machine.specs.declared.names.Thread.{Thread}
use Rattle.joint_machine.specs.declared.events.Op.{Op}
use Rattle.joint_machine.specs.HistoryLines.{caller_line}
use Rattle.joint_machine.specs.Lines.{IsThread, is_peer_event, is_read}
use Rattle.order_table.specs.declared.views.KeptEntry.{KeptEntry}
use Rattle.order_table.specs.declared.views.View.{View}
use Rattle.order_table.specs.Rule.{IsBelow}
use Rattle.order_table.specs.Tells.{GrowsByEntry, IsOfCaller, BeginsOneHistory}
use Rattle.joint_machine.specs.declared.names.MNum.{MNum}
use Rattle.order_table.specs.Stages.{deed}
use Rattle.order_table.specs.Owed.{mark, target_told}
use Rattle.order_table.specs.Allowed.{MayDo, MaySet, OwesNone}
use Rattle.order_table.specs.Views.{OrderId, Shown, known, Owns}
use Rattle.seat_calls.specs.Paying.{IsPaid}
use Rattle.joint_machine.specs.Numbers.{u32_max}

-- the least number above all of a list, and above all of all lists
abbrev pub top : List KeptEntry → ℕ
top [] = 0
top (k ∷ ks) = max (k.entry.number + 1) (top ks)

abbrev pub top_of : List (List KeptEntry) → ℕ
top_of [] = 0
top_of (ks ∷ lines) = max (top ks) (top_of lines)

-- the least number above all that a view knows
abbrev pub floor_of : View → ℕ
floor_of v = top_of v.known

-- how many entries a role's list can take
abbrev pub left_in : View → ℕ → ℕ
left_in v r = u32_max - length (known v r)

-- the seat may make an entry of that event in that side's list, for that caller, and set its cell to that object
pub record MayAppend (order : OrderId) (seat : Shown) (r : ℕ) (t : Thread) (o : Op) (m : Option MNum) : Type 0 where
  pub same : seat.order ≡ order
  pub thread : IsThread t
  pub one : r < 2
  pub managed : r ≡ 0 → (is_read o ≡ false) × (is_peer_event t o ≡ false)
  pub peer : r ≡ 1 → (is_read o ≡ false) × (is_peer_event t o ≡ true)
  pub role : Owns seat.view r
  pub pass : Owns seat.view (caller_line t)
  pub paid : r ≡ 0 → OwesNone seat.view
  pub cycles : r ≡ 0 → MayDo seat.view (deed o)
  pub cells : r ≡ 0 → MaySet seat.view (mark o (target_told t o m))

-- the seat made that entry, and stored the word of the cell that it sets: the number is above all that the seat knew,
-- what the seat knows now is of one history, and this it holds and owes
pub record Appends (order order' : OrderId) (old new : Shown) (r : ℕ) (k : KeptEntry) : Type 0 where
  pub same_order : order' ≡ order
  pub same : new.order ≡ old.order
  pub grows : GrowsByEntry old.view new.view r k
  pub number : (i : ℕ) → IsBelow k.entry.number (known old.view i)
  pub one_history : BeginsOneHistory new.view
  pub paid : IsPaid old.view new.view r k

-- a caller's lines were handed to a locked seat: that seat owns what it owned and the caller's lines, and knows of each
-- line the longer list; of the lines that it owned it knows what it knew, and of the caller's lines what the caller
-- knew. The caller's own seat knows what it knew.
pub record Lends (t : Thread) (locked mine locked' mine' : View) : Type 0 where
  pub kept : (i : ℕ) → Owns locked i → Owns locked' i
  pub lines : (i : ℕ) → IsOfCaller t i → Owns mine i → Owns locked' i
  pub either : (i : ℕ) → (known locked' i ≡ known locked i) ⊎ (known locked' i ≡ known mine i)
  pub knew : (i : ℕ) → IsPrefix (known locked i) (known locked' i)
  pub heard : (i : ℕ) → IsPrefix (known mine i) (known locked' i)
  pub whole : (i : ℕ) → Owns locked i → known locked' i ≡ known locked i
  pub own : (i : ℕ) → IsOfCaller t i → Owns mine i → known locked' i ≡ known mine i
  pub same : (i : ℕ) → known mine' i ≡ known mine i
  pub one_history : BeginsOneHistory locked'

-- they were handed back: the locked seat owns its other lines and knows what it knew, and the caller's seat owns its
-- lines and knows all that the locked one does
pub record Returns (t : Thread) (locked mine locked' mine' : View) : Type 0 where
  pub kept : (i : ℕ) → (IsOfCaller t i → ⊥) → Owns locked i → Owns locked' i
  pub lines : (i : ℕ) → IsOfCaller t i → Owns locked i → Owns mine' i
  pub more : (i : ℕ) → Owns mine i → Owns mine' i
  pub stays : (i : ℕ) → known locked' i ≡ known locked i
  pub same : (i : ℕ) → known mine' i ≡ known locked i
