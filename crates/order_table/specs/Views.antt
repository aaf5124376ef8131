-- What a seat knows. A line is the list of one role's entries or of one caller's: the lines 0 to 9 are those of the
-- roles, and the lines from 10 on those of the callers. A seat that owns a role's line owns the role; one that owns a
-- caller's line holds that caller's pass.
use Rattle.std.specs.Prelude.{◌≡◌, ℕ, ◌+◌, ◌-◌, ◌*◌, ◌/◌, ◌<◌, ◌≤◌, ◌==◌, ◌&&◌, not, nat_lt, if◌then◌else◌, Bool, true}
use Rattle.std.specs.Prelude.{false, List, [], ◌∷◌, ◌++◌, replicate, Option, Some, None}
use Rattle.atomic_table.specs.Seated.{TableId}
use Rattle.joint_machine.specs.declared.names.MNum.{MNum}
use Rattle.joint_machine.specs.declared.names.Thread.{Thread}
use Rattle.joint_machine.specs.declared.names.Thread.TheVariants.{M}
use Rattle.joint_machine.specs.declared.lines.Act.TheVariants as act
use Rattle.joint_machine.specs.declared.events.Op.{Op}
use Rattle.joint_machine.specs.declared.events.Op.TheVariants as op
use Rattle.joint_machine.specs.declared.events.Made.{Made}
use Rattle.joint_machine.specs.declared.events.Reply.{Reply}
use Rattle.joint_machine.specs.declared.events.Reply.TheVariants as says
use Rattle.joint_machine.specs.Control.{caller_place}
use Rattle.joint_machine.specs.Draws.{numbered}
use Rattle.joint_machine.specs.Lines.{is_peer_event, is_read}
use Rattle.order_table.specs.declared.views.Role.{Role}
use Rattle.order_table.specs.declared.views.Role.TheVariants as role
use Rattle.order_table.specs.declared.views.KeptEntry.{KeptEntry}
use Rattle.order_table.specs.declared.views.View.{View}
use Rattle.joint_machine.specs.HistoryLines.{caller_line}
use Rattle.order_table.specs.Rows.{at, put, longest, joined, common, without}
use Rattle.order_table.specs.Stages.{stage}
use Rattle.order_table.specs.Owed.{IsNumber, PinDeed, pin_deed, pin, owing, fill_after, empty_after, owes_after}
use Rattle.order_table.specs.Owed.{by_place, pin_row, target_told, freed_told}

-- which order it is: the name of the table that its word lies in
abbrev pub OrderId : Type 0
OrderId = TableId

-- the name of no order
abbrev pub no_order : OrderId
no_order = record { words = 0; slots = 0; views_name = 0; atom = 0; block = 0; offset = 0; slot_names = [] }

-- what a seat shows: its order, and its view
pub record Shown : Type 0 where
  pub order : OrderId
  pub view : View

-- the line of a role
abbrev pub role_line : Role → ℕ
role_line role.Managed = 0
role_line role.Peer = 1
role_line (role.Reader i) = 1 + i

-- a role that there is: readers are numbered from 1 to 8, so that no two roles have one line
abbrev pub IsRole : Role → Type 0
IsRole role.Managed = Unit {0}
IsRole role.Peer = Unit {0}
IsRole (role.Reader i) = (1 ≤ i) × (i ≤ 8)

-- a reader's reply
abbrev pub IsAnswer : Reply → Type 0
IsAnswer (says.Pending k) = Unit {0}
IsAnswer (says.Pinned m) = Unit {0}
IsAnswer says.Unset = Unit {0}
IsAnswer says.Gone = Unit {0}
IsAnswer (says.M m) = IsNumber m.0
IsAnswer _ = ⊥

-- in whose list an event stands: a read in that of its thread's reader, an event of the peer side in the peer's, and
-- all else in the managed one
pub record IsInRole (r : ℕ) (m : Made) : Type 0 where
  pub one : r < 10
  pub managed : r ≡ 0 → (is_read m.op ≡ false) × (is_peer_event m.caller m.op ≡ false)
  pub peer : r ≡ 1 → (is_read m.op ≡ false) × (is_peer_event m.caller m.op ≡ true)
  pub reader : 2 ≤ r → (is_read m.op ≡ true) × (m.caller ≡ M (r - 1)) × IsAnswer m.reply

-- the entries of a line that a view knows
abbrev pub known : View → ℕ → List KeptEntry
known v i = at [] v.known i

-- whether a view owns a line
abbrev pub Owns : View → ℕ → Type 0
Owns v i = at false v.owns i ≡ true

-- the view owns every role and holds every caller's pass
abbrev pub OwnsAll : View → Type 0
OwnsAll v = (i : ℕ) → i < 27 → Owns v i

-- nothing is left of a seat that was taken in, but what was learned
pub record IsCompared (v : View) : Type 0 where
  pub heard : v.heard ≡ []
  pub owns : v.heard_owns ≡ []
  pub holds : v.heard_holds ≡ 0

-- the words of pins that are kept with an entry: with a snapshot those that the seat scanned, with a `take` that of its
-- caller's pin
abbrev pub pins_kept : View → Thread → Op → List ℕ
pins_kept v t (op.Snap k) = pin_row v.scanned
pins_kept v t (op.Line (act.Take x)) = put 0 [] (caller_place t) (pin (known v (caller_line t)))
pins_kept v t _ = []

-- what is kept of an entry that a seat with this view draws
abbrev pub kept : View → Made → Option MNum → List MNum → ℕ → KeptEntry
kept v m target freed n = record {
  entry = numbered n m;
  target = target_told m.caller m.op target;
  freed = freed_told m.op freed;
  pins = pins_kept v m.caller m.op;
}

-- what an entry leaves to be stored at its caller's pin
abbrev pub pin_owed : View → Made → PinDeed
pin_owed v m = owing (pin (known v (caller_line m.caller))) (pin_deed m.caller m.op m.reply)

-- the view of the first seat: it owns all lines, and they are empty
abbrev pub first_view : View
first_view = record {
  owns = replicate 27 true;
  known = [];
  heard = [];
  heard_owns = [];
  heard_holds = 0;
  inside = 0;
  owes = 0;
  found = 0;
  holds = 0;
  loads = [];
  debts = [];
  fill = 0;
  empty = 0;
  scanned = [];
}

-- the view of a seat that was taken in
abbrev pub spent_view : View
spent_view = record {
  owns = [];
  known = [];
  heard = [];
  heard_owns = [];
  heard_holds = 0;
  inside = 0;
  owes = 0;
  found = 0;
  holds = 0;
  loads = [];
  debts = [];
  fill = 0;
  empty = 0;
  scanned = [];
}

-- an entry more in one line
abbrev pub grown : List (List KeptEntry) → ℕ → KeptEntry → List (List KeptEntry)
grown lines i k = put [] lines i (at [] lines i ++ k ∷ [])

-- a view after its entry in the line of a role and in that of its caller
abbrev pub appended : View → ℕ → KeptEntry → View
appended v r k = record v {
  known = grown (grown v.known r k) (caller_line k.entry.made.caller) k;
  found = 0;
  loads = [];
  scanned = [];
  debts = if r == 0 then by_place 64 (owes_after (known v 0) k) else v.debts;
  fill = fill_after (pin_owed v k.entry.made) (caller_place k.entry.made.caller) v.fill;
  empty = empty_after (pin_owed v k.entry.made) (caller_place k.entry.made.caller) v.empty;
}

-- a view that gave lines away, and the view to which it gave them, which knows the same
abbrev pub giving : List Bool → View → View
giving lines v = record v { owns = without v.owns lines; holds = if at false lines 0 then 0 else v.holds; scanned = [] }

abbrev pub given : List Bool → View → View
given lines v = record v {
  owns = common v.owns lines;
  found = 0;
  holds = if at false lines 0 then v.holds else 0;
  scanned = [];
}

-- a view that took another in, and hasn't yet compared what both know
abbrev pub hearing : View → View → View
hearing v w = record v { heard = w.known; heard_owns = w.owns; heard_holds = w.holds; found = 0; scanned = [] }

-- the same once it has
abbrev pub learned : View → View
learned v = record v {
  owns = joined v.owns v.heard_owns;
  known = longest v.known v.heard;
  holds = if at false v.owns 0 then v.holds else v.heard_holds;
  heard = [];
  heard_owns = [];
  heard_holds = 0;
  found = 0;
  scanned = [];
}

-- the lines that a seat gives away: a role's; those that a caller takes along, its own and for a managed thread that of
-- its reader; none
abbrev pub lines_of_role : Role → List Bool
lines_of_role r = put false [] (role_line r) true

abbrev pub lines_of_caller : Thread → List Bool
lines_of_caller (M i) = put false (put false [] (1 + i) true) (caller_line (M i)) true
lines_of_caller t = put false [] (caller_line t) true

abbrev pub lines_of_none : List Bool
lines_of_none = []

-- the managed list that a view knows shows the cycle as open, as the next one with none open, or as ended
abbrev pub IsOpen : View → ℕ → Type 0
IsOpen v k = stage (known v 0) ≡ 2 * k

abbrev pub IsNext : View → ℕ → Type 0
IsNext v k = stage (known v 0) + 1 ≡ 2 * k

abbrev pub IsEnded : View → ℕ → Type 0
IsEnded v k = 2 * k + 1 ≤ stage (known v 0)

-- no store is owed, as a test
abbrev pub none_owed_in : List Bool → Bool
none_owed_in [] = true
none_owed_in (b ∷ bs) = not b && none_owed_in bs

abbrev pub owes_none : View → Bool
owes_none v = none_owed_in v.debts && ((v.fill == 0) && (v.empty == 0))

-- a view after the step that enters, by the word found: it is inside, or owes its bit and found the gate held
abbrev pub entered : ℕ → ℕ → View → View
entered bit n v = if n / 512 == 0 then record v { inside = bit; loads = [] } else
    record v { owes = bit; found = n / 512 }

-- a view after it loaded a cell: inside, and owing nothing, it keeps the word
abbrev pub loading : ℕ → ℕ → View → View
loading c n v = if nat_lt 0 v.inside && owes_none v then record v { loads = (c, n) ∷ v.loads } else v

-- a view after it stored a cell's word
abbrev pub storing : ℕ → View → View
storing c v = record v { debts = put false v.debts c false }

-- a view after it loaded the pin of a reader: one that holds the gate, and owes nothing, keeps the word
abbrev pub scanning : ℕ → ℕ → View → View
scanning r n v = if nat_lt 0 v.holds && owes_none v then record v { scanned = put None v.scanned r (Some n) } else v

-- a view after it stored the word of a pin
abbrev pub storing_pin : ℕ → View → View
storing_pin r v = record v { fill = if v.fill == r then 0 else v.fill; empty = if v.empty == r then 0 else v.empty }
