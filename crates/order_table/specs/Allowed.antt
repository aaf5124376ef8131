-- Which entries a seat may make, and when it may be cut or joined.
use Rattle.std.specs.Prelude.{◌≡◌, ◌⊎◌, ℕ, ◌+◌, ◌-◌, ◌^◌, ◌<◌, ◌≤◌, true, false, [], Option, Some, None}
use Rattle.joint_machine.specs.declared.names.MNum.{MNum}
use Rattle.joint_machine.specs.declared.events.Made.{Made}
use Rattle.joint_machine.specs.declared.events.Reply.{Reply}
use Rattle.joint_machine.specs.declared.events.Reply.TheVariants as says
use Rattle.order_table.specs.declared.views.KeptEntry.{KeptEntry}
use Rattle.order_table.specs.declared.views.View.{View}
use Rattle.joint_machine.specs.HistoryLines.{caller_line}
use Rattle.order_table.specs.Rows.{at}
use Rattle.order_table.specs.Stages.{IsClosed, Deed, opens, ends, neither, deed}
use Rattle.order_table.specs.Owed.{IsNumber, fills, mark, marked, target, target_told, is_freed, read_of, word_of}
use Rattle.order_table.specs.Owed.{IsLoaded, all_scanned, stays, deed_of_pin, pin}
use Rattle.order_table.specs.Views.{known, pin_owed, IsOpen, IsNext}

-- no cell's word is owed, or none but that of one cell
abbrev pub NoDebt : View → Type 0
NoDebt v = (c : ℕ) → at false v.debts c ≡ false

abbrev pub OwesOnly : View → ℕ → Type 0
OwesOnly v c = (k : ℕ) → (k ≡ c → ⊥) → at false v.debts k ≡ false

-- no store is owed, to a cell or to a pin
abbrev pub OwesNone : View → Type 0
OwesNone v = NoDebt v × (v.fill ≡ 0) × (v.empty ≡ 0)

-- the gate is held exactly while the managed list has an open cycle, and for that one
abbrev pub HoldsOpen : View → Type 0
HoldsOpen v = ((v.holds ≡ 0) × IsClosed (known v 0)) ⊎ ((0 < v.holds) × IsOpen v v.holds)

-- the seat is outside the gate and owes nothing; if it owns the managed list, it holds the gate just while a cycle is
-- open
pub record Settled (v : View) : Type 0 where
  pub outside : v.inside ≡ 0
  pub clear : v.owes ≡ 0
  pub paid : NoDebt v
  pub stored : (v.fill ≡ 0) × (v.empty ≡ 0)
  pub gate : at false v.owns 0 ≡ true → HoldsOpen v

-- a seat that owns the managed list may make an entry that does this; one that opens a cycle only with all eight pins
-- scanned
abbrev pub MayDo : View → Deed → Type 0
MayDo v (opens k) = IsNext v k × (v.holds ≡ k) × (all_scanned 8 v.scanned ≡ true)
MayDo v (ends k) = IsOpen v k
MayDo v neither = (v.holds ≡ 0) ⊎ IsOpen v v.holds

-- it may set a cell that isn't set, to an object that isn't freed
abbrev pub MaySet : View → Option (ℕ × ℕ) → Type 0
MaySet v p = (c m : ℕ) → p ≡ Some (c, m) → (c < 64) × IsNumber m
    × (target (known v 0) c ≡ None) × (is_freed (known v 0) m ≡ false)

-- the reply says that the cycle is pending
abbrev pub SaysPending : Reply → ℕ → Type 0
SaysPending r k = r ≡ says.Pending record { 0 = k }

-- a filled pin is what a reader's reply says, and nothing else; an empty one isn't
abbrev pub MayPinned : View → Made → Type 0
MayPinned v m = ((o : ℕ) → m.reply ≡ says.Pinned record { 0 = o } → pin (known v (caller_line m.caller)) ≡ o + 1)
    × (((o : ℕ) → m.reply ≡ says.Pinned record { 0 = o } → ⊥) → pin (known v (caller_line m.caller)) ≡ 0)

-- a reader's reply is by a word that it loaded inside
abbrev pub MayRead : View → Made → Type 0
MayRead v m = (c w : ℕ) → read_of m.op ≡ Some c → word_of m.reply ≡ Some w → (0 < v.inside) × IsLoaded v.loads c w

-- what the list of a role asks of an entry, beside that it stands there: of a peer's nothing; of a managed one that the
-- seat owes no store, and what it does to the cycles and to a cell; of a reader's that the seat owes no store, and its
-- reply: a pending cycle was found held since the last entry; who gives an object is inside with that reader's own bit
pub record MayMake (v : View) (r : ℕ) (m : Made) (aim : Option MNum) : Type 0 where
  pub paid : (r ≡ 1 → ⊥) → OwesNone v
  pub cycles : r ≡ 0 → MayDo v (deed m.op)
  pub cells : r ≡ 0 → MaySet v (mark m.op (target_told m.caller m.op aim))
  pub pending : 2 ≤ r → (k : ℕ) → SaysPending m.reply k → (0 < k) × (v.found ≡ k)
  pub reads : 2 ≤ r → MayRead v m
  pub pinned : 2 ≤ r → MayPinned v m
  pub inside : 2 ≤ r → (w : ℕ) → pin_owed v m ≡ fills w → v.inside ≡ 2 ^ (r - 1)

-- an entry that leaves nothing to be done: it sets no cell, frees nothing, opens and ends no cycle, and leaves every
-- pin as it is
pub record IsQuiet (k : KeptEntry) : Type 0 where
  pub marks : marked k ≡ None
  pub frees : k.freed ≡ []
  pub cycles : deed k.entry.made.op ≡ neither
  pub pin : deed_of_pin k ≡ stays
