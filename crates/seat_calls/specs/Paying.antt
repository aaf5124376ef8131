-- What is still to be stored after an entry, and what a side says of freed objects.
use Rattle.std.specs.Prelude.{◌≡◌, ◌↔◌, ℕ, ◌<◌, true, false, [], Some}
use Rattle.joint_machine.specs.Control.{caller_place}
use Rattle.order_table.specs.declared.views.KeptEntry.{KeptEntry}
use Rattle.order_table.specs.declared.views.View.{View}
use Rattle.order_table.specs.Rows.{at}
use Rattle.order_table.specs.Stages.{deed, neither}
use Rattle.order_table.specs.Owed.{deed_of_pin, empty_after, fill_after, frees_target, is_freed, stays, target}
use Rattle.order_table.specs.Views.{known, pin_owed}

-- an entry that frees nothing, opens and ends no cycle, and leaves every pin as it is; it may set a cell
pub record IsPlain (k : KeptEntry) : Type 0 where
  pub frees : k.freed ≡ []
  pub cycles : deed k.entry.made.op ≡ neither
  pub pin : deed_of_pin k ≡ stays

-- after an entry in the list of a role, with its cell's word stored: what the seat holds and owes
pub record IsPaid (v w : View) (r : ℕ) (k : KeptEntry) : Type 0 where
  pub inside : w.inside ≡ v.inside
  pub owes : w.owes ≡ v.owes
  pub holds : w.holds ≡ v.holds
  pub fill : w.fill ≡ fill_after (pin_owed v k.entry.made) (caller_place k.entry.made.caller) v.fill
  pub empty : w.empty ≡ empty_after (pin_owed v k.entry.made) (caller_place k.entry.made.caller) v.empty
  pub others : (r ≡ 0 → ⊥) → w.debts ≡ v.debts
  pub debts : r ≡ 0 → (c : ℕ) → at false w.debts c ≡ true
      → (c < 64) × (frees_target (target (known v 0) c) k.freed ≡ true)

-- of the cells' targets a side has as live just those that its list doesn't free
abbrev pub Agrees : View → (ℕ → Type 0) → Type 0
Agrees v live = (c m : ℕ) → target (known v 0) c ≡ Some m → (live m ↔ (is_freed (known v 0) m ≡ false))

-- the words that are owed are those of cells whose target is freed
abbrev pub OwesFreed : View → Type 0
OwesFreed v = (c : ℕ) → at false v.debts c ≡ true → (c < 64)
    × ((m : ℕ) × (target (known v 0) c ≡ Some m) × (is_freed (known v 0) m ≡ true))

-- all is as before but the words that are owed, and what was found, loaded and scanned
pub record StillAs (v w : View) : Type 0 where
  pub owns : w.owns ≡ v.owns
  pub known : w.known ≡ v.known
  pub inside : w.inside ≡ v.inside
  pub owes : w.owes ≡ v.owes
  pub holds : w.holds ≡ v.holds
  pub fill : w.fill ≡ v.fill
  pub empty : w.empty ≡ v.empty
