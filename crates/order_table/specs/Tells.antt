-- What each step tells its caller, and what the calls promise.
use Rattle.std.specs.Prelude.{◌≡◌, ◌^◌, ◌⊎◌, ℕ, ◌+◌, ◌-◌, ◌/◌, ◌<◌, ◌≤◌, ◌==◌, if◌then◌else◌, true, false, List, []}
use Rattle.std.specs.Prelude.{◌∷◌}
use Rattle.std.specs.Prelude.{◌++◌, Option}
use mathlib.Core.List.{IsPrefix}
use Rattle.atomic_table.specs.Table.{Step, Me}
use Rattle.joint_machine.specs.declared.names.MNum.{MNum}
use Rattle.joint_machine.specs.declared.names.Thread.{Thread}
use Rattle.joint_machine.specs.declared.names.Thread.TheVariants.{M}
use Rattle.joint_machine.specs.declared.events.Made.{Made}
use Rattle.order_table.specs.declared.views.Role.{Role}
use Rattle.order_table.specs.declared.views.KeptEntry.{KeptEntry}
use Rattle.order_table.specs.declared.views.View.{View}
use Rattle.joint_machine.specs.HistoryLines.{caller_line}
use Rattle.order_table.specs.Rows.{at}
use Rattle.order_table.specs.Stages.{IsClosed}
use Rattle.order_table.specs.Owed.{pin}
use Rattle.order_table.specs.Views.{role_line, kept, known, Owns, appended, learned, storing_pin, scanning, loading}
use Rattle.order_table.specs.Views.{storing, IsEnded, entered}
use Rattle.order_table.specs.Allowed.{NoDebt}
use Rattle.order_table.specs.Rule.{Item, RunsFrom, of_line, IsBelow, IsHeld, Stands, SetsCell, CellIs}

-- what is known are beginnings of the lines of one history, whose entries have the numbers from 0 on
pub record BeginsOneHistory (w : View) : Type 0 where
  pub whole : List Item
  pub numbers : RunsFrom 0 whole
  pub begins : (i : ℕ) → IsPrefix (known w i) (of_line i whole)

-- the entry has the number found, which is greater than all that the seat knew and which no other entry of the one
-- history has
abbrev pub Appended : ℕ → Made → Option MNum → List MNum
    → Step (Unit {0}) → Me (Unit {0}) View → ℕ → Me (Unit {0}) View → Type 0
Appended role made target freed st m n m' = (m'.1 ≡ m.1) × (m'.0 ≡ appended m.0 role (kept m.0 made target freed n))
    × ((i : ℕ) → IsBelow n (known m.0 i)) × BeginsOneHistory m'.0

-- an entry more in the line of its role and in that of its caller; all else is known as before, and owned as before
pub record GrowsByEntry (v w : View) (r : ℕ) (k : KeptEntry) : Type 0 where
  pub role : known w r ≡ known v r ++ k ∷ []
  pub caller : known w (caller_line k.entry.made.caller) ≡ known v (caller_line k.entry.made.caller) ++ k ∷ []
  pub others : (i : ℕ) → (i ≡ r → ⊥) → (i ≡ caller_line k.entry.made.caller → ⊥) → known w i ≡ known v i
  pub owns : w.owns ≡ v.owns

-- of what the seat knew and what it heard the one begins the other; who owned a line knew it whole
pub record Compares (v w : View) : Type 0 where
  pub is : w ≡ learned v
  pub knew : (i : ℕ) → IsPrefix (known v i) (known w i)
  pub heard : (i : ℕ) → IsPrefix (at [] v.heard i) (known w i)
  pub owned : (i : ℕ) → Owns v i → known w i ≡ known v i
  pub taken : (i : ℕ) → at false v.heard_owns i ≡ true → known w i ≡ at [] v.heard i

abbrev pub Compared : Step (Unit {0}) → Me (Unit {0}) View → ℕ → Me (Unit {0}) View → Type 0
Compared st m n m' = (m'.1 ≡ m.1) × Compares m.0 m'.0 × BeginsOneHistory m'.0

-- all is as before but what was loaded and scanned
pub record StaysAs (v w : View) : Type 0 where
  pub owns : w.owns ≡ v.owns
  pub known : w.known ≡ v.known
  pub inside : w.inside ≡ v.inside
  pub owes : w.owes ≡ v.owes
  pub found : w.found ≡ v.found
  pub holds : w.holds ≡ v.holds
  pub debts : w.debts ≡ v.debts
  pub fill : w.fill ≡ v.fill
  pub empty : w.empty ≡ v.empty

-- which lines a seat gives away: a role's; a caller's, and for a managed thread that of its reader; none
abbrev pub IsOfRole : Role → ℕ → Type 0
IsOfRole r i = i ≡ role_line r

abbrev pub IsOfCaller : Thread → ℕ → Type 0
IsOfCaller (M n) i = (i ≡ caller_line (M n)) ⊎ (i ≡ 1 + n)
IsOfCaller t i = i ≡ caller_line t

abbrev pub IsOfNone : ℕ → Type 0
IsOfNone i = ⊥

-- a seat gave another one the lines of this kind that it owned, and kept the others; both know what it knew
pub record Parts (Goes : ℕ → Type 0) (old left right : View) : Type 0 where
  pub went : (i : ℕ) → Goes i → Owns old i → Owns right i
  pub gone : (i : ℕ) → Goes i → Owns left i → ⊥
  pub stayed : (i : ℕ) → (Goes i → ⊥) → Owns old i → Owns left i
  pub only : (i : ℕ) → (Goes i → ⊥) → Owns right i → ⊥
  pub had : (i : ℕ) → (Owns left i → Owns old i) × (Owns right i → Owns old i)
  pub know : (i : ℕ) → (known left i ≡ known old i) × (known right i ≡ known old i)

-- a seat took another one in: it owns what both owned, and knows of each line the longer list, which both begin; and of
-- a line that one of them owned just what that one knew
pub record TakesIn (old other new : View) : Type 0 where
  pub owns : (i : ℕ) → (Owns old i ⊎ Owns other i → Owns new i) × (Owns new i → Owns old i ⊎ Owns other i)
  pub either : (i : ℕ) → (known new i ≡ known old i) ⊎ (known new i ≡ known other i)
  pub knew : (i : ℕ) → IsPrefix (known old i) (known new i)
  pub heard : (i : ℕ) → IsPrefix (known other i) (known new i)
  pub owned : (i : ℕ) → Owns old i → known new i ≡ known old i
  pub taken : (i : ℕ) → Owns other i → known new i ≡ known other i

-- the seat is inside, or found the gate held for a cycle that it doesn't know as ended; the owner of the managed list
-- finds what it says itself
abbrev pub Entered : Step (Unit {0}) → Me (Unit {0}) View → ℕ → Me (Unit {0}) View → Type 0
Entered st m n m' = (m'.1 ≡ m.1) × (m'.0 ≡ entered st.first n m.0) × (0 < n / 512 → ¬ IsEnded m.0 (n / 512))
    × (Owns m.0 0 → (n / 512 ≡ m.0.holds) × (n / 512 ≡ 0 → IsClosed (known m.0 0))) × (n / 512 < 2 ^ 32)

abbrev pub GaveBack : Step (Unit {0}) → Me (Unit {0}) View → ℕ → Me (Unit {0}) View → Type 0
GaveBack st m n m' = (m'.1 ≡ m.1) × (m'.0 ≡ record m.0 { owes = 0 })

abbrev pub Left : Step (Unit {0}) → Me (Unit {0}) View → ℕ → Me (Unit {0}) View → Type 0
Left st m n m' = (m'.1 ≡ m.1) × (m'.0 ≡ record m.0 { inside = 0 })

-- the gate is held for the cycle where the word was 0; else the word has readers' bits alone, and nothing changed
abbrev pub Closed : ℕ → Step (Unit {0}) → Me (Unit {0}) View → ℕ → Me (Unit {0}) View → Type 0
Closed cycle st m n m' = (m'.1 ≡ m.1)
    × (m'.0 ≡ (if n == 0 then record m.0 { holds = cycle; scanned = [] } else m.0)) × (n < 512)

abbrev pub Opened : Step (Unit {0}) → Me (Unit {0}) View → ℕ → Me (Unit {0}) View → Type 0
Opened st m n m' = (m'.1 ≡ m.1) × (m'.0 ≡ record m.0 { holds = 0 })

-- what a loaded word tells: the owner, that it is what its managed list says, or what it was before where it is still
-- to be stored; anybody who owes nothing, that it isn't 0 where it knows the cell as set
abbrev pub LoadedCell : Step (Unit {0}) → Me (Unit {0}) View → ℕ → Me (Unit {0}) View → Type 0
LoadedCell st m n m' = (m'.1 ≡ m.1) × (m'.0 ≡ loading (st.word - 2) n m.0)
    × (Owns m.0 0 → CellIs (known m.0 0) m.0.holds (at false m.0.debts (st.word - 2)) (st.word - 2) n)
    × (NoDebt m.0 → n ≡ 0 → (y : KeptEntry) → Stands (known m.0 0) y → SetsCell y (st.word - 2) → ⊥) × (n ≤ 2 ^ 32)

abbrev pub StoredCell : Step (Unit {0}) → Me (Unit {0}) View → ℕ → Me (Unit {0}) View → Type 0
StoredCell st m n m' = (m'.1 ≡ m.1) × (m'.0 ≡ storing (st.word - 2) m.0)

-- who owes nothing finds of its own pin what its own entries leave; the owner of the managed list, that the object has
-- been held
abbrev pub LoadedPin : Step (Unit {0}) → Me (Unit {0}) View → ℕ → Me (Unit {0}) View → Type 0
LoadedPin st m n m' = (m'.1 ≡ m.1) × (m'.0 ≡ scanning (st.word - 65) n m.0)
    × ((r : ℕ) → st.word ≡ 65 + r → 0 < r → r < 9 → Owns m.0 (r + 10)
    → m.0.fill ≡ 0 → m.0.empty ≡ 0 → n ≡ pin (known m.0 (r + 10)))
    × ((r o : ℕ) → st.word ≡ 65 + r → 0 < r → r < 9 → Owns m.0 0 → m.0.empty ≡ 0 → n ≡ o + 1 → IsHeld (known m.0 0) r o)
    × ((r : ℕ) → st.word ≡ 65 + r → 0 < r → r < 9 → Owns m.0 0 ⊎ Owns m.0 (r + 10) → m.0.empty ≡ 0 → n ≤ 2 ^ 32)

abbrev pub StoredPin : Step (Unit {0}) → Me (Unit {0}) View → ℕ → Me (Unit {0}) View → Type 0
StoredPin st m n m' = (m'.1 ≡ m.1) × (m'.0 ≡ storing_pin (st.word - 65) m.0)
