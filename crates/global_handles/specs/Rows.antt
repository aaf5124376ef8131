-- What contracts see of a handle table: its rows in rising number, how many handles were made, the greatest number
-- given, and the room for more.
use Rattle.std.specs.Prelude.{◌≡◌, ◌==◌, ◌<◌, ◌≤◌, ℕ, Bool, true, false, List, [], ◌∷◌, ◌++◌, Option, None, Some, map}
use Rattle.std.specs.Prelude.{filter, not, if◌then◌else◌}
use Rattle.std.specs.Option.{option_map, option_and_then}
use Rattle.joint_machine.specs.declared.names.HNum.{HNum}
use Rattle.joint_machine.specs.declared.names.PNum.{PNum}
use Rattle.global_handles.specs.declared.Back.{Back}
use Rattle.global_handles.specs.declared.Back.TheVariants.{Alive, Cleared}
use Rattle.global_handles.specs.declared.Hold.{Hold}
use Rattle.global_handles.specs.declared.Hold.TheVariants.{Held}
use Rattle.global_handles.specs.declared.Strength.{Strength}
use Rattle.global_handles.specs.declared.Strength.TheVariants.{Strong, Weak}
use Rattle.global_handles.specs.declared.HandleRow.{HandleRow}
use Rattle.global_handles.specs.declared.NotLive.{NotLive}

-- the rows in rising number, how many handles make made, the greatest number given, for how many more made there is
-- room, and how many names of removed rows a pass over the rows would meet
pub record Table : Type 0 where
  pub rows : List HandleRow
  pub made : ℕ
  pub last : ℕ
  pub room : ℕ
  pub holes : ℕ

-- the row of a number, or None where no row has it
abbrev pub row_in : List HandleRow → HNum → Option HandleRow
row_in [] h = None
row_in (r ∷ rs) h = if h.0 == r.number.0 then Some r else row_in rs h

-- the peer that a handle leads to: None where no row has the number, and where the row is cleared
abbrev pub target_in : List HandleRow → HNum → Option PNum
target_in rows h = option_and_then (λ r. if r.cleared then None else Some r.peer) (row_in rows h)

-- whether the row of a number is strong or weak, or None where no row has the number
abbrev pub strength_in : List HandleRow → HNum → Option Strength
strength_in rows h = option_map (λ r. r.strength) (row_in rows h)

-- the peer that the row of a number names, or None where no row has the number
abbrev pub peer_in : List HandleRow → HNum → Option PNum
peer_in rows h = option_map (λ r. r.peer) (row_in rows h)

-- whether the row of a number is cleared, or None where no row has the number
abbrev pub cleared_in : List HandleRow → HNum → Option Bool
cleared_in rows h = option_map (λ r. r.cleared) (row_in rows h)

-- whether the peer of a restored row is there
abbrev pub is_alive : Back → Bool
is_alive (Alive h) = true
is_alive Cleared = false

-- what a restore answers by the handle that it gave
abbrev pub back_of : Option HNum → Back
back_of (Some h) = Alive h
back_of None = Cleared

-- the row of a handle that was just made: it isn't cleared
abbrev pub fresh_row : HNum → PNum → Hold → Strength → HandleRow
fresh_row h p hold strength = record { number = h; peer = p; hold = hold; strength = strength; cleared = false }

-- the row with another strength
abbrev pub with_strength : Strength → HandleRow → HandleRow
with_strength strength r = record {
  number = r.number;
  peer = r.peer;
  hold = r.hold;
  strength = strength;
  cleared = r.cleared;
}

-- the row, cleared
abbrev pub cleared_row : HandleRow → HandleRow
cleared_row r = record { number = r.number; peer = r.peer; hold = r.hold; strength = r.strength; cleared = true }

-- the rows, with a change made to the row of one number
abbrev pub changed : (HandleRow → HandleRow) → HNum → List HandleRow → List HandleRow
changed change h rows = map (λ r. if h.0 == r.number.0 then change r else r) rows

-- the rows, with each row of a peer cleared
abbrev pub cleared_for : PNum → List HandleRow → List HandleRow
cleared_for p rows = map (λ r. if p.0 == r.peer.0 then cleared_row r else r) rows

-- the rows but that of one number
abbrev pub without : HNum → List HandleRow → List HandleRow
without h rows = filter (λ r. not (h.0 == r.number.0)) rows

-- the row that a restore gives under a number, where the old one led to a peer
abbrev pub renewed_rows : HNum → Option PNum → List HandleRow
renewed_rows g None = []
renewed_rows g (Some p) = fresh_row g p Held Strong ∷ []

-- the rows, with that of the number h renewed under the number g
abbrev pub renewed : HNum → HNum → List HandleRow → List HandleRow
renewed h g rows = without h rows ++ renewed_rows g (target_in rows h)

-- the row is weak where it names the peer
abbrev pub IsWeakFor : PNum → HandleRow → Type 0
IsWeakFor p r = r.peer ≡ p → r.strength ≡ Weak

-- the numbers of the rows rise; each is above the first number and at most the last
abbrev pub RisesBetween : ℕ → ℕ → List HandleRow → Type 0
RisesBetween low high [] = low ≤ high
RisesBetween low high (r ∷ rs) = (low < r.number.0) × RisesBetween r.number.0 high rs

-- the numbers of the rows rise, from 1 at least up to the greatest given at most
abbrev pub IsRising : Table → Type 0
IsRising t = RisesBetween 0 t.last t.rows

-- the fault of a release whose handle isn't in the table
abbrev pub not_live : HNum → NotLive
not_live h = record { h = h }
