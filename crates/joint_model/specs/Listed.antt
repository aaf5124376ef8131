-- What contracts see of a list with room that is known.
use Rattle.std.specs.Prelude.{ℕ, List, [], ◌∷◌, ◌++◌, Option, Some, None, map}
use Rattle.std.specs.declared.snapshot.Snapshot.{Snapshot}
use Rattle.joint_machine.specs.declared.events.Entry.{Entry}
use Rattle.joint_model.specs.declared.lists.Holding.{Holding}
use Rattle.joint_machine.specs.declared.names.HNum.{HNum}
use Rattle.joint_machine.specs.Told.{Answer, said_alive, said_cleared}

-- entries as they are kept, and for how many more there is room
pub record Shelf : Type 0 where
  pub entries : List Entry
  pub spare : ℕ

-- entries that were let go, of which proofs alone have what was kept of them
abbrev pub passed : List (Snapshot Shelf) → List Entry
passed [] = []
passed (k ∷ ks) = k.value.entries ++ passed ks

-- a list of entries, for how many more there is room, and which of them it holds
pub record Stock : Type 0 where
  pub entries : List Entry
  pub spare : ℕ
  pub holding : Holding

-- the lists of the sides and readers, as lists of entries
abbrev pub entry_lists : List Stock → List (List Entry)
entry_lists stocks = map (λ s. s.entries) stocks

-- the answers of a cycle's candidates, and for how many more there is room
pub record Answers : Type 0 where
  pub values : List (Option HNum)
  pub room : ℕ

-- what a value shows of a candidate's restore: that it answered alive, with this new handle, or cleared
abbrev pub answer_of : Option HNum → Answer
answer_of (Some h) = said_alive h.0
answer_of None = said_cleared

-- the answers that the values show
abbrev pub answers_of : List (Option HNum) → List Answer
answers_of backs = map answer_of backs
