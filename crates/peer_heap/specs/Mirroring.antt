-- What a mirrored cycle does to the peer rows: references come to stand and go, handles are made weak, and those on
-- peers that are left are replaced by strong ones. (The Xamarin.Android documentation: a bridge collection adds
-- references between peers, makes the global references weak, collects, and makes global references to those that are
-- left.)
use Rattle.std.specs.Prelude.{◌≡◌, ℕ, ◌+◌, ◌-◌, ◌++◌, ◌∷◌, [], Bool, true, false, List, Option, Some, None, length}
use Rattle.joint_machine.specs.declared.names.HNum.{HNum}
use Rattle.joint_machine.specs.Components.{End, node, temporary}
use Rattle.joint_machine.specs.Heaps.{numbered_set}
use Rattle.joint_machine.specs.Peers.{held, peer_of, strong, weak}
use Rattle.joint_machine.specs.PeerReplay.{TableRow, opening_peer_replay, row_of}
use Rattle.global_handles.specs.declared.Back.{Back}
use Rattle.global_handles.specs.declared.Back.TheVariants.{Alive, Cleared}
use Rattle.row_heap.specs.Rows.{HeapRows}
use Rattle.peer_heap.specs.declared.mirroring.RefEnd.{RefEnd}
use Rattle.peer_heap.specs.declared.mirroring.RefEnd.TheVariants.{Peer, Temp}
use Rattle.peer_heap.specs.Marks.{IsShaded}
use Rattle.peer_heap.specs.Rows.{Rows, with_rows}

-- the row of a handle
abbrev pub row_at : Rows → ℕ → Option TableRow
row_at v h = row_of (with_rows opening_peer_replay v) h

-- the rows of a handle that is strong, and of one that is weak, where the peer isn't freed
abbrev pub strong_row : TableRow
strong_row = record { strength = strong; cleared = false }

abbrev pub weak_row : TableRow
weak_row = record { strength = weak; cleared = false }

-- the handle has this row now
abbrev pub with_row : Rows → ℕ → TableRow → Rows
with_row v h row = record v { table = numbered_set v.table h (Some row) }

-- an end of a reference, as the definition has it
abbrev pub end_of : RefEnd → End
end_of (Peer p) = node p.0
end_of (Temp t) = temporary t

-- these references stand after those that stood, in room that was taken, and no marking that is open follows references
abbrev pub with_stood : Rows → List (End × End) → Rows
with_stood v refs = record v {
  rows = record v.rows { refs = v.rows.refs ++ refs; follows = false; room = v.rows.room - length refs };
}

-- a restored handle was cleared, and left the table
pub record IsRemoved (old : Rows) (h : ℕ) (new : Rows) : Type 0 where
  pub row : TableRow
  pub tabled : row_at old h ≡ Some row
  pub cleared : row.cleared ≡ true
  pub rest : new ≡ record old { table = numbered_set old.table h None; tabled = new.tabled }
  pub fewer : new.tabled + 1 ≡ old.tabled

-- a restored handle left the table, and a held strong one on its peer came in its place, under the next number
pub record IsRenewed (old : Rows) (h : ℕ) (given : HNum) (new : Rows) : Type 0 where
  pub row : TableRow
  pub tabled : row_at old h ≡ Some row
  pub kept : row.cleared ≡ false
  pub peer : ℕ
  pub issued : peer_of old.issued h ≡ Some peer
  pub number : given.0 ≡ length old.issued + 1
  pub rest : new ≡ record old {
    rows = record old.rows { marks = new.rows.marks; links = new.rows.links };
    issued = old.issued ++ record { peer = peer; hold = held; strength = strong } ∷ [];
    table = numbered_set old.table h None ++ Some strong_row ∷ [];
  }

-- what a restore does to the rows before the peer is brought back
abbrev pub RestoresRow : Rows → ℕ → Back → Rows → Type 0
RestoresRow old h Cleared new = IsRemoved old h new
RestoresRow old h (Alive given) new = IsRenewed old h given new × (new.rows ≡ old.rows)

-- what a restore does to the rows: the peer of a new handle is shaded, if a marking is open
abbrev pub RestoresHandle : Bool → Rows → ℕ → ℕ → Back → Rows → ℕ → Type 0
RestoresHandle is_open old before h Cleared new after = IsRemoved old h new × (after ≡ before)
RestoresHandle is_open old before h (Alive given) new after = (r : IsRenewed old h given new)
    × IsShaded is_open (λ k. k ≡ r.peer) old.rows before new.rows after

-- the references go
abbrev pub with_cleared : Rows → HeapRows → Rows
with_cleared v w = record v { rows = record v.rows { refs = []; marks = w.marks; links = w.links } }
