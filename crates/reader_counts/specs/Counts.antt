-- Counts of managed entries, and what a read may answer by them.
use Rattle.std.specs.Prelude.{◌≡◌, ℕ, ◌+◌, ◌-◌, ◌≤◌, ◌⊎◌, Bool, false, not, ◌&&◌, if◌then◌else◌, List, [], ◌∷◌, ◌++◌}
use Rattle.std.specs.Prelude.{length, replicate, slice_get, slice_set, slice_index, Option, Some, None}
use Rattle.joint_machine.specs.declared.names.Thread.{Thread}
use Rattle.joint_machine.specs.declared.lines.Act.TheVariants as act
use Rattle.joint_machine.specs.declared.events.Made.{Made}
use Rattle.joint_machine.specs.declared.events.Op.{Op}
use Rattle.joint_machine.specs.declared.events.Op.TheVariants as op
use Rattle.joint_machine.specs.declared.events.Reply.{Reply}
use Rattle.joint_machine.specs.declared.events.Reply.TheVariants as says
use Rattle.joint_machine.specs.Control.{caller_place}
use Rattle.joint_machine.specs.Lines.{is_peer_event, is_read}
use Rattle.reader_counts.specs.declared.counts.CellSet.{CellSet}

-- how many managed entries there are; how many there were at the last entry of the caller with a place, with the
-- setting of each cell, and with the end of each cycle, from the first on
pub record Counts : Type 0 where
  pub managed : ℕ
  pub seen : List ℕ
  pub cells : List (Option CellSet)
  pub ended : List (Option ℕ)

abbrev pub opening_counts : Counts
opening_counts = record { managed = 0; seen = replicate 17 0; cells = replicate 64 None; ended = [] }

-- how many a caller has seen, the setting of a cell, and the end of a cycle
abbrev pub seen_by : Counts → Thread → ℕ
seen_by c t = slice_index c.seen (caller_place t)

abbrev pub set_in : Counts → ℕ → Option CellSet
set_in c k = elim (slice_get c.cells k) [ None ↦ None | Some o ↦ o ]

abbrev pub end_in : Counts → ℕ → Option ℕ
end_in c k = elim (slice_get c.ended (k - 1)) [ None ↦ None | Some o ↦ o ]

-- a caller has seen no more than that, where there is a number
abbrev pub AtMostSeen : Counts → Thread → Option ℕ → Type 0
AtMostSeen c t None = Unit {0}
AtMostSeen c t (Some n) = seen_by c t ≤ n

-- a thread may answer `pending k` where so many cycles were snapped and one is open or none
abbrev pub IsPendingIn : Counts → Thread → ℕ → ℕ → Bool → Type 0
IsPendingIn c t k cycles is_open = ((is_open ≡ false) × (k ≡ cycles + 1))
    ⊎ ((1 ≤ k) × (k ≤ cycles) × AtMostSeen c t (end_in c k))

-- a thread knows nothing of the setting of a cell
abbrev pub IsUnknownBy : Counts → Thread → Option CellSet → Type 0
IsUnknownBy c t None = Unit {0}
IsUnknownBy c t (Some w) = (w.by ≡ t → ⊥) × (seen_by c t ≤ w.count)

abbrev pub IsUnknownIn : Counts → Thread → ℕ → Type 0
IsUnknownIn c t k = IsUnknownBy c t (set_in c k)

-- whether an entry is a managed one
abbrev pub is_managed : Thread → Op → Bool
is_managed t o = not (is_peer_event t o) && not (is_read o)

abbrev pub more_managed : Counts → Thread → Op → ℕ
more_managed c t o = if is_managed t o then c.managed + 1 else c.managed

-- the cells, and the ends, after an event with which there are so many managed entries
abbrev pub cells_after : List (Option CellSet) → ℕ → Thread → Op → Reply → List (Option CellSet)
cells_after cells n t (op.Line (act.Weak k v)) says.Ok = slice_set cells k.0 (Some record { by = t; count = n })
cells_after cells n t _ reply = cells

abbrev pub ended_after : List (Option ℕ) → ℕ → Op → List (Option ℕ)
ended_after ended n (op.Snap k) = ended ++ None ∷ []
ended_after ended n (op.Resolve k) = slice_set ended (k.0 - 1) (Some n)
ended_after ended n (op.Abandon k) = slice_set ended (k.0 - 1) (Some n)
ended_after ended n _ = ended

-- the counts after an entry
abbrev pub counts_after : Counts → Made → Counts
counts_after c m = let n = more_managed c m.caller m.op in record {
  managed = n;
  seen = slice_set c.seen (caller_place m.caller) n;
  cells = cells_after c.cells n m.caller m.op m.reply;
  ended = ended_after c.ended n m.op;
}

-- an end is of a cycle that was snapped
abbrev pub EndsWithin : Counts → Op → Type 0
EndsWithin c (op.Resolve k) = (1 ≤ k.0) × (k.0 ≤ length c.ended)
EndsWithin c (op.Abandon k) = (1 ≤ k.0) × (k.0 ≤ length c.ended)
EndsWithin c _ = Unit {0}

-- the event is no snap
abbrev pub IsNoSnap : Op → Type 0
IsNoSnap (op.Snap k) = ⊥
IsNoSnap _ = Unit {0}
