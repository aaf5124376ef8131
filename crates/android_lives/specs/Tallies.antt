-- Counts of references. A count is whole, and may be below 0 where lines are missing: it is kept as a difference.
use Rattle.std.specs.Prelude.{ℕ, ◌+◌, ◌^◌, min, Bool, nat_eq, nat_lt}
use Rattle.android_log.specs.declared.marks.Kind.{Kind}
use Rattle.android_log.specs.declared.marks.Kind.TheVariants.{StrongComes, StrongGoes, WeakComes, WeakGoes}
use Rattle.android_lives.specs.declared.tallies.Change.{Change}
use Rattle.android_lives.specs.declared.tallies.Change.TheVariants.{Comes, Goes, Stays}
use Rattle.android_lives.specs.declared.tallies.Whole.{Whole}

-- a count of lines after one more; it stays at 2 ^ 62, which is more lines than a log can have
unfoldable pub counted : ℕ → ℕ
counted n = min (n + 1) (2 ^ 62)

-- what a mark does to the strong references, and to the weak ones
abbrev pub strong_change : Kind → Change
strong_change StrongComes = Comes
strong_change StrongGoes = Goes
strong_change WeakComes = Stays
strong_change WeakGoes = Stays

abbrev pub weak_change : Kind → Change
weak_change StrongComes = Stays
weak_change StrongGoes = Stays
weak_change WeakComes = Comes
weak_change WeakGoes = Goes

-- the counts of one strength: what the last mark tells; how many stood before the log, which is `up` less `down`; how
-- many came and went by the lines; and how many of those before the log went
pub record Told : Type 0 where
  pub told : ℕ
  pub up : ℕ
  pub down : ℕ
  pub gained : ℕ
  pub lost : ℕ
  pub older : ℕ

-- before the first mark
abbrev pub untold : Told
untold = record { told = 0; up = 0; down = 0; gained = 0; lost = 0; older = 0 }

-- at the first mark: before it stood what it tells, less its change
abbrev pub opened : ℕ → Change → Told
opened n Comes = record { told = n; up = n; down = 1; gained = 0; lost = 0; older = 0 }
opened n Goes = record { told = n; up = n + 1; down = 0; gained = 0; lost = 0; older = 0 }
opened n Stays = record { told = n; up = n; down = 0; gained = 0; lost = 0; older = 0 }

-- a mark's change, and what it tells
abbrev pub moved : Change → Told → Told
moved Comes t = record t { gained = counted t.gained }
moved Goes t = record t { lost = counted t.lost }
moved Stays t = t

abbrev pub tells : ℕ → Change → Told → Told
tells n c t = record (moved c t) { told = n }

-- the count by the lines, and what stood before the log
abbrev pub by_lines : Told → Whole
by_lines t = record { up = t.up + t.gained; down = t.down + t.lost }

abbrev pub before : Told → Whole
before t = record { up = t.up; down = t.down }

-- what stood before the log and didn't go
abbrev pub before_left : Told → Whole
before_left t = record { up = t.up; down = t.down + t.older }

-- what the last mark tells, less the count by the lines
abbrev pub off : Told → Whole
off t = record { up = t.told + t.down + t.lost; down = t.up + t.gained }

-- the last mark tells what the lines count
abbrev pub agrees : Told → Bool
agrees t = nat_eq (t.told + t.down + t.lost) (t.up + t.gained)

-- not all went that stood before the log
abbrev pub has_older : Told → Bool
has_older t = nat_lt (t.down + t.older) t.up

abbrev pub without_older : Told → Told
without_older t = record t { older = counted t.older }
