-- What a mark does: its counts are compared, and its reference comes or goes. A reference that comes goes on with the
-- life of what it was made from, where this is a live one of the other strength, and else begins one.
use Rattle.std.specs.Prelude.{ℕ, ◌==◌, ◌&&◌, Bool, true, false, if◌then◌else◌, [], ◌∷◌, ◌++◌, Option, Some, None, length}
use Rattle.android_log.specs.declared.marks.Kind.{Kind}
use Rattle.android_log.specs.declared.marks.Kind.TheVariants.{StrongComes, StrongGoes, WeakComes}
use Rattle.android_log.specs.declared.marks.Mark.{Mark}
use Rattle.android_lives.specs.declared.logs.Differ.{Differ}
use Rattle.android_lives.specs.declared.logs.Difference.{Difference}
use Rattle.android_lives.specs.declared.logs.Fault.{Fault}
use Rattle.android_lives.specs.declared.logs.What.{What}
use Rattle.android_lives.specs.declared.logs.What.TheVariants.{Made, Used, Released}
use Rattle.android_lives.specs.Holding.{goes_wrongly, is_live, is_stale, life_of, with_handle, without_handle}
use Rattle.android_lives.specs.Lives.{born}
use Rattle.android_lives.specs.Logs.{Logged, with_fault}
use Rattle.android_lives.specs.Tallies.{agrees, by_lines, counted, opened, strong_change, tells, weak_change}

-- the counts of either strength, at the first mark and at a later one
abbrev pub told_by : Mark → Bool → Logged → Logged
told_by m false log = record log {
  strong = record log.strong { tally = opened m.grefc (strong_change m.kind) };
  weak = record log.weak { tally = opened m.gwrefc (weak_change m.kind) };
}
told_by m true log = log

abbrev pub moved_by : Mark → Logged → Logged
moved_by m log = record log {
  strong = record log.strong { tally = tells m.grefc (strong_change m.kind) log.strong.tally };
  weak = record log.weak { tally = tells m.gwrefc (weak_change m.kind) log.weak.tally };
}

-- the first difference
abbrev pub first_difference : Option Difference → Difference → Option Difference
first_difference None d = Some d
first_difference (Some e) d = Some e

abbrev pub difference_in : Mark → Logged → Difference
difference_in m log = record { line = log.counts.lines; grefc = m.grefc; gwrefc = m.gwrefc; strong = by_lines log.strong.tally; weak = by_lines log.weak.tally }

abbrev pub differed : Bool → Differ → Difference → Differ
differed true d e = record d { started = true }
differed false d e = record { started = true; count = counted d.count; first = first_difference d.first e }

abbrev pub compared : Mark → Logged → Logged
compared m log = record log { differ = differed (agrees log.strong.tally && agrees log.weak.tally) log.differ (difference_in m log) }

abbrev pub counted_mark : Mark → Logged → Logged
counted_mark m log = compared m (moved_by m (told_by m log.differ.started log))

-- a reference is made from a strong one, `G`, or a weak one, `W`, that a line made and that isn't live any more
abbrev pub is_used_wrongly : Mark → Logged → Bool
is_used_wrongly m log = if m.from_kind == 71 then is_stale log.strong m.from else (if m.from_kind == 87 then is_stale log.weak m.from else false)

abbrev pub fault_at : Logged → What → Bool → ℕ → Fault
fault_at log what strong handle = record { line = log.counts.lines; what = what; strong = strong; handle = handle }

abbrev pub checked_use : Mark → Logged → Logged
checked_use m log = with_fault (is_used_wrongly m log) (fault_at log Used (m.from_kind == 71) m.from) log

-- the life that goes on
abbrev pub life_before : Kind → Mark → Logged → Option ℕ
life_before StrongComes m log = if m.from_kind == 87 then life_of log.weak m.from else None
life_before WeakComes m log = if m.from_kind == 71 then life_of log.strong m.from else None
life_before _ m log = None

-- the reference comes, with a life that goes on or begins
abbrev pub put_strong : Mark → ℕ → Logged → Logged
put_strong m i log = with_fault (is_live log.strong m.handle) (fault_at log Made true m.handle) (record log { strong = with_handle log.strong m.handle i })

abbrev pub put_weak : Mark → ℕ → Logged → Logged
put_weak m i log = with_fault (is_live log.weak m.handle) (fault_at log Made false m.handle) (record log { weak = with_handle log.weak m.handle i })

abbrev pub put_in : Kind → Mark → ℕ → Logged → Logged
put_in StrongComes m i log = put_strong m i log
put_in _ m i log = put_weak m i log

abbrev pub begun_life : Logged → Logged
begun_life log = record log { lives = log.lives ++ born (length log.turned.cycles) ∷ [] }

-- the state, the place of the life, and whether it begins here
pub record Came : Type 0 where
  pub log : Logged
  pub life : ℕ
  pub new : Bool

abbrev pub came_with : Mark → Logged → Option ℕ → Came
came_with m log (Some i) = record { log = put_in m.kind m i log; life = i; new = false }
came_with m log None = record { log = put_in m.kind m (length log.lives) (begun_life log); life = length log.lives; new = true }

abbrev pub came : Mark → Logged → Came
came m log = came_with m (checked_use m log) (life_before m.kind m (checked_use m log))

-- the reference goes
abbrev pub gone_strong : Mark → Logged → Logged
gone_strong m log = with_fault (goes_wrongly log.strong m.handle) (fault_at log Released true m.handle) (record log { strong = without_handle log.strong m.handle })

abbrev pub gone_weak : Mark → Logged → Logged
gone_weak m log = with_fault (goes_wrongly log.weak m.handle) (fault_at log Released false m.handle) (record log { weak = without_handle log.weak m.handle })

abbrev pub gone_in : Kind → Mark → Logged → Logged
gone_in StrongGoes m log = gone_strong m log
gone_in _ m log = gone_weak m log

abbrev pub took : Bool → Mark → Logged → Came
took true m log = came m log
took false m log = record { log = gone_in m.kind m log; life = 0; new = false }
