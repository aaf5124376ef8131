-- What a log's lines left behind: the state of the fold over them.
use Rattle.std.specs.Prelude.{ℕ, ◌==◌, Bool, true, false, if◌then◌else◌, List, [], ◌∷◌, ◌++◌, Option, Some, None, length}
use Rattle.android_lives.specs.declared.logs.Counts.{Counts}
use Rattle.android_lives.specs.declared.logs.Differ.{Differ}
use Rattle.android_lives.specs.declared.logs.Fault.{Fault}
use Rattle.android_lives.specs.declared.logs.Form.{Form}
use Rattle.android_lives.specs.declared.logs.Form.TheVariants.{Unknown}
use Rattle.android_lives.specs.declared.cycles.Seen.{Seen}
use Rattle.android_lives.specs.Cycles.{Turned, none_turned}
use Rattle.android_lives.specs.Holding.{Held, none_held}
use Rattle.android_lives.specs.Lives.{Lived}
use Rattle.android_lives.specs.Tallies.{off}
use Rattle.android_lives.specs.Threads.{Threaded, none_threaded}

-- counts of lines; whether the counts of marks differ; the references of either strength; all lives, each at the place
-- where it began; the faults; the cycles; the last mark of each thread; how the lines are written, whose process is
-- read, and whether it was asked for; and how many names a site has at most
pub record Logged : Type 0 where
  pub counts : Counts
  pub differ : Differ
  pub strong : Held
  pub weak : Held
  pub lives : List Lived
  pub faults : List Fault
  pub turned : Turned
  pub threads : Threaded
  pub form : Form
  pub named : Bool
  pub process : List ℕ
  pub most : ℕ

-- before the first line: of a process that is asked for, or of the one that the first mark is of
abbrev pub no_counts : Counts
no_counts = record { lines = 0; marks = 0; types = 0; frames = 0; notes = 0; skipped = 0; odd = 0; first_odd = 0 }

abbrev pub is_asked : Option (List ℕ) → Bool
is_asked None = false
is_asked (Some p) = true

abbrev pub asked_process : Option (List ℕ) → List ℕ
asked_process None = []
asked_process (Some p) = p

abbrev pub opening : Option (List ℕ) → ℕ → Logged
opening asked most = record {
  counts = no_counts;
  differ = record { started = false; count = 0; first = None };
  strong = none_held;
  weak = none_held;
  lives = [];
  faults = [];
  turned = none_turned;
  threads = none_threaded;
  form = Unknown;
  named = is_asked asked;
  process = asked_process asked;
  most = most;
}

-- what a place tells of the state
abbrev pub seen_in : Logged → ℕ → Seen
seen_in log line = record { line = line; held = length log.strong.live; off_strong = off log.strong.tally; off_weak = off log.weak.tally }

-- a fault, where there is one
abbrev pub with_fault : Bool → Fault → Logged → Logged
with_fault true f log = record log { faults = log.faults ++ f ∷ [] }
with_fault false f log = log

-- the cycle that is asked, which is the last one where 0 is asked for
abbrev pub judging : ℕ → Logged → ℕ
judging cycle log = if cycle == 0 then length log.turned.cycles else cycle
