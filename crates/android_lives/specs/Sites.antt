-- What a line behind a mark, or the end of the mark's own line, tells of its place: a name of the site of the life that
-- it made, or that the bridge weakened or restored it.
use Rattle.std.specs.Prelude.{ℕ, ◌==◌, ◌&&◌, ◌||◌, not, Bool, true, false, nat_eq, List, Option, Some, None, length, drop, slice_get}
use Rattle.std.specs.List.{prefix_len, starts_with}
use Rattle.android_log.specs.declared.marks.Kind.{Kind}
use Rattle.android_log.specs.declared.marks.Kind.TheVariants.{StrongComes, StrongGoes, WeakComes}
use Rattle.android_log.specs.Format.{frame_word, restores_word, thread_word, weakens_word}
use Rattle.android_log.specs.Parts.{after, has_word, is_space}
use Rattle.android_lives.specs.declared.threads.Pending.{Pending}
use Rattle.android_lives.specs.Cycles.{restored_by, weakened_by}
use Rattle.android_lives.specs.Lives.{Lived, changed, with_site}
use Rattle.android_lives.specs.Logs.{Logged, seen_in}
use Rattle.android_lives.specs.Threads.{with_mark_at}

-- the site of a life that the mark made
abbrev pub sited : Bool → ℕ → List ℕ → Option (List ℕ) → Logged → Logged
sited true i line frame log = record log { lives = changed (λ l. with_site log.most l line frame) i log.lives }
sited false i line frame log = log

-- how many cycles had begun when a life was made
abbrev pub begun_of : Option Lived → ℕ
begun_of None = 0
begun_of (Some l) = l.begun

-- the bridge weakened the mark's life
abbrev pub weakened_life : ℕ → Logged → Logged
weakened_life i log = record log { lives = changed (λ l. record l { weakened = length log.turned.cycles }) i log.lives }

abbrev pub weakened_at : Pending → Logged → Logged
weakened_at p log = weakened_life p.life (record log { turned = weakened_by (seen_in log p.line) (begun_of (slice_get log.lives p.life)) log.turned })

-- it restored it, to a strong reference that is kept or to nothing
abbrev pub restored_at : Bool → Pending → Logged → Logged
restored_at kept p log = record log { turned = restored_by (seen_in log p.line) kept log.turned }

-- whether the line tells the bridge's place of a mark of that kind
abbrev pub tells_restore : Logged → List ℕ → Bool
tells_restore log line = not (length log.turned.cycles == 0) && has_word restores_word line

abbrev pub tells_turn : Kind → Logged → List ℕ → Bool
tells_turn WeakComes log line = has_word weakens_word line
tells_turn StrongGoes log line = false
tells_turn _ log line = tells_restore log line

abbrev pub turned_in : Kind → Pending → Logged → Logged
turned_in WeakComes p log = weakened_at p log
turned_in StrongComes p log = restored_at true p log
turned_in _ p log = restored_at false p log

abbrev pub turned_if : Bool → Pending → Logged → Logged
turned_if true p log = turned_in p.kind p log
turned_if false p log = log

-- a place of the bridge counts once for a mark
abbrev pub turns : Pending → Logged → List ℕ → Bool
turns p log line = not p.told && tells_turn p.kind log line

abbrev pub told_mark : Bool → Pending → Pending
told_mark turned p = record p { takes_note = false; told = p.told || turned }

abbrev pub with_told : ℕ → Bool → Pending → Logged → Logged
with_told i turned p log = record (turned_if turned p log) { threads = with_mark_at (turned_if turned p log).threads i (told_mark turned p) }

abbrev pub told_at : ℕ → Pending → List ℕ → Logged → Logged
told_at i p line log = with_told i (turns p log line) p log

-- a line of the place of the mark that is kept there
abbrev pub with_place : ℕ → Pending → List ℕ → Option (List ℕ) → Logged → Logged
with_place i p line frame log = told_at i p line (sited p.new p.life line frame log)

-- the end of a mark's own line is a line of its place, unless it is empty or names the thread; it may be a frame
abbrev pub has_rest : List ℕ → Bool
has_rest rest = not (length rest == 0) && not (starts_with nat_eq rest thread_word)

abbrev pub rest_frame : List ℕ → Option (List ℕ)
rest_frame rest = after frame_word (drop (prefix_len is_space rest) rest)
