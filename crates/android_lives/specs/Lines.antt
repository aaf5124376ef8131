-- What each line does: the fold.
use Rattle.std.specs.Prelude.{ℕ, ◌+◌, ◌-◌, ◌==◌, ◌&&◌, ◌||◌, not, Bool, true, false, if◌then◌else◌, nat_eq, List, [], ◌∷◌, ◌++◌, Option, Some, None, length, take, slice_index}
use Rattle.std.specs.Cmp.Lexicographic.{pointwise}
use Rattle.android_log.specs.declared.marks.Mark.{Mark}
use Rattle.android_log.specs.Bodies.{Said, said, mark, frame, javas, odd, note, is_other}
use Rattle.android_log.specs.Marks.{comes}
use Rattle.android_log.specs.Parts.{decimal_of}
use Rattle.android_log.specs.Placed.{Heard, heard_in}
use Rattle.android_lives.specs.declared.logs.Form.{Form}
use Rattle.android_lives.specs.declared.logs.Form.TheVariants.{Unknown, Plain, Tagged}
use Rattle.android_lives.specs.declared.threads.Pending.{Pending}
use Rattle.android_lives.specs.Holding.{life_of}
use Rattle.android_lives.specs.Lives.{changed}
use Rattle.android_lives.specs.Logs.{Logged}
use Rattle.android_lives.specs.Marks.{Came, counted_mark, took}
use Rattle.android_lives.specs.Sites.{has_rest, rest_frame, with_place}
use Rattle.android_lives.specs.Tallies.{counted}
use Rattle.android_lives.specs.Threads.{place_of, mark_in, with_closed, with_mark}

-- a mark is the last of its thread
abbrev pub pending_of : Mark → Came → Pending
pending_of m c = record { kind = m.kind; life = c.life; new = c.new; takes_frames = true; takes_note = true; told = false; line = c.log.counts.lines }

-- what the line of a thread's last mark tells of its place, by what is kept of it
abbrev pub placed_by : Option ℕ → Option Pending → List ℕ → Option (List ℕ) → Logged → Logged
placed_by (Some i) (Some p) line told log = with_place i p line told log
placed_by _ _ line told log = log

abbrev pub placed_behind : ℕ → List ℕ → Option (List ℕ) → Logged → Logged
placed_behind thread line told log = placed_by (place_of log.threads thread) (mark_in log.threads (place_of log.threads thread)) line told log

abbrev pub with_rest : Bool → ℕ → List ℕ → Logged → Logged
with_rest true thread rest log = placed_behind thread rest (rest_frame rest) log
with_rest false thread rest log = log

abbrev pub with_pending : ℕ → Mark → Came → Logged
with_pending thread m c = record c.log { threads = with_mark c.log.threads thread (pending_of m c) }

abbrev pub after_mark : ℕ → Mark → List ℕ → Logged → Logged
after_mark thread m rest log = with_rest (has_rest rest) thread rest (with_pending thread m (took (comes m.kind) m (counted_mark m log)))

-- no line tells the place of the thread's last mark from now on
abbrev pub closed_behind : ℕ → Logged → Logged
closed_behind thread log = record log { threads = with_closed log.threads thread }

-- a frame tells the place of the last mark, where only its places came since
abbrev pub framed_by : Option ℕ → Option Pending → List ℕ → List ℕ → Logged → Logged
framed_by (Some i) (Some p) line text log = if p.takes_frames then with_place i p line (Some text) log else log
framed_by _ _ line text log = log

abbrev pub after_frame : ℕ → List ℕ → List ℕ → Logged → Logged
after_frame thread line text log = framed_by (place_of log.threads thread) (mark_in log.threads (place_of log.threads thread)) line text log

-- a note does where it comes directly behind the mark, and isn't of another kind
abbrev pub noted_by : Option ℕ → Option Pending → ℕ → List ℕ → Logged → Logged
noted_by (Some i) (Some p) thread line log = if p.takes_note && not (is_other line) then with_place i p line None log else closed_behind thread log
noted_by _ _ thread line log = log

abbrev pub after_note : ℕ → List ℕ → Logged → Logged
after_note thread line log = noted_by (place_of log.threads thread) (mark_in log.threads (place_of log.threads thread)) thread line log

-- a type is told of the life of a live strong handle
abbrev pub typed_by : Option ℕ → List ℕ → Logged → Logged
typed_by None name log = log
typed_by (Some i) name log = record log { lives = changed (λ l. record l { kind = Some name }) i log.lives }

-- lines are counted by kind
abbrev pub marks_up : Logged → Logged
marks_up log = record log { counts = record log.counts { marks = counted log.counts.marks } }

abbrev pub frames_up : Logged → Logged
frames_up log = record log { counts = record log.counts { frames = counted log.counts.frames } }

abbrev pub types_up : Logged → Logged
types_up log = record log { counts = record log.counts { types = counted log.counts.types } }

abbrev pub notes_up : Logged → Logged
notes_up log = record log { counts = record log.counts { notes = counted log.counts.notes } }

abbrev pub first_odd : ℕ → ℕ → ℕ
first_odd first line = if first == 0 then line else first

abbrev pub odd_up : Logged → Logged
odd_up log = record log { counts = record log.counts { odd = counted log.counts.odd; first_odd = first_odd log.counts.first_odd log.counts.lines } }

abbrev pub skipped_up : Logged → Logged
skipped_up log = record log { counts = record log.counts { skipped = counted log.counts.skipped } }

abbrev pub lines_up : Logged → Logged
lines_up log = record log { counts = record log.counts { lines = counted log.counts.lines } }

-- what a line of a thread says
abbrev pub after_said : ℕ → Said → List ℕ → Logged → Logged
after_said thread (mark m rest) line log = after_mark thread m rest (marks_up log)
after_said thread (frame text) line log = after_frame thread line text (frames_up log)
after_said thread (javas h name) line log = closed_behind thread (typed_by (life_of log.strong h) name (types_up log))
after_said thread odd line log = closed_behind thread (odd_up log)
after_said thread note line log = after_note thread line (notes_up log)

abbrev pub after_body : ℕ → List ℕ → Logged → Logged
after_body thread line log = after_said thread (said line) line log

-- whether a line is a mark
abbrev pub is_mark : Said → Bool
is_mark (mark m rest) = true
is_mark _ = false

-- the number of a thread is one more than its word, where this is a number below 2 ^ 32, and else 0
abbrev pub thread_of : Option ℕ → ℕ
thread_of None = 0
thread_of (Some n) = n + 1

-- whether two texts are the same
abbrev pub is_same : List ℕ → List ℕ → Bool
is_same a b = pointwise nat_eq a b

-- the first mark that may be read tells how lines are written, and of which process they are
abbrev pub may_start : Heard → Logged → Bool
may_start h log = (not log.named || is_same log.process h.process) && is_mark (said h.body)

abbrev pub started_tagged : Bool → Heard → Logged → Logged
started_tagged true h log = record log { form = Tagged; process = h.process }
started_tagged false h log = log

abbrev pub started_by : Form → Heard → Logged → Logged
started_by Unknown h log = started_tagged (may_start h log) h log
started_by _ h log = log

-- a line with a tag is read where it is of that process, and else skipped
abbrev pub heard_by : Form → Heard → Logged → Logged
heard_by Tagged h log = if is_same log.process h.process then after_body (thread_of (decimal_of h.thread)) h.body log else skipped_up log
heard_by _ h log = skipped_up log

abbrev pub heard_after : Heard → Logged → Logged
heard_after h log = heard_by log.form h log

abbrev pub after_heard : Heard → Logged → Logged
after_heard h log = heard_after h (started_by log.form h log)

-- a line without a tag is read where the first mark has none, which is no mark of a process that is asked for
abbrev pub starts_plain : Form → Logged → List ℕ → Bool
starts_plain Unknown log line = not log.named && is_mark (said line)
starts_plain _ log line = false

abbrev pub after_bare : List ℕ → Logged → Logged
after_bare line log = if starts_plain log.form log line then after_body 0 line (record log { form = Plain }) else skipped_up log

abbrev pub after_tag : Option Heard → List ℕ → Logged → Logged
after_tag None line log = after_bare line log
after_tag (Some h) line log = after_heard h log

abbrev pub by_form : Form → List ℕ → Logged → Logged
by_form Plain line log = after_body 0 line log
by_form _ line log = after_tag (heard_in line) line log

-- a line without its newline: a carriage return at its end goes
abbrev pub without_return : List ℕ → List ℕ
without_return line = if slice_index line (length line - 1) == 13 then take (length line - 1) line else line

-- behind a line, and behind lines one after another
abbrev pub after_line : Logged → List ℕ → Logged
after_line log line = by_form log.form (without_return line) (lines_up log)

abbrev pub after_lines : Logged → List (List ℕ) → Logged
after_lines log [] = log
after_lines log (l ∷ ls) = after_lines (after_line log l) ls

-- the lines of bytes, each without its newline, and what stands behind the last newline; of a line some bytes may have
-- been read before
abbrev pub lines_from : List ℕ → List ℕ → List (List ℕ)
lines_from begun [] = []
lines_from begun (b ∷ bs) = if b == 10 then begun ∷ lines_from [] bs else lines_from (begun ++ b ∷ []) bs

abbrev pub left_from : List ℕ → List ℕ → List ℕ
left_from begun [] = begun
left_from begun (b ∷ bs) = if b == 10 then left_from [] bs else left_from (begun ++ b ∷ []) bs
