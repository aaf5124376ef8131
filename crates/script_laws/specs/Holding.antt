-- Which lines of a script a history holds: the events of each line, each once, one line after another, and at the end
-- the phases that the driver's lines have left open.
-- Believed: the clauses of the program's top call rest on all that stands here.
use Rattle.std.specs.Prelude.{◌≡◌, ℕ, ◌+◌, List, [], ◌∷◌, ◌++◌, filter, Option, Some, None}
use Rattle.std.specs.Prelude.{unwrap_or}
use Rattle.joint_machine.specs.declared.names.Thread.{Thread}
use Rattle.joint_machine.specs.declared.names.Thread.TheVariants.{C}
use Rattle.joint_machine.specs.declared.names.Phase.{Phase}
use Rattle.joint_machine.specs.declared.names.Phase.TheVariants as at
use Rattle.joint_machine.specs.declared.names.PhaseWord.{PhaseWord}
use Rattle.joint_machine.specs.declared.lines.Act.{Act}
use Rattle.joint_machine.specs.declared.lines.Act.TheVariants as act
use Rattle.joint_machine.specs.declared.events.Op.{Op}
use Rattle.joint_machine.specs.declared.events.Op.TheVariants as op
use Rattle.joint_machine.specs.declared.events.Reply.{Reply}
use Rattle.joint_machine.specs.declared.events.Reply.TheVariants as says
use Rattle.joint_machine.specs.declared.events.Entry.{Entry}
use Rattle.joint_machine.specs.Lines.{IsLine}
use Rattle.joint_machine.specs.PeerReplay.{is_thread}
use Rattle.joint_machine.specs.Phases.{next_phase, phases_left, phases_of, ArePhases, AreRefusal, candidates_after}

-- the next event of an operation, by the replies to its events so far; none where it has no more
abbrev pub next_event : Act → List Reply → Option Op
next_event (act.Bridge v kind n sort f) [] = Some (op.Make sort f)
next_event (act.Bridge v kind n sort f) (says.Made p h ∷ []) = Some (op.Adopt v kind n p h)
next_event (act.Pass v x) [] = Some (op.Lend v x)
next_event (act.Pass v x) (says.H h ∷ []) = Some (op.Land h x)
next_event (act.Surface v x) [] = Some (op.Grip x)
next_event (act.Surface v x) (says.Gripped p h sort f ∷ []) = Some (op.Meet v sort f p h)
next_event (act.Surface v x) (says.Gripped p h sort f ∷ says.New m ∷ []) = None
next_event (act.Surface v x) (says.Gripped p h sort f ∷ reply ∷ []) = Some (op.Release h)
next_event (act.Dispose v) [] = Some (op.Give v)
next_event (act.Dispose v) (says.H h ∷ []) = Some (op.Release h)
next_event act.Collect [] = Some op.Begin
next_event act.Collect (says.Mark j ∷ []) = Some op.Sweep
next_event act.BeginMark [] = Some op.Begin
next_event act.SweepMark [] = Some op.Sweep
next_event (act.PhaseLine w) [] = None
next_event a [] = Some (op.Line a)
next_event a replies = None

-- the entries are the events of an operation that follow those replies, all of them and in their order
abbrev pub AreEventsAfter : Act → List Reply → List Entry → Type 0
AreEventsAfter a replies [] = next_event a replies ≡ None
AreEventsAfter a replies (e ∷ es) = (next_event a replies ≡ Some e.made.op)
    × AreEventsAfter a (replies ++ e.made.reply ∷ []) es

-- where the driver stands by its lines: its phase, the candidates of the last snap, and its last line
pub record Standing : Type 0 where
  pub phase : Phase
  pub candidates : ℕ
  pub line : ℕ

-- before the first line: idle
abbrev pub opening_standing : Standing
opening_standing = record { phase = at.Idle; candidates = 0; line = 0 }

-- the events of a phase word: its phases, or its refusal
abbrev pub AreWord : Standing → PhaseWord → Option Phase → List Entry → Type 0
AreWord s w None entries = AreRefusal s.phase w entries
AreWord s w (Some phase) entries = ArePhases s.candidates (phases_of w) entries

-- the events of a line's operation
abbrev pub AreEvents : Standing → Act → List Entry → Type 0
AreEvents s (act.PhaseLine w) entries = AreWord s w (next_phase s.phase w) entries
AreEvents s a entries = AreEventsAfter a [] entries

-- where the driver stands after a line with that number and those entries; a word that is refused leaves its phase
abbrev pub standing_after : Standing → ℕ → Act → List Entry → Standing
standing_after s number (act.PhaseLine w)
    entries = record {
      phase = unwrap_or (next_phase s.phase w) s.phase;
      candidates = candidates_after s.candidates entries;
      line = number;
    }
standing_after s number (act.Finalise n) entries = record s { line = number }
standing_after s number a entries = s

-- the entry is one of that thread on that line
pub record IsOnLine (number : ℕ) (thread : Thread) (e : Entry) : Type 0 where
  pub caller : e.made.caller ≡ thread
  pub line : e.made.index ≡ number

-- all of them are
abbrev pub AreOnLine : ℕ → Thread → List Entry → Type 0
AreOnLine number thread [] = Unit {0}
AreOnLine number thread (e ∷ es) = IsOnLine number thread e × AreOnLine number thread es

-- the line is one that a script can have, and the entries are its own
pub record AreLine (s : Standing) (number : ℕ) (line : Thread × Act) (entries : List Entry) : Type 0 where
  pub lawful : IsLine line.0 line.1
  pub places : AreOnLine number line.0 entries
  pub events : AreEvents s line.1 entries

-- the entries are those of the phases left open, on the driver's last line
pub record AreLeft (s : Standing) (entries : List Entry) : Type 0 where
  pub places : AreOnLine s.line C entries
  pub events : ArePhases s.candidates (phases_left s.phase) entries

-- the entries are those of these lines with their numbers: each line's stand together, once, and before those of each
-- later line; and then those of the phases left open
abbrev pub HoldsLines : Standing → List (ℕ × (Thread × Act)) → List Entry → Type 0
HoldsLines s [] entries = AreLeft s entries
HoldsLines s (line ∷ lines) entries = (own : List Entry) × (rest : List Entry) × (entries ≡ own ++ rest)
    × AreLine s line.0 line.1 own × HoldsLines (standing_after s line.0 line.1.1 own) lines rest

-- the lines with their numbers
abbrev pub numbered_from : ℕ → List (Thread × Act) → List (ℕ × (Thread × Act))
numbered_from number [] = []
numbered_from number (line ∷ lines) = (number, line) ∷ numbered_from (number + 1) lines

-- as `serial` runs a script: line after line
abbrev pub HoldsInOrder : List (Thread × Act) → List Entry → Type 0
HoldsInOrder script entries = HoldsLines opening_standing (numbered_from 1 script) entries

-- the lines of one thread, and the entries of one caller
abbrev pub lines_of : Thread → List (ℕ × (Thread × Act)) → List (ℕ × (Thread × Act))
lines_of t lines = filter (λ line. is_thread t line.1.0) lines

-- the entries of one caller
abbrev pub entries_by : Thread → List Entry → List Entry
entries_by t entries = filter (λ e. is_thread t e.made.caller) entries

-- as `threads` runs a script: each thread's lines in their order
abbrev pub HoldsPerThread : List (Thread × Act) → List Entry → Type 0
HoldsPerThread script entries = (t : Thread)
    → HoldsLines opening_standing (lines_of t (numbered_from 1 script)) (entries_by t entries)
