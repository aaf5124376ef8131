-- A cycle between whose phases another caller's lines come: a collection, a read of a weak name with what becomes of
-- it, a read of a weak cell, or a begin, in each of the seven gaps.
use Rattle.std.specs.Prelude.{ℕ, List, [], ◌∷◌, ◌++◌, take, drop, length, Some, None}
use Rattle.joint_machine.specs.declared.names.Thread.TheVariants.{M, P, C}
use Rattle.joint_machine.specs.declared.names.Sort.TheVariants.{User}
use Rattle.joint_machine.specs.declared.names.Kind.TheVariants as kind
use Rattle.joint_machine.specs.declared.lines.Act.TheVariants as act
use Rattle.joint_machine.specs.declared.events.Op.TheVariants as op
use Rattle.joint_machine.specs.declared.events.Reply.{Reply}
use Rattle.joint_machine.specs.declared.events.Reply.TheVariants as says
use Rattle.joint_machine.specs.Told.{snap_of, contraction_of, sweep_of, resolution_of, Noted, said_alive, said_cleared}
use Rattle.joint_machine.specs.Told.{Answer}
use Rattle.worked_histories.specs.Lines.{Move, move, telling, citing, citing_telling, Came, came, notes_of}
use Rattle.worked_histories.specs.Moments.{IsWorked}
use Rattle.worked_histories.specs.Notes.{linking, var, static_no, name_no, cell_no, object_no, peer_no, handle_no}
use Rattle.worked_histories.specs.Notes.{cycle_no, marking_no, span}

-- two bridge objects, of which the first has the second in a field; a weak cell has the second, and a weak name the
-- first's peer; then no slot holds either
abbrev pub set_up : List Came
set_up =
    came (M 1) (move (op.Make User 0) (says.Made (peer_no 1) (handle_no 1)) ∷ citing
    (op.Adopt (var 0) kind.Bridge 1 (peer_no 1) (handle_no 1)) (says.M (object_no 1)) 0 ∷ [])
    ∷ came (M 1) (move (op.Make User 0) (says.Made (peer_no 2) (handle_no 2)) ∷ citing
    (op.Adopt (var 1) kind.Bridge 1 (peer_no 2) (handle_no 2)) (says.M (object_no 2)) 2 ∷ [])
    ∷ came (M 1) (move (op.Line (act.Set (var 0) 0 (Some (var 1)))) says.Ok ∷ [])
    ∷ came (M 1) (move (op.Line (act.Weak (cell_no 0) (var 1))) says.Ok ∷ [])
    ∷ came (M 1) (move (op.Lend (var 0) (static_no 0)) (says.H (handle_no 1)) ∷ citing
    (op.Land (handle_no 1) (static_no 0)) (says.P (peer_no 1)) 6 ∷ [])
    ∷ came (P 1) (move (op.Line (act.Load (var 0) (static_no 0))) (says.P (peer_no 1)) ∷ [])
    ∷ came (P 1) (move (op.Line (act.WGlobal (name_no 0) (var 0))) (says.H (handle_no 3)) ∷ [])
    ∷ came (P 1) (move (op.Line (act.Drop (var 0))) says.Ok ∷ [])
    ∷ came (P 1) (move (op.Line (act.Store (static_no 0) None)) says.Ok ∷ [])
    ∷ came (M 1) (move (op.Line (act.Drop (var 0))) says.Ok ∷ [])
    ∷ came (M 1) (move (op.Line (act.Drop (var 1))) says.Ok ∷ [])
    ∷ []

-- what the cycle comes to: what `mark` sweeps before its begin, the number of its own marking, what that one's sweep
-- frees, the answers to both restores, the number of the clear entry, what the resolution frees, and the last read's
-- reply
pub record Outcome : Type 0 where
  pub first : List Move
  pub marking : ℕ
  pub sweep : Move
  pub back : Answer
  pub second : Answer
  pub clear : ℕ
  pub freed : List ℕ
  pub last : Reply

-- a sweep of a marking that frees both peers, the first to be freed, or nothing after so many
abbrev pub frees_both : ℕ → Move
frees_both j = telling op.Sweep (says.Swept (marking_no j) (span 0 2)) (sweep_of (1 ∷ 2 ∷ []))

abbrev pub frees_none : ℕ → ℕ → Move
frees_none j before = telling op.Sweep (says.Swept (marking_no j) (span before 0)) (sweep_of [])

-- both are freed: what `mark` sweeps first, the own marking and its sweep, and the number of the clear entry
abbrev pub freed_by : List Move → ℕ → Move → ℕ → Outcome
freed_by first j sweep clear = record {
  first = first;
  marking = j;
  sweep = sweep;
  back = said_cleared;
  second = said_cleared;
  clear = clear;
  freed = 1 ∷ 2 ∷ [];
  last = says.Gone;
}

-- both are kept, by the first marking
abbrev pub kept_with : ℕ → Outcome
kept_with clear = record {
  first = [];
  marking = 1;
  sweep = frees_none 1 0;
  back = said_alive 4;
  second = said_alive 5;
  clear = clear;
  freed = [];
  last = says.M (object_no 2);
}

-- how a restore says an answer
abbrev pub restoring : Answer → Reply
restoring (said_alive h) = says.Renewed (handle_no h)
restoring said_cleared = says.Cleared

-- the eight phases, a line each; the snap has number 14
abbrev pub phase_lines : Outcome → List Came
phase_lines o =
    came C (telling (op.Snap (cycle_no 1)) (says.Snapped 2 (span 0 0)) (snap_of [] (1 ∷ 2 ∷ []) (1 ∷ 2 ∷ [])) ∷ [])
    ∷ came C (telling (op.Contract (cycle_no 1)) (says.Sccs 2 1)
    (contraction_of ((1 ∷ []) ∷ (2 ∷ []) ∷ []) [] ((0, 1) ∷ [])) ∷ [])
    ∷ came C (citing_telling (op.Mirror (cycle_no 1)) (says.Refs 1) 14 (linking ((1, 2) ∷ [])) ∷ [])
    ∷ came C (citing (op.Weaken (handle_no 1)) says.Ok 14 ∷ citing (op.Weaken (handle_no 2)) says.Ok 14 ∷ [])
    ∷ came C (o.first ++ move op.Begin (says.Mark (marking_no o.marking)) ∷ [])
    ∷ came C (o.sweep ∷ [])
    ∷ came C (move (op.Restore (handle_no 1)) (restoring o.back) ∷ move
    (op.Restore (handle_no 2)) (restoring o.second) ∷ move (op.Clear (cycle_no 1)) says.Ok ∷ [])
    ∷ came C (citing_telling (op.Resolve (cycle_no 1)) (says.Freed (span 0 (length o.freed))) o.clear
    (resolution_of (o.back ∷ o.second ∷ []) o.freed) ∷ [])
    ∷ []

-- the lines put in after so many phases, and at the end a read of the weak cell
abbrev pub with_gap : ℕ → List Came → Outcome → List Noted
with_gap gap lines o = notes_of (set_up ++
    (take gap (phase_lines o) ++ (lines ++
    (drop gap (phase_lines o) ++ came (M 1) (move (op.Line (act.Read (cell_no 0))) o.last ∷ []) ∷ []))))

-- some of the gaps, the lines that come in each of them, what the cycle comes to, and the peers that are unreached at
-- the begins
pub record GapCase : Type 0 where
  pub gaps : List ℕ
  pub lines : List Came
  pub outcome : Outcome
  pub unreached : List (List ℕ)

abbrev pub gap_case : List ℕ → List Came → Outcome → List (List ℕ) → GapCase
gap_case gaps lines o unreached = record { gaps = gaps; lines = lines; outcome = o; unreached = unreached }

-- the history of each gap is whole, and its projection a run
abbrev pub InGaps : List ℕ → GapCase → Type 0
InGaps [] c = Unit {0}
InGaps (g ∷ gs) c = IsWorked (with_gap g c.lines c.outcome) c.unreached × InGaps gs c

abbrev pub InEachGap : List GapCase → Type 0
InEachGap [] = Unit {0}
InEachGap (c ∷ cs) = InGaps c.gaps c × InEachGap cs

-- a line of the peer thread with one event
abbrev pub peer_line : Move → Came
peer_line m = came (P 1) (m ∷ [])

-- the peers that are unreached at a begin: both, or none
abbrev pub BOTH : List (List ℕ)
BOTH = (1 ∷ 2 ∷ []) ∷ []

abbrev pub NONE : List (List ℕ)
NONE = [] ∷ []

-- a collection of the peer thread
abbrev pub collects : ℕ → Move → List Came
collects j sweep = came (P 1) (move op.Begin (says.Mark (marking_no j)) ∷ sweep ∷ []) ∷ []

-- before the weakening it frees nothing; after it, it frees both in the cycle's place; in the cycle's own marking its
-- begin is told of that one; later nothing is left
abbrev pub collections : List GapCase
collections =
    gap_case (1 ∷ 2 ∷ 3 ∷ []) (collects 1 (frees_none 1 0)) (freed_by [] 2 (frees_both 2) 25) (BOTH ++ BOTH)
    ∷ gap_case (4 ∷ []) (collects 1 (frees_both 1)) (freed_by [] 2 (frees_none 2 2) 25) (BOTH ++ NONE)
    ∷ gap_case (5 ∷ []) (peer_line (move op.Begin (says.MarkOpen (marking_no 1))) ∷ [])
    (freed_by [] 1 (frees_both 1) 24) BOTH
    ∷ gap_case (6 ∷ []) (collects 2 (frees_none 2 2)) (freed_by [] 1 (frees_both 1) 25) (BOTH ++ NONE)
    ∷ gap_case (7 ∷ []) (collects 2 (frees_none 2 2)) (freed_by [] 1 (frees_both 1) 23) (BOTH ++ NONE)
    ∷ []

-- a read of the weak name into a variable
abbrev pub reads : Reply → Came
reads reply = peer_line (move (op.Line (act.WRead (var 1) (name_no 0))) reply)

-- it keeps both, until the sweep has freed them
abbrev pub readings : List GapCase
readings =
    gap_case (1 ∷ 2 ∷ 3 ∷ 4 ∷ []) (reads (says.P (peer_no 1)) ∷ []) (kept_with 24) NONE
    ∷ gap_case (5 ∷ []) (reads (says.P (peer_no 1)) ∷ []) (kept_with 24) BOTH
    ∷ gap_case (6 ∷ []) (reads says.Gone ∷ []) (freed_by [] 1 (frees_both 1) 24) BOTH
    ∷ gap_case (7 ∷ []) (reads says.Gone ∷ []) (freed_by [] 1 (frees_both 1) 23) BOTH
    ∷ []

-- the variable is emptied again
abbrev pub drops : Came
drops = peer_line (move (op.Line (act.Drop (var 1))) says.Ok)

-- then it keeps them only where it comes after the marking's begin
abbrev pub droppings : List GapCase
droppings =
    gap_case (1 ∷ 2 ∷ 3 ∷ 4 ∷ []) (reads (says.P (peer_no 1)) ∷ drops ∷ []) (freed_by [] 1 (frees_both 1) 25) BOTH
    ∷ gap_case (5 ∷ []) (reads (says.P (peer_no 1)) ∷ drops ∷ []) (kept_with 25) BOTH
    ∷ gap_case (6 ∷ []) (reads says.Gone ∷ drops ∷ []) (freed_by [] 1 (frees_both 1) 25) BOTH
    ∷ gap_case (7 ∷ []) (reads says.Gone ∷ drops ∷ []) (freed_by [] 1 (frees_both 1) 23) BOTH
    ∷ []

-- a static gets what was read before the variable is emptied
abbrev pub stores : Reply → Came
stores reply = peer_line (move (op.Line (act.Store (static_no 3) (Some (var 1)))) reply)

-- then it keeps them wherever it comes before the sweep
abbrev pub storings : List GapCase
storings =
    gap_case (1 ∷ 2 ∷ 3 ∷ 4 ∷ []) (reads (says.P (peer_no 1)) ∷ stores says.Ok ∷ drops ∷ []) (kept_with 26) NONE
    ∷ gap_case (5 ∷ []) (reads (says.P (peer_no 1)) ∷ stores says.Ok ∷ drops ∷ []) (kept_with 26) BOTH
    ∷ gap_case (6 ∷ []) (reads says.Gone ∷ stores says.Empty ∷ drops ∷ []) (freed_by [] 1 (frees_both 1) 26) BOTH
    ∷ gap_case (7 ∷ []) (reads says.Gone ∷ stores says.Empty ∷ drops ∷ []) (freed_by [] 1 (frees_both 1) 23) BOTH
    ∷ []

-- a read of the weak cell, which waits for the cycle's end
abbrev pub waits : List Came
waits = came (M 1) (move (op.Line (act.Read (cell_no 0))) (says.Pending (cycle_no 1)) ∷ []) ∷ []

-- wherever it comes
abbrev pub waitings : List GapCase
waitings =
    gap_case (1 ∷ 2 ∷ 3 ∷ 4 ∷ 5 ∷ 6 ∷ []) waits (freed_by [] 1 (frees_both 1) 24) BOTH
    ∷ gap_case (7 ∷ []) waits (freed_by [] 1 (frees_both 1) 23) BOTH
    ∷ []

-- a begin of the peer thread
abbrev pub begins : Reply → List Came
begins reply = peer_line (move op.Begin reply) ∷ []

-- a marking that is open when the cycle's own is to begin is swept first, and frees what a collection in its place
-- would
abbrev pub beginnings : List GapCase
beginnings =
    gap_case (1 ∷ 2 ∷ 3 ∷ []) (begins (says.Mark (marking_no 1)))
    (freed_by (frees_none 1 0 ∷ []) 2 (frees_both 2) 25) (BOTH ++ BOTH)
    ∷ gap_case (4 ∷ []) (begins (says.Mark (marking_no 1)))
    (freed_by (frees_both 1 ∷ []) 2 (frees_none 2 2) 25) (BOTH ++ NONE)
    ∷ gap_case (5 ∷ []) (begins (says.MarkOpen (marking_no 1))) (freed_by [] 1 (frees_both 1) 24) BOTH
    ∷ gap_case (6 ∷ []) (begins (says.Mark (marking_no 2))) (freed_by [] 1 (frees_both 1) 24) (BOTH ++ NONE)
    ∷ gap_case (7 ∷ []) (begins (says.Mark (marking_no 2))) (freed_by [] 1 (frees_both 1) 23) (BOTH ++ NONE)
    ∷ []

-- every history of each table
abbrev pub CollectsInGaps : Type 0
CollectsInGaps = InEachGap collections

abbrev pub ReadsInGaps : Type 0
ReadsInGaps = InEachGap readings

abbrev pub DropsInGaps : Type 0
DropsInGaps = InEachGap droppings

abbrev pub StoresInGaps : Type 0
StoresInGaps = InEachGap storings

abbrev pub WaitsInGaps : Type 0
WaitsInGaps = InEachGap waitings

abbrev pub BeginsInGaps : Type 0
BeginsInGaps = InEachGap beginnings
