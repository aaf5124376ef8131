-- The global reference log of a history: which lines its entries give. (The Xamarin.Android documentation: a line for
-- each global and each weak global reference that comes or goes, with the numbers of those that are there.)
-- Believed: the clauses of the program's top call rest on all that stands here.
use Rattle.std.specs.Prelude.{◌≡◌, ℕ, Bool, true, false, if◌then◌else◌, List, [], ◌∷◌, ◌++◌, Option, Some, None}
use Rattle.std.specs.Prelude.{count_by}
use Rattle.joint_machine.specs.declared.lines.Act.TheVariants as act
use Rattle.joint_machine.specs.declared.events.Op.{Op}
use Rattle.joint_machine.specs.declared.events.Op.TheVariants as op
use Rattle.joint_machine.specs.declared.events.Reply.{Reply}
use Rattle.joint_machine.specs.declared.events.Reply.TheVariants as says
use Rattle.joint_machine.specs.Heaps.{slot, numbered_at}
use Rattle.joint_machine.specs.Histories.{Finished}
use Rattle.joint_machine.specs.LinkedHistories.{IsLinkedBy}
use Rattle.joint_machine.specs.Lines.{is_peer_event}
use Rattle.joint_machine.specs.Linked.{peer_after}
use Rattle.joint_machine.specs.PeerReplay.{PeerReplay, TableRow, opening_peer_replay}
use Rattle.joint_machine.specs.Peers.{Issued, Strength, strong, weak, peer_of}
use Rattle.joint_machine.specs.Told.{Noted}
use Rattle.log_text.specs.declared.lines.Mark.{Mark}
use Rattle.log_text.specs.declared.lines.Mark.TheVariants.{GPlus, GMinus, WPlus, WMinus}
use Rattle.log_text.specs.declared.lines.LogLine.{LogLine}
use Rattle.log_text.specs.Behind.{Behind, behind_all, moved, none_live}

-- a handle that comes or goes
pub record Change : Type 0 where
  pub mark : Mark
  pub handle : ℕ

-- the mark of a handle that goes, by its strength
abbrev pub minus : Strength → Mark
minus strong = GMinus
minus weak = WMinus

-- the handle that a name has goes, by the strength that it was issued with
abbrev pub unnamed : PeerReplay → Option ℕ → List Change
unnamed s None = []
unnamed s (Some h) = elim (numbered_at s.peers.issued h)
    [ None ↦ [] | Some i ↦ record { mark = minus i.strength; handle = h } ∷ [] ]

-- what an event with its reply changes, in order: a handle is made, gripped or given to a name; a candidate's handle is
-- weakened; a restore gives its peer a new strong handle and removes the weak one, or only removes it; a handle is
-- released; a name's handle goes with the name
abbrev pub changes : PeerReplay → Op → Reply → List Change
changes s (op.Make sort f) (says.Made p h) = record { mark = GPlus; handle = h.0 } ∷ []
changes s (op.Grip x) (says.Gripped p h sort f) = record { mark = GPlus; handle = h.0 } ∷ []
changes s (op.Line (act.Global g v)) (says.H h) = record { mark = GPlus; handle = h.0 } ∷ []
changes s (op.Line (act.WGlobal g v)) (says.H h) = record { mark = WPlus; handle = h.0 } ∷ []
changes s (op.Weaken h) says.Ok = record { mark = WPlus; handle = h.0 } ∷ record { mark = GMinus; handle = h.0 } ∷ []
changes s (op.Restore h) (says.Renewed g) = record { mark = GPlus; handle = g.0 }
    ∷ record { mark = WMinus; handle = h.0 } ∷ []
changes s (op.Restore h) says.Cleared = record { mark = WMinus; handle = h.0 } ∷ []
changes s (op.Release h) says.Ok = record { mark = GMinus; handle = h.0 } ∷ []
changes s (op.Line (act.UnGlobal g)) says.Ok = unnamed s (slot s.peers.names g.0)
changes s o reply = []

-- the peer that a handle was made on, by the handles issued so far; 0 stands where there is no such handle
abbrev pub made_on : List Issued → ℕ → ℕ
made_on issued h = elim (peer_of issued h) [ None ↦ 0 | Some p ↦ p ]

-- what stands behind a change, and behind changes one after another
abbrev pub changed : List Issued → Behind → Change → Behind
changed issued v d = moved v d.mark d.handle (made_on issued d.handle)

-- the line of a change: the counts are those behind it
abbrev pub line_of : List Issued → ℕ → Behind → Change → LogLine
line_of issued number v d = record {
  mark = d.mark;
  h = record { 0 = d.handle };
  p = record { 0 = made_on issued d.handle };
  grefc = (changed issued v d).grefc;
  gwrefc = (changed issued v d).gwrefc;
  entry = number;
}

abbrev pub lines_of : List Issued → ℕ → Behind → List Change → List LogLine
lines_of issued number v [] = []
lines_of issued number v (d ∷ ds) = line_of issued number v d ∷ lines_of issued number (changed issued v d) ds

-- the peer side after an entry
abbrev pub peer_next : PeerReplay → Noted → PeerReplay
peer_next s n = peer_after s n.entry.made n.told (is_peer_event n.entry.made.caller n.entry.made.op)

-- the lines of an entry: the handles that it gives stand in the state after it
abbrev pub entry_lines : PeerReplay → Behind → Noted → List LogLine
entry_lines s v n = lines_of (peer_next s n).peers.issued n.entry.number v
    (changes s n.entry.made.op n.entry.made.reply)

-- the log of entries from a state on
abbrev pub log_from : PeerReplay → Behind → List Noted → List LogLine
log_from s v [] = []
log_from s v (n ∷ ns) = entry_lines s v n ++ log_from (peer_next s n) (behind_all v (entry_lines s v n)) ns

-- the log of a history by its notes
abbrev pub log_of_notes : List Noted → List LogLine
log_of_notes noted = log_from opening_peer_replay none_live noted

-- the lines are the log of the history, whatever notes link it
abbrev pub IsLogOf : Finished → List LogLine → Type 0
IsLogOf h ls = (noted : List Noted) → IsLinkedBy h noted → ls ≡ log_of_notes noted

-- the strong and the weak rows of the handle table, cleared ones among them
abbrev pub is_strong_row : Option TableRow → Bool
is_strong_row None = false
is_strong_row (Some row) = elim row.strength [ strong ↦ true | weak ↦ false ]

abbrev pub is_weak_row : Option TableRow → Bool
is_weak_row None = false
is_weak_row (Some row) = elim row.strength [ strong ↦ false | weak ↦ true ]

-- the peer that the handle of a row of that kind was made on
abbrev pub peer_in : (Option TableRow → Bool) → Option (Option TableRow) → Option Issued → Option ℕ
peer_in kind None i = None
peer_in kind (Some row) None = None
peer_in kind (Some row) (Some i) = if kind row then Some i.peer else None

-- what stands behind a log is what the handle table says: each strong row is a live strong handle on its peer, each
-- weak row a live weak one, cleared or not, and the counts are the numbers of these rows
abbrev pub table_behind : List Issued → List (Option TableRow) → Behind
table_behind issued table = record {
  strong = λ h. peer_in is_strong_row (numbered_at table h) (numbered_at issued h);
  weak = λ h. peer_in is_weak_row (numbered_at table h) (numbered_at issued h);
  grefc = count_by is_strong_row table;
  gwrefc = count_by is_weak_row table;
}

abbrev pub behind_peers : PeerReplay → Behind
behind_peers s = table_behind s.peers.issued s.table
