-- What is tracked of the peer side while a log is made: it is computed of events and replies alone. Nothing outside of
-- this crate rests on it.
use Rattle.std.specs.Prelude.{ℕ, ◌+◌, ◌-◌, min, Bool, true, false, if◌then◌else◌, List, [], ◌∷◌, ◌++◌, Option, Some}
use Rattle.std.specs.Prelude.{None, map, replicate, slice_set}
use Rattle.joint_machine.specs.declared.names.Thread.{Thread}
use Rattle.joint_machine.specs.declared.names.Thread.TheVariants.{P}
use Rattle.joint_machine.specs.declared.lines.Act.{Act}
use Rattle.joint_machine.specs.declared.events.Entry.{Entry}
use Rattle.joint_machine.specs.declared.events.Op.{Op}
use Rattle.joint_machine.specs.declared.events.Reply.{Reply}
use Rattle.joint_machine.specs.Heaps.{slot, numbered_at, place}
use Rattle.joint_machine.specs.Peers.{Issued, Peers, is_strong}
use Rattle.log_text.specs.declared.lines.LogLine.{LogLine}
use Rattle.log_text.specs.declared.lines.Mark.{Mark}
use Rattle.log_text.specs.declared.lines.Mark.TheVariants.{GPlus, GMinus, WPlus, WMinus}
use Rattle.gref_log.specs.declared.making.Lines.{Lines}
use Rattle.gref_log.specs.declared.tracked.Given.{Given}
use Rattle.gref_log.specs.declared.tracked.Move.{Move}
use Rattle.gref_log.specs.declared.tracked.Moves.{Moves}
use Rattle.gref_log.specs.Log.{Change, changed}
use Rattle.log_text.specs.Behind.{Behind}
use Rattle.joint_machine.specs.declared.lines.Act.TheVariants as act
use Rattle.joint_machine.specs.declared.events.Op.TheVariants as op
use Rattle.joint_machine.specs.declared.events.Reply.TheVariants as says
use Rattle.gref_log.specs.declared.making.Lines.TheVariants as lines
use Rattle.gref_log.specs.declared.tracked.Moves.TheVariants as moves
use Rattle.joint_machine.specs.Numbers.{u32_max}
use Rattle.joint_machine.specs.declared.names.TheConstants.{VARS, NAMES}

-- the peer of each variable, the handle of each global name, and each handle as it was given
pub record Tracked : Type 0 where
  pub vars : List (Option ℕ)
  pub names : List (Option ℕ)
  pub given : List Given

abbrev pub nothing_tracked : Tracked
nothing_tracked = record { vars = replicate VARS None; names = replicate NAMES None; given = [] }

-- the same, with room for more handles
pub record TrackedInRoom : Type 0 where
  pub tracked : Tracked
  pub room : ℕ

-- a handle was given on a peer
abbrev pub given_on : ℕ → Bool → Given
given_on p strong = record { peer = p; strong = strong }

abbrev pub given_of : Issued → Given
given_of i = given_on i.peer (is_strong i.strength)

-- what is tracked of the peers
abbrev pub tracked_of : Peers → Tracked
tracked_of s = record { vars = s.heap.vars; names = s.names; given = map given_of s.issued }

-- the handles that come or go, as changes
abbrev pub change_of : Move → Change
change_of m = record { mark = m.mark; handle = m.h.0 }

abbrev pub listed : Moves → List Change
listed moves.None = []
listed (moves.One a) = change_of a ∷ []
listed (moves.Two a b) = change_of a ∷ change_of b ∷ []

-- the peer that a handle was given on; 0 stands where there is no such handle
abbrev pub peer_at : List Given → ℕ → ℕ
peer_at given h = elim (numbered_at given h) [ None ↦ 0 | Some g ↦ g.peer ]

-- the handle of a name goes, by the strength that it was given with
abbrev pub name_leaves : List Given → Option ℕ → List Change
name_leaves given None = []
name_leaves given (Some h) = elim (numbered_at given h)
    [ None ↦ [] | Some g ↦ record { mark = if g.strong then GMinus else WMinus; handle = h } ∷ [] ]

-- the handles that come or go by an event with its reply
abbrev pub tracked_changes : Tracked → Op → Reply → List Change
tracked_changes t (op.Make sort f) (says.Made p h) = record { mark = GPlus; handle = h.0 } ∷ []
tracked_changes t (op.Grip x) (says.Gripped p h sort f) = record { mark = GPlus; handle = h.0 } ∷ []
tracked_changes t (op.Line (act.Global g v)) (says.H h) = record { mark = GPlus; handle = h.0 } ∷ []
tracked_changes t (op.Line (act.WGlobal g v)) (says.H h) = record { mark = WPlus; handle = h.0 } ∷ []
tracked_changes t (op.Weaken h) says.Ok = record { mark = WPlus; handle = h.0 }
    ∷ record { mark = GMinus; handle = h.0 } ∷ []
tracked_changes t (op.Restore h) (says.Renewed g) = record { mark = GPlus; handle = g.0 }
    ∷ record { mark = WMinus; handle = h.0 } ∷ []
tracked_changes t (op.Restore h) says.Cleared = record { mark = WMinus; handle = h.0 } ∷ []
tracked_changes t (op.Release h) says.Ok = record { mark = GMinus; handle = h.0 } ∷ []
tracked_changes t (op.Line (act.UnGlobal g)) says.Ok = name_leaves t.given (slot t.names g.0)
tracked_changes t o reply = []

-- the variable at that place of a thread names a peer, or none
abbrev pub with_var : Tracked → ℕ → ℕ → Option ℕ → Tracked
with_var t u v o = record t { vars = slice_set t.vars (place u v) o }

-- a handle was given
abbrev pub with_given : Tracked → ℕ → Bool → Tracked
with_given t p strong = record t { given = t.given ++ given_on p strong ∷ [] }

-- the name names a handle, or none
abbrev pub with_name : Tracked → ℕ → Option ℕ → Tracked
with_name t g o = record t { names = slice_set t.names g o }

-- the peer of a variable; 0 stands where it names none
abbrev pub peer_or_none : Option ℕ → ℕ
peer_or_none None = 0
peer_or_none (Some p) = p

-- after a line of peer thread u
abbrev pub after_line : Tracked → ℕ → Act → Reply → Tracked
after_line t u (act.NewPeer v n) (says.P p) = with_var t u v.0 (Some p.0)
after_line t u (act.Copy v w) (says.P p) = with_var t u v.0 (Some p.0)
after_line t u (act.Get v w i) (says.P p) = with_var t u v.0 (Some p.0)
after_line t u (act.Get v w i) says.Null = with_var t u v.0 None
after_line t u (act.Drop v) says.Ok = with_var t u v.0 None
after_line t u (act.Load v x) (says.P p) = with_var t u v.0 (Some p.0)
after_line t u (act.Load v x) says.Null = with_var t u v.0 None
after_line t u (act.WRead v g) (says.P p) = with_var t u v.0 (Some p.0)
after_line t u (act.Global g v) (says.H h) = with_name
    (with_given t (peer_or_none (slot t.vars (place u v.0))) true) g.0 (Some h.0)
after_line t u (act.WGlobal g v) (says.H h) = with_name
    (with_given t (peer_or_none (slot t.vars (place u v.0))) false) g.0 (Some h.0)
after_line t u (act.UnGlobal g) says.Ok = with_name t g.0 None
after_line t u a reply = t

-- after a line of any thread: those of other threads are the managed side's
abbrev pub after_any_line : Tracked → Thread → Act → Reply → Tracked
after_any_line t (P u) a reply = after_line t u a reply
after_any_line t u a reply = t

-- after an event with its reply
abbrev pub tracked_after : Tracked → Thread → Op → Reply → Tracked
tracked_after t u (op.Line a) reply = after_any_line t u a reply
tracked_after t u (op.Make sort f) (says.Made p h) = with_given t p.0 true
tracked_after t u (op.Grip x) (says.Gripped p h sort f) = with_given t p.0 true
tracked_after t u (op.Restore h) (says.Renewed g) = with_given t (peer_at t.given h.0) true
tracked_after t u o reply = t

-- a log in the making: its lines, what is tracked of the peers, and the counts
pub record Logged : Type 0 where
  pub lines : List LogLine
  pub tracked : Tracked
  pub grefc : ℕ
  pub gwrefc : ℕ

abbrev pub nothing_logged : Logged
nothing_logged = record { lines = []; tracked = nothing_tracked; grefc = 0; gwrefc = 0 }

-- the same without its lines, with room for more handles
pub record InMaking : Type 0 where
  pub tracked : Tracked
  pub room : ℕ
  pub grefc : ℕ
  pub gwrefc : ℕ

-- what is logged where these lines were made before
abbrev pub behind_lines : List LogLine → InMaking → Logged
behind_lines ls m = record { lines = ls; tracked = m.tracked; grefc = m.grefc; gwrefc = m.gwrefc }

-- the lines of one entry, as a list
abbrev pub made_lines : Lines → List LogLine
made_lines lines.None = []
made_lines (lines.One l) = l ∷ []
made_lines (lines.Two l k) = l ∷ k ∷ []

-- one more, as far as 32 bits go
abbrev pub one_more : ℕ → ℕ
one_more count = min (count + 1) u32_max

-- a handle comes or goes
abbrev pub counted : Logged → Mark → Logged
counted g GPlus = record g { grefc = one_more g.grefc }
counted g GMinus = record g { grefc = g.grefc - 1 }
counted g WPlus = record g { gwrefc = one_more g.gwrefc }
counted g WMinus = record g { gwrefc = g.gwrefc - 1 }

-- the line of a change: the counts are those behind it
abbrev pub line_after : Logged → ℕ → Change → LogLine
line_after g number d = record {
  mark = d.mark;
  h = record { 0 = d.handle };
  p = record { 0 = peer_at g.tracked.given d.handle };
  grefc = g.grefc;
  gwrefc = g.gwrefc;
  entry = number;
}

abbrev pub with_line : Logged → ℕ → Change → Logged
with_line g number d = record (counted g d.mark) { lines = g.lines ++ line_after (counted g d.mark) number d ∷ [] }

abbrev pub with_lines : Logged → ℕ → List Change → Logged
with_lines g number [] = g
with_lines g number (d ∷ ds) = with_lines (with_line g number d) number ds

-- what is logged after an entry: a handle that it gives is tracked before its line is put
abbrev pub tracked_on : Logged → Entry → Logged
tracked_on g e = record g { tracked = tracked_after g.tracked e.made.caller e.made.op e.made.reply }

abbrev pub logged_after : Logged → Entry → Logged
logged_after g e = with_lines (tracked_on g e) e.number (tracked_changes g.tracked e.made.op e.made.reply)

-- after entries one after another
abbrev pub logged_all : Logged → List Entry → Logged
logged_all g [] = g
logged_all g (e ∷ es) = logged_all (logged_after g e) es

abbrev pub changed_all : List Issued → Behind → List Change → Behind
changed_all issued v [] = v
changed_all issued v (d ∷ ds) = changed_all issued (changed issued v d) ds
