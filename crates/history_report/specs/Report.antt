-- The report: the text of a finished history.
-- Believed: the clauses of the program's top call rest on all that stands here.
use Rattle.std.specs.Prelude.{ℕ, List, [], ◌∷◌, ◌++◌, Option, Some, None, length, codes, decimal}
use Rattle.joint_machine.specs.declared.names.MNum.{MNum}
use Rattle.joint_machine.specs.declared.names.PNum.{PNum}
use Rattle.joint_machine.specs.declared.names.HNum.{HNum}
use Rattle.joint_machine.specs.declared.names.Thread.{Thread}
use Rattle.joint_machine.specs.declared.names.Phase.{Phase}
use Rattle.joint_machine.specs.declared.names.Phase.TheVariants as phase
use Rattle.joint_machine.specs.declared.events.Op.{Op}
use Rattle.joint_machine.specs.declared.events.Op.TheVariants as op
use Rattle.joint_machine.specs.declared.events.Reply.{Reply}
use Rattle.joint_machine.specs.declared.events.Reply.TheVariants as reply
use Rattle.joint_machine.specs.declared.events.Entry.{Entry}
use Rattle.joint_machine.specs.Histories.{Finished}
use Rattle.joint_machine.specs.declared.names.Span.{Span}
use Rattle.history_report.specs.declared.lists.Numbers.{Numbers}
use Rattle.history_report.specs.declared.lists.Numbers.TheVariants.{Freed, FreedPeers, Notices}
use Rattle.bridge_script.specs.Words.{thread_text, var_text, peer_static, kind_text, sort_text, phase_word_text}
use Rattle.bridge_script.specs.Words.{act_words}
use Rattle.byte_streams.specs.Spaced.{after_spaces}
use Rattle.history_report.specs.Lists.{list_words}

-- a managed object
abbrev pub managed_text : MNum → List ℕ
managed_text m = codes "m" ++ decimal m.0

-- a peer
abbrev pub peer_text : PNum → List ℕ
peer_text p = codes "p" ++ decimal p.0

-- a handle
abbrev pub handle_text : HNum → List ℕ
handle_text h = codes "h" ++ decimal h.0

-- where the driver stands
abbrev pub phase_text : Phase → List ℕ
phase_text phase.Idle = codes "idle"
phase_text phase.Snapped = codes "snapped"
phase_text phase.Contracted = codes "contracted"
phase_text phase.Mirrored = codes "mirrored"
phase_text phase.Weakened = codes "weakened"
phase_text phase.Marked = codes "marked"
phase_text phase.Swept = codes "swept"
phase_text phase.Restored = codes "restored"

-- the words of an event; an operation that is one event has its line's words after the thread
abbrev pub event_words : Thread → Op → List (List ℕ)
event_words t (op.Line a) = act_words t a
event_words t (op.Make s n) = codes "make" ∷ sort_text s ∷ decimal n ∷ []
event_words t (op.Adopt v k n p h) = codes "adopt" ∷ var_text
    v ∷ kind_text k ∷ decimal n ∷ peer_text p ∷ handle_text h ∷ []
event_words t (op.Lend v x) = codes "lend" ∷ var_text v ∷ peer_static x ∷ []
event_words t (op.Land h x) = codes "land" ∷ handle_text h ∷ peer_static x ∷ []
event_words t (op.Grip x) = codes "grip" ∷ peer_static x ∷ []
event_words t (op.Meet v s n p h) = codes "meet" ∷ var_text
    v ∷ peer_text p ∷ handle_text h ∷ sort_text s ∷ decimal n ∷ []
event_words t (op.Give v) = codes "give" ∷ var_text v ∷ []
event_words t (op.Release h) = codes "release" ∷ handle_text h ∷ []
event_words t (op.Snap k) = codes "snap" ∷ decimal k.0 ∷ []
event_words t (op.Contract k) = codes "contract" ∷ decimal k.0 ∷ []
event_words t (op.Mirror k) = codes "mirror" ∷ decimal k.0 ∷ []
event_words t (op.Weaken h) = codes "weaken" ∷ handle_text h ∷ []
event_words t op.Begin = codes "begin" ∷ []
event_words t op.Sweep = codes "sweep" ∷ []
event_words t (op.Restore h) = codes "restore" ∷ handle_text h ∷ []
event_words t (op.Clear k) = codes "clear" ∷ decimal k.0 ∷ []
event_words t (op.Resolve k) = codes "resolve" ∷ decimal k.0 ∷ []
event_words t (op.Abandon k) = codes "abandon" ∷ decimal k.0 ∷ []
event_words t (op.Refused w) = codes "refused" ∷ phase_word_text w ∷ []

-- the words of a reply before its list, which are all where it has none
abbrev pub reply_words : Reply → List (List ℕ)
reply_words reply.Ok = codes "ok" ∷ []
reply_words reply.Empty = codes "empty" ∷ []
reply_words reply.Range = codes "range" ∷ []
reply_words reply.Null = codes "null" ∷ []
reply_words reply.Taken = codes "taken" ∷ []
reply_words reply.Gone = codes "gone" ∷ []
reply_words reply.Unset = codes "unset" ∷ []
reply_words reply.Full = codes "full" ∷ []
reply_words reply.Plain = codes "plain" ∷ []
reply_words reply.NoMark = codes "nomark" ∷ []
reply_words reply.More = codes "more" ∷ []
reply_words reply.Done = codes "done" ∷ []
reply_words (reply.Renewed h) = codes "alive" ∷ handle_text h ∷ []
reply_words reply.Cleared = codes "cleared" ∷ []
reply_words (reply.M m) = managed_text m ∷ []
reply_words (reply.P p) = peer_text p ∷ []
reply_words (reply.H h) = handle_text h ∷ []
reply_words (reply.New m) = managed_text m ∷ codes "new" ∷ []
reply_words (reply.Twin m) = managed_text m ∷ codes "twin" ∷ []
reply_words (reply.Made p h) = peer_text p ∷ handle_text h ∷ []
reply_words (reply.Gripped p h s n) = peer_text p ∷ handle_text h ∷ sort_text s ∷ decimal n ∷ []
reply_words (reply.Pending k) = codes "pending" ∷ decimal k.0 ∷ []
reply_words (reply.Pinned m) = codes "pinned" ∷ managed_text m ∷ []
reply_words (reply.Mark j) = decimal j.0 ∷ []
reply_words (reply.MarkOpen j) = codes "marking" ∷ decimal j.0 ∷ []
reply_words (reply.CycleOpen k) = codes "open" ∷ decimal k.0 ∷ []
reply_words (reply.At p) = codes "at" ∷ phase_text p ∷ []
reply_words (reply.Snapped n s) = decimal n ∷ codes "freed" ∷ []
reply_words (reply.Sccs n m) = decimal n ∷ codes "sccs" ∷ decimal m ∷ codes "xrefs" ∷ []
reply_words (reply.Refs n) = decimal n ∷ codes "refs" ∷ []
reply_words (reply.Swept j s) = decimal j.0 ∷ codes "freed" ∷ []
reply_words (reply.Freed s) = codes "freed" ∷ []
reply_words (reply.Took s) = []

-- which list a reply shows, and which stretch of it: what a snap, a sweep and a resolve freed, and what a
-- `finalise` took
abbrev pub list_of : Reply → Option (Numbers × Span)
list_of (reply.Snapped n s) = Some (Freed, s)
list_of (reply.Swept j s) = Some (FreedPeers, s)
list_of (reply.Freed s) = Some (Freed, s)
list_of (reply.Took s) = Some (Notices, s)
list_of _ = None

-- the words of a list that is shown
abbrev pub shown : Finished → Option (Numbers × Span) → List (List ℕ)
shown h None = []
shown h (Some l) = list_words h l.0 l.1

-- the word for the entry that is cited, where one is
abbrev pub cite_words : Option ℕ → List (List ℕ)
cite_words None = []
cite_words (Some n) = (codes "@" ++ decimal n) ∷ []

-- who made an entry, on which line
abbrev pub place_text : Thread → ℕ → List ℕ
place_text t line = thread_text t ++ (codes "." ++ decimal line)

-- the words of an entry up to its list
abbrev pub head_words : Entry → List (List ℕ)
head_words e = place_text e.made.caller
    e.made.index ∷ (event_words e.made.caller e.made.op ++ (codes "=" ∷ reply_words e.made.reply))

-- the text of an entry up to its list
abbrev pub head_text : Entry → List ℕ
head_text e = decimal e.number ++ after_spaces (head_words e)

-- the text behind it
abbrev pub tail_text : Option ℕ → List ℕ
tail_text cites = after_spaces (cite_words cites) ++ 10 ∷ []

-- an entry's line: NUMBER THREAD.LINE EVENT = REPLY, and @NUMBER where it cites an entry, with its newline
abbrev pub entry_text : Finished → Entry → List ℕ
entry_text h e = head_text e ++ (after_spaces (shown h (list_of e.made.reply)) ++ tail_text e.made.cites)

-- the lines of entries
abbrev pub entries_text : Finished → List Entry → List ℕ
entries_text h [] = []
entries_text h (e ∷ es) = entry_text h e ++ entries_text h es

-- the last line, with the number of entries
abbrev pub end_text : ℕ → List ℕ
end_text n = codes "end " ++ (decimal n ++ 10 ∷ [])

-- the report: the line of each entry in rising number, and the last line
abbrev pub report : Finished → List ℕ
report h = entries_text h h.entries ++ end_text (length h.entries)
