-- Which entries are snapshots: each is the driver's, and only a `snap` and a `cycle` that are due make one.
use Rattle.std.proofs.Common.{◌≡◌, ⊎_elim, ℕ, Bool, true, false, cond, List, [], ◌∷◌, ◌++◌, Option, Some, None, refl, sym, ap, ◌∙◌, subst, true≢false}
use Rattle.std.proofs.lemmas.Bool.{cases_Bool}
use Rattle.std.proofs.lemmas.List.Elements.{filter-append}
use Rattle.joint_machine.specs.declared.names.Phase.{Phase}
use Rattle.joint_machine.specs.declared.names.Phase.TheVariants as at
use Rattle.joint_machine.specs.declared.names.PhaseWord.{PhaseWord}
use Rattle.joint_machine.specs.declared.names.PhaseWord.TheVariants as word
use Rattle.joint_machine.specs.declared.names.Thread.{Thread}
use Rattle.joint_machine.specs.declared.names.Thread.TheVariants.{M, P, C}
use Rattle.joint_machine.specs.declared.lines.Act.{Act}
use Rattle.joint_machine.specs.declared.lines.Act.TheVariants as act
use Rattle.joint_machine.specs.declared.events.Entry.{Entry}
use Rattle.joint_machine.specs.declared.events.Op.{Op}
use Rattle.joint_machine.specs.declared.events.Op.TheVariants as op
use Rattle.joint_machine.specs.Lines.{IsEvent, is_read}
use Rattle.joint_machine.specs.Linked.{Linkage}
use Rattle.joint_machine.specs.PeerReplay.{is_thread}
use Rattle.joint_machine.specs.Phases.{AreEach, ArePhase, ArePhases, IsClear, IsEventOf, candidates_after, next_phase, phases_left, phases_of}
use Rattle.joint_machine.specs.Readers.{AllMayComeReading, EntryMayCome, entry_after}
use Rattle.joint_machine.specs.Told.{Noted}
use Rattle.joint_machine.proofs.Deciding.{none_some}
use Rattle.known_laws.specs.PastEntries.{entries}
use Rattle.known_laws.specs.Lists.{made_by}
use Rattle.script_laws.specs.Holding.{AreEventsAfter, AreLine, AreWord, Standing}
use Rattle.listing_laws.specs.Laws.{LeftPhasesOpenNone, LinesOpenNone, SnapsAreTheDrivers}
use Rattle.listing_laws.specs.Listings.{is_snap}
use Rattle.listing_laws.specs.Snapshots.{OpensNone, snaps_of}

pub snaps-append : (es fs : List Entry) → snaps_of (es ++ fs) ≡ snaps_of es ++ snaps_of fs
snaps-append es fs = filter-append (λ (e : Entry). is_snap e.made.op) es fs

-- an entry in front that is none
none_first : (e : Entry) (es : List Entry) → is_snap e.made.op ≡ false → snaps_of (e ∷ es) ≡ snaps_of es
none_first e es n = ap (λ b. cond b (e ∷ snaps_of es) (snaps_of es)) n

-- an event of another phase is none
event_is_none : (w : PhaseWord) (o : Op) → (w ≡ word.Snap → ⊥) → IsEventOf w o → is_snap o ≡ false
event_is_none word.Snap o n a = absurd (n refl)
event_is_none word.Cycle o n a = absurd a
event_is_none word.Contract (op.Snap k) n a = absurd a
event_is_none word.Mirror (op.Snap k) n a = absurd a
event_is_none word.Weaken (op.Snap k) n a = absurd a
event_is_none word.Mark (op.Snap k) n a = absurd a
event_is_none word.Sweep (op.Snap k) n a = absurd a
event_is_none word.Restore (op.Snap k) n a = absurd a
event_is_none word.Resolve (op.Snap k) n a = absurd a
event_is_none w o n a = refl

each_is_none : (w : PhaseWord) (es : List Entry) → (w ≡ word.Snap → ⊥) → AreEach w es → snaps_of es ≡ []
each_is_none w [] n a = refl
each_is_none w (e ∷ es) n a = none_first e es (event_is_none w e.made.op n a.0) ∙ each_is_none w es n a.1

clear_is_none : (o : Op) → IsClear o → is_snap o ≡ false
clear_is_none (op.Snap k) c = absurd c
clear_is_none o c = refl

one_is_none : (e : Entry) (o : Op) → e.made.op ≡ o → is_snap o ≡ false → snaps_of (e ∷ []) ≡ []
one_is_none e o is n = none_first e [] (ap is_snap is ∙ n)

phase_is_none : (n : ℕ) (w : PhaseWord) (es : List Entry) → (w ≡ word.Snap → ⊥) → ArePhase n w es → snaps_of es ≡ []
phase_is_none n word.Snap es d a = absurd (d refl)
phase_is_none n word.Mark es d a = ⊎_elim
    (λ t. each_is_none word.Mark es d t.each)
    (λ t. ap snaps_of t.4 ∙ (none_first t.0 (t.1 ∷ []) (ap is_snap t.5) ∙ none_first t.1 [] (event_is_none word.Mark t.1.made.op d t.7)))
    a
phase_is_none n word.Restore es d a =
    ap snaps_of a.2 ∙ (snaps-append a.0 (a.1 ∷ [])
    ∙ (ap (λ l. l ++ snaps_of (a.1 ∷ [])) (each_is_none word.Restore a.0 d a.3.each) ∙ none_first a.1 [] (clear_is_none a.1.made.op a.4)))
phase_is_none n word.Weaken es d a = each_is_none word.Weaken es d a.each
phase_is_none n word.Cycle es d a = each_is_none word.Cycle es d a.each
phase_is_none n word.Contract es d a = each_is_none word.Contract es d a.each
phase_is_none n word.Mirror es d a = each_is_none word.Mirror es d a.each
phase_is_none n word.Sweep es d a = each_is_none word.Sweep es d a.each
phase_is_none n word.Resolve es d a = each_is_none word.Resolve es d a.each

-- none of these words is `snap`
abbrev AreOthers : List PhaseWord → Type 0
AreOthers [] = Unit {0}
AreOthers (w ∷ ws) = (w ≡ word.Snap → ⊥) × AreOthers ws

phases_are_none : (n : ℕ) (ws : List PhaseWord) (es : List Entry) → AreOthers ws → ArePhases n ws es → snaps_of es ≡ []
phases_are_none n [] es o a = ap snaps_of a
phases_are_none n (w ∷ ws) es o a =
    ap snaps_of a.2 ∙ (snaps-append a.0 a.1 ∙ (ap (λ l. l ++ snaps_of a.1) (phase_is_none n w a.0 o.0 a.3) ∙ phases_are_none (candidates_after n a.0) ws a.1 o.1 a.4))

left_are_others : (p : Phase) → AreOthers (phases_left p)
left_are_others at.Idle = tt
left_are_others at.Snapped = ((λ e. cc), ((λ e. cc), ((λ e. cc), ((λ e. cc), ((λ e. cc), ((λ e. cc), ((λ e. cc), tt)))))))
left_are_others at.Contracted = ((λ e. cc), ((λ e. cc), ((λ e. cc), ((λ e. cc), ((λ e. cc), ((λ e. cc), tt))))))
left_are_others at.Mirrored = ((λ e. cc), ((λ e. cc), ((λ e. cc), ((λ e. cc), ((λ e. cc), tt)))))
left_are_others at.Weakened = ((λ e. cc), ((λ e. cc), ((λ e. cc), ((λ e. cc), tt))))
left_are_others at.Marked = ((λ e. cc), ((λ e. cc), ((λ e. cc), tt)))
left_are_others at.Swept = ((λ e. cc), ((λ e. cc), tt))
left_are_others at.Restored = ((λ e. cc), tt)

pub left_open_none : LeftPhasesOpenNone
left_open_none n phase es a = phases_are_none n (phases_left phase) es (left_are_others phase) a

-- a word that is due and opens no cycle
due_are_others : (phase next : Phase) (w : PhaseWord) → next_phase phase w ≡ Some next → OpensNone (act.PhaseLine w) phase → AreOthers (phases_of w)
due_are_others at.Idle next word.Snap e n = absurd n
due_are_others at.Idle next word.Cycle e n = absurd n
due_are_others phase next word.Snap e n = absurd (none_some next e)
due_are_others phase next word.Cycle e n = absurd (none_some next e)
due_are_others phase next word.Contract e n = ((λ e. cc), tt)
due_are_others phase next word.Mirror e n = ((λ e. cc), tt)
due_are_others phase next word.Weaken e n = ((λ e. cc), tt)
due_are_others phase next word.Mark e n = ((λ e. cc), tt)
due_are_others phase next word.Sweep e n = ((λ e. cc), tt)
due_are_others phase next word.Restore e n = ((λ e. cc), tt)
due_are_others phase next word.Resolve e n = ((λ e. cc), tt)

word_is_none : (s : Standing) (w : PhaseWord) (o : Option Phase) (es : List Entry) → next_phase s.phase w ≡ o → OpensNone (act.PhaseLine w) s.phase → AreWord s w o es → snaps_of es ≡ []
word_is_none s w None es e n a = ap snaps_of a.all ∙ one_is_none a.entry (op.Refused w) a.refuses refl
word_is_none s w (Some next) es e n a = phases_are_none s.candidates (phases_of w) es (due_are_others s.phase next w e n) a

-- the taking of notices
notices_are_none : (n : ℕ) (es : List Entry) → AreEventsAfter (act.Finalise n) [] es → snaps_of es ≡ []
notices_are_none n [] a = refl
notices_are_none n (e ∷ []) a = one_is_none e (op.Line (act.Finalise n)) (some_is a.0) refl
  where
    some_is : Some (op.Line (act.Finalise n)) ≡ Some e.made.op → e.made.op ≡ op.Line (act.Finalise n)
    some_is q = cc
notices_are_none n (e ∷ f ∷ es) a = absurd (none_some f.made.op a.1.0)

line_by : (s : Standing) (number : ℕ) (a : Act) (es : List Entry) → OpensNone a s.phase → AreLine s number (C, a) es → snaps_of es ≡ []
line_by s number (act.PhaseLine w) es n l = word_is_none s w (next_phase s.phase w) es refl n l.events
line_by s number (act.Finalise k) es n l = notices_are_none k es l.events
line_by s number a es n l = absurd l.lawful

pub lines_open_none : LinesOpenNone
lines_open_none s number a es n l = line_by s number a es n l

-- a snapshot is the driver's
snap_is_the_drivers : (t : Thread) (o : Op) → IsEvent t o → is_snap o ≡ true → is_thread t C ≡ true
snap_is_the_drivers C o e s = refl
snap_is_the_drivers (M n) (op.Snap k) e s = absurd e
snap_is_the_drivers (P n) (op.Snap k) e s = absurd e
snap_is_the_drivers t o e s = absurd (true≢false (sym s))

-- so it is of each entry
abbrev AreTheDrivers : List Entry → Type 0
AreTheDrivers [] = Unit {0}
AreTheDrivers (e ∷ es) = (is_snap e.made.op ≡ true → is_thread e.made.caller C ≡ true) × AreTheDrivers es

event_of : (whole : List Noted) (cells : List (Option ℕ)) (s : Linkage) (n : Noted) (r : Bool) → EntryMayCome r whole cells s n → IsEvent n.entry.made.caller n.entry.made.op
event_of whole cells s n true w = w.0.event
event_of whole cells s n false w = w.event

all_are : (whole : List Noted) (cells : List (Option ℕ)) (s : Linkage) (ns : List Noted) → AllMayComeReading whole cells s ns → AreTheDrivers (entries ns)
all_are whole cells s [] a = tt
all_are whole cells s (n ∷ ns) a =
    (snap_is_the_drivers n.entry.made.caller n.entry.made.op (event_of whole cells s n (is_read n.entry.made.op) a.0), all_are whole cells (entry_after s n) ns a.1)

one_of_the_driver : (e : Entry) (es : List Entry) → (is_snap e.made.op ≡ true → is_thread e.made.caller C ≡ true)
    → snaps_of (made_by C es) ≡ snaps_of es → snaps_of (made_by C (e ∷ es)) ≡ snaps_of (e ∷ es)
one_of_the_driver e es a rest = by (is_thread e.made.caller C) refl
  where
    chosen : Bool → List Entry
    chosen b = snaps_of (cond b (e ∷ made_by C es) (made_by C es))

    no_snap : is_thread e.made.caller C ≡ false → is_snap e.made.op ≡ false
    no_snap q = ⊎_elim (λ (t : is_snap e.made.op ≡ true). absurd (true≢false (sym (a t) ∙ q))) (λ (f : is_snap e.made.op ≡ false). f) (cases_Bool (is_snap e.made.op))

    by : (b : Bool) → is_thread e.made.caller C ≡ b → snaps_of (made_by C (e ∷ es)) ≡ snaps_of (e ∷ es)
    by true q = ap chosen q ∙ ap (λ l. cond (is_snap e.made.op) (e ∷ l) l) rest
    by false q = ap chosen q ∙ (rest ∙ sym (none_first e es (no_snap q)))

of_the_driver : (es : List Entry) → AreTheDrivers es → snaps_of (made_by C es) ≡ snaps_of es
of_the_driver [] a = refl
of_the_driver (e ∷ es) a = one_of_the_driver e es a.0 (of_the_driver es a.1)

pub snaps_are_the_drivers : SnapsAreTheDrivers
snaps_are_the_drivers h l =
    let k = l.linked in
    of_the_driver h.entries (subst AreTheDrivers k.same (all_are l.noted _ _ l.noted k.lawful))
