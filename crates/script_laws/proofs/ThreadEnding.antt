-- In a linked history only the driver opens, resolves and abandons cycles. So where the driver's entries end each
-- cycle, all entries do.
use Rattle.std.proofs.Common.{◌≡◌, ℕ, Option, List, [], ◌∷◌, refl, subst}
use Rattle.joint_machine.specs.declared.names.Thread.{Thread}
use Rattle.joint_machine.specs.declared.names.Thread.TheVariants.{M, P, C}
use Rattle.joint_machine.specs.declared.events.Op.{Op}
use Rattle.joint_machine.specs.declared.events.Op.TheVariants as op
use Rattle.joint_machine.specs.declared.events.Entry.{Entry}
use Rattle.joint_machine.specs.Lines.{IsEvent, is_read}
use Rattle.joint_machine.specs.Histories.{Finished}
use Rattle.joint_machine.specs.Linked.{Linkage, opening_linkage}
use Rattle.joint_machine.specs.LinkedHistories.{IsLinkedBy, managed_end}
use Rattle.joint_machine.specs.Readers.{AllMayComeReading, entry_after}
use Rattle.joint_machine.specs.Told.{Noted}
use Rattle.joint_machine.specs.PeerReplay.{is_thread}
use Rattle.std.specs.Prelude.{if◌then◌else◌}
use Rattle.script_laws.specs.Holding.{entries_by}
use Rattle.script_laws.specs.Closing.{ResolvesLater, ResolveComes, CycleCloses, AllCyclesClose}
use Rattle.script_laws.specs.EndingLaws.{ThreadHistoryEnds}
use Rattle.script_laws.proofs.Ending.{held-thread-end}
use Rattle.known_laws.specs.PastEntries.{entries}
use Rattle.joint_laws.proofs.FittingLists.{event-of}

-- the entries are events that their callers can make
abbrev AreAllEvents : List Entry → Type 0
AreAllEvents [] = Unit {0}
AreAllEvents (e ∷ es) = IsEvent e.made.caller e.made.op × AreAllEvents es

all-events : (whole : List Noted) (cells : List (Option ℕ)) (s : Linkage) (ns : List Noted) → AllMayComeReading whole cells s ns → AreAllEvents (entries ns)
all-events whole cells s [] a = tt
all-events whole cells s (n ∷ ns) a = (event-of (is_read n.entry.made.op) whole cells s n a.0, all-events whole cells (entry_after s n) ns a.1)

-- what an event does to the open cycle
pub resolves-more : (o : Op) (A B : Type 0) → (A → B) → ResolvesLater o A → ResolvesLater o B
resolves-more (op.Resolve k) A B f r = tt
resolves-more (op.Snap k) A B f r = absurd r
resolves-more o A B f r = f r

other-resolves : (t : Thread) (o : Op) (A : Type 0) → (t ≡ C → ⊥) → IsEvent t o → A → ResolvesLater o A
other-resolves C o A n e r = absurd (n refl)
other-resolves (M u) (op.Snap k) A n e r = absurd e
other-resolves (P u) (op.Snap k) A n e r = absurd e
other-resolves (M u) (op.Resolve k) A n e r = tt
other-resolves (P u) (op.Resolve k) A n e r = tt
other-resolves t o A n e r = r

pub ended-more : (o : Op) (es fs : List Entry) → (ResolveComes es → ResolveComes fs) → CycleCloses o es → CycleCloses o fs
ended-more (op.Abandon k) es fs f e = e
ended-more (op.Snap k) es fs f e = f e
ended-more o es fs f e = tt

other-ended : (t : Thread) (o : Op) (es : List Entry) → (t ≡ C → ⊥) → IsEvent t o → CycleCloses o es
other-ended C o es n e = absurd (n refl)
other-ended (M u) (op.Snap k) es n e = absurd e
other-ended (P u) (op.Snap k) es n e = absurd e
other-ended (M u) (op.Abandon k) es n e = absurd e
other-ended (P u) (op.Abandon k) es n e = absurd e
other-ended t o es n e = tt

comes-among : (es : List Entry) → AreAllEvents es → ResolveComes (entries_by C es) → ResolveComes es
comes-among [] a r = r
comes-among (e ∷ es) a r = by e.made.caller a.0 (comes-among es a.1) r
  where
    by : (t : Thread) → IsEvent t e.made.op → (ResolveComes (entries_by C es) → ResolveComes es)
        → ResolveComes (if is_thread C t then e ∷ entries_by C es else entries_by C es) → ResolvesLater e.made.op (ResolveComes es)
    by C v f r = resolves-more e.made.op (ResolveComes (entries_by C es)) (ResolveComes es) f r
    by (M u) v f r = other-resolves (M u) e.made.op (ResolveComes es) (λ z. cc) v (f r)
    by (P u) v f r = other-resolves (P u) e.made.op (ResolveComes es) (λ z. cc) v (f r)

ended-among : (es : List Entry) → AreAllEvents es → AllCyclesClose (entries_by C es) → AllCyclesClose es
ended-among [] a d = tt
ended-among (e ∷ es) a d = by e.made.caller a.0 (ended-among es a.1) d
  where
    by : (t : Thread) → IsEvent t e.made.op → (AllCyclesClose (entries_by C es) → AllCyclesClose es)
        → AllCyclesClose (if is_thread C t then e ∷ entries_by C es else entries_by C es) → CycleCloses e.made.op es × AllCyclesClose es
    by C v f d = (ended-more e.made.op (entries_by C es) es (comes-among es a.1) d.0, f d.1)
    by (M u) v f d = (other-ended (M u) e.made.op es (λ z. cc) v, f d)
    by (P u) v f d = (other-ended (P u) e.made.op es (λ z. cc) v, f d)

-- where the driver's entries end each cycle, a linked history does
pub drivers_ends : (h : Finished) (noted : List Noted) → IsLinkedBy h noted → AllCyclesClose (entries_by C h.entries) → AllCyclesClose h.entries
drivers_ends h noted l ends = ended-among h.entries (subst AreAllEvents l.same (all-events noted (managed_end noted).cells opening_linkage noted l.lawful)) ends

pub thread_history_ends : ThreadHistoryEnds
thread_history_ends script h noted l p = drivers_ends h noted l (held-thread-end script h.entries p)
