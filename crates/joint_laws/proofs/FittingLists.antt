-- The entries of a linked history fit its lists: each was made by a caller of the script at an event that it can have,
-- and each span in a reply lies in its list and, but for notices, rises there, since it names what is told.
use Rattle.std.proofs.Common.{◌≡◌, ℕ, ◌+◌, ◌≤◌, Bool, true, false, inl, inr, List, length, map, take, drop, Option, Some, refl, ap, subst, ◌∙◌, arith}
use Rattle.std.specs.Prelude.{All, slice_get}
use Rattle.std.proofs.lemmas.List.{take-map, drop-map, length-map}
use Rattle.joint_machine.specs.declared.names.Kind.{Kind}
use Rattle.joint_machine.specs.declared.names.Kind.TheVariants as kind
use Rattle.joint_machine.specs.declared.names.MNum.{MNum}
use Rattle.joint_machine.specs.declared.names.PNum.{PNum}
use Rattle.joint_machine.specs.declared.names.Sort.{Sort}
use Rattle.joint_machine.specs.declared.names.Span.{Span}
use Rattle.joint_machine.specs.declared.names.Thread.{Thread}
use Rattle.joint_machine.specs.declared.names.Thread.TheVariants.{M, P, C}
use Rattle.joint_machine.specs.declared.events.Entry.{Entry}
use Rattle.joint_machine.specs.declared.events.Op.{Op}
use Rattle.joint_machine.specs.declared.events.Op.TheVariants as op
use Rattle.joint_machine.specs.declared.events.Reply.{Reply}
use Rattle.joint_machine.specs.declared.events.Reply.TheVariants as says
use Rattle.joint_machine.specs.Components.{Rises}
use Rattle.joint_machine.specs.Histories.{managed_numbers, peer_numbers, stretch, HasSpans, FitsLists}
use Rattle.joint_machine.specs.Lines.{IsEvent, IsNamed, IsThread, IsManagedThread, IsDriver, IsPeerThread, IsBridgeObject, IsAdoptable, is_read}
use Rattle.joint_machine.specs.Linked.{Linkage, opening_linkage}
use Rattle.joint_machine.specs.Managed.{Managed}
use Rattle.joint_machine.specs.Readers.{EntryMayCome, replayed_reading}
use Rattle.joint_machine.specs.Told.{Told, Noted}
use Rattle.joint_machine.proofs.Members.{All-members, at-Contains, Contains-map_cases}
use Rattle.joint_laws.specs.Afterwards.{reading_at}
use Rattle.joint_laws.specs.ToldLaws.{LinkedIsHistory}
use Rattle.joint_laws.specs.Spans.{IsStretch, TakesNamed, TellsNamed}
use Rattle.joint_laws.proofs.ReadingsGoneAfter.{reading-comes}
use Rattle.joint_laws.proofs.ReadingsTold.{told_is_named, notices_are_named}

-- an event that a history can have can be named
pub managed-thread : (t : Thread) → IsManagedThread t → IsThread t
managed-thread (M n) w = w
managed-thread (P n) w = absurd w
managed-thread C w = absurd w

driver-thread : (t : Thread) → IsDriver t → IsThread t
driver-thread (M n) w = absurd w
driver-thread (P n) w = absurd w
driver-thread C w = tt

pub peer-thread : (t : Thread) → IsPeerThread t → IsThread t
peer-thread (M n) w = absurd w
peer-thread (P n) w = w
peer-thread C w = absurd w

adoptable : (k : Kind) (n : ℕ) (s : Sort) → IsBridgeObject k n s → IsAdoptable k n
adoptable kind.Plain n s w = absurd w
adoptable kind.Leaf n s w = absurd w
adoptable kind.Bridge n s w = w.0
adoptable kind.LeafBridge n s w = w

pub named-event : (t : Thread) (o : Op) → IsEvent t o → IsNamed t o
named-event t (op.Line a) w = w
named-event t (op.Make s n) w = (managed-thread t w.0, w.1)
named-event t (op.Adopt v k n p h) w = (managed-thread t w.0, w.1, adoptable k n w.2.0 w.2.1)
named-event t (op.Lend v x) w = (managed-thread t w.0, w.1, w.2)
named-event t (op.Land h x) w = (managed-thread t w.0, w.1)
named-event t (op.Grip x) w = (managed-thread t w.0, w.1)
named-event t (op.Meet v s n p h) w = (managed-thread t w.0, w.1, w.2)
named-event t (op.Give v) w = (managed-thread t w.0, w.1)
named-event t (op.Release h) w = managed-thread t w
named-event t op.Begin w = elim w [ inl e ↦ peer-thread t e | inr e ↦ driver-thread t e ]
named-event t op.Sweep w = elim w [ inl e ↦ peer-thread t e | inr e ↦ driver-thread t e ]
named-event t _ w = driver-thread t w

-- a stretch of numbers is the numbers of the stretch
managed-stretch : (ms : List MNum) (s : Span) → stretch (managed_numbers ms) s ≡ managed_numbers (stretch ms s)
managed-stretch ms s = ap (λ z. take s.count z) (drop-map (λ (m : MNum). m.0) s.first ms) ∙ take-map (λ (m : MNum). m.0) s.count (drop s.first ms)

peer-stretch : (ps : List PNum) (s : Span) → stretch (peer_numbers ps) s ≡ peer_numbers (stretch ps s)
peer-stretch ps s = ap (λ z. take s.count z) (drop-map (λ (p : PNum). p.0) s.first ps) ∙ take-map (λ (p : PNum). p.0) s.count (drop s.first ps)

managed-spans : (ms : List MNum) (s : Span) (freed : List ℕ) → IsStretch (managed_numbers ms) s freed → Rises freed → (s.first + s.count ≤ length ms) × Rises (managed_numbers (stretch ms s))
managed-spans ms s freed w up = ((let a = w.within in let b = length-map ms (λ (m : MNum). m.0) in omega (arith, a, b)), subst Rises (w.named ∙ managed-stretch ms s) up)

peer-spans : (ps : List PNum) (s : Span) (freed : List ℕ) → IsStretch (peer_numbers ps) s freed → Rises freed → (s.first + s.count ≤ length ps) × Rises (peer_numbers (stretch ps s))
peer-spans ps s freed w up = ((let a = w.within in let b = length-map ps (λ (p : PNum). p.0) in omega (arith, a, b)), subst Rises (w.named ∙ peer-stretch ps s) up)

spans : (ms : List MNum) (ps : List PNum) (ns : List MNum) (r : Reply) (told : Told) → TellsNamed (managed_numbers ms) (peer_numbers ps) r told
    → ((s : Span) → r ≡ says.Took s → (before : Managed) × TakesNamed (managed_numbers ns) before s) → HasSpans ms ps ns r
spans ms ps ns (says.Snapped n s) told w took = managed-spans ms s w.freed w.stands w.rises
spans ms ps ns (says.Swept j s) told w took = peer-spans ps s w.freed w.stands w.rises
spans ms ps ns (says.Freed s) told w took = managed-spans ms s w.freed w.stands w.rises
spans ms ps ns (says.Took s) told w took = (let t = (took s refl).1 in let a = t.stands.within in let b = length-map ns (λ (m : MNum). m.0) in omega (arith, a, b))
spans ms ps ns _ told w took = tt

-- all entries of a list fit if each does in its place
all-fit : (ms : List MNum) (ps : List PNum) (ns : List MNum) (noted : List Noted) (entries : List Entry) → map (λ (n : Noted). n.entry) noted ≡ entries
    → ((i : ℕ) (n : Noted) → slice_get noted i ≡ Some n → FitsLists ms ps ns n.entry) → All (FitsLists ms ps ns) entries
all-fit ms ps ns noted entries same fit = subst (λ z. All (FitsLists ms ps ns) z) same (All-members (FitsLists ms ps ns) (map (λ (n : Noted). n.entry) noted) (λ e c. (
    let n = Contains-map_cases (λ (n : Noted). n.entry) noted e c in
    let at = at-Contains noted n.0 n.1 in
    subst (FitsLists ms ps ns) n.2 (fit at.0 n.0 at.1))))

pub event-of : (b : Bool) (whole : List Noted) (cells : List (Option ℕ)) (s : Linkage) (n : Noted) → EntryMayCome b whole cells s n → IsEvent n.entry.made.caller n.entry.made.op
event-of true whole cells s n w = w.0.event
event-of false whole cells s n w = w.event

pub linked_is_history : LinkedIsHistory
linked_is_history h noted l = record {
  numbers = l.numbers;
  fits = all-fit h.freed_managed h.freed_peers h.notices noted h.entries l.same (λ i n e. record {
    event = named-event n.entry.made.caller n.entry.made.op (event-of (is_read n.entry.made.op) noted (replayed_reading opening_linkage noted).managed.managed.cells
        (reading_at noted i) n (reading-comes noted (replayed_reading opening_linkage noted).managed.managed.cells noted opening_linkage i n l.lawful e));
    spans = spans h.freed_managed h.freed_peers h.notices n.entry.made.reply n.told (told_is_named h noted l i n e)
        (λ s took. ((reading_at noted i).managed.managed, notices_are_named h noted l i n s e took));
  });
}
