-- A begin and an end of a marking, with their entries. A begin keeps the rows of its moment, so what is kept shows the
-- definition's new marking; an end frees what the definition's sweep frees. Either leads from one side to another.
use Rattle.std.proofs.Common.{◌≡◌, ◌≢◌, ℕ, ◌+◌, ◌≤◌, ◌<◌, ◌⊎◌, inl, inr, Bool, true, false, ◌||◌, List, [], ◌∷◌, ◌++◌, length, drop, Option, Some, None, if◌then◌else◌, refl, sym, ap, subst, ◌∙◌}
use Rattle.std.proofs.Common.{arith, length-append}
use Rattle.std.specs.Prelude.{All, IsSome}
use Rattle.std.specs.Option.{option_map}
use Rattle.std.proofs.lemmas.Bool.{cases_eq, true≢false}
use Rattle.std.proofs.lemmas.List.{drop_all, length_push}
use Rattle.joint_machine.specs.declared.names.Marking.{Marking as Number}
use Rattle.joint_machine.specs.declared.names.Span.{Span}
use Rattle.joint_machine.specs.declared.names.Thread.{Thread}
use Rattle.joint_machine.specs.declared.names.Thread.TheVariants.{C}
use Rattle.joint_machine.specs.declared.events.Entry.{Entry}
use Rattle.joint_machine.specs.declared.events.Made.{Made}
use Rattle.joint_machine.specs.declared.events.Op.TheVariants as op
use Rattle.joint_machine.specs.declared.events.Reply.{Reply}
use Rattle.joint_machine.specs.declared.events.Reply.TheVariants as says
use Rattle.joint_machine.specs.Draws.{AllBelow, numbered}
use Rattle.joint_machine.specs.Heaps.{IsLive, answer}
use Rattle.joint_machine.specs.Lines.{IsPeerThread, IsDriver, IsEvent, is_peer_event}
use Rattle.joint_machine.specs.declared.events.Op.{Op}
use Rattle.peer_heap.specs.Makings.{IsMarkEvent, RefusesMarking}
use Rattle.peer_heap.specs.Rows.{marking_after, Rows}
use Rattle.joint_model.specs.Listed.{Stock}
use Rattle.joint_machine.specs.PeerReplay.{PeerReplay, Marking, Mirror, IsSweep, opening_peer_replay, strong_peers, begun, swept, swept_of, is_thread, peer_answer}
use Rattle.joint_machine.specs.Sides.{GoesOn, peer_rules}
use Rattle.joint_machine.specs.Told.{Told, nothing, sweep_of}
use Rattle.joint_machine.proofs.Deciding.{none_some, or_right}
use Rattle.joint_laws.proofs.PeerEntries.{MirrorsSafely}
use Rattle.joint_machine.proofs.Members.{Contains-nil}
use Rattle.marking_laws.specs.Slices.{AreMarksGoing}
use Rattle.marking_laws.proofs.SliceEvents.{going-same}
use Rattle.row_heap.specs.Marks.{AreEndsLive, AreWhite, EdgeOf}
use Rattle.row_heap.specs.Rows.{HeapRows}
use Rattle.row_marking.specs.Traces.{Blackens, BlackensTo, Chained, greys}
use Rattle.peer_heap.specs.declared.side.BeginFault.TheVariants.{OutOfMemory, MarkOpen}
use Rattle.peer_heap.specs.declared.mirroring.OpenMirror.{OpenMirror}
use Rattle.peer_heap.specs.declared.side.OpenMarking.{OpenMarking}
use Rattle.peer_heap.specs.declared.side.SliceEnd.{SliceEnd}
use Rattle.peer_heap.specs.declared.side.SliceEnd.TheVariants.{Done, More}
use Rattle.peer_heap.specs.Marking.{AreRootsGrey, IsRoot, IsWholeMarking, with_marking}
use Rattle.peer_heap.specs.Marks.{IsGoing}
use Rattle.peer_heap.specs.Mirrors.{Mirrors, AreMirrored, AreWithin, marked_one, mirror_in, mirrors_begun, mirrors_in, owes}
use Rattle.joint_machine.specs.Peers.{Issued}
use Rattle.joint_machine.proofs.HeapLemmas.{thread_itself}
use Rattle.peer_heap.specs.Sides.{AreGoing, IsSide, IsSliced, IsFrom, colours_of, IsKnown, begins, ends, brought_by, brought_since, marking_as, marking_in, mirror_state, state_with, owed}
use Rattle.peer_heap.specs.Sides.{MarkingIsEnded, IsEndOf, IsFaultAt, IsMarkingOf, MayEnd}
use Rattle.peer_heap.proofs.Going.{chained-none, chained-some, going-blackens, grey-list, list-blackened, none-grey}
use Rattle.peer_heap.proofs.Opened.{begun_with, with_begun, with_swept, opened-state, opened-going, closed-state, closed-sweep}
use Rattle.peer_heap.proofs.Quiet.{IsQuiet, known-next, mark-quiet, mirrored-still, not-grown, state-still}
use Rattle.peer_heap.proofs.Sides.{AreGoing-same, opened, marking-next, from-more}
use Rattle.peer_heap.proofs.Steps.{goes-told, kept-told, replayed-told, safe-nothing}
use Rattle.peer_heap.proofs.Whole.{strong-live, whole-side}

-- what a live peer's reference leads to is live
pub ends-live : (rows : Rows) (o : Option OpenMarking) (n : ℕ) (m : Mirrors) (stock : Stock) → IsSide rows o n m stock → AreEndsLive rows.rows
ends-live rows o n m stock side = side.kept.references.live

-- nothing is brought back after the last entry
since-end : (issued : List Issued) (es : List Entry) → brought_since issued (length es) es ≡ []
since-end issued es = ap (λ l. brought_by issued l) (drop_all (length es) es (omega arith))

-- a marking that these begin, with these peers brought back
abbrev mark-with : ℕ → Thread → Rows → List ℕ → ℕ → Marking
mark-with n t v back b = record { number = n; by = t; heap = v.rows.heap; refs = v.rows.refs; strong_peers = strong_peers v.issued v.table; brought = back; blackened = b }

-- what is kept at a begin shows the definition's marking
begun-mark : (old : Rows) (issued : List Issued) (after : List Entry) (o : OpenMarking) (n : ℕ) (t : Thread) → o.number.0 ≡ n
    → o.by ≡ t → o.from ≡ length after → o.begin.value ≡ old → o.blackened ≡ 0 → marking_as issued after o ≡ begun_with n t old
begun-mark old issued after o n t number thread from begin unsliced =
    let back : brought_since issued o.from after ≡ [] = ap (λ k. brought_since issued k after) from ∙ since-end issued after in
    ap (λ k. mark-with k o.by o.begin.value (brought_since issued o.from after) o.blackened) number
    ∙ (ap (λ u. mark-with n u o.begin.value (brought_since issued o.from after) o.blackened) thread
    ∙ (ap (λ v. mark-with n t v (brought_since issued o.from after) o.blackened) begin
    ∙ (ap (λ l. mark-with n t old l o.blackened) back
    ∙ ap (mark-with n t old []) unsliced)))

-- a begin leads to the state that is kept; what is mirrored stays
module _ (old w : Rows) (opens : OpenMarking) (n : ℕ) (m : Mirrors) (es after : List Entry) (t : Thread) (rest : w ≡ with_begun old w.rows)
    (number : opens.number.0 ≡ n + 1) (thread : opens.by ≡ t) (from : opens.from ≡ length after) (begin : opens.begin.value ≡ old) (unsliced : opens.blackened ≡ 0)
    (still : mirror_state after m ≡ mirror_state es m) where
  begun-end : (begun (with_marking (mirror_state es m) old None n) None t).state ≡ state_with after w (Some opens) (n + 1) m
  begun-end =
      opened-state (mirror_state es m) old w old n t refl rest
      ∙ (ap (λ k. with_marking (mirror_state es m) w (Some k) (n + 1)) (sym (begun-mark old w.issued after opens (n + 1) t number thread from begin unsliced))
      ∙ ap (λ z. with_marking z w (marking_in w.issued after (Some opens)) (n + 1)) (sym still))

  begun-state : (o : Option OpenMarking) → (begun (state_with es old o n m) None t).state ≡ state_with after w (Some opens) (n + 1) m
  begun-state o = begun-end

  -- the entry may come next
  pub begun-goes : (o : Option OpenMarking) (i : ℕ) (j : Number) → marking_in old.issued es o ≡ None → j.0 ≡ n + 1 → (IsPeerThread t ⊎ IsDriver t)
      → GoesOn peer_rules (state_with es old o n m) (begins t i j) nothing (state_with after w (Some opens) (n + 1) m)
  begun-goes o i j closed place caller =
      let s = state_with es old o n m in
      let said : says.Mark record { 0 = n + 1 } ≡ says.Mark j = ap (λ (k : ℕ). says.Mark record { 0 = k }) (sym place) in
      let e : peer_answer s t op.Begin None nothing ≡ answer (says.Mark j) (state_with after w (Some opens) (n + 1) m) =
      ap (λ z. begun s z t) closed ∙ (ap (λ z. answer (says.Mark record { 0 = n + 1 }) z) (begun-state o) ∙ ap (λ r. answer r (state_with after w (Some opens) (n + 1) m)) said) in
      goes-told s (state_with after w (Some opens) (n + 1) m) (begins t i j) nothing (record { event = caller; side = refl }) tt e

  -- and the roots are grey
  pub begun-going : (head : ℕ) → AreRootsGrey (IsRoot old.rows.heap (strong_peers old.issued old.table)) w.rows.marks w.rows.links head
      → ((p : ℕ) → IsRoot old.rows.heap (strong_peers old.issued old.table) p → IsLive old.rows.heap p) → (mk : Marking) → marking_in w.issued after (Some opens) ≡ Some mk
      → IsGoing (state_with after w (Some opens) (n + 1) m) mk w.rows head
  begun-going head roots live mk q =
      subst (λ (z : PeerReplay). IsGoing z mk w.rows head) begun-end (opened-going (mirror_state es m) old w n head t mk rest roots live (ap (λ (z : PeerReplay). z.marking) begun-end ∙ q))

-- a side after one entry
pub IsSide-told : (old new : Rows) (o p : Option OpenMarking) (n k : ℕ) (m mm : Mirrors) (stock later : Stock) (number floor : ℕ) (made : Made) (told : Told)
    → later.entries ≡ stock.entries ++ numbered number made ∷ [] → AllBelow stock.entries floor → floor ≤ number
    → GoesOn peer_rules (state_with stock.entries old o n m) made told (state_with later.entries new p k mm) → MirrorsSafely (state_with stock.entries old o n m) made.op told
    → new.tabled + owed p + owes mm ≤ later.spare → length later.entries + later.spare ≤ 4294967295 → k ≤ n + 1 → IsFrom p (length later.entries)
    → AreMirrored later.entries mm.mirror → All (IsKnown new.issued) later.entries → length new.issued ≤ length old.issued + 1 → (mm.mirror ≡ None → new.rows.refs ≡ [])
    → length mm.waiting + mm.room ≤ new.rows.room → mm.temps ≤ new.rows.temps → AreWithin new.rows.temps mm.waiting → length new.rows.refs ≤ 4294967295
    → IsSide old o n m stock → IsSide new p k mm later
IsSide-told old new o p n k m mm stock later number floor made told added below above goes safe room limit count from mirrored known issued bare refs temps within few side = record {
  replayed = replayed-told stock.entries later.entries (state_with stock.entries old o n m) (state_with later.entries new p k mm) number floor made told below above added goes side.replayed;
  kept = kept-told (state_with stock.entries old o n m) (state_with later.entries new p k mm) made told goes safe side.kept;
  room = room;
  limit = limit;
  few = omega (arith, count, side.few, ap length added, length_push stock.entries (numbered number made));
  issued = omega (arith, issued, side.issued, ap length added, length_push stock.entries (numbered number made));
  from = from;
  mirrored = mirrored;
  known = known;
  bare = bare;
  refs_room = refs;
  temps_room = temps;
  temps_within = within;
  few_refs = few;
}

-- and where that entry begins or ends a marking, or is refused: what is mirrored stays
pub IsSide-next : (old new : Rows) (o p : Option OpenMarking) (n k : ℕ) (m : Mirrors) (stock later : Stock) (number floor : ℕ) (made : Made) (told : Told)
    → later.entries ≡ stock.entries ++ numbered number made ∷ [] → AllBelow stock.entries floor → floor ≤ number
    → GoesOn peer_rules (state_with stock.entries old o n m) made told (state_with later.entries new p k m) → MirrorsSafely (state_with stock.entries old o n m) made.op told
    → new.tabled + owed p + owes m ≤ later.spare → length later.entries + later.spare ≤ 4294967295 → k ≤ n + 1 → IsFrom p (length later.entries)
    → IsQuiet made.op → new.issued ≡ old.issued → new.rows.room ≡ old.rows.room → new.rows.temps ≡ old.rows.temps → new.rows.refs ≡ old.rows.refs → IsSide old o n m stock → IsSide new p k m later
IsSide-next old new o p n k m stock later number floor made told added below above goes safe room limit count from quiet issued roomy temps refs side =
    IsSide-told old new o p n k m m stock later number floor made told added below above goes safe room limit count from
    (mirrored-still stock.entries later.entries (numbered number made) m.mirror added side.mirrored quiet)
    (known-next old.issued new.issued stock.entries later.entries (numbered number made) added (not-grown old.issued new.issued issued) quiet side.known)
    (omega (arith, ap length issued)) (λ e. refs ∙ side.bare e) (omega (arith, side.refs_room, roomy)) (omega (arith, side.temps_room, temps))
    (subst (λ n. AreWithin n m.waiting) (sym temps) side.temps_within) (omega (arith, side.few_refs, ap length refs)) side

-- a thread is itself
may-end : (t u : Thread) → ((t ≡ C) ⊎ (t ≡ u)) → (is_thread t C || is_thread t u) ≡ true
may-end t u (inl e) = subst (λ z. (is_thread z C || is_thread z u) ≡ true) (sym e) refl
may-end t u (inr e) = or_right (is_thread t C) (is_thread t u) (subst (λ z. is_thread t z ≡ true) e (thread_itself t))

-- the rows where grey peers were made black, and nothing else changed
abbrev pub with_black : Rows → HeapRows → Rows
with_black v w = record v { rows = record v.rows { marks = w.marks; links = w.links } }

-- such a side is one as before
pub IsSide-black : (rows w : Rows) (o : Option OpenMarking) (n : ℕ) (m : Mirrors) (stock : Stock) → w ≡ with_black rows w.rows → IsSide rows o n m stock → IsSide w o n m stock
IsSide-black rows w o n m stock is side = subst (λ (z : Rows). IsSide z o n m stock) (sym is) record {
  replayed = side.replayed;
  kept = side.kept;
  room = side.room;
  limit = side.limit;
  few = side.few;
  issued = side.issued;
  from = side.from;
  mirrored = side.mirrored;
  known = side.known;
  bare = side.bare;
  refs_room = side.refs_room;
  temps_room = side.temps_room;
  temps_within = side.temps_within;
  few_refs = side.few_refs;
}

-- an event after it is one before it
pub black-goes : (rows mid w : Rows) (o p : Option OpenMarking) (n k : ℕ) (m mm : Mirrors) (es after : List Entry) (made : Made) → mid ≡ with_black rows mid.rows
    → GoesOn peer_rules (state_with es mid o n m) made (sweep_of (drop (length mid.rows.heap.freed) w.rows.heap.freed)) (state_with after w p k mm)
    → GoesOn peer_rules (state_with es rows o n m) made (sweep_of (drop (length rows.rows.heap.freed) w.rows.heap.freed)) (state_with after w p k mm)
black-goes rows mid w o p n k m mm es after made is goes = subst
    (λ (z : Rows). GoesOn peer_rules (state_with es z o n m) made (sweep_of (drop (length z.rows.heap.freed) w.rows.heap.freed)) (state_with after w p k mm)) is goes

pub black-ended : (rows mid : Rows) (o : Option OpenMarking) (es : List Entry) (t : Thread) (j : Number)
    → mid ≡ with_black rows mid.rows → MarkingIsEnded (marking_in rows.issued es o) t j → MarkingIsEnded (marking_in mid.issued es o) t j
black-ended rows mid o es t j is e = subst (λ (z : Rows). MarkingIsEnded (marking_in z.issued es o) t j) (sym is) e

-- what a slice does to the list of grey peers
abbrev pub IsBlackened : Rows → ℕ → ℕ → Rows → ℕ → Type 0
IsBlackened rows head count w next = (greys : List ℕ) → Chained rows.rows.marks rows.rows.links head greys → BlackensTo (EdgeOf rows.rows) count rows.rows.marks greys w.rows.marks w.rows.links next

-- and the marking goes on
pub AreGoing-black : (rows w : Rows) (o : Option OpenMarking) (head next n count : ℕ) (m : Mirrors) (stock : Stock) → w ≡ with_black rows w.rows
    → IsSide rows o n m stock → IsBlackened rows head count w next → AreGoing rows o head n m stock.entries → AreGoing w o next n m stock.entries
AreGoing-black rows w o head next n count m stock is side steps going = record {
  list = list-blackened (EdgeOf rows.rows) count rows.rows.marks rows.rows.links head w.rows.marks w.rows.links next going.list steps;
  going = λ mk q.
      let es = stock.entries in
      let s = state_with es rows o n m in
      let open' : marking_in rows.issued es o ≡ Some mk = ap (λ (z : Rows). marking_in z.issued es o) (sym is) ∙ q in
      let g = going.going mk open' in
      let y = steps g.greys g.chained in
      let right = going-blackens s mk rows.rows.follows count rows.rows.marks w.rows.marks g.greys y.waits side.kept open' y.steps g.right in
      let there : AreMarksGoing (state_with es (with_black rows w.rows) o n m) mk rows.rows.follows w.rows.marks y.waits = going-same s
      (state_with es (with_black rows w.rows) o n m) mk rows.rows.follows w.rows.marks y.waits refl refl refl right in
      record {
        greys = y.waits;
        chained = y.chained;
        right = subst (λ f. AreMarksGoing (state_with es w o n m) mk f w.rows.marks y.waits) (sym (ap (λ (z : Rows). z.rows.follows) is))
            (subst (λ (z : Rows). AreMarksGoing (state_with es z o n m) mk rows.rows.follows w.rows.marks y.waits) (sym is) there);
      };
}

-- so many of them were made black, as the colours show it
pub sliced-by : (rows w : Rows) (o : Option OpenMarking) (head next n most count : ℕ) (m : Mirrors) (es : List Entry)
    → w ≡ with_black rows w.rows → IsBlackened rows head count w next → AreGoing rows o head n m es → count ≤ most → (count < most → next ≡ 0)
    → IsSliced most (state_with es rows o n m) (colours_of rows.rows head) (colours_of w.rows next)
sliced-by rows w o head next n most count m es is steps going few end =
    let y = steps going.list.0 going.list.1 in
    let old = grey-list rows.rows.marks rows.rows.links head going.list.0 going.list.1 in
    let new = grey-list w.rows.marks w.rows.links next y.waits y.chained in
    record {
      count = count;
      most = few;
      steps = subst (λ l. Blackens (EdgeOf rows.rows) count rows.rows.marks l w.rows.marks (greys w.rows.links (length w.rows.marks) next))
          (sym old) (subst (λ l. Blackens (EdgeOf rows.rows) count rows.rows.marks going.list.0 w.rows.marks l) (sym new) y.steps);
      left = λ less. ap (λ k. greys w.rows.links (length w.rows.marks) k) (end less) ∙ none-grey w.rows.links (length w.rows.marks);
      follows = ap (λ (z : Rows). z.rows.follows) is;
    }

-- the answer of a slice tells whether a peer is grey still
pub end-told : (end : SliceEnd) (m : List Bool) (l : List ℕ) (h : ℕ) (xs : List ℕ) → Chained m l h xs → (h ≡ 0 → end ≡ Done) → (h ≢ 0 → end ≡ More) → IsEndOf end (greys l (length m) h)
end-told end m l h xs c done more = elim (cases_eq h 0) [
  | inl e ↦ subst (λ z. IsEndOf z (greys l (length m) h)) (sym (done e)) (ap (λ k. greys l (length m) k) e ∙ none-grey l (length m))
  | inr n ↦ subst (λ z. IsEndOf z (greys l (length m) h)) (sym (more n)) (λ e. n (chained-some m l h xs c (sym (grey-list m l h xs c) ∙ e)))
]

-- no peer of it is grey
all-black : (rows : Rows) (o : OpenMarking) (head n : ℕ) (m : Mirrors) (stock : Stock) → AreGoing rows (Some o) head n m stock.entries → head ≡ 0
    → AreMarksGoing (state_with stock.entries rows (Some o) n m) (marking_as rows.issued stock.entries o) rows.rows.follows rows.rows.marks []
all-black rows o head n m stock going none =
    let g = opened rows o head n m stock going in
    let empty = chained-none rows.rows.marks rows.rows.links g.greys (subst (λ k. Chained rows.rows.marks rows.rows.links k g.greys) none g.chained) in
    subst (λ l. AreMarksGoing (state_with stock.entries rows (Some o) n m) (marking_as rows.issued stock.entries o) rows.rows.follows rows.rows.marks l) empty g.right

-- a marking that may be ended and has no grey peer is at its end
pub ended-whole : (rows : Rows) (o : Option OpenMarking) (head n : ℕ) (m : Mirrors) (stock : Stock) (t : Thread) (j : Number) → IsSide rows o n m stock
    → AreGoing rows o head n m stock.entries → head ≡ 0 → MarkingIsEnded (marking_in rows.issued stock.entries o) t j → IsWholeMarking rows
ended-whole rows None head n m stock t j side going none e = absurd e
ended-whole rows (Some o) head n m stock t j side going none e =
    let mk = marking_as rows.issued stock.entries o in
    whole-side (mirror_state stock.entries m) rows (marking_in rows.issued stock.entries (Some o)) n mk (record { kept = side.kept; opened = refl; right = all-black rows o head n m stock going none })

-- what was freed before a sweep is freed after it
pub freed-less : (old w : Rows) → w ≡ with_swept old w.rows → length old.rows.heap.freed ≤ length w.rows.heap.freed
freed-less old w rest = omega (arith, ap (λ (z : Rows). length z.rows.heap.freed) rest, length-append old.rows.heap.freed (drop (length old.rows.heap.freed) w.rows.heap.freed))

-- an open marking owes an entry, for which there is room
pub ended-spare : (rows : Rows) (o : Option OpenMarking) (n : ℕ) (m : Mirrors) (stock : Stock) (t : Thread) (j : Number)
    → IsSide rows o n m stock → MarkingIsEnded (marking_in rows.issued stock.entries o) t j → 1 ≤ stock.spare
ended-spare rows None n m stock t j side e = absurd e
ended-spare rows (Some o) n m stock t j side e = (let had : rows.tabled + 1 + owes m ≤ stock.spare = side.room in omega (arith, had))

-- what a sweep freed
abbrev freed-by : Rows → Rows → List ℕ
freed-by old w = drop (length old.rows.heap.freed) w.rows.heap.freed

-- an end leads to the state without a marking
module _ (old w : Rows) (opens : OpenMarking) (n : ℕ) (m : Mirrors) (stock : Stock) (after : List Entry) (t : Thread) (head : ℕ) (side : IsSide old (Some opens) n m stock)
    (going : AreGoing old (Some opens) head n m stock.entries) (black : head ≡ 0) (rest : w ≡ with_swept old w.rows) (still : mirror_state after m ≡ mirror_state stock.entries m) where
  swept-end : (swept_of (state_with stock.entries old (Some opens) n m) (marking_as old.issued stock.entries opens) (freed-by old w)).state ≡ state_with after w None n m
  swept-end = closed-state (mirror_state stock.entries m) old w (marking_in old.issued stock.entries (Some opens)) n (marking_as old.issued stock.entries opens) rest
      ∙ ap (λ z. with_marking z w None n) (sym still)

  swept-sweep : AreWhite old.rows (freed-by old w) → IsSweep (state_with stock.entries old (Some opens) n m) (marking_as old.issued stock.entries opens) (freed-by old w)
  swept-sweep white = closed-sweep (mirror_state stock.entries m) old (marking_in old.issued stock.entries (Some opens)) n
      (marking_as old.issued stock.entries opens) (freed-by old w) (all-black old opens head n m stock going black) white

  swept-goes : (i : ℕ) (j : Number) (span : Span) → AreWhite old.rows (freed-by old w) → ((t ≡ C) ⊎ (t ≡ opens.by))
      → (IsPeerThread t ⊎ IsDriver t) → j.0 ≡ opens.number.0 → span.first ≡ length old.rows.heap.freed → span.count ≡ length (freed-by old w)
      → GoesOn peer_rules (state_with stock.entries old (Some opens) n m) (ends t i j span) (sweep_of (freed-by old w)) (state_with after w None n m)
  swept-goes i j span white may caller number first count =
      let old-state = state_with stock.entries old (Some opens) n m in
      let mk = marking_as old.issued stock.entries opens in
      let s = state_with after w None n m in
      let named : j ≡ record { 0 = opens.number.0 } = ap (λ (k : ℕ). (let q : Number = record { 0 = k } in q)) number in
      let starts : span ≡ record { first = length old.rows.heap.freed; count = span.count } = ap (λ (k : ℕ). (let q : Span = record { first = k; count = span.count } in q)) first in
      let spans : span ≡ record { first = length old.rows.heap.freed; count = length (freed-by old w) } = starts
      ∙ ap (λ (k : ℕ). (let q : Span = record { first = length old.rows.heap.freed; count = k } in q)) count in
      let chosen : swept old-state (Some mk) t (freed-by old w) ≡ swept_of old-state mk (freed-by old w) = ap
      (λ (b : Bool). if b then swept_of old-state mk (freed-by old w) else answer (says.MarkOpen record { 0 = mk.number }) old-state) (may-end t opens.by may) in
      let e : peer_answer old-state t op.Sweep None (sweep_of (freed-by old w)) ≡ answer (says.Swept j span) s =
      chosen
      ∙ (ap (λ z. answer (swept_of old-state mk (freed-by old w)).reply z) swept-end
      ∙ (ap (λ (z : Number). answer (says.Swept z record { first = length old.rows.heap.freed; count = length (freed-by old w) }) s) (sym named)
      ∙ ap (λ (z : Span). answer (says.Swept j z) s) (sym spans))) in
      goes-told old-state s (ends t i j span) (sweep_of (freed-by old w)) (record { event = caller; side = refl }) (may, swept-sweep white) e

-- what is mirrored stays at a begin and at an end
pub begin-still : (rows : Rows) (o : Option OpenMarking) (n : ℕ) (m : Mirrors) (stock : Stock) (after : List Entry) (k : ℕ) (made : Made)
    → IsSide rows o n m stock → after ≡ stock.entries ++ numbered k made ∷ [] → IsMarkEvent made.op → mirror_state after m ≡ mirror_state stock.entries m
begin-still rows o n m stock after k made side added event = ap (λ l. mirror_state l m) added ∙ state-still stock.entries (numbered k made) m side.mirrored (mark-quiet made.op event)

-- what is owed to the cycle's own marking is no part of the state
marked-same : (es : List Entry) (o : Option OpenMirror) → mirror_in es (option_map marked_one o) ≡ mirror_in es o
marked-same es None = refl
marked-same es (Some x) = refl

begun-same : (es : List Entry) (own : Bool) (m : Mirrors) → mirror_state es (mirrors_begun own m) ≡ mirror_state es m
begun-same es true m = ap (λ (z : Option Mirror). (let s : PeerReplay = record opening_peer_replay { mirror = z; mirrors = mirrors_in es } in s)) (marked-same es m.mirror)
begun-same es false m = refl

pub begun-with : (es : List Entry) (own : Bool) (m : Mirrors) (w : Rows) (o : Option OpenMarking) (n : ℕ) → state_with es w o n (mirrors_begun own m) ≡ state_with es w o n m
begun-with es own m w o n = ap (λ z. with_marking z w (marking_in w.issued es o) n) (begun-same es own m)

pub own-goes : (old w : Rows) (o : Option OpenMarking) (opens : OpenMarking) (n k : ℕ) (m : Mirrors) (own : Bool) (es after : List Entry) (made : Made) (told : Told)
    → GoesOn peer_rules (state_with es old o n m) made told (state_with after w (Some opens) k m)
    → GoesOn peer_rules (state_with es old o n m) made told (state_with after w (Some opens) k (mirrors_begun own m))
own-goes old w o opens n k m own es after made told goes = subst (λ (z : PeerReplay). GoesOn peer_rules (state_with es old o n m) made told z) (sym (begun-with after own m w (Some opens) k)) goes

-- and the cycle stays as it is but for that
marked-there : (es : List Entry) (o : Option OpenMirror) → AreMirrored es o → AreMirrored es (option_map marked_one o)
marked-there es None a = tt
marked-there es (Some x) a = record { from = a.from; due = a.due }

begun-there : (es : List Entry) (own : Bool) (m : Mirrors) → AreMirrored es m.mirror → AreMirrored es (mirrors_begun own m).mirror
begun-there es true m a = marked-there es m.mirror a
begun-there es false m a = a

begun-room : (own : Bool) (m : Mirrors) → length (mirrors_begun own m).waiting + (mirrors_begun own m).room ≡ length m.waiting + m.room
begun-room true m = refl
begun-room false m = refl

begun-temps : (own : Bool) (m : Mirrors) → (mirrors_begun own m).temps ≡ m.temps
begun-temps true m = refl
begun-temps false m = refl

begun-none : (own : Bool) (m : Mirrors) → (mirrors_begun own m).mirror ≡ None → m.mirror ≡ None
begun-none true m e = by m.mirror e
  where
    by : (o : Option OpenMirror) → option_map marked_one o ≡ None → o ≡ None
    by None e = refl
    by (Some x) e = absurd (none_some (marked_one x) (sym e))
begun-none false m e = e

begun-waiting : (own : Bool) (m : Mirrors) → (mirrors_begun own m).waiting ≡ m.waiting
begun-waiting true m = refl
begun-waiting false m = refl

-- the side after a begin
pub IsSide-begun : (old w : Rows) (o : Option OpenMarking) (opens : OpenMarking) (n : ℕ) (m : Mirrors) (own : Bool) (stock later : Stock) (k floor : ℕ) (t : Thread) (i : ℕ) (j : Number)
    → IsSide old o n m stock → w ≡ with_begun old w.rows
    → marking_in old.issued stock.entries o ≡ None → opens.number.0 ≡ n + 1 → opens.by ≡ t → opens.from ≡ length later.entries → opens.begin.value ≡ old → opens.blackened ≡ 0 → j.0 ≡ n + 1
    → (IsPeerThread t ⊎ IsDriver t) → later.entries ≡ stock.entries ++ numbered k (begins t i j) ∷ [] → AllBelow stock.entries floor → floor ≤ k
    → old.tabled + 1 + owes (mirrors_begun own m) ≤ later.spare → length later.entries + later.spare ≤ 4294967295 → IsSide w (Some opens) (n + 1) (mirrors_begun own m) later
IsSide-begun old w o opens n m own stock later k floor t i j side rest closed number thread from begin unsliced place caller added below above room limit =
    let tabled : w.tabled ≡ old.tabled = ap (λ (z : Rows). z.tabled) rest in
    let roomy : w.tabled + 1 + owes (mirrors_begun own m) ≤ later.spare = omega (arith, room, tabled) in
    let started : opens.from ≤ length later.entries = omega (arith, from) in
    let still = begin-still old o n m stock later.entries k (begins t i j) side added tt in
    let quiet = mark-quiet op.Begin tt in
    IsSide-told old w o (Some opens) n (n + 1) m (mirrors_begun own m) stock later k floor (begins t i j) nothing added below above
    (own-goes old w o opens n (n + 1) m own stock.entries later.entries (begins t i j) nothing
    (begun-goes old w opens n m stock.entries later.entries t rest number thread from begin unsliced still o i j closed place caller)) tt
    roomy limit (omega arith) started
    (begun-there later.entries own m (mirrored-still stock.entries later.entries (numbered k (begins t i j)) m.mirror added side.mirrored quiet))
    (known-next old.issued w.issued stock.entries later.entries (numbered k (begins t i j)) added (not-grown old.issued w.issued (ap (λ (z : Rows). z.issued) rest)) quiet side.known)
    (omega (arith, ap (λ (z : Rows). length z.issued) rest))
    (λ e. ap (λ (z : Rows). z.rows.refs) rest ∙ side.bare (begun-none own m e))
    (omega (arith, side.refs_room, begun-room own m, ap (λ (z : Rows). z.rows.room) rest))
    (omega (arith, side.temps_room, begun-temps own m, ap (λ (z : Rows). z.rows.temps) rest))
    (subst (λ l. AreWithin w.rows.temps l) (sym (begun-waiting own m)) (subst (λ n. AreWithin n m.waiting) (sym (ap (λ (z : Rows). z.rows.temps) rest)) side.temps_within))
    (omega (arith, side.few_refs, ap (λ (z : Rows). length z.rows.refs) rest)) side

-- a root is live
pub root-live : (rows : Rows) (o : Option OpenMarking) (n : ℕ) (m : Mirrors) (stock : Stock) → IsSide rows o n m stock
    → (p : ℕ) → IsRoot rows.rows.heap (strong_peers rows.issued rows.table) p → IsLive rows.rows.heap p
root-live rows o n m stock side p r = elim r [ inl i ↦ side.kept.heap.slots p i | inr c ↦ strong-live (state_with stock.entries rows o n m) side.kept p c ]

-- and its roots are grey
pub AreGoing-begun : (old w : Rows) (o : Option OpenMarking) (opens : OpenMarking) (head n : ℕ) (m : Mirrors) (own : Bool)
    (stock : Stock) (after : List Entry) (k : ℕ) (t : Thread) (i : ℕ) (j : Number) → IsSide old o n m stock → w ≡ with_begun old w.rows
    → AreRootsGrey (IsRoot old.rows.heap (strong_peers old.issued old.table)) w.rows.marks w.rows.links head → opens.number.0 ≡ n + 1 → opens.by ≡ t → opens.from ≡ length after
    → opens.begin.value ≡ old → opens.blackened ≡ 0 → after ≡ stock.entries ++ numbered k (begins t i j) ∷ [] → AreGoing w (Some opens) head (n + 1) (mirrors_begun own m) after
AreGoing-begun old w o opens head n m own stock after k t i j side rest roots number thread from begin unsliced added = record {
  list = (roots.greys, roots.chained);
  going = λ mk q.
      let still = begin-still old o n m stock after k (begins t i j) side added tt in
      subst (λ (z : PeerReplay). IsGoing z mk w.rows head) (sym (begun-with after own m w (Some opens) (n + 1)))
      (begun-going old w opens n m stock.entries after t rest number thread from begin unsliced still head roots (root-live old o n m stock side) mk q);
}

-- the entry of a sweep may come next
pub side-swept : (old w : Rows) (o : Option OpenMarking) (n : ℕ) (m : Mirrors) (stock : Stock) (after : List Entry) (k : ℕ) (t : Thread) (i : ℕ) (j : Number) (span : Span) (head : ℕ)
    → IsSide old o n m stock → AreGoing old o head n m stock.entries → head ≡ 0 → w ≡ with_swept old w.rows → AreWhite old.rows (drop (length old.rows.heap.freed) w.rows.heap.freed)
    → MarkingIsEnded (marking_in old.issued stock.entries o) t j → (IsPeerThread t ⊎ IsDriver t) → span.first ≡ length old.rows.heap.freed
    → span.count ≡ length (drop (length old.rows.heap.freed) w.rows.heap.freed) → after ≡ stock.entries ++ numbered k (ends t i j span) ∷ []
    → GoesOn peer_rules (state_with stock.entries old o n m) (ends t i j span) (sweep_of (drop (length old.rows.heap.freed) w.rows.heap.freed)) (state_with after w None n m)
side-swept old w None n m stock after k t i j span head side going black rest white may caller first count added = absurd may
side-swept old w (Some opens) n m stock after k t i j span head side going black rest white may caller first count added =
    let still = begin-still old (Some opens) n m stock after k (ends t i j span) side added tt in
    swept-goes old w opens n m stock after t head side going black rest still i j span white may.0 caller may.1 first count

-- and the side after it
pub IsSide-swept : (old w : Rows) (o : Option OpenMarking) (n : ℕ) (m : Mirrors) (stock later : Stock) (k floor : ℕ) (t : Thread) (i : ℕ) (j : Number) (span : Span) (head : ℕ)
    → IsSide old o n m stock → AreGoing old o head n m stock.entries → head ≡ 0 → w ≡ with_swept old w.rows → AreWhite old.rows (drop (length old.rows.heap.freed) w.rows.heap.freed)
    → MarkingIsEnded (marking_in old.issued stock.entries o) t j → (IsPeerThread t ⊎ IsDriver t)
    → span.first ≡ length old.rows.heap.freed → span.count ≡ length (drop (length old.rows.heap.freed) w.rows.heap.freed)
    → later.entries ≡ stock.entries ++ numbered k (ends t i j span) ∷ [] → AllBelow stock.entries floor → floor ≤ k → later.spare + 1 ≡ stock.spare → IsSide w None n m later
IsSide-swept old w None n m stock later k floor t i j span head side going black rest white may caller first count added below above spare = absurd may
IsSide-swept old w (Some opens) n m stock later k floor t i j span head side going black rest white may caller first count added below above spare =
    let tabled : w.tabled ≡ old.tabled = ap (λ (z : Rows). z.tabled) rest in
    let had : old.tabled + 1 + owes m ≤ stock.spare = side.room in
    let roomy : w.tabled + 0 + owes m ≤ later.spare = omega (arith, spare, had, tabled) in
    IsSide-next old w (Some opens) None n n m stock later k floor (ends t i j span) (sweep_of (drop (length old.rows.heap.freed) w.rows.heap.freed)) added below above
    (side-swept old w (Some opens) n m stock later.entries k t i j span head side going black rest white may caller first count added) tt
    roomy
    (omega (arith, spare, side.limit, ap length added, length_push stock.entries (numbered k (ends t i j span))))
    (omega arith) tt
    (mark-quiet op.Sweep tt) (ap (λ (z : Rows). z.issued) rest) (ap (λ (z : Rows). z.rows.room) rest) (ap (λ (z : Rows). z.rows.temps) rest) (ap (λ (z : Rows). z.rows.refs) rest) side

-- no marking is open then, and none is grey
pub AreGoing-swept : (w : Rows) (head n : ℕ) (m : Mirrors) (after : List Entry) → head ≡ 0 → AreGoing w None head n m after
AreGoing-swept w head n m after black = record { list = ([], record { chain = black; marked = λ k c. absurd (Contains-nil k c) }); going = λ mk e. absurd (none_some mk e) }

-- what the side tells of its marking
pub none-open : (o : Option Marking) → IsMarkingOf None o → o ≡ None
none-open None w = refl
none-open (Some mk) w = absurd w

pub none-told : (o : Option Marking) → IsMarkingOf None o → IsSome o → ⊥
none-told None w some = true≢false (sym some)
none-told (Some mk) w some = absurd w

pub some-told : (p : Number × Thread) (o : Option Marking) → IsMarkingOf (Some p) o → IsSome o
some-told p None w = absurd w
some-told p (Some mk) w = refl

pub open-fault : (p : Number × Thread) (o : Option Marking) → IsMarkingOf (Some p) o → IsFaultAt (MarkOpen p.0) o
open-fault p None w = absurd w
open-fault p (Some mk) w = w.0

pub memory-fault : (o : Option Marking) → o ≡ None → IsFaultAt OutOfMemory o
memory-fault o e = subst (λ z. IsFaultAt OutOfMemory z) (sym e) tt

pub open-ended : (p : Number × Thread) (o : Option Marking) (t : Thread) → IsMarkingOf (Some p) o → MayEnd o t → MarkingIsEnded o t p.0
open-ended p None t w may = absurd w
open-ended p (Some mk) t w may = (may, w.0)

-- a begin or a sweep that is refused leaves the marking
marking-still : (o : Option Marking) (e : Op) (r : Reply) → IsMarkEvent e → marking_after o e r ≡ o
marking-still o op.Begin r w = refl
marking-still o op.Sweep r w = refl
marking-still o _ r w = absurd w

mark-side : (t : Thread) (e : Op) → IsMarkEvent e → (IsPeerThread t ⊎ IsDriver t) → IsEvent t e × (is_peer_event t e ≡ true)
mark-side t op.Begin w caller = (caller, refl)
mark-side t op.Sweep w caller = (caller, refl)
mark-side t _ w caller = absurd w

module _ (rows : Rows) (o : Option OpenMarking) (n : ℕ) (m : Mirrors) (stock : Stock) (after : List Entry) (k : ℕ) (made : Made) (side : IsSide rows o n m stock)
    (added : after ≡ stock.entries ++ numbered k made ∷ []) (passes : RefusesMarking (state_with stock.entries rows o n m) made) where
  pass-marking : marking_in rows.issued after o ≡ marking_in rows.issued stock.entries o
  pass-marking =
      ap (λ l. marking_in rows.issued l o) added
      ∙ (marking-next rows.issued rows.issued stock.entries (numbered k made) o (not-grown rows.issued rows.issued refl) side.known side.from (mark-quiet made.op passes.event)
      ∙ marking-still (marking_in rows.issued stock.entries o) made.op made.reply passes.event)

  pass-state : state_with after rows o n m ≡ state_with stock.entries rows o n m
  pass-state =
      ap (λ z. with_marking z rows (marking_in rows.issued after o) n) (begin-still rows o n m stock after k made side added passes.event)
      ∙ ap (λ mk. with_marking (mirror_state stock.entries m) rows mk n) pass-marking

  pub pass-goes : GoesOn peer_rules (state_with stock.entries rows o n m) made nothing (state_with after rows o n m)
  pass-goes =
      let here = mark-side made.caller made.op passes.event passes.caller in
      goes-told (state_with stock.entries rows o n m) (state_with after rows o n m) made nothing
      (record { event = here.0; side = here.1 }) passes.allowed (passes.answers ∙ ap (λ s. answer made.reply s) (sym pass-state))

  pub pass-going : (head : ℕ) → AreGoing rows o head n m stock.entries → AreGoing rows o head n m after
  pass-going head going = AreGoing-same rows rows o head n m m stock.entries after refl refl refl refl refl pass-marking going

pub IsSide-pass : (rows : Rows) (o : Option OpenMarking) (n : ℕ) (m : Mirrors) (stock later : Stock) (k floor : ℕ) (made : Made) → IsSide rows o n m stock
    → later.entries ≡ stock.entries ++ numbered k made ∷ [] → RefusesMarking (state_with stock.entries rows o n m) made → AllBelow stock.entries floor → floor ≤ k
    → rows.tabled + owed o + owes m ≤ later.spare → length later.entries + later.spare ≤ 4294967295 → IsSide rows o n m later
IsSide-pass rows o n m stock later k floor made side added passes below above room limit =
    IsSide-next rows rows o o n n m stock later k floor made nothing added below above (pass-goes rows o n m stock later.entries k made side added passes)
    (safe-nothing (state_with stock.entries rows o n m) made.op) room limit (omega arith)
    (from-more o (length stock.entries) (length later.entries) (omega (arith, ap length added, length_push stock.entries (numbered k made))) side.from)
    (mark-quiet made.op passes.event) refl refl refl refl side
