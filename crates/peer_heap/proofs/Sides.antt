-- A side stays one over each event of a step: the list goes on by its entry, the state is the one after it and stays
-- kept, and an open marking goes on.
use Rattle.std.proofs.Common.{◌≡◌, ℕ, ◌+◌, ◌≤◌, ◌⊎◌, inl, inr, Bool, true, List, [], ◌∷◌, ◌++◌, length, drop, Option, Some, None, refl, sym, ap, subst, ◌∙◌, arith, length-append}
use Rattle.std.specs.Option.{is_some}
use Rattle.std.specs.Prelude.{flat_map, All, Contains}
use Rattle.std.proofs.lemmas.List.{append-nil, drop-append-le, length_push}
use Rattle.std.proofs.lemmas.List.Concat.{flat_map-append}
use Rattle.std.proofs.lemmas.List.Elements.{All-nil}
use Rattle.std.proofs.lemmas.Option.{same_Some}
use Rattle.joint_machine.specs.declared.lines.Act.TheVariants as act
use Rattle.joint_machine.specs.declared.events.Entry.{Entry}
use Rattle.joint_machine.specs.declared.events.Made.{Made}
use Rattle.joint_machine.specs.declared.events.Op.{Op}
use Rattle.joint_machine.specs.declared.events.Op.TheVariants as op
use Rattle.joint_machine.specs.declared.events.Reply.{Reply}
use Rattle.joint_machine.specs.declared.events.Reply.TheVariants as says
use Rattle.joint_machine.specs.Draws.{AllBelow, numbered}
use Rattle.joint_machine.specs.Components.{temporary}
use Rattle.joint_machine.specs.declared.names.Thread.{Thread}
use Rattle.joint_machine.specs.Heaps.{Heap, Answered, answer, place, place_or_none}
use Rattle.joint_machine.specs.Run.{thread_number}
use Rattle.joint_machine.specs.Peers.{Issued}
use Rattle.joint_model.specs.Listed.{Stock}
use Rattle.joint_machine.specs.PeerReplay.{PeerReplay, Marking, PeerAllows, peer_answer}
use Rattle.joint_machine.specs.Sides.{GoesOn, peer_rules}
use Rattle.joint_machine.specs.Told.{nothing}
use Rattle.joint_machine.proofs.Deciding.{none_some}
use Rattle.joint_machine.proofs.Members.{Contains-nil}
use Rattle.joint_laws.proofs.OneRun.{cons-nil}
use Rattle.joint_laws.proofs.PeerEvents.{target-live}
use Rattle.joint_laws.proofs.PeerMoves.{PeerInvariant-opening}
use Rattle.row_heap.specs.Marks.{overwritten}
use Rattle.row_marking.specs.Traces.{IsGreyList}
use Rattle.row_heap.specs.Rows.{HeapRows}
use Rattle.peer_heap.specs.declared.side.OpenMarking.{OpenMarking}
use Rattle.peer_heap.specs.Marks.{IsGoing, IsShaded, MarksNew, MarksBrought, MarksAfter, mark_by, mark_after}
use Rattle.peer_heap.specs.MirrorLaws.{HasFurther}
use Rattle.peer_heap.specs.Mirrors.{AreWithin, Mirrors, no_mirrors, owes}
use Rattle.peer_heap.specs.Rows.{Rows, AreTargetsLive, GoesBy, no_rows, with_rows, marking_by, marking_after}
use Rattle.peer_heap.specs.Sides.{AreGoing, IsSide, IsFrom, IsKnown, named_in, brought_at, brought_since, marking_as, marking_in, mirror_state, state_with, owed}
use Rattle.peer_heap.specs.Steps.{IsPeerStep}
use Rattle.peer_heap.proofs.Going.{going-still, greyed-list}
use Rattle.peer_heap.proofs.Grown.{issued-grows, room-after}
use Rattle.peer_heap.proofs.Marks.{marks-step}
use Rattle.peer_heap.proofs.Quiet.{IsQuiet, brought-more, known-next, mirrored-still, state-still, step-quiet}
use Rattle.peer_heap.proofs.Steps.{step-side, goes-step, replayed-told, kept-step, no-marking}

-- a new side is the replay of no entry
pub IsSide-opening : (rows : Rows) (m : Mirrors) (stock : Stock) → rows ≡ no_rows → m ≡ no_mirrors → stock.entries ≡ [] → stock.spare ≤ 4294967295 → IsSide rows None 0 m stock
IsSide-opening rows m stock none still empty few = rw (none, still) (record {
  replayed = rw empty (record { rise = tt; noted = []; same = refl; leads = refl });
  kept = rw empty PeerInvariant-opening;
  room = (let z : 0 + 0 + 0 ≤ stock.spare = omega arith in z);
  limit = rw empty (omega arith);
  few = omega arith;
  from = tt;
  mirrored = tt;
  known = rw empty (All-nil (IsKnown []));
  issued = omega arith;
  bare = λ e. refl;
  refs_room = omega arith;
  temps_room = omega arith;
  temps_within = λ t e c. elim c [ inl w ↦ absurd (Contains-nil (temporary t, e) w) | inr w ↦ absurd (Contains-nil (e, temporary t) w) ];
  few_refs = omega arith;
})

-- a new side has no grey peer
pub AreGoing-opening : (rows : Rows) (m : Mirrors) (es : List Entry) → AreGoing rows None 0 0 m es
AreGoing-opening rows m es = record { list = ([], record { chain = refl; marked = λ k c. absurd (Contains-nil k c) }); going = λ mk e. absurd (none_some mk e) }

-- what the state shows of an open marking
pub opened : (rows : Rows) (o : OpenMarking) (head n : ℕ) (m : Mirrors) (stock : Stock) → AreGoing rows (Some o) head n m stock.entries
    → IsGoing (state_with stock.entries rows (Some o) n m) (marking_as rows.issued stock.entries o) rows.rows head
opened rows o head n m stock going = going.going (marking_as rows.issued stock.entries o) refl

-- room for references and entries, and what else doesn't stand in the state, leaves a marking as it is
pub AreGoing-same : (rows w : Rows) (o : Option OpenMarking) (head n : ℕ) (m mm : Mirrors) (es after : List Entry) → w.rows.heap ≡ rows.rows.heap
    → w.rows.refs ≡ rows.rows.refs → w.rows.marks ≡ rows.rows.marks → w.rows.links ≡ rows.rows.links → w.rows.follows ≡ rows.rows.follows
    → marking_in w.issued after o ≡ marking_in rows.issued es o → AreGoing rows o head n m es → AreGoing w o head n mm after
AreGoing-same rows w o head n m mm es after heap refs marks links follows marking going = record {
  list = subst (λ l. IsGreyList w.rows.marks l head) (sym links) (subst (λ z. IsGreyList z rows.rows.links head) (sym marks) going.list);
  going = λ mk q. going-still (state_with es rows o n m) (state_with after w o n mm) mk rows.rows w.rows head
      (ap (λ (h : Heap). h.fields) heap) (ap (λ (h : Heap). h.freed) heap) refs marks links follows (going.going mk (sym marking ∙ q));
}

-- what a handle of the table leads to is live
pub targets-live : (rows : Rows) (o : Option OpenMarking) (n : ℕ) (m : Mirrors) (stock : Stock) → IsSide rows o n m stock → AreTargetsLive rows
targets-live rows o n m stock side = λ h p e. target-live (state_with stock.entries rows o n m) h p side.kept e

-- what an entry brings back comes last
pub since-push : (issued : List Issued) (n : ℕ) (es : List Entry) (e : Entry) → n ≤ length es
    → brought_since issued n (es ++ e ∷ []) ≡ brought_since issued n es ++ brought_at issued e.made.op e.made.reply
since-push issued n es e le =
    let f : Entry → List ℕ = λ z. brought_at issued z.made.op z.made.reply in
    ap (flat_map f) (drop-append-le n es (e ∷ []) le) ∙ (flat_map-append f (drop n es) (e ∷ []) ∙ ap (λ l. brought_since issued n es ++ l) (append-nil (f e)))

-- the marking after an entry, where handles were issued since
pub marking-push : (old new : List Issued) (es : List Entry) (e : Entry) (o : OpenMarking) → HasFurther old new → All (IsKnown old) es → o.from ≤ length es
    → marking_as new (es ++ e ∷ []) o ≡ record (marking_as old es o) { brought = brought_since old o.from es ++ brought_at new e.made.op e.made.reply }
marking-push old new es e o grown known from =
    ap (λ l. (let z : Marking = record (marking_as old es o) { brought = l } in z))
    (since-push new o.from es e from ∙ ap (λ l. l ++ brought_at new e.made.op e.made.reply) (brought-more old new o.from es grown known))

-- an event changes the marking by what it brings back
next-named : (mk : Marking) (r : Reply) → Some (record mk { brought = mk.brought ++ named_in r }) ≡ marking_by (Some mk) r
next-named mk (says.P p) = refl
next-named mk _ = ap (λ l. Some (record mk { brought = l })) (append-nil mk.brought)

next-mark : (issued : List Issued) (mk : Marking) (o : Op) (r : Reply) → IsQuiet o → Some (record mk { brought = mk.brought ++ brought_at issued o r }) ≡ marking_after (Some mk) o r
next-mark issued mk (op.Line (act.WRead v g)) r q = next-named mk r
next-mark issued mk (op.Land h x) r q = next-named mk r
next-mark issued mk (op.Restore h) r q = absurd (cons-nil h.0 [] q.restores)
next-mark issued mk _ r q = ap (λ l. Some (record mk { brought = l })) (append-nil mk.brought)

pub marking-next : (old new : List Issued) (es : List Entry) (e : Entry) (o : Option OpenMarking) → HasFurther old new → All (IsKnown old) es
    → IsFrom o (length es) → IsQuiet e.made.op → marking_in new (es ++ e ∷ []) o ≡ marking_after (marking_in old es o) e.made.op e.made.reply
marking-next old new es e None grown known from q = sym (no-marking e.made.op e.made.reply)
marking-next old new es e (Some o) grown known from q = ap (λ z. Some z) (marking-push old new es e o grown known from) ∙ next-mark new (marking_as old es o) e.made.op e.made.reply q

-- the marking after an event, as an open one
by-some : (mk : Marking) (r : Reply) → marking_by (Some mk) r ≡ Some (mark_by mk r)
by-some mk (says.P p) = refl
by-some mk _ = refl

after-some : (mk : Marking) (o : Op) (r : Reply) → marking_after (Some mk) o r ≡ Some (mark_after mk o r)
after-some mk (op.Line (act.WRead v g)) r = by-some mk r
after-some mk (op.Land h x) r = by-some mk r
after-some mk _ r = refl

-- no event of a step touches the references
refs-new : (old : HeapRows) (r : Reply) (new : HeapRows) → MarksNew old r new → new.refs ≡ old.refs
refs-new old (says.P p) new m = m.refs
refs-new old (says.Made p h) new m = m.refs
refs-new old _ new m = ap (λ (v : HeapRows). v.refs) m

refs-brought : (b : Bool) (old : HeapRows) (before : ℕ) (r : Reply) (new : HeapRows) (after : ℕ) → MarksBrought b old before r new after → new.refs ≡ old.refs
refs-brought b old before (says.P p) new after m = m.refs
refs-brought b old before _ new after m = ap (λ (v : HeapRows). v.refs) m.0

pub refs-after : (b : Bool) (t : Thread) (old : HeapRows) (before : ℕ) (o : Op) (r : Reply) (new : HeapRows) (after : ℕ) → MarksAfter b t old before o r new after → new.refs ≡ old.refs
refs-after b t old before (op.Line (act.NewPeer v n)) r new after m = refs-new old r new m.0
refs-after b t old before (op.Make sort n) r new after m = refs-new old r new m.0
refs-after b t old before (op.Line (act.Set v i w)) r new after m = m.refs
refs-after b t old before (op.Line (act.WRead v g)) r new after m = refs-brought b old before r new after m
refs-after b t old before (op.Land h x) r new after m = refs-brought b old before r new after m
refs-after b t old before _ r new after m = ap (λ (v : HeapRows). v.refs) m.0

-- the marking and the mirrored cycle after the entry of a step, where the rows did its event
module _ (old new : Rows) (o : Option OpenMarking) (n : ℕ) (m : Mirrors) (stock : Stock) (after : List Entry) (e : Entry)
    (side : IsSide old o n m stock) (added : after ≡ stock.entries ++ e ∷ []) (step : IsPeerStep e.made.caller e.made.op)
    (goes : GoesBy old e.made.caller e.made.op e.made.reply new) (head next : ℕ) (marks : MarksAfter (is_some o) e.made.caller old.rows head e.made.op e.made.reply new.rows next) where
  quiet : IsQuiet e.made.op
  quiet = step-quiet e.made.caller e.made.op step

  pub grown : HasFurther old.issued new.issued
  grown =
      let s = state_with stock.entries old o n m in
      subst (λ (a : Answered PeerReplay). HasFurther old.issued a.state.peers.issued) (goes s e.made.cites) (issued-grows s e.made.caller e.made.op e.made.cites step)

  later-marking : marking_in new.issued after o ≡ marking_after (marking_in old.issued stock.entries o) e.made.op e.made.reply
  later-marking = ap (λ l. marking_in new.issued l o) added ∙ marking-next old.issued new.issued stock.entries e o grown side.known side.from quiet

  later-state : mirror_state after m ≡ mirror_state stock.entries m
  later-state = ap (λ l. mirror_state l m) added ∙ state-still stock.entries e m side.mirrored quiet

  -- the event, as one of the state
  side-answers : peer_answer (state_with stock.entries old o n m) e.made.caller e.made.op e.made.cites nothing ≡ answer e.made.reply (state_with after new o n m)
  side-answers =
      let s = state_with stock.entries old o n m in
      goes s e.made.cites
      ∙ (ap (λ k. answer e.made.reply (record (with_rows s new) { marking = k })) (sym later-marking)
      ∙ (ap (λ l. answer e.made.reply (record (with_rows (mirror_state stock.entries m) new) { refs = l; marking = marking_in new.issued after o; markings = n }))
      (sym (refs-after (is_some o) e.made.caller old.rows head e.made.op e.made.reply new.rows next marks))
      ∙ ap (λ z. answer e.made.reply (record (with_rows z new) { refs = new.rows.refs; marking = marking_in new.issued after o; markings = n })) (sym later-state)))

  pub step-goes : PeerAllows (state_with stock.entries old o n m) e.made.caller e.made.op e.made.cites nothing
      → GoesOn peer_rules (state_with stock.entries old o n m) e.made nothing (state_with after new o n m)
  step-goes allowed = goes-step (state_with stock.entries old o n m) (state_with after new o n m) e.made (step-side e.made e.made.caller e.made.op refl refl step) allowed side-answers

pub side-goes : (old new : Rows) (o : Option OpenMarking) (n : ℕ) (m : Mirrors) (stock : Stock) (after : List Entry) (k : ℕ) (made : Made)
    → IsSide old o n m stock → after ≡ stock.entries ++ numbered k made ∷ [] → IsPeerStep made.caller made.op → GoesBy old made.caller made.op made.reply new
    → (head next : ℕ) → MarksAfter (is_some o) made.caller old.rows head made.op made.reply new.rows next
    → PeerAllows (state_with stock.entries old o n m) made.caller made.op made.cites nothing → GoesOn peer_rules (state_with stock.entries old o n m) made nothing (state_with after new o n m)
side-goes old new o n m stock after k made side added step goes head next marks allowed = step-goes old new o n m stock after (numbered k made) side added step goes head next marks allowed

-- an open marking goes on
pub AreGoing-step : (old new : Rows) (o : Option OpenMarking) (head next n : ℕ) (m : Mirrors) (stock : Stock) (after : List Entry) (k : ℕ) (made : Made)
    → IsSide old o n m stock → after ≡ stock.entries ++ numbered k made ∷ [] → IsPeerStep made.caller made.op → GoesBy old made.caller made.op made.reply new
    → MarksAfter (is_some o) made.caller old.rows head made.op made.reply new.rows next
    → IsGreyList new.rows.marks new.rows.links next → AreGoing old o head n m stock.entries → AreGoing new o next n m after
AreGoing-step old new None head next n m stock after k made side added step goes marks list going = record { list = list; going = λ mk q. absurd (none_some mk q) }
AreGoing-step old new (Some o) head next n m stock after k made side added step goes marks list going = record { list = list; going = goes-on }
  where
    goes-on : (mk : Marking) → marking_in new.issued after (Some o) ≡ Some mk → IsGoing (state_with after new (Some o) n m) mk new.rows next
    goes-on mk q =
        let s = state_with stock.entries old (Some o) n m in
        let e : Entry = numbered k made in
        let before = marking_as old.issued stock.entries o in
        let told = side-answers old new (Some o) n m stock after e side added step goes head next marks in
        let on : MarksAfter true made.caller old.rows head made.op made.reply new.rows next → IsGoing (state_with after new (Some o) n m) (mark_after before made.op made.reply) new.rows next =
        subst (λ (a : Answered PeerReplay). MarksAfter true made.caller old.rows head made.op a.reply new.rows next → IsGoing a.state (mark_after before made.op a.reply) new.rows next) told
        (marks-step s before old.rows new.rows head next made.caller made.op made.cites step refl side.kept refl (opened old o head n m stock going)) in
        let later : Some (mark_after before made.op made.reply) ≡ Some mk = sym (after-some before made.op made.reply)
        ∙ (sym (later-marking old new (Some o) n m stock after e side added step goes head next marks) ∙ q) in
        subst (λ z. IsGoing (state_with after new (Some o) n m) z new.rows next) (same_Some (mark_after before made.op made.reply) mk later) (on marks)

-- the list of grey peers is one after an event: what it shaded came into it
shaded-list : (b : Bool) (these : ℕ → Type 0) (old : HeapRows) (before : ℕ) (new : HeapRows) (after : ℕ)
    → IsShaded b these old before new after → IsGreyList old.marks old.links before → IsGreyList new.marks new.links after
shaded-list b these old before new after sh list = greyed-list (λ k. (b ≡ true) × these k) old.marks old.links before new.marks new.links after sh.shaded list

same-list : (old : HeapRows) (before : ℕ) (new : HeapRows) (after : ℕ) → new ≡ record old { heap = new.heap }
    → after ≡ before → IsGreyList old.marks old.links before → IsGreyList new.marks new.links after
same-list old before new after is at list = subst (λ (v : HeapRows). IsGreyList v.marks v.links after) (sym is) (subst (λ k. IsGreyList old.marks old.links k) (sym at) list)

new-list : (old : HeapRows) (before : ℕ) (r : Reply) (new : HeapRows) (after : ℕ) → MarksNew old r new → after ≡ before → IsGreyList old.marks old.links before → IsGreyList new.marks new.links after
new-list old before (says.P p) new after m at list = subst (λ k. IsGreyList new.marks new.links k) (sym at) (list.0, m.chained before list.0 list.1)
new-list old before (says.Made p h) new after m at list = subst (λ k. IsGreyList new.marks new.links k) (sym at) (list.0, m.chained before list.0 list.1)
new-list old before _ new after m at list = same-list old before new after m at list

brought-list : (b : Bool) (old : HeapRows) (before : ℕ) (r : Reply) (new : HeapRows) (after : ℕ)
    → MarksBrought b old before r new after → IsGreyList old.marks old.links before → IsGreyList new.marks new.links after
brought-list b old before (says.P p) new after m list = shaded-list b (λ k. k ≡ p.0) old before new after m list
brought-list b old before _ new after m list = same-list old before new after m.0 m.1 list

pub list-after : (b : Bool) (t : Thread) (old : HeapRows) (before : ℕ) (o : Op) (r : Reply) (new : HeapRows) (after : ℕ)
    → MarksAfter b t old before o r new after → IsGreyList old.marks old.links before → IsGreyList new.marks new.links after
list-after b t old before (op.Line (act.NewPeer v n)) r new after m list = new-list old before r new after m.0 m.1 list
list-after b t old before (op.Make sort n) r new after m list = new-list old before r new after m.0 m.1 list
list-after b t old before (op.Line (act.Set v i w)) r new after m list = shaded-list b
    (λ k. overwritten old.heap (place (thread_number t) v.0) i (place_or_none (thread_number t) w) ≡ Some k) old before new after m list
list-after b t old before (op.Line (act.WRead v g)) r new after m list = brought-list b old before r new after m list
list-after b t old before (op.Land h x) r new after m list = brought-list b old before r new after m list
list-after b t old before _ r new after m list = same-list old before new after m.0 m.1 list

pub from-more : (o : Option OpenMarking) (a b : ℕ) → a ≤ b → IsFrom o a → IsFrom o b
from-more None a b le from = tt
from-more (Some m) a b le from = omega (arith, le, from)

-- the side after an event of a step
pub IsSide-step : (old new : Rows) (o : Option OpenMarking) (n : ℕ) (m : Mirrors) (stock later : Stock) (k floor : ℕ) (made : Made)
    → later.entries ≡ stock.entries ++ numbered k made ∷ [] → AllBelow stock.entries floor → floor ≤ k → IsPeerStep made.caller made.op
    → PeerAllows (state_with stock.entries old o n m) made.caller made.op made.cites nothing → GoesBy old made.caller made.op made.reply new → (head next : ℕ)
    → MarksAfter (is_some o) made.caller old.rows head made.op made.reply new.rows next → new.tabled + owed o + owes m ≤ later.spare → length later.entries + later.spare ≤ 4294967295
    → IsSide old o n m stock → IsSide new o n m later
IsSide-step old new o n m stock later k floor made added below above step allowed goes head next marks spare limit side =
    let e : Entry = numbered k made in
    let on = side-goes old new o n m stock later.entries k made side added step goes head next marks allowed in
    let still = step-quiet made.caller made.op step in
    let more = grown old new o n m stock later.entries e side added step goes head next marks in
    let room = room-after (is_some o) made.caller old.rows head made.op made.reply new.rows next marks in
    record {
      replayed = replayed-told stock.entries later.entries (state_with stock.entries old o n m) (state_with later.entries new o n m) k floor made nothing below above added on side.replayed;
      kept = kept-step (state_with stock.entries old o n m) (state_with later.entries new o n m) made on side.kept;
      room = spare;
      limit = limit;
      few = omega (arith, side.few, ap length added, length_push stock.entries e);
      from = from-more o (length stock.entries) (length later.entries) (omega (arith, ap length added, length_push stock.entries e)) side.from;
      mirrored = mirrored-still stock.entries later.entries e m.mirror added side.mirrored still;
      known = known-next old.issued new.issued stock.entries later.entries e added more still side.known;
      issued = omega (arith, side.issued, ap length more.1, length-append old.issued more.0, more.2, ap length added, length_push stock.entries e);
      bare = λ e. refs-after (is_some o) made.caller old.rows head made.op made.reply new.rows next marks ∙ side.bare e;
      refs_room = omega (arith, side.refs_room, room.0);
      temps_room = omega (arith, side.temps_room, room.1);
      temps_within = subst (λ n. AreWithin n m.waiting) (sym room.1) side.temps_within;
      few_refs = omega (arith, side.few_refs, ap length (refs-after (is_some o) made.caller old.rows head made.op made.reply new.rows next marks));
    }

-- an open marking goes on over the event, and without one no list matters
pub going-next : (old new : Rows) (o : Option OpenMarking) (head next n : ℕ) (m : Mirrors) (stock : Stock) (after : List Entry) (k : ℕ) (made : Made)
    → IsSide old o n m stock → after ≡ stock.entries ++ numbered k made ∷ [] → IsPeerStep made.caller made.op → GoesBy old made.caller made.op made.reply new
    → MarksAfter (is_some o) made.caller old.rows head made.op made.reply new.rows next → AreGoing old o head n m stock.entries → AreGoing new o next n m after
going-next old new o head next n m stock after k made side added step goes marks going =
    AreGoing-step old new o head next n m stock after k made side added step goes marks (list-after (is_some o) made.caller old.rows head made.op made.reply new.rows next marks going.list) going

pub roomy-going : (rows w : Rows) (o : Option OpenMarking) (head n : ℕ) (m mm : Mirrors) (es after : List Entry) (all temps : ℕ)
    → w ≡ record rows { rows = record rows.rows { room = all; temps = temps } } → after ≡ es → AreGoing rows o head n m es → AreGoing w o head n mm after
roomy-going rows w o head n m mm es after all temps roomy same going =
    let v = ap (λ (z : Rows). z.rows) roomy in
    AreGoing-same rows w o head n m mm es after (ap (λ (z : HeapRows). z.heap) v) (ap (λ (z : HeapRows). z.refs) v)
    (ap (λ (z : HeapRows). z.marks) v) (ap (λ (z : HeapRows). z.links) v) (ap (λ (z : HeapRows). z.follows) v)
    (ap (λ (z : Rows). marking_in z.issued after o) roomy ∙ ap (λ l. marking_in rows.issued l o) same) going

-- room for references and temporaries, and for entries, doesn't stand in the state
pub IsSide-roomy : (rows w : Rows) (o : Option OpenMarking) (n : ℕ) (m mm : Mirrors) (stock later : Stock) (all temps : ℕ)
    → w ≡ record rows { rows = record rows.rows { room = all; temps = temps } } → mm.mirror ≡ m.mirror → later.entries ≡ stock.entries
    → rows.tabled + owed o + owes mm ≤ later.spare → length later.entries + later.spare ≤ 4294967295 → length mm.waiting + mm.room ≤ all
    → rows.rows.temps ≤ temps → mm.temps ≤ temps → mm.waiting ≡ m.waiting → IsSide rows o n m stock → IsSide w o n mm later
IsSide-roomy rows w o n m mm stock later all temps roomy same entries room limit refs more fits waits side = rw (roomy, entries) (record {
  replayed = rw same side.replayed;
  kept = rw same side.kept;
  room = room;
  limit = rw entries at limit;
  few = side.few;
  issued = side.issued;
  from = side.from;
  mirrored = rw same side.mirrored;
  known = side.known;
  bare = λ e. side.bare (sym same ∙ e);
  refs_room = refs;
  temps_room = fits;
  temps_within = λ t e c. (let w = side.temps_within t e (subst (λ l. Contains l (temporary t, e) ⊎ Contains l (e, temporary t)) waits c) in omega (arith, w, more));
  few_refs = side.few_refs;
})
