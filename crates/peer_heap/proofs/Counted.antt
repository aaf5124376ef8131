-- How many of the peers of the begin are black stays over every event but a slice: to shade makes none black, and a new
-- peer wasn't there at the begin. A slice makes so many more of them black.
use Rattle.std.proofs.Common.{◌≡◌, ◌≢◌, ℕ, ◌↔◌, inl, inr, Bool, true, false, ◌||◌, List, [], ◌∷◌, length, Option, Some, None, refl, sym, ap, subst, arith}
use Rattle.std.specs.Prelude.{Contains, if◌then◌else◌}
use Rattle.std.specs.Option.{is_some}
use Rattle.joint_machine.specs.declared.names.Sort.TheVariants.{Framework}
use Rattle.joint_machine.specs.declared.names.Thread.{Thread}
use Rattle.joint_machine.specs.declared.lines.Act.TheVariants as act
use Rattle.joint_machine.specs.declared.events.Entry.{Entry}
use Rattle.joint_machine.specs.declared.events.Made.{Made}
use Rattle.joint_machine.specs.declared.events.Op.{Op}
use Rattle.joint_machine.specs.declared.events.Op.TheVariants as op
use Rattle.joint_machine.specs.declared.events.Reply.{Reply}
use Rattle.joint_machine.specs.declared.events.Reply.TheVariants as says
use Rattle.joint_machine.specs.Heaps.{Heap, Answered, IsLive, answer, is_full, next_number, place, with_var, place_or_none}
use Rattle.joint_model.specs.Listed.{Stock}
use Rattle.joint_machine.specs.PeerReplay.{PeerReplay, on_table, peer_answer}
use Rattle.joint_machine.specs.Peers.{Issued, Peers, handles_full, held, next_handle, peer_name, strong, with_handle, with_peer}
use Rattle.joint_machine.specs.Run.{thread_number}
use Rattle.joint_machine.specs.Told.{nothing}
use Rattle.joint_machine.proofs.Members.{Contains-nil, Contains-here, Contains-cons_cases}
use Rattle.marking_laws.specs.Slices.{IsBlack, Shades, none}
use Rattle.row_heap.specs.Marks.{overwritten}
use Rattle.row_heap.specs.Rows.{HeapRows}
use Rattle.row_marking.specs.Traces.{Greyed, IsGreyList, greys}
use Rattle.global_handles.specs.declared.Back.{Back}
use Rattle.global_handles.specs.declared.Back.TheVariants.{Alive, Cleared}
use Rattle.peer_heap.specs.declared.side.OpenMarking.{OpenMarking}
use Rattle.peer_heap.specs.Marking.{AreRootsGrey}
use Rattle.peer_heap.specs.Marks.{AreMarksSame, IsMarkedToo, MarksNew, MarksBrought, MarksAfter}
use Rattle.peer_heap.specs.Mirroring.{RestoresHandle}
use Rattle.peer_heap.specs.Mirrors.{Mirrors}
use Rattle.peer_heap.specs.Rows.{Rows, GoesBy}
use Rattle.peer_heap.specs.Sides.{AreCounted, AreGoing, Colours, IsCount, IsDrivers, IsSide, colours_of, marking_as, marking_in, state_with}
use Rattle.peer_heap.proofs.Going.{grey-list, open-shades}

-- what isn't gone is black as before
pub black-as : (seen gone : ℕ → Type 0) (m : List Bool) (xs : List ℕ) (m' : List Bool) (ys : List ℕ) (p : ℕ) → Shades seen gone m xs m' ys → (gone p → ⊥) → IsBlack m xs p ↔ IsBlack m' ys p
black-as seen gone m xs m' ys p sh stays = (
  (λ q. ((sh.marked p).1 (inl q.0), (λ c. elim (sh.only p c) [ inl w ↦ q.1 w | inr w ↦ w.0 q.0 ]))),
  (λ q. (elim (sh.anew p q.0) [ inl w ↦ w | inr w ↦ absurd (q.1 w) ], (λ c. q.1 (sh.kept p c stays)))),
)

-- the same peers of the begin are black
counted-as : (b : Heap) (m : List Bool) (xs : List ℕ) (m' : List Bool) (ys : List ℕ) (n : ℕ) → ((p : ℕ) → IsLive b p → IsBlack m xs p ↔ IsBlack m' ys p) → IsCount b m xs n → IsCount b m' ys n
counted-as b m xs m' ys n same c = record {
  dark = c.dark;
  rise = c.rise;
  exact = λ p. ((λ d. (let w = (c.exact p).0 d in (w.0, (same p w.0).0 w.1))), (λ w. (c.exact p).1 (w.0, (same p w.0).1 w.1)));
  many = c.many;
}

-- where marks and links stay
pub counted-same : (o : Option OpenMarking) (v w : HeapRows) (head : ℕ) → w.marks ≡ v.marks → w.links ≡ v.links → AreCounted o (colours_of v head) → AreCounted o (colours_of w head)
counted-same None v w head marks links c = tt
counted-same (Some o) v w head marks links c = λ other.
    let b = o.begin.value.rows.heap in
    subst (λ l. IsCount b w.marks (greys l (length w.marks) head) o.blackened) (sym links)
    (subst (λ m. IsCount b m (greys v.links (length m) head) o.blackened) (sym marks) (c other))

-- where peers are shaded
pub counted-shaded : (o : Option OpenMarking) (these : ℕ → Type 0) (v : HeapRows) (before : ℕ) (w : HeapRows) (after : ℕ)
    → Greyed (λ k. (is_some o ≡ true) × these k) v.marks v.links before w.marks w.links after → IsGreyList v.marks v.links before
    → AreCounted o (colours_of v before) → AreCounted o (colours_of w after)
counted-shaded None these v before w after sh list c = tt
counted-shaded (Some o) these v before w after sh list c = λ other.
    let b = o.begin.value.rows.heap in
    let y = open-shades true these v.marks v.links before w.marks w.links after refl sh list.0 list.1 in
    let was : IsCount b v.marks list.0 o.blackened = subst (λ l. IsCount b v.marks l o.blackened) (grey-list v.marks v.links before list.0 list.1) (c other) in
    subst (λ l. IsCount b w.marks l o.blackened) (sym (grey-list w.marks w.links after y.waits y.chained))
    (counted-as b v.marks list.0 w.marks y.waits o.blackened (λ p l. black-as these none v.marks list.0 w.marks y.waits p y.shades (λ z. z)) was)

-- the peer wasn't there at the begin of the open marking
abbrev pub IsSince : Option OpenMarking → ℕ → Type 0
IsSince None x = Unit {0}
IsSince (Some o) x = IsLive o.begin.value.rows.heap x → ⊥

-- where one that wasn't there at the begin gets a mark
counted-new : (o : Option OpenMarking) (v w : HeapRows) (head x : ℕ) → IsMarkedToo v w x → IsSince o x
    → IsGreyList v.marks v.links head → AreCounted o (colours_of v head) → AreCounted o (colours_of w head)
counted-new None v w head x more since list c = tt
counted-new (Some o) v w head x more since list c = λ other.
    let b = o.begin.value.rows.heap in
    let xs = list.0 in
    let was : IsCount b v.marks xs o.blackened = subst (λ l. IsCount b v.marks l o.blackened) (grey-list v.marks v.links head xs list.1) (c other) in
    let same : (p : ℕ) → IsLive b p → IsBlack v.marks xs p ↔ IsBlack w.marks xs p = λ p l.
    (let d : p ≢ x = λ e. since (subst (IsLive b) e l) in ((λ q. ((more.others p d).1 q.0, q.1)), (λ q. ((more.others p d).0 q.0, q.1)))) in
    subst (λ l. IsCount b w.marks l o.blackened) (sym (grey-list w.marks w.links head xs (more.chained head xs list.1))) (counted-as b v.marks xs w.marks xs o.blackened same was)

-- the peers that an event makes
abbrev made_in : Reply → List ℕ
made_in (says.P p) = p.0 ∷ []
made_in (says.Made p h) = p.0 ∷ []
made_in _ = []

abbrev made_at : Op → Reply → List ℕ
made_at (op.Line (act.NewPeer v n)) r = made_in r
made_at (op.Make sort n) r = made_in r
made_at _ r = []

-- each has the next number
made-one : (p x : ℕ) → Contains (p ∷ []) x → x ≡ p
made-one p x c = elim (Contains-cons_cases p [] x c) [ inl e ↦ sym e | inr w ↦ absurd (Contains-nil x w) ]

made-next : (s : PeerReplay) (t : Thread) (o : Op) (cites : Option ℕ) (x : ℕ) → Contains (made_at o (peer_answer s t o cites nothing).reply) x → x ≡ next_number s.peers.heap
made-next s t (op.Line (act.NewPeer v n)) cites x c = by (is_full s.peers.heap.fields) c
  where
    made : Answered Peers
    made = (let more = with_peer s.peers Framework n in answer (peer_name (next_number s.peers.heap))
        (record more { heap = with_var more.heap (place (thread_number t) v.0) (Some (next_number s.peers.heap)) }))

    by : (b : Bool) → Contains (made_in (on_table s (if b then answer says.Full s.peers else made)).reply) x → x ≡ next_number s.peers.heap
    by true c = absurd (Contains-nil x c)
    by false c = made-one (next_number s.peers.heap) x c
made-next s t (op.Make sort n) cites x c = by (is_full s.peers.heap.fields || handles_full s.peers) c
  where
    made : Answered Peers
    made = answer (says.Made record { 0 = next_number s.peers.heap } record { 0 = next_handle s.peers }) (with_handle (with_peer s.peers sort n) (next_number s.peers.heap) held strong)

    by : (b : Bool) → Contains (made_in (on_table s (if b then answer says.Full s.peers else made)).reply) x → x ≡ next_number s.peers.heap
    by true c = absurd (Contains-nil x c)
    by false c = made-one (next_number s.peers.heap) x c
made-next s t _ cites x c = absurd (Contains-nil x c)

-- an event of a step
still : (o : Option OpenMarking) (old : HeapRows) (before : ℕ) (new : HeapRows) (after : ℕ) → AreMarksSame old new
    → after ≡ before → AreCounted o (colours_of old before) → AreCounted o (colours_of new after)
still o old before new after same at c = subst (λ k. AreCounted o (colours_of new k)) (sym at)
    (counted-same o old new before (ap (λ (v : HeapRows). v.marks) same) (ap (λ (v : HeapRows). v.links) same) c)

made : (o : Option OpenMarking) (old : HeapRows) (before : ℕ) (r : Reply) (new : HeapRows) (after : ℕ) → MarksNew old r new → after ≡ before
    → ((x : ℕ) → Contains (made_in r) x → IsSince o x) → IsGreyList old.marks old.links before → AreCounted o (colours_of old before) → AreCounted o (colours_of new after)
made o old before (says.P p) new after m at since list c = subst (λ k. AreCounted o (colours_of new k)) (sym at) (counted-new o old new before p.0 m (since p.0 (Contains-here p.0 [])) list c)
made o old before (says.Made p h) new after m at since list c = subst (λ k. AreCounted o (colours_of new k)) (sym at) (counted-new o old new before p.0 m (since p.0 (Contains-here p.0 [])) list c)
made o old before _ new after m at since list c = still o old before new after m at c

brought : (o : Option OpenMarking) (old : HeapRows) (before : ℕ) (r : Reply) (new : HeapRows) (after : ℕ) → MarksBrought (is_some o) old before r new after
    → IsGreyList old.marks old.links before → AreCounted o (colours_of old before) → AreCounted o (colours_of new after)
brought o old before (says.P p) new after m list c = counted-shaded o (λ k. k ≡ p.0) old before new after m.shaded list c
brought o old before _ new after m list c = still o old before new after m.0 m.1 c

counted-after : (o : Option OpenMarking) (t : Thread) (old : HeapRows) (before : ℕ) (e : Op) (r : Reply) (new : HeapRows) (after : ℕ)
    → MarksAfter (is_some o) t old before e r new after → ((x : ℕ) → Contains (made_at e r) x → IsSince o x) → IsGreyList old.marks old.links before
    → AreCounted o (colours_of old before) → AreCounted o (colours_of new after)
counted-after o t old before (op.Line (act.NewPeer v n)) r new after m since list c = made o old before r new after m.0 m.1 since list c
counted-after o t old before (op.Make sort n) r new after m since list c = made o old before r new after m.0 m.1 since list c
counted-after o t old before (op.Line (act.Set v i w)) r new after m since list c = counted-shaded o
    (λ k. overwritten old.heap (place (thread_number t) v.0) i (place_or_none (thread_number t) w) ≡ Some k) old before new after m.shaded list c
counted-after o t old before (op.Line (act.WRead v g)) r new after m since list c = brought o old before r new after m list c
counted-after o t old before (op.Land h x) r new after m since list c = brought o old before r new after m list c
counted-after o t old before _ r new after m since list c = still o old before new after m.0 m.1 c

pub counted-next : (old new : Rows) (o : Option OpenMarking) (head next n : ℕ) (m : Mirrors) (stock : Stock) (made : Made) → IsSide old o n m stock
    → GoesBy old made.caller made.op made.reply new → MarksAfter (is_some o) made.caller old.rows head made.op made.reply new.rows next → AreGoing old o head n m stock.entries
    → AreCounted o (colours_of old.rows head) → AreCounted o (colours_of new.rows next)
counted-next old new o head next n m stock made side goes marks going c = counted-after o made.caller
    old.rows head made.op made.reply new.rows next marks (λ x d. since o side x (number x d)) going.list c
  where
    number : (x : ℕ) → Contains (made_at made.op made.reply) x → x ≡ next_number old.rows.heap
    number x d =
        let s = state_with stock.entries old o n m in
        made-next s made.caller made.op made.cites x (subst (λ r. Contains (made_at made.op r) x) (sym (ap (λ (a : Answered PeerReplay). a.reply) (goes s made.cites))) d)

    since : (o : Option OpenMarking) → IsSide old o n m stock → (x : ℕ) → x ≡ next_number old.rows.heap → IsSince o x
    since None side x e = tt
    since (Some b) side x e = λ l. (let k = side.kept.marking (marking_as old.issued stock.entries b) refl in omega (arith, e, k.made, l.made.1))

-- where a restore gives another handle
pub counted-restored : (o : Option OpenMarking) (old : Rows) (head h : ℕ) (back : Back) (w : Rows) (next : ℕ) → RestoresHandle (is_some o) old head h back w next
    → IsGreyList old.rows.marks old.rows.links head → AreCounted o (colours_of old.rows head) → AreCounted o (colours_of w.rows next)
counted-restored o old head h Cleared w next (r, at) list c =
    let rows = ap (λ (z : Rows). z.rows) r.rest in
    subst (λ k. AreCounted o (colours_of w.rows k)) (sym at) (counted-same o old.rows w.rows head (ap (λ (v : HeapRows). v.marks) rows) (ap (λ (v : HeapRows). v.links) rows) c)
counted-restored o old head h (Alive g) w next (r, sh) list c = counted-shaded o (λ k. k ≡ r.peer) old.rows head w.rows next sh.shaded list c

-- at the begin none is black
pub counted-begun : (opens : OpenMarking) (root : ℕ → Type 0) (v : HeapRows) (head : ℕ) → AreRootsGrey root v.marks v.links head → opens.blackened ≡ 0 → AreCounted (Some opens) (colours_of v head)
counted-begun opens root v head roots unsliced = λ other.
    let b = opens.begin.value.rows.heap in
    let none-dark : IsCount b v.marks roots.greys opens.blackened = record {
      dark = [];
      rise = tt;
      exact = λ p. ((λ d. absurd (Contains-nil p d)), (λ w. absurd (w.1.1 ((roots.grey p).1 w.1.0))));
      many = sym unsliced;
    } in
    subst (λ l. IsCount b v.marks l opens.blackened) (sym (grey-list v.marks v.links head roots.greys roots.chained)) none-dark

-- the driver's slices aren't counted
pub counted-drivers : (issued : List Issued) (es : List Entry) (o : Option OpenMarking) (c : Colours) → IsDrivers (marking_in issued es o) → AreCounted o c
counted-drivers issued es None c drivers = tt
counted-drivers issued es (Some o) c drivers = λ other. absurd (other drivers)

-- where there is room for more references
pub roomy-counted : (rows w : Rows) (o : Option OpenMarking) (head all temps : ℕ) → w ≡ record rows { rows = record rows.rows { room = all; temps = temps } }
    → AreCounted o (colours_of rows.rows head) → AreCounted o (colours_of w.rows head)
roomy-counted rows w o head all temps roomy c = counted-same o rows.rows w.rows head (ap (λ (z : Rows). z.rows.marks) roomy) (ap (λ (z : Rows). z.rows.links) roomy) c
