-- A marking goes on over each event of a step, by the law of its kind: a write, a new peer, one brought back, or none
-- of these. The rows have done to the marks what the event asks for.
use Rattle.std.proofs.Common.{◌≡◌, ℕ, ◌⊎◌, inl, inr, Bool, true, false, ◌||◌, List, [], ◌∷◌, ◌++◌, Option, Some, None, refl, sym, ap, subst, ◌∙◌, ◌+◌, arith}
use Rattle.std.specs.Option.{is_some}
use Rattle.std.proofs.lemmas.Option.{none-some, slice_get_within}
use Rattle.std.proofs.lemmas.Result.{IfOk-weaker}
use Rattle.joint_machine.specs.declared.events.Reply.{Reply}
use Rattle.std.specs.Prelude.{IfOk, Result, slice_get, Contains, nat_le, if◌then◌else◌, length, slice_set}
use Rattle.joint_machine.specs.declared.names.Sort.{Sort}
use Rattle.joint_machine.specs.declared.names.Sort.TheVariants.{Framework}
use Rattle.joint_machine.specs.declared.names.Thread.{Thread}
use Rattle.joint_machine.specs.declared.lines.Act.TheVariants as act
use Rattle.joint_machine.specs.declared.events.Op.{Op}
use Rattle.joint_machine.specs.declared.events.Op.TheVariants as op
use Rattle.joint_machine.specs.declared.events.Reply.TheVariants as says
use Rattle.joint_machine.specs.Heaps.{Heap, Answered, answer, InSlot, IsLive, slot, place, is_full, fields_of, next_number, with_var, with_field, field_set, field_stored, place_or_none}
use Rattle.joint_machine.specs.Peers.{Peers, Strength, strong, weak, held, raw, peer_name, handle_name, with_peer, with_handle, next_handle, handles_full, on_peer_heap, peer_read, name_given}
use Rattle.joint_machine.specs.Peers.{globalised, name_freed, gripped, peer_gripped, landed, sort_of}
use Rattle.joint_machine.specs.PeerReplay.{PeerReplay, Marking, on_table, untabled, brings, table_target, peer_answer}
use Rattle.joint_machine.specs.Run.{thread_number}
use Rattle.joint_machine.specs.Told.{nothing}
use Rattle.joint_machine.proofs.Deciding.{option-cases, test-cases}
use Rattle.joint_machine.proofs.Numbered.{slot-Contains, push-at_new, push-at_old, push-at_cases}
use Rattle.joint_laws.specs.PeerInvariants.{PeerInvariant}
use Rattle.joint_laws.proofs.PeerEvents.{target-live}
use Rattle.joint_laws.proofs.HeapMoves.{copied-moved, field_got-moved, loaded-moved, stored-moved}
use Rattle.reachability.specs.Marks.{HasMark}
use Rattle.row_heap.specs.Marks.{is_given, overwritten}
use Rattle.row_heap.specs.Rows.{HeapRows}
use Rattle.marking_laws.specs.Slices.{AreMarksGoing, Shades, none}
use Rattle.marking_laws.proofs.SliceEvents.{going-brought, going-new, going-same, going-written}
use Rattle.row_marking.specs.Traces.{Greyed}
use Rattle.peer_heap.specs.Marks.{AreMarksSame, IsGoing, IsMarkedToo, IsShaded, MarksNew, MarksBrought, MarksAfter, MarksWritten, StepsGoOn, mark_by, mark_after}
use Rattle.peer_heap.specs.Steps.{IsPeerStep}
use Rattle.peer_heap.proofs.Going.{chained-longer, going-side, going-still, open-shades, shades-as}
use Rattle.peer_heap.proofs.Lengths.{copied-fields, got-fields, read-fields, stored-fields}

-- the marking before an event: it goes on, in a state as lawful pasts lead to
record IsOpen (s : PeerReplay) (mk : Marking) (v : HeapRows) (head : ℕ) : Type 0 where
  kept : PeerInvariant s
  opened : s.marking ≡ Some mk
  going : IsGoing s mk v head

abbrev IsSame : HeapRows → ℕ → HeapRows → ℕ → Type 0
IsSame old before new after = AreMarksSame old new × (after ≡ before)

-- an event that leaves fields, freed peers and references as they are
still : (s t : PeerReplay) (mk : Marking) (old new : HeapRows) (before after : ℕ) → t.peers.heap.fields ≡ s.peers.heap.fields
    → t.peers.heap.freed ≡ s.peers.heap.freed → t.refs ≡ s.refs → IsSame old before new after → IsOpen s mk old before → IsGoing t mk new after
still s t mk old new before after fields freed refs same w =
    subst (IsGoing t mk new) (sym same.1) (going-still s t mk old new before fields freed refs (ap (λ (v : HeapRows). v.marks) same.0)
    (ap (λ (v : HeapRows). v.links) same.0) (ap (λ (v : HeapRows). v.follows) same.0) w.going)

-- what is shaded, in a state in which the marking then goes on
shading : (s t : PeerReplay) (mk more : Marking) (old new : HeapRows) (before after : ℕ) (these : ℕ → Type 0) → IsShaded true these old before new after → (g : IsGoing s mk old before)
    → ((waits : List ℕ) → Shades these none old.marks g.greys new.marks waits → AreMarksGoing t more old.follows new.marks waits) → IsGoing t more new after
shading s t mk more old new before after these sh g goes =
    let y = open-shades true these old.marks old.links before new.marks new.links after refl sh.shaded g.greys g.chained in
    record { greys = y.waits; chained = y.chained; right = subst (λ f. AreMarksGoing t more f new.marks y.waits) (sym sh.follows) (goes y.waits y.shades) }

-- a write leaves the heap and overwrites nothing, or it changes a field of an object that a variable names, and
-- overwrites what that held
abbrev IsWrite : Heap → Option ℕ → Answered Heap → Type 0
IsWrite h over a = ((a.state ≡ h) × (over ≡ None)) ⊎ ((x : ℕ) × (i : ℕ) × (y : Option ℕ) × InSlot h x × (over ≡ slot (fields_of h x) i) × (a.state ≡ with_field h x i y))

set-cases : (h : Heap) (v i : ℕ) (w : Option ℕ) → IsWrite h (overwritten h v i w) (field_set h v i w)
set-cases h v i w = by (slot h.vars v) refl
  where
    given : (x : ℕ) (w : Option ℕ) → InSlot h x → IsWrite h (if is_given h w then slot (fields_of h x) i else None) (field_stored h x i w)
    given x None c = inr (x, i, None, c, refl, refl)
    given x (Some u) c = chosen (slot h.vars u)
      where
        chosen : (o : Option ℕ) → IsWrite h (if is_some o then slot (fields_of h x) i else None) (elim o [ None ↦ answer says.Empty h | Some y ↦ answer says.Ok (with_field h x i (Some y)) ])
        chosen None = inl (refl, refl)
        chosen (Some y) = inr (x, i, Some y, c, refl, refl)

    by : (o : Option ℕ) → slot h.vars v ≡ o → IsWrite h (elim o [ None ↦ None | Some x ↦ if nat_le (length (fields_of h x)) i then None else if is_given h w then slot (fields_of h x) i else None ])
        (elim o [
          | None ↦ answer says.Empty h
          | Some x ↦ if nat_le (length (fields_of h x)) i then answer says.Range h else field_stored h x i w
        ])
    by None e = inl (refl, refl)
    by (Some x) e = ranged (nat_le (length (fields_of h x)) i)
      where
        ranged : (b : Bool) → IsWrite h (if b then None else if is_given h w then slot (fields_of h x) i else None) (if b then answer says.Range h else field_stored h x i w)
        ranged true = inl (refl, refl)
        ranged false = given x w (inl (slot-Contains h.vars v x e))

-- a field of a list holds what stands at its place
slot-get : (fs : List (Option ℕ)) (i k : ℕ) → slot fs i ≡ Some k → slice_get fs i ≡ Some (Some k)
slot-get fs i k e = by (slice_get fs i) e
  where
    by : (o : Option (Option ℕ)) → elim o [ None ↦ None | Some x ↦ x ] ≡ Some k → o ≡ Some (Some k)
    by None q = absurd (none-some k q)
    by (Some x) q = ap (λ z. Some z) q

get-slot : (fs : List (Option ℕ)) (i k : ℕ) → slice_get fs i ≡ Some (Some k) → slot fs i ≡ Some k
get-slot fs i k e = ap (λ o. elim o [ None ↦ None | Some x ↦ x ]) e

-- nothing is shaded: all marks stay, and so do the grey ones
unshaded : (s : PeerReplay) (mk : Marking) (follows : Bool) (these : ℕ → Type 0) (m m' : List Bool) (xs ys : List ℕ)
    → ((k : ℕ) → these k → ⊥) → Shades these none m xs m' ys → AreMarksGoing s mk follows m xs → AreMarksGoing s mk follows m' ys
unshaded s mk follows these m m' xs ys never sh g =
    let was : (k : ℕ) → HasMark m' k → HasMark m k = λ k u. elim ((sh.marked k).0 u) [ inl w ↦ w | inr w ↦ absurd (never k w) ] in
    let up : (k : ℕ) → HasMark m k → HasMark m' k = λ k u. (sh.marked k).1 (inl u) in
    let grey : (k : ℕ) → Contains ys k → Contains xs k = λ k c. elim (sh.only k c) [ inl w ↦ w | inr w ↦ absurd (never k w.1) ] in
    record {
      older = g.older;
      fresh = λ p l n. up p (g.fresh p l n);
      sound = λ p u. g.sound p (was p u);
      roots = λ p r l. up p (g.roots p r l);
      grey = λ p c. up p (g.grey p (grey p c));
      existed = λ p c. g.existed p (grey p c);
      ahead = λ p q e. elim (g.ahead p q e) [ inl u ↦ inl (up q u) | inr w ↦ inr ((λ u. sh.kept p (w.0 (was p u)) (λ z. z)), w.1) ];
    }

written : (s : PeerReplay) (mk : Marking) (old new : HeapRows) (before after : ℕ) (v i : ℕ) (w : Option ℕ)
    → s.peers.heap ≡ old.heap → MarksWritten true old before (overwritten old.heap v i w) new after → IsOpen s mk old before
    → IsGoing (on_table s (on_peer_heap s.peers (field_set s.peers.heap v i w))).state mk new after
written s mk old new before after v i w heap m k =
    let h = s.peers.heap in
    let over = overwritten h v i w in
    let t = (on_table s (on_peer_heap s.peers (field_set h v i w))).state in
    let sh : IsShaded true (λ z. over ≡ Some z) old before new after = subst (λ (z : Heap). MarksWritten true old before (overwritten z v i w) new after) (sym heap) m in
    let side = going-side s mk old before k.kept k.opened k.going in
    shading s t mk mk old new before after (λ z. over ≡ Some z) sh k.going (λ waits shades. elim (set-cases h v i w) [
      | inl e ↦ unshaded t mk old.follows (λ z. over ≡ Some z) old.marks new.marks k.going.greys waits (λ z q. none-some z (sym e.1 ∙ q)) shades
          (going-same s t mk old.follows old.marks k.going.greys (ap (λ (g : Heap). g.fields) e.0) (ap (λ (g : Heap). g.freed) e.0) refl k.going.right)
      | inr c ↦
          let fs = fields_of h c.0 in
          let m' : PeerReplay = record s { peers = record s.peers { heap = with_field h c.0 c.1 c.2 } } in
          let own = shades-as (λ z. over ≡ Some z) (λ z. slice_get fs c.1 ≡ Some (Some z)) old.marks k.going.greys new.marks waits
          (λ z q. slot-get fs c.1 z (sym c.4 ∙ q)) (λ z q. c.4 ∙ get-slot fs c.1 z q) shades in
          let right = going-written s mk old.follows old.marks new.marks k.going.greys waits c.0 c.1 c.2 side c.3 own in
          going-same m' t mk old.follows new.marks waits (ap (λ (g : Heap). g.fields) c.5) (ap (λ (g : Heap). g.freed) c.5) refl right
    ])

-- a further peer, in a state with the same fields, freed peers and references
grown : (s t : PeerReplay) (mk : Marking) (old new : HeapRows) (before after : ℕ) (sort : Sort) (n : ℕ)
    → t.peers.heap.fields ≡ (with_peer s.peers sort n).heap.fields → t.peers.heap.freed ≡ s.peers.heap.freed → t.refs ≡ s.refs
    → IsMarkedToo old new (next_number s.peers.heap) × (after ≡ before) → IsOpen s mk old before → IsGoing t mk new after
grown s t mk old new before after sort n fields freed refs more w =
    let g = w.going in
    let right = going-new s mk old.follows old.marks new.marks g.greys sort n (going-side s mk old before w.kept w.opened g) more.0.others more.0.marked in
    subst (IsGoing t mk new) (sym more.1) record {
      greys = g.greys;
      chained = more.0.chained before g.greys g.chained;
      right = subst (λ b. AreMarksGoing t mk b new.marks g.greys) (sym more.0.follows)
          (going-same (record s { peers = with_peer s.peers sort n }) t mk old.follows new.marks g.greys fields freed refs right);
    }

-- a peer is brought back, in a state with the same fields, freed peers and references
brought : (s t : PeerReplay) (mk : Marking) (old new : HeapRows) (before after : ℕ) (x : ℕ)
    → t.peers.heap.fields ≡ s.peers.heap.fields → t.peers.heap.freed ≡ s.peers.heap.freed → t.refs ≡ s.refs → IsLive s.peers.heap x
    → IsShaded true (λ k. k ≡ x) old before new after → IsOpen s mk old before → IsGoing t (record mk { brought = mk.brought ++ x ∷ [] }) new after
brought s t mk old new before after x fields freed refs live back w =
    let later : Marking = record mk { brought = mk.brought ++ x ∷ [] } in
    shading s t mk later old new before after (λ k. k ≡ x) back w.going (λ waits sh.
    going-same (record s { marking = Some later }) t later old.follows new.marks waits fields freed refs
    (going-brought s mk old.follows old.marks new.marks w.going.greys waits x (going-side s mk old before w.kept w.opened w.going) live sh))

-- the handles' events leave the heap
globalised-heap : (s : Peers) (g v : ℕ) (st : Strength) → (globalised s g v st).state.heap ≡ s.heap
globalised-heap s g v st = option-cases (λ (a : Answered Peers). a.state.heap ≡ s.heap) (answer says.Empty s)
    (λ p. name_given s g p st (slot s.names g)) (slot s.heap.vars v) refl (λ p. given p (slot s.names g))
  where
    given : (p : ℕ) (o : Option ℕ) → (name_given s g p st o).state.heap ≡ s.heap
    given p (Some h) = refl
    given p None = by (handles_full s)
      where
        by : (b : Bool) → (if b then answer says.Full s else
            let grown = with_handle s p raw st in
            answer (handle_name (next_handle s)) (record grown { names = slice_set s.names g (Some (next_handle s)) })).state.heap ≡ s.heap
        by true = refl
        by false = refl

freed-heap : (s : Peers) (g : ℕ) → (name_freed s g).state.heap ≡ s.heap
freed-heap s g = option-cases (λ (a : Answered Peers). a.state.heap ≡ s.heap) (answer says.Unset s)
    (λ h. answer says.Ok (record s { names = slice_set s.names g None })) (slot s.names g) refl (λ h. refl)

gripped-heap : (s : Peers) (x : ℕ) → (gripped s x).state.heap ≡ s.heap
gripped-heap s x = by (slot s.heap.statics x)
  where
    by : (o : Option ℕ) → (peer_gripped s o).state.heap ≡ s.heap
    by None = refl
    by (Some p) = test-cases (λ (a : Answered Peers). a.state.heap ≡ s.heap) (handles_full s) (answer says.Full s)
        (answer (says.Gripped record { 0 = p } record { 0 = next_handle s } (sort_of s p) (length (fields_of s.heap p))) (with_handle s p held strong)) refl refl

-- an event of the handles alone
handled : (s : PeerReplay) (mk : Marking) (old new : HeapRows) (before after : ℕ) (a : Answered Peers)
    → a.state.heap ≡ s.peers.heap → IsSame old before new after → IsOpen s mk old before → IsGoing (on_table s a).state mk new after
handled s mk old new before after a e same w = still s (on_table s a).state mk old new before after (ap (λ (h : Heap). h.fields) e) (ap (λ (h : Heap). h.freed) e) refl same w

untabled-heap : (s : PeerReplay) (o : Option ℕ) (a : Answered Peers) → a.state.heap ≡ s.peers.heap → (mk : Marking) (old new : HeapRows) (before after : ℕ)
    → IsSame old before new after → IsOpen s mk old before → IsGoing (on_table (untabled s o) a).state mk new after
untabled-heap s None a e mk old new before after same w = handled s mk old new before after a e same w
untabled-heap s (Some h) a e mk old new before after same w = still s (on_table (untabled s (Some h)) a).state mk old new before after
    (ap (λ (h : Heap). h.fields) e) (ap (λ (h : Heap). h.freed) e) refl same w

-- a further peer has its mark, last
pub marked-too : (old new : HeapRows) (x : ℕ) → x ≡ next_number old.heap → length old.marks ≡ length old.heap.fields + 1 → new.refs ≡ old.refs
    → new.follows ≡ old.follows → new.room ≡ old.room → new.temps ≡ old.temps → new.marks ≡ old.marks ++ true ∷ [] → new.links ≡ old.links ++ 0 ∷ [] → IsMarkedToo old new x
marked-too old new x number len refs follows room temps more links =
    let at : x ≡ length old.marks = omega (arith, number, len) in
    record {
      refs = refs;
      follows = follows;
      room = room;
      temps = temps;
      marked = ap (λ ms. slice_get ms x) more ∙ (ap (λ k. slice_get (old.marks ++ true ∷ []) k) at ∙ push-at_new old.marks true);
      others = λ k other. (
        (λ c. elim (push-at_cases old.marks true k true (sym (ap (λ ms. slice_get ms k) more) ∙ c)) [ inl a ↦ a | inr b ↦ absurd (other (b.0 ∙ sym at)) ]),
        (λ c. ap (λ ms. slice_get ms k) more ∙ (push-at_old old.marks true k (slice_get_within old.marks k true c) ∙ c)),
      );
      chained = λ head greys c. chained-longer old.marks new.marks old.links new.links head greys more links c;
    }

-- a new object has its mark, and the list of grey objects begins where it did
pub with-grey : {E : Type 0} (r : Result Reply E) (old new : HeapRows) (head : ℕ) → IfOk r (λ s. MarksNew old s new) → IfOk r (λ s. MarksNew old s new × (head ≡ head))
with-grey r old new head m = IfOk-weaker r (λ s. MarksNew old s new) (λ s. MarksNew old s new × (head ≡ head)) (λ s w. (w, refl)) m

-- what is shaded before another change of the heap
pub shaded-before : (is_open : Bool) (old mid new : HeapRows) (before after : ℕ) (h : Heap) (these : ℕ → Type 0) → new ≡ record mid { heap = h }
    → mid ≡ record old { marks = mid.marks; links = mid.links } → Greyed (λ k. (is_open ≡ true) × these k) old.marks old.links before mid.marks mid.links after
    → IsShaded is_open these old before new after
shaded-before is_open old mid new before after h these slotted marked shaded = record {
  refs = ap (λ (v : HeapRows). v.refs) slotted ∙ ap (λ (v : HeapRows). v.refs) marked;
  follows = ap (λ (v : HeapRows). v.follows) slotted ∙ ap (λ (v : HeapRows). v.follows) marked;
  room = ap (λ (v : HeapRows). v.room) slotted ∙ ap (λ (v : HeapRows). v.room) marked;
  temps = ap (λ (v : HeapRows). v.temps) slotted ∙ ap (λ (v : HeapRows). v.temps) marked;
  shaded = subst (λ (v : HeapRows). Greyed (λ k. (is_open ≡ true) × these k) old.marks old.links before v.marks v.links after) (sym slotted) shaded;
}

-- each event of a step
goes-step : (s : PeerReplay) (mk : Marking) (old new : HeapRows) (before after : ℕ) (t : Thread) (o : Op) (cites : Option ℕ) → IsPeerStep t o → s.peers.heap ≡ old.heap → IsOpen s mk old before
    → MarksAfter true t old before o (peer_answer s t o cites nothing).reply new after
    → IsGoing (peer_answer s t o cites nothing).state (mark_after mk o (peer_answer s t o cites nothing).reply) new after
goes-step s mk old new before after t (op.Line (act.NewPeer v n)) cites step heap w m = by (is_full s.peers.heap.fields) m
  where
    made : Answered Peers
    made = (let more = with_peer s.peers Framework n in answer (peer_name (next_number s.peers.heap))
        (record more { heap = with_var more.heap (place (thread_number t) v.0) (Some (next_number s.peers.heap)) }))

    by : (b : Bool) → MarksNew old (on_table s (if b then answer says.Full s.peers else made)).reply new
        × (after ≡ before) → IsGoing (on_table s (if b then answer says.Full s.peers else made)).state mk new after
    by true m = still s (on_table s (answer says.Full s.peers)).state mk old new before after refl refl refl m w
    by false m = grown s (on_table s made).state mk old new before after Framework n refl refl refl m w
goes-step s mk old new before after t (op.Line (act.Copy v u)) cites step heap w m =
    let h = s.peers.heap in
    still s _ mk old new before after (copied-fields peer_name h (place (thread_number t) v.0) (place (thread_number t) u.0))
    (copied-moved peer_name h (place (thread_number t) v.0) (place (thread_number t) u.0)).freed refl m w
goes-step s mk old new before after t (op.Line (act.Set v i u)) cites step heap w m = written s mk old new before after (place (thread_number t) v.0) i (place_or_none (thread_number t) u) heap m w
goes-step s mk old new before after t (op.Line (act.Get v u i)) cites step heap w m =
    let h = s.peers.heap in
    still s _ mk old new before after (got-fields peer_name h (place (thread_number t) v.0) (place (thread_number t) u.0) i)
    (field_got-moved peer_name h (place (thread_number t) v.0) (place (thread_number t) u.0) i).freed refl m w
goes-step s mk old new before after t (op.Line (act.Drop v)) cites step heap w m = still s _ mk old new before after refl refl refl m w
goes-step s mk old new before after t (op.Line (act.Load v x)) cites step heap w m =
    let h = s.peers.heap in
    still s _ mk old new before after (read-fields peer_name h (place (thread_number t) v.0) (slot h.statics x.0)) (loaded-moved peer_name h (place (thread_number t) v.0) x.0).freed refl m w
goes-step s mk old new before after t (op.Line (act.Store x v)) cites step heap w m =
    let h = s.peers.heap in
    still s _ mk old new before after (stored-fields h x.0 (place_or_none (thread_number t) v)) (stored-moved h x.0 (place_or_none (thread_number t) v)).freed refl m w
goes-step s mk old new before after t (op.Line (act.Global g v)) cites step heap w m = handled s mk old new before after
    (globalised s.peers g.0 (place (thread_number t) v.0) strong) (globalised-heap s.peers g.0 (place (thread_number t) v.0) strong) m w
goes-step s mk old new before after t (op.Line (act.WGlobal g v)) cites step heap w m = handled s mk old new before after
    (globalised s.peers g.0 (place (thread_number t) v.0) weak) (globalised-heap s.peers g.0 (place (thread_number t) v.0) weak) m w
goes-step s mk old new before after t (op.Line (act.UnGlobal g)) cites step heap w m = untabled-heap s
    (slot s.peers.names g.0) (name_freed s.peers g.0) (freed-heap s.peers g.0) mk old new before after m w
goes-step s mk old new before after t (op.Line (act.WRead v g)) cites step heap w m = by (slot s.peers.names g.0) m
  where
    read : (h : ℕ) (o : Option ℕ) → table_target s h ≡ o → MarksBrought true old before (brings (on_table s (peer_read s.peers (place (thread_number t) v.0) o))).reply new after
        → IsGoing (brings (on_table s (peer_read s.peers (place (thread_number t) v.0) o))).state (mark_by mk (brings (on_table s (peer_read s.peers (place (thread_number t) v.0) o))).reply) new after
    read h None e m = still s _ mk old new before after refl refl refl m w
    read h (Some p) e m = brought s _ mk old new before after p refl refl refl (target-live s h p w.kept e) m w

    by : (o : Option ℕ) → MarksBrought true old before (brings (on_table s
        (elim o [ None ↦ answer says.Unset s.peers | Some h ↦ peer_read s.peers (place (thread_number t) v.0) (table_target s h) ]))).reply new after
        → IsGoing (brings (on_table s (elim o [ None ↦ answer says.Unset s.peers | Some h ↦ peer_read s.peers (place (thread_number t) v.0) (table_target s h) ]))).state
        (mark_by mk (brings (on_table s (elim o [ None ↦ answer says.Unset s.peers | Some h ↦ peer_read s.peers (place (thread_number t) v.0) (table_target s h) ]))).reply) new after
    by None m = still s _ mk old new before after refl refl refl m w
    by (Some h) m = read h (table_target s h) refl m
goes-step s mk old new before after t (op.Make sort n) cites step heap w m = by (is_full s.peers.heap.fields || handles_full s.peers) m
  where
    made : Answered Peers
    made = answer (says.Made record { 0 = next_number s.peers.heap } record { 0 = next_handle s.peers }) (with_handle (with_peer s.peers sort n) (next_number s.peers.heap) held strong)

    by : (b : Bool) → MarksNew old (on_table s (if b then answer says.Full s.peers else made)).reply new
        × (after ≡ before) → IsGoing (on_table s (if b then answer says.Full s.peers else made)).state mk new after
    by true m = still s (on_table s (answer says.Full s.peers)).state mk old new before after refl refl refl m w
    by false m = grown s (on_table s made).state mk old new before after sort n refl refl refl m w
goes-step s mk old new before after t (op.Land h x) cites step heap w m = by (table_target s h.0) refl m
  where
    by : (o : Option ℕ) → table_target s h.0 ≡ o → MarksBrought true old before (brings (on_table s (landed s.peers x.0 o))).reply new after
        → IsGoing (brings (on_table s (landed s.peers x.0 o))).state (mark_by mk (brings (on_table s (landed s.peers x.0 o))).reply) new after
    by None e m = still s _ mk old new before after refl refl refl m w
    by (Some p) e m = brought s _ mk old new before after p refl refl refl (target-live s h.0 p w.kept e) m w
goes-step s mk old new before after t (op.Grip x) cites step heap w m = handled s mk old new before after (gripped s.peers x.0) (gripped-heap s.peers x.0) m w
goes-step s mk old new before after t (op.Release h) cites step heap w m = still s _ mk old new before after refl refl refl m w
goes-step s mk old new before after t (op.Line (act.New v k n)) cites step heap w m = absurd step.2
goes-step s mk old new before after t (op.Line (act.Bridge v k n s' f)) cites step heap w m = absurd step.2
goes-step s mk old new before after t (op.Line (act.Weak k v)) cites step heap w m = absurd step.2
goes-step s mk old new before after t (op.Line (act.Read k)) cites step heap w m = absurd step.2
goes-step s mk old new before after t (op.Line (act.Await k)) cites step heap w m = absurd step.2
goes-step s mk old new before after t (op.Line (act.Take v)) cites step heap w m = absurd step.2
goes-step s mk old new before after t (op.Line (act.Pass v x)) cites step heap w m = absurd step.2
goes-step s mk old new before after t (op.Line (act.Surface v x)) cites step heap w m = absurd step.2
goes-step s mk old new before after t (op.Line (act.Dispose v)) cites step heap w m = absurd step.2
goes-step s mk old new before after t (op.Line (act.Handle v)) cites step heap w m = absurd step.2
goes-step s mk old new before after t (op.Line act.Collect) cites step heap w m = absurd step.2
goes-step s mk old new before after t (op.Line act.BeginMark) cites step heap w m = absurd step.2
goes-step s mk old new before after t (op.Line (act.Slice n)) cites step heap w m = absurd step.2
goes-step s mk old new before after t (op.Line act.SweepMark) cites step heap w m = absurd step.2
goes-step s mk old new before after t (op.Line (act.PhaseLine w')) cites step heap w m = absurd step.2
goes-step s mk old new before after t (op.Line (act.Finalise n)) cites step heap w m = absurd step.2
goes-step s mk old new before after t (op.Adopt v k n p h) cites step heap w m = absurd step
goes-step s mk old new before after t (op.Lend v x) cites step heap w m = absurd step
goes-step s mk old new before after t (op.Meet v sort n p h) cites step heap w m = absurd step
goes-step s mk old new before after t (op.Give v) cites step heap w m = absurd step
goes-step s mk old new before after t (op.Snap k) cites step heap w m = absurd step
goes-step s mk old new before after t (op.Contract k) cites step heap w m = absurd step
goes-step s mk old new before after t (op.Mirror k) cites step heap w m = absurd step
goes-step s mk old new before after t (op.Weaken h) cites step heap w m = absurd step
goes-step s mk old new before after t op.Begin cites step heap w m = absurd step
goes-step s mk old new before after t op.Sweep cites step heap w m = absurd step
goes-step s mk old new before after t (op.Restore h) cites step heap w m = absurd step
goes-step s mk old new before after t (op.Clear k) cites step heap w m = absurd step
goes-step s mk old new before after t (op.Resolve k) cites step heap w m = absurd step
goes-step s mk old new before after t (op.Abandon k) cites step heap w m = absurd step
goes-step s mk old new before after t (op.Refused w') cites step heap w m = absurd step

pub marks-step : StepsGoOn
marks-step s mk old new before after t o cites step heap kept opened going m = goes-step s mk old new before after t o cites step heap (record { kept = kept; opened = opened; going = going }) m
