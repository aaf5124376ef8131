-- The calls of a mirrored cycle over its handles, and its end: a handle is weak, and is then gone, with another one in
-- its place or none; and the references go. The replay's answer is what the parts show, and the side stays one.
use Rattle.std.proofs.Common.{◌≡◌, ℕ, ◌+◌, ◌-◌, ◌*◌, ◌≤◌, ◌<◌, ◌↔◌, inl, inr, Bool, true, false, List, [], ◌∷◌, ◌++◌, length, Option, Some, None, if◌then◌else◌, refl, sym, ap, subst, ◌∙◌, arith}
use Rattle.std.proofs.Common.{length-append}
use Rattle.std.specs.Prelude.{All, Contains}
use Rattle.std.specs.Option.{is_some}
use Rattle.std.proofs.lemmas.List.{append-nil, length_push}
use Rattle.std.proofs.lemmas.Option.{same_Some}
use Rattle.joint_machine.specs.declared.names.HNum.{HNum}
use Rattle.joint_machine.specs.declared.names.Thread.TheVariants.{C}
use Rattle.joint_machine.specs.declared.events.Entry.{Entry}
use Rattle.joint_machine.specs.declared.events.Op.TheVariants as op
use Rattle.joint_machine.specs.declared.events.Reply.TheVariants as says
use Rattle.joint_machine.specs.Draws.{AllBelow, numbered}
use Rattle.joint_machine.specs.Heaps.{IsLive, answer, numbered_at}
use Rattle.joint_model.specs.Listed.{Stock}
use Rattle.joint_machine.specs.Peers.{Issued, held, peer_of, strong}
use Rattle.joint_machine.specs.PeerReplay.{PeerReplay, Marking, MayRestore, MayWeaken, Mirror, TableRow, brought_to, peer_answer, table_target}
use Rattle.joint_machine.specs.Sides.{GoesOn, peer_rules}
use Rattle.joint_machine.specs.Told.{nothing}
use Rattle.joint_machine.proofs.Deciding.{none_some, true_false}
use Rattle.joint_machine.proofs.Members.{Contains-cons_cases, Contains-nil}
use Rattle.joint_laws.specs.PeerInvariants.{PeerInvariant}
use Rattle.joint_laws.proofs.PeerEvents.{target-live}
use Rattle.global_handles.specs.declared.Back.{Back}
use Rattle.global_handles.specs.declared.Back.TheVariants.{Alive, Cleared}
use Rattle.row_heap.specs.Rows.{HeapRows}
use Rattle.row_marking.specs.Traces.{IsGreyList}
use Rattle.peer_heap.specs.declared.mirroring.OpenMirror.{OpenMirror}
use Rattle.peer_heap.specs.declared.side.OpenMarking.{OpenMarking}
use Rattle.peer_heap.specs.Cycles.{reply_of, restores, weakens}
use Rattle.peer_heap.specs.Marks.{IsGoing, IsShaded}
use Rattle.peer_heap.specs.Mirroring.{IsRemoved, IsRenewed, RestoresHandle, row_at, weak_row, with_row}
use Rattle.peer_heap.specs.MirrorLaws.{HasFurther, renewed_more, restored_more, state_of, weakened_more}
use Rattle.peer_heap.specs.Mirrors.{Mirrors, AreMirrored, AreWithin, IsDue, given_at, given_since, mirror_as, mirror_in, mirrors_in, owed_by, owed_next, told_since, restored_at, restored_one}
use Rattle.peer_heap.specs.Mirrors.{weakened_at, weakened_one}
use Rattle.peer_heap.specs.Rows.{Rows}
use Rattle.peer_heap.specs.Sides.{AreGoing, IsSide, IsKnown, marking_as, marking_in, owed, peers_at, state_with}
use Rattle.peer_heap.proofs.Cycles.{cycle-next, cycles-next, marking-grown, marking-same, state-eq}
use Rattle.peer_heap.proofs.Dues.{IsDue-restored, IsDue-weakened, due-some}
use Rattle.peer_heap.proofs.Ends.{IsSide-told}
use Rattle.peer_heap.proofs.Going.{greyed-list}
use Rattle.peer_heap.proofs.Mirrored.{removed-answer, renewed-answer, renewed-going, weakened-answer}
use Rattle.peer_heap.proofs.Quiet.{known-grown, known-push, not-grown, numbered-more}
use Rattle.peer_heap.proofs.Sides.{AreGoing-same, from-more, opened}
use Rattle.peer_heap.proofs.Steps.{goes-told, safe-nothing}

-- the mirrored cycle goes on as this
abbrev pub on_mirror : Mirrors → OpenMirror → Mirrors
on_mirror m x = record m { mirror = Some x }

-- a handle is weakened
module _ (old w : Rows) (o : Option OpenMarking) (n : ℕ) (m : Mirrors) (x : OpenMirror) (stock : Stock) (after : List Entry) (k index : ℕ) (h : HNum) (snap : ℕ) (side : IsSide old o n m stock)
    (added : after ≡ stock.entries ++ numbered k (weakens index h snap) ∷ []) (put : w ≡ with_row old h.0 weak_row) (here : m.mirror ≡ Some x) where
  mirrored : AreMirrored stock.entries (Some x)
  mirrored = subst (AreMirrored stock.entries) here side.mirrored

  pub weaker : mirror_as after (weakened_one x) ≡ weakened_more (mirror_as stock.entries x) h.0
  weaker =
      cycle-next stock.entries after (numbered k (weakens index h snap)) added (weakened_one x) mirrored.from
      ∙ (ap (λ l. record (weakened_more (mirror_as stock.entries x) h.0) { restored = l; renewed = given_since x.from stock.entries ++ [] }) (append-nil (told_since restored_at x.from stock.entries))
      ∙ ap (λ l. record (weakened_more (mirror_as stock.entries x) h.0) { renewed = l }) (append-nil (given_since x.from stock.entries)))

  marking-stays : marking_in w.issued after o ≡ marking_in old.issued stock.entries o
  marking-stays = ap (λ is. marking_in is after o) (ap (λ (z : Rows). z.issued) put) ∙ marking-same stock.entries after (numbered k (weakens index h snap)) added old.issued o side.known side.from refl

  told : peer_answer (state_with stock.entries old o n m) C (op.Weaken h) (Some snap) nothing ≡ answer says.Ok (state_with after w o n (on_mirror m (weakened_one x)))
  told =
      let es = stock.entries in
      let mk = marking_in old.issued es o in
      ap (λ y. peer_answer (state_of old (mirror_in es y) (mirrors_in es) mk n) C (op.Weaken h) (Some snap) nothing) here
      ∙ (weakened-answer old w (mirror_as es x) (mirrors_in es) mk n h (Some snap) put
      ∙ ap (λ z. answer says.Ok z) (sym (state-eq w (Some (mirror_as after (weakened_one x)))
      (Some (weakened_more (mirror_as es x) h.0)) (mirrors_in after) (mirrors_in es) (marking_in w.issued after o) mk n
      (ap (λ z. Some z) weaker) (cycles-next es after (numbered k (weakens index h snap)) added ∙ append-nil (mirrors_in es)) marking-stays)))

  pub weaken-goes : MayWeaken (state_with stock.entries old o n m) h.0 (Some snap)
      → GoesOn peer_rules (state_with stock.entries old o n m) (weakens index h snap) nothing (state_with after w o n (on_mirror m (weakened_one x)))
  weaken-goes may = goes-told (state_with stock.entries old o n m) (state_with after w o n (on_mirror m (weakened_one x))) (weakens index h snap) nothing (record { event = tt; side = refl }) may told

  pub weaken-going : (head : ℕ) → AreGoing old o head n m stock.entries → AreGoing w o head n (on_mirror m (weakened_one x)) after
  weaken-going head going =
      let rows = ap (λ (z : Rows). z.rows) put in
      AreGoing-same old w o head n m (on_mirror m (weakened_one x)) stock.entries after (ap (λ (v : HeapRows). v.heap) rows) (ap (λ (v : HeapRows). v.refs) rows)
      (ap (λ (v : HeapRows). v.marks) rows) (ap (λ (v : HeapRows). v.links) rows) (ap (λ (v : HeapRows). v.follows) rows) marking-stays going

pub IsSide-weakened : (old w : Rows) (o : Option OpenMarking) (n : ℕ) (m : Mirrors) (x : OpenMirror) (stock later : Stock) (k floor index : ℕ) (h : HNum) (snap : ℕ)
    → IsSide old o n m stock → later.entries ≡ stock.entries ++ numbered k (weakens index h snap) ∷ [] → AllBelow stock.entries floor → floor ≤ k
    → w ≡ with_row old h.0 weak_row → m.mirror ≡ Some x → 1 ≤ x.left → MayWeaken (state_with stock.entries old o n m) h.0 (Some snap)
    → later.spare + 1 ≡ stock.spare → IsSide w o n (on_mirror m (weakened_one x)) later
IsSide-weakened old w o n m x stock later k floor index h snap side added below above put here left may spare =
    let made = weakens index h snap in
    let e : Entry = numbered k made in
    let grows = length_push stock.entries e in
    let had : owed_by m.mirror ≡ 2 * x.left + x.due + 1 + (if x.marking then 2 else 0) = ap owed_by here in
    let room : w.tabled + owed o + (2 * (x.left - 1) + (x.due + 1) + 1 + (if x.marking then 2 else 0) + owed_next m.next) ≤ later.spare = omega
    (arith, side.room, ap (λ (z : Rows). z.tabled) put, had, left, spare) in
    let was = mirrored old w o n m x stock later.entries k index h snap side added put here in
    IsSide-told old w o o n n m (on_mirror m (weakened_one x)) stock later k floor made nothing added below above
    (weaken-goes old w o n m x stock later.entries k index h snap side added put here may)
    (safe-nothing (state_with stock.entries old o n m) (op.Weaken h))
    room
    (omega (arith, side.limit, spare, ap length added, grows)) (omega arith)
    (from-more o (length stock.entries) (length later.entries) (omega (arith, ap length added, grows)) side.from)
    (record {
      from = omega (arith, was.from, ap length added, grows);
      due = subst (λ z. IsDue z (x.due + 1)) (sym (weaker old w o n m x stock later.entries k index h snap side added put here)) (IsDue-weakened (mirror_as stock.entries x) x.due h.0 was.due);
    })
    (subst (λ is. All (IsKnown is) later.entries) (sym (ap (λ (z : Rows). z.issued) put)) (known-push old.issued stock.entries later.entries e added (λ g c. absurd (Contains-nil g c)) side.known))
    (omega (arith, ap (λ (z : Rows). length z.issued) put))
    (λ z. absurd (none_some (weakened_one x) (sym z)))
    (omega (arith, side.refs_room, ap (λ (z : Rows). z.rows.room) put))
    (omega (arith, side.temps_room, ap (λ (z : Rows). z.rows.temps) put))
    (subst (λ j. AreWithin j m.waiting) (sym (ap (λ (z : Rows). z.rows.temps) put)) side.temps_within)
    (omega (arith, side.few_refs, ap (λ (z : Rows). length z.rows.refs) put))
    side

-- the mirror that a restore or a clear names is the one that is kept
pub same-mirror : (es : List Entry) (o : Option OpenMirror) (x : OpenMirror) (z : Mirror) → o ≡ Some x → mirror_in es o ≡ Some z → mirror_as es x ≡ z
same-mirror es o x z here stands = same_Some (mirror_as es x) z (sym (ap (mirror_in es) here) ∙ stands)

-- the handle that is restored was issued
restored-known : (s : PeerReplay) (h : HNum) (k index : ℕ) (back : Back) → PeerInvariant s → MayRestore s h.0 → IsKnown s.peers.issued (numbered k (restores index h back))
restored-known s h k index back kept may = λ g c.
    let w = kept.references.weakened may.mirror h.0 may.stands may.weakened in
    elim (Contains-cons_cases h.0 [] g c) [ inl e ↦ (w.0, subst (λ z. numbered_at s.peers.issued z ≡ Some w.0) e w.1) | inr r ↦ absurd (Contains-nil g r) ]

-- the mirrored cycle after a restore
abbrev pub restored_after : Mirror → ℕ → Back → Mirror
restored_after m h Cleared = restored_more m h
restored_after m h (Alive g) = renewed_more m h g.0

after-as : (m : Mirror) (h : HNum) (b : Back) → record m { restored = m.restored ++ h.0 ∷ []; renewed = m.renewed ++ given_at (op.Restore h) (reply_of b) } ≡ restored_after m h.0 b
after-as m h Cleared = ap (λ l. record m { restored = m.restored ++ h.0 ∷ []; renewed = l }) (append-nil m.renewed)
after-as m h (Alive g) = refl

due-after : (m : Mirror) (due h : ℕ) (b : Back) → IsDue (restored_more m h) due → IsDue (restored_after m h b) due
due-after m due h Cleared d = d
due-after m due h (Alive g) d = record { weak_ones = d.weak_ones; count = d.count; there = d.there }

-- a restore
module _ (old w : Rows) (o : Option OpenMarking) (n : ℕ) (m : Mirrors) (x : OpenMirror) (stock : Stock) (after : List Entry) (k index : ℕ) (h : HNum) (back : Back) (side : IsSide old o n m stock)
    (added : after ≡ stock.entries ++ numbered k (restores index h back) ∷ []) (here : m.mirror ≡ Some x) where
  was-mirrored : AreMirrored stock.entries (Some x)
  was-mirrored = subst (AreMirrored stock.entries) here side.mirrored

  pub fewer-owed : mirror_as after (restored_one x) ≡ restored_after (mirror_as stock.entries x) h.0 back
  fewer-owed =
      let z = mirror_as stock.entries x in
      cycle-next stock.entries after (numbered k (restores index h back)) added (restored_one x) was-mirrored.from
      ∙ (ap (λ l. record z { weakened = l; restored = z.restored ++ h.0 ∷ []; renewed = z.renewed ++ given_at (op.Restore h) (reply_of back) })
      (append-nil (told_since weakened_at x.from stock.entries))
      ∙ after-as z h back)

  no-cycle : mirrors_in after ≡ mirrors_in stock.entries
  no-cycle = cycles-next stock.entries after (numbered k (restores index h back)) added ∙ append-nil (mirrors_in stock.entries)

  told-by : (mk : Option Marking) → marking_in w.issued after o ≡ mk
      → peer_answer (state_of old (Some (mirror_as stock.entries x)) (mirrors_in stock.entries) (marking_in old.issued stock.entries o) n) C
      (op.Restore h) None nothing ≡ answer (reply_of back) (state_of w (Some (restored_after (mirror_as stock.entries x) h.0 back)) (mirrors_in stock.entries) mk n)
      → peer_answer (state_with stock.entries old o n m) C (op.Restore h) None nothing ≡ answer (reply_of back) (state_with after w o n (on_mirror m (restored_one x)))
  told-by mk marking answers =
      let es = stock.entries in
      ap (λ y. peer_answer (state_of old (mirror_in es y) (mirrors_in es) (marking_in old.issued es o) n) C (op.Restore h) None nothing) here
      ∙ (answers
      ∙ ap (λ z. answer (reply_of back) z) (sym (state-eq w (Some (mirror_as after (restored_one x)))
      (Some (restored_after (mirror_as es x) h.0 back)) (mirrors_in after) (mirrors_in es) (marking_in w.issued after o) mk n
      (ap (λ z. Some z) fewer-owed) no-cycle marking)))

-- a cleared handle leaves the marking; another's peer is brought back
removed-marking : (old w : Rows) (o : Option OpenMarking) (n : ℕ) (m : Mirrors) (stock : Stock) (after : List Entry) (k index : ℕ) (h : HNum) → IsSide old o n m stock
    → after ≡ stock.entries ++ numbered k (restores index h Cleared) ∷ [] → IsRemoved old h.0 w → marking_in w.issued after o ≡ marking_in old.issued stock.entries o
removed-marking old w o n m stock after k index h side added r =
    ap (λ is. marking_in is after o) (ap (λ (z : Rows). z.issued) r.rest) ∙ marking-same stock.entries after (numbered k (restores index h Cleared)) added old.issued o side.known side.from refl

renewed-grown : (old : Rows) (h : ℕ) (g : HNum) (w : Rows) → IsRenewed old h g w → HasFurther old.issued w.issued
renewed-grown old h g w r = (record { peer = r.peer; hold = held; strength = strong } ∷ [], ap (λ (z : Rows). z.issued) r.rest, omega arith)

renewed-marking : (old w : Rows) (o : Option OpenMarking) (n : ℕ) (m : Mirrors) (stock : Stock) (after : List Entry) (k index : ℕ) (h g : HNum)
    → IsSide old o n m stock → after ≡ stock.entries ++ numbered k (restores index h (Alive g)) ∷ [] → (r : IsRenewed old h.0 g w)
    → marking_in w.issued after o ≡ brought_to (marking_in old.issued stock.entries o) r.peer
renewed-marking old w o n m stock after k index h g side added r =
    let grown = renewed-grown old h.0 g w r in
    let there : peer_of w.issued h.0 ≡ Some r.peer = ap (λ is. peer_of is h.0) grown.1 ∙ peer-still old.issued grown.0 h.0 r.peer r.issued in
    marking-grown stock.entries after (numbered k (restores index h (Alive g))) added old.issued w.issued o r.peer grown side.known side.from (ap peers_at there)
  where
    peer-still : (is more : List Issued) (n p : ℕ) → peer_of is n ≡ Some p → peer_of (is ++ more) n ≡ Some p
    peer-still is more n p e = by (numbered_at is n) refl e
      where
        by : (o : Option Issued) → numbered_at is n ≡ o → elim o [ None ↦ None | Some i ↦ Some i.peer ] ≡ Some p → peer_of (is ++ more) n ≡ Some p
        by None at q = absurd (none_some p q)
        by (Some i) at q = ap (λ z. elim z [ None ↦ None | Some j ↦ Some j.peer ]) (numbered-more is more n i at) ∙ q

-- the entry may come next
restore-told : (old w : Rows) (o : Option OpenMarking) (n : ℕ) (m : Mirrors) (x : OpenMirror) (stock : Stock) (after : List Entry) (k index : ℕ) (h : HNum) (back : Back) (b : Bool) (head next : ℕ)
    → IsSide old o n m stock → after ≡ stock.entries ++ numbered k (restores index h back) ∷ [] → m.mirror ≡ Some x
    → RestoresHandle b old head h.0 back w next → peer_answer (state_with stock.entries old o n m) C
    (op.Restore h) None nothing ≡ answer (reply_of back) (state_with after w o n (on_mirror m (restored_one x)))
restore-told old w o n m x stock after k index h Cleared b head next side added here r =
    let es = stock.entries in
    told-by old w o n m x stock after k index h Cleared side added here (marking_in old.issued es o) (removed-marking old w o n m stock after k index h side added r.0)
    (removed-answer old w (mirror_as es x) (mirrors_in es) (marking_in old.issued es o) n h None r.0)
restore-told old w o n m x stock after k index h (Alive g) b head next side added here r =
    let es = stock.entries in
    told-by old w o n m x stock after k index h (Alive g) side added here (brought_to (marking_in old.issued es o) r.0.peer) (renewed-marking old w o n m stock after k index h g side added r.0)
    (renewed-answer old w (mirror_as es x) (mirrors_in es) (marking_in old.issued es o) n h g None r.0)

pub restore-goes : (old w : Rows) (o : Option OpenMarking) (n : ℕ) (m : Mirrors) (x : OpenMirror) (stock : Stock) (after : List Entry) (k index : ℕ) (h : HNum) (back : Back) (b : Bool) (head next : ℕ)
    → IsSide old o n m stock → after ≡ stock.entries ++ numbered k (restores index h back) ∷ [] → m.mirror ≡ Some x
    → RestoresHandle b old head h.0 back w next → MayRestore (state_with stock.entries old o n m) h.0
    → GoesOn peer_rules (state_with stock.entries old o n m) (restores index h back) nothing (state_with after w o n (on_mirror m (restored_one x)))
restore-goes old w o n m x stock after k index h back b head next side added here r may =
    goes-told (state_with stock.entries old o n m) (state_with after w o n (on_mirror m (restored_one x))) (restores index h back) nothing
    (record { event = tt; side = refl }) may (restore-told old w o n m x stock after k index h back b head next side added here r)

-- a handle that isn't cleared is on a live peer
renewed-live : (s : PeerReplay) (v : Rows) (h : ℕ) (g : HNum) (w : Rows) → PeerInvariant s → s.table ≡ v.table → s.peers.issued ≡ v.issued → (r : IsRenewed v h g w) → IsLive s.peers.heap r.peer
renewed-live s v h g w kept table issued r =
    let leads : table_target s h ≡ Some r.peer = ap (λ (o : Option TableRow). elim o [ None ↦ None | Some z ↦ if z.cleared then None else peer_of s.peers.issued h ])
    (ap (λ (t : List (Option TableRow)). elim (numbered_at t h) [ None ↦ None | Some z ↦ z ]) table ∙ r.tabled)
    ∙ (ap (λ (b : Bool). if b then None else peer_of s.peers.issued h) r.kept ∙ (ap (λ (is : List Issued). peer_of is h) issued ∙ r.issued)) in
    target-live s h r.peer kept leads

-- the list of grey peers stays one
renewed-list : (b : Bool) (old w : Rows) (head next p : ℕ) → IsShaded b (λ k. k ≡ p) old.rows head w.rows next
    → IsGreyList old.rows.marks old.rows.links head → IsGreyList w.rows.marks w.rows.links next
renewed-list b old w head next p sh list = greyed-list (λ k. (b ≡ true) × (k ≡ p)) old.rows.marks old.rows.links head w.rows.marks w.rows.links next sh.shaded list

-- an open marking goes on
pub restore-going : (old w : Rows) (o : Option OpenMarking) (n : ℕ) (m : Mirrors) (x : OpenMirror) (stock : Stock) (after : List Entry) (k index : ℕ) (h : HNum) (back : Back) (head next : ℕ)
    → IsSide old o n m stock → after ≡ stock.entries ++ numbered k (restores index h back) ∷ [] → m.mirror ≡ Some x
    → RestoresHandle (is_some o) old head h.0 back w next → AreGoing old o head n m stock.entries → AreGoing w o next n (on_mirror m (restored_one x)) after
restore-going old w o n m x stock after k index h Cleared head next side added here r going =
    let rows = ap (λ (z : Rows). z.rows) r.0.rest in
    subst (λ j. AreGoing w o j n (on_mirror m (restored_one x)) after) (sym r.1)
    (AreGoing-same old w o head n m (on_mirror m (restored_one x)) stock.entries after (ap (λ (v : HeapRows). v.heap) rows)
    (ap (λ (v : HeapRows). v.refs) rows) (ap (λ (v : HeapRows). v.marks) rows) (ap (λ (v : HeapRows). v.links) rows) (ap (λ (v : HeapRows). v.follows) rows)
    (removed-marking old w o n m stock after k index h side added r.0) going)
restore-going old w None n m x stock after k index h (Alive g) head next side added here r
    going = record { list = renewed-list false old w head next r.0.peer r.1 going.list; going = λ mk q. absurd (none_some mk q) }
restore-going old w (Some o) n m x stock after k index h (Alive g) head next side added here r going = record { list = renewed-list true old w head next r.0.peer r.1 going.list; going = goes-on }
  where
    goes-on : (mk : Marking) → marking_in w.issued after (Some o) ≡ Some mk → IsGoing (state_with after w (Some o) n (on_mirror m (restored_one x))) mk w.rows next
    goes-on mk q =
        let es = stock.entries in
        let before = marking_as old.issued es o in
        let more : Marking = record before { brought = before.brought ++ r.0.peer ∷ [] } in
        let t = state_with after w (Some o) n (on_mirror m (restored_one x)) in
        let marking = renewed-marking old w (Some o) n m stock after k index h g side added r.0 in
        let later = mirror_in after (Some (restored_one x)) in
        let same : state_of w later (mirrors_in es) (Some more) n ≡ t = sym
        (state-eq w later later (mirrors_in after) (mirrors_in es) (marking_in w.issued after (Some o))
        (Some more) n refl (no-cycle old w (Some o) n m x stock after k index h (Alive g) side added here) marking) in
        let live = renewed-live (state_with es old (Some o) n m) old h.0 g w side.kept refl refl r.0 in
        let goes = renewed-going old w (mirror_in es m.mirror) later (mirrors_in es) before n head next h.0 g r.0 r.1 live side.kept (opened old o head n m stock going) in
        subst (λ z. IsGoing t z w.rows next) (same_Some more mk (sym marking ∙ q)) (subst (λ z. IsGoing z more w.rows next) same goes)

-- what a restore leaves of the rows
record IsRestoredRest (old w : Rows) : Type 0 where
  tabled : w.tabled ≤ old.tabled
  issued : HasFurther old.issued w.issued
  room : w.rows.room ≡ old.rows.room
  temps : w.rows.temps ≡ old.rows.temps
  refs : w.rows.refs ≡ old.rows.refs

restored-rest : (b : Bool) (old : Rows) (head h : ℕ) (back : Back) (w : Rows) (next : ℕ) → RestoresHandle b old head h back w next → IsRestoredRest old w
restored-rest b old head h Cleared w next (r, at) = record {
  tabled = omega (arith, r.fewer);
  issued = not-grown old.issued w.issued (ap (λ (z : Rows). z.issued) r.rest);
  room = ap (λ (z : Rows). z.rows.room) r.rest;
  temps = ap (λ (z : Rows). z.rows.temps) r.rest;
  refs = ap (λ (z : Rows). z.rows.refs) r.rest;
}
restored-rest b old head h (Alive g) w next (r, sh) = record {
  tabled = omega (arith, ap (λ (z : Rows). z.tabled) r.rest);
  issued = renewed-grown old h g w r;
  room = ap (λ (z : Rows). z.rows.room) r.rest;
  temps = ap (λ (z : Rows). z.rows.temps) r.rest;
  refs = ap (λ (z : Rows). z.rows.refs) r.rest;
}

-- one restore is owed at least
pub restore-owed : (rows : Rows) (o : Option OpenMarking) (n : ℕ) (m : Mirrors) (x : OpenMirror) (stock : Stock) (h : HNum)
    → IsSide rows o n m stock → m.mirror ≡ Some x → MayRestore (state_with stock.entries rows o n m) h.0 → 1 ≤ x.due
restore-owed rows o n m x stock h side here may =
    let same = same-mirror stock.entries m.mirror x may.mirror here may.stands in
    let was : AreMirrored stock.entries (Some x) = subst (AreMirrored stock.entries) here side.mirrored in
    due-some (mirror_as stock.entries x) x.due h.0 was.due (subst (λ (z : Mirror). Contains z.weakened h.0) (sym same) may.weakened)
    (λ c. may.waiting (subst (λ (z : Mirror). Contains z.restored h.0) same c))

-- so a number is left for the handle that it may give
pub restore-last : (rows : Rows) (o : Option OpenMarking) (n : ℕ) (m : Mirrors) (x : OpenMirror) (stock : Stock) (h : HNum)
    → IsSide rows o n m stock → m.mirror ≡ Some x → MayRestore (state_with stock.entries rows o n m) h.0 → length rows.issued < 4294967295
restore-last rows o n m x stock h side here may =
    let some = restore-owed rows o n m x stock h side here may in
    let had : owed_by m.mirror ≡ 2 * x.left + x.due + 1 + (if x.marking then 2 else 0) = ap owed_by here in
    omega (arith, side.room, side.limit, side.issued, had, some)

-- what its answer tells
pub restored-cleared : (b : Bool) (old : Rows) (head h : ℕ) (back : Back) (w : Rows) (next : ℕ) (row : TableRow)
    → RestoresHandle b old head h back w next → row_at old h ≡ Some row → (back ≡ Cleared) ↔ (row.cleared ≡ true)
restored-cleared b old head h Cleared w next row (r, stays) at = (
  (λ e. ap (λ (t : TableRow). t.cleared) (same_Some row r.row (sym at ∙ r.tabled)) ∙ r.cleared),
  (λ e. refl),
)
restored-cleared b old head h (Alive g) w next row (r, sh) at = (
  (λ e. absurd (let f : Alive g ≡ Cleared = e in cc)),
  (λ e. absurd (true_false (sym e ∙ (ap (λ (t : TableRow). t.cleared) (same_Some row r.row (sym at ∙ r.tabled)) ∙ r.kept)))),
)

pub restored-number : (b : Bool) (old : Rows) (head h : ℕ) (back : Back) (w : Rows) (next : ℕ) → RestoresHandle b old head h back w next → (g : HNum) → back ≡ Alive g → g.0 ≡ length old.issued + 1
restored-number b old head h Cleared w next r g e = absurd (let f : Cleared ≡ Alive g = e in cc)
restored-number b old head h (Alive k) w next r g e = (let same : g ≡ k = cc in ap (λ (z : HNum). z.0) same ∙ r.0.number)

-- the side after it
pub IsSide-restored : (old w : Rows) (o : Option OpenMarking) (n : ℕ) (m : Mirrors) (x : OpenMirror) (stock later : Stock) (k floor index : ℕ) (h : HNum) (back : Back)
    → IsSide old o n m stock → later.entries ≡ stock.entries ++ numbered k (restores index h back) ∷ [] → AllBelow stock.entries floor → floor ≤ k
    → m.mirror ≡ Some x → (head next : ℕ) → RestoresHandle (is_some o) old head h.0 back w next
    → MayRestore (state_with stock.entries old o n m) h.0 → later.spare + 1 ≡ stock.spare → IsSide w o n (on_mirror m (restored_one x)) later
IsSide-restored old w o n m x stock later k floor index h back side added below above here head next r may spare =
    let made = restores index h back in
    let e : Entry = numbered k made in
    let grows = length_push stock.entries e in
    let rest = restored-rest (is_some o) old head h.0 back w next r in
    let some = restore-owed old o n m x stock h side here may in
    let same = same-mirror stock.entries m.mirror x may.mirror here may.stands in
    let had : owed_by m.mirror ≡ 2 * x.left + x.due + 1 + (if x.marking then 2 else 0) = ap owed_by here in
    let room : w.tabled + owed o + (2 * x.left + (x.due - 1) + 1 + (if x.marking then 2 else 0) + owed_next m.next) ≤ later.spare = omega (arith, side.room, rest.tabled, had, some, spare) in
    let was : AreMirrored stock.entries (Some x) = subst (AreMirrored stock.entries) here side.mirrored in
    let due = IsDue-restored (mirror_as stock.entries x) x.due h.0 was.due (subst (λ (z : Mirror). Contains z.weakened h.0) (sym same) may.weakened)
    (λ c. may.waiting (subst (λ (z : Mirror). Contains z.restored h.0) same c)) in
    IsSide-told old w o o n n m (on_mirror m (restored_one x)) stock later k floor made nothing added below above
    (restore-goes old w o n m x stock later.entries k index h back (is_some o) head next side added here r may)
    (safe-nothing (state_with stock.entries old o n m) (op.Restore h))
    room
    (omega (arith, side.limit, spare, ap length added, grows)) (omega arith)
    (from-more o (length stock.entries) (length later.entries) (omega (arith, ap length added, grows)) side.from)
    (record {
      from = omega (arith, was.from, ap length added, grows);
      due = subst (λ z. IsDue z (x.due - 1)) (sym (fewer-owed old w o n m x stock later.entries k index h back side added here)) (due-after (mirror_as stock.entries x) (x.due - 1) h.0 back due);
    })
    (known-grown old.issued w.issued later.entries rest.issued (known-push old.issued stock.entries later.entries e added
    (restored-known (state_with stock.entries old o n m) h k index back side.kept may) side.known))
    (omega (arith, ap length rest.issued.1, length-append old.issued rest.issued.0, rest.issued.2))
    (λ z. absurd (none_some (restored_one x) (sym z)))
    (omega (arith, side.refs_room, rest.room))
    (omega (arith, side.temps_room, rest.temps))
    (subst (λ j. AreWithin j m.waiting) (sym rest.temps) side.temps_within)
    (omega (arith, side.few_refs, ap length rest.refs))
    side
