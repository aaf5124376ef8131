-- The end of a mirrored cycle: the references go. What an unfreed peer's reference led to is under a strong handle, so
-- an open marking spares it still, and it is shaded.
use Rattle.std.proofs.Common.{◌≡◌, ℕ, ◌+◌, ◌≤◌, true, List, [], ◌∷◌, ◌++◌, length, Option, Some, None, refl, sym, ap, subst, ◌∙◌, arith}
use Rattle.std.specs.Prelude.{All}
use Rattle.std.specs.Option.{is_some}
use Rattle.std.proofs.lemmas.List.{append-nil, length_push}
use Rattle.std.proofs.lemmas.Option.{same_Some}
use Rattle.joint_machine.specs.declared.names.Cycle.{Cycle}
use Rattle.joint_machine.specs.declared.names.Thread.TheVariants.{C}
use Rattle.joint_machine.specs.declared.events.Entry.{Entry}
use Rattle.joint_machine.specs.declared.events.Op.TheVariants as op
use Rattle.joint_machine.specs.declared.events.Reply.TheVariants as says
use Rattle.joint_machine.specs.Draws.{AllBelow, numbered}
use Rattle.joint_machine.specs.Heaps.{IsLive, answer, numbered_at}
use Rattle.joint_model.specs.Listed.{Stock}
use Rattle.joint_machine.specs.Peers.{Issued}
use Rattle.joint_machine.specs.PeerReplay.{PeerReplay, HasReference, Marking, MayClear, Mirror, Refers, peer_answer}
use Rattle.joint_machine.specs.Sides.{GoesOn, peer_rules}
use Rattle.joint_machine.specs.Told.{nothing}
use Rattle.joint_machine.proofs.Deciding.{none_some}
use Rattle.joint_machine.proofs.Members.{Contains-nil}
use Rattle.joint_laws.specs.PeerInvariants.{PeerInvariant, IsSpared}
use Rattle.marking_laws.specs.Slices.{AreMarksGoing}
use Rattle.marking_laws.proofs.SliceEvents.{going-cleared, going-same}
use Rattle.row_heap.specs.Marks.{IsReferred}
use Rattle.row_marking.specs.Traces.{Greyed}
use Rattle.peer_heap.specs.declared.mirroring.OpenMirror.{OpenMirror}
use Rattle.peer_heap.specs.declared.side.OpenMarking.{OpenMarking}
use Rattle.peer_heap.specs.Cycles.{clears}
use Rattle.peer_heap.specs.Marks.{IsGoing}
use Rattle.peer_heap.specs.Mirroring.{strong_row, with_cleared}
use Rattle.peer_heap.specs.MirrorLaws.{state_of}
use Rattle.peer_heap.specs.Mirrors.{Mirrors, AreTargetsRestored, AreWithin, HasRestoredHandle, mirror_as, mirror_in, mirrors_in, owed_by, owed_next}
use Rattle.peer_heap.specs.Rows.{Rows}
use Rattle.peer_heap.specs.Sides.{AreGoing, IsSide, IsKnown, marking_in, owed, state_with}
use Rattle.peer_heap.proofs.Cycles.{cycles-next, marking-same, state-eq}
use Rattle.peer_heap.proofs.Going.{greyed-list, open-shades}
use Rattle.peer_heap.proofs.Ends.{IsSide-told}
use Rattle.peer_heap.proofs.Mirrored.{gone-answer}
use Rattle.peer_heap.proofs.Quiet.{known-push}
use Rattle.peer_heap.proofs.Sides.{from-more}
use Rattle.peer_heap.proofs.Steps.{goes-told, row-tabled, safe-nothing}

-- the handle of a peer that is restored strong was issued on it
record IsOn (o : Option Issued) (p : ℕ) : Type 0 where
  issue : Issued
  made : o ≡ Some issue
  peer : issue.peer ≡ p

is-on : (o : Option Issued) (p : ℕ) → elim o [ None ↦ None | Some i ↦ Some i.peer ] ≡ Some p → IsOn o p
is-on None p e = absurd (none_some p e)
is-on (Some i) p e = record { issue = i; made = refl; peer = same_Some i.peer p e }

-- so it is live, and an open marking spares it
restored-live : (s : PeerReplay) (m : Mirror) (p : ℕ) → PeerInvariant s → HasRestoredHandle s m p → IsLive s.peers.heap p
restored-live s m p kept r =
    let i = is-on (numbered_at s.peers.issued r.handle) p r.peer in
    subst (IsLive s.peers.heap) i.peer (kept.handles.uncleared r.handle strong_row i.issue (row-tabled (numbered_at s.table r.handle) strong_row r.strong_now) i.made refl)

restored-spared : (s : PeerReplay) (m : Mirror) (p : ℕ) (mk : Marking) → PeerInvariant s → s.marking ≡ Some mk → HasRestoredHandle s m p → IsSpared mk p
restored-spared s m p mk kept e r =
    let i = is-on (numbered_at s.peers.issued r.handle) p r.peer in
    subst (IsSpared mk) i.peer ((kept.marking mk e).strong_ones r.handle strong_row i.issue (row-tabled (numbered_at s.table r.handle) strong_row r.strong_now) refl i.made)

-- no reference led from such a peer to a freed one
pub target-kept : (s : PeerReplay) (m : Mirror) (p q : ℕ) → PeerInvariant s → Refers s.refs p q → HasRestoredHandle s m p → IsLive s.peers.heap q
target-kept s m p q kept refers r = kept.references.live p q refers (restored-live s m p kept r)

-- the mirrored cycle is kept
pub some-mirror : (es : List Entry) (o : Option OpenMirror) (z : Mirror) → mirror_in es o ≡ Some z → (x : OpenMirror) × (o ≡ Some x)
some-mirror es None z e = absurd (none_some z e)
some-mirror es (Some x) z e = (x, refl)

-- a marking is open
some-open : (issued : List Issued) (es : List Entry) (o : Option OpenMarking) (mk : Marking) → marking_in issued es o ≡ Some mk → is_some o ≡ true
some-open issued es None mk e = absurd (none_some mk e)
some-open issued es (Some o) mk e = refl

-- no cycle is mirrored
abbrev pub over : Mirrors → Mirrors
over m = record m { mirror = None }

-- the references go
module _ (old w : Rows) (o : Option OpenMarking) (n : ℕ) (m : Mirrors) (x : OpenMirror) (stock : Stock) (after : List Entry) (k index : ℕ) (cycle : Cycle) (side : IsSide old o n m stock)
    (added : after ≡ stock.entries ++ numbered k (clears index cycle) ∷ []) (put : w ≡ with_cleared old w.rows) (here : m.mirror ≡ Some x) where
  marking-stays : marking_in w.issued after o ≡ marking_in old.issued stock.entries o
  marking-stays = ap (λ is. marking_in is after o) (ap (λ (z : Rows). z.issued) put) ∙ marking-same stock.entries after (numbered k (clears index cycle)) added old.issued o side.known side.from refl

  told : peer_answer (state_with stock.entries old o n m) C (op.Clear cycle) None nothing ≡ answer says.Ok (state_with after w o n (over m))
  told =
      let es = stock.entries in
      let mk = marking_in old.issued es o in
      ap (λ y. peer_answer (state_of old (mirror_in es y) (mirrors_in es) mk n) C (op.Clear cycle) None nothing) here
      ∙ (gone-answer old w (mirror_as es x) (mirrors_in es) mk n cycle None put
      ∙ ap (λ z. answer says.Ok z) (sym (state-eq w None None (mirrors_in after) (mirrors_in es) (marking_in w.issued after o) mk n refl
      (cycles-next es after (numbered k (clears index cycle)) added ∙ append-nil (mirrors_in es)) marking-stays)))

  pub clear-goes : MayClear (state_with stock.entries old o n m) cycle.0 → GoesOn peer_rules (state_with stock.entries old o n m) (clears index cycle) nothing (state_with after w o n (over m))
  clear-goes may = goes-told (state_with stock.entries old o n m) (state_with after w o n (over m)) (clears index cycle) nothing (record { event = tt; side = refl }) may told

  pub clear-going : (head next : ℕ) → Greyed (λ k. (is_some o ≡ true) × IsReferred old.rows k) old.rows.marks old.rows.links head w.rows.marks w.rows.links next
      → AreTargetsRestored (state_with stock.entries old o n m) → AreGoing old o head n m stock.entries → AreGoing w o next n (over m) after
  clear-going head next shaded targets going = record {
    list = greyed-list
        (λ k. (is_some o ≡ true) × IsReferred old.rows k) old.rows.marks old.rows.links head w.rows.marks w.rows.links next shaded going.list;
    going = goes-on;
  }
    where
      goes-on : (mk : Marking) → marking_in w.issued after o ≡ Some mk → IsGoing (state_with after w o n (over m)) mk w.rows next
      goes-on mk q =
          let s = state_with stock.entries old o n m in
          let t = state_with after w o n (over m) in
          let open' = sym marking-stays ∙ q in
          let g = going.going mk open' in
          let y = open-shades (is_some o) (IsReferred old.rows) old.rows.marks old.rows.links head w.rows.marks w.rows.links next
          (some-open old.issued stock.entries o mk open') shaded g.greys g.chained in
          let spared : (a b : ℕ) → HasReference s.peers.heap s.refs a b
          → IsSpared mk b = λ a b r. (let z = mirror_as stock.entries x in restored-spared s z b mk side.kept open' (targets z (ap (mirror_in stock.entries) here) a b r)) in
          let gone = going-cleared s mk old.rows.follows old.rows.marks w.rows.marks g.greys y.waits spared g.right y.shades in
          let moved : AreMarksGoing t mk old.rows.follows w.rows.marks y.waits =
          going-same (record s { refs = []; mirror = None }) t mk old.rows.follows w.rows.marks y.waits
          (ap (λ (z : Rows). z.rows.heap.fields) put) (ap (λ (z : Rows). z.rows.heap.freed) put) (ap (λ (z : Rows). z.rows.refs) put) gone in
          record { greys = y.waits; chained = y.chained; right = subst (λ f. AreMarksGoing t mk f w.rows.marks y.waits) (sym (ap (λ (z : Rows). z.rows.follows) put)) moved }

pub IsSide-cleared : (old w : Rows) (o : Option OpenMarking) (n : ℕ) (m : Mirrors) (x : OpenMirror) (stock later : Stock) (k floor index : ℕ) (cycle : Cycle)
    → IsSide old o n m stock → later.entries ≡ stock.entries ++ numbered k (clears index cycle) ∷ [] → AllBelow stock.entries floor → floor ≤ k
    → w ≡ with_cleared old w.rows → m.mirror ≡ Some x → MayClear (state_with stock.entries old o n m) cycle.0
    → AreTargetsRestored (state_with stock.entries old o n m) → later.spare + 1 ≡ stock.spare → IsSide w o n (over m) later
IsSide-cleared old w o n m x stock later k floor index cycle side added below above put here may targets spare =
    let made = clears index cycle in
    let e : Entry = numbered k made in
    let grows = length_push stock.entries e in
    let had : 1 ≤ owed_by m.mirror = subst (λ z. 1 ≤ owed_by z) (sym here) (omega arith) in
    let room : w.tabled + owed o + (0 + owed_next m.next) ≤ later.spare = omega (arith, side.room, ap (λ (z : Rows). z.tabled) put, had, spare) in
    IsSide-told old w o o n n m (over m) stock later k floor made nothing added below above
    (clear-goes old w o n m x stock later.entries k index cycle side added put here may)
    (safe-nothing (state_with stock.entries old o n m) (op.Clear cycle))
    room
    (omega (arith, side.limit, spare, ap length added, grows)) (omega arith)
    (from-more o (length stock.entries) (length later.entries) (omega (arith, ap length added, grows)) side.from)
    tt
    (subst (λ is. All (IsKnown is) later.entries) (sym (ap (λ (z : Rows). z.issued) put)) (known-push old.issued stock.entries later.entries e added (λ g c. absurd (Contains-nil g c)) side.known))
    (omega (arith, ap (λ (z : Rows). length z.issued) put))
    (λ z. ap (λ (v : Rows). v.rows.refs) put)
    (omega (arith, side.refs_room, ap (λ (z : Rows). z.rows.room) put))
    (omega (arith, side.temps_room, ap (λ (z : Rows). z.rows.temps) put))
    (subst (λ j. AreWithin j m.waiting) (sym (ap (λ (z : Rows). z.rows.temps) put)) side.temps_within)
    (omega (arith, ap (λ (z : Rows). length z.rows.refs) put))
    side
