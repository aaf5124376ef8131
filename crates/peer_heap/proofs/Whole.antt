-- A marking without a grey peer is at its end: what slots and strong handles name is spared by the definition, and a
-- mark tells that. What it then frees is what the definition's sweep frees, and no strong handle leads there.
use Rattle.std.proofs.Common.{◌≡◌, ◌≢◌, ℕ, zero, suc, ◌≤◌, ◌<◌, inl, inr, Bool, true, List, [], ◌∷◌, map, length, get_or, Option, Some, None, eqb, if◌then◌else◌, refl, sym, ap, subst, ◌∙◌, arith}
use Rattle.std.specs.Option.{option_map}
use Rattle.std.specs.Prelude.{All, Contains, slice_get}
use Rattle.std.proofs.lemmas.List.Elements.{Contains-get_or}
use Rattle.std.proofs.lemmas.Bool.Decides.{nat_tests}
use Rattle.std.proofs.lemmas.Option.{none-some, same_Some, slice_get-get_or}
use Rattle.joint_machine.specs.declared.names.PNum.{PNum}
use Rattle.joint_machine.specs.Heaps.{IsLive, numbered_at}
use Rattle.joint_machine.specs.Histories.{peer_numbers}
use Rattle.joint_machine.specs.Peers.{Issued, Strength as JointStrength, is_strong, strong, weak}
use Rattle.joint_machine.specs.PeerReplay.{PeerReplay, TableRow, Marking, strong_peers}
use Rattle.joint_machine.proofs.Deciding.{neq-eqb}
use Rattle.joint_machine.proofs.Members.{Contains-cons_cases, Contains-map, Contains-nil}
use Rattle.joint_laws.specs.PeerInvariants.{PeerInvariant, IsSpared, IsTabled, IsIssued}
use Rattle.joint_laws.proofs.MarkingKeeping.{strong-listed}
use Rattle.joint_laws.proofs.PeerMoves.{IsSafe}
use Rattle.global_handles.specs.declared.HandleRow.{HandleRow}
use Rattle.global_handles.specs.declared.Strength.{Strength}
use Rattle.global_handles.specs.declared.Strength.TheVariants.{Strong, Weak}
use Rattle.global_handles.specs.Rows.{IsWeakFor, RisesBetween, row_in}
use Rattle.reachability.specs.Marks.{HasMark}
use Rattle.peer_heap.specs.declared.issues.Issue.{Issue}
use Rattle.peer_heap.specs.Marking.{IsWholeMarking, strong_in, with_marking}
use Rattle.marking_laws.specs.Slices.{IsGoingSide}
use Rattle.marking_laws.proofs.SliceEvents.{going-shut, spared-going}
use Rattle.peer_heap.specs.Rows.{AreRowsIssued, Rows, issued_as, row_as, strength_as, table_to}
use Rattle.peer_heap.proofs.Roots.{numbered-table, strong-in, strong-of}
use Rattle.global_handles.proofs.Lookups.{RisesBetween-within, row_in-place}
use Rattle.peer_heap.proofs.Handles.{numbered_at-map, row_in-shown, shown-is}

rises-at : (low high : ℕ) (rows : List HandleRow) (k : ℕ) (r : HandleRow) → RisesBetween low high rows → slice_get rows k ≡ Some r → (low < r.number.0) × (r.number.0 ≤ high)
rises-at low high [] k r rises at = absurd (none-some r at)
rises-at low high (x ∷ rs) zero r rises at = (
  subst (λ (q : HandleRow). low < q.number.0) (same_Some x r at) rises.0,
  subst (λ (q : HandleRow). q.number.0 ≤ high) (same_Some x r at) (RisesBetween-within x.number.0 high rs rises.1),
)
rises-at low high (x ∷ rs) (suc k) r rises at = (let w = rises-at x.number.0 high rs k r rises.1 at in (omega (arith, rises.0, w.0), w.1))

-- a row is found under its number
row-found : (low high : ℕ) (rows : List HandleRow) (k : ℕ) (r : HandleRow) → RisesBetween low high rows → slice_get rows k ≡ Some r → row_in rows r.number ≡ Some r
row-found low high [] k r rises at = absurd (none-some r at)
row-found low high (x ∷ rs) zero r rises at = subst (λ (q : HandleRow). row_in (x ∷ rs) q.number ≡ Some q)
    (same_Some x r at) (ap (λ (b : Bool). if b then Some x else row_in rs x.number) (here x.number.0))
  where
    here : (n : ℕ) → eqb n n ≡ true
    here n = grind (arith, nat_tests)
row-found low high (x ∷ rs) (suc k) r rises at =
    let above = (rises-at x.number.0 high rs k r rises.1 at).0 in
    let apart : r.number.0 ≢ x.number.0 = λ e. omega (arith, above, e) in
    ap (λ (b : Bool). if b then Some x else row_in rs r.number) (neq-eqb r.number.0 x.number.0 apart) ∙ row-found x.number.0 high rs k r rises.1 at

-- the peer of a strong row is one of those that strong handles name
pub strong-row : (rows : List HandleRow) (issued : List Issue) (n k : ℕ) (r : HandleRow) → RisesBetween 0 n rows
    → n ≡ length issued → AreRowsIssued rows issued → slice_get rows k ≡ Some r → r.strength ≡ Strong
    → Contains (strong_peers (map issued_as issued) (table_to rows n)) r.peer.0
strong-row rows issued n k r rises len own at s =
    let found = row-found 0 n rows k r rises at in
    let place = rises-at 0 n rows k r rises at in
    let i = own r.number r found in
    let tabled : IsTabled (table_to rows n) r.number.0 (row_as r) = numbered-table rows n r.number.0 (omega (arith, place.0)) place.1 ∙ ap (λ o. Some (option_map row_as o)) found in
    let issue : IsIssued (map issued_as issued) r.number.0 (issued_as i.0) = mapped issued r.number.0 i.0 i.1 in
    subst (Contains (strong_peers (map issued_as issued) (table_to rows n))) (ap (λ (q : PNum). q.0) i.2)
    (strong-listed (map issued_as issued) (table_to rows n) r.number.0 (row_as r) (issued_as i.0) tabled (ap strength_as s) issue)
  where
    mapped : (l : List Issue) (h : ℕ) (i : Issue) → numbered_at l h ≡ Some i → numbered_at (map issued_as l) h ≡ Some (issued_as i)
    mapped l zero i q = absurd (none-some i q)
    mapped [] (suc h) i q = absurd (none-some i q)
    mapped (y ∷ l) (suc zero) i q = ap (λ o. option_map issued_as o) q
    mapped (y ∷ l) (suc (suc h)) i q = mapped l (suc h) i q

-- what strong handles name stands under one of them
record IsStrongAt (issued : List Issued) (table : List (Option TableRow)) (p : ℕ) : Type 0 where
  place : ℕ
  row : TableRow
  issue : Issued
  tabled : slice_get table place ≡ Some (Some row)
  sure : row.strength ≡ strong
  made : slice_get issued place ≡ Some issue
  peer : issue.peer ≡ p

strong-at : (issued : List Issued) (table : List (Option TableRow)) (p : ℕ) → Contains (strong_peers issued table) p → IsStrongAt issued table p
strong-at [] table p c = absurd (Contains-nil p c)
strong-at (i ∷ is) [] p c = absurd (Contains-nil p c)
strong-at (i ∷ is) (None ∷ rows) p c = (let w = strong-at is rows p c in record { place = suc w.place; row = w.row; issue = w.issue; tabled = w.tabled; sure = w.sure; made = w.made; peer = w.peer })
strong-at (i ∷ is) (Some row ∷ rows) p c = by row.strength refl c (strong-at is rows p)
  where
    by : (x : JointStrength) → row.strength ≡ x → Contains (if is_strong x then i.peer ∷ strong_peers is rows else strong_peers is rows) p
        → (Contains (strong_peers is rows) p → IsStrongAt is rows p) → IsStrongAt (i ∷ is) (Some row ∷ rows) p
    by strong e d rest = elim (Contains-cons_cases i.peer (strong_peers is rows) p d) [
      | inl q ↦ record { place = 0; row = row; issue = i; tabled = refl; sure = e; made = refl; peer = q }
      | inr q ↦ (let w = rest q in record { place = suc w.place; row = w.row; issue = w.issue; tabled = w.tabled; sure = w.sure; made = w.made; peer = w.peer })
    ]
    by weak e d rest = (let w = rest d in record { place = suc w.place; row = w.row; issue = w.issue; tabled = w.tabled; sure = w.sure; made = w.made; peer = w.peer })

-- and the other way round
pub strong-named : (rows : List HandleRow) (issued : List Issue) (n p : ℕ) → AreRowsIssued rows issued
    → Contains (strong_peers (map issued_as issued) (table_to rows n)) p → Contains (strong_in rows) p
strong-named rows issued n p own c =
    let w = strong-at (map issued_as issued) (table_to rows n) p c in
    let found = row_in-shown rows (suc w.place) n w.row w.tabled in
    let k = row_in-place rows record { 0 = suc w.place } found.0 found.1 in
    let i = own record { 0 = suc w.place } found.0 found.1 in
    let seen : row_as found.0 ≡ w.row = shown-is rows (suc w.place) n w.row found.0 w.tabled found.1 in
    let sure : found.0.strength ≡ Strong = is-strong found.0.strength (ap (λ (t : TableRow). t.strength) seen ∙ w.sure) in
    let issue : issued_as i.0 ≡ w.issue = same_Some (issued_as i.0) w.issue (sym (numbered_at-map issued (suc w.place) i.0 i.1) ∙ w.made) in
    let peer : found.0.peer.0 ≡ p = ap (λ (q : PNum). q.0) (sym i.2) ∙ (ap (λ (q : Issued). q.peer) issue ∙ w.peer) in
    subst (Contains (strong_in rows)) peer (strong-in rows k.0 found.0 k.1 sure)
  where
    is-strong : (x : Strength) → strength_as x ≡ strong → x ≡ Strong
    is-strong Strong e = refl
    is-strong Weak e = (let f : ⊥ = cc in absurd f)

pub strong-listed_too : (rows : List HandleRow) (issued : List Issue) (n p : ℕ) → RisesBetween 0 n rows → n ≡ length issued
    → AreRowsIssued rows issued → Contains (strong_in rows) p → Contains (strong_peers (map issued_as issued) (table_to rows n)) p
strong-listed_too rows issued n p rises len own c =
    let w = strong-of rows p c in
    subst (Contains (strong_peers (map issued_as issued) (table_to rows n))) w.4 (strong-row rows issued n w.0 w.1 rises len own w.2 w.3)

-- so where each of those has a mark, the handles on peers without one are weak
pub weak-rows : (marks : List Bool) (rows : List HandleRow) (issued : List Issue) (n : ℕ) (freed : List PNum) → RisesBetween 0 n rows → n ≡ length issued → AreRowsIssued rows issued
    → ((p : ℕ) → Contains (strong_peers (map issued_as issued) (table_to rows n)) p → HasMark marks p)
    → ((p : ℕ) → Contains (peer_numbers freed) p → HasMark marks p → ⊥) → All (λ p. All (IsWeakFor p) rows) freed
weak-rows marks rows issued n freed rises len own up white k p l j r m = λ same. by (get_or rows j r).strength refl same
  where
    at : slice_get rows j ≡ Some (get_or rows j r)
    at = slice_get-get_or rows j r m

    in' : Contains (peer_numbers freed) (get_or freed k p).0
    in' = Contains-map (λ (q : PNum). q.0) freed (get_or freed k p) (Contains-get_or freed k p l)

    by : (x : Strength) → (get_or rows j r).strength ≡ x → (get_or rows j r).peer ≡ get_or freed k p → (get_or rows j r).strength ≡ Weak
    by Weak e same = e
    by Strong e same = absurd (white (get_or freed k p).0 in' (up (get_or freed k p).0
        (subst (Contains (strong_peers (map issued_as issued) (table_to rows n))) (ap (λ (q : PNum). q.0) same) (strong-row rows issued n j (get_or rows j r) rises len own at e))))

-- it is live
pub strong-live : (s : PeerReplay) → PeerInvariant s → (p : ℕ) → Contains (strong_peers s.peers.issued s.table) p → IsLive s.peers.heap p
strong-live s k p c =
    let w = strong-at s.peers.issued s.table p c in
    subst (IsLive s.peers.heap) w.peer (k.handles.uncleared (suc w.place) w.row w.issue w.tabled w.made (k.handles.sure (suc w.place) w.row w.tabled w.sure))

-- and an open marking spares it
pub strong-safe : (s : PeerReplay) → PeerInvariant s → (p : ℕ) → Contains (strong_peers s.peers.issued s.table) p → IsSafe s p
strong-safe s k p c = λ mk e.
    let w = strong-at s.peers.issued s.table p c in
    subst (IsSpared mk) w.peer ((k.marking mk e).strong_ones (suc w.place) w.row w.issue w.tabled w.sure w.made)

-- and has a mark once none is grey
pub strong-marked : (s : PeerReplay) (mk : Marking) (follows : Bool) (marks : List Bool)
    → IsGoingSide s mk follows marks [] → (p : ℕ) → Contains (strong_peers s.peers.issued s.table) p → HasMark marks p
strong-marked s mk follows marks side p c =
    let w = strong-at s.peers.issued s.table p c in
    let spared = (side.kept.marking mk side.opened).strong_ones (suc w.place) w.row w.issue w.tabled w.sure w.made in
    subst (HasMark marks) w.peer (spared-going s mk follows marks side.right w.issue.peer (subst (IsLive s.peers.heap) (sym w.peer) (strong-live s side.kept p c)) spared)

pub whole-side : (s : PeerReplay) (v : Rows) (m : Option Marking) (n : ℕ) (mk : Marking) → IsGoingSide (with_marking s v m n) mk v.rows.follows v.rows.marks [] → IsWholeMarking v
whole-side s v m n mk side =
    let st : PeerReplay = with_marking s v m n in
    record {
      slots = λ p i. spared-going st mk v.rows.follows v.rows.marks side.right p (side.kept.heap.slots p i) ((side.kept.marking mk side.opened).slots p i);
      strong_ones = strong-marked st mk v.rows.follows v.rows.marks side;
      shut = going-shut st mk v.rows.follows v.rows.marks side;
    }
