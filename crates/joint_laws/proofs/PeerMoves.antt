-- The small changes of which the peer side's events are made up, each keeping what the peer side keeps: an operation of
-- the heap, a further peer, a slot that comes to name an unfreed and spared peer, a handle issued on such a peer, a
-- name set, a handle gone, a held handle's strength, a peer brought back, and a change of the mirror.
use Rattle.std.proofs.Common.{◌≡◌, ℕ, inl, inr, false, [], ◌∷◌, ◌++◌, length, map, drop, Option, Some, None, set, refl, sym, ap, subst, ◌∙◌, arith}
use Rattle.std.specs.Prelude.{Contains}
use Rattle.std.proofs.Math.Seq.{drop-append_seam, drop-length}
use Rattle.std.proofs.lemmas.List.{append-nil}
use Rattle.std.proofs.lemmas.Option.{same_Some}
use Rattle.std.proofs.lemmas.List.Elements.{Contains-append_left, Contains-push}
use Rattle.joint_machine.specs.declared.names.Sort.{Sort}
use Rattle.joint_machine.specs.Heaps.{Heap, IsLive, numbered_set, next_number, with_var, with_static, with_object}
use Rattle.joint_machine.specs.Peers.{Peers, Issued, held, raw, strong, with_peer, issued_since}
use Rattle.joint_machine.specs.PeerReplay.{PeerReplay, TableRow, Mirror, Marking, fresh_row, brought_to, opening_peer_replay}
use Rattle.joint_machine.proofs.Deciding.{none_some}
use Rattle.joint_machine.proofs.HeapLemmas.{IsLive-later}
use Rattle.joint_laws.specs.PeerInvariants.{IsTabled, IsIssued, ReferencesInvariant, IsSpared, MarkingInvariant, PeerInvariant}
use Rattle.joint_laws.proofs.Fields.{with_object-length}
use Rattle.joint_laws.proofs.HeapMoves.{HasMoved, IsInReach}
use Rattle.joint_laws.proofs.HeapKeeping.{HeapInvariant-opening, HeapInvariant-moved, HeapInvariant-object, HeapInvariant-var, HeapInvariant-static, moved-live, moved-was_live, object-new}
use Rattle.joint_laws.proofs.HeapKeeping.{object-was_live}
use Rattle.joint_laws.proofs.HandleKeeping.{HandlesInvariant-opening, HandlesInvariant-heap, HandlesInvariant-name, HandlesInvariant-gone, HandlesInvariant-reset, HandlesInvariant-issue, both-cases}
use Rattle.joint_laws.proofs.HandleKeeping.{tabled-set_cases, issued-same}
use Rattle.joint_laws.proofs.ReferenceKeeping.{ReferencesInvariant-none, ReferencesInvariant-heap, ReferencesInvariant-issue}
use Rattle.joint_laws.proofs.MarkingKeeping.{MarkingInvariant-moved, MarkingInvariant-object, MarkingInvariant-var, MarkingInvariant-static, MarkingInvariant-table, MarkingInvariant-later}
use Rattle.joint_laws.proofs.MarkingKeeping.{in_reach-spared}
use Rattle.joint_laws.proofs.Sparing.{spared-new, spared-brought, later}

pub PeerInvariant-opening : PeerInvariant opening_peer_replay
PeerInvariant-opening = record {
  heap = HeapInvariant-opening;
  handles = HandlesInvariant-opening;
  references = ReferencesInvariant-none opening_peer_replay.peers.heap [];
  marking = λ mk e. absurd (none_some mk e);
}

-- the open marking spares the peer, if one is open
abbrev pub IsSafe : PeerReplay → ℕ → Type 0
IsSafe s p = (mk : Marking) → s.marking ≡ Some mk → IsSpared mk p

-- what is in reach is unfreed and safe
pub in_reach-safe : (s : PeerReplay) (p : ℕ) → PeerInvariant s → IsInReach s.peers.heap p → IsSafe s p
in_reach-safe s p k r mk e = in_reach-spared s.peers.heap s.peers.issued s.table s.refs mk (k.marking mk e) p k.heap r

pub kept-heap : (s : PeerReplay) (g : Heap) → PeerInvariant s → HasMoved s.peers.heap g → PeerInvariant (record s { peers = record s.peers { heap = g } })
kept-heap s g k v = record {
  heap = HeapInvariant-moved s.peers.heap g k.heap v;
  handles = HandlesInvariant-heap s.peers.heap g s.peers.issued s.table s.peers.names k.handles
      (λ x m. (m.0, omega (arith, m.1, v.made))) (moved-live s.peers.heap g v) (λ x c. subst (λ f. Contains f x) (sym v.freed) c);
  references = ReferencesInvariant-heap s.peers.heap g s.peers.issued s.refs s.mirror k.references
      (λ x m. (m.0, omega (arith, m.1, v.made))) (λ x m l. moved-was_live s.peers.heap g v x l) (moved-live s.peers.heap g v);
  marking = λ mk e. MarkingInvariant-moved s.peers.heap s.peers.issued s.table s.refs mk (k.marking mk e) g k.heap v;
}

-- a further peer
pub kept-peer : (s : PeerReplay) (sort : Sort) (n : ℕ) → PeerInvariant s → PeerInvariant (record s { peers = with_peer s.peers sort n })
kept-peer s sort n k = record {
  heap = HeapInvariant-object s.peers.heap n k.heap;
  handles = HandlesInvariant-heap s.peers.heap (with_object s.peers.heap n) s.peers.issued s.table s.peers.names k.handles
      (λ x m. (m.0, omega (arith, m.1, with_object-length s.peers.heap n))) (IsLive-later s.peers.heap n) (λ x c. c);
  references = ReferencesInvariant-heap s.peers.heap (with_object s.peers.heap n) s.peers.issued s.refs s.mirror k.references
      (λ x m. (m.0, omega (arith, m.1, with_object-length s.peers.heap n))) (λ x m l. object-was_live s.peers.heap n x m.1 l) (IsLive-later s.peers.heap n);
  marking = λ mk e. MarkingInvariant-object s.peers.heap s.peers.issued s.table s.refs mk (k.marking mk e) n k.references.made;
}

pub new-live : (s : PeerReplay) (n : ℕ) → PeerInvariant s → IsLive (with_object s.peers.heap n) (next_number s.peers.heap)
new-live s n k = object-new s.peers.heap n k.heap

pub new-safe : (s : PeerReplay) → PeerInvariant s → IsSafe s (next_number s.peers.heap)
new-safe s k mk e = spared-new mk (next_number s.peers.heap) (λ l. omega (arith, l.made.1, (k.marking mk e).made))

-- a slot comes to name an unfreed and safe peer
pub kept-var : (s : PeerReplay) (v p : ℕ) → PeerInvariant s → IsLive s.peers.heap p → IsSafe s p → PeerInvariant (record s { peers = record s.peers { heap = with_var s.peers.heap v (Some p) } })
kept-var s v p k l safe = record {
  heap = HeapInvariant-var s.peers.heap v p k.heap l;
  handles = HandlesInvariant-heap s.peers.heap (with_var s.peers.heap v (Some p)) s.peers.issued s.table s.peers.names k.handles (λ x m. m) same (λ x c. c);
  references = ReferencesInvariant-heap s.peers.heap (with_var s.peers.heap v (Some p)) s.peers.issued s.refs s.mirror k.references (λ x m. m) (λ x m q. record { made = q.made; kept = q.kept }) same;
  marking = λ mk e. MarkingInvariant-var s.peers.heap s.peers.issued s.table s.refs mk (k.marking mk e) v p (safe mk e);
}
  where
    same : (x : ℕ) → IsLive s.peers.heap x → IsLive (with_var s.peers.heap v (Some p)) x
    same x m = record { made = m.made; kept = m.kept }

pub kept-static : (s : PeerReplay) (j p : ℕ) → PeerInvariant s → IsLive s.peers.heap p → IsSafe s p → PeerInvariant (record s { peers = record s.peers { heap = with_static s.peers.heap j (Some p) } })
kept-static s j p k l safe = record {
  heap = HeapInvariant-static s.peers.heap j p k.heap l;
  handles = HandlesInvariant-heap s.peers.heap (with_static s.peers.heap j (Some p)) s.peers.issued s.table s.peers.names k.handles (λ x m. m) same (λ x c. c);
  references = ReferencesInvariant-heap s.peers.heap (with_static s.peers.heap j (Some p)) s.peers.issued s.refs s.mirror k.references
      (λ x m. m) (λ x m q. record { made = q.made; kept = q.kept }) same;
  marking = λ mk e. MarkingInvariant-static s.peers.heap s.peers.issued s.table s.refs mk (k.marking mk e) j p (safe mk e);
}
  where
    same : (x : ℕ) → IsLive s.peers.heap x → IsLive (with_static s.peers.heap j (Some p)) x
    same x m = record { made = m.made; kept = m.kept }

-- a handle is issued on an unfreed and safe peer
pub kept-issue : (s : PeerReplay) (new : Issued) → PeerInvariant s → IsLive s.peers.heap new.peer → IsSafe s new.peer
    → PeerInvariant (record s { peers = record s.peers { issued = s.peers.issued ++ new ∷ [] }; table = s.table ++ fresh_row new ∷ [] })
kept-issue s new k l safe = record {
  heap = k.heap;
  handles = HandlesInvariant-issue s.peers.heap s.peers.issued s.table s.peers.names new k.handles l;
  references = ReferencesInvariant-issue s.peers.heap s.peers.issued s.refs s.mirror new k.references;
  marking = λ mk e. MarkingInvariant-table s.peers.heap s.peers.issued s.table s.refs mk (k.marking mk e) (s.peers.issued ++ new ∷ []) (s.table ++ fresh_row new ∷ []) (strong_spared mk e);
}
  where
    strong_spared : (mk : Marking) → s.marking ≡ Some mk → (n : ℕ) (row : TableRow) (i : Issued)
        → IsTabled (s.table ++ fresh_row new ∷ []) n row → row.strength ≡ strong → IsIssued (s.peers.issued ++ new ∷ []) n i → IsSpared mk i.peer
    strong_spared mk e n row i t st q = elim (both-cases s.peers.heap s.peers.issued s.table s.peers.names new k.handles l n row i t q) [
      | inl w ↦ (k.marking mk e).strong_ones n row i w.0 st w.1
      | inr w ↦ subst (λ (z : Issued). IsSpared mk z.peer) w.1 (safe mk e)
    ]

-- how many handles were made doesn't matter
pub kept-counted : (s : PeerReplay) (n : ℕ) → PeerInvariant s → PeerInvariant (record s { peers = record s.peers { made = n } })
kept-counted s n k = record { heap = k.heap; handles = k.handles; references = k.references; marking = k.marking }

-- a name comes to have a raw handle, or none
pub kept-name : (s : PeerReplay) (g : ℕ) (o : Option ℕ) → PeerInvariant s → ((n : ℕ) → o ≡ Some n → (i : Issued) × IsIssued s.peers.issued n i × (i.hold ≡ raw))
    → PeerInvariant (record s { peers = record s.peers { names = set s.peers.names g o } })
kept-name s g o k r = record {
  heap = k.heap;
  handles = HandlesInvariant-name s.peers.heap s.peers.issued s.table s.peers.names g o k.handles r;
  references = k.references;
  marking = k.marking;
}

-- a handle leaves the table
pub kept-gone : (s : PeerReplay) (n : ℕ) → PeerInvariant s → PeerInvariant (record s { table = numbered_set s.table n None })
kept-gone s n k = record {
  heap = k.heap;
  handles = HandlesInvariant-gone s.peers.heap s.peers.issued s.table s.peers.names n k.handles;
  references = k.references;
  marking = λ mk e. MarkingInvariant-table s.peers.heap s.peers.issued s.table s.refs mk (k.marking mk e) s.peers.issued (numbered_set s.table n None)
      (λ m row i t st q. (k.marking mk e).strong_ones m row i (was m row t) st q);
}
  where
    was : (m : ℕ) (row : TableRow) → IsTabled (numbered_set s.table n None) m row → IsTabled s.table m row
    was m row t = elim (tabled-set_cases s.table n None m row t) [ inl q ↦ absurd (none_some row q.1) | inr q ↦ q.1 ]

-- a held handle's strength changes; where it becomes strong, its peer is safe
pub kept-reset : (s : PeerReplay) (n : ℕ) (old new : TableRow) (j : Issued) → PeerInvariant s → IsTabled s.table n old
    → IsIssued s.peers.issued n j → j.hold ≡ held → new.cleared ≡ old.cleared → (new.strength ≡ strong → new.cleared ≡ false)
    → (new.strength ≡ strong → IsSafe s j.peer) → PeerInvariant (record s { table = numbered_set s.table n (Some new) })
kept-reset s n old new j k t p hold same sure safe = record {
  heap = k.heap;
  handles = HandlesInvariant-reset s.peers.heap s.peers.issued s.table s.peers.names n old new j k.handles t p hold same sure;
  references = k.references;
  marking = λ mk e. MarkingInvariant-table s.peers.heap s.peers.issued s.table s.refs mk (k.marking mk e) s.peers.issued (numbered_set s.table n (Some new)) (strong_spared mk e);
}
  where
    strong_spared : (mk : Marking) → s.marking ≡ Some mk → (m : ℕ) (row : TableRow) (i : Issued)
        → IsTabled (numbered_set s.table n (Some new)) m row → row.strength ≡ strong → IsIssued s.peers.issued m i → IsSpared mk i.peer
    strong_spared mk e m row i u st q = elim (tabled-set_cases s.table n (Some new) m row u) [
      | inl w ↦ subst (λ (z : Issued). IsSpared mk z.peer) (issued-same s.peers.issued n m j i w.0 p q) (safe (ap (λ (z : TableRow). z.strength) (same_Some new row w.1) ∙ st) mk e)
      | inr w ↦ (k.marking mk e).strong_ones m row i w.1 st q
    ]

-- a peer is brought back
brought-marking : (s : PeerReplay) (p : ℕ) (o : Option Marking)
    → ((mk : Marking) → o ≡ Some mk → MarkingInvariant s.peers.heap s.peers.issued s.table s.refs mk) → (mk : Marking) → brought_to o p ≡ Some mk
    → MarkingInvariant s.peers.heap s.peers.issued s.table s.refs mk × IsSpared mk p
brought-marking s p None k mk e = absurd (none_some mk e)
brought-marking s p (Some m) k mk e =
    let now : Marking = later m (m.brought ++ p ∷ []) m.blackened in
    let both : MarkingInvariant s.peers.heap s.peers.issued s.table s.refs now × IsSpared now p = (
      MarkingInvariant-later s.peers.heap s.peers.issued s.table s.refs m (k m refl) (m.brought ++ p ∷ []) m.blackened (λ x c. Contains-append_left m.brought (p ∷ []) x c),
      spared-brought now p (Contains-push m.brought p),
    ) in
    subst (λ z. MarkingInvariant s.peers.heap s.peers.issued s.table s.refs z × IsSpared z p) (same_Some now mk e) both

pub kept-brought : (s : PeerReplay) (p : ℕ) → PeerInvariant s → PeerInvariant (record s { marking = brought_to s.marking p })
kept-brought s p k = record {
  heap = k.heap;
  handles = k.handles;
  references = k.references;
  marking = λ mk e. (brought-marking s p s.marking k.marking mk e).0;
}

pub brought-safe : (s : PeerReplay) (p : ℕ) → PeerInvariant s → IsSafe (record s { marking = brought_to s.marking p }) p
brought-safe s p k mk e = (brought-marking s p s.marking k.marking mk e).1

-- the mirror changes, and its references stay
pub kept-mirror : (s : PeerReplay) (mirror : Option Mirror) → PeerInvariant s → ReferencesInvariant s.peers.heap s.peers.issued s.refs mirror → PeerInvariant (record s { mirror = mirror })
kept-mirror s mirror k r = record { heap = k.heap; handles = k.handles; references = r; marking = k.marking }

-- events that issue no handle leave the table alone, and one that issues a handle puts it there
pub on_table-still : (s : PeerReplay) (k : Peers) → k.issued ≡ s.peers.issued → PeerInvariant (record s { peers = k })
    → PeerInvariant (record s { peers = k; table = s.table ++ map fresh_row (issued_since s.peers k) })
on_table-still s k e kept =
    let none : issued_since s.peers k ≡ [] = ap (λ l. drop (length s.peers.issued) l) e ∙ drop-length s.peers.issued in
    let same : s.table ++ map fresh_row (issued_since s.peers k) ≡ s.table = ap (λ l. s.table ++ map fresh_row l) none ∙ append-nil s.table in
    subst (λ t. PeerInvariant (record s { peers = k; table = t })) (sym same) kept

pub on_table-issued : (s : PeerReplay) (k : Peers) (new : Issued) → k.issued ≡ s.peers.issued ++ new ∷ [] → PeerInvariant (record s { peers = k; table = s.table ++ fresh_row new ∷ [] })
    → PeerInvariant (record s { peers = k; table = s.table ++ map fresh_row (issued_since s.peers k) })
on_table-issued s k new e kept =
    let one : issued_since s.peers k ≡ new ∷ [] = ap (λ l. drop (length s.peers.issued) l) e ∙ drop-append_seam s.peers.issued (new ∷ []) in
    subst (λ l. PeerInvariant (record s { peers = k; table = s.table ++ map fresh_row l })) (sym one) kept
