-- What is asked of the sides of the circle, and what their calls leave.
use Rattle.std.proofs.Common.{◌≡◌, ◌≢◌, ◌⊎◌, inl, inr, ℕ, zero, suc, ◌+◌, ◌<◌, ◌≤◌, Bool, true, false, ◌&&◌, List, [], ◌∷◌, ◌++◌, length, Option, Some, None, refl, sym, ap, ◌∙◌, subst, add-one, arith}
use Rattle.std.proofs.Common.{length-append}
use Rattle.std.specs.Prelude.{All, AllPairs, Contains, is_some, slice_get}
use Rattle.std.proofs.lemmas.List.Elements.{All-cons, All-nil}
use Rattle.std.proofs.lemmas.List.Kept.{AllPairs-cons}
use Rattle.std.proofs.lemmas.Option.{same_Some}
use Rattle.joint_machine.specs.Draws.{counting}
use Rattle.joint_machine.specs.declared.names.HNum.{HNum}
use Rattle.joint_machine.specs.declared.events.Reply.TheVariants as says
use Rattle.joint_machine.specs.Components.{End, IsMember, mirror_edges, node, temporary}
use Rattle.joint_machine.specs.Peers.{Issued, held, next_handle, peer_of, strong}
use Rattle.joint_machine.specs.Heaps.{numbered_at}
use Rattle.joint_machine.specs.PeerReplay.{PeerReplay, LeadsOver, Mirror, Refers, TableRow, MayClear, MayRestore, MayWeaken, opening_peer_replay, restored_by, row_of, with_weakened, IsHeld}
use Rattle.joint_machine.specs.Sides.{Side, AddsInTurn, AddsLawful, peer_rules}
use Rattle.joint_machine.specs.Told.{nothing, references_of}
use Rattle.joint_machine.proofs.Deciding.{and-true, none_some}
use Rattle.joint_machine.proofs.Members.{Contains-cons_cases, Contains-here, Contains-nil, Contains-there}
use Rattle.bridge_graph.specs.declared.graph.Node.{Node}
use Rattle.bridge_graph.specs.Handles.{handles_of}
use Rattle.bridge_graph.specs.Parts.{IsBridgeNode}
use Rattle.global_handles.specs.declared.Back.{Back}
use Rattle.global_handles.specs.declared.Back.TheVariants.{Alive, Cleared}
use Rattle.global_handles.specs.Rows.{back_of, is_alive}
use Rattle.handle_weaken.specs.Entries.{RestoresInTurn, reserve_weakened, weakenings, restorings}
use Rattle.peer_mirror.specs.Carried.{carried_to_peers, reserve_installed, AreBridgeNodes, AreHandlesStrong}
use Rattle.peer_heap.specs.Cycles.{clears, mirrors, reply_of, restores, weakens, reserve_left, reserve_over}
use Rattle.peer_heap.specs.Mirroring.{strong_row}
use Rattle.peer_heap.specs.Mirrors.{AreTargetsRestored, HasRestoredHandle}
use Rattle.peer_heap.specs.Sides.{PeerModel, Reserve, no_reserve, seen}
use Rattle.side_tests.specs.Drives.{IsCounted}
use Rattle.side_tests.specs.Circles.{IsCircle, circle, given_handles, given_ones, is_given, mirror_at, nodes, one, two, two_issued, up_to, with_pair}
use Rattle.side_tests.proofs.Counting.{counted-once, counted-in-turn}
use Rattle.side_tests.proofs.Moves.{RestoredTo, StaysAlike, restored}

-- two peers were made
pub circle-first : (m : PeerModel) (count : ℕ) → IsCounted (seen m) count → m.state ≡ with_pair (with_pair opening_peer_replay) → m.reserve ≡ no_reserve → IsCircle m count false false true 0 0
unfolding with_pair
circle-first m count k e r = record {
  counted = k;
  later = [];
  issued = ap (λ (s : PeerReplay). s.peers.issued) e;
  given = [];
  mirror = ap (λ (s : PeerReplay). s.mirror) e;
  all = λ k. (refl, refl);
  fresh = λ f. refl;
  mirrors = ap (λ (s : PeerReplay). s.mirrors) e;
  refs = ap (λ (s : PeerReplay). s.refs) e;
  waiting = ap (λ (z : Reserve). z.waiting) r;
  left = ap (λ (z : Reserve). z.left) r;
  once = λ f. refl;
  order = omega arith;
  most = omega arith;
}

-- a call that leaves the cycle and what is reserved for it as they are
pub circle-stays : (old new : PeerModel) (before after : ℕ) (mirrored standing kept : Bool) (w b : ℕ) → StaysAlike old.state new.state → IsCounted (seen new) after
    → new.reserve.waiting ≡ old.reserve.waiting → new.reserve.left ≡ old.reserve.left → IsCircle old before mirrored standing kept w b → IsCircle new after mirrored standing kept w b
circle-stays old new before after mirrored standing kept w b a k waits left c = record {
  counted = k;
  later = c.later;
  issued = a.issued ∙ c.issued;
  given = c.given;
  mirror = a.mirror ∙ c.mirror;
  all = c.all;
  fresh = c.fresh;
  mirrors = a.mirrors ∙ c.mirrors;
  refs = a.refs ∙ c.refs;
  waiting = waits ∙ c.waiting;
  left = left ∙ c.left;
  once = c.once;
  order = c.order;
  most = c.most;
}

-- a refusal changes nothing
pub circle-same : (old new : PeerModel) (before after : ℕ) (mirrored standing kept : Bool) (w b : ℕ) → (new ≡ old)
    × (after ≡ before) → IsCircle old before mirrored standing kept w b → IsCircle new after mirrored standing kept w b
circle-same old new before after mirrored standing kept w b e c = subst (λ n. IsCircle new n mirrored standing kept w b)
    (sym e.1) (subst (λ z. IsCircle z before mirrored standing kept w b) (sym e.0) c)

-- the handles of the nodes
handles-are : handles_of nodes ≡ one ∷ two ∷ []
unfolding nodes
handles-are = refl

each-one : (P : HNum → Type 0) → P one → P two → All P (handles_of nodes)
each-one P a b = subst (All P) (sym handles-are) (All-cons P one (two ∷ []) a (All-cons P two [] b (All-nil P)))

pub each : (ns : List Node) → ns ≡ nodes → (P : HNum → Type 0) → P one → P two → All P (handles_of ns)
each ns e P a b = subst (λ (l : List Node). All P (handles_of l)) (sym e) (each-one P a b)

pub handles-count : (ns : List Node) → ns ≡ nodes → length (handles_of ns) ≡ 2
handles-count ns e = ap (λ (l : List Node). length (handles_of l)) e ∙ ap (λ (l : List HNum). length l) handles-are

both-apart : AllPairs (λ h k. h.0 ≢ k.0) (handles_of nodes)
both-apart = subst (AllPairs (λ h k. h.0 ≢ k.0)) (sym handles-are)
    (AllPairs-cons (λ (h k : HNum). h.0 ≢ k.0) one (two ∷ []) (All-cons (λ (k : HNum). one.0 ≢ k.0) two [] (λ e. (let f : 1 ≡ 2 = e in absurd (omega arith))) (All-nil (λ (k : HNum). one.0 ≢ k.0)))
    (AllPairs-cons (λ (h k : HNum). h.0 ≢ k.0) two [] (All-nil (λ (k : HNum). two.0 ≢ k.0)) (λ i j d l m. absurd (omega arith))))

pub apart : (ns : List Node) → ns ≡ nodes → AllPairs (λ h k. h.0 ≢ k.0) (handles_of ns)
apart ns e = subst (λ (l : List Node). AllPairs (λ h k. h.0 ≢ k.0) (handles_of l)) (sym e) both-apart

-- the members are bridge nodes
are-bridges : AreBridgeNodes nodes circle
unfolding nodes circle
are-bridges = by
  where
    by : (i x : ℕ) → IsMember ((0 ∷ 1 ∷ []) ∷ []) i x → IsBridgeNode nodes x
    by zero x m = elim (Contains-cons_cases 0 (1 ∷ []) x (subst (λ l. Contains l x) (sym (same_Some (0 ∷ 1 ∷ []) m.0 m.1)) m.2)) [
      | inl e ↦ subst (IsBridgeNode nodes) e (record { node = _; there = refl; held = refl })
      | inr c ↦ elim (Contains-cons_cases 1 [] x c) [ inl e ↦ subst (IsBridgeNode nodes) e (record { node = _; there = refl; held = refl }) | inr d ↦ absurd (Contains-nil x d) ]
    ]
    by (suc i) x m = absurd (none_some m.0 m.1)

pub members-are : (ns : List Node) (cs : List (List ℕ)) → ns ≡ nodes → cs ≡ circle → AreBridgeNodes ns cs
members-are ns cs e f = subst (λ z. AreBridgeNodes z cs) (sym e) (subst (λ z. AreBridgeNodes nodes z) (sym f) are-bridges)

pub are-strong : (s : PeerReplay) (ns : List Node) → ns ≡ nodes → row_of s 1 ≡ Some strong_row → row_of s 2 ≡ Some strong_row → AreHandlesStrong s ns
are-strong s ns e a b = subst (AreHandlesStrong s) (sym e) (each-one (λ h. row_of s h.0 ≡ Some strong_row) a b)

edges-are : (issued later : List Issued) → issued ≡ two_issued ++ later → carried_to_peers issued nodes (mirror_edges circle []) ≡ (node 1, node 2) ∷ (node 2, node 1) ∷ []
unfolding nodes circle
edges-are issued later e = ap (λ z. carried_to_peers z nodes (mirror_edges circle [])) e

two-handles : length (handles_of nodes) ≡ 2
unfolding nodes
two-handles = refl

-- the circle came to stand
pub circle-stands : (old new : PeerModel) (before after : ℕ) (standing kept : Bool) (w b index refs : ℕ) (ns : List Node) (cs : List (List ℕ)) (ps : List (ℕ × ℕ)) → ns ≡ nodes → cs ≡ circle → ps ≡ []
    → AddsLawful peer_rules counting before after (seen old) (seen new) (mirrors index (record { 0 = 1 }) refs 0) (references_of (carried_to_peers old.state.peers.issued ns (mirror_edges cs ps)))
    → new.reserve ≡ reserve_installed (length (handles_of ns)) → IsCircle old before false standing kept w b → IsCircle new after true true true 0 0
circle-stands old new before after standing kept w b index refs ns cs ps is_nodes is_circle is_none a r c = record {
  counted = counted-once peer_rules (seen old) (seen new) before after _ _ a c.counted;
  later = c.later;
  issued = ap (λ (s : PeerReplay). s.peers.issued) a.goes.state ∙ c.issued;
  given = [];
  mirror = ap (λ (s : PeerReplay). s.mirror) a.goes.state;
  all = λ k. (c.fresh refl, refl);
  fresh = λ f. (let g : true ≡ false = f in absurd cc);
  mirrors = ap (λ (s : PeerReplay). s.mirrors) a.goes.state ∙ ap (λ ks. ks ++ 1 ∷ []) c.mirrors;
  refs = ap (λ (s : PeerReplay). s.refs) a.goes.state ∙ (rw (is_nodes, is_circle, is_none) (edges-are old.state.peers.issued c.later c.issued));
  waiting = ap (λ (z : Reserve). z.waiting) r;
  left = ap (λ (z : Reserve). z.left) r ∙ (rw is_nodes two-handles);
  once = λ f. (let g : true ≡ false = f in absurd cc);
  order = omega arith;
  most = omega arith;
}

-- a handle that was issued is held
is-held : (s : PeerReplay) (h : ℕ) (later : List Issued) → s.peers.issued ≡ two_issued ++ later → 1 ≤ h → h ≤ 2 → IsHeld s h
is-held s zero later e low high = absurd (omega (arith, low))
is-held s (suc zero) later e low high = (_, ap (λ z. numbered_at z 1) e, refl)
is-held s (suc (suc zero)) later e low high = (_, ap (λ z. numbered_at z 2) e, refl)
is-held s (suc (suc (suc h))) later e low high = absurd (omega (arith, high))

pub may-weaken : (m : PeerModel) (count : ℕ) (mirrored kept : Bool) (w b h : ℕ) → IsCircle m count mirrored true kept w b
    → 1 ≤ h → h ≤ 2 → row_of m.state h ≡ Some strong_row → MayWeaken m.state h (Some 0)
may-weaken m count mirrored kept w b h c low high row = record { mirror = _; stands = c.mirror; cited = refl; is_held = is-held m.state h c.later c.issued low high; strong_now = row }

up-more : (n : ℕ) → up_to (n + 1) ≡ up_to n ++ (n + 1) ∷ []
up-more n = rw add-one refl

-- by the tests
pub circle-at : (m : PeerModel) (count : ℕ) (mirrored standing kept : Bool) (w b u v : ℕ) → standing ≡ true
    → w ≡ u → b ≡ v → IsCircle m count mirrored standing kept w b → IsCircle m count mirrored true kept u v
circle-at m count mirrored standing kept w b u v e f g c = subst (λ z. IsCircle m count mirrored z kept u v) e
    (subst (λ z. IsCircle m count mirrored standing kept z v) f (subst (λ z. IsCircle m count mirrored standing kept w z) g c))

pub circle-stood : (m : PeerModel) (count : ℕ) (mirrored standing kept : Bool) (w b : ℕ) → standing ≡ true → IsCircle m count mirrored true kept w b → IsCircle m count mirrored standing kept w b
circle-stood m count mirrored standing kept w b e c = subst (λ z. IsCircle m count mirrored z kept w b) (sym e) c

-- one more handle was weakened
pub circle-weakened : (old new : PeerModel) (before after : ℕ) (mirrored kept : Bool) (w b h index : ℕ) → h ≡ w + 1 → h ≤ 2
    → AddsLawful peer_rules counting before after (seen old) (seen new) (weakens index (record { 0 = h }) 0) nothing
    → new.reserve ≡ reserve_left old.reserve → IsCircle old before mirrored true kept w b → IsCircle new after mirrored true kept h b
circle-weakened old new before after mirrored kept w b h index is few a r c = record {
  counted = counted-once peer_rules (seen old) (seen new) before after _ _ a c.counted;
  later = c.later;
  issued = ap (λ (s : PeerReplay). s.peers.issued) a.goes.state ∙ c.issued;
  given = c.given;
  mirror = ap (λ (s : PeerReplay). s.mirror) a.goes.state ∙ (rw (c.mirror, is)
      (ap (λ z. Some (let m : Mirror = record { cycle = 1; snap = 0; weakened = z; restored = up_to b; renewed = c.given } in m)) (sym (up-more w))));
  all = c.all;
  fresh = c.fresh;
  mirrors = ap (λ (s : PeerReplay). s.mirrors) a.goes.state ∙ c.mirrors;
  refs = ap (λ (s : PeerReplay). s.refs) a.goes.state ∙ c.refs;
  waiting = ap (λ (z : Reserve). z.waiting) r ∙ c.waiting;
  left = ap (λ (z : Reserve). z.left) r ∙ (let l = c.left in omega (arith, l, is));
  once = c.once;
  order = (let l = c.order in omega (arith, l, is));
  most = few;
}

-- the first so many handles have those up to that number, and no other
up-has : (n h : ℕ) → 1 ≤ h → h ≤ n → n ≤ 2 → Contains (up_to n) h
up-has zero h low high few = absurd (omega (arith, low, high))
up-has (suc zero) zero low high few = absurd (omega (arith, low))
up-has (suc zero) (suc zero) low high few = Contains-here 1 []
up-has (suc zero) (suc (suc h)) low high few = absurd (omega (arith, high))
up-has (suc (suc zero)) zero low high few = absurd (omega (arith, low))
up-has (suc (suc zero)) (suc zero) low high few = Contains-here 1 (2 ∷ [])
up-has (suc (suc zero)) (suc (suc zero)) low high few = Contains-there 2 1 (2 ∷ []) (Contains-here 2 [])
up-has (suc (suc zero)) (suc (suc (suc h))) low high few = absurd (omega (arith, high))
up-has (suc (suc (suc n))) h low high few = absurd (omega (arith, few))

up-most : (n h : ℕ) → n ≤ 2 → Contains (up_to n) h → h ≤ n
up-most zero h few c = absurd (Contains-nil h c)
up-most (suc zero) h few c = elim (Contains-cons_cases 1 [] h c) [ inl e ↦ omega (arith, e) | inr d ↦ absurd (Contains-nil h d) ]
up-most (suc (suc zero)) h few c = elim (Contains-cons_cases 1 (2 ∷ []) h c)
    [ inl e ↦ omega (arith, e) | inr d ↦ elim (Contains-cons_cases 2 [] h d) [ inl e ↦ omega (arith, e) | inr f ↦ absurd (Contains-nil h f) ] ]
up-most (suc (suc (suc n))) h few c = absurd (omega (arith, few))

pub may-restore : (m : PeerModel) (count : ℕ) (mirrored kept : Bool) (w b h : ℕ) → IsCircle m count mirrored true kept w b
    → b < h → h ≤ w → ((row : TableRow) × (row_of m.state h ≡ Some row)) → MayRestore m.state h
may-restore m count mirrored kept w b h c low high row = record {
  mirror = _;
  stands = c.mirror;
  weakened = up-has w h (omega (arith, low)) high c.most;
  waiting = λ k. (let few = c.most in let order = c.order in let l = up-most b h (omega (arith, few, order)) k in absurd (omega (arith, l, low)));
  row = row.0;
  tabled = row.1;
}

-- what one more restore leaves of the handles and of the cycle
record NextCircle (s t : PeerReplay) (alive : Bool) (w b h : ℕ) (was : List Issued) (had : List ℕ) : Type 0 where
  later : List Issued
  issued : t.peers.issued ≡ two_issued ++ later
  given : List ℕ
  mirror : t.mirror ≡ mirror_at true w h given
  all : alive ≡ true → was ≡ given_ones b → had ≡ given_handles b → (later ≡ given_ones h) × (given ≡ given_handles h)
  mirrors : t.mirrors ≡ s.mirrors
  refs : t.refs ≡ s.refs

not-cleared : (back : Back) → reply_of back ≡ says.Cleared → is_alive back ≡ true → ⊥
not-cleared (Alive g) e k = (let f : says.Renewed g ≡ says.Cleared = e in cc)
not-cleared Cleared e k = (let f : false ≡ true = k in cc)

ones-count : (n : ℕ) → length (given_ones n) ≡ n
ones-count zero = refl
ones-count (suc n) = (let l = length-append (given_ones n) (record { peer = suc n; hold = held; strength = strong } ∷ []) in let e = ones-count n in omega (arith, l, e))

peer-at : (later : List Issued) (h p : ℕ) → 1 ≤ h → h ≤ 2 → peer_of (two_issued ++ later) h ≡ Some p → p ≡ h
peer-at later zero p low high e = absurd (omega (arith, low))
peer-at later (suc zero) p low high e = sym (same_Some 1 p e)
peer-at later (suc (suc zero)) p low high e = sym (same_Some 2 p e)
peer-at later (suc (suc (suc h))) p low high e = absurd (omega (arith, high))

next-circle : (s t : PeerReplay) (back : Back) (w b h : ℕ) (was : List Issued) (had : List ℕ) → h ≡ b + 1 → h ≤ 2
    → RestoredTo s (reply_of back) t h → s.peers.issued ≡ two_issued ++ was → s.mirror ≡ mirror_at true w b had
    → NextCircle s t (is_alive back) w b h was had
next-circle s t back w b h was had is few (inl gone) issued mirror = record {
  later = was;
  issued = ap (λ (z : PeerReplay). z.peers.issued) gone.1 ∙ issued;
  given = had;
  mirror = ap (λ (z : PeerReplay). z.mirror) gone.1 ∙ (rw (mirror, is)
      (ap (λ z. Some (let m : Mirror = record { cycle = 1; snap = 0; weakened = up_to w; restored = z; renewed = had } in m)) (sym (up-more b))));
  all = λ k e f. absurd (not-cleared back gone.0 k);
  mirrors = ap (λ (z : PeerReplay). z.mirrors) gone.1;
  refs = ap (λ (z : PeerReplay). z.refs) gone.1;
}
next-circle s t back w b h was had is few (inr new) issued mirror =
    let p : new.0 ≡ h = peer-at was h new.0 (omega (arith, is)) few (ap (λ z. peer_of z h) (sym issued) ∙ new.1) in
    let last : Issued = record { peer = new.0; hold = held; strength = strong } in
    record {
      later = was ++ last ∷ [];
      issued = ap (λ (z : PeerReplay). z.peers.issued) new.3 ∙ ap (λ l. l ++ last ∷ []) issued;
      given = had ++ next_handle s.peers ∷ [];
      mirror = ap (λ (z : PeerReplay). z.mirror) new.3
          ∙ (rw (mirror, is) (ap (λ z. Some (let m : Mirror = record { cycle = 1; snap = 0; weakened = up_to w; restored = z; renewed = had ++ next_handle s.peers ∷ [] } in m)) (sym (up-more b))));
      all = λ k e f.
          let count = ap length issued in
          let ones = ap length e ∙ ones-count b in
          let long = length-append two_issued was in
          let number : next_handle s.peers ≡ suc (suc (suc b)) = omega (arith, count, ones, long) in
          let place : new.0 ≡ suc b = omega (arith, p, is) in
          let top : h ≡ suc b = omega (arith, is) in (
            subst (λ z. was ++ last ∷ [] ≡ given_ones z) (sym top) (ap (λ l. l ++ last ∷ []) e ∙ ap (λ z. given_ones b ++ record { peer = z; hold = held; strength = strong } ∷ []) place),
            subst (λ z. had ++ next_handle s.peers ∷ [] ≡ given_handles z) (sym top) (ap (λ l. l ++ next_handle s.peers ∷ []) f ∙ ap (λ z. given_handles b ++ z ∷ []) number),
          );
      mirrors = ap (λ (z : PeerReplay). z.mirrors) new.3;
      refs = ap (λ (z : PeerReplay). z.refs) new.3;
    }

-- what an entry of a restore leads to
restored-entry : (old new : Side PeerReplay) (before after index h : ℕ) (back : Back)
    → AddsLawful peer_rules counting before after old new (restores index (record { 0 = h }) back) nothing → RestoredTo old.state (reply_of back) new.state h
restored-entry old new before after index h back a =
    let l = a.goes.lawful.1 in
    subst (λ (z : PeerReplay). RestoredTo old.state (reply_of back) z h) (sym a.goes.state)
    (subst (λ r. RestoredTo old.state r (restored_by old.state h (row_of old.state h)).state h) (sym l.replies) (restored old.state h l.allowed))

-- one more handle was restored
pub circle-restored : (old new : PeerModel) (before after : ℕ) (mirrored kept keeps : Bool) (w b h index : ℕ) (back : Back) → h ≡ b + 1 → h ≤ w → keeps ≡ (kept && is_alive back)
    → AddsLawful peer_rules counting before after (seen old) (seen new) (restores index (record { 0 = h }) back) nothing
    → new.reserve ≡ old.reserve → IsCircle old before mirrored true kept w b → IsCircle new after mirrored true keeps w h
circle-restored old new before after mirrored kept keeps w b h index back is few so a r c =
    let n = next-circle old.state new.state back w b h c.later c.given is (let m = c.most in omega (arith, few, m))
    (restored-entry (seen old) (seen new) before after index h back a) c.issued c.mirror in
    record {
      counted = counted-once peer_rules (seen old) (seen new) before after _ _ a c.counted;
      later = n.later;
      issued = n.issued;
      given = n.given;
      mirror = n.mirror;
      all = λ k. (let both = and-true kept (is_alive back) (sym so ∙ k) in let before = c.all both.0 in n.all both.1 before.0 before.1);
      fresh = λ f. (let g : true ≡ false = c.once f in absurd cc);
      mirrors = n.mirrors ∙ c.mirrors;
      refs = n.refs ∙ c.refs;
      waiting = ap (λ (z : Reserve). z.waiting) r ∙ c.waiting;
      left = ap (λ (z : Reserve). z.left) r ∙ c.left;
      once = c.once;
      order = few;
      most = c.most;
    }

-- both were weakened, and both were restored
pub circle-weakened_all : (old new : PeerModel) (before after : ℕ) (mirrored kept : Bool) (b index : ℕ) (ns : List Node) → ns ≡ nodes
    → AddsInTurn peer_rules counting before after (seen old) (seen new) (weakenings index 0 (handles_of ns))
    → new.reserve ≡ reserve_weakened old.reserve (length (handles_of ns)) → IsCircle old before mirrored true kept 0 b → IsCircle new after mirrored true kept 2 b
circle-weakened_all old new before after mirrored kept b index ns is a r c =
    let hs : handles_of ns ≡ one ∷ two ∷ [] = ap handles_of is ∙ handles-are in
    let adds : AddsInTurn peer_rules counting before after (seen old) (seen new) (weakenings index 0 (one ∷ two ∷ [])) = subst
    (λ l. AddsInTurn peer_rules counting before after (seen old) (seen new) (weakenings index 0 l)) hs a in
    let mid = adds.1 in
    let first = adds.2.goes.state in
    let second = adds.3.2.goes.state in
    let last = ap (λ (z : Side PeerReplay). z.state) adds.3.3.1 in record {
      counted = counted-in-turn peer_rules (weakenings index 0 (one ∷ two ∷ [])) (seen old) (seen new) before after adds c.counted;
      later = c.later;
      issued = ap (λ (s : PeerReplay). s.peers.issued) last ∙ (ap (λ (s : PeerReplay). s.peers.issued) second ∙ (ap (λ (s : PeerReplay). s.peers.issued) first ∙ c.issued));
      given = c.given;
      all = c.all;
      fresh = c.fresh;
      mirror = ap (λ (s : PeerReplay). s.mirror) last ∙ (ap (λ (s : PeerReplay). s.mirror) second
          ∙ ap (λ m. with_weakened m 2) (ap (λ (s : PeerReplay). s.mirror) first ∙ ap (λ m. with_weakened m 1) c.mirror));
      mirrors = ap (λ (s : PeerReplay). s.mirrors) last ∙ (ap (λ (s : PeerReplay). s.mirrors) second ∙ (ap (λ (s : PeerReplay). s.mirrors) first ∙ c.mirrors));
      refs = ap (λ (s : PeerReplay). s.refs) last ∙ (ap (λ (s : PeerReplay). s.refs) second ∙ (ap (λ (s : PeerReplay). s.refs) first ∙ c.refs));
      waiting = ap (λ (z : Reserve). z.waiting) r ∙ c.waiting;
      left = ap (λ (z : Reserve). z.left) r ∙ (let l = c.left in let n = ap (λ (l : List HNum). length l) hs in omega (arith, l, n));
      once = c.once;
      order = (let l = c.order in omega (arith, l));
      most = omega arith;
    }

-- what two restores leave
record Twice (s t : PeerReplay) (x y : Option HNum) (was : List Issued) (had : List ℕ) : Type 0 where
  later : List Issued
  issued : t.peers.issued ≡ two_issued ++ later
  given : List ℕ
  mirror : t.mirror ≡ mirror_at true 2 2 given
  all : is_some x ≡ true → is_some y ≡ true → (was ≡ given_ones 0) × (had ≡ given_handles 0) → (later ≡ given_ones 2) × (given ≡ given_handles 2)
  mirrors : t.mirrors ≡ s.mirrors
  refs : t.refs ≡ s.refs

is-alive : (x : Option HNum) → is_some x ≡ true → is_alive (back_of x) ≡ true
is-alive (Some h) e = refl
is-alive None e = (let f : false ≡ true = e in absurd cc)

restored-twice : (old new : Side PeerReplay) (before after index : ℕ) (x y : Option HNum) (was : List Issued) (had : List ℕ)
    → AddsInTurn peer_rules counting before after old new (restorings index (one ∷ two ∷ []) (x ∷ y ∷ []))
    → old.state.peers.issued ≡ two_issued ++ was → old.state.mirror ≡ mirror_at true 2 0 had → Twice old.state new.state x y was had
restored-twice old new before after index x y was had a issued mirror =
    let t = next-circle old.state a.1.state (back_of x) 2 0 1 was had (omega arith) (omega arith) (restored-entry old a.1 before a.0 index 1 (back_of x) a.2) issued mirror in
    let u = next-circle a.1.state a.3.1.state (back_of y) 2 1 2 t.later t.given (omega arith) (omega arith) (restored-entry a.1 a.3.1 a.0 a.3.0 index 2 (back_of y) a.3.2) t.issued t.mirror in
    let last = ap (λ (z : Side PeerReplay). z.state) a.3.3.1 in record {
      later = u.later;
      issued = ap (λ (s : PeerReplay). s.peers.issued) last ∙ u.issued;
      given = u.given;
      mirror = ap (λ (s : PeerReplay). s.mirror) last ∙ u.mirror;
      all = λ f g e. (let first = t.all (is-alive x f) e.0 e.1 in u.all (is-alive y g) first.0 first.1);
      mirrors = ap (λ (s : PeerReplay). s.mirrors) last ∙ (u.mirrors ∙ t.mirrors);
      refs = ap (λ (s : PeerReplay). s.refs) last ∙ (u.refs ∙ t.refs);
    }

-- the answers, in their places
record AreTwo (answers : List (Option HNum)) : Type 0 where
  first : Option HNum
  second : Option HNum
  are : answers ≡ first ∷ second ∷ []

two-answers : (answers : List (Option HNum)) → length answers ≡ 2 → AreTwo answers
two-answers [] e = absurd (omega (arith, e))
two-answers (x ∷ []) e = absurd (omega (arith, e))
two-answers (x ∷ y ∷ []) e = record { first = x; second = y; are = refl }
two-answers (x ∷ y ∷ z ∷ zs) e = absurd (omega (arith, e))

given-there : (o : Option HNum) → is_given (Some o) ≡ true → is_some o ≡ true
given-there (Some h) e = refl
given-there None e = (let f : false ≡ true = e in absurd cc)

pub circle-restored_all : (old new : PeerModel) (before after : ℕ) (mirrored kept keeps : Bool) (index : ℕ) (ns : List Node) (values later : List (Option HNum)) → ns ≡ nodes → values ≡ []
    → keeps ≡ (kept && (is_given (slice_get later 0) && is_given (slice_get later 1)))
    → RestoresInTurn counting before after (seen old) (seen new) index (handles_of ns) values later
    → new.reserve ≡ old.reserve → IsCircle old before mirrored true kept 2 0 → IsCircle new after mirrored true keeps 2 2
circle-restored_all old new before after mirrored kept keeps index ns values later is none so r reserve c =
    let hs : handles_of ns ≡ one ∷ two ∷ [] = ap handles_of is ∙ handles-are in
    let adds : AddsInTurn peer_rules counting before after (seen old) (seen new) (restorings index (one ∷ two ∷ []) r.answers) = subst
    (λ l. AddsInTurn peer_rules counting before after (seen old) (seen new) (restorings index l r.answers)) hs r.adds in
    let w = two-answers r.answers (r.each ∙ ap (λ (l : List HNum). length l) hs) in
    let put : later ≡ w.first ∷ w.second ∷ [] = r.put ∙ (ap (λ l. l ++ r.answers) none ∙ w.are) in
    let both = subst (λ l. AddsInTurn peer_rules counting before after (seen old) (seen new) (restorings index (one ∷ two ∷ []) l)) w.are adds in
    let t = restored-twice (seen old) (seen new) before after index w.first w.second c.later c.given both c.issued c.mirror in
    record {
      counted = counted-in-turn peer_rules (restorings index (one ∷ two ∷ []) r.answers) (seen old) (seen new) before after adds c.counted;
      later = t.later;
      issued = t.issued;
      given = t.given;
      mirror = t.mirror;
      all = λ k.
          let each = and-true kept (is_given (slice_get later 0) && is_given (slice_get later 1)) (sym so ∙ k) in
          let answered = and-true (is_given (slice_get later 0)) (is_given (slice_get later 1)) each.1 in
          t.all (given-there w.first (ap (λ (l : List (Option HNum)). is_given (slice_get l 0)) (sym put) ∙ answered.0))
          (given-there w.second (ap (λ (l : List (Option HNum)). is_given (slice_get l 1)) (sym put) ∙ answered.1)) (c.all each.0);
      fresh = λ f. (let g : true ≡ false = c.once f in absurd cc);
      mirrors = t.mirrors ∙ c.mirrors;
      refs = t.refs ∙ c.refs;
      waiting = ap (λ (z : Reserve). z.waiting) reserve ∙ c.waiting;
      left = ap (λ (z : Reserve). z.left) reserve ∙ c.left;
      once = c.once;
      order = omega arith;
      most = omega arith;
    }

both-up : All (Contains (up_to 2)) (up_to 2)
both-up = All-cons (Contains (up_to 2)) 1 (2 ∷ []) (up-has 2 1 (omega arith) (omega arith) (omega arith))
    (All-cons (Contains (up_to 2)) 2 [] (up-has 2 2 (omega arith) (omega arith) (omega arith)) (All-nil (Contains (up_to 2))))

pub may-clear : (m : PeerModel) (count : ℕ) (mirrored kept : Bool) (w : ℕ) → IsCircle m count mirrored true kept w 2 → MayClear m.state 1
may-clear m count mirrored kept w c =
    let most = c.most in
    let order = c.order in
    let e : w ≡ 2 = omega (arith, most, order) in
    record { mirror = _; stands = c.mirror; same = refl; all = subst (λ z. All (Contains (up_to 2)) (up_to z)) (sym e) both-up }

strong-again : (m : PeerModel) (count : ℕ) (mirrored : Bool) (w h p : ℕ) (x : Mirror) → IsCircle m count mirrored true true w 2 → m.state.mirror ≡ Some x
    → Contains (given_handles 2) h → row_of m.state h ≡ Some strong_row → peer_of (two_issued ++ given_ones 2) h ≡ Some p → HasRestoredHandle m.state x p
strong-again m count mirrored w h p x c is k row peer =
    let all = c.all refl in
    record {
      handle = h;
      given = subst (λ (z : Mirror). Contains z.renewed h) (same_Some _ x (sym c.mirror ∙ is)) (subst (λ l. Contains l h) (sym all.1) k);
      strong_now = row;
      peer = ap (λ z. peer_of z h) (c.issued ∙ ap (λ l. two_issued ++ l) all.0) ∙ peer;
    }

-- the references between the peers
abbrev onward : End × End
onward = (node 1, node 2)

abbrev backward : End × End
backward = (node 2, node 1)

no-temporary : (e : End) (t : ℕ) → Contains (onward ∷ backward ∷ []) (e, temporary t) → ⊥
no-temporary e t c = elim (Contains-cons_cases onward (backward ∷ []) (e, temporary t) c) [
  | inl f ↦ (let g : node 2 ≡ temporary t = ap (λ (z : End × End). z.1) f in cc)
  | inr d ↦ elim (Contains-cons_cases backward [] (e, temporary t) d) [
    | inl f ↦ (let g : node 1 ≡ temporary t = ap (λ (z : End × End). z.1) f in cc)
    | inr f ↦ Contains-nil {A = End × End} (e, temporary t) f
  ]
]

target-is : (p q : ℕ) → Refers (onward ∷ backward ∷ []) p q → (q ≡ 2) ⊎ (q ≡ 1)
target-is p q r = by r.through r.walk
  where
    same : (x y : ℕ) → node x ≡ node y → y ≡ x
    same x y e = cc

    by : (ts : List ℕ) → LeadsOver (onward ∷ backward ∷ []) (node p) ts q → (q ≡ 2) ⊎ (q ≡ 1)
    by (t ∷ ts) w = absurd (no-temporary (node p) t w.0)
    by [] w = elim (Contains-cons_cases onward (backward ∷ []) (node p, node q) w) [
      | inl e ↦ inl (same 2 q (ap (λ (z : End × End). z.1) e))
      | inr d ↦ elim (Contains-cons_cases backward [] (node p, node q) d) [
        | inl e ↦ inr (same 1 q (ap (λ (z : End × End). z.1) e))
        | inr f ↦ absurd (Contains-nil {A = End × End} (node p, node q) f)
      ]
    ]

-- both peers have a handle that a restore gave, and it is strong
pub targets-are : (m : PeerModel) (count : ℕ) (mirrored : Bool) (w : ℕ) → IsCircle m count mirrored true true w 2
    → row_of m.state 3 ≡ Some strong_row → row_of m.state 4 ≡ Some strong_row → AreTargetsRestored m.state
targets-are m count mirrored w c a b x is p q r = elim (target-is p q (subst (λ z. Refers z p q) c.refs r.reference)) [
  | inl e ↦ subst (HasRestoredHandle m.state x) (sym e) (strong-again m count mirrored w 4 2 x c is (Contains-there 4 3 (4 ∷ []) (Contains-here 4 [])) b refl)
  | inr e ↦ subst (HasRestoredHandle m.state x) (sym e) (strong-again m count mirrored w 3 1 x c is (Contains-here 3 (4 ∷ [])) a refl)
]

-- the references went
pub circle-cleared : (old new : PeerModel) (before after : ℕ) (mirrored kept : Bool) (w b index : ℕ)
    → AddsLawful peer_rules counting before after (seen old) (seen new) (clears index (record { 0 = 1 })) nothing
    → new.reserve ≡ reserve_over old.reserve → IsCircle old before mirrored true kept w b → IsCircle new after mirrored false kept w b
circle-cleared old new before after mirrored kept w b index a r c = record {
  counted = counted-once peer_rules (seen old) (seen new) before after _ _ a c.counted;
  later = c.later;
  issued = ap (λ (s : PeerReplay). s.peers.issued) a.goes.state ∙ c.issued;
  given = c.given;
  mirror = ap (λ (s : PeerReplay). s.mirror) a.goes.state;
  all = c.all;
  fresh = c.fresh;
  mirrors = ap (λ (s : PeerReplay). s.mirrors) a.goes.state ∙ c.mirrors;
  refs = ap (λ (s : PeerReplay). s.refs) a.goes.state;
  waiting = ap (λ (z : Reserve). z.waiting) r ∙ c.waiting;
  left = ap (λ (z : Reserve). z.left) r;
  once = λ f. refl;
  order = c.order;
  most = c.most;
}
