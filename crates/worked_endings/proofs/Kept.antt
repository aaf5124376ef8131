-- Each of these runs shows a state that the clause denies: an object that holds a handle on a freed peer, or a peer that
-- is reached in a marking whose sweep frees it.
use Rattle.std.proofs.Common.{◌≡◌, ℕ, zero, suc, ◌<◌, Bool, true, false, List, [], ◌∷◌, Option, Some, refl, slice_get, nat_eq, subst, sym, ap, arith, ⊎_elim}
use Rattle.std.specs.Prelude.{Contains}
use Rattle.joint_machine.specs.declared.events.Op.{Op}
use Rattle.joint_machine.specs.declared.events.Op.TheVariants as op
use Rattle.joint_machine.specs.declared.events.Reply.{Reply}
use Rattle.joint_machine.specs.declared.events.Reply.TheVariants as says
use Rattle.joint_machine.specs.Headline.{BeginsAt, IsUnreachedAt, IsUnreachedBefore, ResolvesAt, SnapsAt, SweepsAt}
use Rattle.joint_machine.specs.Heaps.{IsLive}
use Rattle.joint_machine.specs.Joint.{IsReached, object, peer}
use Rattle.joint_machine.specs.Run.{Moment}
use Rattle.joint_machine.specs.Told.{sweep_of}
use Rattle.joint_machine.proofs.Members.{Contains-nil, Contains-cons_cases}
use Rattle.computed_histories.proofs.GraphTests.{joint_reached}
use Rattle.computed_histories.proofs.Reaching.{member}
use Rattle.computed_histories.proofs.Telling.{refuted, same}
use Rattle.worked_histories.specs.Notes.{span}
use Rattle.worked_histories.specs.Unsound.{begins_one, closed, moment_of, peer_named, sweeps_two}
use Rattle.worked_histories.specs.WithPeers.{at, begun_behind, paired, sweeps_one, unbegun}
use Rattle.worked_endings.specs.Kept.{ArePeersKept, brought_back, first_swept, held_peer_swept, reads_back}
use Rattle.worked_histories.proofs.Places.{only_at, place, same_place}

-- whether the event is of that kind
abbrev is_begin : Op → Bool
is_begin op.Begin = true
is_begin _ = false

abbrev is_sweep : Op → Bool
is_sweep op.Sweep = true
is_sweep _ = false

abbrev is_snap : Op → Bool
is_snap (op.Snap k) = true
is_snap _ = false

abbrev is_resolve : Op → Bool
is_resolve (op.Resolve k) = true
is_resolve _ = false

-- the only place of an event of a kind
place_of : (is : Op → Bool) (run : List Moment) (e i : ℕ) (m : Moment) → only_at (λ (m : Moment). is m.noted.entry.made.op) e 0 run ≡ true → slice_get run i ≡ Some m → is m.noted.entry.made.op ≡ true
    → i ≡ e
place_of is run e i m only there kind = place (λ (m : Moment). is m.noted.entry.made.op) e run i m only there kind

begin_place : (run : List Moment) (e i j : ℕ) → only_at (λ (m : Moment). is_begin m.noted.entry.made.op) e 0 run ≡ true → BeginsAt run i j → i ≡ e
begin_place run e i j only b = place_of is_begin run e i b.element only b.there (subst (λ o. is_begin o ≡ true) (sym b.is.0) refl)

no_snap : (i k : ℕ) (freed candidates : List ℕ) → SnapsAt brought_back i k freed candidates → ⊥
no_snap i k freed candidates s =
    let kind = subst (λ o. is_snap o ≡ true) (sym s.is.0) refl in
    let a = place_of is_snap brought_back 7 i s.element refl s.there kind in
    let b = place_of is_snap brought_back 8 i s.element refl s.there kind in
    omega (arith, a, b)

no_resolve : (i k : ℕ) (freed : List ℕ) → ResolvesAt brought_back i k freed → ⊥
no_resolve i k freed s =
    let kind = subst (λ o. is_resolve o ≡ true) (sym s.is.0) refl in
    let a = place_of is_resolve brought_back 7 i s.element refl s.there kind in
    let b = place_of is_resolve brought_back 8 i s.element refl s.there kind in
    omega (arith, a, b)

abbrev only_two : List ℕ
only_two = 2 ∷ []

two : Contains only_two 2
two = (member nat_eq same (2 ∷ []) 2).holds refl

is_two : (p : ℕ) → Contains only_two p → p ≡ 2
is_two p c = ⊎_elim (λ e. sym e) (λ d. absurd (Contains-nil p d)) (Contains-cons_cases 2 [] p c)

sweeps_there : (run : List Moment) (i : ℕ) → slice_get run i ≡ Some (at closed sweeps_two) → SweepsAt run i 1 (2 ∷ [])
sweeps_there run i e = record { element = at closed sweeps_two; there = e; is = (refl, span 0 1, refl, refl) }

abbrev swept_marking : Reply → ℕ
swept_marking (says.Swept j s) = j.0
swept_marking _ = 0

-- its one sweep
swept_there : (i j : ℕ) (freed : List ℕ) → SweepsAt brought_back i j freed → (i ≡ 3) × (1 ≡ j) × (freed ≡ 2 ∷ [])
swept_there i j freed r =
    let at_three = place_of is_sweep brought_back 3 i r.element refl r.there (subst (λ o. is_sweep o ≡ true) (sym r.is.0) refl) in
    let e = same_place brought_back i 3 r.element (at closed sweeps_two) r.there at_three refl in
    let reply : says.Swept record { 0 = 1 } (span 0 1) ≡ says.Swept record { 0 = j } r.is.1 = subst
    (λ (m : Moment). m.noted.entry.made.reply ≡ says.Swept record { 0 = j } r.is.1) (sym e) r.is.2 in
    let told : sweep_of (2 ∷ []) ≡ sweep_of freed = subst (λ (m : Moment). m.noted.told ≡ sweep_of freed) (sym e) r.is.3 in
    (at_three, ap swept_marking reply, told_from freed told)
  where
    told_from : (freed : List ℕ) → sweep_of (2 ∷ []) ≡ sweep_of freed → freed ≡ 2 ∷ []
    told_from freed e = cc

unreached_then : IsUnreachedAt brought_back 0 (peer 2)
unreached_then m e r = let s : at closed begins_one ≡ m = cc in refuted (joint_reached closed.graph (peer 2)) refl (subst (λ (k : Moment). IsReached k.after (peer 2)) (sym s) r)

unreached_before : IsUnreachedBefore brought_back 3 (peer 2)
unreached_before m e r = let s : at closed sweeps_two ≡ m = cc in refuted (joint_reached closed.graph (peer 2)) refl (subst (λ (k : Moment). IsReached k.before (peer 2)) (sym s) r)

-- object 1 isn't a candidate, and its peer is freed
dead : (p : ℕ) → Some 1 ≡ Some p → IsLive first_swept.graph.peers.heap p → ⊥
dead p e l = let q : p ≡ 1 = cc in (subst (λ p. IsLive first_swept.graph.peers.heap p) q l).kept ((member nat_eq same (1 ∷ []) 1).holds refl)

pub peers_kept : ArePeersKept
peers_kept = record {
  held_peers = λ k.
      let w = k 1 (moment_of paired sweeps_one first_swept) refl 1 1 (record { live = record { made = (omega arith, omega arith); kept = Contains-nil 1 }; held = refl })
      (refuted (member nat_eq same (2 ∷ []) 1) refl) in
      dead w.0 w.1 w.2;
  sound = record {
    candidates = λ i k m freed r c b. absurd (no_resolve i k freed r);
    peers = λ i j p freed r c. let t = swept_there i j freed r in let which = is_two p (subst (λ l. Contains l p) t.2 c) in (
      0,
      (let e = t.0 in omega (arith, e)),
      record { element = at closed begins_one; there = refl; is = (refl, ap (λ (n : ℕ). says.Mark record { 0 = n }) t.1) },
      record {
        at_begin = subst (λ q. IsUnreachedAt brought_back 0 (peer q)) (sym which) unreached_then;
        before_sweep = subst (λ a. IsUnreachedBefore brought_back a (peer p)) (sym t.0) (subst (λ q. IsUnreachedBefore brought_back 3 (peer q)) (sym which) unreached_before);
      },
    );
    snapped = λ i k m freed candidates r c. absurd (no_snap i k freed candidates r);
    resolved = λ i k m freed r c. absurd (no_resolve i k freed r);
  };
  reached = λ s.
      let w = s 3 1 2 (2 ∷ []) (sweeps_there brought_back 3 refl) two in
      let b = begin_place brought_back 0 w.0 1 refl w.2 in
      w.3 1 (omega (arith, b)) (omega arith) (moment_of closed reads_back peer_named) refl ((joint_reached peer_named.graph (peer 2)).holds refl);
  begun = λ s. let w = s 1 1 2 (2 ∷ []) (sweeps_there unbegun 1 refl) two in let far = begin_place unbegun 1 w.0 1 refl w.2 in absurd (omega (arith, far, w.1));
  begun_before = λ s. let w = s 0 1 2 (2 ∷ []) (sweeps_there begun_behind 0 refl) two in absurd (omega (arith, w.1));
}
