-- Where a run's begins, sweeps and snapshots stand is computed. Then the part of the definition that the law names asks
-- for one of them elsewhere, or speaks against a state that the run shows.
use Rattle.std.proofs.Common.{◌≡◌, ℕ, zero, suc, ◌<◌, ◌⊎◌, inl, inr, Bool, true, false, List, [], ◌∷◌, Some, refl, slice_get, nat_eq, subst, sym, ap, arith}
use Rattle.std.specs.Prelude.{Contains}
use Rattle.joint_machine.specs.declared.names.Thread.TheVariants.{P, C}
use Rattle.joint_machine.specs.declared.events.Op.{Op}
use Rattle.joint_machine.specs.declared.events.Op.TheVariants as op
use Rattle.joint_machine.specs.declared.events.Reply.{Reply}
use Rattle.joint_machine.specs.declared.events.Reply.TheVariants as says
use Rattle.joint_machine.specs.Headline.{BeginsAt, DriverBeginsAt, IsCompleteCycle, IsCompleteRun, IsFreedWithPeer, IsSoundRun, IsSweptFor, IsUnreachedAt, IsUnreachedBefore}
use Rattle.joint_machine.specs.Headline.{SnapsAt, SweepsAt}
use Rattle.joint_machine.specs.Heaps.{IsMade, numbered_at}
use Rattle.joint_machine.specs.Joint.{IsReached, object, peer, opening}
use Rattle.joint_machine.specs.Peers.{peer_of}
use Rattle.joint_machine.specs.Run.{Moment}
use Rattle.joint_machine.specs.Told.{sweep_of, said_cleared}
use Rattle.joint_machine.proofs.Members.{Contains-nil}
use Rattle.computed_histories.proofs.GraphTests.{joint_reached}
use Rattle.computed_histories.proofs.Reaching.{member}
use Rattle.computed_histories.proofs.Telling.{refuted, same}
use Rattle.worked_histories.specs.Notes.{span}
use Rattle.worked_histories.specs.Unsound.{begins_one, closed, object_named, peer_named, resolves_none, resolves_two, snaps_nothing, sweeps_none, sweeps_two}
use Rattle.worked_histories.specs.WithPeers.{at, another_swept, begins_by_peer, begun_behind, begun_late, made_between, named_at_begin, named_before_sweep, paired, peer_named_at_begin, snaps_second}
use Rattle.worked_histories.specs.WithPeers.{sweeps_one, sweeps_second, swept_late, turns, unbegun, unswept, AreUnsoundWithPeers, AreIncompleteCycles}
use Rattle.worked_histories.proofs.FreeingOne.{is_sweep, is_snap, swept_marking}
use Rattle.worked_histories.proofs.Places.{only_at, place}

abbrev is_begin : Op → Bool
is_begin op.Begin = true
is_begin _ = false

abbrev begins : Moment → Bool
begins m = is_begin m.noted.entry.made.op

abbrev sweeps : Moment → Bool
sweeps m = is_sweep m.noted.entry.made.op

abbrev snaps : Moment → Bool
snaps m = is_snap m.noted.entry.made.op

-- the only place of a sweep, a begin and a snapshot
sweep_place : (run : List Moment) (e i j : ℕ) (freed : List ℕ) → only_at sweeps e 0 run ≡ true → SweepsAt run i j freed → i ≡ e
sweep_place run e i j freed only s = place sweeps e run i s.element only s.there (subst (λ o. is_sweep o ≡ true) (sym s.is.0) refl)

begin_place : (run : List Moment) (e i j : ℕ) → only_at begins e 0 run ≡ true → BeginsAt run i j → i ≡ e
begin_place run e i j only b = place begins e run i b.element only b.there (subst (λ o. is_begin o ≡ true) (sym b.is.0) refl)

driver_place : (run : List Moment) (e i j : ℕ) → only_at begins e 0 run ≡ true → DriverBeginsAt run i j → i ≡ e
driver_place run e i j only b = place begins e run i b.element only b.there (subst (λ o. is_begin o ≡ true) (sym b.is.1) refl)

snap_place : (run : List Moment) (e i k : ℕ) (freed candidates : List ℕ) → only_at snaps e 0 run ≡ true → SnapsAt run i k freed candidates → i ≡ e
snap_place run e i k freed candidates only s = place snaps e run i s.element only s.there (subst (λ o. is_snap o ≡ true) (sym s.is.0) refl)

abbrev only_two : List ℕ
only_two = 2 ∷ []

two : Contains only_two 2
two = (member nat_eq same (2 ∷ []) 2).holds refl

-- where the run frees object 2 as a candidate, its peer is number 2: so that peer was swept before
module _ (run : List Moment) (i : ℕ) (there : slice_get run i ≡ Some (at paired resolves_two)) where
  freed_here : IsSoundRun run → IsFreedWithPeer run i 2
  freed_here s = s.candidates i 1 2 (2 ∷ []) (record { element = at paired resolves_two; there = there; is = (refl, said_cleared ∷ [], refl) }) two
      (record { element = at paired resolves_two; there = there; is = (record { number = 1; candidates = 2 ∷ []; dead = 2 ∷ [] }, refl, two) })

  swept : IsSoundRun run → IsSweptFor run i 2 (object 2)
  swept s =
      let f = freed_here s in
      let e : f.element ≡ at paired resolves_two = cc in
      let h : numbered_at paired.graph.managed.held 2 ≡ Some (Some f.is.0) = subst (λ (m : Moment). numbered_at m.before.graph.managed.held 2 ≡ Some (Some f.is.0)) e f.is.1.held in
      let own : f.is.0 ≡ 2 = cc in
      let p : peer_of paired.graph.peers.issued f.is.0 ≡ Some f.is.2 = subst (λ (m : Moment). peer_of m.before.graph.peers.issued f.is.0 ≡ Some f.is.2) e f.is.3 in
      let q : peer_of paired.graph.peers.issued 2 ≡ Some f.is.2 = subst (λ h. peer_of paired.graph.peers.issued h ≡ Some f.is.2) own p in
      let its : f.is.2 ≡ 2 = cc in
      subst (λ p. IsSweptFor run i p (object 2)) its f.is.4

object-reached : IsReached object_named (object 2)
object-reached = (joint_reached object_named.graph (object 2)).holds refl

peer-reached : IsReached peer_named (peer 2)
peer-reached = (joint_reached peer_named.graph (peer 2)).holds refl

-- another peer was freed there
other-freed : (freed : List ℕ) → sweep_of (1 ∷ []) ≡ sweep_of freed → Contains freed 2 → ⊥
other-freed freed e c = let f : freed ≡ 1 ∷ [] = cc in refuted (member nat_eq same (1 ∷ []) 2) refl (subst (λ l. Contains l 2) f c)

below_two : (n : ℕ) → n < 2 → (n ≡ 0) ⊎ (n ≡ 1)
below_two zero l = inl refl
below_two (suc zero) l = inr refl
below_two (suc (suc n)) l = absurd (omega (arith, l))

none_below : (n : ℕ) → n < 1 → n ≡ 0
none_below zero l = refl
none_below (suc n) l = absurd (omega (arith, l))

-- peer 2 is swept there
sweeps_there : (run : List Moment) (i : ℕ) → slice_get run i ≡ Some (at closed sweeps_two) → SweepsAt run i 1 (2 ∷ [])
sweeps_there run i e = record { element = at closed sweeps_two; there = e; is = (refl, span 0 1, refl, refl) }

pub unsound : AreUnsoundWithPeers
unsound = record {
  frees = λ s. let w = swept another_swept 2 refl s in
      let e : w.sweeps.element ≡ at paired sweeps_one =
      (let at_one = sweep_place another_swept 1 w.sweep w.marking w.freed refl w.sweeps in
      let g : slice_get another_swept 1 ≡ Some w.sweeps.element = subst (λ i. slice_get another_swept i ≡ Some w.sweeps.element) at_one w.sweeps.there in cc) in
      other-freed w.freed (subst (λ (m : Moment). m.noted.told ≡ sweep_of w.freed) e w.sweeps.is.3) w.frees;
  sweeps = λ s. let w = swept unswept 2 refl s in let far = sweep_place unswept 2 w.sweep w.marking w.freed refl w.sweeps in absurd (omega (arith, far, w.in_time));
  in_time = λ s. let w = swept swept_late 1 refl s in let late = sweep_place swept_late 2 w.sweep w.marking w.freed refl w.sweeps in absurd (omega (arith, late, w.in_time));
  row_at_begin = λ s. let w = swept named_at_begin 3 refl s in
      subst (λ i. IsUnreachedAt named_at_begin i (object 2)) (begin_place named_at_begin 1 w.begin w.marking refl w.begins) w.row.at_begin (at object_named begins_one) refl object-reached;
  row_before_sweep = λ s. let w = swept named_before_sweep 2 refl s in
      subst (λ i. IsUnreachedBefore named_before_sweep i (object 2)) (sweep_place named_before_sweep 1 w.sweep w.marking w.freed refl w.sweeps) w.row.before_sweep
      (at object_named sweeps_two) refl object-reached;
  in_order = λ s. let w = swept begun_late 3 refl s in let first = sweep_place begun_late 1 w.sweep w.marking w.freed refl w.sweeps in
      let begin = none_below w.begin (omega (arith, first, w.in_order)) in
      subst (λ i. IsUnreachedAt begun_late i (object 2)) begin w.row.at_begin (at object_named begins_one) refl object-reached;
  itself = λ s. let w = swept peer_named_at_begin 3 refl s in let second = sweep_place peer_named_at_begin 2 w.sweep w.marking w.freed refl w.sweeps in
      elim (below_two w.begin (omega (arith, second, w.in_order))) [
        | inl e ↦ subst (λ i. IsUnreachedAt peer_named_at_begin i (peer 2)) e w.itself.at_begin (at peer_named begins_one) refl peer-reached
        | inr e ↦ subst (λ i. IsUnreachedAt peer_named_at_begin i (object 2)) e w.row.at_begin (at object_named begins_one) refl object-reached
      ];
  begun = λ s. let w = s.peers 1 1 2 (2 ∷ []) (sweeps_there unbegun 1 refl) two in let far = begin_place unbegun 1 w.0 1 refl w.2 in absurd (omega (arith, far, w.1));
  begun_before = λ s. let w = s.peers 0 1 2 (2 ∷ []) (sweeps_there begun_behind 0 refl) two in absurd (omega (arith, w.1));
}

-- what the resolution of cycle 1 at a place asks for
whole_cycle : (run : List Moment) (i : ℕ) → slice_get run i ≡ Some (at opening resolves_none) → IsCompleteRun run → IsCompleteCycle run i 1 []
whole_cycle run i there s = s i 1 [] (record { element = at opening resolves_none; there = there; is = (refl, said_cleared ∷ [], refl) })

abbrev own : List Moment
own = turns snaps_second begins_one sweeps_none resolves_none

abbrev by_peer : List Moment
by_peer = turns snaps_nothing begins_by_peer sweeps_none resolves_none

abbrev of_another : List Moment
of_another = turns snaps_nothing begins_one sweeps_second resolves_none

abbrev begun_first : List Moment
begun_first = turns begins_one snaps_nothing sweeps_none resolves_none

abbrev swept_first : List Moment
swept_first = turns snaps_nothing sweeps_none begins_one resolves_none

abbrev resolved_first : List Moment
resolved_first = turns snaps_nothing begins_one resolves_none sweeps_none

abbrev snapped_cycle : Op → ℕ
snapped_cycle (op.Snap k) = k.0
snapped_cycle _ = 0

abbrev begun_marking : Reply → ℕ
begun_marking (says.Mark j) = j.0
begun_marking _ = 0

-- after the snapshot each moment has the state in which two peers are unreached; at the snapshot none was made
unreached : (i : ℕ) (m : Moment) → slice_get made_between i ≡ Some m → IsMade m.after.graph.peers.heap 2 → IsReached m.after (peer 2) → ⊥
unreached zero m e made r = let s : at opening snaps_nothing ≡ m = cc in let none = subst (λ (k : Moment). IsMade k.after.graph.peers.heap 2) (sym s) made in omega (arith, none.1)
unreached (suc zero) m e made r = let s : at closed begins_one ≡ m = cc in refuted (joint_reached closed.graph (peer 2)) refl (subst (λ (k : Moment). IsReached k.after (peer 2)) (sym s) r)
unreached (suc (suc zero)) m e made r = let s : at closed sweeps_none ≡ m = cc in refuted (joint_reached closed.graph (peer 2)) refl (subst (λ (k : Moment). IsReached k.after (peer 2)) (sym s) r)
unreached (suc (suc (suc zero))) m e made r = let s : at closed resolves_none ≡ m = cc in refuted (joint_reached closed.graph (peer 2)) refl (subst (λ (k : Moment). IsReached k.after (peer 2)) (sym s) r)
unreached (suc (suc (suc (suc i)))) m e made r = absurd cc

pub incomplete : AreIncompleteCycles
incomplete = record {
  peers = λ s. let c = s 3 1 [] (record { element = at closed resolves_none; there = refl; is = (refl, said_cleared ∷ [], refl) }) in
      let b = driver_place made_between 1 c.begin c.marking refl c.begins in
      let w = sweep_place made_between 2 c.sweep c.marking c.swept refl c.sweeps in
      let f = c.peers 2 (record { element = at closed begins_one; there = subst (λ i. slice_get made_between i ≡ Some (at closed begins_one)) (sym b) refl; is = (omega arith, omega arith) })
      (λ i from to m. unreached i m) in
      let g : slice_get made_between 2 ≡ Some f.element = subst (λ i. slice_get made_between i ≡ Some f.element) w f.there in
      let e : f.element ≡ at closed sweeps_none = cc in
      Contains-nil 2 (subst (λ (m : Moment). Contains m.after.graph.peers.heap.freed 2) e f.is);
  snaps = λ s. let c = whole_cycle own 3 refl s in
      let p = snap_place own 0 c.snap 1 c.freed c.candidates refl c.snaps in
      let g : slice_get own 0 ≡ Some c.snaps.element = subst (λ i. slice_get own i ≡ Some c.snaps.element) p c.snaps.there in
      let e : c.snaps.element ≡ at opening snaps_second = cc in
      let k : 2 ≡ 1 = ap (λ o. snapped_cycle o) (subst (λ (m : Moment). m.noted.entry.made.op ≡ op.Snap record { 0 = 1 }) e c.snaps.is.0) in omega (arith, k);
  begins = λ s. let c = whole_cycle by_peer 3 refl s in
      let p = driver_place by_peer 1 c.begin c.marking refl c.begins in
      let g : slice_get by_peer 1 ≡ Some c.begins.element = subst (λ i. slice_get by_peer i ≡ Some c.begins.element) p c.begins.there in
      let e : c.begins.element ≡ at opening begins_by_peer = cc in
      let k : P 1 ≡ C = subst (λ (m : Moment). m.noted.entry.made.caller ≡ C) e c.begins.is.0 in cc;
  sweeps = λ s. let c = whole_cycle of_another 3 refl s in
      let p = driver_place of_another 1 c.begin c.marking refl c.begins in
      let g : slice_get of_another 1 ≡ Some c.begins.element = subst (λ i. slice_get of_another i ≡ Some c.begins.element) p c.begins.there in
      let e : c.begins.element ≡ at opening begins_one = cc in
      let one : 1 ≡ c.marking = ap begun_marking (subst (λ (m : Moment). m.noted.entry.made.reply ≡ says.Mark record { 0 = c.marking }) e c.begins.is.2) in
      let q = sweep_place of_another 2 c.sweep c.marking c.swept refl c.sweeps in
      let h : slice_get of_another 2 ≡ Some c.sweeps.element = subst (λ i. slice_get of_another i ≡ Some c.sweeps.element) q c.sweeps.there in
      let d : c.sweeps.element ≡ at opening sweeps_second = cc in
      let k : 2 ≡ c.marking = ap swept_marking (subst (λ (m : Moment). m.noted.entry.made.reply ≡ says.Swept record { 0 = c.marking } c.sweeps.is.1) d c.sweeps.is.2) in
      omega (arith, one, k);
  begins_later = λ s. let c = whole_cycle begun_first 3 refl s in
      let p = snap_place begun_first 1 c.snap 1 c.freed c.candidates refl c.snaps in
      let q = driver_place begun_first 0 c.begin c.marking refl c.begins in omega (arith, p, q, c.begins_later);
  sweeps_later = λ s. let c = whole_cycle swept_first 3 refl s in
      let p = sweep_place swept_first 1 c.sweep c.marking c.swept refl c.sweeps in
      let q = driver_place swept_first 2 c.begin c.marking refl c.begins in omega (arith, p, q, c.sweeps_later);
  ends_later = λ s. let c = whole_cycle resolved_first 2 refl s in
      let p = sweep_place resolved_first 3 c.sweep c.marking c.swept refl c.sweeps in omega (arith, p, c.ends_later);
}
