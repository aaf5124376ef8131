-- Each of these runs is refused by the conjunct that its law names: what that promises has no place in the run, or
-- speaks against a state that the run shows.
use Rattle.std.proofs.Common.{◌≡◌, ℕ, zero, suc, ◌<◌, List, [], ◌∷◌, Some, refl, slice_get, nat_eq, subst, sym, arith}
use Rattle.std.specs.Prelude.{Contains}
use Rattle.joint_machine.specs.declared.events.Op.TheVariants as op
use Rattle.joint_machine.specs.Headline.{IsUnreachedAt, IsCandidateBefore, ResolvesAt, SnapsAt, SweepsAt}
use Rattle.joint_machine.specs.Heaps.{IsMade}
use Rattle.joint_machine.specs.Joint.{Joint, IsReached, object, peer}
use Rattle.joint_machine.specs.Run.{Moment}
use Rattle.joint_machine.specs.Told.{snap_of, Noted, said_cleared}
use Rattle.joint_machine.proofs.Members.{Contains-nil}
use Rattle.computed_histories.proofs.GraphTests.{joint_reached}
use Rattle.computed_histories.proofs.Reaching.{member}
use Rattle.computed_histories.proofs.Telling.{refuted, same}
use Rattle.worked_histories.specs.Unsound.{still, closed, object_named, peer_named, moment_of, snaps_two, snaps_nothing, snap_frees_two, begins_one, sweeps_none, sweeps_two, resolves_none}
use Rattle.worked_histories.specs.Unsound.{resolves_two, cycle_run, leaves_candidate, freed_without_sweep, swept_without_begin, reached_at_begin, reached_before_sweep, snapped_while_reached}
use Rattle.worked_histories.specs.Unsound.{resolved_while_reached, AreUnsound, AreIncomplete}

abbrev only-two : List ℕ
only-two = 2 ∷ []

two : Contains only-two 2
two = (member nat_eq same (2 ∷ []) 2).holds refl

-- what is named is reached
object-reached : IsReached object_named (object 2)
object-reached = (joint_reached object_named.graph (object 2)).holds refl

peer-reached : IsReached peer_named (peer 2)
peer-reached = (joint_reached peer_named.graph (peer 2)).holds refl

first : (n : ℕ) → n < 1 → n ≡ 0
first zero l = refl
first (suc n) l = absurd (omega (arith, l))

-- peer 2 is swept there, and object 2 freed
sweeps : (run : List Moment) (i : ℕ) (j : Joint) → slice_get run i ≡ Some (moment_of j sweeps_two j) → SweepsAt run i 1 (2 ∷ [])
sweeps run i j e = record { element = moment_of j sweeps_two j; there = e; is = (refl, record { first = 0; count = 1 }, refl, refl) }

frees : (run : List Moment) (i : ℕ) (before after : Joint) → slice_get run i ≡ Some (moment_of before resolves_two after) → ResolvesAt run i 1 (2 ∷ [])
frees run i before after e = record { element = moment_of before resolves_two after; there = e; is = (refl, said_cleared ∷ [], refl) }

candidate : IsCandidateBefore freed_without_sweep 0 2
candidate = record { element = moment_of still resolves_two closed; there = refl; is = (record { number = 1; candidates = 2 ∷ []; dead = 2 ∷ [] }, refl, two) }

snap-frees : SnapsAt snapped_while_reached 0 1 (2 ∷ []) []
snap-frees = record { element = moment_of object_named snap_frees_two object_named; there = refl; is = (refl, [], refl) }

pub unsound : AreUnsound
unsound = record {
  candidates = λ s. let f = s.candidates 0 1 2 (2 ∷ []) (frees freed_without_sweep 0 still closed refl) two candidate in absurd (omega (arith, f.is.4.in_time));
  begun = λ s. let w = s.peers 0 1 2 (2 ∷ []) (sweeps swept_without_begin 0 closed refl) two in absurd (omega (arith, w.1));
  at_begin = λ s. let w = s.peers 1 1 2 (2 ∷ []) (sweeps reached_at_begin 1 closed refl) two in
      subst (λ i. IsUnreachedAt reached_at_begin i (peer 2)) (first w.0 w.1) w.3.at_begin (moment_of peer_named begins_one peer_named) refl peer-reached;
  before_sweep = λ s. let w = s.peers 1 1 2 (2 ∷ []) (sweeps reached_before_sweep 1 peer_named refl) two in
      w.3.before_sweep (moment_of peer_named sweeps_two peer_named) refl peer-reached;
  snapped = λ s. s.snapped 0 1 2 (2 ∷ []) [] snap-frees two (moment_of object_named snap_frees_two object_named) refl object-reached;
  resolved = λ s. s.resolved 0 1 2 (2 ∷ []) (frees resolved_while_reached 0 object_named object_named refl) two
      (moment_of object_named resolves_two object_named) refl object-reached;
}

-- all moments of such a run have the one state
one-state : (j : Joint) (n : Noted) (i : ℕ) (m : Moment) → slice_get (cycle_run j n) i ≡ Some m → (m.before ≡ j) × (m.after ≡ j)
one-state j n zero m e = let same_moment : moment_of j n j ≡ m = cc in subst (λ k. (k.before ≡ j) × (k.after ≡ j)) same_moment (refl, refl)
one-state j n (suc zero) m e = let same_moment : moment_of j begins_one j ≡ m = cc in subst (λ k. (k.before ≡ j) × (k.after ≡ j)) same_moment (refl, refl)
one-state j n (suc (suc zero)) m e = let same_moment : moment_of j sweeps_none j ≡ m = cc in subst (λ k. (k.before ≡ j) × (k.after ≡ j)) same_moment (refl, refl)
one-state j n (suc (suc (suc zero))) m e = let same_moment : moment_of j resolves_none j ≡ m = cc in subst (λ k. (k.before ≡ j) × (k.after ≡ j)) same_moment (refl, refl)
one-state j n (suc (suc (suc (suc i)))) m e = absurd cc

-- its snapshot is the first entry
the-candidate : (i : ℕ) (freed candidates : List ℕ) → SnapsAt leaves_candidate i 1 freed candidates → candidates ≡ 2 ∷ []
the-candidate zero freed candidates s =
    let e : s.element ≡ moment_of still snaps_two still = cc in
    let f : snap_of [] (2 ∷ []) (2 ∷ []) ≡ snap_of freed candidates s.is.1 = subst (λ (k : Moment). k.noted.told ≡ snap_of freed candidates s.is.1) e s.is.2 in
    cc
the-candidate (suc zero) freed candidates s = absurd (let e : moment_of still begins_one still ≡ s.element = cc in
    let g = subst (λ k. k.noted.entry.made.op ≡ op.Snap record { 0 = 1 }) (sym e) s.is.0 in cc)
the-candidate (suc (suc zero)) freed candidates s = absurd (let e : moment_of still sweeps_none still ≡ s.element = cc in
    let g = subst (λ k. k.noted.entry.made.op ≡ op.Snap record { 0 = 1 }) (sym e) s.is.0 in cc)
the-candidate (suc (suc (suc zero))) freed candidates s = absurd
    (let e : moment_of still resolves_none still ≡ s.element = cc in let g = subst (λ k. k.noted.entry.made.op ≡ op.Snap record { 0 = 1 }) (sym e) s.is.0 in cc)
the-candidate (suc (suc (suc (suc i)))) freed candidates s = absurd (let e = s.there in cc)

resolves : (j : Joint) (n : Noted) → ResolvesAt (cycle_run j n) 3 1 []
resolves j n = record { element = moment_of j resolves_none j; there = refl; is = (refl, said_cleared ∷ [], refl) }

pub incomplete : AreIncomplete
incomplete = record {
  objects = λ s. let c = s 3 1 [] (resolves still snaps_two) in
      Contains-nil 2 (c.objects 2 (subst (λ l. Contains l 2) (sym (the-candidate c.snap c.freed c.candidates c.snaps)) two)
      (λ i from to m e r. refuted (joint_reached still.graph (object 2)) refl (subst (λ j. IsReached j (object 2)) (one-state still snaps_two i m e).1 r)));
  peers = λ s.
      let c = s 3 1 [] (resolves closed snaps_nothing) in
      let made = subst (λ j. IsMade j.graph.peers.heap 2) (sym (one-state closed snaps_nothing c.begin c.begins.element c.begins.there).0) (omega arith, omega arith) in
      let f = c.peers 2 (record { element = c.begins.element; there = c.begins.there; is = made })
      (λ i from to m e is r. refuted (joint_reached closed.graph (peer 2)) refl (subst (λ j. IsReached j (peer 2)) (one-state closed snaps_nothing i m e).1 r)) in
      Contains-nil 2 (subst (λ j. Contains j.graph.peers.heap.freed 2) (one-state closed snaps_nothing c.sweep f.element f.there).1 f.is);
  alone = λ s. let c = s 0 1 [] (record { element = moment_of still resolves_none closed; there = refl; is = (refl, said_cleared ∷ [], refl) }) in absurd (omega (arith, c.ends_later));
}
