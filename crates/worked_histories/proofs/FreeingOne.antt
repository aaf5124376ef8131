-- The run of the one object is sound and complete: the places of its snap, begin, sweep and resolution are the only
-- ones, and neither the object nor its peer is reached from the snap on.
use Rattle.std.proofs.Common.{◌≡◌, ℕ, ◌<◌, ◌≤◌, Bool, true, false, List, [], ◌∷◌, Some, None, slice_get, get_or, refl, sym, subst, ap, nat_eq, arith, ⊎_elim}
use Rattle.std.specs.List.{Contains}
use Rattle.joint_machine.specs.declared.events.Op.{Op}
use Rattle.joint_machine.specs.declared.events.Op.TheVariants as op
use Rattle.joint_machine.specs.declared.events.Reply.{Reply}
use Rattle.joint_machine.specs.declared.events.Reply.TheVariants as says
use Rattle.joint_machine.specs.declared.names.Thread.TheVariants.{C}
use Rattle.joint_machine.specs.Heaps.{IsMade}
use Rattle.joint_machine.specs.Headline.{IsSoundRun, IsCompleteRun, IsCompleteCycle, IsFreedWithPeer, IsUnreachedAt, IsUnreachedBefore, WasUnreached, ResolvesAt, SweepsAt, SnapsAt, IsPeerFreedAt}
use Rattle.joint_machine.specs.Joint.{opening, Row, object, peer, IsReached}
use Rattle.joint_machine.specs.Run.{Moment}
use Rattle.joint_machine.specs.Told.{snap_of, sweep_of, resolution_of, nothing, said_cleared, Answer}
use Rattle.worked_histories.specs.Freeing.{one_run, FreesOneObject}
use Rattle.worked_histories.specs.Notes.{note, span}
use Rattle.computed_histories.specs.Graphs.{is_reached}
use Rattle.computed_histories.proofs.GraphTests.{joint_reached}
use Rattle.computed_histories.proofs.Reaching.{member}
use Rattle.computed_histories.proofs.Telling.{refuted, same as is_same}
use Rattle.joint_machine.proofs.Members.{Contains-nil, Contains-cons_cases}
use Rattle.worked_histories.proofs.Places.{place, same_place}

-- the moment at a place
abbrev pub moment_at : ℕ → Moment
moment_at k = get_or one_run k (record { before = opening; noted = note 0 C 0 op.Begin says.Ok None nothing; after = opening })

-- whether the event ends a cycle by a resolution, sweeps, or snaps
abbrev pub is_resolve : Op → Bool
is_resolve (op.Resolve k) = true
is_resolve _ = false

abbrev pub is_sweep : Op → Bool
is_sweep op.Sweep = true
is_sweep _ = false

abbrev pub is_snap : Op → Bool
is_snap (op.Snap k) = true
is_snap _ = false

-- the cycle of a resolution, and the marking of a sweep
abbrev pub resolve_cycle : Op → ℕ
resolve_cycle (op.Resolve k) = k.0
resolve_cycle _ = 0

abbrev pub swept_marking : Reply → ℕ
swept_marking (says.Swept j s) = j.0
swept_marking _ = 0

-- a row that isn't computed to be reached isn't
pub unreached_at : (i : ℕ) (m : Moment) (x : Row) → slice_get one_run i ≡ Some m → is_reached m.after.graph x ≡ false → IsUnreachedAt one_run i x
unreached_at i m x there out n e r = let same : m ≡ n = cc in refuted (joint_reached m.after.graph x) out (subst (λ (k : Moment). IsReached k.after x) (sym same) r)

pub unreached_before : (i : ℕ) (m : Moment) (x : Row) → slice_get one_run i ≡ Some m → is_reached m.before.graph x ≡ false → IsUnreachedBefore one_run i x
unreached_before i m x there out n e r = let same : m ≡ n = cc in refuted (joint_reached m.before.graph x) out (subst (λ (k : Moment). IsReached k.before x) (sym same) r)

-- the object and its peer were unreached at the begin and just before the sweep
pub object_was : WasUnreached one_run 4 5 (object 1)
object_was = record { at_begin = unreached_at 4 (moment_at 4) (object 1) refl refl; before_sweep = unreached_before 5 (moment_at 5) (object 1) refl refl }

pub peer_was : WasUnreached one_run 4 5 (peer 1)
peer_was = record { at_begin = unreached_at 4 (moment_at 4) (peer 1) refl refl; before_sweep = unreached_before 5 (moment_at 5) (peer 1) refl refl }

pub one : (x : ℕ) → Contains (1 ∷ []) x → x ≡ 1
one x c = ⊎_elim (λ e. sym e) (λ d. absurd (Contains-nil x d)) (Contains-cons_cases 1 [] x c)

pub freed_one : IsFreedWithPeer one_run 7 1
freed_one = record {
  element = moment_at 7;
  there = refl;
  is = (
    1,
    record { live = record { made = omega arith; kept = refuted (member nat_eq is_same [] 1) refl }; held = refl },
    1,
    refl,
    record {
      marking = 1;
      begin = 4;
      sweep = 5;
      freed = 1 ∷ [];
      begins = record { element = moment_at 4; there = refl; is = (refl, refl) };
      sweeps = record { element = moment_at 5; there = refl; is = (refl, span 0 1, refl, refl) };
      in_order = omega arith;
      in_time = omega arith;
      frees = (member nat_eq is_same (1 ∷ []) 1).holds refl;
      row = object_was;
      itself = peer_was;
    },
  );
}

-- the place and the data of a resolution, a sweep and a snapshot
pub resolved_there : (i k : ℕ) (freed : List ℕ) → ResolvesAt one_run i k freed → (i ≡ 7) × (k ≡ 1) × (freed ≡ 1 ∷ [])
resolved_there i k freed r =
    let at = place (λ (m : Moment). is_resolve m.noted.entry.made.op) 7 one_run i r.element refl r.there (subst (λ o. is_resolve o ≡ true) (sym r.is.0) refl) in
    let same = same_place one_run i 7 r.element (moment_at 7) r.there at refl in
    let event : op.Resolve record { 0 = 1 } ≡ op.Resolve record { 0 = k } = subst (λ (m : Moment). m.noted.entry.made.op ≡ op.Resolve record { 0 = k }) (sym same) r.is.0 in
    let told : resolution_of (said_cleared ∷ []) (1 ∷ []) ≡ resolution_of r.is.1 freed = subst (λ (m : Moment). m.noted.told ≡ resolution_of r.is.1 freed) (sym same) r.is.2 in
    (at, cycle_from k event, told_from r.is.1 freed told)
  where
    cycle_from : (k : ℕ) → op.Resolve record { 0 = 1 } ≡ op.Resolve record { 0 = k } → k ≡ 1
    cycle_from k e = sym (ap resolve_cycle e)

    told_from : (alive : List Answer) (freed : List ℕ) → resolution_of (said_cleared ∷ []) (1 ∷ []) ≡ resolution_of alive freed → freed ≡ 1 ∷ []
    told_from alive freed e = cc

pub swept_there : (i j : ℕ) (freed : List ℕ) → SweepsAt one_run i j freed → (i ≡ 5) × (j ≡ 1) × (freed ≡ 1 ∷ [])
swept_there i j freed r =
    let at = place (λ (m : Moment). is_sweep m.noted.entry.made.op) 5 one_run i r.element refl r.there (subst (λ o. is_sweep o ≡ true) (sym r.is.0) refl) in
    let same = same_place one_run i 5 r.element (moment_at 5) r.there at refl in
    let reply : says.Swept record { 0 = 1 } (span 0 1) ≡ says.Swept record { 0 = j } r.is.1 = subst
    (λ (m : Moment). m.noted.entry.made.reply ≡ says.Swept record { 0 = j } r.is.1) (sym same) r.is.2 in
    let told : sweep_of (1 ∷ []) ≡ sweep_of freed = subst (λ (m : Moment). m.noted.told ≡ sweep_of freed) (sym same) r.is.3 in
    (at, sym (ap swept_marking reply), told_from freed told)
  where
    told_from : (freed : List ℕ) → sweep_of (1 ∷ []) ≡ sweep_of freed → freed ≡ 1 ∷ []
    told_from freed e = cc

pub snapped_there : (i k : ℕ) (freed candidates : List ℕ) → SnapsAt one_run i k freed candidates → freed ≡ []
snapped_there i k freed candidates r =
    let at = place (λ (m : Moment). is_snap m.noted.entry.made.op) 3 one_run i r.element refl r.there (subst (λ o. is_snap o ≡ true) (sym r.is.0) refl) in
    let same = same_place one_run i 3 r.element (moment_at 3) r.there at refl in
    told_from freed candidates r.is.1 (subst (λ (m : Moment). m.noted.told ≡ snap_of freed candidates r.is.1) (sym same) r.is.2)
  where
    told_from : (freed candidates dead : List ℕ) → snap_of [] (1 ∷ []) (1 ∷ []) ≡ snap_of freed candidates dead → freed ≡ []
    told_from freed candidates dead e = cc

pub one_sound : IsSoundRun one_run
one_sound = record {
  candidates = λ i k m freed r c b. let t = resolved_there i k freed r in let which = one m (subst (λ l. Contains l m) t.2 c) in
      subst (λ a. IsFreedWithPeer one_run a m) (sym t.0) (subst (IsFreedWithPeer one_run 7) (sym which) freed_one);
  peers = λ i j p freed r c. let t = swept_there i j freed r in let which = one p (subst (λ l. Contains l p) t.2 c) in (
    4,
    sooner i t.0,
    record { element = moment_at 4; there = refl; is = (refl, ap (λ (n : ℕ). says.Mark record { 0 = n }) (sym t.1)) },
    subst (λ a. WasUnreached one_run 4 a (peer p)) (sym t.0) (subst (λ q. WasUnreached one_run 4 5 (peer q)) (sym which) peer_was),
  );
  snapped = λ i k m freed candidates r c. absurd (Contains-nil m (subst (λ l. Contains l m) (snapped_there i k freed candidates r) c));
  resolved = λ i k m freed r c. let t = resolved_there i k freed r in let which = one m (subst (λ l. Contains l m) t.2 c) in
      subst (λ a. IsUnreachedBefore one_run a (object m)) (sym t.0) (subst (λ q. IsUnreachedBefore one_run 7 (object q)) (sym which) (unreached_before 7 (moment_at 7) (object 1) refl refl));
}
  where
    sooner : (i : ℕ) → i ≡ 5 → 4 < i
    sooner i e = omega arith

pub cycle_complete : IsCompleteCycle one_run 7 1 (1 ∷ [])
cycle_complete = record {
  snap = 3;
  begin = 4;
  sweep = 5;
  marking = 1;
  freed = [];
  candidates = 1 ∷ [];
  swept = 1 ∷ [];
  snaps = record { element = moment_at 3; there = refl; is = (refl, 1 ∷ [], refl) };
  begins = record { element = moment_at 4; there = refl; is = (refl, refl, refl) };
  sweeps = record { element = moment_at 5; there = refl; is = (refl, span 0 1, refl, refl) };
  begins_later = omega arith;
  sweeps_later = omega arith;
  ends_later = omega arith;
  objects = λ m c u. c;
  peers = λ p made u. let same = same_place one_run 4 4 made.element (moment_at 4) made.there refl refl in
      let which = only_one p (subst (λ (m : Moment). IsMade m.before.graph.peers.heap p) (sym same) made.is) in
      subst (λ q. IsPeerFreedAt one_run 5 q) (sym which) (record { element = moment_at 5; there = refl; is = (member nat_eq is_same (1 ∷ []) 1).holds refl });
}
  where
    only_one : (p : ℕ) → (1 ≤ p) × (p ≤ 1) → p ≡ 1
    only_one p made = omega arith

pub one_complete : IsCompleteRun one_run
one_complete i k freed r = let t = resolved_there i k freed r in
    subst (λ a. IsCompleteCycle one_run a k freed) (sym t.0) (subst (λ a. IsCompleteCycle one_run 7 a freed) (sym t.1) (subst (IsCompleteCycle one_run 7 1) (sym t.2) cycle_complete))

pub one_object-freed : FreesOneObject
one_object-freed = record { sound = one_sound; complete = one_complete }
