-- The same in the run: its moments are traced to entries that may come, and each begins in the state in which the one
-- before it ends. So an edge is followed on and back, moment by moment, as over the states of the list.
use Rattle.std.proofs.Common.{◌≡◌, ℕ, zero, suc, ◌+◌, ◌-◌, ◌≤◌, ◌⊎◌, inl, inr, List, length, take, Option, Some, None, refl, sym, ap, subst, ◌∙◌, arith}
use Rattle.std.specs.Prelude.{Contains, slice_get}
use Rattle.std.proofs.lemmas.Bool.{cases_lt}
use Rattle.std.proofs.lemmas.Option.{same_Some}
use Rattle.joint_machine.specs.Joint.{Joint, JointMarking, opening, Graph, Row, object, peer, JointEdge, IsJointRoot, IsReached}
use Rattle.joint_machine.specs.Linked.{Linkage, opening_linkage, linkage_after}
use Rattle.joint_machine.specs.Replaying.{AllMayCome, machine_entries}
use Rattle.joint_machine.specs.PeerReplay.{Marking}
use Rattle.joint_machine.specs.Run.{Moment, IsRun, is_joint}
use Rattle.joint_machine.specs.Told.{Noted}
use Rattle.joint_machine.specs.Walks.{Reaches}
use Rattle.joint_machine.proofs.Deciding.{none_some}
use Rattle.joint_machine.proofs.Members.{Contains-at}
use Rattle.joint_machine.proofs.WalkLemmas.{Reached-then, Reaches-keeps}
use Rattle.joint_laws.specs.JointAgreement.{AreSameMarkings}
use Rattle.joint_laws.specs.RunStateLaws.{IsReachedInRun, IsOpenInRun, RunUnionIsClosed, RunUnionFollowsMarking}
use Rattle.joint_laws.proofs.CompleteRuns.{run-traced}
use Rattle.joint_laws.proofs.Edges.{IsFreed, edge-before, edge-after}
use Rattle.joint_laws.proofs.FreedLists.{grows-Contains, managed-grows}
use Rattle.joint_laws.proofs.JointRuns.{IsTraced}
use Rattle.joint_laws.proofs.Places.{earlier-at}
use Rattle.joint_laws.proofs.RunStates.{steps_have_moments}
use Rattle.joint_laws.proofs.RunsAreSound.{next-before}
use Rattle.joint_laws.proofs.Unions.{open-still, reached-live, marking-walk}

-- the row is a freed object in the joint state
abbrev IsGone : Joint → Row → Type 0
IsGone j (object x) = Contains j.graph.managed.heap.freed x
IsGone j (peer p) = ⊥

none-same : (x : Option Marking) (y : Option JointMarking) → AreSameMarkings x y → x ≡ None → y ≡ None
none-same None None w e = refl
none-same None (Some j) w e = absurd w
none-same (Some mk) y w e = absurd (let f : None ≡ Some mk = sym e in none_some mk f)

-- one moment
module _ (m : Moment) (tr : IsTraced m) where
  abbrev s : Linkage
  s = tr.state

  abbrev t : Linkage
  t = linkage_after tr.state m.noted

  edge-back : (x y : Row) → JointEdge m.after.graph x y → JointEdge m.before.graph x y ⊎ IsReached m.before y ⊎ IsReached m.after y
  edge-back x y e = elim (edge-before s m.noted tr.may tr.stands.kept tr.next.kept tr.stands.flags.removed tr.next.flags.removed x y (subst (λ (z : Joint). JointEdge z.graph x y) tr.after e)) [
    | inl f ↦ inl (subst (λ (z : Joint). JointEdge z.graph x y) (sym tr.before) f)
    | inr r ↦ elim r [
      | inl f ↦ inr (inl (subst (λ z. IsReached z y) (sym tr.before) f))
      | inr f ↦ inr (inr (subst (λ z. IsReached z y) (sym tr.after) f))
    ]
  ]

  edge-on : (m.after.marking ≡ None → ⊥) → (x y : Row) → JointEdge m.before.graph x y → JointEdge m.after.graph x y ⊎ IsReached m.before y ⊎ IsGone m.after x
  edge-on on x y e =
      let still = open-still s m.noted tr.stands.kept (λ f. on (ap (λ (z : Joint). z.marking) tr.after ∙ none-same t.peer.marking tr.next.marking tr.next.agrees.markings f)) in
      elim (edge-after s m.noted tr.may tr.stands.kept tr.next.kept tr.stands.flags.removed tr.next.flags.removed still x y (subst (λ (z : Joint). JointEdge z.graph x y) tr.before e)) [
        | inl f ↦ inl (subst (λ (z : Joint). JointEdge z.graph x y) (sym tr.after) f)
        | inr r ↦ elim r [
          | inl f ↦ inr (inl (subst (λ z. IsReached z y) (sym tr.before) f))
          | inr f ↦ inr (inr (gone-as x f))
        ]
      ]
    where
      gone-as : (z : Row) → IsFreed (linkage_after tr.state m.noted) z → IsGone m.after z
      gone-as (object z) f = subst (λ (v : Joint). Contains v.graph.managed.heap.freed z) (sym tr.after) f
      gone-as (peer p) f = f

  gone-on : (x : Row) → IsGone m.before x → IsGone m.after x
  gone-on (peer p) f = f
  gone-on (object x) f = subst (λ (z : Joint). Contains z.graph.managed.heap.freed x) (sym tr.after)
      (grows-Contains _ _ x (managed-grows s m.noted tr.may tr.stands.kept) (subst (λ (z : Joint). Contains z.graph.managed.heap.freed x) tr.before f))

  reached-kept : (x : Row) → IsReached m.after x → IsGone m.after x → ⊥
  reached-kept (peer p) r f = f
  reached-kept (object x) r f = reached-live t tr.next.flags.removed (object x) tr.next.kept
      (subst (λ z. IsReached z (object x)) tr.after r) (subst (λ (z : Joint). Contains z.graph.managed.heap.freed x) tr.after f)

module _ (noted : List Noted) (run : List Moment) (may : AllMayCome opening_linkage noted) (r : IsRun (machine_entries noted) run) where
  traced : (i : ℕ) (m : Moment) → slice_get run i ≡ Some m → IsTraced m
  traced i m e = run-traced noted run may r m (Contains-at run i m e)

  joins : (i : ℕ) (p m : Moment) → slice_get run i ≡ Some p → slice_get run (suc i) ≡ Some m → m.before ≡ p.after
  joins i p m e f = next-before run opening i p m r.steps e f

  longer-to : (a b c : ℕ) (x : Row) → b ≤ c → IsReachedInRun run a b x → IsReachedInRun run a c x
  longer-to a b c x l w = record { place = w.place; later = w.later; earlier = (let e = w.earlier in omega (arith, e, l)); moment = w.moment; there = w.there; reached = w.reached }

  one : (a b i : ℕ) (m : Moment) (x : Row) → a ≤ i → i ≤ b → slice_get run i ≡ Some m → IsReached m.after x → IsReachedInRun run a b x
  one a b i m x l k e f = record { place = i; later = l; earlier = k; moment = m; there = e; reached = f }

  -- back from a moment to an earlier one
  back : (i d : ℕ) (p m : Moment) (x y : Row) → slice_get run i ≡ Some p → slice_get run (i + d) ≡ Some m → JointEdge m.after.graph x y → JointEdge p.after.graph x y ⊎ IsReachedInRun run i (i + d) y
  back i zero p m x y e f g =
      let same : i + 0 ≡ i = omega arith in
      inl (subst (λ (z : Moment). JointEdge z.after.graph x y) (same_Some m p (sym f ∙ (ap (λ k. slice_get run k) same ∙ e))) g)
  back i (suc d) p m x y e f g =
      let same : i + suc d ≡ suc (i + d) = omega arith in
      let there : slice_get run (suc (i + d)) ≡ Some m = ap (λ k. slice_get run k) (sym same) ∙ f in
      let q = earlier-at run (i + d) (suc (i + d)) m (omega arith) there in
      let joined = joins (i + d) q.0 m q.1 there in
      elim (edge-back m (traced (suc (i + d)) m there) x y g) [
        | inl h ↦ elim (back i d p q.0 x y e q.1 (subst (λ (z : Joint). JointEdge z.graph x y) joined h)) [
          | inl v ↦ inl v
          | inr v ↦ inr (longer-to i (i + d) (i + suc d) y (omega arith) v)
        ]
        | inr v ↦ elim v [
          | inl h ↦ inr (one i (i + suc d) (i + d) q.0 y (omega arith) (omega arith) q.1 (subst (λ z. IsReached z y) joined h))
          | inr h ↦ inr (one i (i + suc d) (i + suc d) m y (omega arith) (omega arith) f h)
        ]
      ]

  -- on from a moment to a later one
  on_to : (i d : ℕ) (p m : Moment) (x y : Row) → slice_get run i ≡ Some p → slice_get run (i + d) ≡ Some m → IsOpenInRun run i (i + d)
      → JointEdge p.after.graph x y → JointEdge m.after.graph x y ⊎ IsReachedInRun run i (i + d) y ⊎ IsGone m.after x
  on_to i zero p m x y e f on g =
      let same : i + 0 ≡ i = omega arith in
      inl (subst (λ (z : Moment). JointEdge z.after.graph x y) (same_Some p m (sym e ∙ (ap (λ k. slice_get run k) (sym same) ∙ f))) g)
  on_to i (suc d) p m x y e f on g =
      let same : i + suc d ≡ suc (i + d) = omega arith in
      let there : slice_get run (suc (i + d)) ≡ Some m = ap (λ k. slice_get run k) (sym same) ∙ f in
      let q = earlier-at run (i + d) (suc (i + d)) m (omega arith) there in
      let joined = joins (i + d) q.0 m q.1 there in
      let tr = traced (suc (i + d)) m there in
      elim (on_to i d p q.0 x y e q.1 (λ j z l k. on j z l (omega (arith, k))) g) [
        | inl h ↦ elim (edge-on m tr (on (i + suc d) m (omega arith) (omega arith) f) x y (subst (λ (z : Joint). JointEdge z.graph x y) (sym joined) h)) [
          | inl v ↦ inl v
          | inr v ↦ elim v [
            | inl u ↦ inr (inl (one i (i + suc d) (i + d) q.0 y (omega arith) (omega arith) q.1 (subst (λ z. IsReached z y) joined u)))
            | inr u ↦ inr (inr u)
          ]
        ]
        | inr v ↦ elim v [
          | inl u ↦ inr (inl (longer-to i (i + d) (i + suc d) y (omega arith) u))
          | inr u ↦ inr (inr (gone-on m tr x (subst (λ z. IsGone z x) (sym joined) u)))
        ]
      ]

  closed : (a i k : ℕ) (m : Moment) → a ≤ i → i ≤ k → slice_get run i ≡ Some m → IsOpenInRun run i k → (x y : Row) → IsReachedInRun run a k x → JointEdge m.after.graph x y → IsReachedInRun run a k y
  closed a i k m l h there on x y w e = elim (cases_lt w.place i) [
    | inl p ↦ (
        let d = i - w.place in
        let same : w.place + d ≡ i = omega (arith, p) in
        elim (back w.place d w.moment m x y w.there (ap (λ z. slice_get run z) same ∙ there) e) [
          | inl f ↦ one a k w.place w.moment y w.later w.earlier w.there (Reached-then (IsJointRoot w.moment.after.graph) (JointEdge w.moment.after.graph) x y w.reached f)
          | inr v ↦ record {
            place = v.place;
            later = (let q = v.later in let u = w.later in omega arith);
            earlier = (let q = v.earlier in omega (arith, q, same, h));
            moment = v.moment;
            there = v.there;
            reached = v.reached;
          }
        ])
    | inr p ↦ (
        let d = w.place - i in
        let same : i + d ≡ w.place = omega (arith, p) in
        elim (on_to i d m w.moment x y there (ap (λ z. slice_get run z) same ∙ w.there) (λ j z u v. on j z u (let q = w.earlier in omega (arith, v, same, q))) e) [
          | inl f ↦ one a k w.place w.moment y w.later w.earlier w.there (Reached-then (IsJointRoot w.moment.after.graph) (JointEdge w.moment.after.graph) x y w.reached f)
          | inr v ↦ elim v [
            | inl f ↦ record {
              place = f.place;
              later = (let q = f.later in omega (arith, q, l));
              earlier = (let q = f.earlier in let u = w.earlier in omega (arith, q, same, u));
              moment = f.moment;
              there = f.there;
              reached = f.reached;
            }
            | inr f ↦ absurd (reached-kept w.moment (traced w.place w.moment w.there) x w.reached f)
          ]
        ])
  ]

pub run_union_is_closed : RunUnionIsClosed
run_union_is_closed noted run may r a i k m l h there on x y w e = closed noted run may r a i k m l h there on x y w e

pub run_union_follows_marking : RunUnionFollowsMarking
run_union_follows_marking noted run may r i mk b a k l h on p q w e =
    let n = b.event.element in
    let at = steps_have_moments noted run may r i n b.event.there (ap is_joint b.event.is) in
    let walk : Reaches (JointEdge at.moment.after.graph) (peer p) (peer q) = subst (λ (g : Graph). Reaches (JointEdge g) (peer p) (peer q)) (sym at.after) (marking-walk noted may i mk b p q e) in
    Reaches-keeps (JointEdge at.moment.after.graph) (λ z. IsReachedInRun run a k z)
    (λ x y f v. closed noted run may r a (length (machine_entries (take i noted))) k at.moment l h at.there on x y v f) (peer p) (peer q) walk w
