-- Just after a snapshot, where only the state after it has been seen: what was reached then leads to what was reached
-- then; and each bridge row that isn't a candidate was reached from a managed slot just before it, over rows that the
-- snapshot doesn't free, so it is reached after it.
use Rattle.std.proofs.Common.{◌≡◌, ℕ, inl, inr, List, [], ◌∷◌, ◌++◌, length, sym, subst, arith, length-append}
use Rattle.std.specs.Prelude.{Contains}
use Rattle.std.proofs.lemmas.Option.{slice_get_within}
use Rattle.joint_machine.specs.Cycles.{IsSnapshot}
use Rattle.joint_machine.specs.Heaps.{IsLive}
use Rattle.joint_machine.specs.Joint.{Joint, Row, object, JointEdge, IsJointRoot, IsReached}
use Rattle.joint_machine.specs.Managed.{Managed, Holds, IsManagedRoot, ManagedEdge, IsManagedReached, with_snapshot}
use Rattle.joint_machine.specs.Run.{Moment}
use Rattle.joint_machine.proofs.WalkLemmas.{Reached-keeps, Reached-start, Reached-then}
use Rattle.joint_machine.proofs.HeapLemmas.{IsLive-before, IsLive-left}
use Rattle.joint_laws.proofs.Watching.{IsSeen, WasSeen, IsWatched, push-cases, seen-now, last-now}

-- what managed slots reach is reached
pub managed-joint : (j : Joint) (x : ℕ) → IsManagedReached j.graph.managed x → IsReached j (object x)
managed-joint j x r =
    Reached-keeps (IsManagedRoot j.graph.managed) (ManagedEdge j.graph.managed) (λ z. IsReached j (object z)) (λ z q. Reached-start (IsJointRoot j.graph) (JointEdge j.graph) (object z) q)
    (λ z y e q. Reached-then (IsJointRoot j.graph) (JointEdge j.graph) (object z) (object y) q e) x r

module _ (s : Managed) (number : ℕ) (freed candidates dead : List ℕ) (p : IsSnapshot s number freed candidates dead) where
  abbrev t : Managed
  t = with_snapshot s freed candidates dead

  stays-live : (x : ℕ) → IsLive s.heap x → IsManagedReached s x → IsLive t.heap x
  stays-live x l r = IsLive-left s.heap freed x l (λ c. ((p.frees x).0 c).1 r)

  -- reached before, so reached after
  pub reached-after : (x : ℕ) → IsManagedReached s x → IsManagedReached t x
  reached-after x r = (Reached-keeps (IsManagedRoot s) (ManagedEdge s) (λ z. IsManagedReached s z × IsManagedReached t z) first step x r).1
    where
      first : (z : ℕ) → IsManagedRoot s z → IsManagedReached s z × IsManagedReached t z
      first z q = (Reached-start (IsManagedRoot s) (ManagedEdge s) z q, Reached-start (IsManagedRoot t) (ManagedEdge t) z q)

      step : (z y : ℕ) → ManagedEdge s z y → IsManagedReached s z × IsManagedReached t z → IsManagedReached s y × IsManagedReached t y
      step z y e q =
          let there = Reached-then (IsManagedRoot s) (ManagedEdge s) z y q.0 e in
          (there, Reached-then (IsManagedRoot t) (ManagedEdge t) z y q.1 (record { live = stays-live z e.live q.0; field = e.field; there = stays-live y e.there there }))

  module _ (j : Joint) (is : j.graph.managed ≡ t) (past : List Moment) (m : Moment) (after : m.after ≡ j) where
    abbrev longer : List Moment
    longer = past ++ m ∷ []

    -- what was seen from the snapshot on is reached after it
    seen-there : (x : Row) → IsSeen longer (length past) x → IsReached j x
    seen-there x w = elim (push-cases past m w.place w.moment w.there) [
      | inl e ↦ absurd (let l = slice_get_within past w.place w.moment e in let f = w.from in omega arith)
      | inr e ↦ subst (λ z. IsReached z x) after (subst (λ (z : Moment). IsReached z.after x) (sym e.1) w.reached)
    ]

    see-now : (x : Row) → IsReached j x → IsSeen longer (length past) x
    see-now x r = seen-now past m (length past) x (omega arith) (subst (λ z. IsReached z x) (sym after) r)

    snap-closed : (x y : Row) → WasSeen longer (length past) x → JointEdge j.graph x y → WasSeen longer (length past) y
    snap-closed x y w e unseen = w (λ q. unseen (see-now y (Reached-then (IsJointRoot j.graph) (JointEdge j.graph) x y (seen-there x q) e)))

    held-before : (x h : ℕ) → Holds t x h → Holds s x h
    held-before x h q = record { live = IsLive-before s.heap freed x q.live; held = q.held }

    snap-bridges : (x h : ℕ) → Holds j.graph.managed x h → (Contains candidates x → ⊥) → WasSeen longer (length past) (object x)
    snap-bridges x h q out unseen =
        out ((p.picks x).1 (
          (h, held-before x h (subst (λ z. Holds z x h) is q)),
          λ r. unseen (see-now (object x) (managed-joint j x (subst (λ z. IsManagedReached z x) (sym is) (reached-after x r)))),
        ))

    pub watched-snapshot : IsWatched longer (length past) candidates j
    watched-snapshot = record {
      last = last-now past m j after;
      started = (let e = length-append past (m ∷ []) in omega arith);
      closed = snap-closed;
      bridges = snap-bridges;
    }
