-- Inside a dead part that is cut off a walk over managed fields from one of its rows to another stays inside: what
-- leads out of it never leads back. So it is a walk of the dead part's own graph, and mirror edges follow it.
use Rattle.std.proofs.Common.{ℕ, ◌⊎◌, inl, inr, List}
use Rattle.std.specs.Prelude.{Contains}
use Rattle.joint_machine.specs.Walks.{Reaches}
use Rattle.joint_machine.specs.Cycles.{DeadEdge, IsDeadContraction}
use Rattle.joint_machine.specs.Managed.{Managed, OpenCycle, IsBridge, ManagedEdge}
use Rattle.joint_machine.proofs.WalkLemmas.{Reaches-keeps, Reaches-self, Reaches-then, Reaches-mono, Reaches-trans}
use Rattle.joint_laws.specs.ManagedInvariants.{IsCutOff}
use Rattle.joint_laws.specs.ManagedLaws.{DeadPartIsMirrored}
use Rattle.joint_laws.specs.Mirrors.{MirrorEdge}
use Rattle.joint_machine.proofs.Members.{Contains-decided}
use Rattle.joint_laws.proofs.Mirrors.{mirror_edge-walk, walk-mirror_edges}

module _ (s : Managed) (c : OpenCycle) (cut : IsCutOff s c) where
  abbrev Dead : ℕ → ℕ → Type 0
  Dead = DeadEdge s c.dead

  -- the walk has left the dead part, or is one of the dead part's graph
  inside_step : (a x y : ℕ) → ManagedEdge s x y → ((Contains c.dead x → ⊥) ⊎ Reaches Dead a x) → ((Contains c.dead y → ⊥) ⊎ Reaches Dead a y)
  inside_step a x y e q = elim (Contains-decided c.dead y) [
    | inr out ↦ inl out
    | inl dy ↦ elim (Contains-decided c.dead x) [
      | inr out ↦ absurd (cut.unheld x y e.live out e.field dy)
      | inl dx ↦ elim q [
        | inl out ↦ absurd (out dx)
        | inr r ↦ inr (Reaches-then Dead a x y r (e, dx, dy))
      ]
    ]
  ]

  pub dead-walk : (a b : ℕ) → Contains c.dead b → Reaches (ManagedEdge s) a b → Reaches Dead a b
  dead-walk a b d r = elim (Reaches-keeps (ManagedEdge s) (λ x. (Contains c.dead x → ⊥) ⊎ Reaches Dead a x) (inside_step a) a b r (inr (Reaches-self Dead a))) [
    | inl out ↦ absurd (out d)
    | inr w ↦ w
  ]

  pub managed-walk : (a b : ℕ) → Reaches Dead a b → Reaches (ManagedEdge s) a b
  managed-walk a b r = Reaches-mono Dead (ManagedEdge s) (λ x y e. e.0) a b r

  module _ (comps : List (List ℕ)) (heavy : List ℕ) (xrefs : List (ℕ × ℕ)) (k : IsDeadContraction s c.dead comps heavy xrefs) where
    abbrev bridge : ℕ → Type 0
    bridge m = Contains c.dead m × IsBridge s m

    -- a walk between candidates is a walk over mirror edges, and a mirror edge is a walk
    pub candidates-mirrored : (a b : ℕ) → Contains c.candidates a → Contains c.candidates b → Reaches (ManagedEdge s) a b → Reaches (MirrorEdge comps xrefs) a b
    candidates-mirrored a b ca cb r =
        let db : bridge b = (cut.candidates b).0 cb in
        walk-mirror_edges bridge Dead comps heavy xrefs k a b ((cut.candidates a).0 ca) db (dead-walk a b db.0 r)

    pub mirror_edge-managed : (a b : ℕ) → MirrorEdge comps xrefs a b → Reaches (ManagedEdge s) a b
    mirror_edge-managed a b e = managed-walk a b (mirror_edge-walk bridge Dead comps heavy xrefs k a b e)

    pub mirror-managed : (a b : ℕ) → Reaches (MirrorEdge comps xrefs) a b → Reaches (ManagedEdge s) a b
    mirror-managed a b r = Reaches-keeps (MirrorEdge comps xrefs) (λ x. Reaches (ManagedEdge s) a x)
        (λ x y e q. Reaches-trans (ManagedEdge s) a x y q (mirror_edge-managed x y e)) a b r (Reaches-self (ManagedEdge s) a)

pub dead_part_is_mirrored : DeadPartIsMirrored
dead_part_is_mirrored s c comps heavy xrefs kept o k a b ca cb =
    (candidates-mirrored s c (kept.dead c o) comps heavy xrefs k a b ca cb, mirror-managed s c (kept.dead c o) comps heavy xrefs k a b)
