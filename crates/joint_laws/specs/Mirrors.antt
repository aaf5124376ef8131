-- The mirror edges of a graph's components carry exactly the graph's own reach between bridge nodes. (The
-- Xamarin.Android documentation: the references that a collection adds stand for the managed references.)
use Rattle.std.specs.Prelude.{ℕ, List}
use Rattle.joint_machine.specs.Walks.{Reaches}
use Rattle.joint_machine.specs.Components.{IsContraction, mirror_edges}
use Rattle.joint_machine.specs.PeerReplay.{Refers}

-- mirror edges of the components and cross-references lead from one node to the next, directly or through temporaries
abbrev pub MirrorEdge : List (List ℕ) → List (ℕ × ℕ) → ℕ → ℕ → Type 0
MirrorEdge comps xrefs a b = Refers (mirror_edges comps xrefs) a b

-- what mirror edges lead from and to, directly or through temporaries, are bridge nodes, and wherever they lead, a walk
-- leads
abbrev pub MirrorEdgesFollowWalks : (ℕ → Type 0) → (ℕ → ℕ → Type 0) → Type 0
MirrorEdgesFollowWalks bridge edge = (comps : List (List ℕ)) (heavy : List ℕ) (xrefs : List (ℕ × ℕ))
    → IsContraction bridge edge comps heavy xrefs
    → (a b : ℕ) → MirrorEdge comps xrefs a b → bridge a × bridge b × Reaches edge a b

-- wherever a walk leads from a bridge node to a bridge node, a walk over mirror edges leads
abbrev pub WalksFollowMirrorEdges : (ℕ → Type 0) → (ℕ → ℕ → Type 0) → Type 0
WalksFollowMirrorEdges bridge edge = (comps : List (List ℕ)) (heavy : List ℕ) (xrefs : List (ℕ × ℕ))
    → IsContraction bridge edge comps heavy xrefs
    → (a b : ℕ) → bridge a → bridge b → Reaches edge a b → Reaches (MirrorEdge comps xrefs) a b
