-- How a caller that looks at both heaps tells the twin of a live object: it asks which handle the object holds, on
-- which peer that handle was issued, and whether this peer is live. An object holds one handle at most, and a
-- handle is on one peer, so there is no other twin.
use Rattle.std.proofs.Common.{◌≡◌, ℕ, ◌↔◌, Some, None, sym, ap, subst, ◌∙◌}
use Rattle.joint_machine.specs.Heaps.{IsLive}
use Rattle.joint_machine.specs.Joint.{Graph, IsJoined}
use Rattle.joint_machine.specs.Managed.{handle_of}
use Rattle.joint_machine.specs.Peers.{peer_of}
use Rattle.joint_machine.proofs.Deciding.{none_some}
use Rattle.joint_machine.proofs.HeapLemmas.{Holds-handle_of}

-- an object's twin is on the handle that it holds
joined-leads : (g : Graph) (x h p q : ℕ) → handle_of g.managed x ≡ Some h → peer_of g.peers.issued h ≡ Some p → IsJoined g x q → p ≡ q
joined-leads g x h p q e l j =
    let same : h ≡ j.handle = cc (sym e ∙ Holds-handle_of g.managed x j.handle j.holds) in
    cc (sym l ∙ (ap (peer_of g.peers.issued) same ∙ j.leads))

-- that peer was freed: there is no twin
pub twin-freed : (g : Graph) (x h p : ℕ) → handle_of g.managed x ≡ Some h → peer_of g.peers.issued h ≡ Some p → (IsLive g.peers.heap p → ⊥) → (q : ℕ) → (None ≡ Some q) ↔ IsJoined g x q
twin-freed g x h p e l dead q = (
  λ s. absurd (none_some q s),
  λ j. absurd (dead (subst (IsLive g.peers.heap) (sym (joined-leads g x h p q e l j)) j.live)),
)

-- the object holds no handle: there is no twin
pub twin-none : (g : Graph) (x : ℕ) → handle_of g.managed x ≡ None → (q : ℕ) → (None ≡ Some q) ↔ IsJoined g x q
twin-none g x e q = (
  λ s. absurd (none_some q s),
  λ j. absurd (none_some j.handle (sym e ∙ Holds-handle_of g.managed x j.handle j.holds)),
)
