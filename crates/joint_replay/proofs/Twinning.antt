-- The search for a peer's twin, one object on, and at the end of all objects.
use Rattle.std.proofs.Common.{◌≡◌, ℕ, ◌+◌, ◌-◌, ◌≤◌, ◌<◌, ◌↔◌, true, false, Option, List, None, Some, drop, length, sym, ap, subst, ◌∙◌, arith, if◌then◌else◌}
use Rattle.std.proofs.lemmas.List.{at_drop_more, drop_all}
use Rattle.joint_machine.specs.Heaps.{IsLive, IsMade}
use Rattle.joint_machine.specs.Joint.{Graph, IsJoined, Joint, is_twin, twin_from}
use Rattle.joint_machine.specs.Managed.{handle_of}
use Rattle.joint_machine.specs.Peers.{peer_of}
use Rattle.joint_machine.proofs.Deciding.{none_some, some-same}
use Rattle.joint_machine.proofs.HeapLemmas.{Holds-handle_of}
use Rattle.joint_replay.proofs.Snapping.{holds-made}

pub twin-next : (j : Joint) (p m : ℕ) (hs : List (Option ℕ)) → 1 ≤ m → m ≤ length hs
    → twin_from j p m (drop (m - 1) hs) ≡ (if is_twin j p m then Some m else twin_from j p (m + 1) (drop (m + 1 - 1) hs))
twin-next j p m hs low high =
    let at : m - 1 + 1 ≡ m + 1 - 1 = omega (arith, low) in
    at_drop_more (twin_from j p m) hs (m - 1) None (omega (arith, low, high)) ∙ ap (λ i. if is_twin j p m then Some m else twin_from j p (m + 1) (drop i hs)) at

-- this object is the twin, or isn't
pub twin-found : (j : Joint) (p m : ℕ) (hs : List (Option ℕ)) → 1 ≤ m → m ≤ length hs → is_twin j p m ≡ true → twin_from j p m (drop (m - 1) hs) ≡ Some m
twin-found j p m hs low high e = twin-next j p m hs low high ∙ ap (λ b. if b then Some m else twin_from j p (m + 1) (drop (m + 1 - 1) hs)) e

pub twin-skip : (j : Joint) (p m : ℕ) (hs : List (Option ℕ)) → 1 ≤ m → m ≤ length hs → is_twin j p m ≡ false → twin_from j p m (drop (m - 1) hs) ≡ twin_from j p (m + 1) (drop (m + 1 - 1) hs)
twin-skip j p m hs low high e = twin-next j p m hs low high ∙ ap (λ b. if b then Some m else twin_from j p (m + 1) (drop (m + 1 - 1) hs)) e

-- none of them is
pub twin-none : (j : Joint) (p m : ℕ) (hs : List (Option ℕ)) → length hs < m → twin_from j p m (drop (m - 1) hs) ≡ None
twin-none j p m hs past = ap (twin_from j p m) (drop_all (m - 1) hs (omega (arith, past)))

-- where an object's twin stands
joined-peer : (g : Graph) (x h q : ℕ) → handle_of g.managed x ≡ Some h → IsJoined g x q → peer_of g.peers.issued h ≡ Some q
joined-peer g x h q e j =
    let same : h ≡ j.handle = some-same h j.handle (sym e ∙ Holds-handle_of g.managed x j.handle j.holds) in
    ap (peer_of g.peers.issued) same ∙ j.leads

-- the peer of the handle is the twin where it is live
pub twin-live : (g : Graph) (x h p : ℕ) → IsMade g.managed.heap x → handle_of g.managed x ≡ Some h
    → peer_of g.peers.issued h ≡ Some p → IsLive g.peers.heap p → (q : ℕ) → (Some p ≡ Some q) ↔ IsJoined g x q
twin-live g x h p made e l live q = (
  λ s. subst (IsJoined g x) (some-same p q s) (record { handle = h; holds = holds-made g.managed x h made e; leads = l; live = live }),
  λ j. sym l ∙ joined-peer g x h q e j,
)

-- no such handle was issued
pub twin-unissued : (g : Graph) (x h : ℕ) → handle_of g.managed x ≡ Some h → peer_of g.peers.issued h ≡ None → (q : ℕ) → (None ≡ Some q) ↔ IsJoined g x q
twin-unissued g x h e l q = (λ s. absurd (none_some q s), λ j. absurd (none_some q (sym l ∙ joined-peer g x h q e j)))
