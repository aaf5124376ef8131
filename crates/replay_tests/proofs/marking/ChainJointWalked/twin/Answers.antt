-- Each of the three objects holds the handle with its own number, and that handle is on the peer with this number.
use Rattle.std.proofs.Common.{◌≡◌, ℕ, zero, suc, ◌≤◌, ◌↔◌, inl, inr, [], ◌∷◌, Some, refl, sym, ap, subst, ◌∙◌, arith}
use Rattle.std.specs.Prelude.{Contains}
use Rattle.joint_machine.specs.Heaps.{IsLive, numbered_at}
use Rattle.joint_machine.specs.Joint.{IsJoined}
use Rattle.joint_machine.specs.Peers.{peer_of}
use Rattle.joint_machine.proofs.Members.{Contains-nil, Contains-cons_cases}
use Rattle.replay_tests.specs.Chain.{chain, chain_objects}
use Rattle.replay_tests.proofs.marking.ChainJointWalked.twin.Goals as goal

kept : (p : ℕ) → p ≤ 4 → Contains (5 ∷ []) p → ⊥
kept p l c = elim (Contains-cons_cases 5 [] p c) [ inl e ↦ omega (arith, e, l) | inr h ↦ Contains-nil p h ]

-- an object that holds its own number is joined to that peer alone
own : (x : ℕ) → IsLive chain_objects x → x ≤ 3 → numbered_at chain.managed.held x ≡ Some (Some x) → peer_of chain.peers.issued x ≡ Some x → (p : ℕ) → (Some x ≡ Some p) ↔ IsJoined chain x p
own x v l holds leads p = (
  λ e. let same : x ≡ p = cc in subst (IsJoined chain x) same (record {
    handle = x;
    holds = record { live = v; held = holds };
    leads = leads;
    live = record { made = (v.made.0, omega (arith, l)); kept = kept x (omega (arith, l)) };
  }),
  λ j. let same : x ≡ j.handle = cc (sym holds ∙ j.holds.held) in sym leads ∙ (ap (peer_of chain.peers.issued) same ∙ j.leads),
)

twin-of : (x : ℕ) → IsLive chain_objects x → (p : ℕ) → (Some x ≡ Some p) ↔ IsJoined chain x p
twin-of zero v = absurd (omega (arith, v.made.0))
twin-of (suc zero) v = own 1 v (omega arith) refl refl
twin-of (suc (suc zero)) v = own 2 v (omega arith) refl refl
twin-of (suc (suc (suc zero))) v = own 3 v (omega arith) refl refl
twin-of (suc (suc (suc (suc x)))) v = absurd (omega (arith, v.made.1))

pub returns : goal.returns
returns c = twin-of c.args.x.0 c.requires
