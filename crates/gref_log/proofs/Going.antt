-- A handle that a release takes away is in its thread's hand, so strong; one that is restored waits, so it is weak.
use Rattle.std.proofs.Common.{◌≡◌, ℕ, inl, inr, List, length, Option, Some, sym, subst, arith}
use Rattle.std.proofs.lemmas.Option.{slice_get_within}
use Rattle.std.specs.Prelude.{slice_get}
use Rattle.joint_machine.specs.declared.names.HNum.{HNum}
use Rattle.joint_machine.specs.declared.events.Op.TheVariants as op
use Rattle.joint_machine.specs.declared.events.Reply.{Reply}
use Rattle.joint_machine.specs.Control.{Stand, idle, snapped, contracted, weakening, marked, restoring, restored, DriverAllows}
use Rattle.joint_machine.specs.Linked.{Linkage}
use Rattle.joint_machine.specs.Peers.{strong, weak}
use Rattle.joint_machine.specs.Told.{Told, Answer}
use Rattle.joint_machine.proofs.HeapLemmas.{candidates_of-open}
use Rattle.joint_laws.specs.LinkedInvariants.{HasStrength, LinkageInvariant, DriverInvariant, HasInHand, doing_in, given_at}
use Rattle.joint_laws.proofs.DriverPeerSteps.{holds-handle_of}
use Rattle.joint_laws.proofs.Hands.{shift, put-doing}

-- no answer stands behind all
beyond : (answers : List Answer) (a : Answer) → slice_get answers (length answers) ≡ Some a → ⊥
beyond answers a e = let w = slice_get_within answers (length answers) a e in omega (arith, w)

module _ (s : Linkage) (k : LinkageInvariant s) where
  -- what a thread has in hand is strong
  pub in-hand : (t h : ℕ) → HasInHand (doing_in s.control.doing t) h → HasStrength s.peer h strong
  in-hand t h w = (k.callers.loose (shift (given_at s.control.stand) t) h (subst (λ z. HasInHand z h) (sym (put-doing (given_at s.control.stand) s.control.doing t)) w)).strong_one

  -- the candidate whose restore comes next waits
  pub waiting : (d : Stand) (h : HNum) (reply : Reply) (cites : Option ℕ) (told : Told) → DriverInvariant s.managed s.peer d
      → DriverAllows d s.managed.managed s.peer.peers.issued (op.Restore h) reply cites told → HasStrength s.peer h.0 weak
  waiting (restoring o answers) h reply cites told v w = elim (v.handles (length answers) w.1.0 h.0 at (holds-handle_of s.managed.managed w.1.0 h.0 k.managed.managed.places w.1.2)) [
    | inl a ↦ absurd (beyond answers _ a.1)
    | inr b ↦ elim b [
      | inl a ↦ absurd (beyond answers _ a.0)
      | inr a ↦ a.1
    ]
  ]
    where
      at : slice_get v.cycle.candidates (length answers) ≡ Some w.1.0
      at = subst (λ z. slice_get z (length answers) ≡ Some w.1.0) (candidates_of-open s.managed.managed v.cycle v.opened.cycle) w.1.1
  waiting idle h reply cites told v w = absurd w
  waiting (snapped o) h reply cites told v w = absurd w
  waiting (contracted o comps heavy xrefs) h reply cites told v w = absurd w
  waiting (weakening o count seen sw) h reply cites told v w = absurd w
  waiting (marked o) h reply cites told v w = absurd w
  waiting (restored o answers clear) h reply cites told v w = absurd w
