-- Laws of the joint state at every state of a lawful list of entries. What a marking spares it goes on sparing while it
-- is open, entry by entry; so its sweep, which frees nothing that it spares, frees nothing that was reached meanwhile.
use Rattle.std.proofs.Common.{◌≡◌, ℕ, zero, suc, ◌+◌, List, [], ◌∷◌, take, drop, Option, Some, None, refl, sym, subst, arith}
use Rattle.std.specs.Prelude.{Contains}
use Rattle.joint_machine.specs.declared.names.Thread.{Thread}
use Rattle.joint_machine.specs.declared.events.Op.{Op}
use Rattle.joint_machine.specs.declared.events.Op.TheVariants as op
use Rattle.joint_machine.specs.declared.events.Reply.{Reply}
use Rattle.joint_machine.specs.Linked.{Linkage, opening_linkage, SideLawful}
use Rattle.joint_machine.specs.Replaying.{AllMayCome, replayed}
use Rattle.joint_machine.specs.Lines.{is_peer_event}
use Rattle.joint_machine.specs.PeerReplay.{Marking, SweepAllows}
use Rattle.joint_machine.specs.Told.{Told, Noted, sweep_of}
use Rattle.joint_laws.specs.LinkedLaws.{ReachedIsSpared, ReachedIsNotSwept, IsOpenUntil, TwinIsRegistered}
use Rattle.joint_laws.specs.PeerInvariants.{IsSpared}
use Rattle.joint_laws.specs.States.{state_at}
use Rattle.joint_laws.proofs.Everywhere.{replayed-further}
use Rattle.joint_laws.proofs.JointSince.{peer-entry}
use Rattle.joint_laws.proofs.JointTargets.{twin-same}
use Rattle.joint_laws.proofs.LinkedEntries.{Of}
use Rattle.joint_laws.proofs.LinkedStates.{all_kept}
use Rattle.joint_laws.proofs.PeerSince.{StillSpares, spares-same}
use Rattle.joint_laws.proofs.SparedWalks.{reached-spared}
use Rattle.joint_laws.proofs.Sparing.{spared-stays}

pub reached_is_spared : ReachedIsSpared
reached_is_spared noted may i flags jm mk f e p w =
    let s = state_at noted i in
    reached-spared s.managed s.peer s.control.doing s.control.stand (all_kept noted may i) mk e flags jm f p w

-- after one entry, where there is one more
next-spares : (ns : List Noted) (s : Linkage) → Of s → StillSpares s.peer.marking (replayed s (take 1 ns)).peer.marking
next-spares [] s k = spares-same s.peer.marking
next-spares (n ∷ ns) s k = (peer-entry s n k).spares

-- what a sweep asks for
swept-allows : (s : Linkage) (t : Thread) (line : ℕ) (o : Op) (reply : Reply) (cites : Option ℕ) (told : Told) (freed : List ℕ) → o ≡ op.Sweep → told ≡ sweep_of freed
    → SideLawful (is_peer_event t o) s (record { caller = t; index = line; op = o; reply = reply; cites = cites }) told → SweepAllows s.peer s.peer.marking t (sweep_of freed)
swept-allows s t line o reply cites told freed e f w =
    subst (λ z. SweepAllows s.peer s.peer.marking t z) f
    (subst (λ z. SideLawful (is_peer_event t z) s (record { caller = t; index = line; op = z; reply = reply; cites = cites }) told) e w).allowed

module _ (noted : List Noted) (may : AllMayCome opening_linkage noted) (i p : ℕ) where
  step-spares : (k : ℕ) → StillSpares (state_at noted (i + k)).peer.marking (state_at noted (i + suc k)).peer.marking
  step-spares k =
      let e : i + k + 1 ≡ i + suc k = omega arith in
      subst (λ z. StillSpares (state_at noted (i + k)).peer.marking (state_at noted z).peer.marking) e
      (subst (λ (z : Linkage). StillSpares (state_at noted (i + k)).peer.marking z.peer.marking)
      (sym (replayed-further noted opening_linkage (i + k) 1)) (next-spares (drop (i + k) noted) (state_at noted (i + k)) (all_kept noted may (i + k))))

  -- what is spared stays so while the marking is open
  spared-until : ((mk : Marking) → (state_at noted i).peer.marking ≡ Some mk → IsSpared mk p) → (more : ℕ)
      → IsOpenUntil noted i more → (now : Marking) → (state_at noted (i + more)).peer.marking ≡ Some now → IsSpared now p
  spared-until first zero on now e =
      let q : i + 0 ≡ i = omega arith in
      first now (subst (λ z. (state_at noted z).peer.marking ≡ Some now) q e)
  spared-until first (suc k) on now e = by (state_at noted (i + k)).peer.marking refl (spared-until first k (λ x l. on x (omega (arith, l))))
    where
      by : (x : Option Marking) → (state_at noted (i + k)).peer.marking ≡ x → ((mk : Marking) → (state_at noted (i + k)).peer.marking ≡ Some mk → IsSpared mk p) → IsSpared now p
      by None f rest = absurd (on k (omega arith) f)
      by (Some mk) f rest = step-spares k mk now f e p (rest mk f)

  unswept : (more : ℕ) (t : Thread) (freed : List ℕ) → IsOpenUntil noted i more → ((mk : Marking) → (state_at noted i).peer.marking ≡ Some mk → IsSpared mk p)
      → SweepAllows (state_at noted (i + more)).peer (state_at noted (i + more)).peer.marking t (sweep_of freed) → Contains freed p → ⊥
  unswept more t freed on first allows c = by (state_at noted (i + more)).peer.marking refl allows
    where
      by : (x : Option Marking) → (state_at noted (i + more)).peer.marking ≡ x → SweepAllows (state_at noted (i + more)).peer x t (sweep_of freed) → ⊥
      by None f w = on more (omega arith) f
      by (Some now) f w = spared-stays (state_at noted (i + more)).peer now freed p w.1 (spared-until first more on now f) c

pub reached_is_not_swept : ReachedIsNotSwept
reached_is_not_swept noted may i more flags jm f on p w n freed comes e told c =
    unswept noted may i p more n.entry.made.caller freed on (λ mk q. reached_is_spared noted may i flags jm mk f q p w)
    (swept-allows (state_at noted (i + more)) n.entry.made.caller n.entry.made.index n.entry.made.op n.entry.made.reply n.entry.made.cites n.told freed e told comes.lawful) c

pub twin_is_registered : TwinIsRegistered
twin_is_registered noted may i flags jm p =
    let s = state_at noted i in
    twin-same s.managed s.peer s.control.doing s.control.stand (all_kept noted may i) flags jm p
