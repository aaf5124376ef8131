-- Laws of both sides together, at every state of a lawful list of entries.
use Rattle.std.specs.Prelude.{◌≡◌, ℕ, ◌+◌, ◌≤◌, List, Contains, Some, None, Option, slice_get}
use Rattle.joint_machine.specs.declared.events.Op.TheVariants as op
use Rattle.joint_machine.specs.declared.names.Var.{Var}
use Rattle.joint_machine.specs.declared.names.Kind.{Kind}
use Rattle.joint_machine.specs.declared.names.PNum.{PNum}
use Rattle.joint_machine.specs.declared.names.HNum.{HNum}
use Rattle.joint_machine.specs.Control.{OpenSnap, Stand, idle, snapped, contracted, weakening, marked, restoring}
use Rattle.joint_machine.specs.Control.{restored}
use Rattle.joint_machine.specs.Cycles.{IsAnsweredAlive}
use Rattle.joint_machine.specs.Linked.{Linkage, MayCome, opening_linkage}
use Rattle.joint_machine.specs.Replaying.{AllMayCome}
use Rattle.joint_machine.specs.Managed.{OpenCycle, Holds, ManagedEdge, candidates_of}
use Rattle.joint_machine.specs.ManagedReplay.{registered}
use Rattle.joint_machine.specs.Told.{Noted, sweep_of, Answer}
use Rattle.joint_machine.specs.Walks.{Reaches}
use Rattle.joint_machine.specs.Joint.{JointMarking, peer, IsReached, twin_of}
use Rattle.joint_machine.specs.Peers.{strong, weak}
use Rattle.joint_machine.specs.PeerReplay.{PeerReplay, Marking}
use Rattle.joint_laws.specs.JointAgreement.{AreFlags, Flags, joint_as}
use Rattle.joint_laws.specs.LinkedInvariants.{LinkageInvariant, HasStrength, IsWeakenedBy, IsRestoredBy}
use Rattle.joint_laws.specs.PeerInvariants.{IsSpared}
use Rattle.joint_laws.specs.States.{state_at}

-- what both sides, the threads and the driver keep holds at every state
abbrev pub LinkageInvariantHolds : Type 0
LinkageInvariantHolds = (noted : List Noted) → AllMayCome opening_linkage noted
    → (i : ℕ) → LinkageInvariant (state_at noted i)

-- the handle of the candidate at place l, by the driver's stand: strong up to the mirror; weak once weakened, and
-- strong before; weak while the own marking is open; then strong where the answer was alive, gone where it was cleared,
-- and weak before the answer
abbrev pub IsByPhase : PeerReplay → Stand → ℕ → ℕ → Type 0
IsByPhase s idle l h = ⊥
IsByPhase s (snapped o) l h = HasStrength s h strong
IsByPhase s (contracted o comps heavy xrefs) l h = HasStrength s h strong
IsByPhase s (weakening o count weakened swept) l h = IsWeakenedBy s count l h
IsByPhase s (marked o) l h = HasStrength s h weak
IsByPhase s (restoring o answers) l h = IsRestoredBy s answers l h
IsByPhase s (restored o answers clear) l h = IsRestoredBy s answers l h

-- each handle that a row holds is in the table and strong unless its row is a candidate, and a candidate's is by phase
pub record AreByPhase (s : Linkage) : Type 0 where
  pub others : (m h : ℕ) → Holds s.managed.managed m h
      → (Contains (candidates_of s.managed.managed) m → ⊥) → HasStrength s.peer h strong
  pub candidates : (l m h : ℕ) → slice_get (candidates_of s.managed.managed) l ≡ Some m
      → Holds s.managed.managed m h → IsByPhase s.peer s.control.stand l h

-- so it is at every state
abbrev pub HeldByPhase : Type 0
HeldByPhase = (noted : List Noted) → AllMayCome opening_linkage noted → (i : ℕ) → AreByPhase (state_at noted i)

-- once all handles are restored, no candidate that was answered alive leads to one that wasn't
abbrev pub AliveLeadToAlive : Type 0
AliveLeadToAlive = (noted : List Noted) → AllMayCome opening_linkage noted
    → (i : ℕ) (o : OpenSnap) (answers : List Answer) (clear : ℕ) (c : OpenCycle)
    → (state_at noted i).control.stand ≡ restored o answers clear → (state_at noted i).managed.managed.cycle ≡ Some c
    → (a b : ℕ) → IsAnsweredAlive c.candidates answers a → Contains c.candidates b
    → Reaches (ManagedEdge (state_at noted i).managed.managed) a b → IsAnsweredAlive c.candidates answers b

-- the peer of an `adopt` has no twin yet
abbrev pub AdoptedPeerHasNoTwin : Type 0
AdoptedPeerHasNoTwin = (noted : List Noted) → AllMayCome opening_linkage noted
    → (i : ℕ) (n : Noted) (v : Var) (kind : Kind) (fields : ℕ) (p : PNum) (h : HNum)
    → MayCome (state_at noted i) n → n.entry.made.op ≡ op.Adopt v kind fields p h
    → registered (state_at noted i).managed.registry p.0 ≡ None

-- at every state at which a marking is open, it spares each peer that the joint graph reaches
abbrev pub ReachedIsSpared : Type 0
ReachedIsSpared = (noted : List Noted) → AllMayCome opening_linkage noted
    → (i : ℕ) (flags : Flags) (jm : Option JointMarking) (mk : Marking)
    → AreFlags (state_at noted i).peer flags → (state_at noted i).peer.marking ≡ Some mk
    → (p : ℕ) → IsReached (joint_as (state_at noted i).managed.managed (state_at noted i).peer flags jm) (peer p)
    → IsSpared mk p

-- a marking is open at the state at place i and at each of so many after it; no begin opens one meanwhile, so it is one
-- marking
abbrev pub IsOpenUntil : List Noted → ℕ → ℕ → Type 0
IsOpenUntil noted i more = (k : ℕ) → k ≤ more → (state_at noted (i + k)).peer.marking ≡ None → ⊥

-- no peer that the joint graph reaches while a marking is open is freed by the sweep that ends that marking
abbrev pub ReachedIsNotSwept : Type 0
ReachedIsNotSwept = (noted : List Noted) → AllMayCome opening_linkage noted
    → (i more : ℕ) (flags : Flags) (jm : Option JointMarking)
    → AreFlags (state_at noted i).peer flags → IsOpenUntil noted i more
    → (p : ℕ) → IsReached (joint_as (state_at noted i).managed.managed (state_at noted i).peer flags jm) (peer p)
    → (n : Noted) (freed : List ℕ) → MayCome (state_at noted (i + more)) n
    → n.entry.made.op ≡ op.Sweep → n.told ≡ sweep_of freed → Contains freed p → ⊥

-- the joint twin of a peer is what the registry answers, at every state, whatever the flags
abbrev pub TwinIsRegistered : Type 0
TwinIsRegistered = (noted : List Noted) → AllMayCome opening_linkage noted
    → (i : ℕ) (flags : Flags) (jm : Option JointMarking)
    → (p : ℕ) → twin_of (joint_as (state_at noted i).managed.managed (state_at noted i).peer flags jm) p ≡ registered
    (state_at noted i).managed.registry p
