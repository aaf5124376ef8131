-- The laws at every state. Once all is restored, a candidate that was answered alive has an unfreed peer, so each that
-- it leads to has, so that one's answer wasn't cleared. And an `adopt` comes only from a thread that has just made its
-- pair.
use Rattle.std.proofs.Common.{◌≡◌, ℕ, inl, inr, List, Option, Some, None, refl, sym, subst}
use Rattle.std.specs.Prelude.{Contains}
use Rattle.joint_machine.specs.declared.names.Thread.{Thread}
use Rattle.joint_machine.specs.declared.names.Thread.TheVariants.{M, P, C}
use Rattle.joint_machine.specs.declared.names.Var.{Var}
use Rattle.joint_machine.specs.declared.names.Kind.{Kind}
use Rattle.joint_machine.specs.declared.names.PNum.{PNum}
use Rattle.joint_machine.specs.declared.names.HNum.{HNum}
use Rattle.joint_machine.specs.declared.events.Op.{Op}
use Rattle.joint_machine.specs.declared.events.Op.TheVariants as op
use Rattle.joint_machine.specs.declared.events.Reply.{Reply}
use Rattle.joint_machine.specs.Control.{Doing, OpenSnap, restored, CallerAllows}
use Rattle.joint_machine.specs.Cycles.{IsAnsweredAlive}
use Rattle.joint_machine.specs.Lines.{IsEvent}
use Rattle.joint_machine.specs.Linked.{Linkage, opening_linkage}
use Rattle.joint_machine.specs.Replaying.{AllMayCome}
use Rattle.joint_machine.specs.Managed.{OpenCycle, ManagedEdge, IsBridge}
use Rattle.joint_machine.specs.ManagedReplay.{ManagedReplay, registered}
use Rattle.joint_machine.specs.PeerReplay.{PeerReplay}
use Rattle.joint_machine.specs.Told.{Told, Noted, Answer}
use Rattle.joint_machine.specs.Walks.{Reaches}
use Rattle.joint_laws.specs.LinkedInvariants.{IsRestored, doing_in}
use Rattle.joint_laws.specs.LinkedLaws.{LinkageInvariantHolds, AliveLeadToAlive, AdoptedPeerHasNoTwin}
use Rattle.joint_laws.specs.States.{state_at}
use Rattle.joint_machine.proofs.Members.{Contains-at, at-Contains}
use Rattle.joint_laws.proofs.Registered.{registered-some}
use Rattle.joint_laws.proofs.DriverSteps.{row_of, alive-live, cleared-freed, answered}
use Rattle.joint_laws.proofs.LinkedQuiet.{BothInvariants, threads-callers}
use Rattle.joint_laws.proofs.LinkedThreads.{adopt-hand}
use Rattle.joint_laws.proofs.LinkedDriver.{one_cycle}
use Rattle.joint_laws.proofs.LinkedEntries.{BothInvariants-entry, BothInvariants-opening}
use Rattle.joint_laws.proofs.Everywhere.{everywhere}

pub all_kept : (noted : List Noted) → AllMayCome opening_linkage noted → (i : ℕ)
    → BothInvariants (state_at noted i).managed (state_at noted i).peer (state_at noted i).control.doing (state_at noted i).control.stand
all_kept noted a i = everywhere (λ s. BothInvariants s.managed s.peer s.control.doing s.control.stand) BothInvariants-opening BothInvariants-entry noted a i

pub linkage_invariant_holds : LinkageInvariantHolds
linkage_invariant_holds noted a i = let k = all_kept noted a i in record { managed = k.managed; peer = k.peer; owners = k.owners; callers = k.callers; driver = k.driver }

alive-to_alive : (r : ManagedReplay) (s : PeerReplay) (ds : List Doing) (o : OpenSnap) (answers : List Answer) (clear : ℕ) (c : OpenCycle)
    → BothInvariants r s ds (restored o answers clear) → r.managed.cycle ≡ Some c
    → (a b : ℕ) → IsAnsweredAlive c.candidates answers a → Contains c.candidates b → Reaches (ManagedEdge r.managed) a b → IsAnsweredAlive c.candidates answers b
alive-to_alive r s ds o answers clear c k e a b alive cb walk =
    subst (λ (z : OpenCycle). IsAnsweredAlive z.candidates answers b) same
    (go (subst (λ (z : OpenCycle). IsAnsweredAlive z.candidates answers a) (sym same) alive) (subst (λ (z : OpenCycle). Contains z.candidates b) (sym same) cb))
  where
    v : IsRestored r s o answers
    v = k.driver

    same : v.cycle ≡ c
    same = one_cycle r.managed v.cycle c v.opened.cycle e

    go : IsAnsweredAlive v.cycle.candidates answers a → Contains v.cycle.candidates b → IsAnsweredAlive v.cycle.candidates answers b
    go t cb' =
        let cut = k.managed.managed.dead v.cycle v.opened.cycle in
        let ca : Contains v.cycle.candidates a = Contains-at v.cycle.candidates t.0 a t.1 in
        let ba : IsBridge r.managed a = ((cut.candidates a).0 ca).1 in
        let bb : IsBridge r.managed b = ((cut.candidates b).0 cb').1 in
        let ra = row_of r s o answers k.managed k.peer k.owners v a ba.0 ba.1 in
        let rb = row_of r s o answers k.managed k.peer k.owners v b bb.0 bb.1 in
        let la = alive-live r s o answers k.managed k.peer k.owners v t.0 a ra.0 t.2.0 t.1 t.2.1 ra.1 in
        let lb = v.closed a b ra.0 rb.0 ca cb' walk ra.1 rb.1 la in
        let at = at-Contains v.cycle.candidates b cb' in
        elim (answered r s o answers k.managed k.peer k.owners v at.0 b at.1) [
          | inl alive_b ↦ (at.0, at.1, alive_b)
          | inr cleared ↦ absurd (lb.kept (cleared-freed r s o answers k.managed k.peer k.owners v at.0 b rb.0 at.1 cleared rb.1))
        ]

pub alive_lead_to_alive : AliveLeadToAlive
alive_lead_to_alive noted may i o answers clear c e f a b alive cb walk =
    let s = state_at noted i in
    let k = all_kept noted may i in
    let at : BothInvariants s.managed s.peer s.control.doing (restored o answers clear) = subst (λ z. BothInvariants s.managed s.peer s.control.doing z) e k in
    alive-to_alive s.managed s.peer s.control.doing o answers clear c at f a b alive cb walk

-- an `adopt` is of a managed thread that has made the pair
no-twin : (s : Linkage) (t : Thread) (line : ℕ) (o : Op) (reply : Reply) (cites : Option ℕ) (told : Told) (v : Var) (kind : Kind) (n : ℕ) (p : PNum) (h : HNum)
    → BothInvariants s.managed s.peer s.control.doing s.control.stand → o ≡ op.Adopt v kind n p h → IsEvent t o
    → CallerAllows s.control s.managed.managed s.peer.peers.issued t line o reply cites told → registered s.managed.registry p.0 ≡ None
no-twin s t line o reply cites told v kind n p h k e ev w = by t (subst (λ z. IsEvent t z) e ev)
    (subst (λ z. CallerAllows s.control s.managed.managed s.peer.peers.issued t line z reply cites told) e w)
  where
    none : (x : Option ℕ) → registered s.managed.registry p.0 ≡ x → ((m : ℕ) → Contains s.managed.registry (p.0, m) → ⊥) → registered s.managed.registry p.0 ≡ None
    none None q out = q
    none (Some m) q out = absurd (out m (registered-some s.managed.registry p.0 m q))

    by : (t : Thread) → IsEvent t (op.Adopt v kind n p h) → CallerAllows s.control s.managed.managed s.peer.peers.issued t line (op.Adopt v kind n p h) reply cites told
        → registered s.managed.registry p.0 ≡ None
    by (M u) ev w = none (registered s.managed.registry p.0) refl
        ((threads-callers s.managed s.peer s.control.doing s.control.stand k).virgins u h.0 p.0 (adopt-hand (doing_in s.control.doing u) (M u) line v kind n p h cites w)).pairs
    by (P u) ev w = absurd ev.0
    by C ev w = absurd ev.0

pub adopted_peer_has_no_twin : AdoptedPeerHasNoTwin
adopted_peer_has_no_twin noted may i n v kind fields p h w e =
    no-twin (state_at noted i) n.entry.made.caller n.entry.made.index n.entry.made.op n.entry.made.reply n.entry.made.cites n.told v kind fields p h (all_kept noted may i) e w.event w.order
