-- A row that holds a handle is freed by a resolution alone, and then its peer was freed before: a snapshot frees no
-- bridge row, as that reaches itself; and a candidate that was answered alive is kept. Only a snapshot and a resolution
-- free managed rows.
use Rattle.std.proofs.Common.{◌≡◌, ℕ, inl, inr, Bool, true, false, List, Option, Some, refl, sym, ap, subst, ◌∙◌, arith}
use Rattle.std.specs.Prelude.{Contains, slice_get}
use Rattle.std.proofs.lemmas.Option.{same_Some, slice_get_within}
use Rattle.std.proofs.lemmas.List.Elements.{Contains-append_cases}
use Rattle.joint_machine.specs.declared.names.Thread.{Thread}
use Rattle.joint_machine.specs.declared.names.Thread.TheVariants.{M, P, C}
use Rattle.joint_machine.specs.declared.events.Op.{Op}
use Rattle.joint_machine.specs.declared.events.Op.TheVariants as op
use Rattle.joint_machine.specs.declared.events.Reply.{Reply}
use Rattle.joint_machine.specs.declared.events.Made.{Made}
use Rattle.joint_machine.specs.Control.{Stand, idle, snapped, contracted, weakening, marked, restoring, restored, DriverAllows}
use Rattle.joint_machine.specs.Heaps.{place, slot}
use Rattle.joint_machine.specs.Lines.{IsEvent, is_peer_event}
use Rattle.joint_machine.specs.Linked.{Linkage, MayCome, SideLawful, linkage_after, managed_after}
use Rattle.joint_machine.specs.Managed.{Managed, OpenCycle, Holds, ManagedEdge, adopted, met, given_up}
use Rattle.joint_machine.specs.ManagedReplay.{ManagedReplay, registered, managed_answer, ManagedAllows, MayResolve}
use Rattle.joint_machine.specs.Peers.{peer_of}
use Rattle.joint_machine.specs.Run.{thread_number}
use Rattle.joint_machine.specs.Told.{Told, Answer, said_alive, snap_of, contraction_of, resolution_of, phase_of, Noted}
use Rattle.joint_machine.proofs.HeapLemmas.{adopt_by-managed}
use Rattle.joint_machine.proofs.Members.{at-Contains}
use Rattle.joint_machine.proofs.WalkLemmas.{Reached-start, Reaches-self}
use Rattle.joint_laws.specs.LinkedInvariants.{DriverInvariant}
use Rattle.joint_laws.specs.ManagedInvariants.{ReplayInvariant}
use Rattle.joint_laws.proofs.LinkedEntries.{Of, Allows, entry}
use Rattle.joint_laws.proofs.ManagedMoves.{managed_line-goes_on, adopted-goes_on, met-goes_on, given_up-goes_on}
use Rattle.joint_laws.proofs.ManagedSteps.{meet_by-managed, give_by-managed, twin-live}
use Rattle.joint_laws.proofs.SparedWalks.{peer_of-row}

-- the events that free managed rows
abbrev pub FreesRows : Op → Type 0
FreesRows (op.Snap k) = Unit {0}
FreesRows (op.Resolve k) = Unit {0}
FreesRows _ = ⊥

module _ (r : ManagedReplay) (k : ReplayInvariant r) where
  abbrev Same : Managed → Type 0
  Same m = m.heap.freed ≡ r.managed.heap.freed

  same-as : (m n : Managed) → n ≡ m → Same m → Same n
  same-as m n e w = ap (λ (z : Managed). z.heap.freed) e ∙ w

  pub answer-freed : (t : Thread) (o : Op) (told : Told) → (FreesRows o → ⊥) → ManagedAllows r o told → Same (managed_answer r t o told).state.managed
  answer-freed t (op.Line a) told n w = (managed_line-goes_on r.managed (thread_number t) a k.managed.places k.managed.cells).freed
  answer-freed t (op.Adopt v kind f p h) told n w =
      let a = adopted r.managed (place (thread_number t) v.0) kind f h.0 in
      same-as a.state _ (adopt_by-managed r p.0 h.0 a.state a.reply) (adopted-goes_on r.managed (place (thread_number t) v.0) kind f h.0 k.managed.places).freed
  answer-freed t (op.Meet v sort f p h) told n w =
      let a = met r.managed (place (thread_number t) v.0) h.0 sort f (registered r.registry p.0) in
      same-as a.state _ (meet_by-managed r p.0 h.0 a.state a.reply)
      (met-goes_on r.managed (place (thread_number t) v.0) h.0 sort f (registered r.registry p.0) k.managed.places (λ m e. twin-live r p.0 m k e)).freed
  answer-freed t (op.Give v) told n w =
      let u = place (thread_number t) v.0 in
      same-as (given_up r.managed u).state _ (give_by-managed r (slot r.managed.heap.vars u) (given_up r.managed u)) (given_up-goes_on r.managed u).freed
  answer-freed t (op.Snap c) told n w = absurd (n tt)
  answer-freed t (op.Resolve c) told n w = absurd (n tt)
  answer-freed t (op.Contract c) (contraction_of comps heavy xrefs) n w = refl
  answer-freed t (op.Refused x) (phase_of phase) n w = refl
  answer-freed t (op.Lend v x) told n w = refl
  answer-freed t (op.Abandon c) told n w = refl
  answer-freed t _ told n w = refl

-- so at an entry that is neither, the freed rows stay
freed-by : (s : Linkage) (m : Made) (told : Told) (b : Bool) → ReplayInvariant s.managed → (FreesRows m.op → ⊥)
    → SideLawful b s m told → (managed_after s.managed m told b).managed.heap.freed ≡ s.managed.managed.heap.freed
freed-by s m told true k n l = refl
freed-by s m told false k n l = answer-freed s.managed k m.caller m.op told n l.allowed

module _ (s : Linkage) (k : Of s) (x h p : ℕ) (holds : Holds s.managed.managed x h) (leads : peer_of s.peer.peers.issued h ≡ Some p) where
  -- at a resolution by the answers
  kept-answer : (c : ℕ) (alive : List Answer) (freed : List ℕ) (reply : Reply) (cites : Option ℕ) (st : Stand) → DriverInvariant s.managed s.peer st
      → DriverAllows st s.managed.managed s.peer.peers.issued (op.Resolve record { 0 = c }) reply cites (resolution_of alive freed)
      → MayResolve s.managed c alive freed → Contains freed x → Contains s.peer.peers.heap.freed p
  kept-answer c alive freed reply cites (restored o answers clear) d a w f =
      let same : w.cycle ≡ d.cycle = same_Some w.cycle d.cycle (sym w.open_cycle.0 ∙ d.opened.cycle) in
      let out = (w.resolution.frees x).0 f in
      let cut = k.managed.managed.dead d.cycle d.opened.cycle in
      let candidate : Contains d.cycle.candidates x = (cut.candidates x).1 (subst (λ (z : OpenCycle). Contains z.dead x) same out.0, (h, holds)) in
      let at = at-Contains d.cycle.candidates x candidate in
      let i = peer_of-row s.peer.peers.issued h p leads in
      elim (d.handles at.0 x h at.1 holds) [
        | inl t ↦ absurd (out.1 (
          x,
          (at.0, subst (λ (z : OpenCycle). slice_get z.candidates at.0 ≡ Some x) (sym same) at.1, (t.0, subst (λ z. slice_get z at.0 ≡ Some (said_alive t.0)) (sym a.2) t.1)),
          Reaches-self (ManagedEdge s.managed.managed) x,
        ))
        | inr t ↦ elim t [
          | inl u ↦ subst (λ z. Contains s.peer.peers.heap.freed z) i.2 (u.1.freed i.0 i.1)
          | inr u ↦ absurd (omega (arith, u.0, slice_get_within d.cycle.candidates at.0 x at.1, d.all))
        ]
      ]
  kept-answer c alive freed reply cites idle d a w f = absurd a
  kept-answer c alive freed reply cites (snapped o) d a w f = absurd a
  kept-answer c alive freed reply cites (contracted o comps heavy xrefs) d a w f = absurd a
  kept-answer c alive freed reply cites (weakening o count seen sw) d a w f = absurd a
  kept-answer c alive freed reply cites (marked o) d a w f = absurd a
  kept-answer c alive freed reply cites (restoring o answers) d a w f = absurd a

  module _ (line : ℕ) (reply : Reply) (cites : Option ℕ) where
    stays-live : (t : Thread) (o : Op) (told : Told) → (FreesRows o → ⊥) → SideLawful (is_peer_event t o) s (entry t line o reply cites) told
        → Contains (managed_after s.managed (entry t line o reply cites) told (is_peer_event t o)).managed.heap.freed x → Contains s.peer.peers.heap.freed p
    stays-live t o told n w f = absurd (holds.live.kept (subst (λ z. Contains z x) (freed-by s (entry t line o reply cites) told (is_peer_event t o) k.managed n w) f))

    by : (t : Thread) (o : Op) (told : Told) → IsEvent t o → SideLawful (is_peer_event t o) s (entry t line o reply cites) told → Allows s (entry t line o reply cites) told
        → Contains (managed_after s.managed (entry t line o reply cites) told (is_peer_event t o)).managed.heap.freed x → Contains s.peer.peers.heap.freed p
    by C (op.Snap c) (snap_of freed candidates dead) e w a f = elim (Contains-append_cases s.managed.managed.heap.freed freed x f) [
      | inl old ↦ absurd (holds.live.kept old)
      | inr new ↦ absurd (((w.allowed.frees x).0 new).2 (Reached-start _ _ x (h, holds)))
    ]
    by C (op.Snap c) told e w a f = absurd w.allowed
    by (M u) (op.Snap c) told e w a f = absurd e
    by (P u) (op.Snap c) told e w a f = absurd e
    by C (op.Resolve c) (resolution_of alive freed) e w a f = elim (Contains-append_cases s.managed.managed.heap.freed freed x f) [
      | inl old ↦ absurd (holds.live.kept old)
      | inr new ↦ kept-answer c.0 alive freed reply cites s.control.stand k.driver a w.allowed new
    ]
    by C (op.Resolve c) told e w a f = absurd w.allowed
    by (M u) (op.Resolve c) told e w a f = absurd e
    by (P u) (op.Resolve c) told e w a f = absurd e
    by t o told e w a f = stays-live t o told (λ z. z) w f

-- a row that holds a handle and is freed at an entry has a freed peer before it
pub freed-peer : (s : Linkage) (n : Noted) → MayCome s n → Of s → (x h p : ℕ) → Holds s.managed.managed x h
    → peer_of s.peer.peers.issued h ≡ Some p → Contains (linkage_after s n).managed.managed.heap.freed x → Contains s.peer.peers.heap.freed p
freed-peer s n may k x h p holds leads f = by s k x h p holds leads n.entry.made.index n.entry.made.reply n.entry.made.cites n.entry.made.caller n.entry.made.op n.told may.event may.lawful may.order f
