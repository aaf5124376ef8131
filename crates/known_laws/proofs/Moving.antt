-- An entry that may come after one past may come after another with the same line of its list and of its caller. Its
-- own side's state is that of its list, and what its caller is in the midst of that of its caller's line. The driver's
-- peer events ask for candidates and mirror edges of the managed side, which are frozen while the driver's line stays.
use Rattle.std.proofs.Common.{◌≡◌, ⊎_elim, ℕ, ◌≤◌, Bool, true, false, List, length, Option, Some, None, refl, sym, ap, ◌∙◌, subst, true≢false}
use Rattle.std.specs.Prelude.{slice_get}
use Rattle.std.proofs.lemmas.Bool.{cases_Bool}
use Rattle.joint_machine.specs.declared.names.Thread.{Thread}
use Rattle.joint_machine.specs.declared.names.Thread.TheVariants.{M, P, C}
use Rattle.joint_machine.specs.declared.lines.Act.TheVariants as act
use Rattle.joint_machine.specs.declared.events.Op.{Op}
use Rattle.joint_machine.specs.declared.events.Op.TheVariants as op
use Rattle.joint_machine.specs.declared.events.Reply.{Reply}
use Rattle.joint_machine.specs.declared.events.Reply.TheVariants as says
use Rattle.joint_machine.specs.Components.{mirror_edges}
use Rattle.joint_machine.specs.Control.{free, Stand, OpenSnap, idle, snapped, contracted, weakening, marked, restoring, restored, caller_place, carried_edges, IsCandidateHandle, IsAtRest, IsPhaseOf}
use Rattle.joint_machine.specs.Control.{CallerAllows, DriverAllows, ThreadAllows}
use Rattle.joint_machine.specs.Lines.{IsEvent, is_peer_event, is_read}
use Rattle.joint_machine.specs.PinsTold.{is_pinned, bare_told, no_pins, pins_told, tells_pins, with_pins}
use Rattle.joint_machine.specs.Linked.{SideLawful, PeerLawful, ManagedLawful}
use Rattle.joint_machine.specs.Managed.{Managed, candidates_of}
use Rattle.joint_machine.specs.ManagedReplay.{ManagedReplay}
use Rattle.joint_machine.specs.PeerReplay.{PeerReplay}
use Rattle.joint_machine.specs.Peers.{Issued}
use Rattle.joint_machine.specs.Readers.{ReaderMayCome}
use Rattle.joint_machine.specs.Told.{Told, Noted, references_of, resolution_of, phase_of, kept_pins}
use Rattle.known_laws.specs.Known.{MayComeLater, Comes, SideMayCome, PinsStand, given}
use Rattle.known_laws.specs.PastEntries.{TellsPlainly}
use Rattle.known_laws.proofs.Pinned.{none_stand}
use Rattle.known_laws.specs.Pasts.{role_of, own_of, line, end_of, IsSameForDriver, next_of, driver_line}
use Rattle.joint_machine.specs.HistoryLines.{caller_line}
use Rattle.known_laws.proofs.Parts.{SameAt, role_by, same_managed, same_peer, same_control}

-- what the driver's events ask for, in two managed states that are the same for it
pub record Alike (st : Stand) (m m' : Managed) : Type 0 where
  pub candidates : candidates_of m ≡ candidates_of m'
  pub handles : (i h : ℕ) → IsCandidateHandle m i h → IsCandidateHandle m' i h
  pub edges : (o : OpenSnap) (comps : List (List ℕ)) (heavy : List ℕ) (xrefs : List (ℕ × ℕ)) (issued : List Issued)
      → st ≡ contracted o comps heavy xrefs → carried_edges m issued (mirror_edges comps xrefs) ≡ carried_edges m' issued (mirror_edges comps xrefs)

pub driver_move : (st : Stand) (m m' : Managed) (i i' : List Issued) (o : Op) (reply : Reply) (cites : Option ℕ) (told : Told)
    → Alike st m m' → (is_peer_event C o ≡ true → i ≡ i') → DriverAllows st m i o reply cites told → DriverAllows st m' i' o reply cites told
driver_move st m m' i i' (op.Line x) reply cites told a e w = (subst (λ z. IsAtRest st (length z)) a.candidates w.0, w.1)
driver_move idle m m' i i' (op.Snap k) reply cites told a e w = w
driver_move (snapped o) m m' i i' (op.Contract k) reply cites told a e w = w
driver_move (contracted o comps heavy xrefs) m m' i i' (op.Mirror k) reply cites (references_of refs) a e w =
    (w.0, w.1, w.2 ∙ (a.edges o comps heavy xrefs i refl ∙ ap (λ z. carried_edges m' z (mirror_edges comps xrefs)) (e refl)))
driver_move (weakening o count x y) m m' i i' (op.Weaken h) reply cites told a e w = (w.0, w.1, a.handles count h.0 w.2)
driver_move (weakening o count x y) m m' i i' op.Begin (says.Mark j) cites told a e w = (w.0 ∙ ap length a.candidates, w.1)
driver_move (weakening o count x y) m m' i i' op.Sweep reply cites told a e w = (w.0 ∙ ap length a.candidates, w.1, w.2)
driver_move (marked o) m m' i i' op.Sweep reply cites told a e w = w
driver_move (restoring o answers) m m' i i' (op.Restore h) reply cites told a e w = (w.0, a.handles (length answers) h.0 w.1)
driver_move (restoring o answers) m m' i i' (op.Clear k) reply cites told a e w = (w.0, w.1 ∙ ap length a.candidates, w.2)
driver_move (restored o answers clear) m m' i i' (op.Resolve k) reply cites (resolution_of said freed) a e w = w
driver_move (snapped o) m m' i i' (op.Abandon k) reply cites told a e w = w
driver_move (contracted o comps heavy xrefs) m m' i i' (op.Abandon k) reply cites told a e w = w
driver_move st m m' i i' (op.Refused r) reply cites (phase_of p) a e w = (subst (λ z. IsPhaseOf st (length z) p) a.candidates w.0, w.1)
driver_move st m m' i i' _ reply cites told a e w = absurd w

alike_same : (st : Stand) (m m' : Managed) → m ≡ m' → Alike st m m'
alike_same st m m' e = record {
  candidates = ap candidates_of e;
  handles = λ i h w. subst (λ z. IsCandidateHandle z i h) e w;
  edges = λ o comps heavy xrefs issued q. ap (λ z. carried_edges z issued (mirror_edges comps xrefs)) e;
}

-- a peer's event tells no pins
no_pins_told : (t : Thread) (o : Op) (told : Told) → IsEvent t o → is_peer_event t o ≡ true → tells_pins told ≡ is_pinned o → pins_told told ≡ no_pins
no_pins_told t o (kept_pins p x) e q w = absurd (unpinned t o e q (sym w))
  where
    unpinned : (t : Thread) (o : Op) → IsEvent t o → is_peer_event t o ≡ true → is_pinned o ≡ true → ⊥
    unpinned t (op.Snap k) e q w = true≢false (sym q)
    unpinned (P u) (op.Line (act.Take v)) e q w = e.0.1
    unpinned (M u) (op.Line (act.Take v)) e q w = true≢false (sym q)
    unpinned C (op.Line (act.Take v)) e q w = true≢false (sym q)
    unpinned t o e q w = true≢false (sym w)
no_pins_told t o told e q w = refl

pub driver_reads : (o : Op) → IsEvent C o → is_read o ≡ true → ⊥
driver_reads (op.Line (act.Read k)) e r = e.0
driver_reads (op.Line (act.Await k)) e r = e.0
driver_reads _ e r = true≢false (sym r)

pub may_move : (a b : List Noted) (x : Noted) → (own_of x ≡ driver_line → IsSameForDriver (end_of a) (end_of b)) → line (role_of x) a ≡ line (role_of x) b → line (own_of x) a ≡ line (own_of x) b
    → next_of b ≤ x.entry.number → MayComeLater (next_of a) (end_of a) x → MayComeLater (next_of b) (end_of b) x
may_move a b x frozen role own later may = record {
  later = later;
  comes = comes_move (is_read x.entry.made.op) refl may.comes;
  plain = plain_move x.entry.made.caller refl x.entry.made.op (event_of (is_read x.entry.made.op) may.comes) may.plain;
}
  where
    at : SameAt (caller_place x.entry.made.caller) (end_of a).control (end_of b).control
    at = same_control (caller_place x.entry.made.caller) a b own

    event_of : (r : Bool) → Comes r (end_of a) x → IsEvent x.entry.made.caller x.entry.made.op
    event_of true w = w.event
    event_of false w = w.comes.event

    peers : is_peer_event x.entry.made.caller x.entry.made.op ≡ true → (end_of a).peer ≡ (end_of b).peer
    peers e = same_peer a b (subst (λ r. line r a ≡ line r b) (role_by x true (is_read x.entry.made.op) e refl) role)

    manageds : is_read x.entry.made.op ≡ false → is_peer_event x.entry.made.caller x.entry.made.op ≡ false → (end_of a).managed ≡ (end_of b).managed
    manageds r e = same_managed a b (subst (λ r. line r a ≡ line r b) (role_by x false false e r) role)

    -- only the driver's entries tell by where it stands
    plain_move : (t : Thread) → x.entry.made.caller ≡ t → (o : Op) → IsEvent x.entry.made.caller o
        → TellsPlainly (end_of a).control.stand o (bare_told x.told) → TellsPlainly (end_of b).control.stand o (bare_told x.told)
    plain_move C e o v w = subst (λ st. TellsPlainly st o (bare_told x.told)) (at.stand (ap caller_place e)) w
    plain_move (M u) e (op.Refused r) v w = absurd (subst (λ t. IsEvent t (op.Refused r)) e v)
    plain_move (P u) e (op.Refused r) v w = absurd (subst (λ t. IsEvent t (op.Refused r)) e v)
    plain_move t e o v w = tt

    Allowed : List Noted → Thread → Told → Type 0
    Allowed h t told = CallerAllows (end_of h).control (end_of h).managed.managed (end_of h).peer.peers.issued t x.entry.made.index x.entry.made.op x.entry.made.reply x.entry.made.cites told

    With : List Noted → Thread → Type 0
    With h t = CallerAllows (end_of h).control (given (end_of h) x.told).managed.managed
        (end_of h).peer.peers.issued t x.entry.made.index x.entry.made.op x.entry.made.reply x.entry.made.cites (bare_told x.told)

    thread_move : (u : ℕ) (told : Told) → x.entry.made.caller ≡ M u → Allowed a (M u) told → Allowed b (M u) told
    thread_move u told e w = subst (λ d. ThreadAllows (elim d [ None ↦ free | Some z ↦ z ]) (M u) x.entry.made.index x.entry.made.op x.entry.made.cites)
        (subst (λ t. slice_get (end_of a).control.doing (caller_place t) ≡ slice_get (end_of b).control.doing (caller_place t)) e at.doing) w

    order_move : (t : Thread) → is_read x.entry.made.op ≡ false → x.entry.made.caller ≡ t → With a t → With b t
    order_move (M u) r e w = thread_move u (bare_told x.told) e w
    order_move (P u) r e w = w
    order_move C r e w =
        let stand = at.stand (ap caller_place e) in
        let same : IsSameForDriver (end_of a) (end_of b) = frozen (ap (λ t. caller_line t) e) in
        let m : Managed = (given (end_of a) x.told).managed.managed in
        let n : Managed = (given (end_of b) x.told).managed.managed in
        subst (λ st. DriverAllows st n (end_of b).peer.peers.issued x.entry.made.op x.entry.made.reply x.entry.made.cites (bare_told x.told)) stand
        (⊎_elim
        (λ (p : is_peer_event x.entry.made.caller x.entry.made.op ≡ true). driver_move (end_of a).control.stand m n
        (end_of a).peer.peers.issued (end_of b).peer.peers.issued x.entry.made.op x.entry.made.reply x.entry.made.cites (bare_told x.told)
        record { candidates = same.candidates; handles = same.handles; edges = λ o comps heavy xrefs issued q. same.edges o comps heavy xrefs issued (sym stand ∙ q) }
        (λ q. ap (λ (z : PeerReplay). z.peers.issued) (peers p)) w)
        (λ (p : is_peer_event x.entry.made.caller x.entry.made.op ≡ false). driver_move (end_of a).control.stand m n
        (end_of a).peer.peers.issued (end_of b).peer.peers.issued x.entry.made.op x.entry.made.reply x.entry.made.cites (bare_told x.told)
        (alike_same (end_of a).control.stand m n (ap (λ (z : ManagedReplay). (with_pins z (pins_told x.told)).managed) (manageds r p)))
        (λ q. absurd (true≢false (sym q ∙ (ap (λ t. is_peer_event t x.entry.made.op) (sym e) ∙ p)))) w)
        (cases_Bool (is_peer_event x.entry.made.caller x.entry.made.op)))

    -- a side's entry: its own side is as it was, with the pins that are told
    side_move : is_read x.entry.made.op ≡ false → SideMayCome (end_of a) x → SideMayCome (end_of b) x
    side_move r w = record {
      tells = w.tells;
      stand = stand_move (is_peer_event x.entry.made.caller x.entry.made.op) refl;
      comes = record {
        event = w.comes.event;
        line = subst (λ z. z ≤ x.entry.made.index) at.last w.comes.line;
        short = w.comes.short;
        lawful = lawful_move (is_peer_event x.entry.made.caller x.entry.made.op) refl w.comes.lawful;
        order = order_move x.entry.made.caller r refl w.comes.order;
      };
    }
      where
        stand_move : (c : Bool) → is_peer_event x.entry.made.caller x.entry.made.op ≡ c → PinsStand (end_of b).managed.managed (pins_told x.told)
        stand_move true e = subst (λ z. PinsStand (end_of b).managed.managed z)
            (sym (no_pins_told x.entry.made.caller x.entry.made.op x.told w.comes.event e w.tells)) (none_stand (end_of b).managed.managed)
        stand_move false e = subst (λ (z : ManagedReplay). PinsStand z.managed (pins_told x.told)) (manageds r e) w.stand

        lawful_move : (c : Bool) → is_peer_event x.entry.made.caller x.entry.made.op ≡ c
            → SideLawful c (given (end_of a) x.told) x.entry.made (bare_told x.told) → SideLawful c (given (end_of b) x.told) x.entry.made (bare_told x.told)
        lawful_move true e l = subst (λ p. PeerLawful p x.entry.made (bare_told x.told)) (peers e) l
        lawful_move false e l = subst (λ m. ManagedLawful (with_pins m (pins_told x.told)) x.entry.made (bare_told x.told)) (manageds r e) l

    -- a reader's entry: only managed threads read
    reader_move : is_read x.entry.made.op ≡ true → ReaderMayCome (end_of a) x → ReaderMayCome (end_of b) x
    reader_move r w = record {
      event = w.event;
      line = subst (λ z. z ≤ x.entry.made.index) at.last w.line;
      short = w.short;
      order = by x.entry.made.caller refl w.order;
      bare = w.bare;
    }
      where
        by : (t : Thread) → x.entry.made.caller ≡ t → Allowed a t x.told → Allowed b t x.told
        by (M u) e y = thread_move u x.told e y
        by (P u) e y = y
        by C e y = absurd (driver_reads x.entry.made.op (subst (λ t. IsEvent t x.entry.made.op) e w.event) r)

    comes_move : (r : Bool) → is_read x.entry.made.op ≡ r → Comes r (end_of a) x → Comes r (end_of b) x
    comes_move true e w = reader_move e w
    comes_move false e w = side_move e w
