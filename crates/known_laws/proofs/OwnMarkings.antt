-- A marking of the driver is open only in its marked phase: only its begin opens one, with which it comes to that
-- phase, and it leaves the phase by the sweep alone, after which none is open.
use Rattle.std.proofs.Common.{◌≡◌, ℕ, List, [], Option, Some, refl, sym, ap, ◌∙◌, subst}
use Rattle.joint_machine.specs.declared.names.Thread.{Thread}
use Rattle.joint_machine.specs.declared.names.Thread.TheVariants.{M, P, C}
use Rattle.joint_machine.specs.declared.events.Op.{Op}
use Rattle.joint_machine.specs.declared.events.Op.TheVariants as op
use Rattle.joint_machine.specs.declared.events.Made.{Made}
use Rattle.joint_machine.specs.declared.events.Reply.{Reply}
use Rattle.joint_machine.specs.Control.{CallerAllows, DriverAllows, OpenSnap, Stand, weakening, marked, stand_after, control_after}
use Rattle.joint_machine.specs.Lines.{is_peer_event}
use Rattle.joint_machine.specs.Linked.{Linkage, MayCome, peer_after, linkage_after}
use Rattle.joint_machine.specs.Managed.{Managed}
use Rattle.joint_machine.specs.PeerReplay.{PeerReplay, Marking}
use Rattle.joint_machine.specs.Peers.{Issued}
use Rattle.joint_machine.specs.Told.{Told, Noted, sweep_of}
use Rattle.joint_machine.proofs.Deciding.{none_some}
use Rattle.joint_laws.proofs.LinkedEntries.{Of}
use Rattle.known_laws.specs.Driving.{IsOwnMarking}
use Rattle.known_laws.proofs.PeerKeeps.{marking_before, swept-closed}

-- other events than a begin and a sweep
abbrev IsAside : Op → Type 0
IsAside op.Begin = ⊥
IsAside op.Sweep = ⊥
IsAside _ = Unit {0}

-- in the marked phase the driver's other events leave it there
stays : (w : OpenSnap) (m : Managed) (i : List Issued) (num : ℕ) (o : Op) (reply : Reply) (cites : Option ℕ) (told : Told)
    → IsAside o → DriverAllows (marked w) m i o reply cites told → stand_after (marked w) num o reply told ≡ marked w
stays w m i num (op.Line x) reply cites told y a = refl
stays w m i num (op.Refused r) reply cites told y a = refl
stays w m i num op.Begin reply cites told y a = absurd y
stays w m i num op.Sweep reply cites told y a = absurd y
stays w m i num o reply cites told y a = absurd a

begins : (st : Stand) (m : Managed) (i : List Issued) (num : ℕ) (reply : Reply) (cites : Option ℕ) (told : Told)
    → DriverAllows st m i op.Begin reply cites told → (o : OpenSnap) × (stand_after st num op.Begin reply told ≡ marked o)
begins (weakening o count x y) m i num reply cites told a = (o, refl)
begins _ m i num reply cites told a = absurd a

not_begin : (o : Op) → IsAside o → o ≡ op.Begin → ⊥
not_begin o x e = subst IsAside e x

pub marking-step : (s : Linkage) (n : Noted) → Of s → MayCome s n → IsOwnMarking s → IsOwnMarking (linkage_after s n)
marking-step s n k may w = by n.entry.made.caller n.entry.made.op n.told may.order
  where
    num : ℕ
    num = n.entry.number

    made : Thread → Op → Made
    made t o = record { caller = t; index = n.entry.made.index; op = o; reply = n.entry.made.reply; cites = n.entry.made.cites }

    S : Thread → Op → Told → PeerReplay
    S t o told = peer_after s.peer (made t o) told (is_peer_event t o)

    Allows : Thread → Op → Told → Type 0
    Allows t o told = CallerAllows s.control s.managed.managed s.peer.peers.issued t n.entry.made.index o n.entry.made.reply n.entry.made.cites told

    Goal : Thread → Op → Told → Type 0
    Goal t o told = (mk : Marking) → (S t o told).marking ≡ Some mk → mk.by ≡ C → (w : OpenSnap) × ((control_after s.control t num n.entry.made.index o n.entry.made.reply told).stand ≡ marked w)

    others : (t : Thread) (o : Op) (told : Told) → (t ≡ C → ⊥) → (mk : Marking) → (S t o told).marking ≡ Some mk → mk.by ≡ C → (w : OpenSnap) × (s.control.stand ≡ marked w)
    others t o told x mk e c = let z = marking_before s.peer (made t o) told (is_peer_event t o) (λ q r. x r) mk e c in w z.0 z.1 z.2

    own : (o : Op) (told : Told) → IsAside o → Allows C o told → Goal C o told
    own o told x a mk e c =
        let z = marking_before s.peer (made C o) told (is_peer_event C o) (λ q r. not_begin o x q) mk e c in
        let m = w z.0 z.1 z.2 in (
          m.0,
          ap (λ st. stand_after st num o n.entry.made.reply told) m.1
              ∙ stays m.0 s.managed.managed s.peer.peers.issued num o n.entry.made.reply n.entry.made.cites told x
              (subst (λ st. DriverAllows st s.managed.managed s.peer.peers.issued o n.entry.made.reply n.entry.made.cites told) m.1 a),
        )

    by : (t : Thread) (o : Op) (told : Told) → Allows t o told → Goal t o told
    by (M u) o told a mk e c = others (M u) o told (λ z. cc) mk e c
    by (P u) o told a mk e c = others (P u) o told (λ z. cc) mk e c
    by C op.Begin told a mk e c = begins s.control.stand s.managed.managed s.peer.peers.issued num n.entry.made.reply n.entry.made.cites told a
    by C op.Sweep (sweep_of freed) a mk e c = absurd (none_some mk (sym (swept-closed s.peer s.peer.marking freed refl) ∙ e))
    by C op.Sweep told a mk e c = absurd (none_some mk (sym (swept-closed s.peer s.peer.marking [] refl) ∙ e))
    by C o told a mk e c = own o told tt a mk e c
