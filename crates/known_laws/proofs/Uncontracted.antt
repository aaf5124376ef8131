-- Just after the snapshot no contraction was made. The snapshot makes the flag false, only a contraction makes it true,
-- and with that the driver leaves its snapped stand.
use Rattle.std.proofs.Common.{◌≡◌, ℕ, Bool, true, false, Option, Some, None, refl, ◌∙◌}
use Rattle.joint_machine.specs.declared.names.Thread.{Thread}
use Rattle.joint_machine.specs.declared.names.Thread.TheVariants.{M, P, C}
use Rattle.joint_machine.specs.declared.events.Op.{Op}
use Rattle.joint_machine.specs.declared.events.Made.{Made}
use Rattle.joint_machine.specs.declared.events.Op.TheVariants as op
use Rattle.joint_machine.specs.declared.events.Reply.{Reply}
use Rattle.joint_machine.specs.declared.events.Reply.TheVariants as says
use Rattle.joint_machine.specs.Control.{CallerAllows, DriverAllows, Stand, OpenSnap, snapped, contracted, weakening, marked, restoring, stand_after, control_after}
use Rattle.joint_machine.specs.Heaps.{Answered}
use Rattle.joint_machine.specs.Lines.{IsEvent, is_peer_event}
use Rattle.joint_machine.specs.Linked.{Linkage, MayCome, SideLawful, managed_after, linkage_after}
use Rattle.joint_machine.specs.Managed.{Managed}
use Rattle.joint_machine.specs.ManagedReplay.{ManagedReplay, managed_answer, adopt_by, meet_by, give_by}
use Rattle.joint_machine.specs.Told.{Told, Noted, snap_of, contraction_of, resolution_of, phase_of}
use Rattle.known_laws.specs.Driving.{IsUncontracted}

adopt_by-same : (r : ManagedReplay) (p h : ℕ) (after : Managed) (reply : Reply) → (adopt_by r p h after reply).state.contracted ≡ r.contracted
adopt_by-same r p h after (says.M m) = refl
adopt_by-same r p h after _ = refl

meet_by-same : (r : ManagedReplay) (p h : ℕ) (after : Managed) (reply : Reply) → (meet_by r p h after reply).state.contracted ≡ r.contracted
meet_by-same r p h after (says.New m) = refl
meet_by-same r p h after _ = refl

give_by-same : (r : ManagedReplay) (v : Option ℕ) (a : Answered Managed) → (give_by r v a).state.contracted ≡ r.contracted
give_by-same r None a = refl
give_by-same r (Some x) a = refl

-- events other than a snapshot and a contraction leave it as it was
abbrev IsOther : Op → Type 0
IsOther (op.Snap k) = ⊥
IsOther (op.Contract k) = ⊥
IsOther _ = Unit {0}

same : (r : ManagedReplay) (t : Thread) (o : Op) (told : Told) → IsOther o → (managed_answer r t o told).state.contracted ≡ r.contracted
same r t (op.Line a) told x = refl
same r t (op.Adopt v kind n p h) told x = adopt_by-same r p.0 h.0 _ _
same r t (op.Meet v sort n p h) told x = meet_by-same r p.0 h.0 _ _
same r t (op.Give v) told x = give_by-same r _ _
same r t (op.Snap k) told x = absurd x
same r t (op.Contract k) told x = absurd x
same r t (op.Resolve k) told x = resolves told
  where
    resolves : (told : Told) → (managed_answer r t (op.Resolve k) told).state.contracted ≡ r.contracted
    resolves (resolution_of alive freed) = refl
    resolves _ = refl
same r t (op.Refused w) told x = refuses told
  where
    refuses : (told : Told) → (managed_answer r t (op.Refused w) told).state.contracted ≡ r.contracted
    refuses (phase_of phase) = refl
    refuses _ = refl
same r t _ told x = refl

other_of : (t : Thread) (o : Op) → (t ≡ C → ⊥) → IsEvent t o → IsOther o
other_of (M u) (op.Snap k) n e = absurd e
other_of (M u) (op.Contract k) n e = absurd e
other_of (P u) (op.Snap k) n e = absurd e
other_of (P u) (op.Contract k) n e = absurd e
other_of C o n e = absurd (n refl)
other_of t _ n e = tt

-- after other events the driver is at the snapshot only where it was
back : (st : Stand) (num : ℕ) (o : Op) (reply : Reply) (told : Told) (w : OpenSnap) → IsOther o → stand_after st num o reply told ≡ snapped w → st ≡ snapped w
back st num (op.Snap k) reply told w x e = absurd x
back st num (op.Contract k) reply told w x e = absurd x
back (contracted o comps heavy xrefs) num (op.Mirror k) reply told w x e = absurd (cc)
back (weakening o count a b) num (op.Weaken h) reply told w x e = absurd (cc)
back (weakening o count a b) num op.Sweep reply told w x e = absurd (cc)
back (weakening o count a b) num op.Begin reply told w x e = absurd (cc)
back (weakening o count a b) num (op.Refused r) reply told w x e = absurd (cc)
back (marked o) num op.Sweep reply told w x e = absurd (cc)
back (restoring o answers) num (op.Restore h) reply told w x e = absurd (cc)
back (restoring o answers) num (op.Clear k) reply told w x e = absurd (cc)
back st num (op.Resolve k) reply told w x e = absurd (cc)
back st num (op.Abandon k) reply told w x e = absurd (cc)
back st num _ reply told w x e = e

same_after : (r : ManagedReplay) (m : Made) (told : Told) (b : Bool) → IsOther m.op → (managed_after r m told b).contracted ≡ r.contracted
same_after r m told true x = refl
same_after r m told false x = same r m.caller m.op told x

pub uncontracted-step : (s : Linkage) (n : Noted) → MayCome s n → IsUncontracted s → IsUncontracted (linkage_after s n)
uncontracted-step s n may u = by n.entry.made.caller n.entry.made.op n.told may.event may.lawful may.order
  where
    num : ℕ
    num = n.entry.number

    made : Thread → Op → Made
    made t o = record { caller = t; index = n.entry.made.index; op = o; reply = n.entry.made.reply; cites = n.entry.made.cites }

    Goal : Thread → Op → Told → Type 0
    Goal t o told = (w : OpenSnap) → (control_after s.control t num n.entry.made.index o n.entry.made.reply told).stand ≡ snapped w
        → (managed_after s.managed (made t o) told (is_peer_event t o)).contracted ≡ false

    Allows : Thread → Op → Told → Type 0
    Allows t o told = CallerAllows s.control s.managed.managed s.peer.peers.issued t n.entry.made.index o n.entry.made.reply n.entry.made.cites told

    other : (o : Op) (told : Told) → IsOther o → Goal C o told
    other o told x w e = same_after s.managed (made C o) told (is_peer_event C o) x ∙ u w (back s.control.stand num o n.entry.made.reply told w x e)

    by : (t : Thread) (o : Op) (told : Told) → IsEvent t o → SideLawful (is_peer_event t o) s (made t o) told → Allows t o told → Goal t o told
    by (M x) o told e l a w q = same_after s.managed (made (M x) o) told (is_peer_event (M x) o) (other_of (M x) o (λ z. cc) e) ∙ u w q
    by (P x) o told e l a w q = same_after s.managed (made (P x) o) told (is_peer_event (P x) o) (other_of (P x) o (λ z. cc) e) ∙ u w q
    by C (op.Snap k) (snap_of freed candidates dead) e l a w q = refl
    by C (op.Snap k) told e l a w q = absurd l.allowed
    by C (op.Contract k) (contraction_of comps heavy xrefs) e l a w q = contract_case s.control.stand a q
      where
        contract_case : (st : Stand) → DriverAllows st s.managed.managed s.peer.peers.issued (op.Contract k) n.entry.made.reply n.entry.made.cites (contraction_of comps heavy xrefs)
            → stand_after st num (op.Contract k) n.entry.made.reply (contraction_of comps heavy xrefs) ≡ snapped w → true ≡ false
        contract_case (snapped o) a q = absurd (cc)
        contract_case _ a q = absurd a
    by C (op.Contract k) told e l a w q = absurd l.allowed
    by C (op.Line x) told e l a w q = other (op.Line x) told tt w q
    by C o told e l a w q = other o told tt w q
