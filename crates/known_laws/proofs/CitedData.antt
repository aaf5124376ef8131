-- What a mirror and a weaken are by where the driver stands: the references are those that its contraction's mirror
-- edges give, and the handle is that of the candidate which is next by the count of those weakened.
use Rattle.std.proofs.Common.{false, ◌≡◌, ℕ, List, ◌∷◌, Option, Some, refl, sym, ap, ◌∙◌, subst}
use Rattle.known_laws.proofs.Coming.{event_of, turn_of, side_of}
use Rattle.known_laws.specs.Known.{given}
use Rattle.joint_machine.specs.Lines.{is_read, IsEvent, is_peer_event}
use Rattle.joint_machine.specs.PinsTold.{bare_told}
use Rattle.joint_machine.specs.declared.names.Thread.{Thread}
use Rattle.joint_machine.specs.declared.names.Thread.TheVariants.{M, P, C}
use Rattle.joint_machine.specs.declared.names.Cycle.{Cycle}
use Rattle.joint_machine.specs.declared.names.HNum.{HNum}
use Rattle.joint_machine.specs.declared.events.Op.{Op}
use Rattle.joint_machine.specs.declared.events.Op.TheVariants as op
use Rattle.joint_machine.specs.declared.events.Reply.{Reply}
use Rattle.joint_machine.specs.declared.events.Made.{Made}
use Rattle.joint_machine.specs.Control.{Stand, contracted, weakening, CallerAllows, IsCandidateHandle, DriverAllows}
use Rattle.joint_machine.specs.Linked.{Linkage, SideLawful}
use Rattle.joint_machine.specs.PeerReplay.{peer_answer}
use Rattle.joint_machine.specs.Told.{Told, Noted, references_of}
use Rattle.joint_laws.specs.LinkedInvariants.{DriverInvariant}
use Rattle.known_laws.specs.Driving.{MirrorFits}
use Rattle.known_laws.specs.Pasts.{Lawful, end_of}
use Rattle.known_laws.specs.Citations.{AddsMirrorEdges, MirrorsAddMirrorEdges, TakesNext, WeakensTakeNext}
use Rattle.known_laws.proofs.KnownPasts.{past_invariant_holds}
use Rattle.known_laws.proofs.Later.{kept_end}

mirror-adds : (s : Linkage) (st : Stand) (t : Thread) (k : Cycle) (reply : Reply) (cites : Option ℕ) (told : Told) → DriverInvariant s.managed s.peer st
    → DriverAllows st s.managed.managed s.peer.peers.issued (op.Mirror k) reply cites told → reply ≡ (peer_answer s.peer t (op.Mirror k) cites told).reply → AddsMirrorEdges s told reply k.0
mirror-adds s (contracted o comps heavy xrefs) t k reply cites (references_of refs) d a e = record {
  cycle = d.before.cycle;
  open_cycle = (d.before.opened.cycle, d.before.opened.number ∙ a.0);
  comps = comps;
  heavy = heavy;
  xrefs = xrefs;
  contraction = d.contraction;
  refs = refs;
  exact = a.2;
  tells = refl;
  replies = e;
}
mirror-adds s (contracted o comps heavy xrefs) t k reply cites told d a e = absurd a
mirror-adds s st t k reply cites told d a e = absurd a

weaken-takes : (s : Linkage) (st : Stand) (g : HNum) (reply : Reply) (cites : Option ℕ) (told : Told) → MirrorFits s.managed s.peer st
    → DriverAllows st s.managed.managed s.peer.peers.issued (op.Weaken g) reply cites told → TakesNext s cites g.0
weaken-takes s (weakening o count x y) g reply cites told m a = record {
  mirror = m.mirror;
  stands = m.stands;
  cited = a.0 ∙ ap Some (sym m.snap);
  candidate = subst (λ n. IsCandidateHandle s.managed.managed n g.0) (sym m.weak_count) a.2;
}
weaken-takes s st g reply cites told m a = absurd a

module _ (x : Noted) (h : List Noted) (l : Lawful (x ∷ h)) where
  abbrev made : Thread → Op → Made
  made t o = record { caller = t; index = x.entry.made.index; op = o; reply = x.entry.made.reply; cites = x.entry.made.cites }

  abbrev Allows : Thread → Op → Type 0
  Allows t o = CallerAllows (end_of h).control (end_of h).managed.managed (end_of h).peer.peers.issued t x.entry.made.index o x.entry.made.reply x.entry.made.cites (bare_told x.told)

  abbrev Lawfully : Thread → Op → Type 0
  Lawfully t o = SideLawful (is_peer_event t o) (given (end_of h) x.told) (made t o) (bare_told x.told)

  mirror-of : (t : Thread) (k : Cycle) → IsEvent t (op.Mirror k) → Allows t (op.Mirror k) → Lawfully t (op.Mirror k) → AddsMirrorEdges (end_of h) (bare_told x.told) x.entry.made.reply k.0
  mirror-of C k v a w = mirror-adds (end_of h) (end_of h).control.stand C k x.entry.made.reply x.entry.made.cites (bare_told x.told) (kept_end h l.1).driver a w.replies
  mirror-of (M u) k v a w = absurd v
  mirror-of (P u) k v a w = absurd v

  weaken-of : (t : Thread) (g : HNum) → IsEvent t (op.Weaken g) → Allows t (op.Weaken g) → TakesNext (end_of h) x.entry.made.cites g.0
  weaken-of C g v a = weaken-takes (end_of h) (end_of h).control.stand g x.entry.made.reply x.entry.made.cites (bare_told x.told) (past_invariant_holds h l.1).mirror a
  weaken-of (M u) g v a = absurd v
  weaken-of (P u) g v a = absurd v

  by-event : (o : Op) → is_read o ≡ false → x.entry.made.op ≡ o → IsEvent x.entry.made.caller o × Allows x.entry.made.caller o × Lawfully x.entry.made.caller o
  by-event o r e = (
    subst (IsEvent x.entry.made.caller) e (event_of x h l),
    subst (Allows x.entry.made.caller) e (turn_of x h l),
    subst (Lawfully x.entry.made.caller) e (side_of x h l (ap is_read e ∙ r)).comes.lawful,
  )

pub mirrors_add_mirror_edges : MirrorsAddMirrorEdges
mirrors_add_mirror_edges x h l k e = let w = by-event x h l (op.Mirror k) refl e in mirror-of x h l x.entry.made.caller k w.0 w.1 w.2

pub weakens_take_next : WeakensTakeNext
weakens_take_next x h l g e = let w = by-event x h l (op.Weaken g) refl e in weaken-of x h l x.entry.made.caller g w.0 w.1
