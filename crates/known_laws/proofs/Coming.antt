-- What is known of an entry of a past, whatever its list: its event, its caller's turn, and of a side's entry its
-- lawfulness.
use Rattle.std.proofs.Common.{◌≡◌, Bool, true, false, List, ◌∷◌, refl, sym, ap, ◌∙◌, subst, true≢false}
use Rattle.joint_machine.specs.declared.names.Thread.{Thread}
use Rattle.joint_machine.specs.declared.names.Thread.TheVariants.{M, P, C}
use Rattle.joint_machine.specs.declared.lines.Act.TheVariants as act
use Rattle.joint_machine.specs.declared.events.Op.{Op}
use Rattle.joint_machine.specs.declared.events.Op.TheVariants as op
use Rattle.joint_machine.specs.Control.{CallerAllows}
use Rattle.joint_machine.specs.Lines.{IsEvent, is_peer_event, is_read}
use Rattle.joint_machine.specs.PinsTold.{is_pinned, bare_told}
use Rattle.joint_machine.specs.Linked.{Linkage, SideLawful, PeerLawful}
use Rattle.joint_machine.specs.Told.{Noted}
use Rattle.known_laws.specs.Known.{Comes, SideMayCome, given}
use Rattle.known_laws.specs.Pasts.{Lawful, end_of}
use Rattle.known_laws.proofs.Bared.{plain_told}
use Rattle.known_laws.proofs.Unpinned.{turn_same}

pub event_by : (s : Linkage) (x : Noted) (r : Bool) → Comes r s x → IsEvent x.entry.made.caller x.entry.made.op
event_by s x true w = w.event
event_by s x false w = w.comes.event

pub event_of : (x : Noted) (h : List Noted) → Lawful (x ∷ h) → IsEvent x.entry.made.caller x.entry.made.op
event_of x h l = event_by (end_of h) x (is_read x.entry.made.op) l.0.comes

-- its caller's turn asks for no pins
abbrev pub Turn : Linkage → Noted → Type 0
Turn s x = CallerAllows s.control s.managed.managed s.peer.peers.issued x.entry.made.caller x.entry.made.index x.entry.made.op x.entry.made.reply x.entry.made.cites (bare_told x.told)

turn_by : (s : Linkage) (x : Noted) (r : Bool) → Comes r s x → Turn s x
turn_by s x true w = subst (λ z. CallerAllows s.control s.managed.managed s.peer.peers.issued x.entry.made.caller x.entry.made.index x.entry.made.op x.entry.made.reply x.entry.made.cites z)
    (w.bare ∙ sym (ap bare_told w.bare)) w.order
turn_by s x false w = turn_same s.managed.managed.pins s.control (given s x.told).managed.managed s.peer.peers.issued
    x.entry.made.caller x.entry.made.index x.entry.made.op x.entry.made.reply x.entry.made.cites (bare_told x.told) w.comes.order

pub turn_of : (x : Noted) (h : List Noted) → Lawful (x ∷ h) → Turn (end_of h) x
turn_of x h l = turn_by (end_of h) x (is_read x.entry.made.op) l.0.comes

pub side_of : (x : Noted) (h : List Noted) → Lawful (x ∷ h) → is_read x.entry.made.op ≡ false → SideMayCome (end_of h) x
side_of x h l e = subst (λ r. Comes r (end_of h) x) e l.0.comes

-- peers' events are no reads and have no pins
pub peer_reads_none : (t : Thread) (o : Op) → IsEvent t o → is_peer_event t o ≡ true → (is_read o ≡ false) × (is_pinned o ≡ false)
peer_reads_none (P u) (op.Line (act.Read k)) v e = absurd v.0.1
peer_reads_none (P u) (op.Line (act.Await k)) v e = absurd v.0.1
peer_reads_none (P u) (op.Line (act.Take k)) v e = absurd v.0.1
peer_reads_none (P u) (op.Line a) v e = (refl, refl)
peer_reads_none (M u) (op.Line a) v e = absurd (true≢false (sym e))
peer_reads_none C (op.Line a) v e = absurd (true≢false (sym e))
peer_reads_none t (op.Snap k) v e = absurd (true≢false (sym e))
peer_reads_none t o v e = (refl, refl)

pub peer_of : (x : Noted) (h : List Noted) → Lawful (x ∷ h) → is_peer_event x.entry.made.caller x.entry.made.op ≡ true → PeerLawful (end_of h).peer x.entry.made (bare_told x.told)
peer_of x h l e =
    let w = side_of x h l (peer_reads_none x.entry.made.caller x.entry.made.op (event_of x h l) e).0 in
    subst (λ b. SideLawful b (given (end_of h) x.told) x.entry.made (bare_told x.told)) e w.comes.lawful

-- which are told whole
pub peer_told_whole : (x : Noted) (h : List Noted) → Lawful (x ∷ h) → is_peer_event x.entry.made.caller x.entry.made.op ≡ true → bare_told x.told ≡ x.told
peer_told_whole x h l e =
    let n = peer_reads_none x.entry.made.caller x.entry.made.op (event_of x h l) e in
    plain_told x.told ((side_of x h l n.0).tells ∙ n.1)
