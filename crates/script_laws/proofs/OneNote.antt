-- In one state, two entries that may come, told plainly, and have the same caller, line and event are the same, with
-- what is told beside them; of two refusals the phases that the replies name have to be the same. What the event cites
-- is given by the caller's stand, what is told plainly is one, and the reply is the replay's.
use Rattle.std.proofs.Common.{◌≡◌, ℕ, Bool, true, false, List, length, Option, sym, ◌∙◌, ap, subst}
use Rattle.joint_machine.specs.declared.names.Thread.{Thread}
use Rattle.joint_machine.specs.declared.names.Thread.TheVariants.{M, P, C}
use Rattle.joint_machine.specs.declared.names.Cycle.{Cycle}
use Rattle.joint_machine.specs.declared.names.Phase.{Phase}
use Rattle.joint_machine.specs.declared.names.PhaseWord.{PhaseWord}
use Rattle.joint_machine.specs.declared.names.PhaseWord.TheVariants as word
use Rattle.joint_machine.specs.declared.events.Op.{Op}
use Rattle.joint_machine.specs.declared.events.Op.TheVariants as op
use Rattle.joint_machine.specs.declared.events.Reply.{Reply}
use Rattle.joint_machine.specs.declared.events.Reply.TheVariants as says
use Rattle.joint_machine.specs.Components.{End}
use Rattle.joint_machine.specs.Control.{Doing, made, lent, gripped, given, met, Stand, idle, snapped, contracted, weakening, marked, restoring, restored, doing_at}
use Rattle.joint_machine.specs.Control.{ThreadAllows, DriverAllows, CallerAllows, IsPhaseOf}
use Rattle.joint_machine.specs.Lines.{IsEvent, is_peer_event}
use Rattle.joint_machine.specs.Linked.{Linkage, SideLawful}
use Rattle.joint_machine.specs.Managed.{Managed, candidates_of}
use Rattle.joint_machine.specs.ManagedReplay.{ManagedReplay, managed_answer, refusal_to}
use Rattle.joint_machine.specs.PeerReplay.{peer_answer}
use Rattle.joint_machine.specs.Peers.{Issued}
use Rattle.joint_machine.specs.Told.{Told, Noted, references_of, resolution_of, phase_of, Answer}
use Rattle.known_laws.specs.PastEntries.{TellsPlainly}
use Rattle.known_laws.proofs.OneContraction.{is_one_contraction}
use Rattle.known_laws.proofs.Telling.{IsTelling, managed_told, peer_told, mirrors, resolves_alike, phases, seen-cycle, seen-snap}
use Rattle.known_laws.proofs.Retelling.{making, noting, PlainComes}

-- what a managed thread's event cites
thread-cites : (d : Doing) (t : Thread) (l : ℕ) (o : Op) (c c' : Option ℕ) → ThreadAllows d t l o c → ThreadAllows d t l o c' → c ≡ c'
thread-cites (made n line p h sort f) t l (op.Adopt v kind k p' h') c c' a b = a.0 ∙ sym b.0
thread-cites (lent n line h x) t l (op.Land h' x') c c' a b = a.0 ∙ sym b.0
thread-cites (gripped n line p h sort f) t l (op.Meet v sort' f' p' h') c c' a b = a.0 ∙ sym b.0
thread-cites (given n line h) t l (op.Release h') c c' a b = a.0 ∙ sym b.0
thread-cites (met n line h) t l (op.Release h') c c' a b = a.0 ∙ sym b.0
thread-cites (given n line h) t l o c c' a b = absurd a
thread-cites (met n line h) t l o c c' a b = absurd a
thread-cites d t l (op.Adopt v kind k p h) c c' a b = absurd a
thread-cites d t l (op.Land h x) c c' a b = absurd a
thread-cites d t l (op.Meet v sort f p h) c c' a b = absurd a
thread-cites d t l (op.Release h) c c' a b = absurd a
thread-cites d t l o c c' a b = a ∙ sym b

-- what the driver's event cites
driver-cites : (stand : Stand) (s : Managed) (i : List Issued) (o : Op) (r r' : Reply) (c c' : Option ℕ) (x y : Told) → DriverAllows stand s i o r c x → DriverAllows stand s i o r' c' y → c ≡ c'
driver-cites stand s i (op.Line z) r r' c c' x y a b = a.1 ∙ sym b.1
driver-cites idle s i (op.Snap k) r r' c c' x y a b = a ∙ sym b
driver-cites (snapped o) s i (op.Contract k) r r' c c' x y a b = a.1 ∙ sym b.1
driver-cites (contracted o comps heavy xrefs) s i (op.Mirror k) r r' c c' (references_of x) (references_of y) a b = a.1 ∙ sym b.1
driver-cites (contracted o comps heavy xrefs) s i (op.Mirror k) r r' c c' (references_of x) y a b = absurd b
driver-cites (weakening o count weakened swept) s i (op.Weaken h) r r' c c' x y a b = a.0 ∙ sym b.0
driver-cites (weakening o count weakened swept) s i op.Begin (says.Mark j) (says.Mark j') c c' x y a b = a.1 ∙ sym b.1
driver-cites (weakening o count weakened swept) s i op.Begin (says.Mark j) r' c c' x y a b = absurd b
driver-cites (weakening o count weakened swept) s i op.Sweep r r' c c' x y a b = a.2 ∙ sym b.2
driver-cites (marked o) s i op.Sweep r r' c c' x y a b = a ∙ sym b
driver-cites (restoring o answers) s i (op.Restore h) r r' c c' x y a b = a.0 ∙ sym b.0
driver-cites (restoring o answers) s i (op.Clear k) r r' c c' x y a b = a.0 ∙ sym b.0
driver-cites (restored o answers clear) s i (op.Resolve k) r r' c c' (resolution_of x f) (resolution_of y g) a b = a.1 ∙ sym b.1
driver-cites (restored o answers clear) s i (op.Resolve k) r r' c c' (resolution_of x f) y a b = absurd b
driver-cites (snapped o) s i (op.Abandon k) r r' c c' x y a b = a.1 ∙ sym b.1
driver-cites (contracted o comps heavy xrefs) s i (op.Abandon k) r r' c c' x y a b = a.1 ∙ sym b.1
driver-cites stand s i (op.Refused w) r r' c c' (phase_of p) (phase_of q) a b = a.1 ∙ sym b.1
driver-cites stand s i (op.Refused w) r r' c c' (phase_of p) y a b = absurd b
driver-cites stand s i o r r' c c' x y a b = absurd a

-- what the caller's automaton allows in a state
abbrev pub Allowed : Linkage → Thread → ℕ → Op → Reply → Option ℕ → Told → Type 0
Allowed s t l o r c x = CallerAllows s.control s.managed.managed s.peer.peers.issued t l o r c x

pub caller-cites : (s : Linkage) (t : Thread) (l : ℕ) (o : Op) (r r' : Reply) (c c' : Option ℕ) (x y : Told) → Allowed s t l o r c x → Allowed s t l o r' c' y → c ≡ c'
caller-cites s (M t) l o r r' c c' x y a b = thread-cites (doing_at s.control t) (M t) l o c c' a b
caller-cites s (P t) l o r r' c c' x y a b = a ∙ sym b
caller-cites s C l o r r' c c' x y a b = driver-cites s.control.stand s.managed.managed s.peer.peers.issued o r r' c c' x y a b

-- two replies to refusals of one word name the same phase, where that word's replies name it
abbrev pub Agree : Op → Reply → Reply → Type 0
Agree (op.Refused word.Cycle) r r' = Unit {0}
Agree (op.Refused word.Snap) r r' = Unit {0}
Agree (op.Refused w) r r' = (p q : Phase) → r ≡ says.At p → r' ≡ says.At q → p ≡ q
Agree o r r' = Unit {0}

refusals-one : (s : ManagedReplay) (stand : Stand) (n : ℕ) (w : PhaseWord) (r r' : Reply) (p q : Phase)
    → IsPhaseOf stand n p → IsPhaseOf stand n q → r ≡ refusal_to s.managed p w → r' ≡ refusal_to s.managed q w
    → TellsPlainly stand (op.Refused w) (phase_of p) → TellsPlainly stand (op.Refused w) (phase_of q) → Agree (op.Refused w) r r' → p ≡ q
refusals-one s stand n word.Cycle r r' p q a b e f x y g = phases stand n p q a b (seen-cycle stand p x) (seen-cycle stand q y)
refusals-one s stand n word.Snap r r' p q a b e f x y g = phases stand n p q a b (seen-snap stand p x) (seen-snap stand q y)
refusals-one s stand n word.Contract r r' p q a b e f x y g = g p q e f
refusals-one s stand n word.Mirror r r' p q a b e f x y g = g p q e f
refusals-one s stand n word.Weaken r r' p q a b e f x y g = g p q e f
refusals-one s stand n word.Mark r r' p q a b e f x y g = g p q e f
refusals-one s stand n word.Sweep r r' p q a b e f x y g = g p q e f
refusals-one s stand n word.Restore r r' p q a b e f x y g = g p q e f
refusals-one s stand n word.Resolve r r' p q a b e f x y g = g p q e f

mirror-told : (s : Linkage) (t : Thread) (l : ℕ) (k : Cycle) (r r' : Reply) (c : Option ℕ) (xs ys : List (End × End))
    → IsEvent t (op.Mirror k) → Allowed s t l (op.Mirror k) r c (references_of xs) → Allowed s t l (op.Mirror k) r' c (references_of ys) → xs ≡ ys
mirror-told s C l k r r' c xs ys v w x = mirrors s.control.stand s.managed.managed s.peer.peers.issued k r r' c xs ys w x
mirror-told s (M z) l k r r' c xs ys v w x = absurd v
mirror-told s (P z) l k r r' c xs ys v w x = absurd v

resolve-told : (s : Linkage) (t : Thread) (l : ℕ) (k : Cycle) (r r' : Reply) (c : Option ℕ) (x y : List Answer) (f g : List ℕ)
    → IsEvent t (op.Resolve k) → Allowed s t l (op.Resolve k) r c (resolution_of x f) → Allowed s t l (op.Resolve k) r' c (resolution_of y g) → x ≡ y
resolve-told s C l k r r' c x y f g v w z = resolves_alike s.control.stand s.managed.managed s.peer.peers.issued k r r' c x y f g w z
resolve-told s (M j) l k r r' c x y f g v w z = absurd v
resolve-told s (P j) l k r r' c x y f g v w z = absurd v

side-told : (side : Bool) (s : Linkage) (t : Thread) (l : ℕ) (o : Op) (r r' : Reply) (c : Option ℕ) (x y : Told) → IsTelling o → IsEvent t o → Allowed s t l o r c x → Allowed s t l o r' c y
    → SideLawful side s (making t l o r c) x → SideLawful side s (making t l o r' c) y → x ≡ y
side-told true s t l o r r' c x y n ev a b w v = peer_told s.peer t o c x y w.allowed v.allowed
    (λ k xs ys e p q. mirror-told s t l k r r' c xs ys (subst (IsEvent t) e ev)
    (subst (λ (z : Op × Told). Allowed s t l z.0 r c z.1) (λ i. (e i, p i)) a) (subst (λ (z : Op × Told). Allowed s t l z.0 r' c z.1) (λ i. (e i, q i)) b))
side-told false s t l o r r' c x y n ev a b w v = managed_told is_one_contraction s.managed o x y n w.allowed v.allowed
    (λ k xs ys f g e p q. resolve-told s t l k r r' c xs ys f g (subst (IsEvent t) e ev)
    (subst (λ (z : Op × Told). Allowed s t l z.0 r c z.1) (λ i. (e i, p i)) a) (subst (λ (z : Op × Told). Allowed s t l z.0 r' c z.1) (λ i. (e i, q i)) b))

refused-told : (s : Linkage) (l : ℕ) (w : PhaseWord) (r r' : Reply) (c : Option ℕ) (x y : Told) → Allowed s C l (op.Refused w) r c x → Allowed s C l (op.Refused w) r' c y
    → SideLawful false s (making C l (op.Refused w) r c) x → SideLawful false s (making C l (op.Refused w) r' c) y
    → TellsPlainly s.control.stand (op.Refused w) x → TellsPlainly s.control.stand (op.Refused w) y → Agree (op.Refused w) r r' → x ≡ y
refused-told s l w r r' c (phase_of p) (phase_of q) a b d f x y g = ap phase_of
    (refusals-one s.managed s.control.stand (length (candidates_of s.managed.managed)) w r r' p q a.0 b.0 d.replies f.replies x y g)
refused-told s l w r r' c (phase_of p) y a b d f u v g = absurd f.allowed
refused-told s l w r r' c x y a b d f u v g = absurd d.allowed

one-told : (s : Linkage) (t : Thread) (l : ℕ) (o : Op) (r r' : Reply) (c : Option ℕ) (x y : Told) → IsEvent t o → Allowed s t l o r c x → Allowed s t l o r' c y
    → SideLawful (is_peer_event t o) s (making t l o r c) x → SideLawful (is_peer_event t o) s (making t l o r' c) y
    → TellsPlainly s.control.stand o x → TellsPlainly s.control.stand o y → Agree o r r' → x ≡ y
one-told s C l (op.Refused w) r r' c x y ev a b d f u v g = refused-told s l w r r' c x y a b d f u v g
one-told s (M n) l (op.Refused w) r r' c x y ev a b d f u v g = absurd ev
one-told s (P n) l (op.Refused w) r r' c x y ev a b d f u v g = absurd ev
one-told s t l o r r' c x y ev a b d f u v g = side-told (is_peer_event t o) s t l o r r' c x y tt ev a b d f

side-reply : (side : Bool) (s : Linkage) (t : Thread) (l : ℕ) (o : Op) (r r' : Reply) (c : Option ℕ) (x y : Told) → x ≡ y
    → SideLawful side s (making t l o r c) x → SideLawful side s (making t l o r' c) y → r ≡ r'
side-reply true s t l o r r' c x y ex a b = a.replies ∙ (ap (λ (z : Told). (peer_answer s.peer t o c z).reply) ex ∙ sym b.replies)
side-reply false s t l o r r' c x y ex a b = a.replies ∙ (ap (λ (z : Told). (managed_answer s.managed t o z).reply) ex ∙ sym b.replies)

one-noted : (s : Linkage) (t : Thread) (l : ℕ) (o : Op) (n n' : ℕ) (r r' : Reply) (c c' : Option ℕ) (x y : Told) → n ≡ n'
    → PlainComes s (noting n t l o r c x) → PlainComes s (noting n' t l o r' c' y) → Agree o r r' → noting n t l o r c x ≡ noting n' t l o r' c' y
one-noted s t l o n n' r r' c c' x y en a b g =
    let ec : c ≡ c' = caller-cites s t l o r r' c c' x y a.0.order b.0.order in
    let b' : PlainComes s (noting n' t l o r' c y) = subst (λ (z : Option ℕ). PlainComes s (noting n' t l o r' z y)) (sym ec) b in
    let ex : x ≡ y = one-told s t l o r r' c x y a.0.event a.0.order b'.0.order a.0.lawful b'.0.lawful a.1 b'.1 g in
    let er : r ≡ r' = side-reply (is_peer_event t o) s t l o r r' c x y ex a.0.lawful b'.0.lawful in
    λ i. noting (en i) t l o (er i) (ec i) (ex i)

-- two entries that may come in one state, and have the same number, caller, line and event
pub one-note : (s : Linkage) (a b : Noted) → a.entry.number ≡ b.entry.number → a.entry.made.caller ≡ b.entry.made.caller
    → a.entry.made.index ≡ b.entry.made.index → a.entry.made.op ≡ b.entry.made.op → Agree a.entry.made.op a.entry.made.reply b.entry.made.reply
    → PlainComes s a → PlainComes s b → a ≡ b
one-note s a b en et el eo g p q =
    let t = a.entry.made.caller in
    let l = a.entry.made.index in
    let m = b.entry.made in
    let n = b.entry.number in
    let i : noting n t l a.entry.made.op m.reply m.cites b.told ≡ b = (λ i. noting n (et i) (el i) (eo i) m.reply m.cites b.told) in
    let q' : PlainComes s (noting n t l a.entry.made.op m.reply m.cites b.told) = subst (PlainComes s) (sym i) q in
    one-noted s t l a.entry.made.op a.entry.number n a.entry.made.reply m.reply a.entry.made.cites m.cites a.told b.told en p q' g ∙ i
