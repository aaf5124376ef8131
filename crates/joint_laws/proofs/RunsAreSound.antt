-- What every run of the joint machine frees. A marking that is open was begun at an earlier entry, and keeps the graph
-- that stood after it; so what its sweep frees, which was unreached in that graph and is unreached now, was so at both
-- entries.
use Rattle.joint_machine.specs.Headline.{BeginsAt, SweepsAt}
use Rattle.joint_machine.specs.declared.events.Reply.TheVariants as says
use Rattle.joint_machine.specs.declared.lines.Act.TheVariants as act
use Rattle.joint_machine.specs.declared.events.Reply.{Reply}
use Rattle.joint_machine.specs.declared.events.Op.{Op}
use Rattle.joint_machine.specs.declared.lines.Act.{Act}
use Rattle.joint_machine.specs.declared.names.Span.{Span}
use Rattle.joint_machine.specs.declared.names.Thread.TheVariants.{M, P, C}
use Rattle.joint_machine.specs.declared.names.Thread.{Thread}
use Rattle.std.proofs.lemmas.List.Elements.{All-contains}
use Rattle.std.proofs.Common.{◌≡◌, ℕ, Bool, true, false, zero, suc, List, [], ◌∷◌, Some, sym, subst, ◌∙◌, ◌+◌, ◌<◌, inl, inr, Option, None, refl, ap, arith}
use Rattle.std.specs.Prelude.{slice_get, if◌then◌else◌}
use Rattle.std.proofs.lemmas.Option.{same_Some}
use Rattle.joint_machine.specs.declared.events.Op.TheVariants as op
use Rattle.joint_machine.specs.Joint.{Joint, opening, object, IsReached, JointMarking, peer, IsReachedIn}
use Rattle.joint_machine.specs.Run.{Moment, JointStep, JointEvent, JointSnap, IsRunFrom, JointBegin, JointSweep, EndsMarking, IsStored, JointComputed, joint_answer, joint_line, without, answered}
use Rattle.joint_machine.specs.Run.{given_anew}
use Rattle.joint_machine.specs.Told.{snap_of, Told, sweep_of, resolution_of, said_alive, said_cleared}
use Rattle.joint_machine.proofs.Deciding.{none_some}
use Rattle.joint_laws.specs.RunLaws.{SnapshotsAreSound, SweepsAreSound}
use Rattle.joint_laws.proofs.ManagedFrees.{snapshot-unreached}
use Rattle.joint_machine.specs.Peers.{next_handle}
use Rattle.joint_machine.specs.Heaps.{is_freed, answer}

-- the step at a place of a run
pub step-at : (run : List Moment) (j : Joint) (i : ℕ) (m : Moment) → IsRunFrom j run → slice_get run i ≡ Some m → JointStep m.before m.noted m.after
step-at [] j i m r e = absurd (none_some m e)
step-at (x ∷ run) j zero m r e = subst (λ (z : Moment). JointStep z.before z.noted z.after) (same_Some x m e) r.1
step-at (x ∷ run) j (suc i) m r e = step-at run x.after i m r.2 e

-- a snapshot
snap-event : (m : Moment) (k : ℕ) (freed candidates dead : List ℕ) → JointStep m.before m.noted m.after → m.noted.entry.made.op ≡ op.Snap record { 0 = k }
    → m.noted.told ≡ snap_of freed candidates dead → JointSnap m.before k freed candidates dead m.noted.entry.made.reply m.after
snap-event m k freed candidates dead st e f =
    subst (λ z. JointEvent m.before m.noted.entry.made.caller (op.Snap record { 0 = k }) m.noted.entry.made.reply z m.after) f
    (subst (λ z. JointEvent m.before m.noted.entry.made.caller z m.noted.entry.made.reply m.noted.told m.after) e st.step)

pub snapshots_are_sound : SnapshotsAreSound
snapshots_are_sound entries run r i k m freed candidates s c x e w =
    let same : s.element ≡ x = same_Some s.element x (sym s.there ∙ e) in
    let t = snap-event s.element k freed candidates s.is.1 (step-at run opening i s.element r.steps s.there) s.is.0 s.is.2 in
    snapshot-unreached s.element.before k freed candidates s.is.1 t.snapshot m c (subst (λ (z : Moment). IsReached z.before (object m)) (sym same) w)

-- a moment begins where the one before it ended
pub next-before : (run : List Moment) (j : Joint) (i : ℕ) (p m : Moment) → IsRunFrom j run → slice_get run i ≡ Some p → slice_get run (suc i) ≡ Some m → m.before ≡ p.after
next-before [] j i p m r e f = absurd (none_some p e)
next-before (x ∷ []) j zero p m r e f = absurd (none_some m f)
next-before (x ∷ y ∷ run) j zero p m r e f =
    let a : y ≡ m = same_Some y m f in
    let b : x ≡ p = same_Some x p e in
    ap (λ (z : Moment). z.before) (sym a) ∙ (r.2.0 ∙ ap (λ (z : Moment). z.after) b)
next-before (x ∷ run) j (suc i) p m r e f = next-before run x.after i p m r.2 e f

pub first-before : (run : List Moment) (j : Joint) (m : Moment) → IsRunFrom j run → slice_get run 0 ≡ Some m → m.before ≡ j
first-before [] j m r e = absurd (none_some m e)
first-before (x ∷ run) j m r e = ap (λ (z : Moment). z.before) (sym (same_Some x m e)) ∙ r.0

pub earlier-there : (run : List Moment) (i : ℕ) (m : Moment) → slice_get run (suc i) ≡ Some m → (p : Moment) × (slice_get run i ≡ Some p)
earlier-there [] i m e = absurd (none_some m e)
earlier-there (x ∷ run) zero m e = (x, refl)
earlier-there (x ∷ run) (suc i) m e = earlier-there run i m e

-- an event that is computed leaves the marking alone
without-marking : (j : Joint) (o : Option ℕ) → (without j o).marking ≡ j.marking
without-marking j None = refl
without-marking j (Some h) = refl

line-marking : (j : Joint) (t : Thread) (a : Act) → (joint_line j t a).state.marking ≡ j.marking
line-marking j (M u) a = refl
line-marking j (P u) (act.UnGlobal g) = without-marking j _
line-marking j (P u) _ = refl
line-marking j C a = refl

answer-marking : (j : Joint) (t : Thread) (o : Op) → (joint_answer j t o).state.marking ≡ j.marking
answer-marking j t (op.Line a) = line-marking j t a
answer-marking j t _ = refl

-- what a step does to the marking
pub data MarkingCase (b : Joint) (o : Op) (reply : Reply) (a : Joint) : Type 0 where
  stays : a.marking ≡ b.marking → MarkingCase b o reply a
  ends : a.marking ≡ None → MarkingCase b o reply a
  opens : (y : JointMarking) → o ≡ op.Begin → reply ≡ says.Mark record { 0 = y.number } → a.marking ≡ Some y → a.graph ≡ y.begun → MarkingCase b o reply a

begin-case : (b a : Joint) (x : Option JointMarking) (t : Thread) (reply : Reply) → b.marking ≡ x → JointBegin b x t reply a → MarkingCase b op.Begin reply a
begin-case b a None t reply e w =
    opens (record { number = b.markings + 1; by = t; begun = b.graph }) refl w.replies (ap (λ (z : Joint). z.marking) w.state) (ap (λ (z : Joint). z.graph) w.state)
begin-case b a (Some y) t reply e w = stays (ap (λ (z : Joint). z.marking) w.1)

sweep-case : (b a : Joint) (x : Option JointMarking) (t : Thread) (reply : Reply) (told : Told) → JointSweep b x t reply told a → MarkingCase b op.Sweep reply a
sweep-case b a None t reply told w = stays (ap (λ (z : Joint). z.marking) w.2)
sweep-case b a (Some y) t reply (sweep_of freed) w = elim w [
  | inl v ↦ ends (ap (λ (z : Joint). z.marking) v.state)
  | inr v ↦ stays (ap (λ (z : Joint). z.marking) v.state)
]
sweep-case b a (Some y) t reply told w = stays (ap (λ (z : Joint). z.marking) w.state)

computed-case : (b a : Joint) (t : Thread) (o : Op) (reply : Reply) → JointComputed b t o reply a → MarkingCase b o reply a
computed-case b a t o reply w = stays (ap (λ (z : Joint). z.marking) w.state ∙ answer-marking b t o)

-- a restore leaves the marking as it is
restored-marking : (b : Joint) (h p : ℕ) (f : Bool)
    → (if f then answer says.Cleared (answered (without b (Some h)) h said_cleared) else answer (says.Renewed record { 0 = next_handle b.graph.peers })
    (answered (given_anew (without b (Some h)) p) h (said_alive (next_handle b.graph.peers)))).state.marking ≡ b.marking
restored-marking b h p true = refl
restored-marking b h p false = refl

pub marking-case : (b a : Joint) (t : Thread) (o : Op) (reply : Reply) (told : Told) → JointEvent b t o reply told a → MarkingCase b o reply a
marking-case b a t (op.Snap k) reply (snap_of freed candidates dead) w = stays (ap (λ (z : Joint). z.marking) w.state)
marking-case b a t (op.Snap k) reply told w = absurd w
marking-case b a t op.Begin reply told w = begin-case b a b.marking t reply refl w
marking-case b a t op.Sweep reply told w = sweep-case b a b.marking t reply told w
marking-case b a t (op.Restore h) reply told w = stays (ap (λ (z : Joint). z.marking) w.state ∙ restored-marking b h.0 w.peer (is_freed b.graph.peers.heap w.peer))
marking-case b a t (op.Resolve k) reply (resolution_of alive freed) w = stays (ap (λ (z : Joint). z.marking) w.state)
marking-case b a t (op.Resolve k) reply told w = absurd w
marking-case b a t (op.Abandon k) reply told w = stays (ap (λ (z : Joint). z.marking) w.state)
marking-case b a t o reply told w = computed-case b a t o reply w

-- where the open marking was begun
pub record HasOrigin (run : List Moment) (i : ℕ) (y : JointMarking) : Type 0 where
  pub begin : ℕ
  pub earlier : begin < i
  pub begins : BeginsAt run begin y.number
  pub graph : (m : Moment) → slice_get run begin ≡ Some m → m.after.graph ≡ y.begun

later-origin : (run : List Moment) (i : ℕ) (y : JointMarking) → HasOrigin run i y → HasOrigin run (suc i) y
later-origin run i y w = record { begin = w.begin; earlier = (let l = w.earlier in omega arith); begins = w.begins; graph = w.graph }

pub origin : (run : List Moment) → IsRunFrom opening run → (i : ℕ) (m : Moment) → slice_get run i ≡ Some m → (y : JointMarking) → m.before.marking ≡ Some y → HasOrigin run i y
origin run r zero m e y f = absurd (none_some y (sym (ap (λ (z : Joint). z.marking) (first-before run opening m r e)) ∙ f))
origin run r (suc i) m e y f =
    let p = earlier-there run i m e in
    let next = next-before run opening i p.0 m r p.1 e in
    let st = step-at run opening i p.0 r p.1 in
    by p.0 p.1 (ap (λ (z : Joint). z.marking) (sym next) ∙ f) (marking-case p.0.before p.0.after p.0.noted.entry.made.caller p.0.noted.entry.made.op p.0.noted.entry.made.reply p.0.noted.told st.step)
    (origin run r i p.0 p.1 y)
  where
    by : (p : Moment) → slice_get run i ≡ Some p → p.after.marking ≡ Some y → MarkingCase p.before p.noted.entry.made.op p.noted.entry.made.reply p.after
        → (p.before.marking ≡ Some y → HasOrigin run i y) → HasOrigin run (suc i) y
    by p there g (stays q) rest = later-origin run i y (rest (sym q ∙ g))
    by p there g (ends q) rest = absurd (none_some y (sym q ∙ g))
    by p there g (opens z o reply q w) rest =
        let same : z ≡ y = same_Some z y (sym q ∙ g) in
        record {
          begin = i;
          earlier = omega arith;
          begins = record { element = p; there = there; is = (o, reply ∙ ap (λ (x : JointMarking). says.Mark record { 0 = x.number }) same) };
          graph = λ x e. ap (λ (v : Moment). v.after.graph) (same_Some x p (sym e ∙ there)) ∙ (w ∙ ap (λ (v : JointMarking). v.begun) same);
        }

-- the number that a sweep tells
abbrev swept_number : Reply → ℕ
swept_number (says.Swept j span) = j.0
swept_number _ = 0

-- a sweep that frees ends the open marking
ends-of : (b a : Joint) (x : Option JointMarking) (t : Thread) (reply : Reply) (freed : List ℕ) (j : ℕ) (span : Span)
    → b.marking ≡ x → JointSweep b x t reply (sweep_of freed) a → reply ≡ says.Swept record { 0 = j } span
    → (y : JointMarking) × (b.marking ≡ Some y) × (y.number ≡ j) × EndsMarking b y t freed reply a
ends-of b a None t reply freed j span e w q = absurd (let f : says.NoMark ≡ says.Swept record { 0 = j } span = sym w.1 ∙ q in cc)
ends-of b a (Some y) t reply freed j span e w q = elim w [
  | inl v ↦ (y, e, ap swept_number (sym v.replies ∙ q), v)
  | inr v ↦ absurd (let f : says.MarkOpen record { 0 = y.number } ≡ says.Swept record { 0 = j } span = sym v.replies ∙ q in cc)
]

pub sweep-ends : (run : List Moment) → IsRunFrom opening run → (i j : ℕ) (freed : List ℕ) (s : SweepsAt run i j freed) → (y : JointMarking)
    × (s.element.before.marking ≡ Some y) × (y.number ≡ j) × EndsMarking s.element.before y s.element.noted.entry.made.caller freed s.element.noted.entry.made.reply s.element.after
sweep-ends run r i j freed s =
    let st = step-at run opening i s.element r s.there in
    let m = s.element in
    let w : JointSweep m.before m.before.marking m.noted.entry.made.caller m.noted.entry.made.reply (sweep_of freed) m.after =
    subst (λ z. JointEvent m.before m.noted.entry.made.caller op.Sweep m.noted.entry.made.reply z m.after) s.is.3
    (subst (λ z. JointEvent m.before m.noted.entry.made.caller z m.noted.entry.made.reply m.noted.told m.after) s.is.0 st.step) in
    ends-of m.before m.after m.before.marking m.noted.entry.made.caller m.noted.entry.made.reply freed j s.is.1 refl w s.is.2

pub sweeps_are_sound : SweepsAreSound
sweeps_are_sound entries run r i j p freed s c =
    let w = sweep-ends run r.steps i j freed s in
    let o = origin run r.steps i s.element s.there w.0 w.1 in (
      o.begin,
      o.earlier,
      subst (λ z. BeginsAt run o.begin z) w.2 o.begins,
      record {
        at_begin = λ m e v. (All-contains (λ x. IsStored w.0 x) freed p w.3.stored c).unreached (subst (λ g. IsReachedIn g (peer p)) (o.graph m e) v);
        before_sweep = λ m e v. All-contains (λ x. IsReached s.element.before (peer x) → ⊥) freed p w.3.unreached c
            (subst (λ (z : Moment). IsReached z.before (peer p)) (same_Some m s.element (sym e ∙ s.there)) v);
      },
    )
