-- The tests over what is kept are the first two of an entry, case by case; and what is kept goes on as the control
-- does.
use Rattle.std.proofs.Common.{◌≡◌, ℕ, zero, suc, ◌+◌, Bool, true, false, List, [], ◌∷◌, ◌++◌, length, map, Option, Some, None, refl, sym, ap, ◌∙◌, subst, arith, length-append}
use Rattle.std.proofs.lemmas.List.{map-set}
use Rattle.std.proofs.lemmas.List.Elements.{All-contains}
use Rattle.std.specs.Prelude.{◌↔◌, slice_get, slice_set, is_some, All}
use Rattle.joint_machine.specs.declared.names.HNum.{HNum}
use Rattle.joint_machine.specs.declared.names.Phase.{Phase}
use Rattle.joint_machine.specs.declared.names.Phase.TheVariants as at
use Rattle.joint_machine.specs.declared.names.Thread.{Thread}
use Rattle.joint_machine.specs.declared.names.Thread.TheVariants.{M, P, C}
use Rattle.joint_machine.specs.declared.events.Op.{Op}
use Rattle.joint_machine.specs.declared.events.Op.TheVariants as op
use Rattle.joint_machine.specs.declared.events.Reply.{Reply}
use Rattle.joint_machine.specs.declared.events.Reply.TheVariants as says
use Rattle.joint_machine.specs.Control as control
use Rattle.joint_machine.specs.Control.{Control, doing_at, control_after, IsAtRest, IsCandidateHandle}
use Rattle.joint_machine.specs.Lines.{IsEvent}
use Rattle.joint_machine.specs.Linked.{Linkage}
use Rattle.joint_machine.specs.Managed.{Managed, candidates_of}
use Rattle.joint_machine.specs.PeerReplay.{Marking}
use Rattle.joint_machine.specs.Told.{Told, Answer, contraction_of, phase_of}
use Rattle.joint_machine.proofs.Members.{All-members, Contains-at, at-Contains, Contains-map, Contains-map_cases}
use Rattle.check_laws.specs.Order as order
use Rattle.check_laws.specs.Order.{IsTurn}
use Rattle.caller_turns.specs.declared.stands.Part.{Part}
use Rattle.caller_turns.specs.declared.stands.Stand.TheVariants as stand
use Rattle.caller_turns.specs.Shapes.{hand_of, open_of, stand_of, callers_of, next_place, IsPartOf, TurnsAreTested, TellsPhase, CallersGoOn, WholeIsTested}
use Rattle.caller_turns.specs.Turns.{MayBegin, HandTurn, IsResting, DriverTurn, CallersTurn, hand_after, seen_after, stand_after}

-- the half of an operation
hand-in : (ds : List control.Doing) (t : ℕ) → (elim (slice_get (map hand_of ds) t) [ None ↦ hand_of control.free | Some d ↦ d ]) ≡ hand_of (elim (slice_get ds t) [ None ↦ control.free | Some d ↦ d ])
hand-in [] t = refl
hand-in (d ∷ ds) zero = refl
hand-in (d ∷ ds) (suc t) = hand-in ds t

begin-tested : (d : control.Doing) → MayBegin (hand_of d) ↔ order.MayBegin d
begin-tested control.free = (λ z. z, λ z. z)
begin-tested (control.made n line p h sort f) = (λ z. z, λ z. z)
begin-tested (control.lent n line h x) = (λ z. z, λ z. z)
begin-tested (control.gripped n line p h sort f) = (λ z. z, λ z. z)
begin-tested (control.given n line h) = (λ z. z, λ z. z)
begin-tested (control.met n line h) = (λ z. z, λ z. z)

hand-tested : (d : control.Doing) (n l : ℕ) (o : Op) → IsEvent (M n) o → HandTurn (hand_of d) l o ↔ order.ThreadTurn d (M n) l o
hand-tested (control.made k line p h sort f) n l (op.Adopt v kind i p' h') e = (λ z. (z.0, (e.0, (e.1, z.1, z.2))), λ z. (z.0, z.1.1.1, z.1.1.2))
hand-tested control.free n l (op.Adopt v kind i p' h') e = (λ z. z, λ z. z)
hand-tested (control.lent k line h x) n l (op.Adopt v kind i p' h') e = (λ z. z, λ z. z)
hand-tested (control.gripped k line p h sort f) n l (op.Adopt v kind i p' h') e = (λ z. z, λ z. z)
hand-tested (control.given k line h) n l (op.Adopt v kind i p' h') e = (λ z. z, λ z. z)
hand-tested (control.met k line h) n l (op.Adopt v kind i p' h') e = (λ z. z, λ z. z)
hand-tested control.free n l (op.Land h x) e = (λ z. z, λ z. z)
hand-tested (control.made k line p h' sort f) n l (op.Land h x) e = (λ z. z, λ z. z)
hand-tested (control.lent k line h' y) n l (op.Land h x) e = (λ z. z, λ z. z)
hand-tested (control.gripped k line p h' sort f) n l (op.Land h x) e = (λ z. z, λ z. z)
hand-tested (control.given k line h') n l (op.Land h x) e = (λ z. z, λ z. z)
hand-tested (control.met k line h') n l (op.Land h x) e = (λ z. z, λ z. z)
hand-tested control.free n l (op.Meet v s i p h) e = (λ z. z, λ z. z)
hand-tested (control.made k line p' h' sort f) n l (op.Meet v s i p h) e = (λ z. z, λ z. z)
hand-tested (control.lent k line h' y) n l (op.Meet v s i p h) e = (λ z. z, λ z. z)
hand-tested (control.gripped k line p' h' sort f) n l (op.Meet v s i p h) e = (λ z. z, λ z. z)
hand-tested (control.given k line h') n l (op.Meet v s i p h) e = (λ z. z, λ z. z)
hand-tested (control.met k line h') n l (op.Meet v s i p h) e = (λ z. z, λ z. z)
hand-tested control.free n l (op.Release h) e = (λ z. z, λ z. z)
hand-tested (control.made k line p' h' sort f) n l (op.Release h) e = (λ z. z, λ z. z)
hand-tested (control.lent k line h' y) n l (op.Release h) e = (λ z. z, λ z. z)
hand-tested (control.gripped k line p' h' sort f) n l (op.Release h) e = (λ z. z, λ z. z)
hand-tested (control.given k line h') n l (op.Release h) e = (λ z. z, λ z. z)
hand-tested (control.met k line h') n l (op.Release h) e = (λ z. z, λ z. z)
hand-tested d n l o e = begin-tested d

-- the driver's events
empty : (xs : List Answer) → (length xs ≡ 0) ↔ (xs ≡ [])
empty [] = (λ z. refl, λ z. refl)
empty (x ∷ xs) = (λ z. absurd (omega (arith, z)), λ z. absurd (cc))

rest-tested : (d : control.Stand) (c : ℕ) → IsResting (stand_of d) c ↔ IsAtRest d c
rest-tested control.idle c = (λ z. z, λ z. z)
rest-tested (control.snapped o) c = (λ z. z, λ z. z)
rest-tested (control.contracted o comps heavy xrefs) c = (λ z. z, λ z. z)
rest-tested (control.weakening o count weakened swept) c = (λ z. z, λ z. z)
rest-tested (control.marked o) c = (λ z. z, λ z. z)
rest-tested (control.restoring o answers) c = empty answers
rest-tested (control.restored o answers clear) c = (λ z. z, λ z. z)

begin-at : (s : Managed) (part : Part) (o : control.OpenSnap) (count : ℕ) (weakened swept : Bool) (x : Option Marking) → part.candidates ≡ length (candidates_of s) → part.marking ≡ is_some x
    → ((count ≡ part.candidates) × (part.marking ≡ false)) ↔ order.BeginTurn (control.weakening o count weakened swept) (length (candidates_of s)) x
begin-at s part o count weakened swept None many e = (λ z. z.0 ∙ many, λ z. (z ∙ sym many, e))
begin-at s part o count weakened swept (Some y) many e = (λ z. absurd (let f : true ≡ false = sym e ∙ z.1 in cc), λ z. absurd z)

sweep-at : (s : Managed) (part : Part) (o : control.OpenSnap) (count : ℕ) (weakened swept : Bool) (x : Option Marking) → part.candidates ≡ length (candidates_of s) → part.marking ≡ is_some x
    → ((count ≡ part.candidates) × (swept ≡ false) × (part.marking ≡ true)) ↔ order.SweepTurn (control.weakening o count weakened swept) (length (candidates_of s)) x
sweep-at s part o count weakened swept None many e = (λ z. absurd (let f : false ≡ true = sym e ∙ z.2 in cc), λ z. absurd z)
sweep-at s part o count weakened swept (Some y) many e = (λ z. (z.0 ∙ many, z.1), λ z. (z.0 ∙ sym many, z.1, e))

abbrev Next : Managed → Part → control.Stand → Type 0
Next s part d = (h : HNum) → (part.next ≡ Some h) ↔ IsCandidateHandle s (next_place d) h.0

resting : (s : Managed) (part : Part) (d : control.Stand) → part.candidates ≡ length (candidates_of s) → IsResting (stand_of d) part.candidates ↔ IsAtRest d (length (candidates_of s))
resting s part d many = subst (λ c. IsResting (stand_of d) part.candidates ↔ IsAtRest d c) many (rest-tested d part.candidates)

driver-tested : (s : Managed) (marking : Option Marking) (part : Part) (d : control.Stand) (o : Op) → part.candidates ≡ length (candidates_of s)
    → part.marking ≡ is_some marking → Next s part d → DriverTurn (stand_of d) part o ↔ order.DriverTurn d s marking o
driver-tested s marking part d (op.Line a) many now next = resting s part d many
driver-tested s marking part d (op.Refused w) many now next = resting s part d many
driver-tested s marking part (control.weakening o count weakened swept) (op.Weaken h) many now next = (λ z. (z.0, (next h).0 z.1), λ z. (z.0, (next h).1 z.1))
driver-tested s marking part (control.weakening o count weakened swept) op.Begin many now next = begin-at s part o count weakened swept marking many now
driver-tested s marking part (control.weakening o count weakened swept) op.Sweep many now next = sweep-at s part o count weakened swept marking many now
driver-tested s marking part (control.restoring o answers) (op.Restore h) many now next = next h
driver-tested s marking part (control.restoring o answers) (op.Clear k) many now next = (λ z. z ∙ many, λ z. z ∙ sym many)
driver-tested s marking part control.idle o many now next = (λ z. z, λ z. z)
driver-tested s marking part (control.snapped q) o many now next = (λ z. z, λ z. z)
driver-tested s marking part (control.contracted q comps heavy xrefs) o many now next = (λ z. z, λ z. z)
driver-tested s marking part (control.weakening q count weakened swept) o many now next = (λ z. z, λ z. z)
driver-tested s marking part (control.marked q) o many now next = (λ z. z, λ z. z)
driver-tested s marking part (control.restoring q answers) o many now next = (λ z. z, λ z. z)
driver-tested s marking part (control.restored q answers clear) o many now next = (λ z. z, λ z. z)

callers-tested : (s : Linkage) (part : Part) (t : Thread) (l : ℕ) (o : Op) → IsPartOf s part → IsEvent t o → CallersTurn (callers_of s.control) part t l o ↔ order.CallersTurn s t l o
callers-tested s part (M n) l o p e = subst (λ d. HandTurn d l o ↔ order.ThreadTurn (doing_at s.control n) (M n) l o) (sym (hand-in s.control.doing n)) (hand-tested (doing_at s.control n) n l o e)
callers-tested s part (P n) l o p e = (λ z. z, λ z. z)
callers-tested s part C l o p e = driver-tested s.managed.managed s.peer.marking part s.control.stand o p.candidates p.marking p.next

pub turns_tested : TurnsAreTested
turns_tested s part m p short = (
  λ z. record { event = z.event; line = z.line; short = short; turn = (callers-tested s part m.caller m.index m.op p z.event).0 z.turn },
  λ z. record { event = z.event; line = z.line; turn = (callers-tested s part m.caller m.index m.op p z.event).1 z.turn },
)

-- after an entry
hand-on : (n l : ℕ) (o : Op) (reply : Reply) → hand_after n l o reply ≡ hand_of (control.doing_after n l o reply)
hand-on n l (op.Make sort f) (says.Made p h) = refl
hand-on n l (op.Make sort f) reply = refl
hand-on n l (op.Lend v x) (says.H h) = refl
hand-on n l (op.Lend v x) reply = refl
hand-on n l (op.Grip x) (says.Gripped p h sort f) = refl
hand-on n l (op.Grip x) reply = refl
hand-on n l (op.Give v) (says.H h) = refl
hand-on n l (op.Give v) reply = refl
hand-on n l (op.Meet v sort f p h) (says.New m) = refl
hand-on n l (op.Meet v sort f p h) reply = refl
hand-on n l o reply = refl

seen-on : (weakened : Bool) (phase : Phase) → seen_after weakened phase ≡ control.seen_weakened weakened (phase_of phase)
seen-on weakened at.Weakened = refl
seen-on weakened phase = refl

stand-on : (d : control.Stand) (n : ℕ) (o : Op) (reply : Reply) (told : Told) (phase : Phase)
    → TellsPhase o told phase → stand_after (stand_of d) n o phase ≡ stand_of (control.stand_after d n o reply told)
stand-on d n (op.Snap k) reply told phase t = refl
stand-on (control.snapped q) n (op.Contract k) reply (contraction_of comps heavy xrefs) phase t = refl
stand-on d n (op.Contract k) reply (contraction_of comps heavy xrefs) phase t = refl
stand-on d n (op.Contract k) reply told phase t = absurd t
stand-on (control.weakening q count weakened swept) n (op.Refused w) reply told phase t = ap
    (λ b. stand_of (control.weakening q count b swept)) (seen-on weakened phase ∙ ap (control.seen_weakened weakened) (sym t))
stand-on (control.restoring q answers) n (op.Restore h) reply told phase t = ap (λ k. stand.Restoring (open_of q) k)
    (let e = length-append answers (control.answer_in reply ∷ []) in let f : length answers + 1 ≡ length (answers ++ control.answer_in reply ∷ []) = omega (arith, e) in f)
stand-on control.idle n o reply told phase t = refl
stand-on (control.snapped q) n o reply told phase t = refl
stand-on (control.contracted q comps heavy xrefs) n o reply told phase t = refl
stand-on (control.weakening q count weakened swept) n o reply told phase t = refl
stand-on (control.marked q) n o reply told phase t = refl
stand-on (control.restoring q answers) n o reply told phase t = refl
stand-on (control.restored q answers clear) n o reply told phase t = refl

pub callers_on : CallersGoOn
callers_on k n (M u) l o reply told phase t = λ i. record {
  hands = (ap (slice_set (map hand_of k.doing) u) (hand-on n l o reply) ∙ sym (map-set hand_of k.doing u (control.doing_after n l o reply))) i;
  lines = slice_set k.lines (control.caller_place (M u)) l;
  stand = stand_of k.stand;
}
callers_on k n (P u) l o reply told phase t = refl
callers_on k n C l o reply told phase t = λ i. record { hands = map hand_of k.doing; lines = slice_set k.lines 0 l; stand = stand-on k.stand n o reply told phase t i }

-- nothing has to follow
done-tested : (d : control.Doing) → MayBegin (hand_of d) ↔ control.IsDone d
done-tested control.free = (λ z. z, λ z. z)
done-tested (control.made n line p h sort f) = (λ z. z, λ z. z)
done-tested (control.lent n line h x) = (λ z. z, λ z. z)
done-tested (control.gripped n line p h sort f) = (λ z. z, λ z. z)
done-tested (control.given n line h) = (λ z. z, λ z. z)
done-tested (control.met n line h) = (λ z. z, λ z. z)

abbrev DoneAt : List control.Doing → ℕ → Type 0
DoneAt ds t = control.IsDone (elim (slice_get ds t) [ None ↦ control.free | Some d ↦ d ])

all-done : (ds : List control.Doing) → All MayBegin (map hand_of ds) → (t : ℕ) → DoneAt ds t
all-done ds a t = by (slice_get ds t) refl
  where
    by : (o : Option control.Doing) → slice_get ds t ≡ o → control.IsDone (elim o [ None ↦ control.free | Some d ↦ d ])
    by None e = tt
    by (Some d) e = (done-tested d).0 (All-contains MayBegin (map hand_of ds) (hand_of d) a (Contains-map hand_of ds d (Contains-at ds t d e)))

done-all : (ds : List control.Doing) → ((t : ℕ) → DoneAt ds t) → All MayBegin (map hand_of ds)
done-all ds a = All-members MayBegin (map hand_of ds) (λ x c.
    let m = Contains-map_cases hand_of ds x c in
    let i = at-Contains ds m.0 m.1 in
    subst MayBegin m.2 ((done-tested m.0).1 (subst (λ (o : Option control.Doing). control.IsDone (elim o [ None ↦ control.free | Some d ↦ d ])) i.1 (a i.0))))

pub whole_tested : WholeIsTested
whole_tested s candidates e = (
  λ z. record {
    threads = all-done s.control.doing z.hands;
    driver =
        (subst (λ c. IsResting (stand_of s.control.stand) candidates ↔ IsAtRest s.control.stand c) e (rest-tested s.control.stand candidates)).0 z.driver;
  },
  λ w. record {
    hands = done-all s.control.doing w.threads;
    driver =
        (subst (λ c. IsResting (stand_of s.control.stand) candidates ↔ IsAtRest s.control.stand c) e (rest-tested s.control.stand candidates)).1 w.driver;
  },
)
