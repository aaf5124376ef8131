-- What a step of the peer side asks for holds in its thread's turn: a release names a handle that the thread gave up,
-- or met and didn't take.
use Rattle.std.proofs.Common.{◌≡◌, ℕ, Option, None, sym, ◌∙◌, subst}
use Rattle.joint_machine.specs.declared.names.Thread.{Thread}
use Rattle.joint_machine.specs.declared.names.Thread.TheVariants.{M, P, C}
use Rattle.joint_machine.specs.declared.names.HNum.{HNum}
use Rattle.joint_machine.specs.declared.lines.Act.{Act}
use Rattle.joint_machine.specs.declared.lines.Act.TheVariants as act
use Rattle.joint_machine.specs.declared.events.Op.{Op}
use Rattle.joint_machine.specs.declared.events.Op.TheVariants as op
use Rattle.joint_machine.specs.Control.{Doing, free, made, lent, gripped, given, met, doing_at, ThreadAllows}
use Rattle.joint_machine.specs.Lines.{IsPeerThread}
use Rattle.joint_machine.specs.Linked.{Linkage}
use Rattle.joint_machine.specs.PeerReplay.{PeerReplay, PeerAllows, MayRelease}
use Rattle.joint_machine.specs.Sides.{Side}
use Rattle.joint_machine.specs.Told.{nothing}
use Rattle.known_laws.specs.Driving.{PastInvariant}
use Rattle.known_laws.specs.Pasts.{end_of}
use Rattle.known_laws.proofs.Conditions.{given_may_be_released, met_may_be_released}
use Rattle.known_laws.proofs.KnownPasts.{past_invariant_holds}
use Rattle.order_table.specs.declared.views.View.{View}
use Rattle.order_table.specs.Views.{Owns}
use Rattle.peer_heap.specs.Steps.{IsPeerStep, IsStepLine}
use Rattle.joint_history.specs.Callers.{HoldsPass}
use Rattle.joint_history.specs.Locked.{PeerKnows, MayMake, IsTurn, doing_of}
use Rattle.joint_history.specs.PeerCalls.{AllowsCall, IsPeerCall}
use Rattle.seat_calls.specs.Passing.{Lends}
use Rattle.joint_history.proofs.LockedSteps.{lent_joined, own_told, doing_told}

line_allowed : (s : PeerReplay) (t : Thread) (a : Act) (cites : Option ℕ) → IsStepLine a → PeerAllows s t (op.Line a) cites nothing
line_allowed s t (act.Slice n) cites b = absurd b
line_allowed s t a cites b = tt

release_allowed : (s : Linkage) → PastInvariant s → (t line : ℕ) (d : Doing) (h : HNum) (cites : Option ℕ)
    → doing_at s.control t ≡ d → ThreadAllows d (M t) line (op.Release h) cites → MayRelease s.peer h.0
release_allowed s kept t line free h cites e w = absurd w
release_allowed s kept t line (made n l p h' sort f) h cites e w = absurd w
release_allowed s kept t line (lent n l h' x) h cites e w = absurd w
release_allowed s kept t line (gripped n l p h' sort f) h cites e w = absurd w
release_allowed s kept t line (given n l h') h cites e w = subst (MayRelease s.peer) (sym w.2) (given_may_be_released s kept t n l h' e)
release_allowed s kept t line (met n l h') h cites e w = subst (MayRelease s.peer) (sym w.2) (met_may_be_released s kept t n l h' e)

release_of : (t : Thread) (s : Linkage) → PastInvariant s → (line : ℕ) (d : Doing) (h : HNum) (cites : Option ℕ)
    → IsPeerStep t (op.Release h) → doing_of t s.control ≡ d → IsTurn t d line (op.Release h) cites → MayRelease s.peer h.0
release_of (M n) s kept line d h cites is e w = release_allowed s kept n line d h cites e w
release_of (P n) s kept line d h cites is e w = absurd is
release_of C s kept line d h cites is e w = absurd is

step_allowed : (t : Thread) (s : Linkage) → PastInvariant s → (line : ℕ) (d : Doing) (o : Op) (cites : Option ℕ)
    → IsPeerStep t o → doing_of t s.control ≡ d → IsTurn t d line o cites → PeerAllows s.peer t o cites nothing
step_allowed t s kept line d (op.Line a) cites is e w = line_allowed s.peer t a cites is.2
step_allowed t s kept line d (op.Make sort n) cites is e w = tt
step_allowed t s kept line d (op.Land h x) cites is e w = tt
step_allowed t s kept line d (op.Grip x) cites is e w = tt
step_allowed t s kept line d (op.Release h) cites is e w = release_of t s kept line d h cites is e w
step_allowed t s kept line d o cites is e w = absurd is

-- what a call of the peer side asks for, too: a thread's own marking cites nothing
bare_turn : (t : Thread) (d : Doing) (line : ℕ) (o : Op) (cites : Option ℕ) → IsPeerThread t → IsTurn t d line o cites → cites ≡ None
bare_turn (M n) d line o cites is w = absurd is
bare_turn (P n) d line o cites is w = w
bare_turn C d line o cites is w = absurd is

call_allowed : (t : Thread) (s : Linkage) → PastInvariant s → (line : ℕ) (d : Doing) (o : Op) (cites : Option ℕ)
    → IsPeerCall t o → doing_of t s.control ≡ d → IsTurn t d line o cites → AllowsCall s.peer t o cites
call_allowed t s kept line d op.Begin cites is e w = bare_turn t d line op.Begin cites is w
call_allowed t s kept line d op.Sweep cites is e w = bare_turn t d line op.Sweep cites is w
call_allowed t s kept line d (op.Line (act.Slice n)) cites is e w = bare_turn t d line (op.Line (act.Slice n)) cites is.0 w
call_allowed t s kept line d o cites is e w = step_allowed t s kept line d o cites is e w

-- so it is under the peer lock, once the caller's lines were handed over
pub turn_is_allowed : (t : Thread) (locked mine handed mine1 : View) (side : Side PeerReplay) (index : ℕ) (o : Op) (cites : Option ℕ) → IsPeerCall t o
    → HoldsPass t mine → Owns locked 1 → PeerKnows locked side → MayMake t mine index o cites → Lends t locked mine handed mine1 → AllowsCall side.state t o cites
turn_is_allowed t locked mine handed mine1 side index o cites is pass owns ks may l =
    let j = lent_joined t locked mine handed mine1 l ks.known may.stands.known in
    let state = j.peer_first (l.whole 1 owns) ∙ ks.state in
    subst (λ s. AllowsCall s t o cites) state (call_allowed t (end_of j.joined.known.past) (past_invariant_holds j.joined.known.past j.joined.known.lawful) index may.doing o cites is
    (doing_told t j.joined.known.past may.stands.known.known.past (own_told t locked mine handed mine1 l ks.known may.stands.known pass) ∙ may.stands.doing) may.turn)
