-- A handle that an `adopt` or a `meet` names was adopted by nobody, since its thread has it in hand; and these two
-- cite, and no other step does.
use Rattle.std.proofs.Common.{◌≡◌, ℕ, Option, ◌∙◌, subst}
use Rattle.std.specs.Prelude.{Contains}
use Rattle.joint_machine.specs.declared.names.Thread.{Thread}
use Rattle.joint_machine.specs.declared.names.Thread.TheVariants.{M, P, C}
use Rattle.joint_machine.specs.declared.names.HNum.{HNum}
use Rattle.joint_machine.specs.declared.names.PNum.{PNum}
use Rattle.joint_machine.specs.declared.names.Sort.{Sort}
use Rattle.joint_machine.specs.declared.names.Var.{Var}
use Rattle.joint_machine.specs.declared.names.Kind.{Kind}
use Rattle.joint_machine.specs.declared.events.Op.{Op}
use Rattle.joint_machine.specs.declared.events.Op.TheVariants as op
use Rattle.joint_machine.specs.Control.{Doing, free, made, lent, gripped, given, met, doing_at, ThreadAllows}
use Rattle.joint_machine.specs.Linked.{Linkage}
use Rattle.known_laws.specs.Driving.{PastInvariant}
use Rattle.known_laws.proofs.Conditions.{made_is_new, gripped_is_new}
use Rattle.known_laws.specs.Pasts.{end_of}
use Rattle.known_laws.proofs.KnownPasts.{past_invariant_holds}
use Rattle.joint_machine.specs.ManagedReplay.{ManagedReplay}
use Rattle.joint_machine.specs.Sides.{Side}
use Rattle.order_table.specs.declared.views.View.{View}
use Rattle.order_table.specs.Views.{Owns}
use Rattle.managed_heap.specs.Steps.{IsFresh, IsManagedStep, IsStepBy}
use Rattle.joint_history.specs.Callers.{HoldsPass}
use Rattle.joint_history.specs.Locked.{ManagedKnows, MayMake, IsTurn, doing_of}
use Rattle.seat_calls.specs.Passing.{Lends}
use Rattle.joint_history.proofs.LockedSteps.{lent_joined, own_told, doing_told}

adopt_fresh : (s : Linkage) → PastInvariant s → (t line : ℕ) (d : Doing) (v : Var) (kind : Kind) (k : ℕ) (p : PNum) (h : HNum) (cites : Option ℕ)
    → doing_at s.control t ≡ d → ThreadAllows d (M t) line (op.Adopt v kind k p h) cites → Contains s.managed.adopted h.0 → ⊥
adopt_fresh s kept t line free v kind k p h cites e w c = w
adopt_fresh s kept t line (made n l p' h' sort f) v kind k p h cites e w c = made_is_new s kept t n l p' h' sort f e (subst (λ x. Contains s.managed.adopted x) w.3 c)
adopt_fresh s kept t line (lent n l h' x) v kind k p h cites e w c = w
adopt_fresh s kept t line (gripped n l p' h' sort f) v kind k p h cites e w c = w
adopt_fresh s kept t line (given n l h') v kind k p h cites e w c = w
adopt_fresh s kept t line (met n l h') v kind k p h cites e w c = w

meet_fresh : (s : Linkage) → PastInvariant s → (t line : ℕ) (d : Doing) (v : Var) (p : PNum) (h : HNum) (sort : Sort) (k : ℕ) (cites : Option ℕ)
    → doing_at s.control t ≡ d → ThreadAllows d (M t) line (op.Meet v sort k p h) cites → Contains s.managed.adopted h.0 → ⊥
meet_fresh s kept t line free v p h sort k cites e w c = w
meet_fresh s kept t line (made n l p' h' sort' f) v p h sort k cites e w c = w
meet_fresh s kept t line (lent n l h' x) v p h sort k cites e w c = w
meet_fresh s kept t line (gripped n l p' h' sort' f) v p h sort k cites e w c = gripped_is_new s kept t n l p' h' sort' f e (subst (λ x. Contains s.managed.adopted x) w.3 c)
meet_fresh s kept t line (given n l h') v p h sort k cites e w c = w
meet_fresh s kept t line (met n l h') v p h sort k cites e w c = w

pub turn_is_fresh : (s : Linkage) → PastInvariant s → (t line : ℕ) (d : Doing) (o : Op) (cites : Option ℕ) → doing_at s.control t ≡ d → ThreadAllows d (M t) line o cites → IsFresh s.managed o
turn_is_fresh s kept t line d (op.Adopt v kind k p h) cites e w = adopt_fresh s kept t line d v kind k p h cites e w
turn_is_fresh s kept t line d (op.Meet v sort k p h) cites e w = meet_fresh s kept t line d v p h sort k cites e w
turn_is_fresh s kept t line d o cites e w = tt

-- whoever makes a step with a handle in hand is a managed thread
step_fresh : (t : Thread) (s : Linkage) → PastInvariant s → (line : ℕ) (d : Doing) (o : Op) (cites : Option ℕ)
    → IsManagedStep t o → doing_of t s.control ≡ d → IsTurn t d line o cites → IsFresh s.managed o
step_fresh (M n) s kept line d o cites is e w = turn_is_fresh s kept n line d o cites e w
step_fresh (P n) s kept line d o cites is e w = others o is.1
  where
    others : (q : Op) → IsStepBy (P n) q → IsFresh s.managed q
    others (op.Adopt v kind k p h) b = absurd b
    others (op.Meet v sort k p h) b = absurd b
    others q b = tt
step_fresh C s kept line d o cites is e w = absurd w

-- so it is under the managed lock, once the caller's lines were handed over
pub turn_is_fresh_for : (t : Thread) (locked mine handed mine1 : View) (side : Side ManagedReplay) (index : ℕ) (o : Op) (cites : Option ℕ) → IsManagedStep t o
    → HoldsPass t mine → Owns locked 0 → ManagedKnows locked side → MayMake t mine index o cites → Lends t locked mine handed mine1 → IsFresh side.state o
turn_is_fresh_for t locked mine handed mine1 side index o cites is pass owns ks may l =
    let j = lent_joined t locked mine handed mine1 l ks.known may.stands.known in
    let state = j.managed_first (l.whole 0 owns) ∙ ks.state in
    subst (λ s. IsFresh s o) state (step_fresh t (end_of j.joined.known.past) (past_invariant_holds j.joined.known.past j.joined.known.lawful) index may.doing o cites is
    (doing_told t j.joined.known.past may.stands.known.known.past (own_told t locked mine handed mine1 l ks.known may.stands.known pass) ∙ may.stands.doing) may.turn)
