-- Which event of a thread may come next, by what its seat knows: the first of an operation, or the one that follows its
-- last.
use Rattle.std.proofs.Common.{◌≡◌, ℕ, ◌≤◌, Option, Some, None, refl, sym, subst, arith}
use Rattle.joint_machine.specs.declared.names.Thread.{Thread}
use Rattle.joint_machine.specs.declared.names.Thread.TheVariants.{M, P, C}
use Rattle.joint_machine.specs.declared.names.HNum.{HNum}
use Rattle.joint_machine.specs.declared.names.PNum.{PNum}
use Rattle.joint_machine.specs.declared.names.StaticNo.{StaticNo}
use Rattle.joint_machine.specs.declared.names.Var.{Var}
use Rattle.joint_machine.specs.declared.names.Kind.{Kind}
use Rattle.joint_machine.specs.declared.names.Sort.{Sort}
use Rattle.joint_machine.specs.declared.lines.Act.TheVariants as act
use Rattle.joint_machine.specs.declared.events.Op.{Op}
use Rattle.joint_machine.specs.declared.events.Op.TheVariants as op
use Rattle.joint_machine.specs.declared.events.Reply.{Reply}
use Rattle.joint_machine.specs.declared.events.Reply.TheVariants as says
use Rattle.joint_machine.specs.Control.{Doing, made, lent, gripped, given, met, IsDone}
use Rattle.joint_machine.specs.Draws.{numbered}
use Rattle.joint_machine.specs.HistoryLines.{caller_line}
use Rattle.joint_machine.specs.Lines.{IsThread, IsLine}
use Rattle.joint_machine.specs.Linked.{Linkage}
use Rattle.known_laws.specs.Pasts.{end_of}
use Rattle.known_laws.specs.Turns.{OpensOperation}
use Rattle.order_table.specs.declared.views.View.{View}
use Rattle.joint_history.specs.Knowing.{line_known}
use Rattle.joint_history.specs.Callers.{CallerKnows, HasReleased, last_index}
use Rattle.joint_history.specs.Locked.{IsTurn, Makes, MakesNone, MayMake, Stands, doing_from, doing_of, made_by}
use Rattle.joint_history.specs.Operations.{IsOwnThread, MayBegin}
use Rattle.joint_history.proofs.LastLines.{last_line_is}
use Rattle.known_laws.proofs.Turning.{starts}

done_by : (t : Thread) (s : Linkage) → HasReleased t s → IsDone (doing_of t s.control)
done_by (M n) s r = r
done_by (P n) s r = tt
done_by C s r = tt

-- a caller may begin an operation on a line that isn't below that of its last entry
pub caller_begins : (t : Thread) (v : View) (index : ℕ) → IsThread t → CallerKnows t v → last_index (line_known v (caller_line t)) ≤ index → MayBegin t v index
caller_begins t v index is k l = record {
  doing = doing_of t (end_of k.known.known.past).control;
  stands = record {
    known = k.known;
    last = (let e = last_line_is v k.known t is in omega (arith, e, l));
    doing = refl;
  };
  done = done_by t (end_of k.known.known.past) k.released;
}

released_by : (t : Thread) (s : Linkage) (d : Doing) → doing_of t s.control ≡ d → IsDone d → HasReleased t s
released_by (M n) s d e w = subst IsDone (sym e) w
released_by (P n) s d e w = tt
released_by C s d e w = tt

-- and it has ended one where it has nothing left to release
pub stands_knows : (t : Thread) (v : View) (index : ℕ) (d : Doing) → Stands t v index d → IsDone d → CallerKnows t v
stands_knows t v index d s w = record { known = s.known; released = released_by t (end_of s.known.known.past) d s.doing w }

first_turn : (t : Thread) (d : Doing) (index : ℕ) (o : Op) → IsOwnThread t → IsDone d → OpensOperation o → IsTurn t d index o None
first_turn (M n) d index o is w f = starts d (M n) index o f w
first_turn (P n) d index o is w f = refl
first_turn C d index o is w f = absurd is

-- the first event of an operation
pub first_may : (t : Thread) (v : View) (index : ℕ) (o : Op) → IsOwnThread t → MayBegin t v index → OpensOperation o → MayMake t v index o None
first_may t v index o is b f = record { doing = b.doing; stands = b.stands; turn = first_turn t b.doing index o is b.done f }

-- where nothing was made, the thread may still begin
pub begins_still : (t : Thread) (old new : View) (index : ℕ) → MakesNone t old new → MayBegin t old index → MayBegin t new index
begins_still t old new index m b = record { doing = b.doing; stands = m.stands index b.doing b.stands; done = b.done }

-- an `adopt` after its make
pub then_adopt : (n : ℕ) (old new : View) (k index : ℕ) (sort : Sort) (f : ℕ) (p : PNum) (h : HNum) (cites : Option ℕ) (v : Var) (kind : Kind) (fields : ℕ)
    → Makes (M n) old new (numbered k (made_by (M n) index (op.Make sort f) (says.Made p h) cites)) → IsLine (M n) (act.Bridge v kind fields sort f)
    → MayMake (M n) new index (op.Adopt v kind fields p h) (Some k)
then_adopt n old new k index sort f p h cites v kind fields m line = record { doing = made k index p.0 h.0 sort f; stands = m.stands; turn = (refl, refl, refl, refl, line) }

-- a `land` after its lend
pub then_land : (n : ℕ) (old new : View) (k index : ℕ) (v : Var) (x : StaticNo) (h : HNum) (cites : Option ℕ)
    → Makes (M n) old new (numbered k (made_by (M n) index (op.Lend v x) (says.H h) cites)) → MayMake (M n) new index (op.Land h x) (Some k)
then_land n old new k index v x h cites m = record { doing = lent k index h.0 x.0; stands = m.stands; turn = (refl, refl, refl, refl) }

-- a `meet` after its grip
pub then_meet : (n : ℕ) (old new : View) (k index : ℕ) (x : StaticNo) (p : PNum) (h : HNum) (sort : Sort) (f : ℕ) (cites : Option ℕ) (v : Var)
    → Makes (M n) old new (numbered k (made_by (M n) index (op.Grip x) (says.Gripped p h sort f) cites)) → MayMake (M n) new index (op.Meet v sort f p h) (Some k)
then_meet n old new k index x p h sort f cites v m = record { doing = gripped k index p.0 h.0 sort f; stands = m.stands; turn = (refl, refl, refl, refl, refl, refl) }

-- a `release` after its give
pub then_release : (n : ℕ) (old new : View) (k index : ℕ) (v : Var) (h : HNum) (cites : Option ℕ)
    → Makes (M n) old new (numbered k (made_by (M n) index (op.Give v) (says.H h) cites)) → MayMake (M n) new index (op.Release h) (Some k)
then_release n old new k index v h cites m = record { doing = given k index h.0; stands = m.stands; turn = (refl, refl, refl) }

-- a `release` after a meet that took no handle
pub met_then_release : (n : ℕ) (old new : View) (k index : ℕ) (v : Var) (p : PNum) (h : HNum) (sort : Sort) (f : ℕ) (reply : Reply) (cites : Option ℕ)
    → Makes (M n) old new (numbered k (made_by (M n) index (op.Meet v sort f p h) reply cites))
    → doing_from (M n) (numbered k (made_by (M n) index (op.Meet v sort f p h) reply cites)) ≡ met k index h.0 → MayMake (M n) new index (op.Release h) (Some k)
met_then_release n old new k index v p h sort f reply cites m e = record { doing = met k index h.0; stands = subst (Stands (M n) new index) e m.stands; turn = (refl, refl, refl) }
