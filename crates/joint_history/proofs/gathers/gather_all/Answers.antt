use Rattle.std.proofs.Common.{◌≡◌, ◌∙◌, ℕ, [], ◌++◌, Option, Some, subst}
use Rattle.std.specs.Prelude.{slice_get}
use Rattle.std.proofs.lemmas.List.{length-map}
use Rattle.joint_model.specs.Listed.{Stock, entry_lists}
use Rattle.joint_history.specs.Callers.{Pass}
use Rattle.joint_history.specs.Desks.{WaitsAt, present}
use Rattle.joint_history.specs.Ending.{GathersAll, TakesOwn, threads_of}
use Rattle.joint_history.proofs.Ended.{all_in, takes_side, takes_then, waiting_knows_none}
use Rattle.joint_history.proofs.gathers.gather_all.Goals as goal

pub returns-clause-gathers : goal.returns-clause-gathers
returns-clause-gathers g c = λ l r knows others role other_role.
    let old = entry_lists c.args.lists.now in
    let mid = entry_lists c.gather.new.lists in
    let new = entry_lists c.gather_waiting.new.lists in
    all_in c.args.seat.now.view c.args.other.view c.learn.new.seat.view c.gather.new.seat.view
    c.gather_waiting.new.seat.view l r old mid new c.args.callers.items c.args.desk knows others role other_role
    c.learn.ensures.takes c.learn.ensures.one_history (length-map c.args.lists.now (λ (s : Stock). s.entries) ∙ c.requires.ten) c.gather.ensures.gathers
    (subst (λ os. GathersAll c.gather.new.seat.view c.gather_waiting.new.seat.view mid new (threads_of (present os))) c.into_callers.ensures.callers c.gather_waiting.ensures.gathers) c.requires.all
    (subst (λ os. (i : ℕ) (o : Option Pass) → slice_get os i ≡ Some o → WaitsAt i o) c.into_callers.ensures.callers c.into_callers.ensures.waits)

pub returns-clause-own : goal.returns-clause-own
returns-clause-own g c =
    takes_then c.args.seat.now.view c.learn.new.seat.view c.gather_waiting.new.seat.view [] (c.args.callers.items ++ present c.args.desk.callers)
    (takes_side c.args.seat.now.view c.args.other.view c.learn.new.seat.view c.learn.ensures.takes)
    (takes_then c.learn.new.seat.view c.gather.new.seat.view c.gather_waiting.new.seat.view c.args.callers.items (present c.args.desk.callers) c.gather.ensures.own
    (subst (λ os. TakesOwn c.gather.new.seat.view c.gather_waiting.new.seat.view (present os)) c.into_callers.ensures.callers c.gather_waiting.ensures.own))

pub returns-clause-waiting : goal.returns-clause-waiting
returns-clause-waiting g c =
    waiting_knows_none c.args.seat.now.view c.gather_waiting.new.seat.view c.args.desk c.args.callers.items (returns-clause-own g c)
    (subst (λ os. (i : ℕ) (o : Option Pass) → slice_get os i ≡ Some o → WaitsAt i o) c.into_callers.ensures.callers c.into_callers.ensures.waits)
