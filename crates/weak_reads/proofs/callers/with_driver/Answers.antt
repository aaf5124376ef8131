use Rattle.std.proofs.Common.{sym, ◌∙◌, subst}
use Rattle.std.specs.Prelude.{All}
use Rattle.std.proofs.lemmas.List.Elements.{All-push}
use Rattle.joint_machine.specs.Lines.{IsThread}
use Rattle.joint_history.specs.Ending.{HasAll}
use Rattle.weak_reads.specs.Racing.{IsReady}
use Rattle.weak_reads.proofs.Racing.{given_goes_on, given_is_ready}
use Rattle.weak_reads.proofs.callers.with_driver.Goals as goal

pub drive-requires-clause-ready : goal.drive-requires-clause-ready
drive-requires-clause-ready g c = given_is_ready c.in-Some.driver (subst IsThread (sym c.in-Some.ensures.thread) tt) c.in-Some.ensures.nothing

pub returns-clause-all : goal.returns-clause-all
returns-clause-all g c =
    subst (HasAll c.caller.new.self) (sym c.in_ok-push.ensures.items)
    (given_goes_on c.args.desk.now c.caller.new.self c.caller.result c.in-Some.driver c.in_ok-driver.driver
    c.args.callers.items c.in-Some.is c.caller.ensures.all c.in_ok-driver.ensures.0.0 c.requires.all)

pub returns-clause-ready : goal.returns-clause-ready
returns-clause-ready g c =
    let ends = c.in_ok-driver.ensures in
    subst (All IsReady) (sym c.in_ok-push.ensures.items)
    (All-push IsReady c.args.callers.items c.in_ok-driver.driver c.requires.ready (subst IsThread (sym (ends.0.0 ∙ c.in-Some.ensures.thread)) tt, ends.0.1, ends.1))
