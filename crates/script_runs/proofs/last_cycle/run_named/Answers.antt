use Rattle.script_runs.proofs.last_cycle.run_named.Goals as goal

pub end-requires-clause-all : goal.end-requires-clause-all
end-requires-clause-all g c = c.in-Ok.ensures.all c.in_ok-shared.desk c.in_ok-shared.ensures.all

pub returns-in-Ok-clause-history : goal.returns-in-Ok-clause-history
returns-in-Ok-clause-history g c =
    c.in-Ok.ensures.ran c.end.result.history c.in_ok-shared.desk c.in_ok-shared.ensures.all c.in_ok-shared.ensures.none
    c.end.ensures.finished c.end.ensures.few c.end.ensures.own c.end.ensures.none
