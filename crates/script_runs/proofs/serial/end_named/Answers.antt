use Rattle.script_runs.proofs.serial.end_named.Goals as goal

pub returns-clause-history : goal.returns-clause-history
returns-clause-history g c = c.in_ok-shared.ensures.ran c.end.result.history c.end.ensures.linked c.end.ensures.finished c.end.ensures.few c.end.ensures.own c.end.ensures.begins
