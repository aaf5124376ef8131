use Rattle.pass_c.proofs.checks.pass_resolve.Goals as goal

pub returns-in-Ok-None-clause-exact : goal.returns-in-Ok-None-clause-exact
returns-in-Ok-None-clause-exact c = λ z. c.in-Ok-None.ensures.exact c.in-Ok-None.field-0-is
