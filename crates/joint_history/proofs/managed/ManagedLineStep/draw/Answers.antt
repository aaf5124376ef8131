use Rattle.joint_history.proofs.managed.ManagedLineStep.draw.Goals as goal

pub draw-requires-clause-asks : goal.draw-requires-clause-asks
draw-requires-clause-asks c = c.requires.asks

pub returns-clause-drew : goal.returns-clause-drew
returns-clause-drew c = c.draw.ensures.drew
