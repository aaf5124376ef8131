use Rattle.view_laws.proofs.HeldViews.{views_say_states, targets_agree}
use Rattle.view_laws.proofs.views_say_states.Goals as goal

pub returns-clause-states : goal.returns-clause-states
returns-clause-states c = views_say_states

pub returns-clause-targets : goal.returns-clause-targets
returns-clause-targets c = targets_agree
