use Rattle.generated_laws.proofs.Alike.{generated_runs_are_alike}
use Rattle.generated_laws.proofs.laws.generated_runs_are_alike.Goals as goal

pub returns : goal.returns
returns c = generated_runs_are_alike
