use Rattle.diagrams.proofs.Calls.Runs.{runs_go_on}
use Rattle.diagrams.proofs.runs_go_on_stands.Goals as goal

pub returns : goal.returns
returns c = runs_go_on
