use Rattle.diagrams.proofs.Calls.Again.{exchange_again_granted}
use Rattle.diagrams.proofs.exchange_again_granted_stands.Goals as goal

pub returns : goal.returns
returns c = exchange_again_granted
