use Rattle.law.proofs.Day.{law_of_days}
use Rattle.law.proofs.law_of_days.Goals as goal

pub returns : goal.returns
returns g c = law_of_days g.A.Amount.ops g.met.A.Amount.lawful
