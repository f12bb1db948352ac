use Rattle.pool.proofs.Stays.{bounds_stay}
use Rattle.pool.proofs.theorems.limits_stay.Goals as goal

pub returns : goal.returns
returns g c = bounds_stay g.A.Amount.ops
