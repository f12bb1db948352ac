use Rattle.pool.proofs.Stays.{told_as_bytes}
use Rattle.pool.proofs.theorems.places_are_told.Goals as goal

pub returns : goal.returns
returns g c = told_as_bytes g.A.Amount.ops
