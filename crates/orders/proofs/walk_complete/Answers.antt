use Rattle.orders.proofs.Stand.{walk_complete}
use Rattle.orders.proofs.walk_complete.Goals as goal

pub returns : goal.returns
returns g c = walk_complete g.A.Amount.ops g.met.A.Amount.lawful
