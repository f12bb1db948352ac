use Rattle.orders.proofs.Stand.{planner_agrees}
use Rattle.orders.proofs.planner_agrees.Goals as goal

pub returns : goal.returns
returns g c = planner_agrees g.A.Amount.ops g.met.A.Amount.lawful
