use Rattle.std.proofs.Common.{rules}
use Rattle.amount.specs.CountLaws.{amps_minus_shown}
use Rattle.amount.proofs.amps_amount.AmpsAmount.minus.Goals as goal

pub returns : goal.returns
returns c = amps_minus_shown c.args.part c.args.self _ _ c.checked_sub.ensures c.map.ensures.cases (λ x r p. search rules)
