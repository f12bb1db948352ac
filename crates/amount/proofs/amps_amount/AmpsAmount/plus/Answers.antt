use Rattle.std.proofs.Common.{rules}
use Rattle.amount.specs.CountLaws.{amps_sum_shown}
use Rattle.amount.proofs.amps_amount.AmpsAmount.plus.Goals as goal

pub returns : goal.returns
returns c = amps_sum_shown c.args.self c.args.other _ _ c.checked_add.ensures c.map.ensures.cases (λ x r p. search rules)
