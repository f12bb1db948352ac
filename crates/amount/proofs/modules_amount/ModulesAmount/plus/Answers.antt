use Rattle.std.proofs.Common.{rules}
use Rattle.amount.specs.SetLaws.{sum_shown}
use Rattle.amount.proofs.modules_amount.ModulesAmount.plus.Goals as goal

pub returns : goal.returns
returns c = sum_shown c.args.self c.args.other _ c.then.ensures.variant c.then.ensures.some (λ x p. search rules)
