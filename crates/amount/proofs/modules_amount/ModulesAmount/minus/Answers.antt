use Rattle.std.proofs.Common.{rules}
use Rattle.amount.specs.SetLaws.{minus_shown}
use Rattle.amount.proofs.modules_amount.ModulesAmount.minus.Goals as goal

pub returns : goal.returns
returns c = minus_shown c.args.part c.args.self _ c.then.ensures.variant c.then.ensures.some (λ x p. search rules)
