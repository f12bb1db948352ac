use Rattle.std.proofs.Common.{◌∙◌, rules}
use Rattle.std.proofs.lemmas.Iterator.{YieldsList-from_slice}
use Rattle.std.proofs.lemmas.Iterator.Search.{position_from_yields_List}
use Rattle.law.specs.SafeOrder.{may_finish}
use Rattle.search.proofs.Lowest.{lowest_position}
use Rattle.search.proofs.trial.Trial.next_bay.Goals as goal
use borrow.Author.Tests.{tests}

pub returns-clause-bay : goal.returns-clause-bay
returns-clause-bay g c =
    let test = may_finish g.A.Amount.ops (g.P.Pool.limits c.args.pile.now) in
    let bays = c.args.self.now in
    position_from_yields_List test _ _ c.position.result c.position.ensures.ran (YieldsList-from_slice bays (c.iter.ensures.rest ∙ c.self.view_is)) (λ x b q k. search (rules, tests)) ∙ lowest_position test bays
