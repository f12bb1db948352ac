use Rattle.std.proofs.Common.{rules, ◌∙◌}
use borrow.Author.Tests.{tests}
use Rattle.std.proofs.lemmas.Iterator.{YieldsList-from_slice}
use Rattle.std.proofs.lemmas.Iterator.Search.{any_from_yields_List}
use Rattle.book.specs.Tables.{moves}
use Rattle.book.proofs.Lowest.{any_is_lowest}
use Rattle.book.proofs.table.some_moving.Goals as goal

pub returns : goal.returns
returns c = any_from_yields_List moves _ _ _ c.any.ensures.ran (YieldsList-from_slice c.args.rows.now (cc)) (λ x b q k. search (rules, tests)) ∙ any_is_lowest moves c.args.rows.now
