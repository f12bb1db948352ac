use Rattle.std.proofs.Common.{rules, ◌∙◌}
use borrow.Author.Tests.{tests}
use Rattle.std.proofs.lemmas.Iterator.{YieldsList-from_slice}
use Rattle.std.proofs.lemmas.Iterator.Search.{any_from_yields_List}
use Rattle.law.specs.Book.{seen_row, holds_any}
use Rattle.rows.specs.Rows.{row_of}
use Rattle.rows.proofs.Bound.{kind_of}
use Rattle.book.proofs.Lowest.{any_seen}
use Rattle.book.proofs.questions.some_holding.Goals as goal

pub returns : goal.returns
returns g c =
    let o = g.A.Amount.ops in
    let f = row_of (kind_of g.A.Amount.ops g.A.Archived) in
    any_from_yields_List (λ r. holds_any o (seen_row (f r))) _ _ _ c.any.ensures.ran (YieldsList-from_slice c.args.rows.now (cc)) (λ x b q k. search (rules, tests)) ∙ any_seen (holds_any o) f c.args.rows.now
