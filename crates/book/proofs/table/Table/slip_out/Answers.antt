use Rattle.std.proofs.Common.{is_some, ap, ◌∙◌}
use Rattle.rows.proofs.Bound.{kind_of}
use Rattle.book.proofs.Read.{slip_is}
use Rattle.book.proofs.table.Table.slip_out.Goals as goal

pub returns : goal.returns
returns g c = c.some_moving.ensures ∙ ap is_some (slip_is (kind_of g.A.Amount.ops g.A.Archived) c.args.self.now.rows)
