use Rattle.std.proofs.Common.{Bool, not, ◌||◌, leb, List, sym, ap, ◌∙◌, subst, ap₂}
use Rattle.law.specs.Book.{State}
use Rattle.law.specs.Book as machine
use Rattle.law.proofs.Day.{law_of_days}
use Rattle.rows.specs.Rows.{vacant, row_of}
use Rattle.rows.proofs.Bound.{kind_of}
use Rattle.book.specs.Books.{state_with}
use Rattle.book.specs.Days.{Days}
use Rattle.book.proofs.Made.{idle_is, map_replicate}
use Rattle.book.proofs.book.Book.new.Goals as goal

pub returns : goal.returns
returns g c =
    let o = g.A.Amount.ops in
    let w = g.A.Archived.W in
    let f = row_of (kind_of g.A.Amount.ops g.A.Archived) in
    let ls = g.P.Pool.limits c.args.pile in
    let F : Bool → List (machine.Row g.row.A.Denot) → State g.row.A.Denot = λ b rows. record { shut = not (leb w 16) || not b; number = c.args.number; pile = ls; rows = rows } in
    let made =
    ap (λ t. state_with (kind_of o g.A.Archived) t ls) c.vacant.ensures
    ∙ ap₂ F (idle_is o g.met.A.Amount.lawful c.idle.result ls c.idle.ensures) (map_replicate f vacant 64) in
    record { made = made; law = subst (Days o w ls) (sym made) (law_of_days o g.met.A.Amount.lawful w c.args.number ls) }
