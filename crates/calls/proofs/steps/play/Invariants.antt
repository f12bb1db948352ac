use Rattle.rows.proofs.Bound.{kind_of}
use Rattle.book.specs.Books.{state_of}
use Rattle.calls.specs.Held.{Held}
use Rattle.calls.proofs.steps.play.Given as goal

abbrev pub invariant-loop-i : goal.invariant-loop-i
invariant-loop-i g l = Held (state_of (kind_of g.A.Amount.ops g.A.Archived) g.P.Pool.limits l.book) l.held
