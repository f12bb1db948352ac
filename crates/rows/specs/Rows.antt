-- What a row means: its bay, with the session that its bytes are. Assumes nothing.
use Rattle.std.specs.Prelude.{replicate}
use Rattle.orders.specs.Sessions.{Session}
use Rattle.law.specs.Book.{empty, rest, moving}
use Rattle.law.specs.Book as book
use Rattle.rows.specs.Cells.{amount_in}
use Rattle.rows.specs.Kinds.{Kind}
use Rattle.rows.specs.declared.cell.Cell.{Cell}
use Rattle.rows.specs.declared.row.Row.{Row}
use Rattle.rows.specs.declared.row.RowState.{RowState}
use Rattle.rows.specs.declared.row.RowState.TheVariants.{Empty, AtRest, Moving}

abbrev pub blank : Cell
blank = record { bytes = replicate 16 0 }

-- an empty bay as it is made
abbrev pub vacant : Row
vacant = record { state = Empty; mark = 0; claim = blank; holding = blank; portion = blank }

-- the bay by its tag; what an empty or resting one has in other bytes means nothing
abbrev pub by_state : {A : Type 0} → RowState → Session A → A → book.Row A
by_state Empty s a = empty
by_state AtRest s a = rest s
by_state Moving s a = moving s a

module _ {A : Type 0} (kind : Kind A) where
  abbrev pub session_in : Row → Session A
  session_in r = record { mark = r.mark; claim = amount_in kind r.claim; holding = amount_in kind r.holding }

  abbrev pub row_of : Row → book.Row A
  row_of r = by_state r.state (session_in r) (amount_in kind r.portion)
