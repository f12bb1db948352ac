-- What a book means: a state of the machine that the law over whole days is about. Assumes nothing.
use Rattle.std.specs.Prelude.{List}
use Rattle.pool.specs.Limits.{Limit}
use Rattle.law.specs.Book.{State}
use Rattle.rows.specs.Kinds.{Kind}
use Rattle.book.specs.Tables.{is_shut, rows_in}
use Rattle.book.specs.declared.book.Book.{Book}
use Rattle.book.specs.declared.table.Table.{Table}

-- a table over a list of limits
abbrev pub state_with : {A : Type 0} → Kind A → Table → List (Limit A) → State A
state_with kind t ls = record { shut = is_shut kind.W t; number = t.number; pile = ls; rows = rows_in kind t }

abbrev pub state_of : {A P : Type 0} → Kind A → (P → List (Limit A)) → Book A P → State A
state_of kind limits b = state_with kind b.table (limits b.pile)
