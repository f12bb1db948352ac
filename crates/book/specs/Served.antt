-- A call of a book, and what it has to come to. Assumes nothing.
use Rattle.std.specs.Prelude.{◌≡◌, List}
use Rattle.pool.specs.Limits.{Limit}
use Rattle.law.specs.Book.{Call, Answer}
use Rattle.law.specs.Book as machine
use Rattle.rows.specs.Kinds.{Kind}
use Rattle.book.specs.Books.{state_of}
use Rattle.book.specs.declared.book.Book.{Book}

-- the call is answered as the machine answers it, and leaves the book as the machine leaves it
pub record Served {A P : Type 0} (kind : Kind A) (limits : P → List (Limit A)) (old : Book A P) (call : Call A) (given : Answer) (new : Book A P) : Type 0 where
  pub answer : given ≡ machine.answer kind.ops (state_of kind limits old) call
  pub after : state_of kind limits new ≡ machine.step kind.ops (state_of kind limits old) call
