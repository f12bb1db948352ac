-- The legend: each refusal of the book with its number and its value. Assumes nothing.
use Rattle.std.specs.Prelude.{ℕ, Some, None, Option}
use Rattle.law.specs.Book.{Answer, refused}
use Rattle.rows.specs.declared.refusal.Refusal.{Refusal}
use Rattle.rows.specs.declared.refusal.Refusal.TheVariants.{Shut, NoBay, NoMark, Moving, Taken, Empty, TallClaim, AboveClaim, NoRoom, PutOff, MoreThanHeld, ShortSheet, WrongSlip, Torn}

-- the number, and the place of the limit where one is told
abbrev pub legend : Refusal → ℕ × Option ℕ
legend Shut = (1, None)
legend NoBay = (2, None)
legend NoMark = (3, None)
legend Moving = (4, None)
legend Taken = (5, None)
legend Empty = (6, None)
legend (TallClaim f) = (7, Some f.place)
legend AboveClaim = (8, None)
legend (NoRoom f) = (9, Some f.place)
legend PutOff = (10, None)
legend MoreThanHeld = (11, None)
legend ShortSheet = (12, None)
legend WrongSlip = (13, None)
legend (Torn _) = (14, None)

abbrev pub number_of : Refusal → ℕ
number_of e = (legend e).0

abbrev pub place_of : Refusal → Option ℕ
place_of e = (legend e).1

-- the refusal as the machine answers it
abbrev pub refusal : Refusal → Answer
refusal e = refused (number_of e) (place_of e)
