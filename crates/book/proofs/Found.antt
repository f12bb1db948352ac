-- What the question order leaves.
use Rattle.std.proofs.Common.{◌≡◌, ℕ, List, Ok, Err, Result, refl}
use Rattle.std.specs.Result.{MatchResult}
use Rattle.rows.specs.declared.refusal.Refusal.{Refusal}
use Rattle.book.specs.Replies.{of_count}
use Rattle.amount.specs.Arithmetic.{Ops}
use Rattle.law.specs.Book.{Answer, State, accepted, refused, ordered, seen, orders, moved, filled, sheet_by}
use Rattle.law.specs.SafeOrder.{safe_order}

-- the question leaves the state as it was
pub order_stays : {A : Type 0} (o : Ops A) (st : State A) (sheet : List ℕ) (r : Answer) → moved o st (orders sheet) r ≡ st
order_stays o st sheet (refused k p) = refl
order_stays o st sheet (accepted r) = refl

-- its order on the sheet, or the sheet as it was
pub order_sheet : {A : Type 0} (o : Ops A) (st : State A) (sheet : List ℕ) (r : Result ℕ Refusal) (new : List ℕ) → MatchResult r (λ _. new ≡ filled o (safe_order o st.pile (seen st.rows)) sheet) (λ _. new ≡ sheet)
    → new ≡ sheet_by o st (orders sheet) (of_count ordered r)
order_sheet o st sheet (Ok n) new h = h
order_sheet o st sheet (Err e) new h = h
