-- A place is there where some element passes the test.
use Rattle.std.proofs.Common.{◌≡◌, ℕ, ◌+◌, Bool, true, false, cond, ◌||◌, List, [], ◌∷◌, map, is_some, Some, None, Option, refl, ap, ◌∙◌}
use Rattle.std.specs.List.{list_any}
use Rattle.amount.specs.Arithmetic.{bind}
use Rattle.pool.specs.Limits.{lowest_place}
use Rattle.orders.specs.Sessions.{Session}
use Rattle.law.specs.Book.{seen, seen_row}
use Rattle.law.specs.Book as machine
use Rattle.rows.specs.declared.row.Row.{Row}

some_first : (t : Bool) (x : Option ℕ) → t || is_some x ≡ is_some (cond t (Some 0) (bind x (λ p. Some (p + 1))))
some_first true x = refl
some_first false None = refl
some_first false (Some p) = refl

pub any_is_lowest : {X : Type 0} (test : X → Bool) (xs : List X) → list_any test xs ≡ is_some (lowest_place test xs)
any_is_lowest test [] = refl
any_is_lowest test (x ∷ xs) = ap (λ b. test x || b) (any_is_lowest test xs) ∙ some_first (test x) (lowest_place test xs)

-- of the bays that the rows are
pub any_seen : {A : Type 0} (test : Option (Session A) → Bool) (f : Row → machine.Row A) (rows : List Row) → list_any (λ r. test (seen_row (f r))) rows ≡ is_some (lowest_place test (seen (map f rows)))
any_seen test f [] = refl
any_seen test f (r ∷ rows) = ap (λ b. test (seen_row (f r)) || b) (any_seen test f rows) ∙ some_first (test (seen_row (f r))) (lowest_place test (seen (map f rows)))
