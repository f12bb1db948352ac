-- The order that the search finds, where it names every open bay. Assumes nothing.
use Rattle.std.specs.Prelude.{ℕ, cond, List, length, Some, None, Option, ◌==◌}
use Rattle.amount.specs.Arithmetic.{Ops}
use Rattle.pool.specs.Limits.{Limit}
use Rattle.orders.specs.Sessions.{Bays, open_bays}
use Rattle.law.specs.SafeOrder.{safe_order}

-- absent where an open bay is not named
abbrev pub completing : {A : Type 0} → Ops A → List (Limit A) → Bays A → Option (List ℕ)
completing o ls t = cond (length (safe_order o ls t) == open_bays t) (Some (safe_order o ls t)) None
