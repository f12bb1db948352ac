-- The law over whole days, of one book. Assumes nothing.
use Rattle.std.specs.Prelude.{ℕ, ◌≤◌, List}
use Rattle.amount.specs.Arithmetic.{Ops}
use Rattle.pool.specs.Limits.{Limit, bounds, Idle}
use Rattle.law.specs.Book.{State, Call, after}
use Rattle.law.specs.Law.{Moment, kept}
use Rattle.law.specs.Tally.{blank}

-- of a new book over the limits ls: before the first call and after each of any list of calls, what it and a patient planner share
abbrev pub Days : {A : Type 0} → Ops A → ℕ → List (Limit A) → State A → Type 0
Days {A} o width ls st = width ≤ 16 → Idle o ls → (cs : List (Call A)) → Moment o (bounds ls) st.number (after o st cs) (kept o st (blank o) cs)
