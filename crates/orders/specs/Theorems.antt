-- What orders, the walk and the planner have to do with each other. Assumes nothing.
use Rattle.std.specs.Prelude.{◌≡◌, ℕ, ◌↔◌, List, length}
use Rattle.amount.specs.Arithmetic.{Ops}
use Rattle.pool.specs.Limits.{Bound}
use Rattle.orders.specs.Orders.{Order, LowestFirst, lowest_walk, times, once}
use Rattle.orders.specs.Planner.{Succeeds}
use Rattle.orders.specs.Sessions.{Bays, bay, open_bays, WithinCeilings}

-- the walk names every open bay exactly when some completion order exists, and is then the lowest-first one, and the only one
pub record WalkComplete {A : Type 0} (o : Ops A) : Type 0 where
  pub exists : (bs : List (Bound A)) (t : Bays A) → ((is : List ℕ) × Order o bs t is) ↔ (length (lowest_walk o bs t) ≡ open_bays t)
  pub lowest : (bs : List (Bound A)) (t : Bays A) → length (lowest_walk o bs t) ≡ open_bays t → LowestFirst o bs t (lowest_walk o bs t)
  pub order : (bs : List (Bound A)) (t : Bays A) → length (lowest_walk o bs t) ≡ open_bays t → Order o bs t (lowest_walk o bs t)
  pub only : (bs : List (Bound A)) (t : Bays A) (is : List ℕ) → LowestFirst o bs t is → is ≡ lowest_walk o bs t
  -- a completion order names each open bay once, and no other
  pub names_once : (bs : List (Bound A)) (t : Bays A) (is : List ℕ) → Order o bs t is → (i : ℕ) → times i is ≡ once (bay t i)

-- from bays whose sums are defined and part of the ceilings, the planner succeeds exactly when a completion order exists
abbrev pub PlannerAgrees : {A : Type 0} → Ops A → Type 0
PlannerAgrees {A} o = (bs : List (Bound A)) (t : Bays A) → WithinCeilings o bs t → Succeeds o bs t ↔ ((is : List ℕ) × Order o bs t is)
