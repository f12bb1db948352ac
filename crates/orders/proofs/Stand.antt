-- The theorems on orders and the planner.
use Rattle.std.proofs.Common.{ℕ, List, length}
use Rattle.amount.specs.Arithmetic.{Ops, Laws}
use Rattle.pool.specs.Limits.{Bound}
use Rattle.orders.specs.Orders.{Order, LowestFirst, lowest_walk}
use Rattle.orders.specs.Sessions.{Bays}
use Rattle.orders.specs.Theorems.{WalkComplete, PlannerAgrees}
use Rattle.orders.proofs.Bays.{dom_refl}
use Rattle.orders.proofs.Named.{names_once, lowest_unique}
use Rattle.orders.proofs.Planned.{moves_order, order_moves}
use Rattle.orders.proofs.Walked.{open_length, order_length, lowest_order, walk_names, walk_order}

module _ {A : Type 0} (o : Ops A) (L : Laws o) where
  -- where an order exists, the walk is the lowest-first one
  found : (bs : List (Bound A)) (t : Bays A) (is : List ℕ) → Order o bs t is → LowestFirst o bs t (lowest_walk o bs t)
  found bs t is r = walk_order o L bs (length t) t is (open_length t) r

  pub walk_complete : WalkComplete o
  walk_complete = record {
    exists = λ bs t. (
      λ p. order_length o bs (lowest_walk o bs t) t (lowest_order o bs (lowest_walk o bs t) t (found bs t p.0 p.1)),
      λ h. (lowest_walk o bs t, lowest_order o bs (lowest_walk o bs t) t (walk_names o bs (length t) t h)),
    );
    lowest = λ bs t h. walk_names o bs (length t) t h;
    order = λ bs t h. lowest_order o bs (lowest_walk o bs t) t (walk_names o bs (length t) t h);
    only = λ bs t is r. lowest_unique o bs is (lowest_walk o bs t) t r (found bs t is (lowest_order o bs is t r));
    names_once = λ bs t is r i. names_once o bs is t r i;
  }

  pub planner_agrees : PlannerAgrees o
  planner_agrees bs t h = (λ p. moves_order o L bs p.0 t t (dom_refl o L t) h p.1, λ p. order_moves o L bs p.0 t p.1)
