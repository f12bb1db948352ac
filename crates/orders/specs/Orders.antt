-- Completion orders, and the walk that takes the lowest bay at each step. Assumes nothing.
use Rattle.std.specs.Prelude.{◌≡◌, ℕ, zero, suc, ◌<◌, Bool, true, false, cond, List, [], ◌∷◌, length, Some, None, Option, ◌==◌}
use Rattle.amount.specs.Arithmetic.{Ops}
use Rattle.pool.specs.Limits.{Bound, lowest_place}
use Rattle.orders.specs.Sessions.{Session, Bays, bay, emptied, AllEmpty, short_under}

-- bay i is open, and its need, claim less holding, is not Short
pub record Next {A : Type 0} (o : Ops A) (bs : List (Bound A)) (t : Bays A) (i : ℕ) : Type 0 where
  pub session : Session A
  pub need : A
  pub opened : bay t i ≡ Some session
  pub rest : o.minus session.claim session.holding ≡ Some need
  pub room : short_under o bs t session.mark need ≡ None

-- a completion order: walking it, each bay's need is not Short; then its holding is given back, and the bay is empty
abbrev pub Order : {A : Type 0} → Ops A → List (Bound A) → Bays A → List ℕ → Type 0
Order o bs t [] = AllEmpty t
Order o bs t (i ∷ is) = Next o bs t i × Order o bs (emptied t i) is

-- the order that takes at each step the lowest bay not yet named whose need is not Short
abbrev pub LowestFirst : {A : Type 0} → Ops A → List (Bound A) → Bays A → List ℕ → Type 0
LowestFirst o bs t [] = AllEmpty t
LowestFirst o bs t (i ∷ is) = Next o bs t i × ((j : ℕ) → j < i → ¬ (Next o bs t j)) × LowestFirst o bs (emptied t i) is

-- may this bay be the next of an order?
abbrev pub ready : {A : Type 0} → Ops A → List (Bound A) → Bays A → Option (Session A) → Bool
ready o bs t None = false
ready o bs t (Some s) = elim (o.minus s.claim s.holding) [ None ↦ false | Some n ↦ elim (short_under o bs t s.mark n) [ None ↦ true | Some p ↦ false ] ]

-- the lowest of some bays that may be next under t
abbrev pub lowest : {A : Type 0} → Ops A → List (Bound A) → Bays A → Bays A → Option ℕ
lowest o bs t us = lowest_place (ready o bs t) us

-- at most n steps of the walk
abbrev pub walk : {A : Type 0} → Ops A → List (Bound A) → ℕ → Bays A → List ℕ
walk o bs zero t = []
walk o bs (suc n) t = elim (lowest o bs t t) [ None ↦ [] | Some i ↦ i ∷ walk o bs n (emptied t i) ]

-- the walk to its end: there are no more steps than bays
abbrev pub lowest_walk : {A : Type 0} → Ops A → List (Bound A) → Bays A → List ℕ
lowest_walk o bs t = walk o bs (length t) t

-- how often a list names bay i
abbrev pub times : ℕ → List ℕ → ℕ
times i [] = 0
times i (j ∷ is) = cond (i == j) (suc (times i is)) (times i is)

-- once where the bay is open, else never
abbrev pub once : {A : Type 0} → Option (Session A) → ℕ
once None = 0
once (Some s) = 1
