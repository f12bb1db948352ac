-- The book's search for an order, on a trial copy of its pile. Assumes nothing.
use Rattle.std.specs.Prelude.{ℕ, zero, suc, Bool, true, false, List, [], ◌∷◌, length, Some, None, Ok, Err, Option}
use Rattle.amount.specs.Arithmetic.{Ops}
use Rattle.pool.specs.Limits.{Limit, lowest_place, short_place, giving}
use Rattle.orders.specs.Sessions.{Session, Bays, bay, emptied}

module _ {A : Type 0} (o : Ops A) where
  -- the session's need is not Short under the list as it is
  abbrev pub may_finish : List (Limit A) → Option (Session A) → Bool
  may_finish ls None = false
  may_finish ls (Some s) = elim (o.minus s.claim s.holding) [ None ↦ false | Some n ↦ elim (short_place o ls s.mark n) [ None ↦ true | Some p ↦ false ] ]

  -- its holding is given back
  abbrev pub finished : List (Limit A) → Option (Session A) → List (Limit A)
  finished ls None = ls
  finished ls (Some s) = elim (giving o ls s.mark s.holding) [ Ok new ↦ new | Err p ↦ ls ]

  -- at most n steps: at each the lowest bay not yet named that may finish
  abbrev pub safe_from : ℕ → List (Limit A) → Bays A → List ℕ
  safe_from zero ls t = []
  safe_from (suc n) ls t = elim (lowest_place (may_finish ls) t) [ None ↦ [] | Some i ↦ i ∷ safe_from n (finished ls (bay t i)) (emptied t i) ]

  abbrev pub safe_order : List (Limit A) → Bays A → List ℕ
  safe_order ls t = safe_from (length t) ls t
