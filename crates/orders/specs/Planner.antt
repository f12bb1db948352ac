-- The planner's moves. Assumes nothing.
use Rattle.std.specs.Prelude.{◌≡◌, ℕ, List, [], ◌∷◌, Some, None, slice_set}
use Rattle.amount.specs.Arithmetic.{Ops, PartOf}
use Rattle.pool.specs.Limits.{Bound}
use Rattle.orders.specs.Sessions.{Session, with_holding, Bays, bay, emptied, AllEmpty, short_under}

-- hand an open bay an amount, or close a bay
pub data Move (A : Type 0) : Type 0 where
  hand : ℕ → A → Move A
  close : ℕ → Move A

-- t allows the move, and is then u: an amount is handed if holding plus amount is part of the claim and the amount is not
-- Short; a bay is closed if its holding equals its claim
abbrev pub Moves : {A : Type 0} → Ops A → List (Bound A) → Bays A → Move A → Bays A → Type 0
Moves {A} o bs t (hand i a) u =
    (s : Session A) × (h : A) × (bay t i ≡ Some s) × (o.plus s.holding a ≡ Some h) × PartOf o h s.claim × (short_under o bs t s.mark a ≡ None)
    × (u ≡ slice_set t i (Some (with_holding s h)))
Moves {A} o bs t (close i) u = (s : Session A) × (bay t i ≡ Some s) × (s.holding ≡ s.claim) × (u ≡ emptied t i)

-- the moves, one after another, empty every bay
abbrev pub Empties : {A : Type 0} → Ops A → List (Bound A) → Bays A → List (Move A) → Type 0
Empties o bs t [] = AllEmpty t
Empties {A} o bs t (m ∷ ms) = (u : Bays A) × Moves o bs t m u × Empties o bs u ms

-- the planner succeeds
abbrev pub Succeeds : {A : Type 0} → Ops A → List (Bound A) → Bays A → Type 0
Succeeds {A} o bs t = (ms : List (Move A)) × Empties o bs t ms
