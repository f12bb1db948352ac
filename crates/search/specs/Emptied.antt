-- What a search leaves of its bays. Assumes nothing.
use Rattle.std.specs.Prelude.{ℕ, List, [], ◌∷◌}
use Rattle.orders.specs.Sessions.{Bays, emptied}

-- the bays without those that are named
abbrev pub without : {A : Type 0} → List ℕ → Bays A → Bays A
without [] t = t
without (i ∷ is) t = without is (emptied t i)
