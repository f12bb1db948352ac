-- One limit more above a pile leaves place 0 as it is: what the law of a layer cites.
use Rattle.std.specs.Prelude.{List, [], ◌∷◌, ◌++◌}
use Rattle.pool.specs.Limits.{Limit, Grounded}

pub grounded_push : {A : Type 0} (ls : List (Limit A)) (l : Limit A) → Grounded ls → Grounded (ls ++ (l ∷ []))
grounded_push [] l h = absurd h
grounded_push (x ∷ ls) l h = h
