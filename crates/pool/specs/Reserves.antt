-- What the making of a reserve answers. Assumes nothing.
use Rattle.std.specs.Prelude.{◌≡◌, ℕ, List, [], ◌∷◌, ◌++◌, Some, None, Ok, Err, Option, Result}
use Rattle.amount.specs.Arithmetic.{Ops}
use Rattle.pool.specs.declared.layer.Layer.{Layer}
use Rattle.pool.specs.declared.reserve.AllBut.{AllBut}
use Rattle.pool.specs.declared.reserve.TallReserve.{TallReserve}
use Rattle.pool.specs.Limits.{Limit, limit, all_but, whole_of}
use Rattle.pool.specs.Piles.{reserve_limits}

-- by the whole less the amount: one limit more for every number but the kept one, or the pile handed back
abbrev pub Made : {A P : Type 0} → A → (P → List (Limit A)) → P → ℕ → Option A → Result (Layer A P AllBut) (TallReserve P) → Type 0
Made zero limits below kept (Some rest) (Ok r) = reserve_limits limits r ≡ limits below ++ (limit (all_but kept) rest zero ∷ [])
Made zero limits below kept (Some rest) (Err e) = ⊥
Made zero limits below kept None (Ok r) = ⊥
Made zero limits below kept None (Err e) = e.pile ≡ below

abbrev pub Reserved : {A P : Type 0} → Ops A → (P → List (Limit A)) → P → ℕ → A → Result (Layer A P AllBut) (TallReserve P) → Type 0
Reserved o limits below kept a r = Made o.zero limits below kept (o.minus (whole_of o (limits below)) a) r
