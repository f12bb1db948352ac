-- The limits of a store, a layer, a cap and a reserve. Assumes nothing.
use Rattle.std.specs.Prelude.{ℕ, Bool, List, [], ◌∷◌, ◌++◌}
use Rattle.pool.specs.declared.cap.Marks.{Marks}
use Rattle.pool.specs.declared.gauge.Gauge.{Gauge}
use Rattle.pool.specs.declared.layer.Layer.{Layer}
use Rattle.pool.specs.declared.reserve.AllBut.{AllBut}
use Rattle.pool.specs.declared.store.Store.{Store}
use Rattle.pool.specs.Limits.{Limit, limit, every_number, in_marks, all_but}

-- the limit that a gauge is, for the numbers that it watches
abbrev pub gauged : {A : Type 0} → (ℕ → Bool) → Gauge A → Limit A
gauged watches g = limit watches g.ceiling g.out

abbrev pub store_limits : {A : Type 0} → Store A → List (Limit A)
store_limits s = gauged every_number s.gauge ∷ []

-- one limit above those of the pile below
abbrev pub layer_limits : {A P W : Type 0} → (P → List (Limit A)) → (W → ℕ → Bool) → Layer A P W → List (Limit A)
layer_limits below watched s = below s.below ++ (gauged (watched s.watch) s.gauge ∷ [])

-- a cap is the layer for a set of marks, a reserve that for every number but one
abbrev pub cap_limits : {A P : Type 0} → (P → List (Limit A)) → Layer A P Marks → List (Limit A)
cap_limits below s = layer_limits below (λ w. in_marks w.bits) s

abbrev pub reserve_limits : {A P : Type 0} → (P → List (Limit A)) → Layer A P AllBut → List (Limit A)
reserve_limits below s = layer_limits below (λ w. all_but w.kept) s
