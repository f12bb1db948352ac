-- A kind of archived amounts. Assumes nothing.
use Rattle.std.specs.Prelude.{ℕ, List, Option}
use Rattle.amount.specs.Arithmetic.{Ops}

-- its operations, how many bytes an amount has, the bytes of an amount, and the amount of bytes
abbrev pub Kind : Type 0 → Type 0
Kind A = record { ops : Ops A; W : ℕ; bytes : A → List ℕ; decode : List ℕ → Option A }
