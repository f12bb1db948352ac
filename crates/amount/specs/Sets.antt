-- Sets of modules: the sum is the union, undefined where two sets share a module. Assumes nothing.
use Rattle.std.specs.Prelude.{ℕ, ◌-◌, ◌^◌, ◌<◌, ◌==◌, bit_and, bit_or}
use Rattle.std.proofs.Math.Decide.{ℕ_discrete}
use Rattle.std.proofs.Common.{arith, lit<}
use Rattle.std.proofs.lemmas.Nat.{or_lt}
use Rattle.amount.specs.Arithmetic.{Ops}
use Rattle.amount.specs.Counts.{given}
use Rattle.amount.specs.declared.modules.Modules.{Modules}

abbrev pub modules : (n : ℕ) → n < 2 ^ 64 → Modules
modules n h = record { names = n; fits = h }

pub less_fits : (a b n : ℕ) → b < n → b - a < n
less_fits a b n h = omega arith

-- the modules of either
abbrev pub union : Modules → Modules → Modules
union a b = modules (bit_or a.names b.names) (or_lt 64 a.names b.names a.fits b.fits)

-- the modules of b that are not in a, where all of a's are in b
abbrev pub without : Modules → Modules → Modules
without b a = modules (b.names - a.names) (less_fits a.names b.names (2 ^ 64) b.fits)

abbrev pub modules_ops : Ops Modules
modules_ops = record {
  zero = modules 0 (lit< tt);
  -- where they share no module
  plus = λ a b. given (ℕ_discrete (bit_and a.names b.names) 0) (λ _. union a b);
  -- where what they share is all of a
  minus = λ b a. given (ℕ_discrete (bit_and a.names b.names) a.names) (λ _. without b a);
  equal = λ a b. (a.names == b.names);
}
