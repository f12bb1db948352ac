-- The width of a pair of kinds. Assumes nothing.
use Rattle.std.specs.Prelude.{ℕ, ◌+◌, cond, nat_le}

-- each side is tested against 16 before the two are summed; 17 stands for anything above 16
abbrev pub joined : ℕ → ℕ → ℕ
joined l r = cond (nat_le l 16) (cond (nat_le r 16) (cond (nat_le (l + r) 16) (l + r) 17) 17) 17
