-- Numbers as bytes, high byte first. Assumes nothing.
use Rattle.std.specs.Prelude.{ℕ, zero, suc, ◌/◌, ◌%◌, List, [], ◌∷◌, ◌++◌}
use Rattle.std.specs.Int.Digits.{number_from_digits, AllBelowBase}

-- each is a byte
abbrev pub Bytes : List ℕ → Type 0
Bytes bs = AllBelowBase 256 bs

-- the number that bytes write
abbrev pub number_of : List ℕ → ℕ
number_of bs = number_from_digits 256 bs

-- the last k bytes of a number
abbrev pub big_endian : ℕ → ℕ → List ℕ
big_endian zero n = []
big_endian (suc k) n = big_endian k (n / 256) ++ (n % 256 ∷ [])
