-- What laying an order on a sheet leaves and answers. Assumes nothing.
use Rattle.std.specs.Prelude.{◌≡◌, ℕ, ◌<◌, ◌≤◌, List, ◌++◌, length, drop, Ok, Err, Result}
use Rattle.search.specs.declared.sheet.ShortSheet.{ShortSheet}

-- the order in front of the sheet, whose rest stays, and how many bays it has; a sheet below 64 bytes stays
abbrev pub Filled : List ℕ → List ℕ → List ℕ → Result ℕ ShortSheet → Type 0
Filled is old new (Ok n) = (64 ≤ length old) × (n ≡ length is) × (new ≡ is ++ drop (length is) old)
Filled is old new (Err _) = (length old < 64) × (new ≡ old)
