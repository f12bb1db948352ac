-- What writing an amount leaves in its place. Assumes nothing.
use Rattle.std.specs.Prelude.{◌≡◌, ℕ, ◌≤◌, List, length, Ok, Err, Result, ◌≢◌}
use Rattle.archive.specs.declared.archived.WrongLength.{WrongLength}

-- the bytes bs fill a place of exactly w bytes, w being at most 16; any other place stays as it was
abbrev pub Wrote : ℕ → List ℕ → List ℕ → List ℕ → Result (Unit {0}) WrongLength → Type 0
Wrote w bs old new (Ok _) = (w ≤ 16) × (length old ≡ w) × (new ≡ bs)
Wrote w bs old new (Err _) = (w ≤ 16 → length old ≢ w) × (new ≡ old)
