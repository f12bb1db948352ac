-- What an archived kind is: amounts and lists of W bytes, one for one, up to a width of 16. Assumes nothing.
use Rattle.std.specs.Prelude.{◌≡◌, ℕ, ◌≤◌, cond, ◌&&◌, List, length, Some, None, Option, ◌==◌, nat_le}
use Rattle.archive.specs.Numbers.{Bytes}

-- x, where there are exactly w bytes and w is at most 16
abbrev pub exactly : {A : Type 0} → ℕ → List ℕ → Option A → Option A
exactly w bs x = cond (nat_le w 16 && length bs == w) x None

pub record Codec {A : Type 0} (width : ℕ) (bytes : A → List ℕ) (decode : List ℕ → Option A) : Type 0 where
  -- an amount has as many bytes as the kind is wide
  pub long : width ≤ 16 → (a : A) → length (bytes a) ≡ width
  pub in_bytes : width ≤ 16 → (a : A) → Bytes (bytes a)
  -- what is written reads back
  pub reads_back : width ≤ 16 → (a : A) → decode (bytes a) ≡ Some a
  -- what reads is the writing of what it reads as
  pub writes_back : (bs : List ℕ) (a : A) → Bytes bs → decode bs ≡ Some a → (width ≤ 16) × (bytes a ≡ bs)
  -- all bytes read that are as many as the kind is wide
  pub total : width ≤ 16 → (bs : List ℕ) → Bytes bs → length bs ≡ width → (a : A) × (decode bs ≡ Some a)
