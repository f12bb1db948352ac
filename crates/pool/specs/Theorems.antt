-- Marks and ceilings stay whatever is taken and given; places and counts above 255 are told as 255. Assumes nothing.
use Rattle.std.specs.Prelude.{◌≡◌, ℕ, ◌+◌, ◌≤◌, false, List, [], ◌∷◌, ◌++◌, length, replicate, Some, Ok}
use Rattle.amount.specs.Arithmetic.{Ops}
use Rattle.pool.specs.Limits.{Limit, limit, bounds, every_number, part, told, told_place, tall_place, taking, giving}

pub record BoundsStay {A : Type 0} (o : Ops A) : Type 0 where
  pub after_take : (ls new : List (Limit A)) (m : ℕ) (a : A) → taking o ls m a ≡ Ok new → bounds new ≡ bounds ls
  pub after_give : (ls new : List (Limit A)) (m : ℕ) (a : A) → giving o ls m a ≡ Ok new → bounds new ≡ bounds ls

-- n limits that watch nothing, and above them one that watches every number and has room for zero alone
abbrev pub stacked : {A : Type 0} → Ops A → ℕ → List (Limit A)
stacked o n = replicate n (limit (λ m. false) o.zero o.zero) ++ (limit every_number o.zero o.zero ∷ [])

pub record ToldAsBytes {A : Type 0} (o : Ops A) : Type 0 where
  pub small : (n : ℕ) → n ≤ 255 → told n ≡ n
  pub large : (n : ℕ) → 255 ≤ n → told n ≡ 255
  -- the place that refuses, however high it is, and how many places there are
  pub place : (n m : ℕ) (a : A) → part o a o.zero ≡ false → told_place (tall_place o (stacked o n) m a) ≡ Some (told n)
  pub count : (n : ℕ) → told (length (stacked o n)) ≡ told (n + 1)
