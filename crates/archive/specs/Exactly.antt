-- Widths, and bytes of exactly a width.
use Rattle.std.specs.Prelude.{◌≡◌, ℕ, ◌+◌, ◌<◌, ◌≤◌, List, length, Some, None, Option, ◌≢◌, nat_le}
use Rattle.std.proofs.Common.{sym, ◌∙◌, inl, inr, arith}
use Rattle.std.proofs.lemmas.Bool.{le-leb, lt-leb, eq-eqb, ne_eqb, and_from, and_left, and_right, cond-true, cond-false, cases_lt, cases_eq}
use Rattle.std.proofs.lemmas.Bool.Decides.{leb_tells}
use Rattle.amount.specs.Partial.{never}
use Rattle.archive.specs.Codec.{exactly}
use Rattle.archive.specs.Widths.{joined}

pub exactly_yes : {A : Type 0} (w : ℕ) (bs : List ℕ) (x : Option A) → w ≤ 16 → length bs ≡ w → exactly w bs x ≡ x
exactly_yes w bs x h e = cond-true _ x None (and_from _ _ (le-leb w 16 h) (eq-eqb _ _ e))

pub exactly_wide : {A : Type 0} (w : ℕ) (bs : List ℕ) (x : Option A) → 16 < w → exactly w bs x ≡ None
exactly_wide w bs x h = cond-false _ x None (and_left _ _ (lt-leb w 16 h))

pub exactly_other : {A : Type 0} (w : ℕ) (bs : List ℕ) (x : Option A) → (length bs ≢ w) → exactly w bs x ≡ None
exactly_other w bs x h = cond-false _ x None (and_right (nat_le w 16) _ (ne_eqb _ _ h))

pub exactly_some : {A : Type 0} (w : ℕ) (bs : List ℕ) (x : Option A) (a : A) → exactly w bs x ≡ Some a → (w ≤ 16) × (length bs ≡ w) × (x ≡ Some a)
exactly_some w bs x a e = elim (cases_lt 16 w) [
  | inl h ↦ never (exactly_wide w bs x h) e
  | inr h ↦ elim (cases_eq (length bs) w) [
    | inr k ↦ never (exactly_other w bs x k) e
    | inl k ↦ (h, k, sym (exactly_yes w bs x h k) ∙ e)
  ]
]

-- a pair that is not too wide has no side that is
pub joined_is : (l r : ℕ) → joined l r ≤ 16 → (l ≤ 16) × (r ≤ 16) × (joined l r ≡ l + r)
joined_is l r h = elim (leb_tells l 16) [
  | inr x ↦ grind arith
  | inl x ↦ elim (leb_tells r 16) [
    | inr y ↦ grind arith
    | inl y ↦ elim (leb_tells (l + r) 16) [ inr z ↦ grind arith | inl z ↦ grind arith ]
  ]
]
