-- The lowest place, looked for from some place on.
use Rattle.std.proofs.Common.{◌≡◌, ℕ, ◌+◌, ◌<◌, ◌≤◌, Bool, true, false, cond, ltb, List, [], ◌∷◌, length, get_or, drop, Some, None, Option, sym, refl, ap, ◌∙◌, arith}
use Rattle.std.proofs.lemmas.Iterator.Adapters.{position_from-zero}
use Rattle.std.proofs.lemmas.List.{drop_all, drop_more}
use Rattle.std.specs.List.{position_from, position_or_len}
use Rattle.amount.specs.Arithmetic.{bind}
use Rattle.pool.specs.Limits.{lowest_place}

-- a place counted from i
abbrev pub from : ℕ → Option ℕ → Option ℕ
from i p = bind p (λ q. Some (q + i))

from_next : (i : ℕ) (p : Option ℕ) → from i (from 1 p) ≡ from (i + 1) p
from_next i None = refl
from_next i (Some q) = let e : q + 1 + i ≡ q + (i + 1) = omega arith in ap Some e

-- counted from the first place
pub from_start : (p : Option ℕ) → p ≡ from 0 p
from_start None = refl
from_start (Some q) = let e : q ≡ q + 0 = omega arith in ap Some e

module _ {B : Type 0} (test : B → Bool) where
  lowest_at : (i : ℕ) (bs : List B) (d : B) → i < length bs → from i (lowest_place test (drop i bs)) ≡ from i (cond (test (get_or bs i d)) (Some 0) (from 1 (lowest_place test (drop (i + 1) bs))))
  lowest_at i bs d h = ap (λ l. from i (lowest_place test l)) (drop_more bs i d h)

  -- one turn: the bay is the answer, or is passed over
  module _ (i : ℕ) (bs : List B) (d : B) (r : Bool) (h : i < length bs) (is : r ≡ test (get_or bs i d)) (inv : lowest_place test bs ≡ from i (lowest_place test (drop i bs))) where
    pub lowest_here : r ≡ true → Some i ≡ lowest_place test bs
    lowest_here t =
        let e : 0 + i ≡ i = omega arith in
        sym (inv ∙ lowest_at i bs d h ∙ ap (λ b. from i (cond b (Some 0) (from 1 (lowest_place test (drop (i + 1) bs))))) (sym is ∙ t) ∙ ap Some e)

    pub lowest_past : r ≡ false → lowest_place test bs ≡ from (i + 1) (lowest_place test (drop (i + 1) bs))
    lowest_past t =
        inv ∙ lowest_at i bs d h ∙ ap (λ b. from i (cond b (Some 0) (from 1 (lowest_place test (drop (i + 1) bs))))) (sym is ∙ t)
        ∙ from_next i (lowest_place test (drop (i + 1) bs))

  -- as the library counts it
  position_lowest : (i : ℕ) (bs : List B) → position_from test i bs ≡ from i (lowest_place test bs)
  position_lowest i [] = refl
  position_lowest i (b ∷ bs) = ap (cond (test b) (Some i)) (position_lowest (i + 1) bs) ∙ go (test b) (lowest_place test bs)
    where
      go : (t : Bool) (p : Option ℕ) → cond t (Some i) (from (i + 1) p) ≡ from i (cond t (Some 0) (from 1 p))
      go true p = let e : i ≡ 0 + i = omega arith in ap Some e
      go false p = sym (from_next i p)

  pub lowest_position : (bs : List B) → cond (ltb (position_or_len test bs) (length bs)) (Some (position_or_len test bs)) None ≡ lowest_place test bs
  lowest_position bs = position_from-zero test bs ∙ position_lowest 0 bs ∙ sym (from_start (lowest_place test bs))

  -- past the last there is none
  pub lowest_none : (i : ℕ) (bs : List B) → length bs ≤ i → lowest_place test bs ≡ from i (lowest_place test (drop i bs)) → None ≡ lowest_place test bs
  lowest_none i bs h inv = sym (inv ∙ ap (λ l. from i (lowest_place test l)) (drop_all i bs h))
