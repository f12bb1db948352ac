-- The lowest place of a list with one element more.
use Rattle.std.specs.Prelude.{◌≡◌, ℕ, zero, suc, ◌+◌, Bool, true, false, cond, List, [], ◌∷◌, ◌++◌, length, replicate, Some, None, Option, refl}
use Rattle.std.proofs.Common.{ap, ◌∙◌, add-one}
use Rattle.std.specs.Option.{option_or}
use Rattle.std.specs.Bool.{then_some}
use Rattle.amount.specs.Arithmetic.{bind}
use Rattle.pool.specs.Limits.{told, told_place, lowest_place}

next_or : (p : Option ℕ) (b : Bool) (n : ℕ) → bind (option_or p (cond b (Some n) None)) (λ q. Some (q + 1)) ≡ option_or (bind p (λ q. Some (q + 1))) (cond b (Some (suc n)) None)
next_or None true n = ap Some (add-one n)
next_or None false n = refl
next_or (Some q) b n = refl

pub lowest_push : {B : Type 0} (test : B → Bool) (bs : List B) (x : B) → lowest_place test (bs ++ (x ∷ [])) ≡ option_or (lowest_place test bs) (cond (test x) (Some (length bs)) None)
lowest_push test [] x = refl
lowest_push test (b ∷ bs) x =
    elim (test b) as (λ t. cond t (Some 0) (bind (lowest_place test (bs ++ (x ∷ []))) (λ p. Some (p + 1))) ≡ option_or (cond t (Some 0) (bind (lowest_place test bs) (λ p. Some (p + 1)))) (cond (test x) (Some (suc (length bs))) None)) [
      | true ↦ refl
      | false ↦ ap (λ o. bind o (λ p. Some (p + 1))) (lowest_push test bs x) ∙ next_or (lowest_place test bs) (test x) (length bs)
    ]

told_or : (o : Option ℕ) (b : Bool) (n : ℕ) → told_place (option_or o (cond b (Some n) None)) ≡ option_or (told_place o) (then_some b (told n))
told_or None true n = refl
told_or None false n = refl
told_or (Some x) b n = refl

-- the place that is told, of a pile with one limit more
pub place_push : {B : Type 0} (test : B → Bool) (bs : List B) (x : B) → told_place (lowest_place test (bs ++ (x ∷ []))) ≡ option_or (told_place (lowest_place test bs)) (then_some (test x) (told (length bs)))
place_push test bs x = ap told_place (lowest_push test bs x) ∙ told_or (lowest_place test bs) (test x) (length bs)

-- n elements that fail the test, and then one that passes it
pub lowest_above : {B : Type 0} (test : B → Bool) (b x : B) → test b ≡ false → test x ≡ true → (n : ℕ) → lowest_place test (replicate n b ++ (x ∷ [])) ≡ Some n
lowest_above test b x h k zero = ap (λ t. cond t (Some 0) None) k
lowest_above test b x h k (suc n) =
    ap (λ t. cond t (Some 0) (bind (lowest_place test (replicate n b ++ (x ∷ []))) (λ p. Some (p + 1)))) h
    ∙ ap (λ o. bind o (λ p. Some (p + 1))) (lowest_above test b x h k n) ∙ ap Some (add-one n)
