-- A list filled from its front.
use Rattle.std.proofs.Common.{◌≡◌, ℕ, ◌+◌, ◌<◌, ◌≤◌, List, [], ◌∷◌, ◌++◌, length, get_or, take, set, sym, ap, ◌∙◌, add-one, take_all}
use Rattle.std.proofs.Math.Seq.{take-suc}
use Rattle.std.proofs.lemmas.List.{take_more_set}

-- one more of a list, written into another
pub filled_more : {X : Type 0} (n : ℕ) (ys xs : List X) (x d : X) → n < length ys → n < length xs → x ≡ get_or xs n d → take n ys ≡ take n xs → take (n + 1) (set ys n x) ≡ take (n + 1) xs
filled_more n ys xs x d h h' e inv = take_more_set ys n x h ∙ ap (λ z. z ++ (x ∷ [])) inv ∙ ap (λ z. take n xs ++ (z ∷ [])) e ∙ sym (ap (λ m. take m xs) (add-one n) ∙ take-suc xs n d h')

-- all of it
pub filled_all : {X : Type 0} (n : ℕ) (ys xs : List X) → length ys ≤ n → length xs ≤ n → take n ys ≡ take n xs → ys ≡ xs
filled_all n ys xs h h' inv = sym (take_all n ys h) ∙ inv ∙ take_all n xs h'
