-- A book that was just made.
use Rattle.std.proofs.Common.{◌≡◌, ℕ, zero, suc, ◌+◌, Bool, true, false, cond, not, List, [], ◌∷◌, map, replicate, is_some, Some, None, Decides, Option, sym, refl, ap, ◌∙◌}
use Rattle.amount.specs.Arithmetic.{Ops, Laws, bind}
use Rattle.pool.specs.Limits.{Limit, Idle, lowest_place}
use Rattle.orders.proofs.Walked.{true_false}
use Rattle.law.specs.Book.{is_idle}

some_first : (t : Bool) (x : Option ℕ) → is_some (cond t (Some 0) (bind x (λ p. Some (p + 1)))) ≡ cond t true (is_some x)
some_first true x = refl
some_first false None = refl
some_first false (Some p) = refl

same_answer : (b c : Bool) → (b ≡ true → c ≡ true) → (c ≡ true → b ≡ true) → b ≡ c
same_answer true c f g = sym (f refl)
same_answer false true f g = g refl
same_answer false false f g = refl

pub map_replicate : {X Y : Type 0} (f : X → Y) (x : X) (n : ℕ) → map f (replicate n x) ≡ replicate n (f x)
map_replicate f x zero = refl
map_replicate f x (suc n) = ap (λ z. f x ∷ z) (map_replicate f x n)

module _ {A : Type 0} (o : Ops A) (L : Laws o) where
  abbrev busy : Limit A → Bool
  busy l = not (o.equal l.out o.zero)

  abbrev Both : Bool → Bool → Type 0
  Both b c = (b ≡ true) × (c ≡ true)

  both_by : (b c : Bool) → not (cond (not b) true c) ≡ true → Both b (not c)
  both_by true c h = (refl, h)
  both_by false c h = true_false h refl

  is_first : (l : Limit A) (ls : List (Limit A)) → is_idle o (l ∷ ls) ≡ not (cond (busy l) true (is_some (lowest_place busy ls)))
  is_first l ls = ap not (some_first (busy l) (lowest_place busy ls))

  idle_from : (ls : List (Limit A)) → is_idle o ls ≡ true → Idle o ls
  idle_from [] h = tt
  idle_from (l ∷ ls) h =
      let p = both_by (o.equal l.out o.zero) (is_some (lowest_place busy ls)) (sym (is_first l ls) ∙ h) in
      ((L.equality l.out o.zero).0 p.0, idle_from ls p.1)

  idle_to : (ls : List (Limit A)) → Idle o ls → is_idle o ls ≡ true
  idle_to [] h = refl
  idle_to (l ∷ ls) h = is_first l ls ∙ ap (λ b. not (cond (not b) true (is_some (lowest_place busy ls)))) ((L.equality l.out o.zero).1 h.0) ∙ idle_to ls h.1

  -- the pile's answer is the machine's
  pub idle_is : (b : Bool) (ls : List (Limit A)) → Decides b (Idle o ls) → b ≡ is_idle o ls
  idle_is b ls d = same_answer b (is_idle o ls) (λ e. idle_to ls (d.0 e)) (λ e. d.1 (idle_from ls e))
