-- An order names each open bay once, and there is one lowest-first order.
use Rattle.std.proofs.Common.{◌≡◌, ℕ, suc, ◌<◌, cond, eqb, List, [], ◌∷◌, None, sym, refl, ap, ◌∙◌, subst, arith, get_or-set_other, eq-eqb}
use native.Mathlib.Decide.{ℕ_discrete, dec_lt}
use borrow.Author.Tests.{apart_eqb}
use Rattle.amount.specs.Arithmetic.{Ops}
use Rattle.pool.specs.Limits.{Bound}
use Rattle.orders.specs.Orders.{LowestFirst, Order, once, times}
use Rattle.orders.specs.Sessions.{Bays, bay, emptied}
use Rattle.orders.proofs.Bays.{some_none, bay_shut}

module _ {A : Type 0} (o : Ops A) (ls : List (Bound A)) where
  pub names_once : (os : List ℕ) (t : Bays A) → Order o ls t os → (i : ℕ) → times i os ≡ once (bay t i)
  names_once [] t r i = ap once (sym (r i))
  names_once (j ∷ os) t r i = go (ℕ_discrete i j) (names_once os (emptied t j) r.1 i)
    where
      go : Dec (i ≡ j) → times i os ≡ once (bay (emptied t j) i) → cond (eqb i j) (suc (times i os)) (times i os) ≡ once (bay t i)
      go (yes e) h =
          let here : once (bay t i) ≡ 1 = ap once (ap (bay t) e ∙ r.0.opened) in
          let gone : times i os ≡ 0 = h ∙ ap once (ap (bay (emptied t j)) e ∙ bay_shut t j) in
          rw (eq-eqb i j e, here, gone)
      go (no n) h = rw (apart_eqb i j n) (h ∙ ap once (get_or-set_other t j i None None n))

  pub lowest_unique : (os ps : List ℕ) (t : Bays A) → LowestFirst o ls t os → LowestFirst o ls t ps → os ≡ ps
  lowest_unique [] [] t r q = refl
  lowest_unique [] (j ∷ ps) t r q = some_none q.0.opened (r j)
  lowest_unique (i ∷ os) [] t r q = some_none r.0.opened (q i)
  lowest_unique (i ∷ os) (j ∷ ps) t r q = go (dec_lt i j) (dec_lt j i) (λ h. lowest_unique os ps (emptied t i) r.2 h)
    where
      go : Dec (i < j) → Dec (j < i) → (LowestFirst o ls (emptied t i) ps → os ≡ ps) → i ∷ os ≡ j ∷ ps
      go (yes p) d ih = absurd (q.1 i p r.0)
      go (no n) (yes p) ih = absurd (r.1 j p q.0)
      go (no n) (no m) ih =
          let e : i ≡ j = omega arith in
          let f = ih (subst (λ k. LowestFirst o ls (emptied t k) ps) (sym e) q.2) in
          cc
