-- Marks and ceilings stay; places are told as bytes.
use Rattle.std.proofs.Common.{◌≡◌, ℕ, ◌+◌, Bool, true, false, cond, not, List, [], ◌∷◌, map, replicate, Some, None, Ok, Option, sym, refl, ap, ◌∙◌, ap₂, arith, length-append}
use lib.ListN.{length-replicate}
use Rattle.amount.specs.Arithmetic.{Ops}
use Rattle.pool.specs.Limits.{Limit, limit, bounds, every_number, taken, given_back, told, told_place, over, with_out, grown, shrunk, unless}
use Rattle.pool.specs.Theorems.{BoundsStay, ToldAsBytes}
use Rattle.pool.proofs.Places.{lowest_above}

module _ {A : Type 0} (o : Ops A) where
  bound_stays : (l : Limit A) (b : Bool) (x : Option A) → (cond b (with_out o l x) l).bound ≡ l.bound
  bound_stays l false x = refl
  bound_stays l true None = refl
  bound_stays l true (Some x) = refl

  map_stays : (change : Limit A → Limit A) → ((l : Limit A) → (change l).bound ≡ l.bound) → (ls : List (Limit A)) → bounds (map change ls) ≡ bounds ls
  map_stays change h [] = refl
  map_stays change h (l ∷ ls) = ap₂ ◌∷◌ (h l) (map_stays change h ls)

  pub bounds_taken : (m : ℕ) (a : A) (ls : List (Limit A)) → bounds (taken o m a ls) ≡ bounds ls
  bounds_taken m a ls = map_stays (grown o m a) (λ l. bound_stays l (l.bound.watches m) (o.plus l.out a)) ls

  pub bounds_given : (m : ℕ) (a : A) (ls : List (Limit A)) → bounds (given_back o m a ls) ≡ bounds ls
  bounds_given m a ls = map_stays (shrunk o m a) (λ l. bound_stays l (l.bound.watches m) (o.minus l.out a)) ls

  unless_ok : {Y : Type 0} (p : Option ℕ) (y z : Y) → unless o p y ≡ Ok z → y ≡ z
  unless_ok None y z e = cc
  unless_ok (Some n) y z e = let w : ◌≡◌ {A = ℕ} 0 1 = cc in absurd (omega arith)

  pub bounds_stay : BoundsStay o
  bounds_stay = record {
    after_take = λ ls new m a e. ap bounds (sym (unless_ok _ _ new e)) ∙ bounds_taken m a ls;
    after_give = λ ls new m a e. ap bounds (sym (unless_ok _ _ new e)) ∙ bounds_given m a ls;
  }

  pub told_as_bytes : ToldAsBytes o
  told_as_bytes = record {
    small = λ n h. omega arith;
    large = λ n h. omega arith;
    place = λ n m a h. ap told_place (lowest_above (λ l. over o m (Some a) l.bound) (limit (λ m. false) o.zero o.zero) (limit every_number o.zero o.zero) refl (ap not h) n);
    count = λ n. ap told (length-append (replicate n (limit (λ m. false) o.zero o.zero)) (limit every_number o.zero o.zero ∷ []) ∙ ap (λ k. k + 1) (length-replicate n _));
  }
