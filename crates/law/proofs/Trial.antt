-- The search on a trial copy of the pile is the walk on the bays.
use Rattle.std.proofs.Common.{◌≡◌, ℕ, zero, suc, Bool, true, false, List, [], ◌∷◌, length, set, Some, None, Ok, Err, Option, sym, refl, ap, ◌∙◌, subst}
use lib.Seq.{set-get_or}
use Rattle.amount.specs.Arithmetic.{Laws, Ops}
use Rattle.pool.specs.Limits.{Bound, Limit, bounds, lowest_place, short_place, given_back, unless}
use Rattle.orders.specs.Orders.{lowest, lowest_walk, ready, walk}
use Rattle.orders.specs.Sessions.{Bays, Session, add, bay, emptied, held_under, short_under}
use Rattle.law.specs.Law.{Sums}
use Rattle.law.specs.SafeOrder.{finished, may_finish, safe_order, safe_from}
use Rattle.pool.proofs.Stays.{bounds_given}
use Rattle.law.proofs.Pile.{short_same, matches_given, never_torn, total_back, total_beside}

module _ {A : Type 0} (o : Ops A) (L : Laws o) where
  ready_same : (ks : List (Limit A)) (t : Bays A) (b : Option (Session A)) → Sums o ks t → may_finish o ks b ≡ ready o (bounds ks) t b
  ready_same ks t None m = refl
  ready_same ks t (Some s) m = go (o.minus s.claim s.holding)
    where
      go : (r : Option A) → ◌≡◌ {A = Bool} (elim r [ None ↦ false | Some n ↦ elim (short_place o ks s.mark n) [ None ↦ true | Some p ↦ false ] ]) (elim r [ None ↦ false | Some n ↦ elim (short_under o (bounds ks) t s.mark n) [ None ↦ true | Some p ↦ false ] ])
      go None = refl
      go (Some n) = ap (λ (x : Option ℕ). elim x [ None ↦ true | Some p ↦ false ]) (short_same o L ks t s.mark n m)

  lowest_same : (ks : List (Limit A)) (t bs : Bays A) → Sums o ks t → lowest_place (may_finish o ks) bs ≡ lowest o (bounds ks) t bs
  lowest_same ks t [] m = refl
  lowest_same ks t (b ∷ bs) m = rw (ready_same ks t b m, lowest_same ks t bs m)

  -- the pile gives back what the bay holds
  gives_back : (ks : List (Limit A)) (t : Bays A) (i : ℕ) (s : Session A) → bay t i ≡ Some s → Sums o ks t → finished o ks (Some s) ≡ given_back o s.mark s.holding ks
  gives_back ks t i s e m =
      let f : o.plus s.holding o.zero ≡ Some s.holding = L.commutes s.holding o.zero ∙ L.identity s.holding in
      let torn = never_torn o L s.mark s.holding ks t (emptied t i) (λ l w. total_back o L l t i s None s.holding o.zero e f refl w) m in
      ap (λ (p : Option ℕ). elim (unless o p (given_back o s.mark s.holding ks)) [ Ok new ↦ new | Err n ↦ ks ]) torn

  back_same : (ks : List (Limit A)) (t : Bays A) (i : ℕ) (b : Option (Session A)) → bay t i ≡ b → Sums o ks t → Sums o (finished o ks b) (emptied t i) × (bounds (finished o ks b) ≡ bounds ks)
  back_same ks t i None e m = (subst (Sums o ks) (sym (set-get_or t i None) ∙ ap (set t i) e) m, refl)
  back_same ks t i (Some s) e m =
      let f : o.plus s.holding o.zero ≡ Some s.holding = L.commutes s.holding o.zero ∙ L.identity s.holding in
      let back : (l : Bound A) → l.watches s.mark ≡ true → held_under o l t ≡ add o (Some s.holding) (held_under o l (emptied t i)) = λ l w. total_back o L l t i s None s.holding o.zero e f refl w in
      subst (λ ls. Sums o ls (emptied t i) × (bounds ls ≡ bounds ks)) (sym (gives_back ks t i s e m))
      (matches_given o L s.mark s.holding ks t (emptied t i) back (λ l w. total_beside o L l t i s None e refl w) m, bounds_given o s.mark s.holding ks)

  pub walks_agree : (n : ℕ) (ks : List (Limit A)) (t : Bays A) → Sums o ks t → safe_from o n ks t ≡ walk o (bounds ks) n t
  walks_agree zero ks t m = refl
  walks_agree (suc n) ks t m =
      ap (λ r. next r) (lowest_same ks t t m) ∙ go (lowest o (bounds ks) t t) (λ i. let b = back_same ks t i (bay t i) refl m in walks_agree n (finished o ks (bay t i)) (emptied t i) b.0 ∙ ap (λ bs. walk o bs n (emptied t i)) b.1)
    where
      next : Option ℕ → List ℕ
      next r = elim r [ None ↦ [] | Some i ↦ i ∷ safe_from o n (finished o ks (bay t i)) (emptied t i) ]

      go : (r : Option ℕ) → ((i : ℕ) → safe_from o n (finished o ks (bay t i)) (emptied t i) ≡ walk o (bounds ks) n (emptied t i)) → next r ≡ elim r [ None ↦ [] | Some i ↦ i ∷ walk o (bounds ks) n (emptied t i) ]
      go None ih = refl
      go (Some i) ih = ap (λ os. i ∷ os) (ih i)

  pub safe_same : (ks : List (Limit A)) (t : Bays A) → Sums o ks t → safe_order o ks t ≡ lowest_walk o (bounds ks) t
  safe_same ks t m = walks_agree (length t) ks t m
