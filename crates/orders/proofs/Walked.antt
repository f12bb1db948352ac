-- The lowest-first walk finds an order where there is one.
use Rattle.std.proofs.Common.{◌≡◌, ℕ, zero, suc, ◌+◌, ◌<◌, ◌≤◌, Bool, true, false, cond, ◌⊎◌, List, [], ◌∷◌, length, Some, None, Option, sym, refl, ap, ◌∙◌, subst, inl, inr, arith}
use Rattle.amount.specs.Arithmetic.{Laws, Ops, bind}
use Rattle.pool.specs.Limits.{Bound}
use Rattle.orders.specs.Orders.{LowestFirst, Next, Order, lowest, ready, walk}
use Rattle.orders.specs.Sessions.{Session, Bays, AllEmpty, bay, open_bays, short_under, emptied}
use Rattle.orders.proofs.Bays.{some_none, dom_refl, dom_put_left}
use Rattle.orders.proofs.Planned.{order_down}

pub true_false : {C : Type 0} {b : Bool} → b ≡ true → b ≡ false → C
true_false p q = let z : ◌≡◌ {A = ℕ} 0 1 = cc in absurd (omega arith)

-- the first of a test here and a place further on
pub first_some : (w : Bool) (r : Option ℕ) (i : ℕ) → cond w (Some 0) (bind r (λ k. Some (k + 1))) ≡ Some i → ((w ≡ true) × (i ≡ 0)) ⊎ ((w ≡ false) × ((k : ℕ) × (r ≡ Some k) × (i ≡ suc k)))
first_some true r i h = inl (refl, cc)
first_some false None i h = some_none refl (sym h)
first_some false (Some k) i h = let e : k + 1 ≡ i = cc in inr (refl, (k, refl, omega arith))

pub first_none : (w : Bool) (r : Option ℕ) → cond w (Some 0) (bind r (λ k. Some (k + 1))) ≡ None → (w ≡ false) × (r ≡ None)
first_none true r h = some_none refl h
first_none false None h = (refl, refl)
first_none false (Some k) h = some_none refl h

module _ {A : Type 0} where
  pub open_shut : (t : Bays A) (i : ℕ) (s : Session A) → bay t i ≡ Some s → open_bays t ≡ suc (open_bays (emptied t i))
  open_shut [] i s h = some_none h refl
  open_shut (None ∷ t) zero s h = some_none h refl
  open_shut (Some r ∷ t) zero s h = refl
  open_shut (None ∷ t) (suc i) s h = open_shut t i s h
  open_shut (Some r ∷ t) (suc i) s h = ap suc (open_shut t i s h)

  pub open_vacant : (t : Bays A) → open_bays t ≡ 0 → AllEmpty t
  open_vacant [] h i = refl
  open_vacant (None ∷ t) h zero = refl
  open_vacant (None ∷ t) h (suc i) = open_vacant t h i
  open_vacant (Some s ∷ t) h i = absurd (omega arith)

  pub vacant_open : (t : Bays A) → AllEmpty t → open_bays t ≡ 0
  vacant_open [] h = refl
  vacant_open (None ∷ t) h = vacant_open t (λ i. h (suc i))
  vacant_open (Some s ∷ t) h = some_none refl (h 0)

  pub open_length : (t : Bays A) → open_bays t ≤ length t
  open_length [] = omega arith
  open_length (None ∷ t) = let h = open_length t in omega arith
  open_length (Some s ∷ t) = let h = open_length t in omega arith

module _ {A : Type 0} (o : Ops A) (ls : List (Bound A)) where
  pub ready_next : (t : Bays A) (i : ℕ) → ready o ls t (bay t i) ≡ true → Next o ls t i
  ready_next t i h = go (bay t i) refl h
    where
      at_need : (s : Session A) (n : A) (r : Option ℕ) → bay t i ≡ Some s → o.minus s.claim s.holding ≡ Some n → short_under o ls t s.mark n ≡ r → elim r [ None ↦ true | Some p ↦ false ] ≡ true → Next o ls t i
      at_need s n None b e x h = record { session = s; need = n; opened = b; rest = e; room = x }
      at_need s n (Some p) b e x h = true_false h refl

      at_session : (s : Session A) (r : Option A) → bay t i ≡ Some s → o.minus s.claim s.holding ≡ r → elim r [ None ↦ false | Some n ↦ elim (short_under o ls t s.mark n) [ None ↦ true | Some p ↦ false ] ] ≡ true → Next o ls t i
      at_session s None b e h = true_false h refl
      at_session s (Some n) b e h = at_need s n (short_under o ls t s.mark n) b e refl h

      go : (b : Option (Session A)) → bay t i ≡ b → ready o ls t b ≡ true → Next o ls t i
      go None e h = true_false h refl
      go (Some s) e h = at_session s (o.minus s.claim s.holding) e refl h

  pub next_ready : (t : Bays A) (i : ℕ) → Next o ls t i → ready o ls t (bay t i) ≡ true
  next_ready t i x = rw (x.opened, ready, x.rest, x.room)

  pub lowest_some : (t bs : Bays A) (i : ℕ) → lowest o ls t bs ≡ Some i → (ready o ls t (bay bs i) ≡ true) × ((j : ℕ) → j < i → ready o ls t (bay bs j) ≡ false)
  lowest_some t [] i h = some_none refl (sym h)
  lowest_some t (b ∷ bs) i h = go (first_some (ready o ls t b) (lowest o ls t bs) i h) (λ k e. lowest_some t bs k e)
    where
      Goal : ℕ → Type 0
      Goal i = (ready o ls t (bay (b ∷ bs) i) ≡ true) × ((j : ℕ) → j < i → ready o ls t (bay (b ∷ bs) j) ≡ false)

      below : (k : ℕ) → ready o ls t b ≡ false → ((j : ℕ) → j < k → ready o ls t (bay bs j) ≡ false) → (j : ℕ) → j < suc k → ready o ls t (bay (b ∷ bs) j) ≡ false
      below k w f zero h = w
      below k w f (suc j) h = f j (omega arith)

      go : ((ready o ls t b ≡ true) × (i ≡ 0)) ⊎ ((ready o ls t b ≡ false) × ((k : ℕ) × (lowest o ls t bs ≡ Some k) × (i ≡ suc k)))
          → ((k : ℕ) → lowest o ls t bs ≡ Some k → (ready o ls t (bay bs k) ≡ true) × ((j : ℕ) → j < k → ready o ls t (bay bs j) ≡ false)) → Goal i
      go (inl h) ih = subst Goal (sym h.1) (h.0, λ j q. absurd (omega arith))
      go (inr h) ih = let p = ih h.1.0 h.1.1 in subst Goal (sym h.1.2) (p.0, below h.1.0 h.0 p.1)

  pub lowest_none : (t bs : Bays A) → lowest o ls t bs ≡ None → (j : ℕ) → ready o ls t (bay bs j) ≡ false
  lowest_none t [] h j = refl
  lowest_none t (b ∷ bs) h zero = (first_none (ready o ls t b) (lowest o ls t bs) h).0
  lowest_none t (b ∷ bs) h (suc j) = lowest_none t bs (first_none (ready o ls t b) (lowest o ls t bs) h).1 j

  pub order_length : (os : List ℕ) (t : Bays A) → Order o ls t os → length os ≡ open_bays t
  order_length [] t r = sym (vacant_open t r)
  order_length (i ∷ os) t r = ap suc (order_length os (emptied t i) r.1) ∙ sym (open_shut t i r.0.session r.0.opened)

  pub lowest_order : (os : List ℕ) (t : Bays A) → LowestFirst o ls t os → Order o ls t os
  lowest_order [] t r = r
  lowest_order (i ∷ os) t r = (r.0, lowest_order os (emptied t i) r.2)

  pub not_next : (t : Bays A) (j : ℕ) → ready o ls t (bay t j) ≡ false → ¬ (Next o ls t j)
  not_next t j h x = true_false (next_ready t j x) h

  -- a walk that names as many bays as are open is a lowest-first order
  pub walk_names : (n : ℕ) (t : Bays A) → length (walk o ls n t) ≡ open_bays t → LowestFirst o ls t (walk o ls n t)
  walk_names zero t h = open_vacant t (sym h)
  walk_names (suc n) t h = go (lowest o ls t t) refl h (λ i. walk_names n (emptied t i))
    where
      go : (r : Option ℕ) → lowest o ls t t ≡ r → length {A = ℕ} (elim r [ None ↦ [] | Some i ↦ i ∷ walk o ls n (emptied t i) ]) ≡ open_bays t
          → ((i : ℕ) → length (walk o ls n (emptied t i)) ≡ open_bays (emptied t i) → LowestFirst o ls (emptied t i) (walk o ls n (emptied t i)))
          → LowestFirst o ls t (elim r [ None ↦ [] | Some i ↦ i ∷ walk o ls n (emptied t i) ])
      go None e h ih = open_vacant t (sym h)
      go (Some i) e h ih =
          let p = lowest_some t t i e in
          let x = ready_next t i p.0 in
          let k = open_shut t i x.session x.opened in
          (x, (λ j q. not_next t j (p.1 j q)), ih i (omega arith))

module _ {A : Type 0} (o : Ops A) (L : Laws o) (ls : List (Bound A)) where
  -- where an order exists, the walk finds one
  pub walk_order : (n : ℕ) (t : Bays A) (os : List ℕ) → open_bays t ≤ n → Order o ls t os → LowestFirst o ls t (walk o ls n t)
  walk_order zero t os h r = open_vacant t (omega arith)
  walk_order (suc n) t os h r = go (lowest o ls t t) refl (λ i ps. walk_order n (emptied t i) ps)
    where
      stuck : (os : List ℕ) → Order o ls t os → lowest o ls t t ≡ None → AllEmpty t
      stuck [] r e = r
      stuck (i ∷ os) r e = absurd (not_next o ls t i (lowest_none o ls t t e i) r.0)

      go : (r : Option ℕ) → lowest o ls t t ≡ r → ((i : ℕ) (ps : List ℕ) → open_bays (emptied t i) ≤ n → Order o ls (emptied t i) ps → LowestFirst o ls (emptied t i) (walk o ls n (emptied t i)))
          → LowestFirst o ls t (elim r [ None ↦ [] | Some i ↦ i ∷ walk o ls n (emptied t i) ])
      go None e ih = stuck os r e
      go (Some i) e ih =
          let p = lowest_some o ls t t i e in
          let x = ready_next o ls t i p.0 in
          let k = open_shut t i x.session x.opened in
          let d = order_down o L ls os (emptied t i) t (dom_put_left o L None t t i (dom_refl o L t) tt) r in
          (x, (λ j q. not_next o ls t j (p.1 j q)), ih i d.0 (omega arith) d.1)
