-- An order, played: its first bay may be handed its need, and ended.
use Rattle.std.proofs.Common.{◌≡◌, ℕ, suc, List, [], ◌∷◌, set, Some, None, sym, refl, ap, ◌∙◌, subst}
use Rattle.amount.specs.Arithmetic.{Ops, Laws}
use Rattle.pool.specs.Limits.{Bound}
use Rattle.orders.specs.Orders.{Next, Order}
use Rattle.orders.specs.Sessions.{with_holding, Bays, AllEmpty, share, held_under, add}
use Rattle.orders.proofs.Sums.{add_zero, add_zero_right, leq_eq}
use Rattle.orders.proofs.Bays.{bay_put, put_put}
use Rattle.orders.proofs.Planned.{short_down, out_hand_on, full_need}

module _ {A : Type 0} (o : Ops A) (L : Laws o) where
  -- a bay handed its need stays the first of the order
  pub next_full : (ls : List (Bound A)) (t : Bays A) (i : ℕ) (x : Next o ls t i) → Next o ls (set t i (Some (with_holding x.session x.session.claim))) i
  next_full ls t i x =
      let s = x.session in
      let u = set t i (Some (with_holding s s.claim)) in
      record {
        session = with_holding s s.claim;
        need = o.zero;
        opened = bay_put (Some (with_holding s s.claim)) t i s x.opened;
        rest = full_need o L s.claim;
        room = short_down o L ls u t s.mark o.zero x.need (λ l w. leq_eq o L (add_zero_right o L (held_under o l u) ∙ out_hand_on o L l t i s x.need s.claim x.opened ((L.difference s.holding s.claim x.need).0 x.rest) w)) x.room;
      }

  pub out_vacant : (l : Bound A) (t : Bays A) → AllEmpty t → held_under o l t ≡ Some o.zero
  out_vacant l [] h = refl
  out_vacant l (b ∷ t) h = ap (λ v. add o (share o l v) (held_under o l t)) (h 0) ∙ add_zero o L (held_under o l t) ∙ out_vacant l t (λ i. h (suc i))

  -- with its need handed out, the first bay is still the first of the order
  pub order_handed : (ls : List (Bound A)) (t : Bays A) (i : ℕ) (is : List ℕ) (r : Order o ls t (i ∷ is)) → Order o ls (set t i (Some (with_holding r.0.session r.0.session.claim))) (i ∷ is)
  order_handed ls t i is r =
      let s = r.0.session in
      (next_full ls t i r.0, subst (λ v. Order o ls v is) (sym (put_put (Some (with_holding s s.claim)) None t i)) r.1)
