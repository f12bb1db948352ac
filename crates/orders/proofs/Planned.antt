-- Completion orders and the planner.
use Rattle.std.proofs.Common.{◌≡◌, ℕ, ◌+◌, Bool, true, false, cond, not, ◌&&◌, ◌⊎◌, List, [], ◌∷◌, set, Some, None, Option, sym, refl, ap, ◌∙◌, subst, inl, inr, arith}
use Rattle.amount.specs.Arithmetic.{Laws, Ops, bind}
use Rattle.pool.specs.Limits.{Bound, within}
use Rattle.orders.specs.Orders.{Next, Order}
use Rattle.orders.specs.Planner.{Empties, Move, close, hand}
use Rattle.orders.specs.Sessions.{WithinCeilings, Session, Bays, add, bay, share, short_under, emptied, held_under, with_holding}
use Rattle.orders.proofs.Sums.{Leq, add_zero_right, leq_eq, leq_trans, leq_add_left, within_down}
use Rattle.orders.proofs.Bays.{some_none, bay_put, put_put, out_split, out_put, share_on, share_off, out_need, Below, Dom, dom_refl, dom_bay, dom_put_right, dom_put_left, dom_shut, out_dom, vacant_dom}

-- one place of Short
pub place_none : (w v : Bool) (r : Option ℕ) → cond (w && not v) (Some 0) (bind r (λ p. Some (p + 1))) ≡ None → (w ≡ true → v ≡ true) × (r ≡ None)
place_none true true None h = (λ _. refl, refl)
place_none true true (Some p) h = some_none refl h
place_none true false r h = some_none refl h
place_none false v None h = (λ e. let z : ◌≡◌ {A = ℕ} 0 1 = cc in absurd (omega arith), refl)
place_none false v (Some p) h = some_none refl h

pub none_place : (w v : Bool) (r : Option ℕ) → (w ≡ true → v ≡ true) → r ≡ None → cond (w && not v) (Some 0) (bind r (λ p. Some (p + 1))) ≡ None
none_place true true r h e = rw e
none_place true false r h e = let k : false ≡ true = h refl in let z : ◌≡◌ {A = ℕ} 0 1 = cc in absurd (omega arith)
none_place false v r h e = rw e

module _ {A : Type 0} (o : Ops A) (L : Laws o) where
  -- where there is room for more under u, there is room under t
  pub short_down : (ls : List (Bound A)) (t u : Bays A) (m : ℕ) (a b : A)
      → ((l : Bound A) → l.watches m ≡ true → Leq o (add o (held_under o l t) (Some a)) (add o (held_under o l u) (Some b)))
      → short_under o ls u m b ≡ None → short_under o ls t m a ≡ None
  short_down [] t u m a b f h = refl
  short_down (l ∷ ls) t u m a b f h =
      let p = place_none (l.watches m) (within o (add o (held_under o l u) (Some b)) l.ceiling) (short_under o ls u m b) h in
      none_place (l.watches m) (within o (add o (held_under o l t) (Some a)) l.ceiling) (short_under o ls t m a)
      (λ w. within_down o L l.ceiling (f l w) (p.0 w)) (short_down ls t u m a b f p.1)

  pub short_zero : (ls : List (Bound A)) (t : Bays A) (m : ℕ) → WithinCeilings o ls t → short_under o ls t m o.zero ≡ None
  short_zero [] t m h = refl
  short_zero (l ∷ ls) t m h =
      none_place (l.watches m) (within o (add o (held_under o l t) (Some o.zero)) l.ceiling) (short_under o ls t m o.zero)
      (λ w. rw (add_zero_right o L (held_under o l t)) h.0) (short_zero ls t m h.1)

  pub held_down : (ls : List (Bound A)) (t u : Bays A) → Dom o L t u → WithinCeilings o ls u → WithinCeilings o ls t
  held_down [] t u d h = tt
  held_down (l ∷ ls) t u d h = (within_down o L l.ceiling (out_dom o L l t u d) h.0, held_down ls t u d h.1)

  pub held_hand : (ls : List (Bound A)) (t u : Bays A) (m : ℕ) (a : A)
      → ((l : Bound A) → l.watches m ≡ true → Leq o (held_under o l u) (add o (held_under o l t) (Some a)))
      → ((l : Bound A) → l.watches m ≡ false → Leq o (held_under o l u) (held_under o l t))
      → WithinCeilings o ls t → short_under o ls t m a ≡ None → WithinCeilings o ls u
  held_hand [] t u m a f g h e = tt
  held_hand (l ∷ ls) t u m a f g h e =
      let p = place_none (l.watches m) (within o (add o (held_under o l t) (Some a)) l.ceiling) (short_under o ls t m a) e in
      (go (l.watches m) refl p.0, held_hand ls t u m a f g h.1 p.1)
    where
      go : (w : Bool) → l.watches m ≡ w → (l.watches m ≡ true → within o (add o (held_under o l t) (Some a)) l.ceiling ≡ true) → within o (held_under o l u) l.ceiling ≡ true
      go true e k = within_down o L l.ceiling (f l e) (k e)
      go false e k = within_down o L l.ceiling (g l e) h.0

  -- the out after a bay was handed an amount
  pub out_hand_on : (l : Bound A) (t : Bays A) (i : ℕ) (s : Session A) (a h : A) → bay t i ≡ Some s → o.plus s.holding a ≡ Some h
      → l.watches s.mark ≡ true → held_under o l (set t i (Some (with_holding s h))) ≡ add o (held_under o l t) (Some a)
  out_hand_on l t i s a h b e w =
      out_put o L l (Some (with_holding s h)) t i s b
      ∙ ap (λ x. add o x (held_under o l (emptied t i))) (share_on o L l (with_holding s h) w)
      ∙ sym (out_need o L l t i s a h b e w)

  pub out_hand_off : (l : Bound A) (t : Bays A) (i : ℕ) (s : Session A) (h : A) → bay t i ≡ Some s
      → l.watches s.mark ≡ false → held_under o l (set t i (Some (with_holding s h))) ≡ held_under o l t
  out_hand_off l t i s h b w =
      out_put o L l (Some (with_holding s h)) t i s b
      ∙ ap (λ x. add o x (held_under o l (emptied t i))) (share_off o L l (with_holding s h) w ∙ sym (share_off o L l s w))
      ∙ ap (λ v. add o (share o l v) (held_under o l (emptied t i))) (sym b)
      ∙ sym (out_split o L l t i)

  pub leq_less : (a c : A) → Leq o (Some a) (Some c) → (n : A) × (o.minus c a ≡ Some n)
  leq_less a c h = go h.more h.sum
    where
      go : (r : Option A) → add o (Some a) r ≡ Some c → (n : A) × (o.minus c a ≡ Some n)
      go None e = some_none refl (sym e)
      go (Some n) e = (n, (L.difference a c n).1 e)

  -- what can be next under u can be next under t, where it is still open
  pub next_down : (ls : List (Bound A)) (t u : Bays A) (i : ℕ) → Dom o L t u → Next o ls u i → (bay t i ≡ None) ⊎ Next o ls t i
  next_down ls t u i d x = go (bay t i) refl (subst (Below o L (bay t i)) x.opened (dom_bay o L t u i d))
    where
      go : (b : Option (Session A)) → bay t i ≡ b → Below o L b (Some x.session) → (bay t i ≡ None) ⊎ Next o ls t i
      go None e h = inl e
      go (Some s) e h =
          let full = (L.difference x.session.holding x.session.claim x.need).0 x.rest in
          let up : Leq o (Some x.session.holding) (Some x.session.claim) = record { more = Some x.need; sum = full } in
          let n = leq_less s.holding s.claim (rw h.1 (leq_trans o L h.2 up)) in
          let own = (L.difference s.holding s.claim n.0).0 n.1 in
          inr (record {
            session = s;
            need = n.0;
            opened = e;
            rest = n.1;
            room = rw h.0 (short_down ls t u x.session.mark n.0 x.need
                (λ l w. rw (out_need o L l t i s n.0 s.claim e own (rw h.0 w), out_need o L l u i x.session x.need x.session.claim x.opened full w, h.1)
                (leq_add_left o L (Some x.session.claim) (out_dom o L l (emptied t i) (emptied u i) (dom_shut o L t u i d)))) x.room);
          })

  -- a tally with less out has an order where one with more has
  pub order_down : (ls : List (Bound A)) (os : List ℕ) (t u : Bays A) → Dom o L t u → Order o ls u os → (ps : List ℕ) × Order o ls t ps
  order_down ls [] t u d r = ([], vacant_dom o L t u d r)
  order_down ls (i ∷ os) t u d r =
      go (λ e. order_down ls os t (emptied u i) (dom_put_right o L None t u i d (rw e tt)) r.1)
      (order_down ls os (emptied t i) (emptied u i) (dom_shut o L t u i d) r.1) (next_down ls t u i d r.0)
    where
      go : (bay t i ≡ None → (ps : List ℕ) × Order o ls t ps) → (ps : List ℕ) × Order o ls (emptied t i) ps → (bay t i ≡ None) ⊎ Next o ls t i → (ps : List ℕ) × Order o ls t ps
      go f k (inl e) = f e
      go f k (inr x) = (i ∷ k.0, (x, k.1))

  pub full_need : (c : A) → o.minus c c ≡ Some o.zero
  full_need c = (L.difference c c o.zero).1 (L.commutes c o.zero ∙ L.identity c)

  -- a bay that holds its claim can be next
  pub full_next : (ls : List (Bound A)) (t : Bays A) (i : ℕ) (s : Session A) → WithinCeilings o ls t → bay t i ≡ Some s → s.holding ≡ s.claim → Next o ls t i
  full_next ls t i s h b e = record {
    session = s;
    need = o.zero;
    opened = b;
    rest = rw e (full_need s.claim);
    room = short_zero ls t s.mark h;
  }

  pub below_hand : (b : Option (Session A)) (s : Session A) (a h : A) → o.plus s.holding a ≡ Some h → Below o L b (Some s) → Below o L b (Some (with_holding s h))
  below_hand None s a h e d = tt
  below_hand (Some r) s a h e d = (d.0, d.1, leq_trans o L d.2 (record { more = Some a; sum = e }))

  -- a list of moves that empties the bays of u yields an order of each t that has no more out
  pub moves_order : (ls : List (Bound A)) (ms : List (Move A)) (t u : Bays A) → Dom o L t u → WithinCeilings o ls u → Empties o ls u ms → (ps : List ℕ) × Order o ls t ps
  moves_order ls [] t u d h r = ([], vacant_dom o L t u d r)
  moves_order ls (hand i a ∷ ms) t u d h r =
      let m = r.1 in
      let v = set u i (Some (with_holding m.0 m.1)) in
      let d' : Dom o L t v = dom_put_right o L (Some (with_holding m.0 m.1)) t u i d (below_hand (bay t i) m.0 a m.1 m.3 (subst (Below o L (bay t i)) m.2 (dom_bay o L t u i d))) in
      let h' : WithinCeilings o ls v = held_hand ls u v m.0.mark a (λ l w. leq_eq o L (out_hand_on l u i m.0 a m.1 m.2 m.3 w)) (λ l w. leq_eq o L (out_hand_off l u i m.0 m.1 m.2 w)) h m.5 in
      moves_order ls ms t v d' h' (subst (λ w. Empties o ls w ms) m.6 r.2)
  moves_order ls (close i ∷ ms) t u d h r =
      go (λ e. moves_order ls ms t (emptied u i) (dom_put_right o L None t u i d (rw e tt)) h' r')
      (moves_order ls ms (emptied t i) (emptied u i) (dom_shut o L t u i d) h' r')
      (next_down ls t u i d (full_next ls u i r.1.0 h r.1.1 r.1.2))
    where
      h' : WithinCeilings o ls (emptied u i)
      h' = held_down ls (emptied u i) u (dom_put_left o L None u u i (dom_refl o L u) tt) h

      r' : Empties o ls (emptied u i) ms
      r' = subst (λ w. Empties o ls w ms) r.1.3 r.2

      go : (bay t i ≡ None → (ps : List ℕ) × Order o ls t ps) → (ps : List ℕ) × Order o ls (emptied t i) ps → (bay t i ≡ None) ⊎ Next o ls t i → (ps : List ℕ) × Order o ls t ps
      go f k (inl e) = f e
      go f k (inr x) = (i ∷ k.0, (x, k.1))

  -- an order, played by the planner
  pub order_moves : (ls : List (Bound A)) (os : List ℕ) (t : Bays A) → Order o ls t os → (ms : List (Move A)) × Empties o ls t ms
  order_moves ls [] t r = ([], r)
  order_moves ls (i ∷ os) t r =
      let x = r.0 in
      let s = x.session in
      let full = (L.difference s.holding s.claim x.need).0 x.rest in
      let v = set t i (Some (with_holding s s.claim)) in
      let k = order_moves ls os (emptied t i) r.1 in (
        hand i x.need ∷ (close i ∷ k.0),
        (
          v,
          (s, s.claim, x.opened, full, (o.zero, L.commutes s.claim o.zero ∙ L.identity s.claim), x.room, refl),
          (emptied t i, (with_holding s s.claim, bay_put (Some (with_holding s s.claim)) t i s x.opened, refl, sym (put_put (Some (with_holding s s.claim)) None t i)), k.1),
        ),
      )
