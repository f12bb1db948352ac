-- A new session whose claim is not Tall can be last in an order.
use Rattle.std.proofs.Common.{◌≡◌, ℕ, ◌<◌, Bool, true, false, cond, ◌≢◌, List, [], ◌∷◌, length, set, Some, None, sym, refl, ap, ◌∙◌, subst, length-set, get_or-set_other, get_or-set_same, set-set}
use lib.Seq.{set_comm}
use Rattle.amount.specs.Arithmetic.{Laws, Ops}
use Rattle.pool.specs.Limits.{Bound, lowest_place, over, within}
use Rattle.orders.specs.Orders.{Order}
use Rattle.orders.specs.Sessions.{Bays, Session, add, bay, emptied, held_under, share, short_under}
use Rattle.law.proofs.Played.{out_vacant}
use Rattle.orders.proofs.Bays.{some_none, out_split, vacant_dom, dom_put_left, dom_refl}
use Rattle.orders.proofs.Planned.{place_none, none_place, short_down}
use Rattle.orders.proofs.Sums.{leq_eq, within_down}

module _ {A : Type 0} (o : Ops A) (L : Laws o) where
  share_zero : (l : Bound A) (s : Session A) → s.holding ≡ o.zero → share o l (Some s) ≡ Some o.zero
  share_zero l s e = go (l.watches s.mark)
    where
      go : (w : Bool) → cond w (Some s.holding) (Some o.zero) ≡ Some o.zero
      go true = ap Some e
      go false = refl

  pub total_open : (l : Bound A) (t : Bays A) (i : ℕ) (s : Session A) → i < length t → bay t i ≡ None → s.holding ≡ o.zero → held_under o l (set t i (Some s)) ≡ held_under o l t
  total_open l t i s n b e =
      out_split o L l (set t i (Some s)) i
      ∙ ap (λ x. add o (share o l x) (held_under o l (emptied (set t i (Some s)) i))) (get_or-set_same t i (Some s) None n)
      ∙ ap (λ x. add o x (held_under o l (emptied (set t i (Some s)) i))) (share_zero l s e)
      ∙ ap (λ u. add o (Some o.zero) (held_under o l u)) (set-set t i (Some s) None)
      ∙ ap (λ x. add o (share o l x) (held_under o l (emptied t i))) (sym b)
      ∙ sym (out_split o L l t i)

  -- with nothing out, what is not Tall is not Short
  pub tall_short : (ls : List (Bound A)) (t : Bays A) (m : ℕ) (a : A) → ((l : Bound A) → held_under o l t ≡ Some o.zero)
      → lowest_place (over o m (Some a)) ls ≡ None → short_under o ls t m a ≡ None
  tall_short [] t m a f h = refl
  tall_short (l ∷ ls) t m a f h =
      let p = place_none (l.watches m) (within o (Some a) l.ceiling) (lowest_place (over o m (Some a)) ls) h in
      none_place (l.watches m) (within o (add o (held_under o l t) (Some a)) l.ceiling) (short_under o ls t m a)
      (λ w. within_down o L l.ceiling (leq_eq o L (ap (λ x. add o x (Some a)) (f l) ∙ L.identity a)) (p.0 w)) (tall_short ls t m a f p.1)

  pub order_open : (ls : List (Bound A)) (os : List ℕ) (t : Bays A) (i : ℕ) (s : Session A) → i < length t → bay t i ≡ None → s.holding ≡ o.zero
      → lowest_place (over o s.mark (Some s.claim)) ls ≡ None → Order o ls t os → (ps : List ℕ) × Order o ls (set t i (Some s)) ps
  order_open ls [] t i s n b z h r = (
    i ∷ [],
    (
      record {
        session = s;
        need = s.claim;
        opened = get_or-set_same t i (Some s) None n;
        rest = (L.difference s.holding s.claim s.claim).1 (rw z (L.identity s.claim));
        room = tall_short ls (set t i (Some s)) s.mark s.claim (λ l. total_open l t i s n b z ∙ out_vacant o L l t r) h;
      },
      λ j. subst (λ u. bay u j ≡ None) (sym (set-set t i (Some s) None)) (still j),
    ),
  )
    where
      still : (j : ℕ) → bay (emptied t i) j ≡ None
      still = vacant_dom o L (emptied t i) t (dom_put_left o L None t t i (dom_refl o L t) tt) r
  order_open ls (j ∷ os) t i s n b z h r =
      let x = r.0 in
      let away : j ≢ i = λ e. some_none x.opened (ap (bay t) e ∙ b) in
      let k = order_open ls os (emptied t j) i s (rw length-set n) (get_or-set_other t j i None None (λ e. away (sym e)) ∙ b) z h r.1 in (
        j ∷ k.0,
        (
          record {
            session = x.session;
            need = x.need;
            opened = get_or-set_other t i j (Some s) None away ∙ x.opened;
            rest = x.rest;
            room = short_down o L ls (set t i (Some s)) t x.session.mark x.need x.need (λ l w. leq_eq o L (ap (λ v. add o v (Some x.need)) (total_open l t i s n b z))) x.room;
          },
          subst (λ u. Order o ls u k.0) (set_comm t j i None (Some s) away) k.1,
        ),
      )
