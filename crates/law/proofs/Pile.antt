-- The pile keeps the sums of the bays.
use Rattle.std.proofs.Common.{◌≡◌, ℕ, Bool, true, false, cond, List, [], ◌∷◌, set, Some, None, Option, sym, refl, ap, ◌∙◌, arith}
use Rattle.amount.specs.Arithmetic.{Laws, Ops}
use Rattle.pool.specs.Limits.{Bound, Idle, Limit, bounds, given_back, short_place, taken, torn_place, with_out, within}
use Rattle.orders.specs.Sessions.{Bays, Session, add, bay, emptied, held_under, share, short_under}
use Rattle.law.specs.Law.{Sums}
use Rattle.orders.proofs.Bays.{some_none, out_split, out_put, share_on, share_off}
use Rattle.orders.proofs.Planned.{place_none, none_place}
use Rattle.orders.proofs.Sums.{add_assoc, leq_within}
use Rattle.amount.specs.Partial.{some_inj}

module _ {A : Type 0} (o : Ops A) (L : Laws o) where
  -- Short on the pile is Short on the tally
  pub short_same : (ks : List (Limit A)) (t : Bays A) (m : ℕ) (a : A) → Sums o ks t → short_place o ks m a ≡ short_under o (bounds ks) t m a
  short_same [] t m a h = refl
  short_same (k ∷ ks) t m a h = rw (h.0, short_same ks t m a h.1)

  -- the change of one limit follows the change of the tally
  at_out : (k : Limit A) (w : Bool) (x : Option A) (u : Bays A) → (w ≡ true → (held_under o k.bound u ≡ x) × ((a : A) × (x ≡ Some a))) → (w ≡ false → held_under o k.bound u ≡ Some k.out)
      → held_under o (cond w (with_out o k x) k).bound u ≡ Some (cond w (with_out o k x) k).out
  at_out k true None u f g = some_none (f refl).1.1 refl
  at_out k true (Some a) u f g = (f refl).0
  at_out k false x u f g = g refl

  pub matches_taken : (m : ℕ) (a : A) (ks : List (Limit A)) (t u : Bays A)
      → ((l : Bound A) → l.watches m ≡ true → held_under o l u ≡ add o (held_under o l t) (Some a))
      → ((l : Bound A) → l.watches m ≡ false → held_under o l u ≡ held_under o l t)
      → Sums o ks t → short_place o ks m a ≡ None → Sums o (taken o m a ks) u
  matches_taken m a [] t u f g h e = tt
  matches_taken m a (k ∷ ks) t u f g h e =
      let p = place_none (k.bound.watches m) (within o (o.plus k.out a) k.bound.ceiling) (short_place o ks m a) e in (
        at_out k (k.bound.watches m) (o.plus k.out a) u (λ w. (f k.bound w ∙ ap (λ x. add o x (Some a)) h.0, defined (o.plus k.out a) (p.0 w))) (λ w. g k.bound w ∙ h.0),
        matches_taken m a ks t u f g h.1 p.1,
      )
    where
      defined : (x : Option A) → within o x k.bound.ceiling ≡ true → (b : A) × (x ≡ Some b)
      defined None h = let z : ◌≡◌ {A = ℕ} 0 1 = cc in absurd (omega arith)
      defined (Some b) h = (b, refl)

  -- what a limit has out, less a part of it
  lessened : (k : Limit A) (a : A) (x : Option A) → add o (Some a) x ≡ Some k.out → (x ≡ o.minus k.out a) × ((b : A) × (o.minus k.out a ≡ Some b))
  lessened k a None e = some_none refl (sym e)
  lessened k a (Some b) e = let l = (L.difference a k.out b).1 e in (sym l, (b, l))

  pub matches_given : (m : ℕ) (a : A) (ks : List (Limit A)) (t u : Bays A)
      → ((l : Bound A) → l.watches m ≡ true → held_under o l t ≡ add o (Some a) (held_under o l u))
      → ((l : Bound A) → l.watches m ≡ false → held_under o l u ≡ held_under o l t)
      → Sums o ks t → Sums o (given_back o m a ks) u
  matches_given m a [] t u f g h = tt
  matches_given m a (k ∷ ks) t u f g h = (
    at_out k (k.bound.watches m) (o.minus k.out a) u (λ w. lessened k a (held_under o k.bound u) (sym (f k.bound w) ∙ h.0)) (λ w. g k.bound w ∙ h.0),
    matches_given m a ks t u f g h.1,
  )

  -- the pile never refuses what the rows allow
  pub never_torn : (m : ℕ) (a : A) (ks : List (Limit A)) (t u : Bays A)
      → ((l : Bound A) → l.watches m ≡ true → held_under o l t ≡ add o (Some a) (held_under o l u))
      → Sums o ks t → torn_place o ks m a ≡ None
  never_torn m a [] t u f h = refl
  never_torn m a (k ∷ ks) t u f h =
      none_place (k.bound.watches m) (within o (Some a) k.out) (torn_place o ks m a)
      (λ w. leq_within o L (Some a) k.out (record { more = held_under o k.bound u; sum = sym (f k.bound w) ∙ h.0 })) (never_torn m a ks t u f h.1)

  pub idle_sums : (ks : List (Limit A)) (t : Bays A) → ((l : Bound A) → held_under o l t ≡ Some o.zero) → Idle o ks → Sums o ks t
  idle_sums [] t f h = tt
  idle_sums (k ∷ ks) t f h = (f k.bound ∙ ap Some (sym h.0), idle_sums ks t f h.1)

  pub sums_idle : (ks : List (Limit A)) (t : Bays A) → ((l : Bound A) → held_under o l t ≡ Some o.zero) → Sums o ks t → Idle o ks
  sums_idle [] t f h = tt
  sums_idle (k ∷ ks) t f h = (some_inj k.out o.zero (sym h.0 ∙ f k.bound), sums_idle ks t f h.1)

  -- a bay of which an amount goes back
  pub total_back : (l : Bound A) (t : Bays A) (i : ℕ) (s : Session A) (v : Option (Session A)) (a h : A) → bay t i ≡ Some s → o.plus a h ≡ Some s.holding
      → share o l v ≡ Some h → l.watches s.mark ≡ true → held_under o l t ≡ add o (Some a) (held_under o l (set t i v))
  total_back l t i s v a h b e sh w =
      out_split o L l t i
      ∙ ap (λ x. add o (share o l x) (held_under o l (emptied t i))) b
      ∙ ap (λ x. add o x (held_under o l (emptied t i))) (share_on o L l s w ∙ sym e)
      ∙ add_assoc o L (Some a) (Some h) (held_under o l (emptied t i))
      ∙ ap (λ x. add o (Some a) (add o x (held_under o l (emptied t i)))) (sym sh)
      ∙ ap (add o (Some a)) (sym (out_put o L l v t i s b))

  pub total_beside : (l : Bound A) (t : Bays A) (i : ℕ) (s : Session A) (v : Option (Session A)) → bay t i ≡ Some s
      → share o l v ≡ Some o.zero → l.watches s.mark ≡ false → held_under o l (set t i v) ≡ held_under o l t
  total_beside l t i s v b sh w =
      out_put o L l v t i s b
      ∙ ap (λ x. add o x (held_under o l (emptied t i))) (sh ∙ sym (share_off o L l s w))
      ∙ ap (λ x. add o (share o l x) (held_under o l (emptied t i))) (sym b)
      ∙ sym (out_split o L l t i)
