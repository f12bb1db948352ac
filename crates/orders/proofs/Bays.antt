-- Bays, sums over them, and the order "t has no more out than u, bay by bay".
use Rattle.std.proofs.Common.{◌≡◌, ℕ, zero, suc, Bool, true, false, cond, [], ◌∷◌, set, Some, None, Option, sym, refl, ap, ◌∙◌}
use Rattle.amount.specs.Arithmetic.{Laws, Ops}
use Rattle.amount.specs.Partial.{never}
use Rattle.pool.specs.Limits.{Bound}
use Rattle.orders.specs.Sessions.{Session, Bays, AllEmpty, add, bay, share, emptied, held_under}
use Rattle.orders.proofs.Sums.{Leq, add_zero, add_left_comm, add_right_comm, leq_refl, leq_zero, leq_add}

-- no bay of an empty list is open
pub some_none : {B : Type 0} {C : Type 0} {b : B} {v : Option B} → v ≡ Some b → v ≡ None → C
some_none p q = never q p

module _ {A : Type 0} where
  pub bay_put : (v : Option (Session A)) (t : Bays A) (i : ℕ) (s : Session A) → bay t i ≡ Some s → bay (set t i v) i ≡ v
  bay_put v [] i s h = some_none h refl
  bay_put v (b ∷ t) zero s h = refl
  bay_put v (b ∷ t) (suc i) s h = bay_put v t i s h

  pub bay_shut : (t : Bays A) (i : ℕ) → bay (emptied t i) i ≡ None
  bay_shut [] i = refl
  bay_shut (b ∷ t) zero = refl
  bay_shut (b ∷ t) (suc i) = bay_shut t i

  pub put_put : (v w : Option (Session A)) (t : Bays A) (i : ℕ) → set (set t i v) i w ≡ set t i w
  put_put v w [] i = refl
  put_put v w (b ∷ t) zero = refl
  put_put v w (b ∷ t) (suc i) = ap (λ u. b ∷ u) (put_put v w t i)

module _ {A : Type 0} (o : Ops A) (L : Laws o) where
  pub out_split : (l : Bound A) (t : Bays A) (i : ℕ) → held_under o l t ≡ add o (share o l (bay t i)) (held_under o l (emptied t i))
  out_split l [] i = sym (add_zero o L (Some o.zero))
  out_split l (b ∷ t) zero = ap (add o (share o l b)) (sym (add_zero o L (held_under o l t)))
  out_split l (b ∷ t) (suc i) = ap (add o (share o l b)) (out_split l t i) ∙ add_left_comm o L (share o l b) (share o l (bay t i)) (held_under o l (emptied t i))

  pub out_put : (l : Bound A) (v : Option (Session A)) (t : Bays A) (i : ℕ) (s : Session A) → bay t i ≡ Some s
      → held_under o l (set t i v) ≡ add o (share o l v) (held_under o l (emptied t i))
  out_put l v t i s h = out_split l (set t i v) i ∙ (rw (bay_put v t i s h, put_put v None t i))

  pub share_on : (l : Bound A) (s : Session A) → l.watches s.mark ≡ true → share o l (Some s) ≡ Some s.holding
  share_on l s w = rw (w, share)

  pub share_off : (l : Bound A) (s : Session A) → l.watches s.mark ≡ false → share o l (Some s) ≡ Some o.zero
  share_off l s w = rw (w, share)

  -- with its need handed out, bay i counts for its claim
  pub out_need : (l : Bound A) (t : Bays A) (i : ℕ) (s : Session A) (n c : A) → bay t i ≡ Some s → o.plus s.holding n ≡ Some c
      → l.watches s.mark ≡ true → add o (held_under o l t) (Some n) ≡ add o (Some c) (held_under o l (emptied t i))
  out_need l t i s n c h e w =
      ap (λ x. add o x (Some n)) (out_split l t i ∙ ap (λ b. add o (share o l b) (held_under o l (emptied t i))) h ∙ ap (λ x. add o x (held_under o l (emptied t i))) (share_on l s w))
      ∙ add_right_comm o L (Some s.holding) (held_under o l (emptied t i)) (Some n)
      ∙ ap (λ x. add o x (held_under o l (emptied t i))) e

  -- one bay: empty, or the same session with no more held
  abbrev pub Below : Option (Session A) → Option (Session A) → Type 0
  Below None v = Unit {0}
  Below (Some s) None = ⊥
  Below (Some s) (Some r) = (s.mark ≡ r.mark) × (s.claim ≡ r.claim) × Leq o (Some s.holding) (Some r.holding)

  abbrev pub Dom : Bays A → Bays A → Type 0
  Dom [] u = Unit {0}
  Dom (b ∷ t) [] = ⊥
  Dom (b ∷ t) (c ∷ u) = Below b c × Dom t u

  pub below_refl : (b : Option (Session A)) → Below b b
  below_refl None = tt
  below_refl (Some s) = (refl, refl, leq_refl o L (Some s.holding))

  pub dom_refl : (t : Bays A) → Dom t t
  dom_refl [] = tt
  dom_refl (b ∷ t) = (below_refl b, dom_refl t)

  pub dom_bay : (t u : Bays A) (i : ℕ) → Dom t u → Below (bay t i) (bay u i)
  dom_bay [] u i d = tt
  dom_bay (b ∷ t) [] i d = elim d [ ]
  dom_bay (b ∷ t) (c ∷ u) zero d = d.0
  dom_bay (b ∷ t) (c ∷ u) (suc i) d = dom_bay t u i d.1

  pub dom_put_right : (v : Option (Session A)) (t u : Bays A) (i : ℕ) → Dom t u → Below (bay t i) v → Dom t (set u i v)
  dom_put_right v [] u i d h = tt
  dom_put_right v (b ∷ t) [] i d h = elim d [ ]
  dom_put_right v (b ∷ t) (c ∷ u) zero d h = (h, d.1)
  dom_put_right v (b ∷ t) (c ∷ u) (suc i) d h = (d.0, dom_put_right v t u i d.1 h)

  pub dom_put_left : (v : Option (Session A)) (t u : Bays A) (i : ℕ) → Dom t u → Below v (bay u i) → Dom (set t i v) u
  dom_put_left v [] u i d h = tt
  dom_put_left v (b ∷ t) [] i d h = elim d [ ]
  dom_put_left v (b ∷ t) (c ∷ u) zero d h = (h, d.1)
  dom_put_left v (b ∷ t) (c ∷ u) (suc i) d h = (d.0, dom_put_left v t u i d.1 h)

  pub dom_shut : (t u : Bays A) (i : ℕ) → Dom t u → Dom (emptied t i) (emptied u i)
  dom_shut t u i d = dom_put_right None (emptied t i) u i (dom_put_left None t u i d tt) (rw (bay_shut t i) tt)

  pub share_below : (l : Bound A) (b c : Option (Session A)) → Below b c → Leq o (share o l b) (share o l c)
  share_below l None c h = leq_zero o L (share o l c)
  share_below l (Some s) None h = elim h [ ]
  share_below l (Some s) (Some r) h = rw h.0 (go (l.watches r.mark))
    where
      go : (w : Bool) → Leq o (cond w (Some s.holding) (Some o.zero)) (cond w (Some r.holding) (Some o.zero))
      go true = h.2
      go false = leq_refl o L (Some o.zero)

  pub out_dom : (l : Bound A) (t u : Bays A) → Dom t u → Leq o (held_under o l t) (held_under o l u)
  out_dom l [] u d = leq_zero o L (held_under o l u)
  out_dom l (b ∷ t) [] d = elim d [ ]
  out_dom l (b ∷ t) (c ∷ u) d = leq_add o L (share_below l b c d.0) (out_dom l t u d.1)

  pub vacant_dom : (t u : Bays A) → Dom t u → AllEmpty u → AllEmpty t
  vacant_dom t u d h i = go (bay t i) (bay u i) (dom_bay t u i d) (h i)
    where
      go : (b c : Option (Session A)) → Below b c → c ≡ None → b ≡ None
      go None c d e = refl
      go (Some s) None d e = elim d [ ]
      go (Some s) (Some r) d e = some_none refl e
