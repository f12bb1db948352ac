-- The sum of amounts that may be undefined is a total commutative monoid; `Leq` is its order.
use Rattle.std.proofs.Common.{◌≡◌, ℕ, true, is_some, Some, None, Option, sym, refl, ap, ◌∙◌, arith}
use Rattle.amount.specs.Arithmetic.{Laws, Ops, bind}
use Rattle.pool.specs.Limits.{within}
use Rattle.orders.specs.Sessions.{add}

pub bind_none : {A B : Type 0} (x : Option A) → bind {B = B} x (λ a. None) ≡ None
bind_none None = refl
bind_none (Some a) = refl

-- x and some more is y
pub record Leq {A : Type 0} (o : Ops A) (x y : Option A) : Type 0 where
  pub more : Option A
  pub sum : add o x more ≡ y

module _ {A : Type 0} (o : Ops A) (L : Laws o) where
  pub add_comm : (x y : Option A) → add o x y ≡ add o y x
  add_comm None None = refl
  add_comm None (Some b) = refl
  add_comm (Some a) None = refl
  add_comm (Some a) (Some b) = L.commutes a b

  pub add_assoc : (x y z : Option A) → add o (add o x y) z ≡ add o x (add o y z)
  add_assoc None y z = refl
  add_assoc (Some a) None z = refl
  add_assoc (Some a) (Some b) None = bind_none (o.plus a b)
  add_assoc (Some a) (Some b) (Some c) = L.regroups a b c

  pub add_zero : (x : Option A) → add o (Some o.zero) x ≡ x
  add_zero None = refl
  add_zero (Some a) = L.identity a

  pub add_zero_right : (x : Option A) → add o x (Some o.zero) ≡ x
  add_zero_right x = add_comm x (Some o.zero) ∙ add_zero x

  pub add_left_comm : (x y z : Option A) → add o x (add o y z) ≡ add o y (add o x z)
  add_left_comm x y z = sym (add_assoc x y z) ∙ ap (λ v. add o v z) (add_comm x y) ∙ add_assoc y x z

  pub add_right_comm : (x y z : Option A) → add o (add o x y) z ≡ add o (add o x z) y
  add_right_comm x y z = add_assoc x y z ∙ ap (add o x) (add_comm y z) ∙ sym (add_assoc x z y)

  pub add_none : (x : Option A) → add o x None ≡ None
  add_none x = add_comm x None

  pub leq_refl : (x : Option A) → Leq o x x
  leq_refl x = record { more = Some o.zero; sum = add_zero_right x }

  pub leq_zero : (x : Option A) → Leq o (Some o.zero) x
  leq_zero x = record { more = x; sum = add_zero x }

  pub leq_eq : {x y : Option A} → x ≡ y → Leq o x y
  leq_eq {x} e = record { more = Some o.zero; sum = add_zero_right x ∙ e }

  pub leq_left : (x y : Option A) → Leq o x (add o x y)
  leq_left x y = record { more = y; sum = refl }

  pub leq_trans : {x y z : Option A} → Leq o x y → Leq o y z → Leq o x z
  leq_trans {x} p q = record { more = add o p.more q.more; sum = sym (add_assoc x p.more q.more) ∙ ap (λ v. add o v q.more) p.sum ∙ q.sum }

  pub leq_add_right : {x y : Option A} (z : Option A) → Leq o x y → Leq o (add o x z) (add o y z)
  leq_add_right {x} z p = record { more = p.more; sum = add_right_comm x z p.more ∙ ap (λ v. add o v z) p.sum }

  pub leq_add_left : {x y : Option A} (z : Option A) → Leq o x y → Leq o (add o z x) (add o z y)
  leq_add_left {x} z p = record { more = p.more; sum = add_assoc z x p.more ∙ ap (add o z) p.sum }

  pub leq_add : {x y z w : Option A} → Leq o x y → Leq o z w → Leq o (add o x z) (add o y w)
  leq_add {x} {y} {z} {w} p q = leq_trans (leq_add_right z p) (leq_add_left y q)

  -- the Boolean test says what ≼ says
  pub within_leq : (x : Option A) (c : A) → within o x c ≡ true → Leq o x (Some c)
  within_leq None c h = let z : ◌≡◌ {A = ℕ} 0 1 = cc in absurd (omega arith)
  within_leq (Some a) c h = go (o.minus c a) refl
    where
      go : (r : Option A) → o.minus c a ≡ r → Leq o (Some a) (Some c)
      go None e = let z : ◌≡◌ {A = ℕ} 0 1 = cc in absurd (omega arith)
      go (Some d) e = record { more = Some d; sum = (L.difference a c d).0 e }

  pub leq_within : (x : Option A) (c : A) → Leq o x (Some c) → within o x c ≡ true
  leq_within None c h = let z : ◌≡◌ {A = ℕ} 0 1 = cc h.sum in absurd (omega arith)
  leq_within (Some a) c h = go h.more h.sum
    where
      go : (r : Option A) → add o (Some a) r ≡ Some c → within o (Some a) c ≡ true
      go None e = let z : ◌≡◌ {A = ℕ} 0 1 = cc in absurd (omega arith)
      go (Some d) e = ap is_some ((L.difference a c d).1 e)

  pub within_down : {x y : Option A} (c : A) → Leq o x y → within o y c ≡ true → within o x c ≡ true
  within_down {x} {y} c p h = leq_within x c (leq_trans p (within_leq y c h))
