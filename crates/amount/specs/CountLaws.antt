-- Counts below any limit keep the laws; whole amperes are such counts.
use Rattle.std.specs.Prelude.{◌≡◌, ℕ, ◌+◌, ◌-◌, ◌<◌, ◌≤◌, Some, None, Option, refl}
use Rattle.std.proofs.Common.{sym, ap, ◌∙◌, add_comm, add_assoc, arith}
use Rattle.std.proofs.Math.Bridge.{le_prop}
use Rattle.std.proofs.Math.Decide.{dec_lt, dec_le}
use Rattle.std.proofs.lemmas.Bool.{eqb-true, eq-eqb}
use Rattle.std.specs.Option.{MatchOption, IsSomeAnd, SomeIff}
use Rattle.amount.specs.Arithmetic.{Ops, Laws, bind}
use Rattle.amount.specs.Counts.{fitted, count_ops, amps, amps_number, amps_ops}
use Rattle.amount.specs.declared.amps.Amps.{Amps}
use Rattle.amount.specs.Partial.{never, given_yes, given_no}
use Rattle.std.proofs.lemmas.Option.{same_Some}

-- a count is made of the number, where there is one
abbrev pub Makes : {T : Type 0} → Option ℕ → Option T → (ℕ → T → Type 0) → Type 0
Makes n r P = MatchOption n (r ≡ None) (λ x. IsSomeAnd r (P x))

-- the values of T are the numbers below the limit, one for one
pub record Counted {T : Type 0} (limit : ℕ) (make : (n : ℕ) → n < limit → T) (number : T → ℕ) : Type 0 where
  pub number_make : (n : ℕ) (h : n < limit) → number (make n h) ≡ n
  pub make_number : (a : T) (h : number a < limit) → make (number a) h ≡ a
  pub below : (a : T) → number a < limit

module _ {T : Type 0} {limit : ℕ} {make : (n : ℕ) → n < limit → T} {number : T → ℕ} (counted : Counted limit make number) where
  pub fitted_some : (n : ℕ) (h : n < limit) → fitted limit make n ≡ Some (make n h)
  fitted_some n h = given_yes (dec_lt n limit) (make n) le_prop h

  pub fitted_none : (n : ℕ) → limit ≤ n → fitted limit make n ≡ None
  fitted_none n h = given_no (dec_lt n limit) (make n) (λ k. omega arith)

  pub fitted_number : (a : T) → fitted limit make (number a) ≡ Some a
  fitted_number a = fitted_some (number a) (counted.below a) ∙ ap Some (counted.make_number a (counted.below a))

  -- a count is known by its number
  pub number_inj : (a b : T) → number a ≡ number b → a ≡ b
  number_inj a b e = same_Some a b (sym (fitted_number a) ∙ ap (fitted limit make) e ∙ fitted_number b)

  pub fitted_is : (n : ℕ) (a : T) → fitted limit make n ≡ Some a → number a ≡ n
  fitted_is n a e = elim (dec_lt n limit) [
    | yes h ↦ ap number (same_Some a (make n h) (sym e ∙ fitted_some n h)) ∙ counted.number_make n h
    | no h ↦ never (fitted_none n (omega arith)) e
  ]

  bind_fitted : (n c : ℕ) → bind (fitted limit make n) (λ s. fitted limit make (number s + c)) ≡ fitted limit make (n + c)
  bind_fitted n c = elim (dec_lt n limit) [
    | yes h ↦ ap (λ o. bind o (λ s. fitted limit make (number s + c))) (fitted_some n h) ∙ ap (λ m. fitted limit make (m + c)) (counted.number_make n h)
    | no h ↦ ap (λ o. bind o (λ s. fitted limit make (number s + c))) (fitted_none n (omega arith)) ∙ sym (fitted_none (n + c) (omega arith))
  ]

  bind_fitted_r : (n c : ℕ) → bind (fitted limit make n) (λ s. fitted limit make (c + number s)) ≡ fitted limit make (c + n)
  bind_fitted_r n c = ap (λ f. bind (fitted limit make n) f) (λ i s. fitted limit make (add_comm c (number s) i)) ∙ bind_fitted n c ∙ ap (fitted limit make) (add_comm n c)

  module _ (none : T) (none_is : number none ≡ 0) where
    abbrev ops : Ops T
    ops = count_ops limit make number none

    minus_some : (a b : T) (h : number a ≤ number b) → ops.minus b a ≡ fitted limit make (number b - number a)
    minus_some a b h = ap (λ o. bind o (fitted limit make)) (given_yes (dec_le (number a) (number b)) (λ _. number b - number a) le_prop h)

    minus_none : (a b : T) → number b < number a → ops.minus b a ≡ None
    minus_none a b h = ap (λ o. bind o (fitted limit make)) (given_no (dec_le (number a) (number b)) (λ _. number b - number a) (λ k. omega arith))

    left : (a b c : T) → ops.minus b a ≡ Some c → ops.plus a c ≡ Some b
    left a b c p = elim (dec_le (number a) (number b)) [
      | yes h ↦ let x = fitted_is _ c (sym (minus_some a b h) ∙ p) in ap (fitted limit make) (omega arith) ∙ fitted_number b
      | no h ↦ never (minus_none a b (omega arith)) p
    ]

    found : (a b c : T) → ops.plus a c ≡ Some b → ops.minus b a ≡ Some c
    found a b c p = let x = fitted_is _ b p in minus_some a b (omega arith) ∙ ap (fitted limit make) (omega arith) ∙ fitted_number c

    pub count_laws : Laws ops
    count_laws = record {
      identity = λ a. ap (λ n. fitted limit make (n + number a)) none_is ∙ ap (fitted limit make) (omega arith) ∙ fitted_number a;
      commutes = λ a b. ap (fitted limit make) (add_comm (number a) (number b));
      regroups = λ a b c. bind_fitted (number a + number b) (number c) ∙ ap (fitted limit make) (add_assoc (number a) (number b) (number c)) ∙ sym (bind_fitted_r (number b + number c) (number a));
      cancels = λ a b c s p q. let x = fitted_is _ s p in let y = fitted_is _ s q in number_inj a b (omega arith);
      positive = λ a b p. let x = fitted_is _ none p in (number_inj a none (omega arith), number_inj b none (omega arith));
      difference = λ a b c. (left a b c, found a b c);
      equality = λ a b. (λ e. number_inj a b (eqb-true (number a) (number b) e), λ e. eq-eqb (number a) (number b) (ap number e));
    }

    -- what code shows of a sum and a difference, first as a number
    pub sum_shown : (a b : T) (n : Option ℕ) (r : Option T) {P : ℕ → T → Type 0} → SomeIff n (number a + number b < limit) (number a + number b) → Makes n r P → ((x : ℕ) (c : T) → P x c → number c ≡ x) → r ≡ ops.plus a b
    sum_shown a b None r s m f = m ∙ sym (fitted_none (number a + number b) (omega arith))
    sum_shown a b (Some x) None s m f = absurd m
    sum_shown a b (Some x) (Some c) s m f = sym (fitted_number c) ∙ ap (fitted limit make) (f x c m ∙ s.1)

    pub minus_shown : (a b : T) (n : Option ℕ) (r : Option T) {P : ℕ → T → Type 0} → SomeIff n (number a ≤ number b) (number b - number a) → Makes n r P → ((x : ℕ) (c : T) → P x c → number c ≡ x) → r ≡ ops.minus b a
    minus_shown a b None r s m f = m ∙ sym (minus_none a b (omega arith))
    minus_shown a b (Some x) None s m f = absurd m
    minus_shown a b (Some x) (Some c) s m f = sym (fitted_number c) ∙ ap (fitted limit make) (f x c m ∙ s.1) ∙ sym (minus_some a b s.0)

-- amperes as such counts
pub amps_counted : Counted 65536 amps amps_number
amps_counted = record {
  number_make = λ n h. refl;
  make_number = λ a h. ap (amps a.value) (le_prop h a.fits);
  below = λ a. a.fits;
}

pub amps_laws : Laws amps_ops
amps_laws = count_laws amps_counted amps_ops.zero refl

pub amps_eq : (a b : Amps) → a.value ≡ b.value → a ≡ b
amps_eq = number_inj amps_counted

pub amps_sum_shown : (a b : Amps) (n : Option ℕ) (r : Option Amps) {P : ℕ → Amps → Type 0} → SomeIff n (a.value + b.value < 65536) (a.value + b.value) → Makes n r P → ((x : ℕ) (c : Amps) → P x c → c.value ≡ x) → r ≡ amps_ops.plus a b
amps_sum_shown = sum_shown amps_counted amps_ops.zero refl

pub amps_minus_shown : (a b : Amps) (n : Option ℕ) (r : Option Amps) {P : ℕ → Amps → Type 0} → SomeIff n (a.value ≤ b.value) (b.value - a.value) → Makes n r P → ((x : ℕ) (c : Amps) → P x c → c.value ≡ x) → r ≡ amps_ops.minus b a
amps_minus_shown = minus_shown amps_counted amps_ops.zero refl
