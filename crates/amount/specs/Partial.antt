-- Values that may be absent, and the law of grouping from one half of it.
use Rattle.std.specs.Prelude.{◌≡◌, ◌⊎◌, Some, None, Option, refl}
use Rattle.std.proofs.Common.{sym, ap, ◌∙◌, inl, inr}
use Rattle.std.proofs.lemmas.Option.{none-some}
pub use Rattle.std.proofs.lemmas.Option.{same_Some as some_inj}
use Rattle.amount.specs.Arithmetic.{bind}
use Rattle.amount.specs.Counts.{given}

pub seen : {A : Type 0} (o : Option A) → (o ≡ None) ⊎ ((x : A) × (o ≡ Some x))
seen None = inl refl
seen (Some x) = inr (x, refl)

pub never : {A B : Type 0} {o : Option A} {x : A} → o ≡ None → o ≡ Some x → B
never {x = x} p q = absurd (none-some x (sym p ∙ q))

pub bind_some : {A B : Type 0} (o : Option A) (f : A → Option B) (y : B) → bind o f ≡ Some y → (x : A) × (o ≡ Some x) × (f x ≡ Some y)
bind_some None f y e = never refl e
bind_some (Some x) f y e = (x, refl, e)

pub bind_at : {A B : Type 0} (o : Option A) (f : A → Option B) (x : A) → o ≡ Some x → bind o f ≡ f x
bind_at o f x e = ap (λ p. bind p f) e

pub given_yes : {P A : Type 0} (d : Dec P) (f : P → A) → ((x y : P) → x ≡ y) → (h : P) → given d f ≡ Some (f h)
given_yes (yes k) f one h = ap (λ x. Some (f x)) (one k h)
given_yes (no k) f one h = absurd (k h)

pub given_no : {P A : Type 0} (d : Dec P) (f : P → A) → (P → ⊥) → given d f ≡ None
given_no (yes k) f h = absurd (h k)
given_no (no k) f h = refl

pub given_is : {P A : Type 0} (d : Dec P) (x : A) → P → given d (λ _. x) ≡ Some x
given_is (yes k) x h = refl
given_is (no k) x h = absurd (k h)

pub given_held : {P A : Type 0} (d : Dec P) (x y : A) → given d (λ _. x) ≡ Some y → P × (x ≡ y)
given_held (yes k) x y e = (k, cc)
given_held (no k) x y e = never refl e

-- Where the sum commutes, one half of the law of grouping gives the whole.
module _ {A : Type 0} (sum : A → A → Option A) (comm : (a b : A) → sum a b ≡ sum b a)
    (half : (a b c s t : A) → sum a b ≡ Some s → sum s c ≡ Some t → bind (sum b c) (λ u. sum a u) ≡ Some t) where
  other : (a b c t : A) → bind (sum b c) (λ u. sum a u) ≡ Some t → bind (sum a b) (λ s. sum s c) ≡ Some t
  other a b c t e =
      let x = bind_some (sum b c) (λ u. sum a u) t e in
      let y = bind_some (sum b a) (λ v. sum c v) t (half c b a x.0 t (comm c b ∙ x.1) (comm x.0 a ∙ x.2)) in
      bind_at (sum a b) (λ s. sum s c) y.0 (comm a b ∙ y.1) ∙ comm y.0 c ∙ y.2

  pub regroups_by : (a b c : A) → bind (sum a b) (λ s. sum s c) ≡ bind (sum b c) (λ u. sum a u)
  regroups_by a b c = elim (seen (bind (sum a b) (λ s. sum s c))) [
    | inr x ↦ let y = bind_some (sum a b) (λ s. sum s c) x.0 x.1 in x.1 ∙ sym (half a b c y.0 x.0 y.1 y.2)
    | inl n ↦ elim (seen (bind (sum b c) (λ u. sum a u))) [
      | inl m ↦ n ∙ sym m
      | inr x ↦ never n (other a b c x.0 x.1)
    ]
  ]
