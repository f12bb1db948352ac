-- What a kind of amount is: a zero, a sum that may be undefined and a difference, and the laws that they keep. Assumes nothing.
use Rattle.std.specs.Prelude.{◌≡◌, Bool, ◌↔◌, Some, None, Decides, Option}

-- the operations of a kind
pub record Ops (A : Type 0) : Type 0 where
  pub zero : A
  -- the sum, where it is defined
  pub plus : A → A → Option A
  -- minus b a: b less a, where a is part of b
  pub minus : A → A → Option A
  -- whether both are the same amount
  pub equal : A → A → Bool

-- f at the value; absent where there is none
abbrev pub bind : {A B : Type 0} → Option A → (A → Option B) → Option B
bind None f = None
bind (Some x) f = f x

-- a is part of b: with some c it makes b
abbrev pub PartOf : {A : Type 0} → Ops A → A → A → Type 0
PartOf {A} o a b = (c : A) × (o.plus a c ≡ Some b)

-- a partial commutative monoid, cancellative, in which only zero is part of zero; the difference is what is left
pub record Laws {A : Type 0} (o : Ops A) : Type 0 where
  -- zero plus a is a
  pub identity : (a : A) → o.plus o.zero a ≡ Some a
  -- a plus b and b plus a are both undefined, or equal
  pub commutes : (a b : A) → o.plus a b ≡ o.plus b a
  -- (a plus b) plus c and a plus (b plus c) are both undefined, or equal
  pub regroups : (a b c : A) → bind (o.plus a b) (λ s. o.plus s c) ≡ bind (o.plus b c) (λ s. o.plus a s)
  -- a plus c and b plus c, defined and equal, have a equal to b
  pub cancels : (a b c s : A) → o.plus a c ≡ Some s → o.plus b c ≡ Some s → a ≡ b
  -- a sum that is zero has only zeros
  pub positive : (a b : A) → o.plus a b ≡ Some o.zero → (a ≡ o.zero) × (b ≡ o.zero)
  -- b less a is the c that makes b with a, and absent where there is none
  pub difference : (a b c : A) → (o.minus b a ≡ Some c) ↔ (o.plus a c ≡ Some b)
  -- equality says yes exactly when both are the same amount
  pub equality : (a b : A) → Decides (o.equal a b) (a ≡ b)
