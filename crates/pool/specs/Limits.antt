-- A pile is a list of limits, place 0 first; what is asked of it and done to it. Assumes nothing.
use Rattle.std.specs.Prelude.{◌≡◌, ℕ, ◌+◌, ◌/◌, ◌%◌, ◌^◌, min, Bool, true, false, cond, not, ◌&&◌, List, [], ◌∷◌, map, is_some, Some, None, Ok, Err, Option, Result, ◌==◌}
use Rattle.amount.specs.Arithmetic.{Ops, bind}

-- the mark numbers that a limit watches, and its ceiling
pub record Bound (A : Type 0) : Type 0 where
  pub watches : ℕ → Bool
  pub ceiling : A

-- the same, with what is out under it
pub record Limit (A : Type 0) : Type 0 where
  pub bound : Bound A
  pub out : A

abbrev pub limit : {A : Type 0} → (ℕ → Bool) → A → A → Limit A
limit watches ceiling out = record { bound = record { watches = watches; ceiling = ceiling }; out = out }

abbrev pub bounds : {A : Type 0} → List (Limit A) → List (Bound A)
bounds ls = map (λ l. l.bound) ls

-- the numbers that a store watches: every one
abbrev pub every_number : ℕ → Bool
every_number m = true

-- a cap: those whose bits are set, number m by the bit worth 2 ^ m
abbrev pub in_marks : ℕ → ℕ → Bool
in_marks bits m = bits / 2 ^ m % 2 == 1

-- a reserve: every one but its own
abbrev pub all_but : ℕ → ℕ → Bool
all_but kept m = not (m == kept)

-- place 0 is there, and watches every number
abbrev pub Grounded : {A : Type 0} → List (Limit A) → Type 0
Grounded [] = ⊥
Grounded (l ∷ ls) = (m : ℕ) → l.bound.watches m ≡ true

-- a place or a count as a byte tells it: 255 for any above 255
abbrev pub told : ℕ → ℕ
told n = min n 255

abbrev pub told_place : Option ℕ → Option ℕ
told_place None = None
told_place (Some n) = Some (told n)

-- the lowest place at which the test is true
abbrev pub lowest_place : {B : Type 0} → (B → Bool) → List B → Option ℕ
lowest_place test [] = None
lowest_place test (b ∷ bs) = cond (test b) (Some 0) (bind (lowest_place test bs) (λ p. Some (p + 1)))

module _ {A : Type 0} (o : Ops A) where
  -- a is part of b
  abbrev pub part : A → A → Bool
  part a b = is_some (o.minus b a)

  -- x is defined, and part of the ceiling
  abbrev pub within : Option A → A → Bool
  within None ceiling = false
  within (Some a) ceiling = part a ceiling

  -- the limit watches the mark, and x is undefined or no part of its ceiling
  abbrev pub over : ℕ → Option A → Bound A → Bool
  over m x b = b.watches m && not (within x b.ceiling)

  -- the limit watches the mark, and has less out than the amount
  abbrev pub lacks : ℕ → A → Limit A → Bool
  lacks m a l = l.bound.watches m && not (part a l.out)

  -- Tall: the lowest place watching the mark of whose ceiling the amount is not part
  abbrev pub tall_place : List (Limit A) → ℕ → A → Option ℕ
  tall_place ls m a = lowest_place (λ l. over m (Some a) l.bound) ls

  -- Short: the lowest place watching the mark where out plus amount is undefined or not part of the ceiling
  abbrev pub short_place : List (Limit A) → ℕ → A → Option ℕ
  short_place ls m a = lowest_place (λ l. over m (o.plus l.out a) l.bound) ls

  -- the lowest place watching the mark of whose out the amount is not part
  abbrev pub torn_place : List (Limit A) → ℕ → A → Option ℕ
  torn_place ls m a = lowest_place (lacks m a) ls

  -- the limit with another amount out, where that is defined
  abbrev pub with_out : Limit A → Option A → Limit A
  with_out l None = l
  with_out l (Some x) = record { bound = l.bound; out = x }

  -- out grows by the amount, or shrinks by it, at a limit that watches the mark
  abbrev pub grown : ℕ → A → Limit A → Limit A
  grown m a l = cond (l.bound.watches m) (with_out l (o.plus l.out a)) l

  abbrev pub shrunk : ℕ → A → Limit A → Limit A
  shrunk m a l = cond (l.bound.watches m) (with_out l (o.minus l.out a)) l

  abbrev pub taken : ℕ → A → List (Limit A) → List (Limit A)
  taken m a ls = map (grown m a) ls

  abbrev pub given_back : ℕ → A → List (Limit A) → List (Limit A)
  given_back m a ls = map (shrunk m a) ls

  -- y, or the place that refuses
  abbrev pub unless : {Y : Type 0} → Option ℕ → Y → Result Y ℕ
  unless None y = Ok y
  unless (Some n) y = Err n

  -- Take: if Short is absent, out grows at each limit watching the mark; else refused with that place
  abbrev pub taking : List (Limit A) → ℕ → A → Result (List (Limit A)) ℕ
  taking ls m a = unless (short_place ls m a) (taken m a ls)

  -- Give: if the amount is part of out at each limit watching the mark, it is subtracted there; else refused with the lowest failing place
  abbrev pub giving : List (Limit A) → ℕ → A → Result (List (Limit A)) ℕ
  giving ls m a = unless (torn_place ls m a) (given_back m a ls)

  -- Whole: the ceiling at place 0
  abbrev pub whole_of : List (Limit A) → A
  whole_of [] = o.zero
  whole_of (l ∷ ls) = l.bound.ceiling

  -- Idle: out is zero at every limit
  abbrev pub Idle : List (Limit A) → Type 0
  Idle [] = Unit {0}
  Idle (l ∷ ls) = (l.out ≡ o.zero) × Idle ls

  -- what is out with the amount more, where it is part of the ceiling
  abbrev pub bounded : A → Option A → Option A
  bounded ceiling None = None
  bounded ceiling (Some s) = cond (part s ceiling) (Some s) None

  abbrev pub room : A → A → A → Option A
  room ceiling out a = bounded ceiling (o.plus out a)
