-- Sessions at bays, and what they hold under a limit. Assumes nothing.
use Rattle.std.specs.Prelude.{◌≡◌, ℕ, suc, true, cond, List, [], ◌∷◌, Some, None, Option, slice_index_or, slice_set}
use Rattle.amount.specs.Arithmetic.{Ops, bind}
use Rattle.pool.specs.Limits.{Bound, lowest_place, within, over}

-- a firm's mark, the most that the session may hold, and what it holds
pub record Session (A : Type 0) : Type 0 where
  pub mark : ℕ
  pub claim : A
  pub holding : A

abbrev pub with_holding : {A : Type 0} → Session A → A → Session A
with_holding s h = record { mark = s.mark; claim = s.claim; holding = h }

-- the bays from bay 0, each empty or with its session
abbrev pub Bays : Type 0 → Type 0
Bays A = List (Option (Session A))

abbrev pub bay : {A : Type 0} → Bays A → ℕ → Option (Session A)
bay t i = slice_index_or t i None

abbrev pub emptied : {A : Type 0} → Bays A → ℕ → Bays A
emptied t i = slice_set t i None

abbrev pub AllEmpty : {A : Type 0} → Bays A → Type 0
AllEmpty t = (i : ℕ) → bay t i ≡ None

-- how many bays have a session
abbrev pub open_bays : {A : Type 0} → Bays A → ℕ
open_bays [] = 0
open_bays (None ∷ t) = open_bays t
open_bays (Some s ∷ t) = suc (open_bays t)

module _ {A : Type 0} (o : Ops A) where
  -- the sum of two amounts, either of which may be undefined
  abbrev pub add : Option A → Option A → Option A
  add x y = bind x (λ a. bind y (o.plus a))

  -- what a bay's session counts for under a limit: its holding where the limit watches its mark
  abbrev pub share : Bound A → Option (Session A) → Option A
  share b None = Some o.zero
  share b (Some s) = cond (b.watches s.mark) (Some s.holding) (Some o.zero)

  -- a limit's out: the sum of the holdings of the open bays whose marks it watches, zero for none
  abbrev pub held_under : Bound A → Bays A → Option A
  held_under b [] = Some o.zero
  held_under b (s ∷ t) = add (share b s) (held_under b t)

  -- Short, with those sums out: the lowest place that watches the mark and has no room for the amount
  abbrev pub short_under : List (Bound A) → Bays A → ℕ → A → Option ℕ
  short_under bs t m a = lowest_place (λ b. over o m (add (held_under b t) (Some a)) b) bs

  -- every limit's out is defined and part of its ceiling
  abbrev pub WithinCeilings : List (Bound A) → Bays A → Type 0
  WithinCeilings [] t = Unit {0}
  WithinCeilings (b ∷ bs) t = (within o (held_under b t) b.ceiling ≡ true) × WithinCeilings bs t
