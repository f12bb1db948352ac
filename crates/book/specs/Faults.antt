-- The fault inside refusal 14 is the limit's own, whole. Assumes nothing.
use Rattle.std.specs.Prelude.{◌≡◌, ℕ, Some, None, Option}
use Rattle.amount.specs.Arithmetic.{Ops}
use Rattle.pool.specs.Limits.{told_place, torn_place}
use Rattle.orders.specs.Sessions.{Session}
use Rattle.law.specs.Book.{Row, empty, rest, moving, State, row, seen_row}
use Rattle.rows.specs.declared.refusal.Refusal.{Refusal}
use Rattle.rows.specs.declared.refusal.Refusal.TheVariants.{Torn}

module _ {A : Type 0} (o : Ops A) (st : State A) where
  -- the lowest place that has less out than an open session would give back
  abbrev pub torn_session : (Session A → A) → Option (Session A) → Option ℕ
  torn_session back None = None
  torn_session back (Some s) = torn_place o st.pile s.mark (back s)

  -- of a give
  abbrev pub torn_give : ℕ → A → Option ℕ
  torn_give i a = torn_session (λ _. a) (seen_row (row st.rows i))

  -- of an end
  abbrev pub torn_end : ℕ → Option ℕ
  torn_end i = torn_session (λ s. s.holding) (seen_row (row st.rows i))

  -- of a moving bay's portion
  abbrev pub torn_portion : Row A → Option ℕ
  torn_portion empty = None
  torn_portion (rest s) = None
  torn_portion (moving s a) = torn_place o st.pile s.mark a

  -- of a withdrawal
  abbrev pub torn_withdraw : ℕ → Option ℕ
  torn_withdraw i = torn_portion (row st.rows i)

-- a refusal 14 has that place inside
abbrev pub TornAt : Option ℕ → Refusal → Type 0
TornAt place (Torn fault) = told_place place ≡ Some fault.place
TornAt place _ = Unit {0}
