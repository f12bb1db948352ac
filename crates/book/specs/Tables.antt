-- The rows of a book, and what a call meets there before it begins. Assumes nothing.
use Rattle.std.specs.Prelude.{ℕ, Bool, true, false, cond, not, ◌||◌, List, [], map, is_some, Some, None, Ok, Err, Option, Result, ◌==◌, nat_le, slice_index_or}
use Rattle.orders.specs.Sessions.{Session}
use Rattle.law.specs.Book.{seen_row, slip_bay}
use Rattle.law.specs.Book as machine
use Rattle.rows.specs.Effects.{turned}
use Rattle.rows.specs.Kinds.{Kind}
use Rattle.rows.specs.Rows.{row_of}
use Rattle.rows.specs.declared.effect.RowCall.{RowCall}
use Rattle.rows.specs.declared.refusal.Refusal.{Refusal}
use Rattle.rows.specs.declared.refusal.Refusal.TheVariants as refusals
use Rattle.rows.specs.declared.row.Row.{Row}
use Rattle.rows.specs.declared.row.RowState.{RowState}
use Rattle.rows.specs.declared.row.RowState.TheVariants.{Empty, AtRest, Moving}
use Rattle.book.specs.declared.slip.Slip.{Slip}
use Rattle.book.specs.declared.table.Table.{Table}

abbrev pub moving_state : RowState → Bool
moving_state Empty = false
moving_state AtRest = false
moving_state Moving = true

-- the row's bay moves
abbrev pub moves : Row → Bool
moves r = moving_state r.state

-- what stands past the last row
abbrev pub no_row : Row
no_row = record { state = Empty; mark = 0; claim = record { bytes = [] }; holding = record { bytes = [] }; portion = record { bytes = [] } }

abbrev pub row_in : Table → ℕ → Row
row_in t i = slice_index_or t.rows i no_row

-- a kind wider than 16 bytes shuts every book
abbrev pub is_shut : ℕ → Table → Bool
is_shut w t = not (nat_le w 16) || t.shut

-- refusals 1 and 2
abbrev pub known : Bool → ℕ → Result (Unit {0}) Refusal
known shut i = cond shut (Err refusals.Shut) (cond (nat_le 64 i) (Err refusals.NoBay) (Ok tt))

-- a session that is there, with the state after the call
abbrev pub sat : {A : Type 0} → Result RowState Refusal → Option (Session A) → Result (RowState × Session A) Refusal
sat (Err e) x = Err e
sat (Ok next) None = Err refusals.Empty
sat (Ok next) (Some s) = Ok (next, s)

-- refusals 1 and 13
abbrev pub spending : ℕ → Table → Slip → RowCall → Result RowState Refusal
spending w t slip call = cond (is_shut w t) (Err refusals.Shut) (cond (not (slip.book == t.number)) (Err refusals.WrongSlip) (cond (nat_le 64 slip.bay) (Err refusals.WrongSlip) (turned (row_in t slip.bay).state call)))

module _ {A : Type 0} (kind : Kind A) where
  -- the bays as the machine has them
  abbrev pub rows_in : Table → List (machine.Row A)
  rows_in t = map (row_of kind) t.rows

  -- refusals 1, 2, 4 and 6
  abbrev pub sitting : Table → ℕ → RowCall → Result (RowState × Session A) Refusal
  sitting t i call = cond (is_shut kind.W t) (Err refusals.Shut) (cond (nat_le 64 i) (Err refusals.NoBay) (cond (is_some (slip_bay (rows_in t))) (Err refusals.Moving)
      (sat (turned (row_in t i).state call) (seen_row (row_of kind (row_in t i))))))
