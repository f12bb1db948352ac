-- A slip that is out, as the caller has it. Assumes nothing.
use Rattle.std.specs.Prelude.{◌≡◌, true, false, Some, None, Ok, Err, Option, Result}
use Rattle.law.specs.Book.{State, row, is_moving}
use Rattle.book.specs.declared.slip.Slip.{Slip}
use Rattle.book.specs.declared.slip.Unspent.{Unspent}

-- a slip of this book, whose bay moves
abbrev pub Out : {A : Type 0} → State A → Slip → Type 0
Out st p = (st.shut ≡ false) × (p.book ≡ st.number) × (is_moving (row st.rows p.bay) ≡ true)

abbrev pub Held : {A : Type 0} → State A → Option Slip → Type 0
Held st None = Unit {0}
Held st (Some p) = Out st p

-- the slip that a refusal hands back, if any
abbrev pub handed_back : Result (Unit {0}) Unspent → Option Slip
handed_back (Ok _) = None
handed_back (Err u) = Some u.slip
