-- What each call makes of a bay in each state. Assumes nothing.
use Rattle.std.specs.Prelude.{Ok, Err, Result}
use Rattle.rows.specs.declared.effect.RowCall.{RowCall}
use Rattle.rows.specs.declared.effect.RowCall.TheVariants.{Open, Ask, Confirm, Withdraw, Give, End}
use Rattle.rows.specs.declared.refusal.Refusal.{Refusal}
use Rattle.rows.specs.declared.refusal.Refusal.TheVariants as refusals
use Rattle.rows.specs.declared.row.RowState.{RowState}
use Rattle.rows.specs.declared.row.RowState.TheVariants.{Empty, AtRest, Moving}

-- the state afterwards, or the refusal
abbrev pub turned : RowState → RowCall → Result RowState Refusal
turned Empty Open = Ok AtRest
turned Empty Ask = Err refusals.Empty
turned Empty Confirm = Err refusals.WrongSlip
turned Empty Withdraw = Err refusals.WrongSlip
turned Empty Give = Err refusals.Empty
turned Empty End = Err refusals.Empty
turned AtRest Open = Err refusals.Taken
turned AtRest Ask = Ok Moving
turned AtRest Confirm = Err refusals.WrongSlip
turned AtRest Withdraw = Err refusals.WrongSlip
turned AtRest Give = Ok AtRest
turned AtRest End = Ok Empty
turned Moving Open = Err refusals.Moving
turned Moving Ask = Err refusals.Moving
turned Moving Confirm = Ok AtRest
turned Moving Withdraw = Ok AtRest
turned Moving Give = Err refusals.Moving
turned Moving End = Err refusals.Moving
