-- What an ask answers whose slip is spent at once. Assumes nothing.
use Rattle.std.specs.Prelude.{ℕ, Ok, Err, Result}
use Rattle.law.specs.Book.{Answer, Call, Slip, State, accepted, granted, confirms, withdraws}
use Rattle.rows.specs.Legend.{refusal}
use Rattle.rows.specs.declared.refusal.Refusal.{Refusal}
use Rattle.site_day.specs.declared.contactor.Contactor.{Contactor}
use Rattle.site_day.specs.declared.contactor.Contactor.TheVariants.{Closes, Fails}

-- the slip of this book for the bay
abbrev pub slip_for : {A : Type 0} → State A → ℕ → Slip
slip_for st i = record { number = st.number; at = i }

-- the call that spends a slip
abbrev pub spends : {A : Type 0} → Contactor → Slip → Call A
spends Closes p = confirms p
spends Fails p = withdraws p

abbrev pub of_portion : Slip → Result ℕ Refusal → Answer
of_portion p (Ok n) = accepted (granted n p)
of_portion p (Err e) = refusal e
