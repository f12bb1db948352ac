-- What a call that changes a pile answers and leaves. Assumes nothing.
use Rattle.std.specs.Prelude.{◌≡◌, ℕ, List, [], ◌∷◌, ◌++◌, length, Some, None, Ok, Err, Option, Result}
use Rattle.std.specs.Result.{result_and}
use Rattle.pool.specs.declared.limit_fault.LimitFault.{LimitFault}
use Rattle.pool.specs.Limits.{Limit, told}

-- the fault of the limit at a place
abbrev pub fault_at : ℕ → LimitFault
fault_at n = record { place = told n }

-- by what the change should be: the answer, and the list at the exit; a refusal leaves the list of the entry
abbrev pub Changed : {A : Type 0} → Result (List (Limit A)) ℕ → List (Limit A) → List (Limit A) → Result (Unit {0}) LimitFault → Type 0
Changed (Ok new) entry exit r = (r ≡ Ok tt) × (exit ≡ new)
Changed (Err n) entry exit r = (r ≡ Err (fault_at n)) × (exit ≡ entry)

-- by what is to be out at a limit above a pile, and what the pile told of the change: the answer, and the list at the exit
abbrev pub ChangedAbove : {A : Type 0} → Option A → Result (Unit {0}) LimitFault → List (Limit A) → List (Limit A) → Limit A → List (Limit A) → Result (Unit {0}) LimitFault → Type 0
ChangedAbove (Some out) (Ok done) old new l exit r = (r ≡ Ok tt) × (exit ≡ new ++ (record { bound = l.bound; out = out } ∷ []))
ChangedAbove (Some out) (Err e) old new l exit r = (r ≡ Err e) × (exit ≡ new ++ (l ∷ []))
ChangedAbove None told old new l exit r = (r ≡ result_and told (Err (fault_at (length old)))) × (exit ≡ old ++ (l ∷ []))
