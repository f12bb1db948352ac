-- What the calls answer, as the machine answers. Assumes nothing.
use Rattle.std.specs.Prelude.{◌≡◌, ℕ, Bool, Ok, Err, Result}
use Rattle.law.specs.Book.{Answer, Reply, accepted, done, granted, ordered, answered}
use Rattle.law.specs.Book as machine
use Rattle.rows.specs.Legend.{refusal}
use Rattle.rows.specs.declared.refusal.Refusal.{Refusal}
use Rattle.book.specs.declared.slip.Grant.{Grant}
use Rattle.book.specs.declared.slip.Slip.{Slip}
use Rattle.book.specs.declared.slip.Unspent.{Unspent}

abbrev pub slip_of : Slip → machine.Slip
slip_of s = record { number = s.book; at = s.bay }

-- open, give, end
abbrev pub of_done : Result (Unit {0}) Refusal → Answer
of_done (Ok _) = accepted done
of_done (Err e) = refusal e

-- ask
abbrev pub of_grant : Result Grant Refusal → Answer
of_grant (Ok g) = accepted (granted g.count (slip_of g.slip))
of_grant (Err e) = refusal e

-- confirm, withdraw
abbrev pub of_spent : Result (Unit {0}) Unspent → Answer
of_spent (Ok _) = accepted done
of_spent (Err u) = refusal u.refusal

-- a slip that is to be spent: gone with the call, or back with its refusal
abbrev pub spent : Slip → Result (Unit {0}) Refusal → Result (Unit {0}) Unspent
spent s (Ok _) = Ok tt
spent s (Err e) = Err (record { refusal = e; slip = s })

-- a refusal hands the slip back
abbrev pub HandedBack : Slip → Result (Unit {0}) Unspent → Type 0
HandedBack s (Ok _) = Unit {0}
HandedBack s (Err u) = u.slip ≡ s

-- a count of bays, in a reply
abbrev pub of_count : (ℕ → Reply) → Result ℕ Refusal → Answer
of_count reply (Ok n) = accepted (reply n)
of_count reply (Err e) = refusal e

-- order
abbrev pub of_order : Result ℕ Refusal → Answer
of_order r = of_count ordered r

-- all-in
abbrev pub of_question : Result Bool Refusal → Answer
of_question (Ok b) = accepted (answered b)
of_question (Err e) = refusal e
