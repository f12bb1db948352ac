-- A slip just granted is spent, whatever its contactor does.
use Rattle.std.proofs.Common.{◌≡◌, ℕ, List}
use Rattle.amount.specs.Arithmetic.{Ops, Laws}
use Rattle.law.specs.Book.{State, Slip, accepted, granted, done, asks, answer, step}
use Rattle.law.proofs.Spendable.{confirm_granted, withdraw_granted}
use Rattle.site_day.specs.Portions.{spends}
use Rattle.site_day.specs.declared.contactor.Contactor.{Contactor}
use Rattle.site_day.specs.declared.contactor.Contactor.TheVariants.{Closes, Fails}

pub spend_granted : {A : Type 0} (o : Ops A) → Laws o → (st : State A) (i : ℕ) (a : A) (sheet : List ℕ) (n : ℕ) (p : Slip) → answer o st (asks i a sheet) ≡ accepted (granted n p) → (k : Contactor) → answer o (step o st (asks i a sheet)) (spends k p) ≡ accepted done
spend_granted o L st i a sheet n p e Closes = confirm_granted o st i a sheet n p e
spend_granted o L st i a sheet n p e Fails = withdraw_granted o L st i a sheet p n e
