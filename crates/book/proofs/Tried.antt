-- What a `?` passes on, and what it returns.
use Rattle.std.proofs.Common.{◌≡◌, Some, None, Ok, Err, Option, Result, refl, sym, ◌∙◌}
use Rattle.std.specs.Option.{ok_or}
use Rattle.std.specs.Result.{MatchResult, IsErrAnd}
use Rattle.pool.specs.declared.limit_fault.LimitFault.{LimitFault}
use Rattle.rows.specs.declared.refusal.Refusal.{Refusal}
use Rattle.rows.specs.declared.refusal.Refusal.TheVariants.{Torn}
use Rattle.book.proofs.Read.{ok_err, same_err}

-- of an option that has to be there
pub lacking : {X E : Type 0} (x : Option X) (e d : E) (r : Result X E) → r ≡ ok_or x e → r ≡ Err d → (x ≡ None) × (d ≡ e)
lacking None e d r p q = (refl, same_err (sym q ∙ p))
lacking (Some v) e d r p q = ok_err (sym p ∙ q)

pub present : {X E : Type 0} (x : Option X) (e : E) (v : X) (r : Result X E) → r ≡ ok_or x e → r ≡ Ok v → x ≡ Some v
present None e v r p q = ok_err (sym q ∙ p)
present (Some w) e v r p q = cc

-- of a pile's change, whose fault is told as refusal 14
pub torn_by : (Q : LimitFault → Refusal → Type 0) (r : Result (Unit {0}) LimitFault) (s : Result (Unit {0}) Refusal) (d : Refusal) → MatchResult r (λ x. s ≡ Ok x) (λ e. IsErrAnd s (Q e)) → ((e : LimitFault) (d : Refusal) → Q e d → d ≡ Torn e) → s ≡ Err d
    → (f : LimitFault) × (r ≡ Err f) × (d ≡ Torn f)
torn_by Q (Ok x) s d m told q = ok_err (sym m ∙ q)
torn_by Q (Err e) (Ok x) d m told q = absurd m
torn_by Q (Err e) (Err b) d m told q = (e, refl, sym (same_err q) ∙ told e b m)

pub untorn_by : (Q : LimitFault → Refusal → Type 0) (r : Result (Unit {0}) LimitFault) (s : Result (Unit {0}) Refusal) (x : Unit {0}) → MatchResult r (λ x. s ≡ Ok x) (λ e. IsErrAnd s (Q e)) → s ≡ Ok x → r ≡ Ok tt
untorn_by Q (Ok x) s y m q = refl
untorn_by Q (Err e) (Ok x) y m q = absurd m
untorn_by Q (Err e) (Err d) y m q = ok_err (sym q)
