use Rattle.std.proofs.Common.{rules, refl}
use Rattle.std.proofs.lemmas.Result.{err_from_is_err_and}
use Rattle.pool.proofs.layer.Layer.change.Goals as goal

pub returns-in_ok-change-in-Some : goal.returns-in_ok-change-in-Some
returns-in_ok-change-in-Some g c = (c.change.result, c.change.new.arg2, search rules, rw (c.in-Some.is, c.in_ok-change-in-Some.was) (refl, refl))

pub returns-in_err-change-in-Some : goal.returns-in_err-change-in-Some
returns-in_err-change-in-Some g c =
    let told = err_from_is_err_and c.from_residual.result c.from_residual.ensures.1 in
    (c.change.result, c.change.new.arg2, search rules, rw (c.in-Some.is, c.in_err-change-in-Some.was, told.1, told.2) (refl, refl))

pub returns-in-None : goal.returns-in-None
returns-in-None g c = (c.change-in-None.result, c.change-in-None.new.arg2, search rules, rw (c.in-None.is, c.and.ensures, c.count.ensures) (refl, refl))
