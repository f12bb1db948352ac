use Rattle.std.proofs.Common.{◌%◌, ◌^◌, ◌<◌, ◌≤◌, eqb, sym, ap, ◌∙◌, arith, pow_mono, rules}
use native.Mathlib.Nat.{div-eq_of_lt}
use Rattle.std.proofs.lemmas.Bool.{le-ltb}
use Rattle.pool.proofs.cap.MarksWatch.watches.Goals as goal

pub returns-else-mark-lt16 : goal.returns-else-mark-lt16
returns-else-mark-lt16 c =
    let high : 16 ≤ c.args.mark = search rules in
    let wide : 2 ^ 16 ≤ 2 ^ c.args.mark = pow_mono high in
    let below : c.args.self.now.bits < 2 ^ c.args.mark = omega arith in
    le-ltb c.args.mark 16 high ∙ sym (ap (λ n. eqb (n % 2) 1) (div-eq_of_lt below))
