use Rattle.std.proofs.Common.{refl}
use Rattle.points.proofs.worked_day_stands.Goals as goal

pub returns : goal.returns
unfolding native.Mathlib.Decide.dec_le native.Mathlib.Decide.dec_lt native.Mathlib.Decide.ℕ_discrete
returns c = refl
