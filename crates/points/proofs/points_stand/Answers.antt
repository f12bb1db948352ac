use Rattle.std.proofs.Common.{refl}
use Rattle.points.proofs.points_stand.Goals as goal

pub returns : goal.returns
unfolding native.Mathlib.Decide.dec_le native.Mathlib.Decide.dec_lt native.Mathlib.Decide.ℕ_discrete
returns c = record {
  textbook_case = record { sums = refl; order = (refl, refl); grant = (refl, refl); refusal = refl };
  modules_case = record { put_off = refl; no_room = refl; above_claim = refl };
  claims = record { opened = refl; tall = refl };
  edge_sums = record { defined = refl; undefined = refl };
}
