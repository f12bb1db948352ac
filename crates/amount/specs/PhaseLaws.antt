-- Phases are three counts in nested pairs, and so lawful.
use Rattle.std.specs.Prelude.{◌≡◌, Some, None, Option, refl}
use Rattle.std.proofs.Common.{subst}
use Rattle.std.specs.Option.{option_map}
use Rattle.amount.specs.Arithmetic.{Ops, Laws}
use Rattle.amount.specs.Counts.{amps_ops}
use Rattle.amount.specs.Pairs.{pair_of, both, pair_ops}
use Rattle.amount.specs.Phases.{phases_of, three, phases_ops}
use Rattle.amount.specs.declared.amps.Amps.{Amps}
use Rattle.amount.specs.declared.pair.Pair.{Pair}
use Rattle.amount.specs.declared.phases.Phases.{Phases}
use Rattle.amount.specs.Carried.{carried, carried_laws}
use Rattle.amount.specs.CountLaws.{amps_laws}
use Rattle.amount.specs.PairLaws.{pair_laws}

abbrev pub to : Phases → Pair Amps (Pair Amps Amps)
to a = pair_of a.l1 (pair_of a.l2 a.l3)

abbrev pub from : Pair Amps (Pair Amps Amps) → Phases
from p = phases_of p.left p.right.left p.right.right

pub nested : (x y z : Option Amps) → option_map from (both pair_of x (both pair_of y z)) ≡ three x y z
nested None y z = refl
nested (Some x) None z = refl
nested (Some x) (Some y) None = refl
nested (Some x) (Some y) (Some z) = refl

abbrev nested_ops : Ops (Pair Amps (Pair Amps Amps))
nested_ops = pair_ops amps_ops (pair_ops amps_ops amps_ops)

as_pairs : carried to from nested_ops ≡ phases_ops
as_pairs = λ i. record {
  zero = phases_ops.zero;
  plus = λ a b. nested (amps_ops.plus a.l1 b.l1) (amps_ops.plus a.l2 b.l2) (amps_ops.plus a.l3 b.l3) i;
  minus = λ b a. nested (amps_ops.minus b.l1 a.l1) (amps_ops.minus b.l2 a.l2) (amps_ops.minus b.l3 a.l3) i;
  equal = phases_ops.equal;
}

pub phases_laws : Laws phases_ops
phases_laws = subst (λ (o : Ops Phases). Laws o) as_pairs (carried_laws to from (λ a. refl) (λ p. refl) (pair_laws amps_laws (pair_laws amps_laws amps_laws)))
