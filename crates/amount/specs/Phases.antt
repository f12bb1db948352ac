-- Phases: three counts of amperes, each of which adds for itself; undefined where one is. Assumes nothing.
use Rattle.std.specs.Prelude.{◌&&◌, Some, None, Option}
use Rattle.amount.specs.Arithmetic.{Ops}
use Rattle.amount.specs.Counts.{amps_ops}
use Rattle.amount.specs.declared.amps.Amps.{Amps}
use Rattle.amount.specs.declared.phases.Phases.{Phases}

abbrev pub phases_of : Amps → Amps → Amps → Phases
phases_of x y z = record { l1 = x; l2 = y; l3 = z }

-- all three, where all are there
abbrev pub three : Option Amps → Option Amps → Option Amps → Option Phases
three None _ _ = None
three (Some x) None _ = None
three (Some x) (Some y) None = None
three (Some x) (Some y) (Some z) = Some (phases_of x y z)

-- an operation on each phase
abbrev pub each_phase : (Amps → Amps → Option Amps) → Phases → Phases → Option Phases
each_phase f a b = three (f a.l1 b.l1) (f a.l2 b.l2) (f a.l3 b.l3)

abbrev pub phases_ops : Ops Phases
phases_ops = record {
  zero = phases_of amps_ops.zero amps_ops.zero amps_ops.zero;
  plus = each_phase amps_ops.plus;
  minus = each_phase amps_ops.minus;
  equal = λ a b. amps_ops.equal a.l1 b.l1 && (amps_ops.equal a.l2 b.l2 && amps_ops.equal a.l3 b.l3);
}
