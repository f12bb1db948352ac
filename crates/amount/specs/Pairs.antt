-- Pairs of amounts: sum and difference act on each side, and are there where both sides are. Assumes nothing.
use Rattle.std.specs.Prelude.{◌&&◌, Some, None, Option}
use Rattle.amount.specs.Arithmetic.{Ops}
use Rattle.amount.specs.declared.pair.Pair.{Pair}

abbrev pub pair_of : {L R : Type 0} → L → R → Pair L R
pair_of l r = record { left = l; right = r }

-- f of both, where both are there
abbrev pub both : {A B C : Type 0} → (A → B → C) → Option A → Option B → Option C
both f None _ = None
both f (Some x) None = None
both f (Some x) (Some y) = Some (f x y)

-- an operation on each side
abbrev pub sides : {L R : Type 0} → (L → L → Option L) → (R → R → Option R) → Pair L R → Pair L R → Option (Pair L R)
sides f g a b = both pair_of (f a.left b.left) (g a.right b.right)

abbrev pub pair_ops : {L R : Type 0} → Ops L → Ops R → Ops (Pair L R)
pair_ops l r = record {
  zero = pair_of l.zero r.zero;
  plus = sides l.plus r.plus;
  minus = sides l.minus r.minus;
  equal = λ a b. l.equal a.left b.left && r.equal a.right b.right;
}
