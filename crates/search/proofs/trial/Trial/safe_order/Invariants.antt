use Rattle.std.proofs.Common.{◌≡◌, ◌+◌, ◌-◌, ◌≤◌, ◌++◌, length}
use Rattle.orders.specs.Sessions.{open_bays}
use Rattle.law.specs.SafeOrder.{safe_order, safe_from}
use Rattle.search.specs.Emptied.{without}
use Rattle.search.proofs.trial.Trial.safe_order.Given as goal

abbrev pub invariant-loop-bay : goal.invariant-loop-bay
invariant-loop-bay g l =
    let o = g.A.Amount.ops in
    record {
      named : safe_order o (g.P.Pool.limits l.pile) l.initial.self ≡ l.order ++ safe_from o (length l.self - length l.order) (g.P.Pool.limits l.trial) l.self;
      left : l.self ≡ without l.order l.initial.self;
      room : length l.order + open_bays l.self ≤ length l.self;
    }

abbrev pub decreases-loop-bay : goal.decreases-loop-bay
decreases-loop-bay g l = open_bays l.self
