-- An order in 64 bytes, with zeros behind its bays. Assumes nothing.
use Rattle.std.specs.Prelude.{◌≡◌, ℕ, ◌-◌, ◌≤◌, List, ◌++◌, length, drop, replicate}
use Rattle.search.specs.declared.order.Order.TheInside.{Inside}

pub record IsPadded (r : Inside) : Type 0 where
  pub long : length r.bays ≡ 64
  pub fits : r.count ≤ 64
  pub zeros : drop r.count r.bays ≡ replicate (64 - r.count) 0

-- the order with these bays
abbrev pub padded : List ℕ → Inside
padded is = record { bays = is ++ replicate (64 - length is) 0; count = length is }
