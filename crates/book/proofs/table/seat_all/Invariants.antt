use Rattle.std.proofs.Common.{◌≡◌, ◌<◌, map, take, length}
use Rattle.law.specs.Book.{seen}
use Rattle.rows.specs.Rows.{row_of}
use Rattle.rows.proofs.Bound.{kind_of}
use Rattle.book.proofs.table.seat_all.Given as goal

-- the bays so far have their sessions
abbrev pub invariant-loop-bay : goal.invariant-loop-bay
invariant-loop-bay g l = record {
  seated : take (length l.yielded) l.trial ≡ take (length l.yielded) (seen (map (row_of (kind_of g.A.Amount.ops g.A.Archived)) l.rows));
  full : 0 < length l.yielded → length l.trial ≡ 64;
}
