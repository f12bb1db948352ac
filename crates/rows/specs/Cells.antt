-- What a cell of a row holds. Assumes nothing.
use Rattle.std.specs.Prelude.{cond, ◌++◌, take, drop, nat_le}
use Rattle.std.specs.Option.{unwrap_or}
use Rattle.rows.specs.Kinds.{Kind}
use Rattle.rows.specs.declared.cell.Cell.{Cell}

-- the amount that the kind's bytes in front are; zero for a kind wider than 16 bytes
abbrev pub amount_in : {A : Type 0} → Kind A → Cell → A
amount_in kind c = cond (nat_le kind.W 16) (unwrap_or (kind.decode (take kind.W c.bytes)) kind.ops.zero) kind.ops.zero

-- the amount in those bytes, the others as they were
abbrev pub with_amount : {A : Type 0} → Kind A → A → Cell → Cell
with_amount kind a c = cond (nat_le kind.W 16) (record { bytes = kind.bytes a ++ drop kind.W c.bytes }) c
