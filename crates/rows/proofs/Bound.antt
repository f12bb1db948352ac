-- A bound's own record, with its operations.
use Rattle.amount.specs.Arithmetic.{Ops}
use Rattle.archive.specs.declared.archived.Archived.{Ghosts}
use Rattle.rows.specs.Kinds.{Kind}

abbrev pub kind_of : {A : Type 0} → Ops A → Ghosts A → Kind A
kind_of o own = record { ops = o; W = own.W; bytes = own.bytes; decode = own.decode }
