-- A cell that was written reads back.
use Rattle.std.proofs.Common.{◌≡◌, ◌≤◌, true, cond, leb, ◌++◌, take, drop, unwrap_or, ap, ◌∙◌}
use Rattle.std.proofs.lemmas.List.{take_at}
use Rattle.std.proofs.lemmas.Bool.{le-leb}
use Rattle.archive.specs.Codec.{Codec}
use Rattle.rows.specs.Cells.{amount_in, with_amount}
use Rattle.rows.specs.Kinds.{Kind}
use Rattle.rows.specs.declared.cell.Cell.{Cell}

pub reads_written : {A : Type 0} (kind : Kind A) → Codec kind.W kind.bytes kind.decode → kind.W ≤ 16 → (a : A) (c new : Cell) → new ≡ with_amount kind a c → amount_in kind new ≡ a
reads_written kind codec h a c new e =
    let w = kind.W in
    let zero = kind.ops.zero in
    let fits : leb w 16 ≡ true = le-leb w 16 h in
    let at : new.bytes ≡ kind.bytes a ++ drop w c.bytes = ap (λ x. x.bytes) (e ∙ ap (λ t. cond t (record { bytes = kind.bytes a ++ drop w c.bytes }) c) fits) in
    let front : take w new.bytes ≡ kind.bytes a = ap (take w) at ∙ take_at (kind.bytes a) (drop w c.bytes) w (codec.long h a) in
    ap (λ t. cond t (unwrap_or (kind.decode (take w new.bytes)) zero) zero) fits ∙ ap (λ z. unwrap_or (kind.decode z) zero) front ∙ ap (λ x. unwrap_or x zero) (codec.reads_back h a)
