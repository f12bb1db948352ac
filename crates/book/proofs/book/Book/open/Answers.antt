use Rattle.std.proofs.Common.{◌≡◌, sym, refl, ap, ◌∙◌}
use Rattle.std.proofs.lemmas.Result.{err_from_is_err_and}
use Rattle.pool.specs.Limits.{tall_place}
use Rattle.law.specs.Book.{accepted, done, guard_at, opens, answer}
use Rattle.law.specs.Book as machine
use Rattle.rows.proofs.Cells.{reads_written}
use Rattle.rows.specs.Cells.{amount_in}
use Rattle.rows.specs.Rows.{session_in}
use Rattle.rows.specs.declared.refusal.Refusal.TheVariants.{TallClaim as OfLimit}
use Rattle.rows.specs.declared.row.RowState.TheVariants.{AtRest}
use Rattle.rows.proofs.Bound.{kind_of}
use Rattle.book.proofs.Read.{fits, known_ok, open_refused, open_turned}
use Rattle.book.specs.Tables.{row_in}
use Rattle.book.proofs.Steps.{state, refuses, makes, changed, by_tag, calm_at, open_through, tall_told, tall_none}
use Rattle.book.proofs.book.Book.open.Goals as goal

pub returns-in_err-next : goal.returns-in_err-next
returns-in_err-next g c =
    let o = g.A.Amount.ops in
    let kind = kind_of g.A.Amount.ops g.A.Archived in
    let limits = g.P.Pool.limits in
    let b = c.args.self.now in
    let i = c.args.bay in
    let m = c.args.mark in
    let k = c.args.claim in
    let st = state kind b.table (limits b.pile) in
    let r = row_in b.table i in
    let free = sym c.slip_out.ensures ∙ c.if-slip_out.false in
    let through = open_through kind b.table (limits b.pile) i m k c.in_ok-known.ensures c.if-mark-gt15.false free in
    let e = c.in_err-next.field-0.0 in
    let turns = rw c.from.ensures at c.in_err-next.ensures in
    let h = open_refused o st m k r.state (session_in kind r) (amount_in kind r.portion) (calm_at kind b.table (limits b.pile) i free) e turns ∙ sym through in
    let p = err_from_is_err_and c.from_residual-in_err-next.result c.from_residual-in_err-next.ensures.1 in
    rw (p.1, p.2) (refuses kind limits b (opens i m k) b e refl h)

pub returns-in-Some : goal.returns-in-Some
returns-in-Some g c =
    let o = g.A.Amount.ops in
    let kind = kind_of g.A.Amount.ops g.A.Archived in
    let limits = g.P.Pool.limits in
    let b = c.args.self.now in
    let i = c.args.bay in
    let m = c.args.mark in
    let k = c.args.claim in
    let st = state kind b.table (limits b.pile) in
    let r = row_in b.table i in
    let free = sym c.slip_out.ensures ∙ c.if-slip_out.false in
    let through = open_through kind b.table (limits b.pile) i m k c.in_ok-known.ensures c.if-mark-gt15.false free in
    let turns = open_turned o st m k r.state (session_in kind r) (amount_in kind r.portion) c.in_ok-next.next (rw c.from.ensures at c.in_ok-next.ensures) in
    let told = tall_told (tall_place o st.pile m k) c.in-Some.place (sym c.in-Some.is ∙ c.tall.ensures) in
    refuses kind limits b (opens i m k) b (OfLimit (record { place = c.in-Some.place })) refl (sym (through ∙ turns.1 ∙ told))

pub returns : goal.returns
returns g c =
    let o = g.A.Amount.ops in
    let kind = kind_of g.A.Amount.ops g.A.Archived in
    let limits = g.P.Pool.limits in
    let b = c.args.self.now in
    let i = c.args.bay in
    let m = c.args.mark in
    let k = c.args.claim in
    let st = state kind b.table (limits b.pile) in
    let r = row_in b.table i in
    let free = sym c.slip_out.ensures ∙ c.if-slip_out.false in
    let through = open_through kind b.table (limits b.pile) i m k c.in_ok-known.ensures c.if-mark-gt15.false free in
    let turns = open_turned o st m k r.state (session_in kind r) (amount_in kind r.portion) c.in_ok-next.next (rw c.from.ensures at c.in_ok-next.ensures) in
    let none = tall_none (tall_place o st.pile m k) c.tall.result c.tall.ensures c.in_default.is in
    let h : accepted done ≡ answer o st (opens i m k) = sym (through ∙ turns.1 ∙ ap (λ p. guard_at p 7 (accepted done)) none) in
    let few = fits kind.W b.table.shut (known_ok st.shut i c.in_ok-known.ensures).0 in
    let codec = g.met.A.Archived.codec in
    let at = row_in b.table c.from-2.result in
    let claim = reads_written kind codec few k at.claim c.write.new.self c.write.ensures in
    let zero = reads_written kind codec few c.zero.result at.holding c.write-2.new.self c.write-2.ensures ∙ c.zero.ensures in
    let F : g.row.A.Denot → g.row.A.Denot → machine.Row g.row.A.Denot = λ x y. machine.rest (record { mark = m; claim = x; holding = y }) in
    let row = ap (λ x. F x (amount_in kind c.write-2.new.self)) claim ∙ ap (F k) zero in
    rw c.from-2.ensures (makes kind limits b (opens i m k) _ done h
    (changed kind b.table st.pile i _ st.pile st.pile (F k o.zero) refl (by_tag kind b.table st.pile _ AtRest turns.0 ∙ row)))
