use Rattle.std.proofs.Common.{set, sym, refl, ap, ◌∙◌}
use Rattle.std.proofs.lemmas.Result.{err_from_is_err_and}
use Rattle.law.specs.Book.{State, accepted, done, confirms, confirm_answer, confirmed, answer}
use Rattle.law.specs.Book as machine
use Rattle.rows.specs.Rows.{session_in}
use Rattle.rows.specs.declared.effect.RowCall.TheVariants.{Confirm}
use Rattle.rows.specs.declared.row.RowState.TheVariants.{AtRest}
use Rattle.rows.proofs.Bound.{kind_of}
use Rattle.book.specs.Replies.{slip_of}
use Rattle.book.specs.Tables.{row_in}
use Rattle.book.proofs.Steps.{state, refuses, makes, changed, by_tag, spending_refused, spending_ok}
use Rattle.book.proofs.book.Book.keep_portion.Goals as goal

pub returns-in_err-next : goal.returns-in_err-next
returns-in_err-next g c =
    let o = g.A.Amount.ops in
    let kind = kind_of g.A.Amount.ops g.A.Archived in
    let limits = g.P.Pool.limits in
    let b = c.args.self.now in
    let slip = c.args.slip.now in
    let e = c.in_err-next.field-0.0 in
    let h = spending_refused kind b.table (limits b.pile) Confirm refl refl refl slip c.spending.ensures.past e (confirm_answer o) refl (λ s. refl) c.in_err-next.ensures.answer in
    let p = err_from_is_err_and c.from_residual.result c.from_residual.ensures.1 in
    rw (p.1, p.2) (refuses kind limits b (confirms (slip_of slip)) b e refl h)

pub returns : goal.returns
returns g c =
    let o = g.A.Amount.ops in
    let kind = kind_of g.A.Amount.ops g.A.Archived in
    let limits = g.P.Pool.limits in
    let b = c.args.self.now in
    let slip = c.args.slip.now in
    let st = state kind b.table (limits b.pile) in
    let x = spending_ok kind b.table (limits b.pile) Confirm refl refl refl slip c.spending.ensures.past c.in_ok-next.next c.in_ok-next.ensures.answer in
    let u = session_in kind (row_in b.table slip.bay) in
    let F : machine.Row g.row.A.Denot → State g.row.A.Denot = λ r. record { shut = st.shut; number = st.number; pile = st.pile; rows = set st.rows slip.bay r } in
    rw c.from.ensures (makes kind limits b (confirms (slip_of slip)) _ done (sym (x.through (confirm_answer o)))
    (changed kind b.table st.pile slip.bay _ st.pile st.pile (machine.rest u) refl (by_tag kind b.table st.pile _ AtRest x.turns) ∙ ap F (sym (ap (confirmed o) x.moves_now))))
