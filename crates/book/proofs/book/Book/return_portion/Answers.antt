use Rattle.std.proofs.Common.{◌≡◌, List, set, unwrap_or, sym, refl, ap, ap₂, ◌∙◌, rules, of_calls}
use Rattle.std.proofs.lemmas.Result.{err_from_is_err_and}
use Rattle.pool.specs.Limits.{Limit, told_place}
use Rattle.orders.specs.Sessions.{with_holding}
use Rattle.law.specs.Book.{State, accepted, done, guard, row, withdraws, withdraw_answer, withdrawn, give_back, answer}
use Rattle.law.specs.Book as machine
use Rattle.rows.proofs.Cells.{reads_written}
use Rattle.rows.specs.Cells.{amount_in}
use Rattle.rows.specs.Rows.{session_in}
use Rattle.rows.specs.declared.effect.RowCall.TheVariants.{Withdraw}
use Rattle.rows.proofs.Bound.{kind_of}
use Rattle.book.specs.Faults.{torn_portion}
use Rattle.book.specs.Replies.{slip_of}
use Rattle.book.specs.Tables.{row_in}
use Rattle.book.proofs.Read.{fits}
use Rattle.book.proofs.Steps.{state, refuses, rests_now, less_or, torn, torn_told, gave_back, spending_refused, spending_ok}
use Rattle.book.proofs.Tried.{torn_by, untorn_by}
use Rattle.book.proofs.book.Book.return_portion.Goals as goal

pub returns-in_err-next-clause-served : goal.returns-in_err-next-clause-served
returns-in_err-next-clause-served g c =
    let o = g.A.Amount.ops in
    let kind = kind_of g.A.Amount.ops g.A.Archived in
    let limits = g.P.Pool.limits in
    let b = c.args.self.now in
    let slip = c.args.slip.now in
    let st = state kind b.table (limits b.pile) in
    let e = c.in_err-next.field-0.0 in
    let h = spending_refused kind b.table (limits b.pile) Withdraw refl refl refl slip c.spending.ensures.past e (withdraw_answer o st) refl (λ s. refl) c.in_err-next.ensures.answer in
    let p = err_from_is_err_and c.from_residual.result c.from_residual.ensures.1 in
    rw (p.1, p.2) (refuses kind limits b (withdraws (slip_of slip)) b e refl h)

pub returns-in_err-map_err : goal.returns-in_err-map_err
returns-in_err-map_err g c =
    let o = g.A.Amount.ops in
    let kind = kind_of g.A.Amount.ops g.A.Archived in
    let limits = g.P.Pool.limits in
    let b = c.args.self.now in
    let slip = c.args.slip.now in
    let st = state kind b.table (limits b.pile) in
    let x = spending_ok kind b.table (limits b.pile) Withdraw refl refl refl slip c.spending.ensures.past c.in_ok-next.next c.in_ok-next.ensures.answer in
    let u = session_in kind (row_in b.table slip.bay) in
    let a = c.read-portion.result in
    let portion : a ≡ amount_in kind (row_in b.table slip.bay).portion = rw c.from.ensures at c.read-portion.ensures in
    let moves : row st.rows slip.bay ≡ machine.moving u a = x.moves_now ∙ ap (machine.moving u) (sym portion) in
    let comes : answer o st (withdraws (slip_of slip)) ≡ withdraw_answer o st (machine.moving u a) = x.through (withdraw_answer o st) ∙ ap (λ z. withdraw_answer o st (machine.moving u z)) (sym portion) in
    let given = rw c.from.ensures at c.give.ensures in
    let y = torn_by _ c.give.result c.map_err.result c.in_err-map_err.field-0.0 c.map_err.ensures.cases (λ e d q. search (rules, of_calls)) c.in_err-map_err.was in
    let p = err_from_is_err_and c.from_residual-in_err-map_err.result c.from_residual-in_err-map_err.ensures.1 in
    rw (p.1, p.2, y.2) (record {
      served = torn kind limits b (withdraws (slip_of slip)) u.mark a c.give.new.self c.give.result comes given y.0 y.1;
      fault = ap (λ r. told_place (torn_portion o st r)) moves ∙ torn_told kind limits b (withdraws (slip_of slip)) u.mark a c.give.new.self c.give.result comes given y.0 y.1;
    })

pub returns-clause-served : goal.returns-clause-served
returns-clause-served g c =
    let o = g.A.Amount.ops in
    let kind = kind_of g.A.Amount.ops g.A.Archived in
    let limits = g.P.Pool.limits in
    let b = c.args.self.now in
    let slip = c.args.slip.now in
    let st = state kind b.table (limits b.pile) in
    let x = spending_ok kind b.table (limits b.pile) Withdraw refl refl refl slip c.spending.ensures.past c.in_ok-next.next c.in_ok-next.ensures.answer in
    let u = session_in kind (row_in b.table slip.bay) in
    let a = c.read-portion.result in
    let portion : a ≡ amount_in kind (row_in b.table slip.bay).portion = rw c.from.ensures at c.read-portion.ensures in
    let moves : row st.rows slip.bay ≡ machine.moving u a = x.moves_now ∙ ap (machine.moving u) (sym portion) in
    let comes : answer o st (withdraws (slip_of slip)) ≡ withdraw_answer o st (machine.moving u a) = x.through (withdraw_answer o st) ∙ ap (λ z. withdraw_answer o st (machine.moving u z)) (sym portion) in
    let given = rw c.from.ensures at c.give.ensures in
    let y = untorn_by _ c.give.result c.map_err.result c.in_ok-map_err.field-0 c.map_err.ensures.cases c.in_ok-map_err.was in
    let holding : c.read-holding.result ≡ u.holding = rw c.from.ensures at c.read-holding.ensures in
    let rest = unwrap_or (o.minus u.holding a) u.holding in
    let left : c.unwrap_or.result ≡ rest = c.unwrap_or.ensures ∙ ap (λ z. unwrap_or z c.read-holding.result) c.minus.ensures ∙ ap (λ z. unwrap_or (o.minus z a) z) holding in
    let read = reads_written kind g.met.A.Archived.codec (fits kind.W b.table.shut x.opened) c.unwrap_or.result (row_in b.table c.from-2.result).holding c.write.new.self c.write.ensures ∙ left in
    let F : List (Limit g.row.A.Denot) → machine.Row g.row.A.Denot → State g.row.A.Denot = λ ls r. record { shut = st.shut; number = st.number; pile = ls; rows = set st.rows slip.bay r } in
    rw c.from-2.ensures (gave_back kind limits b (withdraws (slip_of slip)) u.mark a c.give.new.self c.give.result comes given y slip.bay _ (machine.rest (with_holding u rest))
    (rests_now kind b.table (limits b.pile) slip.bay _ rest u x.turns refl refl read refl) (ap₂ F (sym (ap (give_back o st.pile) moves)) (less_or o u a ∙ sym (ap (withdrawn o) moves))))
