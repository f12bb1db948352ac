use Rattle.std.proofs.Common.{List, set, sym, refl, ap, ◌∙◌, rules, of_calls}
use Rattle.std.proofs.lemmas.Result.{err_from_is_err_and}
use Rattle.pool.specs.Limits.{Limit, told_place}
use Rattle.law.specs.Book.{State, seen_row, ends, end_answer, give_back}
use Rattle.law.specs.Book as machine
use Rattle.rows.specs.declared.effect.RowCall.TheVariants.{End}
use Rattle.rows.specs.declared.row.RowState.TheVariants.{Empty}
use Rattle.rows.proofs.Bound.{kind_of}
use Rattle.book.specs.Faults.{torn_session}
use Rattle.book.proofs.Steps.{state, refuses, by_tag, sitting_refused, sits, torn, torn_told, gave_back}
use Rattle.book.proofs.Tried.{torn_by, untorn_by}
use Rattle.book.proofs.book.Book.end.Goals as goal

pub returns-in_err-next-clause-served : goal.returns-in_err-next-clause-served
returns-in_err-next-clause-served g c =
    let o = g.A.Amount.ops in
    let kind = kind_of g.A.Amount.ops g.A.Archived in
    let limits = g.P.Pool.limits in
    let b = c.args.self.now in
    let i = c.args.bay in
    let st = state kind b.table (limits b.pile) in
    let e = c.in_err-next.field-0.0 in
    let h = sitting_refused kind b.table (limits b.pile) End Empty refl refl i e (end_answer o st) refl c.in_err-next.ensures in
    let p = err_from_is_err_and c.from_residual.result c.from_residual.ensures.1 in
    rw (p.1, p.2) (refuses kind limits b (ends i) b e refl h)

pub returns-in_err-map_err : goal.returns-in_err-map_err
returns-in_err-map_err g c =
    let o = g.A.Amount.ops in
    let kind = kind_of g.A.Amount.ops g.A.Archived in
    let limits = g.P.Pool.limits in
    let b = c.args.self.now in
    let i = c.args.bay in
    let st = state kind b.table (limits b.pile) in
    let q = c.session.inside in
    let x = sits kind b.table (limits b.pile) End Empty refl refl i c.in_ok-next.next q.mark q.claim q.holding c.in_ok-next.session c.session.view_is c.in_ok-next.ensures in
    let y = torn_by _ c.give.result c.map_err.result c.in_err-map_err.field-0.0 c.map_err.ensures.cases (λ e d q. search (rules, of_calls)) c.in_err-map_err.was in
    let p = err_from_is_err_and c.from_residual-in_err-map_err.result c.from_residual-in_err-map_err.ensures.1 in
    rw (p.1, p.2, y.2) (record {
      served = torn kind limits b (ends i) q.mark q.holding c.give.new.self c.give.result (x.through (end_answer o st)) c.give.ensures y.0 y.1;
      fault = ap (λ r. told_place (torn_session o st (λ z. z.holding) (seen_row r))) x.at_rest ∙ torn_told kind limits b (ends i) q.mark q.holding c.give.new.self c.give.result (x.through (end_answer o st)) c.give.ensures y.0 y.1;
    })

pub returns-clause-served : goal.returns-clause-served
returns-clause-served g c =
    let o = g.A.Amount.ops in
    let kind = kind_of g.A.Amount.ops g.A.Archived in
    let limits = g.P.Pool.limits in
    let b = c.args.self.now in
    let i = c.args.bay in
    let st = state kind b.table (limits b.pile) in
    let q = c.session.inside in
    let x = sits kind b.table (limits b.pile) End Empty refl refl i c.in_ok-next.next q.mark q.claim q.holding c.in_ok-next.session c.session.view_is c.in_ok-next.ensures in
    let y = untorn_by _ c.give.result c.map_err.result c.in_ok-map_err.field-0 c.map_err.ensures.cases c.in_ok-map_err.was in
    let F : List (Limit g.row.A.Denot) → State g.row.A.Denot = λ ls. record { shut = st.shut; number = st.number; pile = ls; rows = set st.rows i machine.empty } in
    rw c.from.ensures (gave_back kind limits b (ends i) q.mark q.holding c.give.new.self c.give.result (x.through (end_answer o st)) c.give.ensures y i _ machine.empty
    (by_tag kind b.table (limits b.pile) _ Empty x.turns) (ap F (sym (ap (give_back o st.pile) x.at_rest))))
