use Rattle.std.proofs.Common.{◌≡◌, List, set, sym, refl, ap, ap₂, ◌∙◌, rules, of_calls}
use Rattle.std.proofs.lemmas.Result.{err_from_is_err_and}
use Rattle.pool.specs.Limits.{Limit, told_place, given_back}
use Rattle.orders.specs.Sessions.{Session, with_holding}
use Rattle.law.specs.Book.{State, accepted, done, guard, seen_row, gives, give_answer, gave, with_mark, answer}
use Rattle.law.specs.Book as machine
use Rattle.rows.proofs.Cells.{reads_written}
use Rattle.rows.specs.declared.effect.RowCall.TheVariants.{Give}
use Rattle.rows.specs.declared.refusal.Refusal.TheVariants.{MoreThanHeld}
use Rattle.rows.specs.declared.row.RowState.TheVariants.{AtRest}
use Rattle.rows.proofs.Bound.{kind_of}
use Rattle.book.proofs.Read.{fits}
use Rattle.book.specs.Tables.{row_in}
use Rattle.book.proofs.Steps.{state, refuses, rests_now, less_is, give_more, give_part, sitting_refused, sits, torn, torn_told, gave_back}
use Rattle.book.specs.Faults.{torn_session}
use Rattle.book.proofs.Tried.{lacking, present, torn_by, untorn_by}
use Rattle.book.proofs.book.Book.give.Goals as goal

pub returns-in_err-next-clause-served : goal.returns-in_err-next-clause-served
returns-in_err-next-clause-served g c =
    let o = g.A.Amount.ops in
    let kind = kind_of g.A.Amount.ops g.A.Archived in
    let limits = g.P.Pool.limits in
    let b = c.args.self.now in
    let i = c.args.bay in
    let a = c.args.amount in
    let st = state kind b.table (limits b.pile) in
    let e = c.in_err-next.field-0.0 in
    let h = sitting_refused kind b.table (limits b.pile) Give AtRest refl refl i e (give_answer o st a) refl c.in_err-next.ensures in
    let p = err_from_is_err_and c.from_residual.result c.from_residual.ensures.1 in
    rw (p.1, p.2) (refuses kind limits b (gives i a) b e refl h)

pub returns-in_err-rest-clause-served : goal.returns-in_err-rest-clause-served
returns-in_err-rest-clause-served g c =
    let o = g.A.Amount.ops in
    let kind = kind_of g.A.Amount.ops g.A.Archived in
    let limits = g.P.Pool.limits in
    let b = c.args.self.now in
    let i = c.args.bay in
    let a = c.args.amount in
    let st = state kind b.table (limits b.pile) in
    let q = c.session.inside in
    let s : Session g.row.A.Denot = record { mark = q.mark; claim = q.claim; holding = q.holding } in
    let x = sits kind b.table (limits b.pile) Give AtRest refl refl i c.in_ok-next.next q.mark q.claim q.holding c.in_ok-next.session c.session.view_is c.in_ok-next.ensures in
    let y = lacking c.minus.result MoreThanHeld c.in_err-rest.field-0.0 c.ok_or.result c.ok_or.ensures.value c.in_err-rest.was in
    let p = err_from_is_err_and c.from_residual-in_err-rest.result c.from_residual-in_err-rest.ensures.1 in
    rw (p.1, p.2, y.1) (refuses kind limits b (gives i a) b MoreThanHeld refl (sym (x.through (give_answer o st a) ∙ give_more o st s a (sym c.minus.ensures ∙ y.0))))

pub returns-in_err-map_err : goal.returns-in_err-map_err
returns-in_err-map_err g c =
    let o = g.A.Amount.ops in
    let kind = kind_of g.A.Amount.ops g.A.Archived in
    let limits = g.P.Pool.limits in
    let b = c.args.self.now in
    let i = c.args.bay in
    let a = c.args.amount in
    let st = state kind b.table (limits b.pile) in
    let q = c.session.inside in
    let s : Session g.row.A.Denot = record { mark = q.mark; claim = q.claim; holding = q.holding } in
    let x = sits kind b.table (limits b.pile) Give AtRest refl refl i c.in_ok-next.next q.mark q.claim q.holding c.in_ok-next.session c.session.view_is c.in_ok-next.ensures in
    let less : o.minus q.holding a ≡ _ = sym c.minus.ensures ∙ present c.minus.result MoreThanHeld c.in_ok-rest.rest c.ok_or.result c.ok_or.ensures.value c.in_ok-rest.was in
    let comes = x.through (give_answer o st a) ∙ give_part o st s a c.in_ok-rest.rest less in
    let y = torn_by _ c.give.result c.map_err.result c.in_err-map_err.field-0.0 c.map_err.ensures.cases (λ e d q. search (rules, of_calls)) c.in_err-map_err.was in
    let p = err_from_is_err_and c.from_residual-in_err-map_err.result c.from_residual-in_err-map_err.ensures.1 in
    rw (p.1, p.2, y.2) (record {
      served = torn kind limits b (gives i a) q.mark a c.give.new.self c.give.result comes c.give.ensures y.0 y.1;
      fault = ap (λ r. told_place (torn_session o st (λ _. a) (seen_row r))) x.at_rest ∙ torn_told kind limits b (gives i a) q.mark a c.give.new.self c.give.result comes c.give.ensures y.0 y.1;
    })

pub returns-clause-served : goal.returns-clause-served
returns-clause-served g c =
    let o = g.A.Amount.ops in
    let kind = kind_of g.A.Amount.ops g.A.Archived in
    let limits = g.P.Pool.limits in
    let b = c.args.self.now in
    let i = c.args.bay in
    let a = c.args.amount in
    let st = state kind b.table (limits b.pile) in
    let q = c.session.inside in
    let s : Session g.row.A.Denot = record { mark = q.mark; claim = q.claim; holding = q.holding } in
    let x = sits kind b.table (limits b.pile) Give AtRest refl refl i c.in_ok-next.next q.mark q.claim q.holding c.in_ok-next.session c.session.view_is c.in_ok-next.ensures in
    let rest = c.in_ok-rest.rest in
    let less : o.minus q.holding a ≡ _ = sym c.minus.ensures ∙ present c.minus.result MoreThanHeld rest c.ok_or.result c.ok_or.ensures.value c.in_ok-rest.was in
    let comes = x.through (give_answer o st a) ∙ give_part o st s a rest less in
    let y = untorn_by _ c.give.result c.map_err.result c.in_ok-map_err.field-0 c.map_err.ensures.cases c.in_ok-map_err.was in
    let read = reads_written kind g.met.A.Archived.codec (fits kind.W b.table.shut x.opened) rest (row_in b.table c.from.result).holding c.write.new.self c.write.ensures in
    let F : List (Limit g.row.A.Denot) → machine.Row g.row.A.Denot → State g.row.A.Denot = λ ls r. record { shut = st.shut; number = st.number; pile = ls; rows = set st.rows i r } in
    rw c.from.ensures (gave_back kind limits b (gives i a) q.mark a c.give.new.self c.give.result comes c.give.ensures y i _ (machine.rest (with_holding s rest))
    (rests_now kind b.table (limits b.pile) i _ rest s x.turns refl refl read x.same)
    (ap₂ F (sym (ap (λ r. with_mark o (seen_row r) (λ k. given_back o k a st.pile) st.pile) x.at_rest)) (sym (ap (λ r. gave o r a) x.at_rest ∙ less_is o s a rest less))))
