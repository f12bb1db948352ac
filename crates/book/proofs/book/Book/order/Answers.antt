use Rattle.std.proofs.Common.{sym, ap, ◌∙◌}
use Rattle.law.specs.Book.{guard, seen, orders, ordered, order_answer, answer, sheet_by}
use Rattle.rows.proofs.Bound.{kind_of}
use Rattle.book.proofs.Found.{order_stays, order_sheet}
use Rattle.book.proofs.Steps.{state}
use Rattle.book.proofs.book.Book.order.Goals as goal

pub returns : goal.returns
returns g c =
    let o = g.A.Amount.ops in
    let b = c.args.self.now in
    let ls = g.P.Pool.limits b.pile in
    let st = state (kind_of o g.A.Archived) b.table ls in
    let sheet = c.args.sheet.now in
    let through = ap (λ x. guard x 1 (order_answer o ls (seen st.rows) sheet ordered)) (sym c.is_shut.ensures ∙ c.if-is_shut.false) in
    let seated = c.seat_all.ensures in
    let h = c.lay_order.ensures.answer ordered ∙ ap (λ u. order_answer o ls u sheet ordered) seated ∙ sym through in
    let laid = rw seated at c.lay_order.ensures.sheet in
    record { served = record { answer = h; after = sym (order_stays o st sheet (answer o st (orders sheet))) }; sheet = order_sheet o st sheet c.lay_order.result _ laid ∙ ap (sheet_by o st (orders sheet)) h }
