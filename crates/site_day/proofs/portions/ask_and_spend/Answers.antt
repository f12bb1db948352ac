use Rattle.std.proofs.Common.{sym, ap, ◌∙◌}
use Rattle.law.proofs.Rows.{refused_accepted}
use Rattle.law.specs.Book.{accepted, granted, asks, answer, step}
use Rattle.law.proofs.Spendable.{granted_by, withdraw_undoes}
use Rattle.rows.proofs.Bound.{kind_of}
use Rattle.book.specs.Books.{state_of}
use Rattle.book.specs.Replies.{slip_of}
use Rattle.site_day.specs.Portions.{spends}
use Rattle.site_day.proofs.Spending.{spend_granted}
use Rattle.site_day.proofs.portions.ask_and_spend.Goals as goal

pub unreachable-requires : goal.unreachable-requires
unreachable-requires g c =
    let o = g.A.Amount.ops in
    let st = state_of (kind_of o g.A.Archived) g.P.Pool.limits c.args.book.now in
    let n = c.in_ok-count.field-0.count in
    let p = slip_of c.in_ok-count.field-0.slip in
    let t = c.in_ok-count.ensures in
    let spent = spend_granted o g.met.A.Amount.lawful st c.args.bay c.args.amount c.args.sheet.now n p (sym t.served.answer) c.args.contactor in
    refused_accepted (c.in-Err.ensures.answer ∙ ap (λ s. answer o s (spends c.args.contactor p)) t.served.after ∙ spent)

pub returns : goal.returns
returns g c =
    let o = g.A.Amount.ops in
    let st = state_of (kind_of o g.A.Archived) g.P.Pool.limits c.args.book.now in
    let n = c.in_ok-count.field-0.count in
    let p = slip_of c.in_ok-count.field-0.slip in
    let k = c.args.contactor in
    let t = c.in_ok-count.ensures in
    let asked = step o st (asks c.args.bay c.args.amount c.args.sheet.now) in
    let own = (granted_by o st c.args.bay c.args.amount c.args.sheet.now n p (sym t.served.answer)).slip in
    let spent = c.in-Ok.ensures.after ∙ ap (λ s. step o s (spends k p)) t.served.after in
    record {
      answer = ap (λ q. accepted (granted n q)) (sym own) ∙ t.served.answer;
      after = spent ∙ ap (λ q. step o asked (spends k q)) own;
      failed = λ h. spent ∙ ap (λ k. step o asked (spends k p)) h ∙ withdraw_undoes o g.met.A.Amount.lawful st c.args.bay c.args.amount c.args.sheet.now p n (sym t.served.answer);
      sheet = t.sheet;
    }
