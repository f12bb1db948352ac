use Rattle.std.proofs.Common.{subst}
use Rattle.rows.proofs.Bound.{kind_of}
use Rattle.book.specs.Books.{state_of}
use Rattle.calls.specs.Held.{Held}
use Rattle.calls.proofs.Slips.{open_keeps, give_keeps, end_keeps, one_slip, grant_out}
use Rattle.calls.proofs.steps.serve.Goals as goal

pub unreachable-requires : goal.unreachable-requires
unreachable-requires g c =
    let st = state_of (kind_of g.A.Amount.ops g.A.Archived) g.P.Pool.limits c.args.book.now in
    let out = subst (λ h. Held st h) c.in-Some-held-2.is c.requires in
    one_slip g.A.Amount.ops st c.in-Ask.bay c.of-in-Ask.result c.args.sheet.now _ c.in-Some-held-2._other c.in-Ok.ensures.served.answer out

pub returns-in-Open : goal.returns-in-Open
returns-in-Open g c =
    let st = state_of (kind_of g.A.Amount.ops g.A.Archived) g.P.Pool.limits c.args.book.now in
    open_keeps g.A.Amount.ops st c.in-Open.bay c.in-Open.mark c.of.result _ c.args.held c.«open».ensures.after c.requires

pub returns-in-Give : goal.returns-in-Give
returns-in-Give g c =
    let st = state_of (kind_of g.A.Amount.ops g.A.Archived) g.P.Pool.limits c.args.book.now in
    give_keeps g.A.Amount.ops st c.in-Give.bay c.of-in-Give.result _ c.args.held c.give.ensures.served.after c.requires

pub returns-in-End : goal.returns-in-End
returns-in-End g c =
    let st = state_of (kind_of g.A.Amount.ops g.A.Archived) g.P.Pool.limits c.args.book.now in
    end_keeps g.A.Amount.ops st c.in-End.bay _ c.args.held c.end.ensures.served.after c.requires

pub returns-in-None-held-2 : goal.returns-in-None-held-2
returns-in-None-held-2 g c =
    let st = state_of (kind_of g.A.Amount.ops g.A.Archived) g.P.Pool.limits c.args.book.now in
    grant_out g.A.Amount.ops st c.in-Ask.bay c.of-in-Ask.result c.args.sheet.now c.in-Ok.field-0.count c.in-Ok.field-0.slip _ c.in-Ok.ensures.served.answer c.in-Ok.ensures.served.after
