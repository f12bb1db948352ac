use Rattle.std.proofs.Common.{◌≡◌, ℕ, set, Some, sym, refl, ap, ◌∙◌}
use Rattle.std.proofs.lemmas.Result.{err_from_is_err_and}
use Rattle.orders.specs.Sessions.{Session, with_holding}
use Rattle.law.specs.Book.{Reply, accepted, granted, asks, ask_answer, answer, sheet_by}
use Rattle.law.specs.Book as machine
use Rattle.rows.proofs.Cells.{reads_written}
use Rattle.rows.specs.Legend.{refusal}
use Rattle.rows.specs.declared.effect.RowCall.TheVariants.{Ask}
use Rattle.rows.specs.declared.refusal.Refusal.TheVariants.{AboveClaim, NoRoom}
use Rattle.rows.specs.declared.row.RowState.TheVariants.{Moving}
use Rattle.rows.proofs.Bound.{kind_of}
use Rattle.book.specs.Tables.{row_in}
use Rattle.book.proofs.Asked.{above, no_room, searched, granted_state, granted_sheet}
use Rattle.book.proofs.Read.{fits}
use Rattle.book.proofs.Steps.{state, refuses, makes, changed, moves_now, sitting_refused, sits}
use Rattle.book.proofs.Tried.{lacking, present}
use Rattle.book.proofs.book.Book.ask.Goals as goal

pub returns-in_err-next : goal.returns-in_err-next
returns-in_err-next g c =
    let o = g.A.Amount.ops in
    let kind = kind_of g.A.Amount.ops g.A.Archived in
    let limits = g.P.Pool.limits in
    let b = c.args.self.now in
    let i = c.args.bay in
    let a = c.args.amount in
    let sheet = c.args.sheet.now in
    let st = state kind b.table (limits b.pile) in
    let e = c.in_err-next.field-0.0 in
    let h = sitting_refused kind b.table (limits b.pile) Ask Moving refl refl i e (ask_answer o st i a sheet) refl c.in_err-next.ensures in
    let p = err_from_is_err_and c.from_residual.result c.from_residual.ensures.1 in
    rw (p.1, p.2) (record { served = refuses kind limits b (asks i a sheet) b e refl h; sheet = ap (sheet_by o st (asks i a sheet)) h })

pub returns-in_err-holding : goal.returns-in_err-holding
returns-in_err-holding g c =
    let o = g.A.Amount.ops in
    let kind = kind_of g.A.Amount.ops g.A.Archived in
    let limits = g.P.Pool.limits in
    let b = c.args.self.now in
    let i = c.args.bay in
    let a = c.args.amount in
    let sheet = c.args.sheet.now in
    let st = state kind b.table (limits b.pile) in
    let q = c.session.inside in
    let s : Session g.row.A.Denot = record { mark = q.mark; claim = q.claim; holding = q.holding } in
    let x = sits kind b.table (limits b.pile) Ask Moving refl refl i c.in_ok-next.next q.mark q.claim q.holding c.in_ok-next.session c.session.view_is c.in_ok-next.ensures in
    let comes = x.through (ask_answer o st i a sheet) in
    let y = lacking c.room.result AboveClaim c.in_err-holding.field-0.0 c.ok_or.result c.ok_or.ensures.value c.in_err-holding.was in
    let h : refusal AboveClaim ≡ answer o st (asks i a sheet) = sym (comes ∙ above o st i a sheet s (o.plus s.holding a) (sym c.room.ensures ∙ y.0)) in
    let p = err_from_is_err_and c.from_residual-in_err-holding.result c.from_residual-in_err-holding.ensures.1 in
    rw (p.1, p.2, y.1) (record { served = refuses kind limits b (asks i a sheet) b AboveClaim refl h; sheet = ap (sheet_by o st (asks i a sheet)) h })

pub returns-in_err-take : goal.returns-in_err-take
returns-in_err-take g c =
    let o = g.A.Amount.ops in
    let kind = kind_of g.A.Amount.ops g.A.Archived in
    let limits = g.P.Pool.limits in
    let b = c.args.self.now in
    let i = c.args.bay in
    let a = c.args.amount in
    let sheet = c.args.sheet.now in
    let st = state kind b.table (limits b.pile) in
    let q = c.session.inside in
    let s : Session g.row.A.Denot = record { mark = q.mark; claim = q.claim; holding = q.holding } in
    let x = sits kind b.table (limits b.pile) Ask Moving refl refl i c.in_ok-next.next q.mark q.claim q.holding c.in_ok-next.session c.session.view_is c.in_ok-next.ensures in
    let comes = x.through (ask_answer o st i a sheet) in
    let held = c.in_ok-holding.holding in
    let fit = sym c.room.ensures ∙ present c.room.result AboveClaim held c.ok_or.result c.ok_or.ensures.value c.in_ok-holding.was in
    let exit = limits c.take.new.self in
    let e = c.in_err-take.field-0.0 in
    let h = no_room o st i a sheet s held fit comes exit e c.in_err-take.ensures in
    let p = err_from_is_err_and c.from_residual-in_err-take.result c.from_residual-in_err-take.ensures.1 in
    rw (p.1, p.2) (record { served = refuses kind limits b (asks i a sheet) b (NoRoom e) refl h; sheet = ap (sheet_by o st (asks i a sheet)) h })

pub returns-in_err-count : goal.returns-in_err-count
returns-in_err-count g c =
    let o = g.A.Amount.ops in
    let kind = kind_of g.A.Amount.ops g.A.Archived in
    let limits = g.P.Pool.limits in
    let b = c.args.self.now in
    let i = c.args.bay in
    let a = c.args.amount in
    let sheet = c.args.sheet.now in
    let st = state kind b.table (limits b.pile) in
    let q = c.session.inside in
    let s : Session g.row.A.Denot = record { mark = q.mark; claim = q.claim; holding = q.holding } in
    let x = sits kind b.table (limits b.pile) Ask Moving refl refl i c.in_ok-next.next q.mark q.claim q.holding c.in_ok-next.session c.session.view_is c.in_ok-next.ensures in
    let comes = x.through (ask_answer o st i a sheet) in
    let held = c.in_ok-holding.holding in
    let fit = sym c.room.ensures ∙ present c.room.result AboveClaim held c.ok_or.result c.ok_or.ensures.value c.in_ok-holding.was in
    let exit = limits c.take.new.self in
    let bays = c.seat.new.self in
    let seated = c.seat.ensures.seated ∙ ap (λ u. set u i (Some (with_holding s held))) c.seat_all.ensures in
    let reply : ℕ → Reply = λ n. granted n (record { number = st.number; at = i }) in
    let found = searched o st i a sheet s held fit comes exit c.in_ok-take.ensures bays seated in
    let e = c.in_err-count.field-0.0 in
    let h = c.in_err-count.ensures.answer reply ∙ found in
    let p = err_from_is_err_and c.from_residual-in_err-count.result c.from_residual-in_err-count.ensures.1 in
    rw (p.1, p.2) (record { served = refuses kind limits b (asks i a sheet) _ e refl h; sheet = c.in_err-count.ensures.sheet ∙ ap (sheet_by o st (asks i a sheet)) h })

pub returns : goal.returns
returns g c =
    let o = g.A.Amount.ops in
    let kind = kind_of g.A.Amount.ops g.A.Archived in
    let limits = g.P.Pool.limits in
    let b = c.args.self.now in
    let i = c.args.bay in
    let a = c.args.amount in
    let sheet = c.args.sheet.now in
    let st = state kind b.table (limits b.pile) in
    let q = c.session.inside in
    let s : Session g.row.A.Denot = record { mark = q.mark; claim = q.claim; holding = q.holding } in
    let x = sits kind b.table (limits b.pile) Ask Moving refl refl i c.in_ok-next.next q.mark q.claim q.holding c.in_ok-next.session c.session.view_is c.in_ok-next.ensures in
    let comes = x.through (ask_answer o st i a sheet) in
    let held = c.in_ok-holding.holding in
    let fit = sym c.room.ensures ∙ present c.room.result AboveClaim held c.ok_or.result c.ok_or.ensures.value c.in_ok-holding.was in
    let exit = limits c.take.new.self in
    let bays = c.seat.new.self in
    let seated = c.seat.ensures.seated ∙ ap (λ u. set u i (Some (with_holding s held))) c.seat_all.ensures in
    let reply : ℕ → Reply = λ n. granted n (record { number = st.number; at = i }) in
    let found = searched o st i a sheet s held fit comes exit c.in_ok-take.ensures bays seated in
    let r = reply c.in_ok-count.count in
    let h : accepted r ≡ answer o st (asks i a sheet) = c.in_ok-count.ensures.answer reply ∙ found in
    let few = fits kind.W b.table.shut x.opened in
    let codec = g.met.A.Archived.codec in
    let at = row_in b.table c.from.result in
    let sum = reads_written kind codec few held at.holding c.write.new.self c.write.ensures in
    let portion = reads_written kind codec few a at.portion c.write-2.new.self c.write-2.ensures in
    let row = moves_now kind b.table (limits b.pile) i _ held a s x.turns refl refl sum portion x.same in
    let m = granted_state o st i a sheet s held fit comes exit c.in_ok-take.ensures bays seated x.at_rest r in
    let laid = granted_sheet o st i a sheet s held fit comes exit c.in_ok-take.ensures bays seated x.at_rest r in
    rw c.from.ensures (record {
      served = makes kind limits b (asks i a sheet) _ r h (changed kind b.table st.pile i _ exit exit (machine.moving (with_holding s held) a) refl row ∙ m);
      sheet = c.in_ok-count.ensures.sheet ∙ laid ∙ ap (sheet_by o st (asks i a sheet)) h;
    })
