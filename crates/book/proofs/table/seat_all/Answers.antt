use Rattle.std.proofs.Common.{◌≡◌, ◌+◌, ◌<◌, ◌∷◌, [], ◌++◌, map, length, get_or, take, set, None, sym, refl, ap, ◌∙◌, arith, length-append, length-set}
use Rattle.std.proofs.lemmas.Iterator.{YieldsList-from_slice, YieldsList-from_range, YieldsList-from_zip}
use Rattle.std.proofs.lemmas.Iterator.Consumers.{YieldsList-turn, YieldsList-end}
use Rattle.std.proofs.lemmas.List.{get_or_default}
use Rattle.std.proofs.lemmas.List.FromFn.{get_or-range_with_len, length-range_with_len}
use Rattle.std.proofs.lemmas.Slice.Zip.{length-zip, get_or-zip}
use Rattle.std.specs.List.{range_with_len}
use Rattle.law.specs.Book.{seen, seen_row}
use Rattle.rows.specs.Rows.{row_of}
use Rattle.rows.proofs.Bound.{kind_of}
use Rattle.book.specs.Tables.{no_row}
use Rattle.book.proofs.Filling.{filled_more, filled_all}
use Rattle.book.proofs.Read.{seen_length, seen_at}
use Rattle.book.proofs.table.seat_all.Goals as goal

pub loop-bay-preserved : goal.loop-bay-preserved
loop-bay-preserved g c =
    let f = row_of (kind_of g.A.Amount.ops g.A.Archived) in
    let rows = c.args.rows.now in
    let n = length c.loop-bay.yielded in
    let chain = YieldsList-from_zip {s = c.into_iter-bay-iterator.result} (YieldsList-from_range 0 64 64 (cc) refl) (YieldsList-from_slice rows (cc)) in
    let turn = YieldsList-turn chain c.loop-bay.yielded c.loop-bay.bay-iterator c.loop-bay.yielded_by c.next.result c.next.new.self (c.in-Some.bay, c.in-Some.row) c.in-Some.is c.next.ensures.steps in
    let pairs = length-zip (range_with_len 0 64) rows in
    let count = length-range_with_len 0 64 in
    let low : n < 64 = omega (arith, turn.0, pairs, count) in
    let inside : n < length rows = omega (arith, turn.0, pairs, count) in
    let pair = turn.1 ∙ get_or-zip (range_with_len 0 64) rows n (c.in-Some.bay, c.in-Some.row.now) (omega (arith, count, low)) inside in
    let from_zero : 0 + n ≡ n = omega arith in
    let bay : c.in-Some.bay ≡ n = ap (λ p. p.0) pair ∙ get_or-range_with_len 0 64 n c.in-Some.bay low ∙ from_zero in
    let row : c.in-Some.row.now ≡ get_or rows n no_row = ap (λ p. p.1) pair ∙ get_or_default rows n c.in-Some.row.now no_row inside in
    let full : length c.loop-bay.trial ≡ 64 = sym (ap length c.seat.ensures.seated ∙ length-set c.loop-bay.trial c.in-Some.bay c.session.result) ∙ c.seat.ensures.bays in
    let h : n < length c.loop-bay.trial = omega (arith, low, full) in
    let h' : n < length (seen (map f rows)) = omega (arith, inside, seen_length f rows) in
    let e = c.session.ensures ∙ ap (λ r. seen_row (f r)) row ∙ sym (seen_at f rows n refl) in
    let more : length (c.loop-bay.yielded ++ ((c.in-Some.bay, c.in-Some.row) ∷ [])) ≡ n + 1 = length-append c.loop-bay.yielded ((c.in-Some.bay, c.in-Some.row) ∷ []) in
    rw more (record {
      seated = ap (take (n + 1)) (c.seat.ensures.seated ∙ ap (λ k. set c.loop-bay.trial k c.session.result) bay) ∙ filled_more n c.loop-bay.trial (seen (map f rows)) c.session.result None h h' e c.loop-bay.invariant.seated;
      full = λ some. c.seat.ensures.bays;
    })

pub returns : goal.returns
returns g c =
    let f = row_of (kind_of g.A.Amount.ops g.A.Archived) in
    let rows = c.args.rows.now in
    let n = length c.loop-bay.yielded in
    let chain = YieldsList-from_zip {s = c.into_iter-bay-iterator.result} (YieldsList-from_range 0 64 64 (cc) refl) (YieldsList-from_slice rows (cc)) in
    let end = YieldsList-end chain c.loop-bay.yielded c.loop-bay.bay-iterator c.loop-bay.yielded_by c.next.result c.next.new.self c.in-None.is c.next.ensures.steps in
    let long = seen_length f rows in
    let pairs = length-zip (range_with_len 0 64) rows in
    let count = length-range_with_len 0 64 in
    let all : n ≡ 64 = omega (arith, end.1, pairs, count) in
    let full : length c.loop-bay.trial ≡ 64 = c.loop-bay.invariant.full (omega (arith, all)) in
    filled_all n c.loop-bay.trial (seen (map f rows)) (omega (arith, full, all)) (omega (arith, long, all)) c.loop-bay.invariant.seated
