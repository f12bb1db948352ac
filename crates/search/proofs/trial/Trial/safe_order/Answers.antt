use Rattle.std.proofs.Common.{◌≡◌, ◌+◌, ◌<◌, [], ◌∷◌, length, get_or, None, rules, sym, ap, ◌∙◌, arith, length-append, length-set}
use Rattle.orders.specs.Sessions.{emptied}
use Rattle.orders.proofs.Walked.{open_length}
use Rattle.law.specs.SafeOrder.{finished, safe_order}
use Rattle.search.specs.Emptied.{without}
use Rattle.search.proofs.Steps.{next_open, none_named, one_named, all_named, without_more}
use borrow.Author.Rules.{scaled_Fits}
use Rattle.search.proofs.trial.Trial.safe_order.Goals as goal

pub loop-bay-init : goal.loop-bay-init
loop-bay-init g c =
    let t = c.args.self.now in
    record {
      named = none_named g.A.Amount.ops c.new-order.result (g.P.Pool.limits c.args.pile.now) t c.new-order.ensures;
      left = ap (λ is. without is t) (sym c.new-order.ensures);
      room = omega (arith, ap length c.new-order.ensures, open_length t);
    }

pub offset_bounds-self-inside-bay : goal.offset_bounds-self-inside-bay
offset_bounds-self-inside-bay g c = scaled_Fits c.in-Some.bay 64 _ c.in-Some.ensures.inside (search rules)

pub push-requires : goal.push-requires
push-requires g c =
    let long : length c.loop-bay.self ≡ 64 = sym (ap length c.self.view_is) ∙ c.self.invariant in
    let more = next_open g.A.Amount.ops (g.P.Pool.limits c.loop-bay.trial) c.loop-bay.self c.in-Some.bay (sym c.in-Some.ensures.bay) in
    omega (arith, c.loop-bay.invariant.room, more, long)

pub loop-bay-smaller : goal.loop-bay-smaller
loop-bay-smaller g c =
    let more = next_open g.A.Amount.ops (g.P.Pool.limits c.loop-bay.trial) c.loop-bay.self c.in-Some.bay (sym c.in-Some.ensures.bay) in
    rw c.self.view_is (omega (arith, more))

pub loop-bay-preserved : goal.loop-bay-preserved
loop-bay-preserved g c = rw c.self.view_is (
    let o = g.A.Amount.ops in
    let ls = g.P.Pool.limits c.loop-bay.trial in
    let t = c.loop-bay.self in
    let i = c.in-Some.bay in
    let v = c.loop-bay.invariant in
    let all = safe_order o (g.P.Pool.limits c.args.pile.now) c.args.self.now in
    let long : length t ≡ 64 = sym (ap length c.self.view_is) ∙ c.self.invariant in
    let more = next_open o ls t i (sym c.in-Some.ensures.bay) in
    let inside : i < length t = omega (arith, c.in-Some.ensures.inside, long) in
    let room : length c.loop-bay.order < length t = omega (arith, v.room, more) in
    let one : length c.push.new.self ≡ length c.loop-bay.order + 1 = ap length c.push.ensures ∙ length-append c.loop-bay.order (i ∷ []) in
    record {
      named = one_named o all i c.loop-bay.order c.push.new.self ls (g.P.Pool.limits c.finish.new.pile) t c.index-self-bay.result room inside c.in-Some.ensures.bay (c.finish.ensures ∙ ap (λ u. finished o ls (get_or u i c.index-self-bay.result)) c.self.view_is) c.push.ensures v.named;
      left = ap (λ u. emptied u i) v.left ∙ sym (without_more c.loop-bay.order i c.args.self.now) ∙ ap (λ is. without is c.args.self.now) (sym c.push.ensures);
      room = omega (arith, v.room, more, one, length-set t i None);
    })

pub returns-clause-named : goal.returns-clause-named
returns-clause-named g c =
    let o = g.A.Amount.ops in
    let all = safe_order o (g.P.Pool.limits c.args.pile.now) c.args.self.now in
    all_named o all c.loop-bay.order _ (g.P.Pool.limits c.loop-bay.trial) c.loop-bay.self c.in_default.ensures.bay c.loop-bay.invariant.named
