use Rattle.std.proofs.Common.{◌≡◌, ℕ, ◌+◌, ◌-◌, ◌<◌, List, length, drop, replicate, sym, ap, ◌∙◌, arith, length-set, length-take-le}
use Rattle.std.proofs.lemmas.List.{drop-drop, drop-replicate, drop-set-lt}
use Rattle.search.proofs.order.Order.push.Goals as goal

-- one zero fewer is behind
zeros_more : (bytes : List ℕ) (n : ℕ) → drop n bytes ≡ replicate (64 - n) 0 → drop (n + 1) bytes ≡ replicate (64 - (n + 1)) 0
zeros_more bytes n e =
    let fewer : 64 - n - 1 ≡ 64 - (n + 1) = omega arith in
    sym (drop-drop 1 n bytes) ∙ ap (drop 1) e ∙ drop-replicate 1 (64 - n) 0 ∙ ap (λ k. replicate k 0) fewer

pub invariant_of-self : goal.invariant_of-self
invariant_of-self c =
    let r = c.self.inside in
    let h = c.self.invariant in
    let n : length c.args.self.now ≡ r.count = sym (ap length c.self.view_is) ∙ length-take-le r.count r.bays (omega (arith, h.long, h.fits)) in
    let room : r.count < 64 = omega (arith, c.requires) in
    record {
      long = length-set r.bays r.count c.args.bay ∙ h.long;
      fits = omega arith;
      zeros = drop-set-lt (r.count + 1) r.bays r.count c.args.bay (omega arith) ∙ zeros_more r.bays r.count h.zeros;
    }
