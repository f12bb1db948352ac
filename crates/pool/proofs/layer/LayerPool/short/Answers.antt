use Rattle.pool.specs.Limits.{over}
use Rattle.pool.specs.Piles.{gauged}
use Rattle.pool.proofs.Places.{place_push}
use Rattle.pool.proofs.layer.LayerPool.short.Goals as goal

pub returns : goal.returns
returns g c =
    let k = g.A.Amount.ops in
    let self = c.args.self.now in
    let push = place_push (λ l. over k c.args.mark (k.plus l.out c.args.amount) l.bound) (g.P.Pool.limits self.below) (gauged (g.W.Watch.watched self.watch) self.gauge) in
    cc
