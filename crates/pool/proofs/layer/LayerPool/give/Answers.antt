use Rattle.std.proofs.Common.{◌≡◌, cond, Some, rules}
use Rattle.pool.specs.Changes.{Changed}
use Rattle.pool.specs.Limits.{lacks, shrunk, giving}
use Rattle.pool.specs.Piles.{gauged}
use Rattle.pool.proofs.Layers.{by_watch, layer_changed, give_tells}
use Rattle.pool.proofs.layer.LayerPool.give.Goals as goal

pub returns : goal.returns
returns g c =
    let k = g.A.Amount.ops in
    let m = c.args.mark in
    let a = c.args.amount in
    let self = c.args.self.now in
    let ls = g.P.Pool.limits self.below in
    let l = gauged (g.W.Watch.watched self.watch) self.gauge in
    let told = c.change.ensures.0 in
    let below = g.P.Pool.limits c.change.ensures.1 in
    let call = c.change.ensures.2 in
    let changed : Changed (giving k ls m a) ls below told = search rules in
    let out : c.after-rest.result ≡ cond (l.bound.watches m) (k.minus l.out a) (Some l.out) = by_watch k (l.bound.watches m) (λ w. let made = c.after-rest.ensures.watched w in search rules) c.after-rest.ensures.unwatched in
    layer_changed k (lacks k m a) (shrunk k m a) ls below l c.after-rest.result told _ _ (rw out (give_tells k m a l)) changed c.change.ensures.3
