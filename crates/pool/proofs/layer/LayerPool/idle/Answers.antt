use Rattle.std.proofs.lemmas.Bool.{and_parts, and_from}
use Rattle.pool.specs.Piles.{gauged}
use Rattle.pool.proofs.Layers.{idle_push, idle_parts}
use Rattle.pool.proofs.layer.LayerPool.idle.Goals as goal

pub returns : goal.returns
returns g c =
    let k = g.A.Amount.ops in
    let self = c.args.self.now in
    let ls = g.P.Pool.limits self.below in
    let l = gauged (g.W.Watch.watched self.watch) self.gauge in (
      λ e. let both = and_parts _ _ e in idle_push k ls l (c.idle-2.ensures.0 both.1) (c.idle.ensures.0 both.0),
      λ h. let both = idle_parts k ls l h in and_from _ _ (c.idle.ensures.1 both.1) (c.idle-2.ensures.1 both.0),
    )
