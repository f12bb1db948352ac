use Rattle.std.proofs.Common.{◌≡◌, count_by, is_some, ◌∙◌, rules}
use Rattle.search.proofs.Opened.{count_open}
use Rattle.search.proofs.trial.Trial.open_bays.Goals as goal

pub returns : goal.returns
returns g c = let e : c.count.result ≡ count_by is_some c.args.self.now = search rules in e ∙ count_open c.args.self.now
