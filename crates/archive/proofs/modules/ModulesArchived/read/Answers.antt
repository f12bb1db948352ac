use Rattle.std.proofs.Common.{◌∙◌, sym, lit≤}
use Rattle.amount.specs.SetLaws.{modules_counted}
use Rattle.archive.proofs.Reading.{made_of, count_read, number_eight}
use Rattle.archive.proofs.modules.ModulesArchived.read.Goals as goal

pub returns : goal.returns
returns c =
    let m = made_of c.args.from.now c.in_ok-bytes.bytes 8 c.try_from.result c.try_from.ensures.1 c.in_ok-bytes.ensures.value in
    count_read modules_counted 8 c.args.from.now c.in_ok-bytes.bytes c.from.result (lit≤ tt) m (c.from.ensures ∙ c.from_be_bytes.ensures ∙ sym (number_eight _ m.0))
