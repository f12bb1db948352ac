use Rattle.std.proofs.Common.{◌∙◌, sym, lit≤}
use Rattle.amount.specs.CountLaws.{amps_counted}
use Rattle.archive.proofs.Reading.{made_of, count_read, number_two}
use Rattle.archive.proofs.amps.AmpsArchived.read.Goals as goal

pub returns : goal.returns
returns c =
    let m = made_of c.args.from.now c.in_ok-bytes.bytes 2 c.try_from.result c.try_from.ensures.1 c.in_ok-bytes.ensures.value in
    count_read amps_counted 2 c.args.from.now c.in_ok-bytes.bytes c.from.result (lit≤ tt) m (c.from.ensures ∙ c.from_be_bytes.ensures ∙ sym (number_two _ m.0))
