use Rattle.roundtrip.proofs.Days.{round_trip}
use Rattle.roundtrip.proofs.round_trip.Goals as goal

pub returns : goal.returns
returns g c = round_trip g.met.A.Archived.codec
