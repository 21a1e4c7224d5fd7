use Rattle.pm_record.proofs.PlacesLemmas.{has_already}
use Rattle.pm_record.proofs.places.Places.put_among.Goals as goal

pub returns-in_default-clause-has : goal.returns-in_default-clause-has
returns-in_default-clause-has c = λ k. has_already c.args.self.now.items c.in_default.field-0 c.args.place k c.in_default.ensures
