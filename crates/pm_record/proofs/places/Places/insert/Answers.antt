use Rattle.pm_record.proofs.places.Places.insert.Goals as goal

pub put_last-requires-clause-stands : goal.put_last-requires-clause-stands
put_last-requires-clause-stands c = c.ends_before.ensures c.if-ends_before.true
