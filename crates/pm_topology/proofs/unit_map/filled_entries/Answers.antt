-- The next unit isn't in the table yet, and is put last.
use Rattle.std.proofs.lemmas.List.{get_or_default}
use Rattle.pm_base.specs.declared.names.Unit.TheVariants.{Node}
use Rattle.std.proofs.lemmas.Option.{slice_get-get_or}
use Rattle.pm_topology.proofs.UnitMapLaw.{next_is_new, one_more}
use Rattle.pm_topology.proofs.unit_map.filled_entries.Goals as goal

pub put_last-requires : goal.put_last-requires
put_last-requires g c =
    next_is_new c.args.value c.args.units.now c.loop-unit.unit-index _ c.loop-unit.entries.entries c.requires
    (slice_get-get_or c.args.units.now c.loop-unit.unit-index _ c.loop-unit-test.true)
    c.loop-unit.invariant

pub loop-unit-preserved : goal.loop-unit-preserved
loop-unit-preserved g c =
    one_more c.args.value c.args.units.now c.loop-unit.unit-index _ c.loop-unit.entries.entries c.put_last.new.entries.entries c.loop-unit-test.true
    (get_or_default c.args.units.now c.loop-unit.unit-index (Node (record { 0 = 0 })) _ c.loop-unit-test.true) c.loop-unit.invariant c.in_ok-put_last.ensures
