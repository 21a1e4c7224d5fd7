use Rattle.std.proofs.Common.{sym, ◌∙◌}
use Rattle.pm_topology.proofs.UnitMapLaw.{set_nowhere}
use Rattle.pm_record.specs.Record.{kept_of}
use Rattle.pm_record.proofs.entries.keep.Goals as goal

pub returns-in_default-clause-entries : goal.returns-in_default-clause-entries
returns-in_default-clause-entries c =
    set_nowhere c.args.command.unit (record (kept_of c.args.values.now c.args.command.unit) { value = c.args.command.value }) c.args.values.now c.place.ensures.rising
    (sym c.place.ensures.place ∙ c.in_default.is)
