use Rattle.std.proofs.Common.{true, ap, sym, ◌∙◌}
use Rattle.pm_topology.specs.UnitMap.{with_value_at}
use Rattle.pm_record.specs.declared.kept.KeptValue.{KeptValue}
use Rattle.pm_record.specs.Record.{kept_of}
use Rattle.pm_record.proofs.FoundLemmas.{kept_there, place_there}
use Rattle.pm_record.proofs.marks.set_mark.Goals as goal

pub returns-in_default-clause-entries : goal.returns-in_default-clause-entries
returns-in_default-clause-entries c = absurd (place_there c.args.unit c.args.values.now c.args.place c.requires (sym c.entry.ensures ∙ c.in_default.is))

pub returns-clause-entries : goal.returns-clause-entries
returns-clause-entries c =
    let old = c.args.values.now in
    let rising = c.len-units.ensures.rising in
    c.set_at.ensures.entries
    ∙ ap (λ (k : KeptValue). with_value_at c.args.place (record k { lags = true }) old)
    (kept_there c.units_stand_in_order.ensures c.args.unit old c.args.place rising c.requires c.in-Some.found (sym c.entry.ensures ∙ c.in-Some.is))
    ∙ c.unit_map_places.ensures.by_unit c.args.unit (record (kept_of c.args.values.now c.args.unit) { lags = true }) old c.args.place rising c.requires
