use Rattle.std.proofs.Common.{ap, sym, ◌∙◌}
use Rattle.pm_topology.specs.UnitMap.{with_value_at}
use Rattle.pm_record.specs.declared.kept.KeptValue.{KeptValue}
use Rattle.pm_record.specs.Record.{kept_of}
use Rattle.pm_record.proofs.FoundLemmas.{kept_there, place_there}
use Rattle.pm_record.proofs.entries.keep_at.Goals as goal

pub returns-in_default-clause-entries : goal.returns-in_default-clause-entries
returns-in_default-clause-entries c = absurd (place_there c.args.command.unit c.args.values.now c.args.place c.requires (sym c.entry.ensures ∙ c.in_default.is))

pub returns-clause-entries : goal.returns-clause-entries
returns-clause-entries c =
    let old = c.args.values.now in
    let rising = c.len-units.ensures.rising in
    c.set_at.ensures.entries
    ∙ ap (λ (k : KeptValue). with_value_at c.args.place (record k { value = c.args.command.value }) old)
    (kept_there c.units_stand_in_order.ensures c.args.command.unit old c.args.place rising c.requires c.in-Some.found (sym c.entry.ensures ∙ c.in-Some.is))
    ∙ c.unit_map_places.ensures.by_unit c.args.command.unit (record (kept_of old c.args.command.unit) { value = c.args.command.value }) old c.args.place rising c.requires

pub returns-clause-before : goal.returns-clause-before
returns-clause-before c =
    ap (λ (k : KeptValue). k.value) (kept_there c.units_stand_in_order.ensures c.args.command.unit c.args.values.now c.args.place c.len-units.ensures.rising c.requires c.in-Some.found (sym c.entry.ensures ∙ c.in-Some.is))
