use Rattle.std.proofs.Common.{◌≡◌, ◌==◌, ◌&&◌, Some, slice_get, ap, sym, subst, ◌∙◌}
use Rattle.std.proofs.lemmas.Bool.{eqb-true}
use Rattle.pm_base.proofs.Booleans.{both}
use Rattle.pm_topology.specs.UnitMap.{place_of, units_in}
use Rattle.pm_record.specs.declared.kept.KeptValue.{KeptValue}
use Rattle.pm_record.specs.Record.{Kept, kept_of}
use Rattle.pm_record.proofs.FoundLemmas.{gone_idle, kept_there, place_there, stands_there}
use Rattle.pm_record.proofs.kept.Kept.lagging.Goals as goal

pub returns-in_default-clause-none : goal.returns-in_default-clause-none
returns-in_default-clause-none c =
    ap (λ (kept : KeptValue). kept.lags && (kept.value == c.args.value))
    (gone_idle c.args.unit c.args.self.now (ap (λ (kept : Kept). place_of kept c.args.unit) (sym c.self.view_is) ∙ (sym c.place.ensures.place ∙ c.in_default.is)))

pub returns-in_default-entry-clause-none : goal.returns-in_default-entry-clause-none
returns-in_default-entry-clause-none c =
    absurd (place_there c.args.unit c.self.inside.values c.in-Some.place (sym c.place.ensures.place ∙ c.in-Some.is) (sym c.entry.ensures ∙ c.in_default-entry.is))

pub returns-then-has_lagging-clause-there : goal.returns-then-has_lagging-clause-there
returns-then-has_lagging-clause-there c =
    let P : Kept → Type 0 = λ kept. slice_get (units_in kept) c.in-Some.place ≡ Some c.args.unit in
    subst P c.self.view_is
    (stands_there c.units_stand_in_order.ensures c.args.unit c.self.inside.values c.in-Some.place (c.in-Some-entry.field-0-0, c.in-Some-entry.kept)
    (sym c.place.ensures.place ∙ c.in-Some.is) (sym c.entry.ensures ∙ c.in-Some-entry.is))

pub returns-then-has_lagging-clause-value : goal.returns-then-has_lagging-clause-value
returns-then-has_lagging-clause-value c =
    let is =
    kept_there c.units_stand_in_order.ensures c.args.unit c.self.inside.values c.in-Some.place c.place.ensures.rising (sym c.place.ensures.place ∙ c.in-Some.is)
    (c.in-Some-entry.field-0-0, c.in-Some-entry.kept) (sym c.entry.ensures ∙ c.in-Some-entry.is)
    in
    let has = both c.in-Some-entry.kept.lags (c.in-Some-entry.kept.value == c.args.value) (sym c.has_lagging.ensures ∙ c.if-has_lagging.true) in
    ap (λ (kept : Kept). (kept_of kept c.args.unit).value) (sym c.self.view_is) ∙ (ap (λ (kept : KeptValue). kept.value) (sym is) ∙ eqb-true c.in-Some-entry.kept.value c.args.value has.1)

pub returns-else-has_lagging-clause-none : goal.returns-else-has_lagging-clause-none
returns-else-has_lagging-clause-none c =
    let is =
    kept_there c.units_stand_in_order.ensures c.args.unit c.self.inside.values c.in-Some.place c.place.ensures.rising (sym c.place.ensures.place ∙ c.in-Some.is)
    (c.in-Some-entry.field-0-0, c.in-Some-entry.kept) (sym c.entry.ensures ∙ c.in-Some-entry.is)
    in
    ap (λ (kept : Kept). (kept_of kept c.args.unit).lags && ((kept_of kept c.args.unit).value == c.args.value)) (sym c.self.view_is)
    ∙ (ap (λ (kept : KeptValue). kept.lags && (kept.value == c.args.value)) (sym is) ∙ (sym c.has_lagging.ensures ∙ c.if-has_lagging.false))
