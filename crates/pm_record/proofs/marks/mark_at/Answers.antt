use Rattle.std.proofs.Common.{◌≡◌, ◌==◌, ℕ, not, ap, sym, subst, ◌∙◌, arith}
use Rattle.std.specs.Prelude.{slice_get}
use Rattle.std.proofs.lemmas.Bool.{both_ways, not-true}
use Rattle.std.proofs.lemmas.Option.{slice_get_within}
use Rattle.pm_base.specs.declared.names.Unit.{Unit}
use Rattle.pm_topology.specs.UnitMap.{with_value_at}
use Rattle.pm_record.specs.Marks.{Remakes}
use Rattle.pm_record.specs.Record.{Kept, mark}
use Rattle.pm_record.proofs.ListedLemmas.{lags_made, remakes_at, unit_there}
use Rattle.pm_record.proofs.marks.mark_at.Goals as goal

pub value_at-requires : goal.value_at-requires
value_at-requires g c =
    c.requires.known c.in-Some.unit (unit_there c.args.values.now c.args.place (c.in-Some.unit, c.in-Some.kept) (sym c.entry.ensures ∙ c.in-Some.is))

pub insert-requires : goal.insert-requires
insert-requires g c =
    let within = slice_get_within c.args.values.now c.args.place (c.in-Some.unit, c.in-Some.kept) (sym c.entry.ensures ∙ c.in-Some.is) in
    omega (arith, within, c.requires.room)

pub returns-then-not-kept-clause-made : goal.returns-then-not-kept-clause-made
returns-then-not-kept-clause-made g c =
    let values : Unit → ℕ = g.W.Wanted.value c.args.wanted.now in
    let made : c.mark-kept.result ≡ mark values c.in-Some.unit c.in-Some.kept =
    c.mark-kept.ensures ∙ ap (λ n. record c.in-Some.kept { lags = not (c.in-Some.kept.value == n) }) c.value_at.ensures
    in
    let P : Kept → Type 0 = λ after. Remakes values c.args.place c.args.values.now after in
    subst P (sym (c.set_at.ensures.entries ∙ ap (λ made. with_value_at c.args.place made c.args.values.now) made))
    (remakes_at c.unit_map_places.ensures values c.args.place c.args.values.now (c.in-Some.unit, c.in-Some.kept) (sym c.entry.ensures ∙ c.in-Some.is))

pub returns-then-not-kept-clause-lags : goal.returns-then-not-kept-clause-lags
returns-then-not-kept-clause-lags g c =
    λ e found lag.
    let same : c.mark-kept.result.lags ≡ e.1.lags =
    lags_made (g.W.Wanted.value c.args.wanted.now) c.args.place c.args.values.now (c.in-Some.unit, c.in-Some.kept) e c.mark-kept.result (sym c.entry.ensures ∙ c.in-Some.is)
    (ap (λ (kept : Kept). slice_get kept c.args.place) (sym c.set_at.ensures.entries) ∙ found)
    in
    absurd (both_ways c.mark-kept.result.lags (not-true c.mark-kept.result.lags c.if-not-kept.true) (same ∙ lag))

pub returns-clause-made : goal.returns-clause-made
returns-clause-made g c =
    let values : Unit → ℕ = g.W.Wanted.value c.args.wanted.now in
    let made : c.mark-kept.result ≡ mark values c.in-Some.unit c.in-Some.kept =
    c.mark-kept.ensures ∙ ap (λ n. record c.in-Some.kept { lags = not (c.in-Some.kept.value == n) }) c.value_at.ensures
    in
    let P : Kept → Type 0 = λ after. Remakes values c.args.place c.args.values.now after in
    subst P (sym (c.set_at.ensures.entries ∙ ap (λ made. with_value_at c.args.place made c.args.values.now) made))
    (remakes_at c.unit_map_places.ensures values c.args.place c.args.values.now (c.in-Some.unit, c.in-Some.kept) (sym c.entry.ensures ∙ c.in-Some.is))
