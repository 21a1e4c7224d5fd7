-- A record in which no unit lags.
use Rattle.std.proofs.Common.{◌≡◌, ℕ, ◌<◌, length, true, [], sym, ap, ◌∙◌}
use Rattle.std.proofs.lemmas.Bool.{both_ways}
use Rattle.std.proofs.lemmas.Option.{same_Some, slice_get_within}
use Rattle.pm_base.specs.declared.names.Unit.{Unit}
use Rattle.pm_topology.specs.UnitMap.{units_in}
use Rattle.pm_topology.specs.Units.{UnitLaws, rises}
use Rattle.pm_record.specs.declared.kept.KeptValue.{KeptValue}
use Rattle.pm_record.specs.Marks.{LagsNotAt, LagsWithin, StandsElsewhere}
use Rattle.pm_record.specs.Record.{Kept, marked}
use Rattle.pm_record.proofs.ListedLemmas.{remade_first, remade_marked}

-- each entry doesn't lag
abbrev pub NoneLags : Kept → Type 0
NoneLags kept = (k : ℕ) → k < length kept → LagsNotAt k kept

-- so the list of the marked places may be empty
pub none_within : (kept : Kept) → NoneLags kept → LagsWithin [] kept
none_within kept none k e here lag =
    let at = none k (slice_get_within kept k e here) in
    let same : at.entry ≡ e = same_Some at.entry e (sym at.here ∙ here) in
    absurd (both_ways e.1.lags (ap (λ (e : Unit × KeptValue). e.1.lags) (sym same) ∙ at.idle) lag)

-- and where each of these has the book's value, to mark each unit by its value changes nothing
pub marks_stay : UnitLaws → (values : Unit → ℕ) (kept : Kept) → rises (units_in kept) ≡ true → StandsElsewhere values kept → NoneLags kept → kept ≡ marked values kept
marks_stay laws values kept rising stands none =
    remade_marked values kept kept [] (remade_first laws values kept [] [] rising stands (none_within kept none))
