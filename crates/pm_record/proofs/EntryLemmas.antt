-- The entries of a record, by their places.
use Rattle.std.proofs.Common.{◌≡◌, ℕ, arith, Bool, true, false, if◌then◌else◌, Option, Some, [], ◌∷◌, slice_get, refl, sym, ap, ◌∙◌, zero, suc}
use Rattle.std.specs.Prelude.{unwrap_or}
use Rattle.std.specs.List.{list_all}
use Rattle.std.proofs.lemmas.Bool.{or_left, or_right}
use Rattle.std.proofs.lemmas.Bool.Decides.{nat_tests}
use Rattle.pm_base.proofs.Booleans.{both}
use Rattle.pm_base.specs.declared.names.Unit.{Unit}
use Rattle.pm_base.specs.declared.names.Unit.TheVariants.{Node, Line}
use Rattle.pm_topology.specs.UnitMap.{units_in, value_of}
use Rattle.pm_topology.specs.Units.{UnitLaws, has_in, is_before, rises, same_unit}
use Rattle.pm_record.specs.declared.kept.KeptValue.{KeptValue}
use Rattle.pm_record.specs.Marks.{StandsAt, StandsElsewhere}
use Rattle.pm_record.specs.Record.{Kept, idle, kept_of, mark, marked}

-- ---- an entry of the record by its place

-- what comes later in a rising list is another unit
pub later_is_other : (a b : Unit) → is_before a b ≡ true → same_unit a b ≡ false
later_is_other (Node a) (Node b) later = grind (arith, nat_tests)
later_is_other (Node a) (Line b) later = refl
later_is_other (Line a) (Node b) later = cc
later_is_other (Line a) (Line b) later = grind (arith, nat_tests)

before_entry : (p : Unit → Bool) (entries : Kept) (k : ℕ) (e : Unit × KeptValue) → list_all p (units_in entries) ≡ true → slice_get entries k ≡ Some e → p e.0 ≡ true
before_entry p [] k e all here = cc
before_entry p (x ∷ entries) zero e all here =
    let same : x ≡ e = cc in
    ap (λ (e : Unit × KeptValue). p e.0) (sym same) ∙ (both (p x.0) (list_all p (units_in entries)) all).0
before_entry p (x ∷ entries) (suc k) e all here = before_entry p entries k e (both (p x.0) (list_all p (units_in entries)) all).1 here

pub value_at : UnitLaws → (entries : Kept) (k : ℕ) (e : Unit × KeptValue) → rises (units_in entries) ≡ true → slice_get entries k ≡ Some e → value_of entries e.0 ≡ Some e.1
value_at laws [] k e rising here = cc
value_at laws (x ∷ entries) zero e rising here =
    let same : x ≡ e = cc in
    ap (λ (x : Unit × KeptValue). if same_unit x.0 e.0 then Some x.1 else value_of entries e.0) same
    ∙ ap (λ b. if b then Some e.1 else value_of entries e.0) (laws.itself e.0)
value_at laws (x ∷ entries) (suc k) e rising here =
    let parts = both (list_all (is_before x.0) (units_in entries)) (rises (units_in entries)) rising in
    let other = later_is_other x.0 e.0 (before_entry (is_before x.0) entries k e parts.0 here) in
    ap (λ b. if b then Some x.1 else value_of entries e.0) other ∙ value_at laws entries k e parts.1 here

pub kept_at : UnitLaws → (entries : Kept) (k : ℕ) (e : Unit × KeptValue) → rises (units_in entries) ≡ true → slice_get entries k ≡ Some e → kept_of entries e.0 ≡ e.1
kept_at laws entries k e rising here = ap (λ (found : Option KeptValue). unwrap_or found idle) (value_at laws entries k e rising here)

pub has_at : UnitLaws → (entries : Kept) (k : ℕ) (e : Unit × KeptValue) → slice_get entries k ≡ Some e → has_in (units_in entries) e.0 ≡ true
has_at laws [] k e here = cc
has_at laws (x ∷ entries) zero e here =
    let same : x ≡ e = cc in
    or_left _ _ (ap (λ (x : Unit × KeptValue). same_unit x.0 e.0) same ∙ laws.itself e.0)
has_at laws (x ∷ entries) (suc k) e here = or_right (same_unit x.0 e.0) _ (has_at laws entries k e here)

-- ---- entries that don't lag

-- an entry that doesn't lag has the value that its unit has
pub stands_of : UnitLaws → (values : Unit → ℕ) (kept : Kept) (k : ℕ) (e : Unit × KeptValue) → rises (units_in kept) ≡ true → StandsElsewhere values kept → slice_get kept k ≡ Some e → StandsAt values e
stands_of laws values kept k e rising stands here =
    λ lags.
    let at = kept_at laws kept k e rising here in
    ap (λ (k : KeptValue). k.value) (sym at) ∙ stands e.0 (has_at laws kept k e here) (ap (λ (k : KeptValue). k.lags) at ∙ lags)

pub each_stays : (values : Unit → ℕ) (kept : Kept) → ((k : ℕ) (e : Unit × KeptValue) → slice_get kept k ≡ Some e → mark values e.0 e.1 ≡ e.1) → kept ≡ marked values kept
each_stays values [] stays = refl
each_stays values (e ∷ kept) stays =
    let first : (e.0, mark values e.0 e.1) ≡ e = ap (λ (k : KeptValue). (e.0, k)) (stays 0 e refl) in
    let later = each_stays values kept (λ k e here. stays (suc k) e here) in
    ap (λ (es : Kept). e ∷ es) later ∙ ap (λ (e : Unit × KeptValue). e ∷ marked values kept) (sym first)
