-- Units are marked: nothing but their marks changes.
use Rattle.std.proofs.Common.{◌≡◌, ℕ, ◌+◌, Bool, true, false, ◌&&◌, if◌then◌else◌, Option, Some, List, [], ◌∷◌, ◌++◌, take, slice_get, refl, sym, ap, subst, ◌∙◌, ◌⊎◌, inl, inr, suc, arith}
use Rattle.std.specs.Prelude.{is_some, unwrap_or}
use Rattle.std.proofs.lemmas.Bool.{both_ways, or_cases}
use Rattle.std.proofs.lemmas.List.{take_more}
use Rattle.std.proofs.lemmas.List.Folds.{list_any-append}
use Rattle.std.proofs.lemmas.Option.{slice_get_within, get_or_from_slice_get}
use Rattle.pm_base.specs.declared.names.Unit.{Unit}
use Rattle.pm_base.specs.declared.names.Unit.TheVariants.{Node}
use Rattle.pm_topology.specs.declared.topology.Topology.{Topology}
use Rattle.pm_topology.specs.UnitMap.{remade, set_entry, units_in, value_of, with_value}
use Rattle.pm_topology.specs.Units.{has_in, has_unit, rises, same_unit, units_of}
use Rattle.pm_record.proofs.Below.{ChipLaws}
use Rattle.pm_record.specs.declared.kept.KeptValue.{KeptValue}
use Rattle.pm_record.specs.Record.{Kept, IsRecordOf, idle, kept_of, kept_value, lags_in, mark, marked}
use Rattle.pm_record.specs.Marks.{Marks, with_mark}
use Rattle.pm_record.proofs.RecordLemmas.{kept_value-marked, units_in-marked}
use Rattle.pm_record.proofs.EntryLemmas.{kept_at}

-- ---- one unit

-- a mark is made anew from the value, which stays
marked_entry : (values : Unit → ℕ) (u : Unit) (now : KeptValue) (e : Unit × KeptValue) → (same_unit e.0 u ≡ true → mark values e.0 now ≡ mark values e.0 e.1) → remade (mark values) (set_entry u now e) ≡ remade (mark values) e
marked_entry values u now e same = at (same_unit e.0 u) refl
  where
    at : (is : Bool) → same_unit e.0 u ≡ is → remade (mark values) (if is then (e.0, now) else e) ≡ remade (mark values) e
    at true is = ap (λ (k : KeptValue). (e.0, k)) (same is)
    at false is = refl

marked_set : (values : Unit → ℕ) (u : Unit) (now : KeptValue) (kept : Kept) → ((k : ℕ) (e : Unit × KeptValue) → slice_get kept k ≡ Some e → same_unit e.0 u ≡ true → mark values e.0 now ≡ mark values e.0 e.1) → marked values (with_value u now kept) ≡ marked values kept
marked_set values u now [] same = refl
marked_set values u now (e ∷ kept) same =
    let first = marked_entry values u now e (same 0 e refl) in
    let later = marked_set values u now kept (λ k e here. same (suc k) e here) in
    cc

module _ (laws : ChipLaws) (u : Unit) (kept : Kept) (rising : rises (units_in kept) ≡ true) where
  with_mark_alike : (values : Unit → ℕ) → marked values (with_mark u kept) ≡ marked values kept
  with_mark_alike values =
      marked_set values u (record (kept_of kept u) { lags = true }) kept
      (λ k e here is. ap (λ (k : KeptValue). mark values e.0 (record k { lags = true })) (ap (kept_of kept) (sym (laws.units.same e.0 u is)) ∙ kept_at laws.units kept k e rising here))

  lags_then : (x : Unit) (same has : Bool) → same_unit u x ≡ same → is_some (value_of kept u) ≡ has
      → (lags_in kept x ≡ true) ⊎ ((same ≡ true) × (has ≡ true))
      → (unwrap_or (if same && has then Some (record (kept_of kept u) { lags = true }) else value_of kept x) idle).lags ≡ true
  lags_then x true true is there why = refl
  lags_then x true false is there why = elim why [ inl lags ↦ lags | inr off ↦ let gone : false ≡ true = off.1 in cc ]
  lags_then x false has is there why = elim why [ inl lags ↦ lags | inr off ↦ let other : false ≡ true = off.0 in cc ]

  lags_in-with_mark : (x : Unit) → (lags_in kept x ≡ true) ⊎ ((same_unit u x ≡ true) × (is_some (value_of kept u) ≡ true)) → lags_in (with_mark u kept) x ≡ true
  lags_in-with_mark x why =
      ap (λ (found : Option KeptValue). (unwrap_or found idle).lags) (laws.table.set u (record (kept_of kept u) { lags = true }) kept x)
      ∙ lags_then x (same_unit u x) (is_some (value_of kept u)) refl refl why

  only : (x : Unit) → has_in (u ∷ []) x ≡ true → same_unit u x ≡ true
  only x has = elim (or_cases (same_unit u x) false has) [ inl is ↦ is | inr off ↦ absurd (both_ways false refl off) ]

  pub marks_one : Marks (u ∷ []) kept (with_mark u kept)
  marks_one = record {
    alike = with_mark_alike;
    these = λ x has there.
        let is = only x has in
        lags_in-with_mark x (inr (is, laws.table.there kept u ∙ (ap (has_in (units_in kept)) (laws.units.same u x is) ∙ there)));
    others = λ x lags. lags_in-with_mark x (inl lags);
  }

-- ---- several units

pub marks_none : (kept : Kept) → Marks [] kept kept
marks_none kept = record { alike = λ values. refl; these = λ x has there. cc; others = λ x lags. lags }

module _ (laws : ChipLaws) where
  -- the units stay
  pub same_units : (units : List Unit) (before after : Kept) → Marks units before after → units_in after ≡ units_in before
  same_units units before after marks =
      sym (units_in-marked laws (λ u. 0) after) ∙ ap units_in (marks.alike (λ u. 0)) ∙ units_in-marked laws (λ u. 0) before

  -- and so do their values
  pub same_values : (units : List Unit) (before after : Kept) → Marks units before after → (x : Unit) → kept_value after x ≡ kept_value before x
  same_values units before after marks x =
      sym (kept_value-marked laws (λ u. 0) after x) ∙ ap (λ kept. kept_value kept x) (marks.alike (λ u. 0)) ∙ kept_value-marked laws (λ u. 0) before x

  pub marks_trans : (first second : List Unit) (before middle after : Kept) → Marks first before middle → Marks second middle after → Marks (first ++ second) before after
  marks_trans first second before middle after one two = record {
    alike = λ values. two.alike values ∙ one.alike values;
    these = λ x has there.
        elim (or_cases (has_in first x) (has_in second x) (sym (list_any-append (λ u. same_unit u x) first second) ∙ has)) [
          | inl here ↦ two.others x (one.these x here there)
          | inr later ↦ two.these x later (ap (λ us. has_in us x) (same_units first before middle one) ∙ there)
        ];
    others = λ x lags. two.others x (one.others x lags);
  }

  pub marks_next : (units : List Unit) (k : ℕ) (u : Unit) (before middle after : Kept) → slice_get units k ≡ Some u → Marks (take k units) before middle → Marks (u ∷ []) middle after → Marks (take (k + 1) units) before after
  marks_next units k u before middle after here one two =
      let more : take (k + 1) units ≡ take k units ++ u ∷ [] =
      take_more units k u (slice_get_within units k u here)
      ∙ ap (λ u. take k units ++ u ∷ []) (get_or_from_slice_get units k u u here)
      in
      let P : List Unit → Type 0 = λ units. Marks units before after in
      subst P (sym more) (marks_trans (take k units) (u ∷ []) before middle after one two)

  pub record_marked : (t : Topology) (units : List Unit) (before after : Kept) → IsRecordOf t before → Marks units before after → IsRecordOf t after
  record_marked t units before after record_of marks = record {
    units = same_units units before after marks ∙ record_of.units;
    up_or_down = λ w p here.
        let same = same_values units before after marks (Node p.node) in
        let up = record_of.up_or_down w p here in
        omega arith;
  }

  -- where all are marked, each unit of the chip lags
  pub all_marked : (t : Topology) (before after : Kept) → IsRecordOf t before → Marks (units_of t) before after → (unit : Unit) → has_unit t unit ≡ true → lags_in after unit ≡ true
  all_marked t before after record_of marks unit has =
      let listed : has_in (units_of t) unit ≡ true = laws.units.found t unit ∙ has in
      marks.these unit listed (ap (λ us. has_in us unit) record_of.units ∙ listed)
