-- Clocks of two trees run alike if their columns and roots are equal.
use Rattle.std.proofs.Common.{◌≡◌, ℕ, Bool, true, false, [], ◌∷◌, Some, None, Option, refl, ap, ◌∙◌, sym, subst}
use Rattle.std.specs.Prelude.{◌&&◌, ◌||◌, if◌then◌else◌, is_some, not, slice_get, unwrap_or}
use Rattle.std.specs.List.{list_any}
use Rattle.std.specs.Option.{option_and_then, option_map_or}
use Rattle.std.proofs.lemmas.Bool.{eqb-true}
use Rattle.pm_base.proofs.ListLemmas.{find-None}
use Rattle.pm_base.proofs.Searches.{position-first}
use Rattle.pm_base.proofs.Tests.{any-map}
use Rattle.pm_base.specs.declared.names.NodeId.{NodeId}
use Rattle.pm_ipi.specs.Responses.{success}
use Rattle.pm_clock_tree.specs.declared.calls.ClockAct.{ClockAct}
use Rattle.pm_clock_tree.specs.declared.calls.ClockAct.TheVariants as act
use Rattle.pm_clock_tree.specs.declared.calls.ClockCall.{ClockCall}
use Rattle.pm_clock_tree.specs.declared.clock_tree.ClockChange.{ClockChange}
use Rattle.pm_clock_tree.specs.declared.clock_tree.ClockEnd.{ClockEnd}
use Rattle.pm_clock_tree.specs.declared.table.ClockDef.{ClockDef}
use Rattle.pm_clock_tree.specs.declared.tree.Setting.{Setting}
use Rattle.pm_clock_tree.specs.Calls.{is_change, is_setting}
use Rattle.pm_clock_tree.specs.Laws.{RunByTheirParents}
use Rattle.pm_clock_tree.specs.Served.{is_in_range, is_missing, may_change, refused, response, rival, rival_at, told_word, word_by}
use Rattle.pm_clock_tree.specs.Table.{clock_place, clocks, is_numbered, parent_at}
use Rattle.pm_clock_tree.specs.Told.{change, change_at, end_at, same as is_same}
use Rattle.pm_clock_tree.specs.Tree.{HasAllPlaces, Runs, Seen, Tree, divider, index, is_enabled, running, runs, setting_of}
use Rattle.pm_clock_tree.specs.Tree.Runs.{root, driven}
use Rattle.pm_clock_laws.specs.Column.{Column, column, enable_at}
use Rattle.pm_clock_laws.proofs.ColumnLemmas.{may_use_in, refused_alike, refused_by}

-- some of the clocks, with all their parents, selected or not, for which two trees are equal
pub record HaveSame (Among : ℕ → Type 0) (s t : Tree) : Type 0 where
  pub roots : (c : ℕ) → Among c → slice_get s.roots c ≡ slice_get t.roots c
  pub columns : (k : ℕ) (def : ClockDef) → slice_get clocks k ≡ Some def → Among def.number → column k s ≡ column k t
  pub parents : (k i p : ℕ) (def : ClockDef) → slice_get clocks k ≡ Some def → Among def.number
      → parent_at i def ≡ Some p → Among p

-- ---- who runs

abbrev pub is_set : NodeId × Option Bool → Bool
is_set e = unwrap_or e.1 false

enabled_alike : (k : ℕ) (s t : Tree) → column k s ≡ column k t → is_enabled k s.holders ≡ is_enabled k t.holders
enabled_alike k s t same =
    sym (any-map is_set (enable_at k) s.holders)
    ∙ ap (λ (it : Column). list_any is_set it.enables) same
    ∙ any-map is_set (enable_at k) t.holders

drives : (Among : ℕ → Type 0) (s t : Tree) → HaveSame Among s t → (c : ℕ) → Runs s c → Among c → Runs t c
drives Among s t same c (root number here) among = root number (sym (same.roots number among) ∙ here)
drives Among s t same c (driven k p def setting is_def is_setting enabled parent runs) among =
    driven k p def setting is_def
    (sym (ap (λ (it : Column). it.setting) (same.columns k def is_def among)) ∙ is_setting)
    (sym (enabled_alike k s t (same.columns k def is_def among)) ∙ enabled)
    parent
    (drives Among s t same p runs (same.parents k setting.index p def is_def among parent))

turned : (Among : ℕ → Type 0) (s t : Tree) → HaveSame Among s t → HaveSame Among t s
turned Among s t same = record {
  roots = λ c among. sym (same.roots c among);
  columns = λ k def here among. sym (same.columns k def here among);
  parents = same.parents;
}

both_ways : (a b : Bool) → (a ≡ true → b ≡ true) → (b ≡ true → a ≡ true) → a ≡ b
both_ways true b there back = sym (there refl)
both_ways false true there back = back refl
both_ways false false there back = refl

pub runs_alike : RunByTheirParents → (Among : ℕ → Type 0) (s t : Tree) → HasAllPlaces s → HasAllPlaces t → HaveSame Among s t
    → (c : ℕ) → Among c → runs c s ≡ runs c t
runs_alike law Among s t first second same c among =
    both_ways (runs c s) (runs c t)
    (λ is. (law t second c).1 (drives Among s t same c ((law s first c).0 is) among))
    (λ is. (law s first c).1 (drives Among t s (turned Among s t same) c ((law t second c).0 is) among))

-- ---- what was chosen

-- the clock at a place has its number
numbered_at : (number k : ℕ) → clock_place number ≡ Some k → (def : ClockDef) × (slice_get clocks k ≡ Some def) × (def.number ≡ number)
numbered_at number k place =
    let first = position-first (is_numbered number) clocks k place in
    (first.element, first.here, eqb-true first.element.number number first.passes)

setting_alike : (Among : ℕ → Type 0) (s t : Tree) → HaveSame Among s t → (c : ℕ) → Among c → setting_of c s ≡ setting_of c t
setting_alike Among s t same c among = by (clock_place c) refl
  where
    by : (place : Option ℕ) → clock_place c ≡ place
        → option_and_then (λ k. slice_get s.settings k) place ≡ option_and_then (λ k. slice_get t.settings k) place
    by None is = refl
    by (Some k) is =
        let at = numbered_at c k is in
        ap (λ (it : Column). it.setting) (same.columns k at.0 at.1 (subst Among (sym at.2) among))

pub dividers_alike : (Among : ℕ → Type 0) (s t : Tree) → HaveSame Among s t → (c : ℕ) → Among c → divider c s ≡ divider c t
dividers_alike Among s t same c among =
    ap (λ found. option_map_or (λ (setting : Setting). setting.divider) found 0) (setting_alike Among s t same c among)

pub indexes_alike : (Among : ℕ → Type 0) (s t : Tree) → HaveSame Among s t → (c : ℕ) → Among c → index c s ≡ index c t
indexes_alike Among s t same c among =
    ap (λ found. option_map_or (λ (setting : Setting). setting.index) found 0) (setting_alike Among s t same c among)

-- ---- answers

word_alike : RunByTheirParents → (Among : ℕ → Type 0) (s t : Tree) → HasAllPlaces s → HasAllPlaces t → HaveSame Among s t
    → (a : ClockAct) (c : ℕ) → Among c → word_by a c s ≡ word_by a c t
word_alike law Among s t first second same act.State c among =
    ap (λ on. if on then 1 else 0) (runs_alike law Among s t first second same c among)
word_alike law Among s t first second same act.Divider c among = dividers_alike Among s t same c among
word_alike law Among s t first second same act.Parent c among = indexes_alike Among s t same c among
word_alike law Among s t first second same act.Enable c among = refl
word_alike law Among s t first second same act.Disable c among = refl
word_alike law Among s t first second same (act.SetDivider divider) c among = refl
word_alike law Among s t first second same (act.SetParent index) c among = refl

-- a master may use the slave of this clock in both views or in neither
abbrev pub MayAlike : Seen → Seen → NodeId → ℕ → Type 0
MayAlike a b master c = (k : ℕ) (def : ClockDef) → slice_get clocks k ≡ Some def → def.number ≡ c → a.may_use master def.node ≡ b.may_use master def.node

refused_same : (Among : ℕ → Type 0) (s t : Tree) → HaveSame Among s t → (a b : Seen) (master : NodeId) (call : ClockCall) → MayAlike a b master call.clock
    → Among call.clock → refused a master call s ≡ refused b master call t
refused_same Among s t same a b master call permit among = by (clock_place call.clock) refl
  where
    none : (tree : Tree) → clock_place call.clock ≡ None → rival master call tree ≡ (if is_setting call.act then None else None)
    none tree is = ap (λ place. if is_setting call.act then rival_at master place tree.holders else None) is

    no_may : (seen : Seen) → clock_place call.clock ≡ None → may_change seen master call ≡ (not (is_change call.act) || false)
    no_may seen is = ap (λ found. not (is_change call.act) || may_use_in seen master found) (find-None (is_numbered call.clock) clocks is)

    by : (place : Option ℕ) → clock_place call.clock ≡ place → refused a master call s ≡ refused b master call t
    by None is =
        ap (λ may. refused_by (is_missing call) (is_in_range call) may (rival master call s)) (no_may a is ∙ sym (no_may b is))
        ∙ ap (refused_by (is_missing call) (is_in_range call) (may_change b master call)) (none s is ∙ sym (none t is))
    by (Some k) is =
        let at = numbered_at call.clock k is in
        refused_alike k at.0 a b master call s t at.1 (permit k at.0 at.1 at.2) is (same.columns k at.0 at.1 (subst Among (sym at.2) among))

pub responses_alike : RunByTheirParents → (Among : ℕ → Type 0) (s t : Tree) → HasAllPlaces s → HasAllPlaces t → HaveSame Among s t
    → (a b : Seen) (master : NodeId) (call : ClockCall) → MayAlike a b master call.clock → Among call.clock
    → response a master call s ≡ response b master call t
responses_alike law Among s t first second same a b master call permit among =
    ap (λ found. unwrap_or found (success (told_word call s ∷ 0 ∷ 0 ∷ []))) (refused_same Among s t same a b master call permit among)
    ∙ ap (λ word. unwrap_or (refused b master call t) (success (word ∷ 0 ∷ 0 ∷ [])))
    (word_alike law Among s t first second same call.act call.clock among)

-- ---- what is told

-- the change of a clock, by whether it runs before and after
abbrev pub change_by : ℕ → Bool → Bool → Option ClockChange
change_by number from to = if is_some (clock_place number) && not (is_same from to) then Some (change number from to) else None

pub changes_alike : (c : ℕ) (s t after_s after_t : Tree) → runs c s ≡ runs c t → runs c after_s ≡ runs c after_t
    → change_at c (record { tree = after_s; told = running s }) ≡ change_at c (record { tree = after_t; told = running t })
changes_alike c s t after_s after_t before after =
    ap (λ from. change_by c from (runs c after_s)) before ∙ ap (change_by c (runs c t)) after

abbrev pub end_by : ℕ → Bool → ℕ → ℕ → Option ClockEnd
end_by number on divider index =
    if is_some (clock_place number) && on then Some (record { clock = number; divider = divider; index = index }) else None

pub ends_alike : RunByTheirParents → (Among : ℕ → Type 0) (s t : Tree) → HasAllPlaces s → HasAllPlaces t → HaveSame Among s t
    → (c : ℕ) → Among c → end_at c s ≡ end_at c t
ends_alike law Among s t first second same c among =
    ap (λ on. end_by c on (divider c s) (index c s)) (runs_alike law Among s t first second same c among)
    ∙ ap (λ d. end_by c (runs c t) d (index c s)) (dividers_alike Among s t same c among)
    ∙ ap (end_by c (runs c t) (divider c t)) (indexes_alike Among s t same c among)
