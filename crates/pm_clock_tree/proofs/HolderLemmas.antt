-- What a master enables, clock by clock.
use Rattle.std.proofs.Common.{◌≡◌, ℕ, ◌+◌, ◌<◌, Bool, true, false, ◌&&◌, ◌||◌, List, [], ◌∷◌, ◌++◌, length, map, get_or, set, take, drop, refl, ap, ◌∙◌, sym, append_assoc, arith}
use Rattle.std.specs.Prelude.{if◌then◌else◌, replicate}
use Rattle.std.proofs.lemmas.List.{drop-set-lt, set-get_or, take_more_set}
use Rattle.pm_base.proofs.Booleans.{neither}
use Rattle.std.specs.List.{list_any}
use Rattle.pm_base.specs.declared.names.NodeId.{NodeId}
use Rattle.pm_clock_tree.specs.declared.table.ClockDef.{ClockDef}
use Rattle.pm_clock_tree.specs.Followed.{emptied, permitted, reviewed, settled_holder}
use Rattle.pm_clock_tree.specs.Table.{clocks}
use Rattle.pm_clock_tree.specs.Tree.{Holder, Seen, idle_holder}

-- enables of which there is none are all false
pub all_false : (enables : List Bool) → list_any (λ on. on) enables ≡ false → replicate (length enables) false ≡ enables
all_false [] none = refl
all_false (false ∷ enables) none = ap (λ rest. false ∷ rest) (all_false enables none)
all_false (true ∷ enables) none = cc

-- nothing is taken from them
pub none_permitted : (seen : Seen) (master : NodeId) (defs : List ClockDef) (enables : List Bool)
    → list_any (λ on. on) enables ≡ false → permitted seen master defs enables ≡ enables
none_permitted seen master [] enables none = refl
none_permitted seen master (def ∷ defs) [] none = refl
none_permitted seen master (def ∷ defs) (false ∷ enables) none =
    ap (λ rest. false ∷ rest) (none_permitted seen master defs enables none)
none_permitted seen master (def ∷ defs) (true ∷ enables) none = cc

-- so a master that enables nothing is settled
pub idle_settled : (seen : Seen) (holder : Holder) → list_any (λ on. on) holder.enables ≡ false → holder ≡ settled_holder seen holder
idle_settled seen holder none = by_mode (seen.is_off holder.node)
  where
    by_mode : (off : Bool) → holder ≡ (if off then emptied holder else reviewed seen holder)
    by_mode true = ap (λ enables. record holder { enables = enables }) (sym (all_false holder.enables none))
    by_mode false = ap (λ enables. record holder { enables = enables }) (sym (none_permitted seen holder.node clocks holder.enables none))

-- ---- loops

-- one turn of the review: what stays before the cursor and after it is what stays of all
pub review_step : (seen : Seen) (master : NodeId) (defs : List ClockDef) (enables all : List Bool) (k : ℕ) (def : ClockDef) (on stays : Bool)
    → k < length enables
    → drop k defs ≡ def ∷ drop (k + 1) defs
    → drop k enables ≡ on ∷ drop (k + 1) enables
    → stays ≡ (on && seen.may_use master def.node)
    → take k enables ++ permitted seen master (drop k defs) (drop k enables) ≡ all
    → take (k + 1) (set enables k stays) ++ permitted seen master (drop (k + 1) defs) (drop (k + 1) (set enables k stays)) ≡ all
review_step seen master defs enables all k def on stays within split_defs split_enables is so_far =
    let here = rw (split_defs, split_enables) at so_far in
    rw (
      take_more_set enables k stays within,
      drop-set-lt (k + 1) enables k stays (omega arith),
      append_assoc (take k enables) (stays ∷ []) (permitted seen master (drop (k + 1) defs) (drop (k + 1) enables)),
      is,
    ) here

-- one turn of the settling: where neither this master nor an earlier one may have changed, all are as they were
pub same_step : (holders all : List Holder) (k : ℕ) (new : Holder) (changed one : Bool)
    → (changed ≡ false → holders ≡ all) → (one ≡ false → new ≡ get_or holders k new)
    → (changed || one) ≡ false → set holders k new ≡ all
same_step holders all k new changed one same kept none =
    let parts = neither changed one none in
    ap (λ it. set holders k it) (kept parts.1) ∙ set-get_or holders k new ∙ same parts.0

-- so where no master enables anything, all are settled
pub all_settled : (seen : Seen) (holders : List Holder)
    → list_any (λ (holder : Holder). list_any (λ on. on) holder.enables) holders ≡ false
    → holders ≡ map (settled_holder seen) holders
all_settled seen [] none = refl
all_settled seen (holder ∷ holders) none =
    let parts = neither (list_any (λ on. on) holder.enables) (list_any (λ (holder : Holder). list_any (λ on. on) holder.enables) holders) none in
    ap (λ rest. holder ∷ rest) (all_settled seen holders parts.1)
    ∙ ap (λ one. one ∷ map (settled_holder seen) holders) (idle_settled seen holder parts.0)

-- at load no master enables anything
pub idle_enables : (masters : List NodeId)
    → list_any (λ (holder : Holder). list_any (λ on. on) holder.enables) (map idle_holder masters) ≡ false
idle_enables [] = refl
idle_enables (master ∷ masters) = idle_enables masters
