-- Each master may use the slaves of the clocks that it enables: so it stays by calls, and so it is after each step.
use Rattle.std.proofs.Common.{◌≡◌, ℕ, zero, suc, Bool, true, false, ◌&&◌, ◌||◌, ◌==◌, List, [], ◌∷◌, length, map, Some, None, Option, refl, ap, ◌∙◌, sym, subst, arith}
use Rattle.std.specs.Prelude.{if◌then◌else◌, is_some, not, replicate, slice_get, slice_set}
use Rattle.std.specs.List.{list_any}
use Rattle.std.specs.Option.{option_map_or}
use Rattle.std.proofs.lemmas.Bool.Decides.{nat_tests}
use Rattle.std.proofs.lemmas.List.Elements.{All-nil, All-cons}
use Rattle.pm_base.proofs.ListLemmas.{find-Some}
use Rattle.pm_base.specs.declared.names.NodeId.{NodeId}
use Rattle.pm_ipi.specs.declared.responses.Response.{Response}
use Rattle.pm_clock_tree.specs.declared.calls.ClockAct.{ClockAct}
use Rattle.pm_clock_tree.specs.declared.calls.ClockAct.TheVariants as act
use Rattle.pm_clock_tree.specs.declared.calls.ClockCall.{ClockCall}
use Rattle.pm_clock_tree.specs.declared.table.ClockDef.{ClockDef}
use Rattle.pm_clock_tree.specs.Calls.{is_change}
use Rattle.pm_clock_tree.specs.Followed.{AreHoldersPermitted, ArePermitted, emptied, followed, permitted, reviewed, settled_holder}
use Rattle.pm_clock_tree.specs.Served.{changed, changed_at, is_in_range, is_missing, may_change, refused, served, with_enable}
use Rattle.pm_clock_tree.specs.Table.{clock_place, clocks, def_of, is_numbered}
use Rattle.pm_clock_tree.specs.Tree.{Holder, Seen, Tree}
use Rattle.pm_clock_tree.proofs.HolderLemmas.{none_permitted}

-- ---- after a step

two_equal : (a b : Bool) (xs ys : List Bool) → a ≡ b → xs ≡ ys → (a ∷ xs) ≡ (b ∷ ys)
two_equal a b xs ys first rest = ap (λ x. x ∷ xs) first ∙ ap (λ zs. b ∷ zs) rest

and_twice : (a b : Bool) → ((a && b) && b) ≡ (a && b)
and_twice false b = refl
and_twice true true = refl
and_twice true false = refl

twice : (seen : Seen) (master : NodeId) (defs : List ClockDef) (enables : List Bool)
    → permitted seen master defs (permitted seen master defs enables) ≡ permitted seen master defs enables
twice seen master [] enables = refl
twice seen master (def ∷ defs) [] = refl
twice seen master (def ∷ defs) (on ∷ enables) =
    two_equal _ _ _ _ (and_twice on (seen.may_use master def.node)) (twice seen master defs enables)

none_in : (enables : List Bool) → list_any (λ on. on) (replicate (length enables) false) ≡ false
none_in [] = refl
none_in (on ∷ enables) = none_in enables

pub holder_twice : (seen : Seen) (holder : Holder) → reviewed seen (settled_holder seen holder) ≡ settled_holder seen holder
holder_twice seen holder = by_mode (seen.is_off holder.node)
  where
    make : List Bool → Holder
    make enables = record { node = holder.node; enables = enables }

    by_mode : (off : Bool) → reviewed seen (if off then emptied holder else reviewed seen holder) ≡ (if off then emptied holder else reviewed seen holder)
    by_mode true = ap make (none_permitted seen holder.node clocks (replicate (length holder.enables) false) (none_in holder.enables))
    by_mode false = ap make (twice seen holder.node clocks holder.enables)

settled_permitted : (seen : Seen) (holders : List Holder) → AreHoldersPermitted seen (map (settled_holder seen) holders)
settled_permitted seen [] = All-nil (λ holder. reviewed seen holder ≡ holder)
settled_permitted seen (holder ∷ holders) =
    All-cons (λ holder. reviewed seen holder ≡ holder) (settled_holder seen holder) (map (settled_holder seen) holders)
    (holder_twice seen holder) (settled_permitted seen holders)

pub followed_permitted : (seen : Seen) (tree : Tree) → ArePermitted seen (followed seen tree)
followed_permitted seen tree = settled_permitted seen tree.holders

-- ---- after a call

abbrev pub first_of : List Bool → Bool
first_of [] = false
first_of (on ∷ enables) = on

abbrev pub rest_of : List Bool → List Bool
rest_of [] = []
rest_of (on ∷ enables) = enables

kept_one : (on may : Bool) → (on ≡ true → may ≡ true) → (on && may) ≡ on
kept_one false may gives = refl
kept_one true may gives = gives refl

set_permitted : (seen : Seen) (master : NodeId) (defs : List ClockDef) (enables : List Bool) (k : ℕ) (on : Bool)
    → (on ≡ true → (def : ClockDef) → slice_get defs k ≡ Some def → seen.may_use master def.node ≡ true)
    → permitted seen master defs enables ≡ enables
    → permitted seen master defs (slice_set enables k on) ≡ slice_set enables k on
set_permitted seen master [] enables k on gives all = refl
set_permitted seen master (def ∷ defs) [] k on gives all = refl
set_permitted seen master (def ∷ defs) (old ∷ enables) zero on gives all =
    two_equal (on && seen.may_use master def.node) on (permitted seen master defs enables) enables
    (kept_one on (seen.may_use master def.node) (λ yes. gives yes def refl)) (ap rest_of all)
set_permitted seen master (def ∷ defs) (old ∷ enables) (suc k) on gives all =
    two_equal (old && seen.may_use master def.node) old (permitted seen master defs (slice_set enables k on)) (slice_set enables k on)
    (ap first_of all) (set_permitted seen master defs enables k on gives (ap rest_of all))

enable_permitted : (seen : Seen) (master : NodeId) (k : ℕ) (on : Bool)
    → (on ≡ true → (def : ClockDef) → slice_get clocks k ≡ Some def → seen.may_use master def.node ≡ true)
    → (holder : Holder) → reviewed seen holder ≡ holder
    → reviewed seen (with_enable master k on holder) ≡ with_enable master k on holder
enable_permitted seen master k on gives holder all = by_node (holder.node.0 == master.0) refl
  where
    make : List Bool → Holder
    make enables = record { node = holder.node; enables = enables }

    as_node : ℕ → NodeId
    as_node number = record { 0 = number }

    by_node : (same : Bool) → (holder.node.0 == master.0) ≡ same
        → reviewed seen (if same then record holder { enables = slice_set holder.enables k on } else holder)
        ≡ (if same then record holder { enables = slice_set holder.enables k on } else holder)
    by_node false is = all
    by_node true is =
        let number : master.0 ≡ holder.node.0 = grind (arith, nat_tests) in
        ap make (set_permitted seen holder.node clocks holder.enables k on
        (λ yes def here. subst (λ node. seen.may_use node def.node ≡ true) (ap as_node number) (gives yes def here))
        (ap (λ (it : Holder). it.enables) all))

enables_permitted : (seen : Seen) (master : NodeId) (k : ℕ) (on : Bool)
    → (on ≡ true → (def : ClockDef) → slice_get clocks k ≡ Some def → seen.may_use master def.node ≡ true)
    → (holders : List Holder) → AreHoldersPermitted seen holders
    → AreHoldersPermitted seen (map (with_enable master k on) holders)
enables_permitted seen master k on gives [] all = All-nil (λ holder. reviewed seen holder ≡ holder)
enables_permitted seen master k on gives (holder ∷ holders) all =
    All-cons (λ holder. reviewed seen holder ≡ holder) (with_enable master k on holder) (map (with_enable master k on) holders)
    (enable_permitted seen master k on gives holder (all zero holder (omega arith)))
    (enables_permitted seen master k on gives holders (λ place d within. all (suc place) d (omega (arith, within))))

no_none : {X : Type 0} (x : X) → Some x ≡ None → ⊥
no_none x e = cc

no_yes : false ≡ true → ⊥
no_yes e = cc

-- a call that isn't refused passed the check of its permission
accepted : (missing within may : Bool) (a b c : Response) (last : Option Response)
    → (if missing then Some a else if not within then Some b else if not may then Some c else last) ≡ None → may ≡ true
accepted true within may a b c last is = absurd (no_none a is)
accepted false false may a b c last is = absurd (no_none b is)
accepted false true false a b c last is = absurd (no_none c is)
accepted false true true a b c last is = refl

abbrev pub may_use_in : Seen → NodeId → Option ClockDef → Bool
may_use_in seen master found = option_map_or (λ (def : ClockDef). seen.may_use master def.node) found false

pub served_permitted : (seen : Seen) (master : NodeId) (call : ClockCall) (tree : Tree)
    → ArePermitted seen tree → ArePermitted seen (served seen master call tree)
served_permitted seen master call tree all = by_refusal (refused seen master call tree) refl
  where
    allowed : refused seen master call tree ≡ None → may_change seen master call ≡ true
    allowed is = accepted (is_missing call) (is_in_range call) (may_change seen master call) _ _ _ _ is

    gives : (k : ℕ) → refused seen master call tree ≡ None → clock_place call.clock ≡ Some k → call.act ≡ act.Enable
        → (def : ClockDef) → slice_get clocks k ≡ Some def → seen.may_use master def.node ≡ true
    gives k is place enable def here =
        sym (ap (may_use_in seen master) (find-Some (is_numbered call.clock) clocks k place ∙ here))
        ∙ sym (ap (λ (a : ClockAct). not (is_change a) || may_use_in seen master (def_of call.clock)) enable)
        ∙ allowed is

    by_act : (k : ℕ) → refused seen master call tree ≡ None → clock_place call.clock ≡ Some k
        → (a : ClockAct) → call.act ≡ a → ArePermitted seen (changed master a k tree)
    by_act k is place act.Enable enable =
        enables_permitted seen master k true (λ yes def here. gives k is place enable def here) tree.holders all
    by_act k is place act.Disable disable =
        enables_permitted seen master k false (λ yes def here. absurd (no_yes yes)) tree.holders all
    by_act k is place act.State other = all
    by_act k is place (act.SetDivider divider) other = all
    by_act k is place act.Divider other = all
    by_act k is place (act.SetParent index) other = all
    by_act k is place act.Parent other = all

    by_place : refused seen master call tree ≡ None → (p : Option ℕ) → clock_place call.clock ≡ p
        → ArePermitted seen (changed_at master call.act p tree)
    by_place is None place = all
    by_place is (Some k) place = by_act k is place call.act refl

    by_refusal : (r : Option Response) → refused seen master call tree ≡ r
        → ArePermitted seen (if is_some r then tree else changed_at master call.act (clock_place call.clock) tree)
    by_refusal (Some r) is = all
    by_refusal None is = by_place is (clock_place call.clock) refl
