-- Clocks stand over the book at load and after each step.
use Rattle.std.proofs.Common.{◌≡◌, ℕ, Bool, Option, Some, None, true, false, ◌&&◌, List, [], ◌∷◌, length, map, refl, ap, ◌∙◌, sym, subst}
use Rattle.std.specs.Prelude.{if◌then◌else◌, is_some, replicate}
use Rattle.pm_base.specs.declared.names.NodeId.{NodeId}
use Rattle.pm_clock_tree.specs.declared.calls.ClockAct.{ClockAct}
use Rattle.pm_clock_tree.specs.declared.calls.ClockAct.TheVariants as act
use Rattle.pm_clock_tree.specs.declared.calls.ClockCall.{ClockCall}
use Rattle.pm_clock_tree.specs.declared.table.ClockDef.{ClockDef}
use Rattle.pm_clock_tree.specs.Followed.{ArePermitted, PermitAlike, Stands, emptied, followed, permitted, reviewed, settled_holder}
use Rattle.pm_clock_tree.specs.Served.{changed, changed_at, refused, served}
use Rattle.pm_clock_tree.specs.Table.{clock_place, clocks}
use Rattle.pm_clock_tree.specs.Tree.{Holder, Seen, Tree, idle_holder, loaded, roots_seen}
use Rattle.pm_clock_tree.proofs.HolderLemmas.{idle_settled}
use Rattle.pm_clock_tree.proofs.PermittedLemmas.{followed_permitted, holder_twice}

-- a tree that is settled and rooted, by its holders
abbrev pub tree_of : Seen → Tree → List Holder → Tree
tree_of seen tree holders = record { holders = holders; settings = tree.settings; roots = roots_seen seen }

-- ---- at load

idle_stand : (seen : Seen) (masters : List NodeId) → map (settled_holder seen) (map idle_holder masters) ≡ map idle_holder masters
idle_stand seen [] = refl
idle_stand seen (master ∷ masters) =
    ap (λ holder. holder ∷ map (settled_holder seen) (map idle_holder masters)) (sym (idle_settled seen (idle_holder master) refl))
    ∙ ap (λ holders. idle_holder master ∷ holders) (idle_stand seen masters)

pub loaded_stands : (masters : List NodeId) (seen : Seen) → Stands seen (loaded masters seen)
loaded_stands masters seen = ap (tree_of seen (loaded masters seen)) (idle_stand seen masters)

-- ---- after a step

none_again : (enables : List Bool) → replicate (length (replicate (length enables) false)) false ≡ replicate (length enables) false
none_again [] = refl
none_again (on ∷ enables) = ap (λ rest. false ∷ rest) (none_again enables)

-- a master that was settled is settled
settled_twice : (seen : Seen) (holder : Holder) → settled_holder seen (settled_holder seen holder) ≡ settled_holder seen holder
settled_twice seen holder = by_mode (seen.is_off holder.node) refl
  where
    make : List Bool → Holder
    make enables = record { node = holder.node; enables = enables }

    -- of the holder that is settled, by whether its master is off
    Twice : Bool → Holder → Type 0
    Twice off one = (if off then emptied one else reviewed seen one) ≡ one

    by_mode : (off : Bool) → seen.is_off holder.node ≡ off
        → settled_holder seen (if off then emptied holder else reviewed seen holder) ≡ (if off then emptied holder else reviewed seen holder)
    by_mode true is =
        subst (λ off. Twice off (emptied holder)) (sym is) (ap make (none_again holder.enables))
    by_mode false is =
        subst (λ off. Twice off (reviewed seen holder)) (sym is)
        (subst (λ off. reviewed seen (if off then emptied holder else reviewed seen holder) ≡ (if off then emptied holder else reviewed seen holder)) is
        (holder_twice seen holder))

holders_twice : (seen : Seen) (holders : List Holder)
    → map (settled_holder seen) (map (settled_holder seen) holders) ≡ map (settled_holder seen) holders
holders_twice seen [] = refl
holders_twice seen (holder ∷ holders) =
    ap (λ one. one ∷ map (settled_holder seen) (map (settled_holder seen) holders)) (settled_twice seen holder)
    ∙ ap (λ rest. settled_holder seen holder ∷ rest) (holders_twice seen holders)

pub followed_stands : (seen : Seen) (tree : Tree) → Stands seen (followed seen tree)
followed_stands seen tree = ap (tree_of seen tree) (holders_twice seen tree.holders)

-- ---- permissions

pub stands_permitted : (seen : Seen) (tree : Tree) → Stands seen tree → ArePermitted seen tree
stands_permitted seen tree stands = subst (λ it. ArePermitted seen it) stands (followed_permitted seen tree)

alike_enables : (a b : Seen) (master : NodeId) (defs : List ClockDef) (enables : List Bool) → PermitAlike a b
    → permitted a master defs enables ≡ permitted b master defs enables
alike_enables a b master [] enables alike = refl
alike_enables a b master (def ∷ defs) [] alike = refl
alike_enables a b master (def ∷ defs) (on ∷ enables) alike =
    ap (λ may. (on && may) ∷ permitted a master defs enables) (alike master def.node)
    ∙ ap (λ rest. (on && b.may_use master def.node) ∷ rest) (alike_enables a b master defs enables alike)

alike_holder : (a b : Seen) (holder : Holder) → PermitAlike a b → reviewed a holder ≡ holder → reviewed b holder ≡ holder
alike_holder a b holder alike is =
    ap (λ enables. record holder { enables = enables }) (sym (alike_enables a b holder.node clocks holder.enables alike)) ∙ is

pub kept_permitted : (before after : Seen) (tree : Tree) → PermitAlike before after → ArePermitted before tree → ArePermitted after tree
kept_permitted before after tree alike all = λ place d within. alike_holder before after _ alike (all place d within)

-- ---- roots

changed_roots : (master : NodeId) (a : ClockAct) (k : ℕ) (tree : Tree) → (changed master a k tree).roots ≡ tree.roots
changed_roots master act.Enable k tree = refl
changed_roots master act.Disable k tree = refl
changed_roots master act.State k tree = refl
changed_roots master (act.SetDivider divider) k tree = refl
changed_roots master act.Divider k tree = refl
changed_roots master (act.SetParent index) k tree = refl
changed_roots master act.Parent k tree = refl

changed_at_roots : (master : NodeId) (a : ClockAct) (place : Option ℕ) (tree : Tree) → (changed_at master a place tree).roots ≡ tree.roots
changed_at_roots master a None tree = refl
changed_at_roots master a (Some k) tree = changed_roots master a k tree

kept_roots : (refused : Bool) (tree new : Tree) → new.roots ≡ tree.roots → (if refused then tree else new).roots ≡ tree.roots
kept_roots true tree new is = refl
kept_roots false tree new is = is

pub served_roots : (seen : Seen) (master : NodeId) (call : ClockCall) (tree : Tree) → (served seen master call tree).roots ≡ tree.roots
served_roots seen master call tree =
    kept_roots (is_some (refused seen master call tree)) tree (changed_at master call.act (clock_place call.clock) tree)
    (changed_at_roots master call.act (clock_place call.clock) tree)
