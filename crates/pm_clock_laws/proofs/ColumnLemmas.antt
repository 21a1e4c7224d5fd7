-- The column of one clock after a step, and after a call.
use Rattle.std.proofs.Common.{◌≡◌, ℕ, zero, suc, Bool, true, false, ◌&&◌, ◌||◌, ◌==◌, List, [], ◌∷◌, length, map, Some, None, Option, refl, ap, ◌∙◌, sym}
use Rattle.std.specs.Prelude.{find, if◌then◌else◌, is_some, not, replicate, slice_get, slice_set, unwrap_or}
use Rattle.std.specs.Option.{option_map, option_map_or}
use Rattle.std.proofs.lemmas.Bool.{eqb-true}
use Rattle.pm_base.proofs.Booleans.{equal}
use Rattle.pm_base.proofs.ListLemmas.{find-Some}
use Rattle.pm_base.specs.declared.names.NodeId.{NodeId}
use Rattle.pm_ipi.specs.declared.responses.Response.{Response}
use Rattle.pm_ipi.specs.Responses.{refusal, used_by}
use Rattle.pm_ipi.specs.Status.{invalid_node, invalid_parameter, no_access}
use Rattle.pm_clock_tree.specs.declared.calls.ClockAct.{ClockAct}
use Rattle.pm_clock_tree.specs.declared.calls.ClockAct.TheVariants as act
use Rattle.pm_clock_tree.specs.declared.calls.ClockCall.{ClockCall}
use Rattle.pm_clock_tree.specs.declared.table.ClockDef.{ClockDef}
use Rattle.pm_clock_tree.specs.declared.tree.Setting.{Setting}
use Rattle.pm_clock_tree.specs.Calls.{is_change, is_setting}
use Rattle.pm_clock_tree.specs.Followed.{emptied, followed, permitted, reviewed, settled_holder}
use Rattle.pm_clock_tree.specs.Served.{changed, changed_at, is_in_range, is_missing, is_rival, may_change, refused, rival, rival_at, served, with_divider, with_enable, with_index, with_setting}
use Rattle.pm_clock_tree.specs.Table.{clock_place, clocks, def_of, is_numbered}
use Rattle.pm_clock_tree.specs.Tree.{Holder, Seen, Tree}
use Rattle.pm_clock_laws.specs.Column.{Column, column, enable_at, stays}

-- ---- lists

no_some : {X : Type 0} (x : X) → None ≡ Some x → ⊥
no_some x e = cc

some_same : {X : Type 0} (a b : X) → Some a ≡ Some b → a ≡ b
some_same a b same = ap (λ found. unwrap_or found a) same

clash : true ≡ false → ⊥
clash e = cc

set_here : {X : Type 0} (xs : List X) (k : ℕ) (x : X) → slice_get (slice_set xs k x) k ≡ option_map (λ old. x) (slice_get xs k)
set_here [] k x = refl
set_here (y ∷ xs) zero x = refl
set_here (y ∷ xs) (suc k) x = set_here xs k x

set_elsewhere : {X : Type 0} (xs : List X) (j k : ℕ) (x : X) → (j ≡ k → ⊥) → slice_get (slice_set xs j x) k ≡ slice_get xs k
set_elsewhere [] j k x apart = refl
set_elsewhere (y ∷ xs) zero zero x apart = absurd (apart refl)
set_elsewhere (y ∷ xs) zero (suc k) x apart = refl
set_elsewhere (y ∷ xs) (suc j) zero x apart = refl
set_elsewhere (y ∷ xs) (suc j) (suc k) x apart = set_elsewhere xs j k x (λ same. apart (ap suc same))

-- ---- a step

abbrev pub settled_enable : Seen → ClockDef → NodeId × Option Bool → NodeId × Option Bool
settled_enable seen def e = (e.0, option_map (λ on. on && stays seen def e.0) e.1)

permitted_at : (seen : Seen) (n : NodeId) (defs : List ClockDef) (enables : List Bool) (k : ℕ) (def : ClockDef) → slice_get defs k ≡ Some def
    → slice_get (permitted seen n defs enables) k ≡ option_map (λ on. on && seen.may_use n def.node) (slice_get enables k)
permitted_at seen n [] enables k def here = absurd (no_some def here)
permitted_at seen n (d ∷ defs) [] k def here = refl
permitted_at seen n (d ∷ defs) (on ∷ enables) zero def here =
    ap (λ (x : ClockDef). Some (on && seen.may_use n x.node)) (some_same d def here)
permitted_at seen n (d ∷ defs) (on ∷ enables) (suc k) def here = permitted_at seen n defs enables k def here

and_false : (on : Bool) → false ≡ (on && false)
and_false true = refl
and_false false = refl

emptied_at : (enables : List Bool) (k : ℕ) → slice_get (replicate (length enables) false) k ≡ option_map (λ on. on && false) (slice_get enables k)
emptied_at [] k = refl
emptied_at (on ∷ enables) zero = ap (λ b. Some b) (and_false on)
emptied_at (on ∷ enables) (suc k) = emptied_at enables k

settled_at : (k : ℕ) (def : ClockDef) (seen : Seen) (holder : Holder) → slice_get clocks k ≡ Some def
    → enable_at k (settled_holder seen holder) ≡ settled_enable seen def (enable_at k holder)
settled_at k def seen holder here = by (seen.is_off holder.node)
  where
    with_node : Option Bool → NodeId × Option Bool
    with_node e = (holder.node, e)

    by : (off : Bool) → enable_at k (if off then emptied holder else reviewed seen holder)
        ≡ (holder.node, option_map (λ on. on && (not off && seen.may_use holder.node def.node)) (slice_get holder.enables k))
    by true = ap with_node (emptied_at holder.enables k)
    by false = ap with_node (permitted_at seen holder.node clocks holder.enables k def here)

settled_all : (k : ℕ) (def : ClockDef) (seen : Seen) (holders : List Holder) → slice_get clocks k ≡ Some def
    → map (enable_at k) (map (settled_holder seen) holders) ≡ map (settled_enable seen def) (map (enable_at k) holders)
settled_all k def seen [] here = refl
settled_all k def seen (holder ∷ holders) here =
    ap (λ e. e ∷ map (enable_at k) (map (settled_holder seen) holders)) (settled_at k def seen holder here)
    ∙ ap (λ es. settled_enable seen def (enable_at k holder) ∷ es) (settled_all k def seen holders here)

alike_enables : (def : ClockDef) (a b : Seen) (es : List (NodeId × Option Bool)) → ((master : NodeId) → stays a def master ≡ stays b def master)
    → map (settled_enable a def) es ≡ map (settled_enable b def) es
alike_enables def a b [] alike = refl
alike_enables def a b (e ∷ es) alike =
    ap (λ kept. (e.0, option_map (λ on. on && kept) e.1) ∷ map (settled_enable a def) es) (alike e.0)
    ∙ ap (λ rest. settled_enable b def e ∷ rest) (alike_enables def a b es alike)

abbrev pub settled_column : Seen → ClockDef → Column → Column
settled_column seen def it = record { enables = map (settled_enable seen def) it.enables; setting = it.setting }

followed_column : (k : ℕ) (def : ClockDef) (seen : Seen) (tree : Tree) → slice_get clocks k ≡ Some def
    → column k (followed seen tree) ≡ settled_column seen def (column k tree)
followed_column k def seen tree here =
    ap (λ es. record { enables = es; setting = slice_get tree.settings k }) (settled_all k def seen tree.holders here)

pub followed_alike : (k : ℕ) (def : ClockDef) (a b : Seen) (s t : Tree) → slice_get clocks k ≡ Some def
    → ((master : NodeId) → stays a def master ≡ stays b def master)
    → column k s ≡ column k t → column k (followed a s) ≡ column k (followed b t)
followed_alike k def a b s t here alike same =
    followed_column k def a s here
    ∙ ap (settled_column a def) same
    ∙ ap (λ es. record { enables = es; setting = slice_get t.settings k }) (alike_enables def a b (map (enable_at k) t.holders) alike)
    ∙ sym (followed_column k def b t here)

-- ---- what a call does

abbrev pub put_enable : NodeId → Bool → NodeId × Option Bool → NodeId × Option Bool
put_enable master on e = if e.0.0 == master.0 then (e.0, option_map (λ old. on) e.1) else e

put_at : (master : NodeId) (k : ℕ) (on : Bool) (holder : Holder) → enable_at k (with_enable master k on holder) ≡ put_enable master on (enable_at k holder)
put_at master k on holder = by (holder.node.0 == master.0)
  where
    with_node : Option Bool → NodeId × Option Bool
    with_node e = (holder.node, e)

    by : (own : Bool) → enable_at k (if own then record holder { enables = slice_set holder.enables k on } else holder)
        ≡ (if own then (holder.node, option_map (λ old. on) (slice_get holder.enables k)) else enable_at k holder)
    by true = ap with_node (set_here holder.enables k on)
    by false = refl

put_all : (master : NodeId) (k : ℕ) (on : Bool) (holders : List Holder)
    → map (enable_at k) (map (with_enable master k on) holders) ≡ map (put_enable master on) (map (enable_at k) holders)
put_all master k on [] = refl
put_all master k on (holder ∷ holders) =
    ap (λ e. e ∷ map (enable_at k) (map (with_enable master k on) holders)) (put_at master k on holder)
    ∙ ap (λ es. put_enable master on (enable_at k holder) ∷ es) (put_all master k on holders)

put_elsewhere : (master : NodeId) (j k : ℕ) (on : Bool) (holders : List Holder) → (j ≡ k → ⊥)
    → map (enable_at k) (map (with_enable master j on) holders) ≡ map (enable_at k) holders
put_elsewhere master j k on [] apart = refl
put_elsewhere master j k on (holder ∷ holders) apart =
    ap (λ e. e ∷ map (enable_at k) (map (with_enable master j on) holders)) (by (holder.node.0 == master.0))
    ∙ ap (λ es. enable_at k holder ∷ es) (put_elsewhere master j k on holders apart)
  where
    by : (own : Bool) → enable_at k (if own then record holder { enables = slice_set holder.enables j on } else holder) ≡ enable_at k holder
    by true = ap (λ e. (holder.node, e)) (set_elsewhere holder.enables j k on apart)
    by false = refl

setting_here : (change : Setting → Setting) (k : ℕ) (settings : List Setting)
    → slice_get (with_setting change k settings) k ≡ option_map change (slice_get settings k)
setting_here change k settings = by (slice_get settings k) refl
  where
    by : (found : Option Setting) → slice_get settings k ≡ found
        → slice_get (option_map_or (λ setting. slice_set settings k (change setting)) found settings) k ≡ option_map change found
    by None is = is
    by (Some setting) is = set_here settings k (change setting) ∙ ap (option_map (λ old. change setting)) is

setting_elsewhere : (change : Setting → Setting) (j k : ℕ) (settings : List Setting) → (j ≡ k → ⊥)
    → slice_get (with_setting change j settings) k ≡ slice_get settings k
setting_elsewhere change j k settings apart = by (slice_get settings j)
  where
    by : (found : Option Setting)
        → slice_get (option_map_or (λ setting. slice_set settings j (change setting)) found settings) k ≡ slice_get settings k
    by None = refl
    by (Some setting) = set_elsewhere settings j k (change setting) apart

abbrev pub with_enables : (NodeId × Option Bool → NodeId × Option Bool) → Column → Column
with_enables change it = record { enables = map change it.enables; setting = it.setting }

abbrev pub with_chosen : (Setting → Setting) → Column → Column
with_chosen change it = record { enables = it.enables; setting = option_map change it.setting }

-- the column of the clock after a master's act
abbrev pub changed_column : NodeId → ClockAct → Column → Column
changed_column master act.Enable it = with_enables (put_enable master true) it
changed_column master act.Disable it = with_enables (put_enable master false) it
changed_column master (act.SetDivider divider) it = with_chosen (with_divider divider) it
changed_column master (act.SetParent index) it = with_chosen (with_index index) it
changed_column master a it = it

changed_here : (k : ℕ) (master : NodeId) (a : ClockAct) (tree : Tree) → column k (changed master a k tree) ≡ changed_column master a (column k tree)
changed_here k master act.Enable tree =
    ap (λ es. record { enables = es; setting = slice_get tree.settings k }) (put_all master k true tree.holders)
changed_here k master act.Disable tree =
    ap (λ es. record { enables = es; setting = slice_get tree.settings k }) (put_all master k false tree.holders)
changed_here k master (act.SetDivider divider) tree =
    ap (λ found. record { enables = map (enable_at k) tree.holders; setting = found }) (setting_here (with_divider divider) k tree.settings)
changed_here k master (act.SetParent index) tree =
    ap (λ found. record { enables = map (enable_at k) tree.holders; setting = found }) (setting_here (with_index index) k tree.settings)
changed_here k master act.State tree = refl
changed_here k master act.Divider tree = refl
changed_here k master act.Parent tree = refl

changed_elsewhere : (j k : ℕ) (master : NodeId) (a : ClockAct) (tree : Tree) → (j ≡ k → ⊥) → column k (changed master a j tree) ≡ column k tree
changed_elsewhere j k master act.Enable tree apart =
    ap (λ es. record { enables = es; setting = slice_get tree.settings k }) (put_elsewhere master j k true tree.holders apart)
changed_elsewhere j k master act.Disable tree apart =
    ap (λ es. record { enables = es; setting = slice_get tree.settings k }) (put_elsewhere master j k false tree.holders apart)
changed_elsewhere j k master (act.SetDivider divider) tree apart =
    ap (λ found. record { enables = map (enable_at k) tree.holders; setting = found }) (setting_elsewhere (with_divider divider) j k tree.settings apart)
changed_elsewhere j k master (act.SetParent index) tree apart =
    ap (λ found. record { enables = map (enable_at k) tree.holders; setting = found }) (setting_elsewhere (with_index index) j k tree.settings apart)
changed_elsewhere j k master act.State tree apart = refl
changed_elsewhere j k master act.Divider tree apart = refl
changed_elsewhere j k master act.Parent tree apart = refl

-- ---- its checks

abbrev pub is_rival_enable : NodeId → NodeId × Option Bool → Bool
is_rival_enable master e = not (e.0.0 == master.0) && unwrap_or e.1 false

abbrev pub rival_in : NodeId → List (NodeId × Option Bool) → Option NodeId
rival_in master es = option_map (λ (e : NodeId × Option Bool). e.0) (find (is_rival_enable master) es)

rival_found : (master : NodeId) (k : ℕ) (holders : List Holder)
    → option_map (λ (holder : Holder). holder.node) (find (is_rival master k) holders) ≡ rival_in master (map (enable_at k) holders)
rival_found master k [] = refl
rival_found master k (holder ∷ holders) = by (is_rival master k holder) (rival_found master k holders)
  where
    by : (here : Bool)
        → option_map (λ (it : Holder). it.node) (find (is_rival master k) holders) ≡ rival_in master (map (enable_at k) holders)
        → option_map (λ (it : Holder). it.node) (if here then Some holder else find (is_rival master k) holders)
        ≡ option_map (λ (e : NodeId × Option Bool). e.0) (if here then Some (enable_at k holder) else find (is_rival_enable master) (map (enable_at k) holders))
    by true rest = refl
    by false rest = rest

rival_alike : (k : ℕ) (master : NodeId) (call : ClockCall) (s t : Tree) → clock_place call.clock ≡ Some k → column k s ≡ column k t
    → rival master call s ≡ rival master call t
rival_alike k master call s t place same =
    ap (λ found. if is_setting call.act then found else None)
    (ap (λ p. rival_at master p s.holders) place
    ∙ rival_found master k s.holders
    ∙ ap (λ (it : Column). rival_in master it.enables) same
    ∙ sym (rival_found master k t.holders)
    ∙ sym (ap (λ p. rival_at master p t.holders) place))

abbrev pub may_use_in : Seen → NodeId → Option ClockDef → Bool
may_use_in seen master found = option_map_or (λ (def : ClockDef). seen.may_use master def.node) found false

-- a master may change a clock in both views if it may use the clock's slave in both
pub may_alike : (k : ℕ) (def : ClockDef) (a b : Seen) (master : NodeId) (call : ClockCall) → slice_get clocks k ≡ Some def → clock_place call.clock ≡ Some k
    → a.may_use master def.node ≡ b.may_use master def.node → may_change a master call ≡ may_change b master call
may_alike k def a b master call here place permit =
    let is : def_of call.clock ≡ Some def = find-Some (is_numbered call.clock) clocks k place ∙ here in
    ap (λ found. not (is_change call.act) || may_use_in a master found) is
    ∙ ap (λ may. not (is_change call.act) || may) permit
    ∙ sym (ap (λ found. not (is_change call.act) || may_use_in b master found) is)

-- the refusal by its four checks
abbrev pub refused_by : Bool → Bool → Bool → Option NodeId → Option Response
refused_by missing within may found =
    if missing then Some (refusal invalid_node)
    else if not within then Some (refusal invalid_parameter)
    else if not may then Some (refusal no_access)
    else option_map used_by found

pub refused_alike : (k : ℕ) (def : ClockDef) (a b : Seen) (master : NodeId) (call : ClockCall) (s t : Tree) → slice_get clocks k ≡ Some def
    → a.may_use master def.node ≡ b.may_use master def.node
    → clock_place call.clock ≡ Some k → column k s ≡ column k t → refused a master call s ≡ refused b master call t
refused_alike k def a b master call s t here permit place same =
    ap (λ may. refused_by (is_missing call) (is_in_range call) may (rival master call s)) (may_alike k def a b master call here place permit)
    ∙ ap (refused_by (is_missing call) (is_in_range call) (may_change b master call)) (rival_alike k master call s t place same)

-- ---- a call

changed_alike : (k : ℕ) (master : NodeId) (call : ClockCall) (s t : Tree) → clock_place call.clock ≡ Some k → column k s ≡ column k t
    → column k (changed_at master call.act (clock_place call.clock) s) ≡ column k (changed_at master call.act (clock_place call.clock) t)
changed_alike k master call s t place same =
    ap (λ p. column k (changed_at master call.act p s)) place
    ∙ changed_here k master call.act s
    ∙ ap (changed_column master call.act) same
    ∙ sym (changed_here k master call.act t)
    ∙ sym (ap (λ p. column k (changed_at master call.act p t)) place)

pub served_alike : (k : ℕ) (def : ClockDef) (a b : Seen) (master : NodeId) (call : ClockCall) (s t : Tree) → slice_get clocks k ≡ Some def
    → a.may_use master def.node ≡ b.may_use master def.node
    → clock_place call.clock ≡ Some k → column k s ≡ column k t
    → column k (served a master call s) ≡ column k (served b master call t)
served_alike k def a b master call s t here permit place same =
    by (is_some (refused a master call s))
    ∙ ap (λ (found : Option Response). column k (if is_some found then t else changed_at master call.act (clock_place call.clock) t))
    (refused_alike k def a b master call s t here permit place same)
  where
    by : (refuses : Bool) → column k (if refuses then s else changed_at master call.act (clock_place call.clock) s)
        ≡ column k (if refuses then t else changed_at master call.act (clock_place call.clock) t)
    by true = same
    by false = changed_alike k master call s t place same

elsewhere : (k : ℕ) (master : NodeId) (a : ClockAct) (p : Option ℕ) (tree : Tree) → (p ≡ Some k → ⊥) → column k (changed_at master a p tree) ≡ column k tree
elsewhere k master a None tree apart = refl
elsewhere k master a (Some j) tree apart = changed_elsewhere j k master a tree (λ same. apart (ap (λ n. Some n) same))

pub served_other : (k : ℕ) (seen : Seen) (master : NodeId) (call : ClockCall) (tree : Tree) → (clock_place call.clock ≡ Some k → ⊥)
    → column k (served seen master call tree) ≡ column k tree
served_other k seen master call tree apart = by (is_some (refused seen master call tree))
  where
    by : (refuses : Bool) → column k (if refuses then tree else changed_at master call.act (clock_place call.clock) tree) ≡ column k tree
    by true = refl
    by false = elsewhere k master call.act (clock_place call.clock) tree apart

-- a call that changes a clock is refused if the caller may not use its slave
barred_refused : (missing within : Bool) (found : Option NodeId) → is_some (refused_by missing within false found) ≡ true
barred_refused true within found = refl
barred_refused false false found = refl
barred_refused false true found = refl

pub served_barred : (k : ℕ) (def : ClockDef) (seen : Seen) (master : NodeId) (call : ClockCall) (tree : Tree)
    → slice_get clocks k ≡ Some def → seen.may_use master def.node ≡ false
    → column k (served seen master call tree) ≡ column k tree
served_barred k def seen master call tree here barred = by_place (clock_place call.clock) refl
  where
    -- a call on this clock
    refuses : clock_place call.clock ≡ Some k → is_change call.act ≡ true → is_some (refused seen master call tree) ≡ true
    refuses place changes =
        let may : may_change seen master call ≡ false =
        ap (λ c. not c || may_use_in seen master (def_of call.clock)) changes
        ∙ ap (may_use_in seen master) (find-Some (is_numbered call.clock) clocks k place ∙ here) ∙ barred in
        ap (λ m. is_some (refused_by (is_missing call) (is_in_range call) m (rival master call tree))) may
        ∙ barred_refused (is_missing call) (is_in_range call) (rival master call tree)

    done : (a : ClockAct) → call.act ≡ a → clock_place call.clock ≡ Some k → (fails : Bool) → is_some (refused seen master call tree) ≡ fails
        → column k (if fails then tree else changed_at master a (clock_place call.clock) tree) ≡ column k tree
    done a is place true fails = refl
    done act.State is place false fails = ap (λ p. column k (changed_at master act.State p tree)) place
    done act.Divider is place false fails = ap (λ p. column k (changed_at master act.Divider p tree)) place
    done act.Parent is place false fails = ap (λ p. column k (changed_at master act.Parent p tree)) place
    done act.Enable is place false fails = absurd (clash (sym (refuses place (ap is_change is)) ∙ fails))
    done act.Disable is place false fails = absurd (clash (sym (refuses place (ap is_change is)) ∙ fails))
    done (act.SetDivider divider) is place false fails = absurd (clash (sym (refuses place (ap is_change is)) ∙ fails))
    done (act.SetParent index) is place false fails = absurd (clash (sym (refuses place (ap is_change is)) ∙ fails))

    by_same : (j : ℕ) → clock_place call.clock ≡ Some j → (same : Bool) → (j == k) ≡ same → column k (served seen master call tree) ≡ column k tree
    by_same j place true same =
        done call.act refl (place ∙ ap (λ n. Some n) (eqb-true j k same)) (is_some (refused seen master call tree)) refl
    by_same j place false same =
        served_other k seen master call tree (λ at. clash (sym (equal j k (some_same j k (sym place ∙ at))) ∙ same))

    by_place : (p : Option ℕ) → clock_place call.clock ≡ p → column k (served seen master call tree) ≡ column k tree
    by_place None place = served_other k seen master call tree (λ at. no_some k (sym place ∙ at))
    by_place (Some j) place = by_same j place (j == k) refl
