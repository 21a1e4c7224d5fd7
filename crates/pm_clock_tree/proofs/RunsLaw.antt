-- The clocks that run, as they are found in the order of the table, are those that run by their parents.
use Rattle.std.proofs.Common.{◌≡◌, ℕ, zero, suc, ◌+◌, ◌<◌, ◌≤◌, Bool, true, false, ◌&&◌, ◌==◌, List, [], ◌∷◌, ◌++◌, length, get_or, Some, None, Option, refl, ap, ◌∙◌, sym, subst, ◌⊎◌, inl, inr, ◌↔◌, arith}
use Rattle.std.specs.Prelude.{if◌then◌else◌, nat_lt, slice_get, unwrap_or}
use Rattle.std.proofs.lemmas.Bool.Decides.{nat_tests}
use Rattle.std.proofs.lemmas.Option.{slice_get_cases, slice_get_within}
use Rattle.std.proofs.lemmas.List.{length-append}
use Rattle.pm_base.proofs.Booleans.{both}
use Rattle.pm_base.proofs.ListLemmas.{slice_get-append_left, slice_get-append_right}
use Rattle.pm_clock_tree.specs.declared.table.ClockDef.{ClockDef}
use Rattle.pm_clock_tree.specs.declared.tree.Setting.{Setting}
use Rattle.pm_clock_tree.specs.Table.{clocks, parent_at, root_count}
use Rattle.pm_clock_tree.specs.Tree.{HasAllPlaces, Holder, Runs, Tree, is_enabled, is_running, running, running_from, runs, runs_by}
use Rattle.pm_clock_tree.specs.Tree.Runs.{root, driven}

some_same : {X : Type 0} (a b : X) → Some a ≡ Some b → a ≡ b
some_same a b same = ap (λ found. unwrap_or found a) same

no_some : {X : Type 0} (x : X) → None ≡ Some x → ⊥
no_some x e = cc

no_true : false ≡ true → ⊥
no_true e = cc

-- ---- the order of the table

-- a parent, if there is one, has a lower number
abbrev pub lower : ℕ → Option ℕ → Bool
lower n None = true
lower n (Some p) = nat_lt p n

-- a clock has this number, and its parents have lower ones
abbrev pub is_at : ℕ → ClockDef → Bool
is_at n def = (def.number == n) && (lower n (Some def.first) && (lower n (Some def.second) && lower n def.third))

abbrev pub ordered : ℕ → List ClockDef → Bool
ordered n [] = true
ordered n (def ∷ defs) = is_at n def && ordered (n + 1) defs

number_at : (n : ℕ) (def : ClockDef) → is_at n def ≡ true → def.number ≡ n
number_at n def at = let here : (def.number == n) ≡ true = (both _ _ at).0 in grind (arith, nat_tests)

lower_at : (n p : ℕ) (parent : Option ℕ) → lower n parent ≡ true → parent ≡ Some p → p < n
lower_at n p None is e = absurd (no_some p e)
lower_at n p (Some q) is e = let same = some_same q p e in grind (arith, nat_tests)

lower_by : (n p : ℕ) (def : ClockDef) → lower n (Some def.first) ≡ true → lower n (Some def.second) ≡ true → lower n def.third ≡ true
    → (first second third : Bool)
    → (if first then Some def.first else if second then Some def.second else if third then def.third else None) ≡ Some p → p < n
lower_by n p def one two three true second third here = lower_at n p (Some def.first) one here
lower_by n p def one two three false true third here = lower_at n p (Some def.second) two here
lower_by n p def one two three false false true here = lower_at n p def.third three here
lower_by n p def one two three false false false here = absurd (no_some p here)

parent_lower : (n : ℕ) (def : ClockDef) (i p : ℕ) → is_at n def ≡ true → parent_at i def ≡ Some p → p < n
parent_lower n def i p at here =
    let rest : (lower n (Some def.first) && (lower n (Some def.second) && lower n def.third)) ≡ true = (both _ _ at).1 in
    let later : (lower n (Some def.second) && lower n def.third) ≡ true = (both _ _ rest).1 in
    lower_by n p def (both _ _ rest).0 (both _ _ later).0 (both _ _ later).1 (i == 0) (i == 1) (i == 2) here

-- ---- the list of what runs

-- what stands in front stays
front_stays : (front : List Bool) (holders : List Holder) (k : ℕ) (defs : List ClockDef) (settings : List Setting) (c : ℕ) (on : Bool)
    → slice_get front c ≡ Some on → slice_get (running_from front holders k defs settings) c ≡ Some on
front_stays front holders k [] settings c on here = here
front_stays front holders k (def ∷ defs) [] c on here = here
front_stays front holders k (def ∷ defs) (setting ∷ settings) c on here =
    front_stays (front ++ runs_by front holders k def setting ∷ []) holders (k + 1) defs settings c on
    (slice_get-append_left front (runs_by front holders k def setting ∷ []) c on here)

-- the last one of a list
last_one : (front : List Bool) (on : Bool) (n : ℕ) → length front ≡ n → slice_get (front ++ on ∷ []) n ≡ Some on
last_one front on n count =
    let at : length front + 0 ≡ n = omega (arith, count) in
    subst (λ m. slice_get (front ++ on ∷ []) m ≡ Some on) at (slice_get-append_right front (on ∷ []) 0)

longer : (front : List Bool) (on : Bool) (n : ℕ) → length front ≡ n → length (front ++ on ∷ []) ≡ n + 1
longer front on n count = length-append front (on ∷ []) ∙ ap (λ m. m + 1) count

-- a clock in front runs where it runs in the whole
in_front : (front : List Bool) (holders : List Holder) (k : ℕ) (defs : List ClockDef) (settings : List Setting) (c : ℕ)
    → c < length front → slice_get (running_from front holders k defs settings) c ≡ Some true → is_running front (Some c) ≡ true
in_front front holders k defs settings c within runs =
    elim ((slice_get_cases front c).1) [
      | inl here ↦
          let same : Some here.0 ≡ Some true = sym (front_stays front holders k defs settings c here.0 here.2) ∙ runs in
          ap (λ found. unwrap_or found false) (here.2 ∙ same)
      | inr past ↦ absurd (omega (arith, past.0, within))
    ]

-- ---- from the parents

-- a clock that is enabled and whose parent runs does so too
up : (front : List Bool) (holders : List Holder) (k n : ℕ) (defs : List ClockDef) (settings : List Setting)
    (j p : ℕ) (def : ClockDef) (setting : Setting)
    → ordered n defs ≡ true → length front ≡ n
    → slice_get defs j ≡ Some def → slice_get settings j ≡ Some setting
    → is_enabled (k + j) holders ≡ true → parent_at setting.index def ≡ Some p
    → slice_get (running_from front holders k defs settings) p ≡ Some true
    → slice_get (running_from front holders k defs settings) def.number ≡ Some true
up front holders k n [] settings j p def setting order count is_def is_setting enabled parent feeds = absurd (no_some def is_def)
up front holders k n (first ∷ defs) [] j p def setting order count is_def is_setting enabled parent feeds = absurd (no_some setting is_setting)
up front holders k n (first ∷ defs) (own ∷ settings) zero p def setting order count is_def is_setting enabled is_parent feeds =
    let parts = both (is_at n first) (ordered (n + 1) defs) order in
    let same : first ≡ def = some_same first def is_def in
    let parent : parent_at own.index first ≡ Some p =
    ap (λ (s : Setting). parent_at s.index first) (some_same own setting is_setting) ∙ ap (λ d. parent_at setting.index d) same ∙ is_parent in
    let within : p < length front = omega (arith, parent_lower n first own.index p parts.0 parent, count) in
    let on : is_enabled k holders ≡ true = subst (λ m. is_enabled m holders ≡ true) (omega arith) enabled in
    let fed : is_running front (parent_at own.index first) ≡ true =
    ap (is_running front) parent ∙ in_front front holders k (first ∷ defs) (own ∷ settings) p within feeds in
    let is : runs_by front holders k first own ≡ true =
    ap (λ a. a && is_running front (parent_at own.index first)) on ∙ fed in
    let here : slice_get (front ++ runs_by front holders k first own ∷ []) first.number ≡ Some true =
    ap (λ m. slice_get (front ++ runs_by front holders k first own ∷ []) m) (number_at n first parts.0)
    ∙ last_one front (runs_by front holders k first own) n count ∙ ap (λ a. Some a) is in
    ap (λ (d : ClockDef). slice_get (running_from front holders k (first ∷ defs) (own ∷ settings)) d.number) (sym same)
    ∙ front_stays (front ++ runs_by front holders k first own ∷ []) holders (k + 1) defs settings first.number true here
up front holders k n (first ∷ defs) (own ∷ settings) (suc j) p def setting order count is_def is_setting enabled parent feeds =
    let parts = both (is_at n first) (ordered (n + 1) defs) order in
    up (front ++ runs_by front holders k first own ∷ []) holders (k + 1) (n + 1) defs settings j p def setting
    parts.1 (longer front (runs_by front holders k first own) n count) is_def is_setting
    (subst (λ m. is_enabled m holders ≡ true) (omega arith) enabled) parent feeds

-- ---- to the parents

-- the clock at a place among these is enabled, and its parent has a lower number and runs
record IsFed (all : List Bool) (holders : List Holder) (k : ℕ) (defs : List ClockDef) (settings : List Setting) (c : ℕ) : Type 0 where
  place : ℕ
  def : ClockDef
  setting : Setting
  parent : ℕ
  is_def : slice_get defs place ≡ Some def
  is_setting : slice_get settings place ≡ Some setting
  number : def.number ≡ c
  enabled : is_enabled (k + place) holders ≡ true
  is_parent : parent_at setting.index def ≡ Some parent
  feeds : slice_get all parent ≡ Some true
  below : parent < c

-- what runs by a parent in front of it has one
fed_by : (front : List Bool) (parent : Option ℕ) → is_running front parent ≡ true
    → (p : ℕ) × (parent ≡ Some p) × (slice_get front p ≡ Some true)
fed_by front None runs = absurd (no_true runs)
fed_by front (Some p) runs =
    elim ((slice_get_cases front p).1) [
      | inl here ↦ (p, refl, here.2 ∙ ap (λ a. Some a) (sym (ap (λ found. unwrap_or found false) here.2) ∙ runs))
      | inr past ↦ absurd (no_true (sym (ap (λ found. unwrap_or found false) past.1) ∙ runs))
    ]

down : (front : List Bool) (holders : List Holder) (k n : ℕ) (defs : List ClockDef) (settings : List Setting) (c : ℕ)
    → ordered n defs ≡ true → length front ≡ n
    → slice_get (running_from front holders k defs settings) c ≡ Some true
    → (slice_get front c ≡ Some true) ⊎ IsFed (running_from front holders k defs settings) holders k defs settings c
down front holders k n [] settings c order count is = inl is
down front holders k n (first ∷ defs) [] c order count is = inl is
down front holders k n (first ∷ defs) (own ∷ settings) c order count is =
    elim (down (front ++ runs_by front holders k first own ∷ []) holders (k + 1) (n + 1) defs settings c
    (both (is_at n first) (ordered (n + 1) defs) order).1 (longer front (runs_by front holders k first own) n count) is) [
      | inl here ↦ by_place here ((slice_get_cases front c).1)
      | inr fed ↦ inr (later fed)
    ]
  where
    on : Bool
    on = runs_by front holders k first own

    all : List Bool
    all = running_from front holders k (first ∷ defs) (own ∷ settings)

    at : is_at n first ≡ true
    at = (both (is_at n first) (ordered (n + 1) defs) order).0

    later : IsFed all holders (k + 1) defs settings c → IsFed all holders k (first ∷ defs) (own ∷ settings) c
    later fed = record {
      place = suc fed.place;
      def = fed.def;
      setting = fed.setting;
      parent = fed.parent;
      is_def = fed.is_def;
      is_setting = fed.is_setting;
      number = fed.number;
      enabled = subst (λ m. is_enabled m holders ≡ true) (omega arith) fed.enabled;
      is_parent = fed.is_parent;
      feeds = fed.feeds;
      below = fed.below;
    }

    -- this clock itself is the one
    own_one : slice_get (front ++ on ∷ []) c ≡ Some true → c ≡ n → IsFed all holders k (first ∷ defs) (own ∷ settings) c
    own_one here same = record {
      place = 0;
      def = first;
      setting = own;
      parent = feeder.0;
      is_def = refl;
      is_setting = refl;
      number = number_at n first at ∙ sym same;
      enabled = subst (λ m. is_enabled m holders ≡ true) (omega arith) (parts.0);
      is_parent = feeder.1;
      feeds = front_stays front holders k (first ∷ defs) (own ∷ settings) feeder.0 true feeder.2;
      below = omega (arith, parent_lower n first own.index feeder.0 at feeder.1, same);
    }
      where
        last : Some on ≡ Some true
        last = sym (last_one front on n count) ∙ ap (λ m. slice_get (front ++ on ∷ []) m) (sym same) ∙ here

        parts : (is_enabled k holders ≡ true) × (is_running front (parent_at own.index first) ≡ true)
        parts = both (is_enabled k holders) (is_running front (parent_at own.index first)) (ap (λ found. unwrap_or found false) last)

        feeder : (p : ℕ) × (parent_at own.index first ≡ Some p) × (slice_get front p ≡ Some true)
        feeder = fed_by front (parent_at own.index first) parts.1

    by_place : slice_get (front ++ on ∷ []) c ≡ Some true
        → ((x : Bool) × (c < length front) × (slice_get front c ≡ Some x) × (get_or front c x ≡ x)) ⊎ ((length front ≤ c) × (slice_get front c ≡ None))
        → (slice_get front c ≡ Some true) ⊎ IsFed all holders k (first ∷ defs) (own ∷ settings) c
    by_place here (inl found) =
        inl (found.2 ∙ sym (slice_get-append_left front (on ∷ []) c found.0 found.2) ∙ here)
    by_place here (inr past) =
        inr (own_one here (omega (arith, past.0, count, slice_get_within (front ++ on ∷ []) c true here, longer front on n count)))

-- ---- the law

-- what runs by its parents is found
found : (tree : Tree) → HasAllPlaces tree → (c : ℕ) → Runs tree c → slice_get (running tree) c ≡ Some true
found tree places c (root number here) = front_stays tree.roots tree.holders 0 clocks tree.settings number true here
found tree places c (driven k p def setting is_def is_setting enabled parent runs) =
    up tree.roots tree.holders 0 root_count clocks tree.settings k p def setting refl places.roots is_def is_setting
    (subst (λ m. is_enabled m tree.holders ≡ true) (omega arith) enabled) parent (found tree places p runs)

-- what is found runs by its parents
fed : (tree : Tree) → HasAllPlaces tree → (bound c : ℕ) → c < bound → slice_get (running tree) c ≡ Some true → Runs tree c
fed tree places zero c within is = absurd (omega (arith, within))
fed tree places (suc bound) c within is =
    elim (down tree.roots tree.holders 0 root_count clocks tree.settings c refl places.roots is) [
      | inl here ↦ root c here
      | inr by ↦ subst (λ number. Runs tree number) by.number
          (driven by.place by.parent by.def by.setting by.is_def by.is_setting
          (subst (λ m. is_enabled m tree.holders ≡ true) (omega arith) by.enabled) by.is_parent
          (fed tree places bound by.parent (omega (arith, within, by.below)) by.feeds))
    ]

pub runs_law : (tree : Tree) → HasAllPlaces tree → (c : ℕ) → (runs c tree ≡ true) ↔ Runs tree c
runs_law tree places c = (to, from)
  where
    to : runs c tree ≡ true → Runs tree c
    to is = let one = fed_by (running tree) (Some c) is in
        fed tree places (one.0 + 1) c (omega (arith, some_same c one.0 one.1)) (subst (λ m. slice_get (running tree) m ≡ Some true) (sym (some_same c one.0 one.1)) one.2)

    from : Runs tree c → runs c tree ≡ true
    from is = ap (λ found. unwrap_or found false) (found tree places c is)
