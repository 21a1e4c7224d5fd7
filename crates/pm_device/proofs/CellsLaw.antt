-- What setting, breaking and mending a unit changes, and what stays.
use Rattle.std.proofs.Common.{◌≡◌, ℕ, ◌+◌, ◌≤◌, ◌==◌, ◌||◌, ◌&&◌, Bool, true, false, not, cond, List, [], ◌∷◌, ◌++◌, length, slice_get, Option, Some, None, is_some, suc, zero, refl, arith, ap, sym, ◌∙◌, nat_lt, unwrap_or}
use Rattle.std.specs.List.{list_any, list_all, position_or_len}
use Rattle.std.specs.Option.{option_map}
use Rattle.std.proofs.lemmas.Bool.{eqb-true}
use Rattle.std.proofs.lemmas.Bool.Decides.{nat_tests}
use Rattle.std.proofs.lemmas.Option.{same_Some}
use Rattle.std.proofs.lemmas.List.Folds.{list_all-append}
use Rattle.std.proofs.lemmas.Grind.{flat_map-append}
use Rattle.pm_base.proofs.Booleans.{both, pair_of, none_of}
use Rattle.pm_base.specs.declared.names.Unit.{Unit}
use Rattle.pm_base.specs.declared.names.Unit.TheVariants.{Node, Line}
use Rattle.pm_base.specs.declared.names.NodeId.{NodeId}
use Rattle.pm_topology.specs.Units.{same_unit, is_before}
use Rattle.pm_topology.specs.Units as units
use Rattle.pm_topology.specs.UnitMap.{Sets, all_at, place_of, units_in, value_of, with_value}
use Rattle.pm_topology.proofs.UnitMapLaw.{sets_by, there-set, value_of-set}
use Rattle.pm_device.specs.declared.cells.Cell.{Cell}
use Rattle.pm_device.specs.Device.{is_broken, rises, rigged}
use Rattle.pm_device.specs.Cells.{idle, cell_of, is_there, is_broken_cell, broken_number, broken_of, set_value}
use Rattle.pm_device.proofs.Rising.{rigged-between}

-- ---- the broken nodes rise

-- all broken nodes are above a node that comes before all units
above : (n : NodeId) (cells : List (Unit × Cell)) → list_all (is_before (Node n)) (units_in cells) ≡ true → list_all (nat_lt n.0) (broken_of cells) ≡ true
above n [] all = refl
above n (e ∷ cells) all =
    let parts = both (is_before (Node n) e.0) _ all in
    list_all-append (nat_lt n.0) (broken_number e.0 e.1.broken) (broken_of cells)
    ∙ pair_of (list_all (nat_lt n.0) (broken_number e.0 e.1.broken)) _ (first e.0 e.1.broken parts.0) (above n cells parts.1)
  where
    first : (u : Unit) (broken : Bool) → is_before (Node n) u ≡ true → list_all (nat_lt n.0) (broken_number u broken) ≡ true
    first (Node m) true before = pair_of (nat_lt n.0 m.0) true before refl
    first (Node m) false before = refl
    first (Line l) broken before = refl

pub broken_rises : (cells : List (Unit × Cell)) → units.rises (units_in cells) ≡ true → rises (broken_of cells) ≡ true
broken_rises [] rising = refl
broken_rises (e ∷ cells) rising =
    let parts = both (list_all (is_before e.0) (units_in cells)) _ rising in
    front e.0 e.1.broken parts.0 (broken_rises cells parts.1)
  where
    front : (u : Unit) (broken : Bool) → list_all (is_before u) (units_in cells) ≡ true → rises (broken_of cells) ≡ true
        → rises (broken_number u broken ++ broken_of cells) ≡ true
    front (Node n) true all more = pair_of (list_all (nat_lt n.0) (broken_of cells)) _ (above n cells all) more
    front (Node n) false all more = more
    front (Line l) broken all more = more

-- ---- a broken node is among them

not_among : (n : ℕ) (ns : List ℕ) → list_all (nat_lt n) ns ≡ true → list_any (λ m. m == n) ns ≡ false
not_among n [] all = refl
not_among n (m ∷ ns) all =
    let parts = both (nat_lt n m) _ all in
    none_of (m == n) _ (apart m n parts.0) (not_among n ns parts.1)
  where
    apart : (m n : ℕ) → nat_lt n m ≡ true → (m == n) ≡ false
    apart m n e = grind (arith, nat_tests)

broken_cell : (n : NodeId) (cells : List (Unit × Cell)) → units.rises (units_in cells) ≡ true
    → (cell_of cells (Node n)).broken ≡ list_any (λ m. m == n.0) (broken_of cells)
broken_cell n [] rising = refl
broken_cell n (e ∷ cells) rising =
    let parts = both (list_all (is_before e.0) (units_in cells)) _ rising in
    at e.0 e.1 parts.0 (broken_cell n cells parts.1)
  where
    same : (b : Bool) (m : NodeId) (c : Cell) → (m.0 == n.0) ≡ b
        → list_all (is_before (Node m)) (units_in cells) ≡ true
        → (cell_of cells (Node n)).broken ≡ list_any (λ m. m == n.0) (broken_of cells)
        → (unwrap_or (cond b (Some c) (value_of cells (Node n))) idle).broken
        ≡ list_any (λ m. m == n.0) (broken_number (Node m) c.broken ++ broken_of cells)
    same true m c here all more =
        let none = not_among n.0 (broken_of cells) (ap (λ k. list_all (nat_lt k) (broken_of cells)) (sym (eqb-true m.0 n.0 here)) ∙ above m cells all) in
        by c.broken
      where
        by : (b : Bool) → b ≡ list_any (λ m. m == n.0) (broken_number (Node m) b ++ broken_of cells)
        by true = sym (ap (λ b. b || list_any (λ m. m == n.0) (broken_of cells)) here)
        by false = sym (not_among n.0 (broken_of cells) (ap (λ k. list_all (nat_lt k) (broken_of cells)) (sym (eqb-true m.0 n.0 here)) ∙ above m cells all))
    same false m c other all more = more ∙ by c.broken
      where
        by : (b : Bool) → list_any (λ m. m == n.0) (broken_of cells) ≡ list_any (λ m. m == n.0) (broken_number (Node m) b ++ broken_of cells)
        by true = sym (ap (λ b. b || list_any (λ m. m == n.0) (broken_of cells)) other)
        by false = refl

    at : (u : Unit) (c : Cell) → list_all (is_before u) (units_in cells) ≡ true
        → (cell_of cells (Node n)).broken ≡ list_any (λ m. m == n.0) (broken_of cells)
        → (unwrap_or (cond (same_unit u (Node n)) (Some c) (value_of cells (Node n))) idle).broken
        ≡ list_any (λ m. m == n.0) (broken_number u c.broken ++ broken_of cells)
    at (Node m) c all more = same (m.0 == n.0) m c refl all more
    at (Line l) c all more = more

pub broken_is : (cells : List (Unit × Cell)) (unit : Unit) → units.rises (units_in cells) ≡ true
    → is_broken_cell cells unit ≡ is_broken (broken_of cells) unit
broken_is cells (Node n) rising = broken_cell n cells rising
broken_is cells (Line l) rising = refl

-- ---- one cell is written

broken_of-append : (front back : List (Unit × Cell)) → broken_of (front ++ back) ≡ broken_of front ++ broken_of back
broken_of-append front back = flat_map-append (λ (e : Unit × Cell). broken_number e.0 e.1.broken) front back

-- what stands before a node is below it, and what stands after it above it
below_node : (n : NodeId) (c : Cell) (front back : List (Unit × Cell)) → units.rises (units_in (front ++ (Node n, c) ∷ back)) ≡ true
    → list_all (λ m. nat_lt m n.0) (broken_of front) ≡ true
below_node n c [] back rising = refl
below_node n c (e ∷ front) back rising =
    let parts = both (list_all (is_before e.0) (units_in (front ++ (Node n, c) ∷ back))) _ rising in
    list_all-append (λ m. nat_lt m n.0) (broken_number e.0 e.1.broken) (broken_of front)
    ∙ pair_of (list_all (λ m. nat_lt m n.0) (broken_number e.0 e.1.broken)) _
    (first e.0 e.1.broken (among e.0 front parts.0)) (below_node n c front back parts.1)
  where
    among : (u : Unit) (front : List (Unit × Cell)) → list_all (is_before u) (units_in (front ++ (Node n, c) ∷ back)) ≡ true → is_before u (Node n) ≡ true
    among u [] all = (both (is_before u (Node n)) _ all).0
    among u (f ∷ front) all = among u front (both (is_before u f.0) _ all).1

    first : (u : Unit) (broken : Bool) → is_before u (Node n) ≡ true → list_all (λ m. nat_lt m n.0) (broken_number u broken) ≡ true
    first (Node m) true before = pair_of (nat_lt m.0 n.0) true before refl
    first (Node m) false before = refl
    first (Line l) broken before = refl

above_node : (n : NodeId) (c : Cell) (front back : List (Unit × Cell)) → units.rises (units_in (front ++ (Node n, c) ∷ back)) ≡ true
    → list_all (nat_lt n.0) (broken_of back) ≡ true
above_node n c [] back rising = above n back (both (list_all (is_before (Node n)) (units_in back)) _ rising).0
above_node n c (e ∷ front) back rising =
    above_node n c front back (both (list_all (is_before e.0) (units_in (front ++ (Node n, c) ∷ back))) _ rising).1

-- a node that is broken or mended is put among them or taken out
pub broken_rigged : (n : NodeId) (cell : Cell) (old new : List (Unit × Cell))
    → units.rises (units_in old) ≡ true
    → Sets (Node n) cell old new
    → broken_of new ≡ rigged n.0 cell.broken (broken_of old)
broken_rigged n cell old new rising set =
    let rises_split = ap (λ es. units.rises (units_in es)) (sym set.was) ∙ rising in
    ap broken_of set.is
    ∙ broken_of-append set.front ((Node n, cell) ∷ set.back)
    ∙ sym (rigged-between n.0 cell.broken set.before.broken (broken_of set.front) (broken_of set.back)
    (below_node n set.before set.front set.back rises_split) (above_node n set.before set.front set.back rises_split))
    ∙ ap (rigged n.0 cell.broken) (sym (broken_of-append set.front ((Node n, set.before) ∷ set.back)))
    ∙ ap (λ cells. rigged n.0 cell.broken (broken_of cells)) (sym set.was)

-- the nodes that are broken once a node was broken or mended, also where it isn't there
pub broken_now : (n : NodeId) (cell : Cell) (old new : List (Unit × Cell))
    → units.rises (units_in old) ≡ true
    → (is_there old (Node n) ≡ true → Sets (Node n) cell old new)
    → (is_there old (Node n) ≡ false → new ≡ old)
    → broken_of new ≡ cond (is_there old (Node n)) (rigged n.0 cell.broken (broken_of old)) (broken_of old)
broken_now n cell old new rising set none = at (is_there old (Node n)) refl
  where
    at : (b : Bool) → is_there old (Node n) ≡ b → broken_of new ≡ cond b (rigged n.0 cell.broken (broken_of old)) (broken_of old)
    at true there = broken_rigged n cell old new rising (set there)
    at false absent = ap broken_of (none absent)

-- ---- a unit is found by its place

-- the value at the place of a unit is its value, and past the last one there is none
value_at : {T : Type 0} (entries : List (Unit × T)) (unit : Unit)
    → option_map (λ e. e.1) (slice_get entries (position_or_len (λ e. same_unit e.0 unit) entries)) ≡ value_of entries unit
value_at [] unit = refl
value_at {T} (e ∷ entries) unit = at (same_unit e.0 unit) (value_at entries unit)
  where
    at : (b : Bool)
        → option_map (λ (e : Unit × T). e.1) (slice_get entries (position_or_len (λ e. same_unit e.0 unit) entries)) ≡ value_of entries unit
        → option_map (λ (e : Unit × T). e.1) (slice_get (e ∷ entries) (cond (not b) (1 + position_or_len (λ e. same_unit e.0 unit) entries) 0))
        ≡ cond b (Some e.1) (value_of entries unit)
    at true later = refl
    at false later =
        let next : 1 + position_or_len (λ (e : Unit × T). same_unit e.0 unit) entries ≡ suc (position_or_len (λ (e : Unit × T). same_unit e.0 unit) entries) = omega arith in
        rw next later

pub found_at : {T : Type 0} (entries : List (Unit × T)) (unit : Unit) (place : ℕ) (found : Option (Unit × T))
    → place_of entries unit ≡ Some place → found ≡ slice_get entries place → value_of entries unit ≡ option_map (λ e. e.1) found
found_at {T} entries unit place found here is =
    let at : place ≡ position_or_len (λ (e : Unit × T). same_unit e.0 unit) entries = grind (arith, nat_tests) in
    sym (value_at entries unit) ∙ ap (λ k. option_map (λ (e : Unit × T). e.1) (slice_get entries k)) (sym at) ∙ ap (option_map (λ (e : Unit × T). e.1)) (sym is)

pub placed_nowhere : {T : Type 0} (entries : List (Unit × T)) (unit : Unit) → place_of entries unit ≡ None → is_there entries unit ≡ false
placed_nowhere {T} entries unit none =
    let out : length entries ≤ position_or_len (λ (e : Unit × T). same_unit e.0 unit) entries = grind (arith, nat_tests) in
    ap is_some (sym (value_at entries unit)) ∙ ap (λ o. is_some (option_map (λ (e : Unit × T). e.1) o)) (past entries _ out)
  where
    past : (entries : List (Unit × T)) (k : ℕ) → length entries ≤ k → slice_get entries k ≡ None
    past [] k out = refl
    past (e ∷ entries) zero out = absurd (omega arith)
    past (e ∷ entries) (suc k) out = past entries k (omega arith)

-- whether a command is carried out, by whether its unit is there, and is broken
pub answer_by : (there broken a b : Bool) → there ≡ a → broken ≡ b → not (not a || b) ≡ not (not there || broken)
answer_by there broken a b is so = ap (λ t. not (not t || b)) (sym is) ∙ ap (λ s. not (not there || s)) (sym so)

-- a unit that is there was set to a value
module _ (unit : Unit) (cell : Cell) (value : ℕ) (old new : List (Unit × Cell))
    (there : value_of old unit ≡ Some cell) (is : new ≡ with_value unit (record { value = value; broken = cell.broken }) old) where
  pub value_set : new ≡ set_value unit value old
  value_set = is ∙ ap (λ (c : Option Cell). with_value unit (record { value = value; broken = (unwrap_or c idle).broken }) old) (sym there)

  pub values_set : (other : Unit) → (cell_of new other).value ≡ cond (same_unit unit other) value (cell_of old other).value
  values_set other =
      ap (λ (c : Option Cell). (unwrap_or c idle).value) (value_of-set unit (record { value = value; broken = cell.broken }) old new other is)
      ∙ ap (λ (b : Bool). (unwrap_or (cond (same_unit unit other && b) (Some (record { value = value; broken = cell.broken })) (value_of old other)) idle).value) (ap is_some there)
      ∙ at (same_unit unit other)
    where
      at : (b : Bool) → (unwrap_or (cond (b && true) (Some (record { value = value; broken = cell.broken })) (value_of old other)) idle).value
          ≡ cond b value (cell_of old other).value
      at true = refl
      at false = refl

  pub units_stay : (other : Unit) → is_there new other ≡ is_there old other
  units_stay other = there-set unit (record { value = value; broken = cell.broken }) old new other is

  pub broken_stay : units.rises (units_in old) ≡ true → broken_of new ≡ broken_of old
  broken_stay rising =
      let set = sets_by unit (record { value = value; broken = cell.broken }) old new is rising (ap is_some there) in
      let same : set.before ≡ cell = same_Some set.before cell (sym set.found ∙ there) in
      ap broken_of set.is
      ∙ broken_of-append set.front ((unit, record { value = value; broken = cell.broken }) ∷ set.back)
      ∙ ap (λ (c : Cell). broken_of set.front ++ (broken_number unit c.broken ++ broken_of set.back)) (sym same)
      ∙ sym (broken_of-append set.front ((unit, set.before) ∷ set.back))
      ∙ ap broken_of (sym set.was)

-- at first none is broken
pub none_broken : (us : List Unit) → broken_of (all_at idle us) ≡ []
none_broken [] = refl
none_broken (Node n ∷ us) = none_broken us
none_broken (Line l ∷ us) = none_broken us
