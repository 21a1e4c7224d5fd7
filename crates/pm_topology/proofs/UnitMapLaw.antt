-- A table of units: what is read after a write, and what a table of keys shows as one of units.
use Rattle.std.proofs.Common.{◌&&◌, ◌≡◌, ℕ, ◌+◌, ◌<◌, ◌≤◌, ◌||◌, ◌==◌, Bool, true, false, not, cond, nat_lt, List, [], ◌∷◌, ◌++◌, length, take, drop, Option, Some, None, refl, ap, sym, ◌∙◌, suc, zero, arith, get_or, subst}
use Rattle.std.specs.Prelude.{slice_get, position, is_some, unwrap_or, IfSome}
use Rattle.std.specs.List.{list_all, position_or_len}
use Rattle.std.specs.Option.{option_map}
use Rattle.std.specs.Map.{keys_of}
use Rattle.std.proofs.lemmas.Bool.Decides.{nat_tests}
use Rattle.std.proofs.lemmas.List.{length-map, map-append, take_more}
use Rattle.indexmap.specs.IndexMap.{insert_entry, set_value_at}
use Rattle.pm_base.specs.declared.names.NodeId.{NodeId}
use Rattle.pm_base.specs.declared.names.Unit.{Unit}
use Rattle.pm_base.specs.declared.names.Unit.TheVariants.{Node, Line}
use Rattle.pm_base.specs.contracts.names.UnitPartialEq.TheImpl as equality
use Rattle.pm_topology.specs.declared.topology.Topology.{Topology}
use Rattle.pm_topology.specs.Units.{same_unit, is_before, rises, has_in, has_unit, units_of}
use Rattle.pm_topology.specs.UnitMap.{AreNodePlaces, Sets, units_in, all_at, value_of, place_of, set_entry, with_value, with_value_at, mapped}
use Rattle.pm_base.proofs.Booleans.{both, neither}
use Rattle.pm_topology.proofs.UnitsLaw.{units_of-has, same_is, none_after, after_differs}

swapped : (a b : ℕ) → (a == b) ≡ (b == a)
swapped a b = grind (arith, nat_tests)

pub same-sym : (a b : Unit) → same_unit a b ≡ same_unit b a
same-sym (Node a) (Node b) = swapped a.0 b.0
same-sym (Node a) (Line b) = refl
same-sym (Line a) (Node b) = refl
same-sym (Line a) (Line b) = swapped a.0 b.0

-- ---- what is read after a write

module _ {T : Type 0} where
  set_unit : (b : Bool) (value : T) (e : Unit × T) → (cond b (e.0, value) e).0 ≡ e.0
  set_unit true value e = refl
  set_unit false value e = refl

  pub units_in-with : (unit : Unit) (value : T) (entries : List (Unit × T)) → units_in (with_value unit value entries) ≡ units_in entries
  units_in-with unit value [] = refl
  units_in-with unit value (e ∷ entries) =
      ap (λ u. u ∷ units_in (with_value unit value entries)) (set_unit (same_unit e.0 unit) value e) ∙ ap (λ us. e.0 ∷ us) (units_in-with unit value entries)

  pub units_in-with_at : (place : ℕ) (value : T) (entries : List (Unit × T)) → units_in (with_value_at place value entries) ≡ units_in entries
  units_in-with_at place value [] = refl
  units_in-with_at zero value (e ∷ entries) = refl
  units_in-with_at (suc place) value (e ∷ entries) = ap (λ us. e.0 ∷ us) (units_in-with_at place value entries)

  -- the unit has the value where it is there, and all others keep theirs
  value_of-with : (unit : Unit) (value : T) (entries : List (Unit × T)) (other : Unit)
      → value_of (with_value unit value entries) other
      ≡ cond (same_unit unit other) (option_map (λ _. value) (value_of entries other)) (value_of entries other)
  value_of-with unit value [] other = at (same_unit unit other) None
    where
      at : (b : Bool) (o : Option T) → o ≡ cond b o o
      at true o = refl
      at false o = refl
  value_of-with unit value (e ∷ entries) other =
      ap (λ u. cond (same_unit u other) (Some (set_entry unit value e).1) (value_of (with_value unit value entries) other)) (set_unit (same_unit e.0 unit) value e)
      ∙ ap (λ v. cond (same_unit e.0 other) (Some (set_entry unit value e).1) v) (value_of-with unit value entries other)
      ∙ at (same_unit e.0 unit) (same_unit e.0 other) refl refl
    where
      at : (b d : Bool) → same_unit e.0 unit ≡ b → same_unit e.0 other ≡ d
          → cond d (Some (cond b (e.0, value) e).1) (cond (same_unit unit other) (option_map (λ _. value) (value_of entries other)) (value_of entries other))
          ≡ cond (same_unit unit other) (option_map (λ _. value) (cond d (Some e.1) (value_of entries other))) (cond d (Some e.1) (value_of entries other))
      at b false is here = refl
      at true true is here =
          let one : same_unit unit other ≡ true = ap (λ u. same_unit u other) (sym (same_is e.0 unit is)) ∙ here in
          sym (ap (λ b. cond b (Some value) (Some e.1)) one)
      at false true is here =
          let two : same_unit unit other ≡ false = ap (same_unit unit) (sym (same_is e.0 other here)) ∙ same-sym unit e.0 ∙ is in
          sym (ap (λ b. cond b (Some value) (Some e.1)) two)

  -- the same, by whether the unit is there
  pub value_of-written : (unit : Unit) (value : T) (entries : List (Unit × T)) (other : Unit)
      → value_of (with_value unit value entries) other
      ≡ cond (same_unit unit other && is_some (value_of entries unit)) (Some value) (value_of entries other)
  value_of-written unit value entries other = value_of-with unit value entries other ∙ at (same_unit unit other) refl
    where
      there : (o : Option T) → option_map (λ _. value) o ≡ cond (is_some o) (Some value) o
      there None = refl
      there (Some x) = refl

      at : (b : Bool) → same_unit unit other ≡ b
          → cond b (option_map (λ _. value) (value_of entries other)) (value_of entries other)
          ≡ cond (b && is_some (value_of entries unit)) (Some value) (value_of entries other)
      at true is =
          there (value_of entries other)
          ∙ ap (λ u. cond (is_some (value_of entries u)) (Some value) (value_of entries other)) (sym (same_is unit other is))
      at false is = refl

  pub value_of-set : (unit : Unit) (value : T) (old new : List (Unit × T)) (other : Unit) → new ≡ with_value unit value old
      → value_of new other ≡ cond (same_unit unit other && is_some (value_of old unit)) (Some value) (value_of old other)
  value_of-set unit value old new other e = ap (λ (es : List (Unit × T)). value_of es other) e ∙ value_of-written unit value old other

  pub value_of-all : (value : T) (units : List Unit) (unit : Unit) → value_of (all_at value units) unit ≡ cond (has_in units unit) (Some value) None
  value_of-all value [] unit = refl
  value_of-all value (u ∷ units) unit = ap (λ v. cond (same_unit u unit) (Some value) v) (value_of-all value units unit) ∙ at (same_unit u unit)
    where
      at : (b : Bool) → cond b (Some value) (cond (has_in units unit) (Some value) None) ≡ cond (b || has_in units unit) (Some value) None
      at true = refl
      at false = refl

  pub value_of-first : (t : Topology) (value : T) (entries : List (Unit × T)) (unit : Unit) → entries ≡ all_at value (units_of t)
      → value_of entries unit ≡ cond (has_unit t unit) (Some value) None
  value_of-first t value entries unit e =
      ap (λ (es : List (Unit × T)). value_of es unit) e
      ∙ value_of-all value (units_of t) unit
      ∙ ap (λ b. cond b (Some value) None) (units_of-has t unit)

  pub value_of-there : (entries : List (Unit × T)) (unit : Unit) → is_some (value_of entries unit) ≡ has_in (units_in entries) unit
  value_of-there [] unit = refl
  value_of-there (e ∷ entries) unit = at (same_unit e.0 unit) (value_of-there entries unit)
    where
      at : (b : Bool) → is_some (value_of entries unit) ≡ has_in (units_in entries) unit
          → is_some (cond b (Some e.1) (value_of entries unit)) ≡ (b || has_in (units_in entries) unit)
      at true more = refl
      at false more = more

  pub there-set : (unit : Unit) (value : T) (old new : List (Unit × T)) (other : Unit) → new ≡ with_value unit value old
      → is_some (value_of new other) ≡ is_some (value_of old other)
  there-set unit value old new other e =
      ap (λ (es : List (Unit × T)). is_some (value_of es other)) e
      ∙ value_of-there (with_value unit value old) other
      ∙ ap (λ us. has_in us other) (units_in-with unit value old)
      ∙ sym (value_of-there old other)

  pub units_in-all : (value : T) (units : List Unit) → units_in (all_at value units) ≡ units
  units_in-all value [] = refl
  units_in-all value (u ∷ units) = ap (λ us. u ∷ us) (units_in-all value units)

  -- ---- a write by the place of a unit

  absent : (unit : Unit) (value : T) (entries : List (Unit × T)) → has_in (units_in entries) unit ≡ false → with_value unit value entries ≡ entries
  absent unit value [] none = refl
  absent unit value (e ∷ entries) none =
      let parts = neither (same_unit e.0 unit) _ none in
      ap (λ b. cond b (e.0, value) e ∷ with_value unit value entries) parts.0 ∙ ap (λ es. e ∷ es) (absent unit value entries parts.1)

  pub sets : (unit : Unit) (value : T) (entries : List (Unit × T))
      → rises (units_in entries) ≡ true
      → is_some (value_of entries unit) ≡ true
      → Sets unit value entries (with_value unit value entries)
  sets unit value [] rising there = cc
  sets unit value (e ∷ entries) rising there = at (same_unit e.0 unit) refl there (λ there. sets unit value entries parts.1 there)
    where
      parts : (list_all (is_before e.0) (units_in entries) ≡ true) × (rises (units_in entries) ≡ true)
      parts = both (list_all (is_before e.0) (units_in entries)) _ rising

      at : (b : Bool) → same_unit e.0 unit ≡ b
          → is_some (cond b (Some e.1) (value_of entries unit)) ≡ true
          → (is_some (value_of entries unit) ≡ true → Sets unit value entries (with_value unit value entries))
          → Sets unit value (e ∷ entries) (set_entry unit value e ∷ with_value unit value entries)
      at true here there more =
          let same = same_is e.0 unit here in
          let none = ap (has_in (units_in entries)) (sym same) ∙ none_after e.0 (units_in entries) parts.0 in
          record {
            front = [];
            before = e.1;
            back = entries;
            was = ap (λ u. (u, e.1) ∷ entries) same;
            is =
                ap (λ b. cond b (e.0, value) e ∷ with_value unit value entries) here
                ∙ ap (λ u. (u, value) ∷ with_value unit value entries) same
                ∙ ap (λ es. (unit, value) ∷ es) (absent unit value entries none);
            found = ap (λ b. cond b (Some e.1) (value_of entries unit)) here;
          }
      at false other there more =
          let later = more there in
          record {
            front = e ∷ later.front;
            before = later.before;
            back = later.back;
            was = ap (λ es. e ∷ es) later.was;
            is = ap (λ b. cond b (e.0, value) e ∷ with_value unit value entries) other ∙ ap (λ es. e ∷ es) later.is;
            found = ap (λ b. cond b (Some e.1) (value_of entries unit)) other ∙ later.found;
          }

  pub sets_by : (unit : Unit) (value : T) (old new : List (Unit × T))
      → new ≡ with_value unit value old
      → rises (units_in old) ≡ true
      → is_some (value_of old unit) ≡ true
      → Sets unit value old new
  sets_by unit value old new e rising there =
      subst (λ (es : List (Unit × T)). Sets unit value old es) (sym e) (sets unit value old rising there)

  pub set_none : (unit : Unit) (value : T) (old new : List (Unit × T)) → new ≡ with_value unit value old
      → is_some (value_of old unit) ≡ false → new ≡ old
  set_none unit value old new e none = e ∙ absent unit value old (sym (value_of-there old unit) ∙ none)

  by_place : (unit : Unit) (value : T) (entries : List (Unit × T)) → rises (units_in entries) ≡ true
      → with_value_at (position_or_len (λ e. same_unit e.0 unit) entries) value entries ≡ with_value unit value entries
  by_place unit value [] rising = refl
  by_place unit value (e ∷ entries) rising =
      at (same_unit e.0 unit) refl (by_place unit value entries parts.1)
    where
      parts : (list_all (is_before e.0) (units_in entries) ≡ true) × (rises (units_in entries) ≡ true)
      parts = both (list_all (is_before e.0) (units_in entries)) _ rising

      at : (b : Bool) → same_unit e.0 unit ≡ b
          → with_value_at (position_or_len (λ e. same_unit e.0 unit) entries) value entries ≡ with_value unit value entries
          → with_value_at (cond (not b) (1 + position_or_len (λ e. same_unit e.0 unit) entries) 0) value (e ∷ entries)
          ≡ cond b (e.0, value) e ∷ with_value unit value entries
      at true here more =
          let none = ap (has_in (units_in entries)) (sym (same_is e.0 unit here)) ∙ none_after e.0 (units_in entries) parts.0 in
          ap (λ es. (e.0, value) ∷ es) (sym (absent unit value entries none))
      at false here more =
          let next : 1 + position_or_len (λ (e : Unit × T). same_unit e.0 unit) entries ≡ suc (position_or_len (λ (e : Unit × T). same_unit e.0 unit) entries) = omega arith in
          rw next (ap (λ es. e ∷ es) more)

  pub set_at_place : (unit : Unit) (value : T) (entries : List (Unit × T)) (place : ℕ) → rises (units_in entries) ≡ true → place_of entries unit ≡ Some place
      → with_value_at place value entries ≡ with_value unit value entries
  set_at_place unit value entries place rising here =
      let at : place ≡ position_or_len (λ (e : Unit × T). same_unit e.0 unit) entries = grind (arith, nat_tests) in
      ap (λ place. with_value_at place value entries) at ∙ by_place unit value entries rising

  past : (place : ℕ) (value : T) (entries : List (Unit × T)) → length entries ≤ place → with_value_at place value entries ≡ entries
  past place value [] out = refl
  past zero value (e ∷ entries) out = absurd (omega arith)
  past (suc place) value (e ∷ entries) out = ap (λ es. e ∷ es) (past place value entries (omega arith))

  pub set_past : (place : ℕ) (value : T) (entries : List (Unit × T)) → length entries ≤ place → entries ≡ with_value_at place value entries
  set_past place value entries out = sym (past place value entries out)

  pub set_nowhere : (unit : Unit) (value : T) (entries : List (Unit × T)) → rises (units_in entries) ≡ true → place_of entries unit ≡ None
      → entries ≡ with_value unit value entries
  set_nowhere unit value entries rising none =
      let out : length entries ≤ position_or_len (λ (e : Unit × T). same_unit e.0 unit) entries = grind (arith, nat_tests) in
      set_past (position_or_len (λ (e : Unit × T). same_unit e.0 unit) entries) value entries out ∙ by_place unit value entries rising

pub value_of-mapped : {T U : Type 0} (f : Unit → T → U) (entries : List (Unit × T)) (unit : Unit) → value_of (mapped f entries) unit ≡ option_map (f unit) (value_of entries unit)
value_of-mapped f [] unit = refl
value_of-mapped f (e ∷ entries) unit =
    ap (λ v. cond (same_unit e.0 unit) (Some (f e.0 e.1)) v) (value_of-mapped f entries unit) ∙ at (same_unit e.0 unit) refl
  where
    at : (b : Bool) → same_unit e.0 unit ≡ b
        → cond b (Some (f e.0 e.1)) (option_map (f unit) (value_of entries unit)) ≡ option_map (f unit) (cond b (Some e.1) (value_of entries unit))
    at true here = ap (λ u. Some (f u e.1)) (same_is e.0 unit here)
    at false here = refl

pub units_in-mapped : {T U : Type 0} (f : Unit → T → U) (entries : List (Unit × T)) → units_in (mapped f entries) ≡ units_in entries
units_in-mapped f [] = refl
units_in-mapped f (e ∷ entries) = ap (λ us. e.0 ∷ us) (units_in-mapped f entries)

-- ---- by place

module _ {T : Type 0} where
  -- the entry at the place has the value, and all others stay
  pub entry-with_at : (place : ℕ) (value : T) (entries : List (Unit × T)) (other : ℕ)
      → slice_get (with_value_at place value entries) other
      ≡ cond (place == other) (option_map (λ e. (e.0, value)) (slice_get entries other)) (slice_get entries other)
  entry-with_at place value [] other = at (place == other) None
    where
      at : (b : Bool) (o : Option (Unit × T)) → o ≡ cond b o o
      at true o = refl
      at false o = refl
  entry-with_at zero value (e ∷ entries) zero = refl
  entry-with_at zero value (e ∷ entries) (suc other) =
      let apart : (0 == suc other) ≡ false = grind (arith, nat_tests) in
      sym (ap (λ b. cond b (option_map (λ (e : Unit × T). (e.0, value)) (slice_get entries other)) (slice_get entries other)) apart)
  entry-with_at (suc place) value (e ∷ entries) zero =
      let apart : (suc place == 0) ≡ false = grind (arith, nat_tests) in
      sym (ap (λ b. cond b (Some (e.0, value)) (Some e)) apart)
  entry-with_at (suc place) value (e ∷ entries) (suc other) =
      entry-with_at place value entries other
      ∙ ap (λ b. cond b (option_map (λ (e : Unit × T). (e.0, value)) (slice_get entries other)) (slice_get entries other)) (next place other)
    where
      next : (a b : ℕ) → (a == b) ≡ (suc a == suc b)
      next a b = grind (arith, nat_tests)

  -- a loop that makes each value anew, place by place: the entry that is next, and the entries after its turn
  pub next_entry : (f : Unit → T → T) (entries : List (Unit × T)) (place : ℕ)
      → slice_get (mapped f (take place entries) ++ drop place entries) place ≡ slice_get entries place
  next_entry f entries zero = refl
  next_entry f [] (suc place) = refl
  next_entry f (e ∷ entries) (suc place) = next_entry f entries place

  pub next_made : (f : Unit → T → T) (entries : List (Unit × T)) (place : ℕ) (e : Unit × T)
      → slice_get entries place ≡ Some e
      → with_value_at place (f e.0 e.1) (mapped f (take place entries) ++ drop place entries)
      ≡ mapped f (take (place + 1) entries) ++ drop (place + 1) entries
  next_made f entries place e here =
      let next : place + 1 ≡ suc place = omega arith in
      rw next (step entries place here)
    where
      step : (entries : List (Unit × T)) (place : ℕ) → slice_get entries place ≡ Some e
          → with_value_at place (f e.0 e.1) (mapped f (take place entries) ++ drop place entries)
          ≡ mapped f (take (suc place) entries) ++ drop (suc place) entries
      step [] place here = cc
      step (x ∷ entries) zero here = let same : x ≡ e = cc in ap (λ y. (x.0, f y.0 y.1) ∷ entries) (sym same)
      step (x ∷ entries) (suc place) here = ap (λ es. (x.0, f x.0 x.1) ∷ es) (step entries place here)

-- ---- the places of nodes by number

module _ {T : Type 0} where
  -- a write at a place leaves the places of all units
  same_first : (place : ℕ) (value : T) (entries : List (Unit × T)) (unit : Unit)
      → position_or_len (λ e. same_unit e.0 unit) (with_value_at place value entries) ≡ position_or_len (λ e. same_unit e.0 unit) entries
  same_first place value [] unit = refl
  same_first zero value (e ∷ entries) unit = refl
  same_first (suc place) value (e ∷ entries) unit = ap (λ n. cond (not (same_unit e.0 unit)) (1 + n) 0) (same_first place value entries unit)

  same_length : (place : ℕ) (value : T) (entries : List (Unit × T)) → length (with_value_at place value entries) ≡ length entries
  same_length place value [] = refl
  same_length zero value (e ∷ entries) = refl
  same_length (suc place) value (e ∷ entries) = ap suc (same_length place value entries)

  pub place_of-with_at : (place : ℕ) (value : T) (entries : List (Unit × T)) (unit : Unit)
      → place_of (with_value_at place value entries) unit ≡ place_of entries unit
  place_of-with_at place value entries unit =
      ap (λ n. cond (nat_lt n (length (with_value_at place value entries))) (Some n) None) (same_first place value entries unit)
      ∙ ap
      (λ len. cond (nat_lt (position_or_len (λ (e : Unit × T). same_unit e.0 unit) entries) len) (Some (position_or_len (λ (e : Unit × T). same_unit e.0 unit) entries)) None)
      (same_length place value entries)

  pub places_stay : (place : ℕ) (value : T) (entries : List (Unit × T)) (places : List (Option ℕ)) → AreNodePlaces entries places
      → AreNodePlaces (with_value_at place value entries) places
  places_stay place value entries places are number found here =
      place_of-with_at place value entries (Node (record { 0 = number })) ∙ are number found here

  -- the place that is kept for a node, if one is
  pub kept_for : (entries : List (Unit × T)) (places : List (Option ℕ)) (unit : Unit) (node : NodeId) (found : Option ℕ)
      → AreNodePlaces entries places
      → unit ≡ Node node
      → found ≡ unwrap_or (slice_get places node.0) None
      → IfSome found (λ place. place_of entries unit ≡ Some place)
  kept_for entries places unit node None are is found = tt
  kept_for entries places unit node (Some place) are is found = at (slice_get places node.0) refl found
    where
      at : (o : Option (Option ℕ)) → slice_get places node.0 ≡ o → Some place ≡ unwrap_or o None → place_of entries unit ≡ Some place
      at None here kept = cc
      at (Some other) here kept = ap (place_of entries) is ∙ are node.0 place (here ∙ ap Some (sym kept))

  pub one_more_place : (entries : List (Unit × T)) (places : List (Option ℕ)) (number : ℕ) (place : Option ℕ)
      → length places ≡ number
      → AreNodePlaces entries places
      → place ≡ place_of entries (Node (record { 0 = number }))
      → AreNodePlaces entries (places ++ place ∷ [])
  one_more_place entries places number place count are is =
      λ n found here. all_and_last At places place (λ k x there found kept. are k found (there ∙ ap Some kept))
      (λ found kept. sym is_at ∙ kept) n (Some found) here found refl
    where
      At : ℕ → Option ℕ → Type 0
      At number x = (found : ℕ) → x ≡ Some found → place_of entries (Node (record { 0 = number })) ≡ Some found

      is_at : place ≡ place_of entries (Node (record { 0 = length places }))
      is_at = is ∙ ap (λ (n : ℕ). place_of entries (Node (record { 0 = n }))) (sym count)

      all_and_last : {X : Type 0} (P : ℕ → X → Type 0) (xs : List X) (y : X) → ((k : ℕ) (x : X) → slice_get xs k ≡ Some x → P k x) → P (length xs) y
          → (k : ℕ) (x : X) → slice_get (xs ++ y ∷ []) k ≡ Some x → P k x
      all_and_last P [] y all last zero x here = let same : y ≡ x = cc in subst (P 0) same last
      all_and_last P [] y all last (suc k) x here = cc
      all_and_last P (z ∷ xs) y all last zero x here = all zero x here
      all_and_last P (z ∷ xs) y all last (suc k) x here = all_and_last (λ k. P (suc k)) xs y (λ k. all (suc k)) last k x here

  -- the value of a unit stands at its place
  value_at : (entries : List (Unit × T)) (unit : Unit)
      → option_map (λ e. e.1) (slice_get entries (position_or_len (λ e. same_unit e.0 unit) entries)) ≡ value_of entries unit
  value_at [] unit = refl
  value_at (e ∷ entries) unit = at (same_unit e.0 unit) (value_at entries unit)
    where
      at : (b : Bool)
          → option_map (λ (e : Unit × T). e.1) (slice_get entries (position_or_len (λ e. same_unit e.0 unit) entries)) ≡ value_of entries unit
          → option_map (λ (e : Unit × T). e.1) (slice_get (e ∷ entries) (cond (not b) (1 + position_or_len (λ e. same_unit e.0 unit) entries) 0))
          ≡ cond b (Some e.1) (value_of entries unit)
      at true later = refl
      at false later =
          let next : 1 + position_or_len (λ (e : Unit × T). same_unit e.0 unit) entries ≡ suc (position_or_len (λ (e : Unit × T). same_unit e.0 unit) entries) = omega arith in
          rw next later

  pub found_at : (entries : List (Unit × T)) (unit : Unit) (place : ℕ) (found : Option (Unit × T))
      → place_of entries unit ≡ Some place → found ≡ slice_get entries place → value_of entries unit ≡ option_map (λ e. e.1) found
  found_at entries unit place found here is =
      let at : place ≡ position_or_len (λ (e : Unit × T). same_unit e.0 unit) entries = grind (arith, nat_tests) in
      sym (value_at entries unit) ∙ ap (λ k. option_map (λ (e : Unit × T). e.1) (slice_get entries k)) (sym at) ∙ ap (option_map (λ (e : Unit × T). e.1)) (sym is)

  pub found_nowhere : (entries : List (Unit × T)) (unit : Unit) → place_of entries unit ≡ None → value_of entries unit ≡ None
  found_nowhere entries unit none =
      let out : length entries ≤ position_or_len (λ (e : Unit × T). same_unit e.0 unit) entries = grind (arith, nat_tests) in
      sym (value_at entries unit) ∙ ap (option_map (λ (e : Unit × T). e.1)) (past entries _ out)
    where
      past : (entries : List (Unit × T)) (k : ℕ) → length entries ≤ k → slice_get entries k ≡ None
      past [] k out = refl
      past (e ∷ entries) zero out = absurd (omega arith)
      past (e ∷ entries) (suc k) out = past entries k (omega arith)

-- ---- the same of a hash table, whose keys are units

pub agrees : (a b : Unit) → equality.eq-value.it a b ≡ same_unit b a
agrees (Node a) (Node b) = swapped a.0 b.0
agrees (Node a) (Line b) = refl
agrees (Line a) (Node b) = refl
agrees (Line a) (Line b) = swapped a.0 b.0

module _ {T : Type 0} where
  place_or_len : (unit : Unit) (entries : List (Unit × T)) → position_or_len (equality.eq-value.it unit) (keys_of entries) ≡ position_or_len (λ e. same_unit e.0 unit) entries
  place_or_len unit [] = refl
  place_or_len unit (e ∷ entries) =
      ap (λ b. cond (not b) (1 + position_or_len (equality.eq-value.it unit) (keys_of entries)) 0) (agrees unit e.0)
      ∙ ap (λ n. cond (not (same_unit e.0 unit)) (1 + n) 0) (place_or_len unit entries)

  pub place_of-is : (unit : Unit) (entries : List (Unit × T)) → position (equality.eq-value.it unit) (keys_of entries) ≡ place_of entries unit
  place_of-is unit entries =
      ap (λ n. cond (nat_lt n (length (keys_of entries))) (Some n) None) (place_or_len unit entries)
      ∙ ap
      (λ len. cond (nat_lt (position_or_len (λ (e : Unit × T). same_unit e.0 unit) entries) len) (Some (position_or_len (λ (e : Unit × T). same_unit e.0 unit) entries)) None)
      (length-map entries (λ (e : Unit × T). e.0))

  pub with_value_at-is : (entries : List (Unit × T)) (place : ℕ) (value : T) → set_value_at entries place value ≡ with_value_at place value entries
  with_value_at-is [] place value = refl
  with_value_at-is (e ∷ entries) zero value = refl
  with_value_at-is (e ∷ entries) (suc place) value = ap (λ es. e ∷ es) (with_value_at-is entries place value)

  -- a unit that isn't there goes last
  pub put_last : (unit : Unit) (value : T) (entries : List (Unit × T)) → has_in (units_in entries) unit ≡ false
      → insert_entry equality.eq-value.it entries unit value ≡ entries ++ (unit, value) ∷ []
  put_last unit value [] new = refl
  put_last unit value (e ∷ entries) new =
      let parts = neither (same_unit e.0 unit) _ new in
      ap (λ b. cond b ((e.0, value) ∷ entries) (e ∷ insert_entry equality.eq-value.it entries unit value)) (agrees unit e.0 ∙ parts.0)
      ∙ ap (λ es. e ∷ es) (put_last unit value entries parts.1)

-- ---- units that rise, one after another

early : (u : Unit) (units : List Unit) (k : ℕ) (unit : Unit) → list_all (is_before u) units ≡ true → slice_get units k ≡ Some unit → is_before u unit ≡ true
early u [] k unit all here = cc
early u (x ∷ units) zero unit all here = let parts = both (is_before u x) _ all in cc
early u (x ∷ units) (suc k) unit all here = early u units k unit (both (is_before u x) _ all).1 here

pub new_at : (units : List Unit) (k : ℕ) (unit : Unit) → rises units ≡ true → slice_get units k ≡ Some unit → has_in (take k units) unit ≡ false
new_at units zero unit rising here = refl
new_at [] (suc k) unit rising here = refl
new_at (u ∷ units) (suc k) unit rising here =
    let parts = both (list_all (is_before u) units) _ rising in
    let first = after_differs u unit (early u units k unit parts.0 here) in
    ap (λ b. b || has_in (take k units) unit) first ∙ new_at units k unit parts.1 here

-- the next of some units that rise isn't in the table of those before
pub next_is_new : {T : Type 0} (value : T) (units : List Unit) (k : ℕ) (unit : Unit) (entries : List (Unit × T))
    → rises units ≡ true
    → slice_get units k ≡ Some unit
    → entries ≡ all_at value (take k units)
    → has_in (units_in entries) unit ≡ false
next_is_new {T} value units k unit entries rising here so_far =
    ap (λ (es : List (Unit × T)). has_in (units_in es) unit) so_far
    ∙ ap (λ us. has_in us unit) (units_in-all value (take k units))
    ∙ new_at units k unit rising here

pub one_more : {T : Type 0} (value : T) (units : List Unit) (k : ℕ) (unit : Unit) (old new : List (Unit × T))
    → k < length units
    → unit ≡ get_or units k unit
    → old ≡ all_at value (take k units)
    → new ≡ old ++ (unit, value) ∷ []
    → new ≡ all_at value (take (k + 1) units)
one_more {T} value units k unit old new within here so_far put =
    put
    ∙ ap (λ (es : List (Unit × T)). es ++ (unit, value) ∷ []) so_far
    ∙ sym (map-append (λ u. (u, value)) (take k units) (unit ∷ []))
    ∙ ap (λ u. all_at value (take k units ++ u ∷ [])) here
    ∙ ap (all_at value) (sym (take_more units k unit within))
