-- The masters of a well-formed object by their places and by their numbers. A master to which anything is permitted
-- is at a place.
use Rattle.std.proofs.Common.{◌≡◌, ℕ, ◌<◌, ◌==◌, ◌||◌, Bool, true, false, true≢false, not, zero, suc, List, [], ◌∷◌, length, map, slice_get, position, unwrap_or, Option, Some, None, refl, ap, sym, ◌∙◌, arith, inl, inr}
use Rattle.std.specs.Int.Bits.{and_zero_l, and_zero_r}
use Rattle.std.specs.Option.{option_map, option_map_or}
use Rattle.std.specs.List.{AllByRecursion as Each}
use Rattle.std.proofs.lemmas.Bool.{eqb-true}
use Rattle.std.proofs.lemmas.Option.{slice_get-map, slice_get_within}
use Rattle.pm_base.proofs.Booleans.{differs, either, first_passes, later_passes}
use Rattle.pm_base.proofs.Searches.{position-first, position-none}
use Rattle.pm_topology.specs.WellFormed.{AreDistinct}
use Rattle.pm_laws.proofs.Common.{IsObject, MasterRec, NodeId, Object, Topology}
use Rattle.pm_perms.specs.Permits.{mask_has}
use Rattle.pm_grants.specs.declared.grants.Grants.{Grants}
use Rattle.pm_grants.specs.declared.grants.MasterMasks.{MasterMasks}
use Rattle.pm_grants.specs.Grants.{bit_of, grants_of, is_within_mask, mask_at, master_masks, permits_shut, shut_mask}
use Rattle.pm_grants.specs.Laws.{GrantLaws, at_place, at_places, master_place}
use Rattle.pm_grants.specs.Several.{all_grants, some_permits}
use Rattle.pm_reach.specs.Leads.{node_at}

pub node_is : (o : Object) (place : ℕ) (master : MasterRec) → slice_get o.masters place ≡ Some master → node_at (o ∷ []) place ≡ record { 0 = master.node }
node_is o place master is = rw is refl

pub entry_there : {X : Type 0} (xs : List X) (k : ℕ) → k < length xs → (x : X) × (slice_get xs k ≡ Some x)
entry_there [] k within = absurd (omega arith)
entry_there (x ∷ xs) zero within = (x, refl)
entry_there (x ∷ xs) (suc k) within = entry_there xs k (omega arith)

-- the place of the number of an entry, if no two entries have one number
pub own_at : {X : Type 0} (number : X → ℕ) (xs : List X) → AreDistinct number xs → (k : ℕ) (x : X) → slice_get xs k ≡ Some x
    → position (λ y. number y == number x) xs ≡ Some k
own_at {X} number xs distinct k x is = at (position (λ y. number y == number x) xs) refl
  where
    at : (got : Option ℕ) → position (λ y. number y == number x) xs ≡ got → position (λ y. number y == number x) xs ≡ Some k
    at None none = absurd (differs (number x) (number x) (position-none (λ y. number y == number x) xs none k x is) refl)
    at (Some j) found =
        let first = position-first (λ y. number y == number x) xs j found in
        let same : j ≡ k = distinct j k first.element x first.here is (eqb-true (number first.element) (number x) first.passes) in
        found ∙ ap (λ n. Some n) same

-- what is looked up at places that are known
pub at_both : (f : ℕ → ℕ → Bool) (a b : Option ℕ) (m k : ℕ) → a ≡ Some m → b ≡ Some k → at_places f a b ≡ f m k
at_both f a b m k first second = ap (λ p. at_places f p b) first ∙ ap (at_place (f m)) second

-- ---- only who stands at a place is permitted anything

-- no bit is in a mask, and none has any
no_bit : (mask bit : ℕ) → bit ≡ 0 → mask_has mask bit ≡ false
no_bit mask bit none = ap (mask_has mask) none ∙ ap (λ (n : ℕ). not (n == 0)) (and_zero_r mask)

no_mask : (mask bit : ℕ) → mask ≡ 0 → mask_has mask bit ≡ false
no_mask mask bit none = ap (λ mask. mask_has mask bit) none ∙ ap (λ (n : ℕ). not (n == 0)) (and_zero_l bit)

-- a place past the end has no mask
past_mask : {X : Type 0} (f : X → ℕ) (xs : List X) (k : ℕ) → slice_get xs k ≡ None → option_map_or f (slice_get xs k) 0 ≡ 0
past_mask f xs k is = ap (λ o. option_map_or f o 0) is

module _ (o : Object) (t : Topology) where
  -- what is compiled of a master at no place
  none_past : (word : MasterMasks → ℕ) (m : ℕ) → slice_get o.masters m ≡ None → option_map_or word (slice_get (grants_of o t).masters m) 0 ≡ 0
  none_past word m is = past_mask word (grants_of o t).masters m (slice_get-map master_masks o.masters m ∙ ap (option_map master_masks) is)

  by_place : (m : ℕ) (may : Bool) → (slice_get o.masters m ≡ None → may ≡ false) → may ≡ true → m < length o.masters
  by_place m may fails e = at (slice_get o.masters m) refl
    where
      at : (got : Option MasterRec) → slice_get o.masters m ≡ got → m < length o.masters
      at (Some master) is = slice_get_within o.masters m master is
      at None is = absurd (true≢false (sym e ∙ fails is))

  -- who is in a mask
  pub within_there : (m mask : ℕ) → is_within_mask (grants_of o t) m mask ≡ true → m < length o.masters
  within_there m mask e =
      by_place m (is_within_mask (grants_of o t) m mask) (λ is. no_bit mask (bit_of (grants_of o t) m) (none_past (λ x. x.bit) m is)) e

  -- whose masks have another
  pub word_there : (word : MasterMasks → ℕ) (m k : ℕ) → is_within_mask (grants_of o t) k (option_map_or word (slice_get (grants_of o t).masters m) 0) ≡ true → m < length o.masters
  word_there word m k e =
      by_place m (is_within_mask (grants_of o t) k (option_map_or word (slice_get (grants_of o t).masters m) 0))
      (λ is. no_mask (option_map_or word (slice_get (grants_of o t).masters m) 0) (bit_of (grants_of o t) k) (none_past word m is)) e

  -- who may shut down more than itself does so by its mask, and by subtype 1 or 2
  pub shut_there : (m subtype : ℕ) → (subtype == 0) ≡ false → permits_shut (grants_of o t) m subtype ≡ true → m < length o.masters
  shut_there m subtype more e =
      let by_mask : permits_shut (grants_of o t) m subtype ≡ is_within_mask (grants_of o t) m (shut_mask (grants_of o t) subtype) = rw more refl in
      within_there m (shut_mask (grants_of o t) subtype) (sym by_mask ∙ e)

  shut_by : (m subtype : ℕ) (one two : Bool) → (subtype == 1) ≡ one → (subtype == 2) ≡ two → (subtype == 0) ≡ false → permits_shut (grants_of o t) m subtype ≡ true
      → (permits_shut (grants_of o t) m 1 || permits_shut (grants_of o t) m 2) ≡ true
  shut_by m subtype true two is_one is_two more e =
      first_passes (permits_shut (grants_of o t) m 1) (permits_shut (grants_of o t) m 2) (ap (permits_shut (grants_of o t) m) (sym (eqb-true subtype 1 is_one)) ∙ e)
  shut_by m subtype false true is_one is_two more e =
      later_passes (permits_shut (grants_of o t) m 1) (permits_shut (grants_of o t) m 2) (ap (permits_shut (grants_of o t) m) (sym (eqb-true subtype 2 is_two)) ∙ e)
  shut_by m subtype false false is_one is_two more e =
      let none : permits_shut (grants_of o t) m subtype ≡ false = rw (more, is_one, is_two) (no_mask 0 (bit_of (grants_of o t) m) refl) in
      absurd (true≢false (sym e ∙ none))

  pub more_shut : (m subtype : ℕ) → (subtype == 0) ≡ false → permits_shut (grants_of o t) m subtype ≡ true
      → (permits_shut (grants_of o t) m 1 || permits_shut (grants_of o t) m 2) ≡ true
  more_shut m subtype more e = shut_by m subtype (subtype == 1) (subtype == 2) refl refl more e

  -- the entry at a place whose mask has somebody
  pub entry_of : {X : Type 0} (mask : X → ℕ) (xs : List X) (m k : ℕ) → is_within_mask (grants_of o t) m (mask_at (map mask xs) k) ≡ true → (x : X) × (slice_get xs k ≡ Some x)
  entry_of {X} mask xs m k e = at (slice_get xs k) refl
    where
      at : (got : Option X) → slice_get xs k ≡ got → (x : X) × (slice_get xs k ≡ Some x)
      at (Some x) is = (x, is)
      at None is =
          let nothing : mask_at (map mask xs) k ≡ 0 = ap (λ o. unwrap_or o 0) (slice_get-map mask xs k ∙ ap (option_map mask) is) in
          absurd (true≢false (sym e ∙ no_mask (mask_at (map mask xs) k) (bit_of (grants_of o t) m) nothing))

  -- the place of the number of a master
  pub placed : GrantLaws → IsObject o → (m : ℕ) → m < length o.masters → master_place o.masters (node_at (o ∷ []) m) ≡ Some m
  placed laws formed m there =
      let entry = entry_there o.masters m there in
      ap (master_place o.masters) (node_is o m entry.0 entry.1) ∙ laws.places o m entry.0 formed entry.1

-- ---- several objects, in which the masters stand where they do in the loaded one

pub record IsOne (object : Object) (others : List Object) (t : Topology) (o : Object) : Type 0 where
  pub formed : IsObject o
  pub placed : (node : NodeId) → master_place o.masters node ≡ master_place object.masters node
  pub gives : (permits : Grants → Bool) → permits (grants_of o t) ≡ true → some_permits permits (all_grants (object ∷ others) t) ≡ true

-- one of these objects permits what some of them does
pub one_permits : (P : Object → Type 0) (t : Topology) (permits : Grants → Bool) (os : List Object) → Each P os → some_permits permits (all_grants os t) ≡ true
    → (o : Object) × P o × (permits (grants_of o t) ≡ true)
one_permits P t permits [] each e = cc
one_permits P t permits (o ∷ os) each e =
    elim (either (permits (grants_of o t)) (some_permits permits (all_grants os t)) e) [
      | inl here ↦ (o, each.0, here)
      | inr later ↦ one_permits P t permits os each.1 later
    ]

module _ (object : Object) (others : List Object) (t : Topology) where
  abbrev Placed : Object → Type 0
  Placed o = (node : NodeId) → master_place o.masters node ≡ master_place object.masters node

  pub ones : (os : List Object) → ((permits : Grants → Bool) → some_permits permits (all_grants os t) ≡ true → some_permits permits (all_grants (object ∷ others) t) ≡ true)
      → Each IsObject os → Each Placed os → Each (IsOne object others t) os
  ones [] among formed placed = tt
  ones (o ∷ os) among formed placed = (
    record {
      formed = formed.0;
      placed = placed.0;
      gives = λ permits may. among permits (first_passes (permits (grants_of o t)) (some_permits permits (all_grants os t)) may);
    },
    ones os (λ permits may. among permits (later_passes (permits (grants_of o t)) (some_permits permits (all_grants os t)) may)) formed.1 placed.1,
  )

  -- a master of one of them is at a place of the loaded one
  pub placed_in : GrantLaws → (o : Object) → IsOne object others t o → (m : ℕ) → m < length o.masters → m < length object.masters
  placed_in laws o one m there =
      let entry = entry_there o.masters m there in
      let master : MasterRec = entry.0 in
      let node : NodeId = record { 0 = master.node } in
      let place : master_place object.masters node ≡ Some m = sym (one.placed node) ∙ laws.places o m master one.formed entry.1 in
      let first = position-first (λ (x : MasterRec). x.node == master.node) object.masters m place in
      slice_get_within object.masters m first.element first.here
