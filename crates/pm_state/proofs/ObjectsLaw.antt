-- The objects of a run have the same masters, and what is found at an address is what is attached there.
use Rattle.std.proofs.Common.{◌≡◌, ℕ, ◌+◌, Bool, true, false, not, ◌==◌, if◌then◌else◌, List, [], ◌∷◌, ◌++◌, length, slice_get, is_some, cond, nat_lt, Option, Some, None, refl, zero, suc, sym, ◌∙◌, ap, arith}
use Rattle.std.specs.Prelude.{option_and_then, option_to_list, position}
use Rattle.std.specs.List.{position_or_len}
use Rattle.std.proofs.lemmas.Bool.{and_from, and_parts, eq-eqb, eqb-true}
use Rattle.pm_base.proofs.Booleans.{first_passes, later_passes}
use Rattle.pm_grants.specs.declared.grants.Grants.{Grants}
use Rattle.pm_grants.specs.Grants.{grants_of}
use Rattle.pm_grants.specs.Several.{all_grants, some_permits}
use Rattle.pm_object.specs.Attached.{have_same_masters, is_same_master, usable, usable_content}
use Rattle.pm_object.specs.declared.attached.Attached.{Attached}
use Rattle.pm_object.specs.declared.attached.Content.{Content}
use Rattle.pm_object.specs.declared.attached.Content.TheVariants as content
use Rattle.pm_object.specs.declared.object.MasterRec.{MasterRec}
use Rattle.pm_object.specs.declared.object.Object.{Object}
use Rattle.pm_topology.specs.declared.topology.Topology.{Topology}
use Rattle.pm_state.specs.declared.objects.Found.TheVariants as found
use Rattle.pm_state.specs.Objects.{first_attached, found_as, found_at, found_from, usable_first}
use Rattle.pm_state.specs.State.{Fixed, object_at, objects_of, usable_among}

-- an object has the masters of the loaded one
abbrev pub HasMastersOf : Object → Object → Type 0
HasMastersOf loaded object = have_same_masters loaded.masters object.masters ≡ true

own_masters : (masters : List MasterRec) → have_same_masters masters masters ≡ true
own_masters [] = refl
own_masters (x ∷ xs) = and_from _ _ (and_from _ _ (eq-eqb x.node x.node refl) (eq-eqb x.mask x.mask refl)) (own_masters xs)

by_test : (loaded object o : Object) (same : Bool) → have_same_masters loaded.masters object.masters ≡ same → (if same then Some object else None) ≡ Some o → HasMastersOf loaded o
by_test loaded object o true is chosen = let one : object ≡ o = cc in ap (λ (x : Object). have_same_masters loaded.masters x.masters) (sym one) ∙ is
by_test loaded object o false is chosen = cc

by_content : (loaded : Object) (c : Content) (o : Object) → usable_content loaded c ≡ Some o → HasMastersOf loaded o
by_content loaded (content.Bad fault) o is = cc
by_content loaded (content.Object object) o is = by_test loaded object o (have_same_masters loaded.masters object.masters) refl is

by_one : (loaded : Object) (a : Attached) (rest : List Object) (o : Object) (u : Option Object) → usable loaded a ≡ u → ((k : ℕ) → slice_get rest k ≡ Some o → HasMastersOf loaded o) → (k : ℕ) → slice_get (option_to_list u ++ rest) k ≡ Some o → HasMastersOf loaded o
by_one loaded a rest o None none later k is = later k is
by_one loaded a rest o (Some u) some later zero is = by_content loaded a.content o (some ∙ is)
by_one loaded a rest o (Some u) some later (suc k) is = later k is

among_same : (loaded : Object) (attached : List Attached) (o : Object) (k : ℕ) → slice_get (usable_among loaded attached) k ≡ Some o → HasMastersOf loaded o
among_same loaded [] o k is = cc
among_same loaded (a ∷ later) o k is = by_one loaded a (usable_among loaded later) o (usable loaded a) refl (among_same loaded later o) k is

-- each object of the run has the masters of the loaded one
pub of_run : (fixed : Fixed) (k : ℕ) (object : Object) → object_at fixed k ≡ Some object → HasMastersOf fixed.object object
of_run fixed zero object is = let one : fixed.object ≡ object = cc in ap (λ (x : Object). have_same_masters fixed.object.masters x.masters) (sym one) ∙ own_masters fixed.object.masters
of_run fixed (suc k) object is = among_same fixed.object fixed.attached object k is

same_count : (xs bs : List MasterRec) → have_same_masters xs bs ≡ true → length xs ≡ length bs
same_count [] [] same = refl
same_count [] (b ∷ bs) same = cc
same_count (a ∷ xs) [] same = cc
same_count (a ∷ xs) (b ∷ bs) same = ap suc (same_count xs bs (and_parts (is_same_master a b) (have_same_masters xs bs) same).1)

-- as many of them
pub masters_same : (fixed : Fixed) (k : ℕ) (object : Object) → object_at fixed k ≡ Some object → length object.masters ≡ length fixed.object.masters
masters_same fixed k object is = sym (same_count fixed.object.masters object.masters (of_run fixed k object is))

-- a number names the same place among them
abbrev has_number : ℕ → MasterRec → Bool
has_number node x = x.node == node

first_same : (node : ℕ) (xs bs : List MasterRec) → have_same_masters xs bs ≡ true → position_or_len (has_number node) xs ≡ position_or_len (has_number node) bs
first_same node [] [] same = refl
first_same node [] (b ∷ bs) same = cc
first_same node (a ∷ xs) [] same = cc
first_same node (a ∷ xs) (b ∷ bs) same =
    let parts = and_parts (is_same_master a b) (have_same_masters xs bs) same in
    let alike : a.node ≡ b.node = eqb-true a.node b.node (and_parts (a.node == b.node) (a.mask == b.mask) parts.0).0 in
    ap (λ n. cond (not (n == node)) (1 + position_or_len (has_number node) xs) 0) alike
    ∙ ap (λ k. cond (not (b.node == node)) (1 + k) 0) (first_same node xs bs parts.1)

pub place_same : (node : ℕ) (xs bs : List MasterRec) → have_same_masters xs bs ≡ true → position (has_number node) xs ≡ position (has_number node) bs
place_same node xs bs same =
    ap (λ k. cond (nat_lt k (length xs)) (Some k) None) (first_same node xs bs same)
    ∙ ap (λ n. cond (nat_lt (position_or_len (has_number node) bs) n) (Some (position_or_len (has_number node) bs)) None) (same_count xs bs same)

-- what one of them permits some object of the run permits
some_has : (permits : Grants → Bool) (t : Topology) (objects : List Object) (k : ℕ) (object : Object) → slice_get objects k ≡ Some object → permits (grants_of object t) ≡ true → some_permits permits (all_grants objects t) ≡ true
some_has permits t [] k object at may = cc
some_has permits t (x ∷ xs) zero object at may =
    let one : x ≡ object = cc in
    first_passes (permits (grants_of x t)) (some_permits permits (all_grants xs t)) (ap (λ (o : Object). permits (grants_of o t)) one ∙ may)
some_has permits t (x ∷ xs) (suc k) object at may =
    later_passes (permits (grants_of x t)) (some_permits permits (all_grants xs t)) (some_has permits t xs k object at may)

pub permitted_by_some : (permits : Grants → Bool) (fixed : Fixed) (k : ℕ) (object : Object) → object_at fixed k ≡ Some object → permits (grants_of object fixed.topology) ≡ true → some_permits permits (all_grants (objects_of fixed) fixed.topology) ≡ true
permitted_by_some permits fixed k object at may = some_has permits fixed.topology (objects_of fixed) k object at may

-- ---- what is found at an address

found_one : (k j : ℕ) (c : Content) (usable : Bool) → found_as k c usable ≡ found.Usable j → (usable ≡ true) × (k ≡ j)
found_one k j (content.Bad fault) usable is = cc
found_one k j (content.Object object) true is = (refl, cc)
found_one k j (content.Object object) false is = cc

find_here : (address : ℕ) (a : Attached) (later : List Attached) (here : Bool) → (a.address == address) ≡ here → first_attached address (a ∷ later) ≡ (if here then Some a else first_attached address later)
find_here address a later true is = rw is refl
find_here address a later false is = rw is refl

-- the object that is found at an address stands at its place among those of the run
pub record FoundAt (object : Object) (address k j : ℕ) (attached : List Attached) : Type 0 where
  pub past : ℕ
  pub place : j ≡ k + past
  pub there : slice_get (usable_among object attached) past ≡ usable_first object address attached

by_address : (object : Object) (address k j : ℕ) (a : Attached) (later : List Attached) (here : Bool) → (a.address == address) ≡ here → (u : Option Object) → usable object a ≡ u
    → ((n : ℕ) → found_from object address n later ≡ found.Usable j → FoundAt object address n j later)
    → (if here then found_as k a.content (is_some u) else found_from object address (if is_some u then k + 1 else k) later) ≡ found.Usable j
    → FoundAt object address k j (a ∷ later)
by_address object address k j a later true here None none rest is =
    let never : false ≡ true = (found_one k j a.content false is).0 in
    cc
by_address object address k j a later true here (Some u) some rest is =
    let own : k ≡ j = (found_one k j a.content true is).1 in
    record {
      past = 0;
      place = omega (arith, own);
      there = ap (λ (o : Option Object). slice_get (option_to_list o ++ usable_among object later) 0) some
          ∙ sym (ap (option_and_then (usable object)) (find_here address a later true here) ∙ some);
    }
by_address object address k j a later false here None none rest is =
    let f : FoundAt object address k j later = rest k is in
    record {
      past = f.past;
      place = f.place;
      there = ap (λ (o : Option Object). slice_get (option_to_list o ++ usable_among object later) f.past) none
          ∙ (f.there ∙ sym (ap (option_and_then (usable object)) (find_here address a later false here)));
    }
by_address object address k j a later false here (Some u) some rest is =
    let f : FoundAt object address (k + 1) j later = rest (k + 1) is in
    record {
      past = suc f.past;
      place = omega (arith, f.place);
      there = ap (λ (o : Option Object). slice_get (option_to_list o ++ usable_among object later) (suc f.past)) some
          ∙ (f.there ∙ sym (ap (option_and_then (usable object)) (find_here address a later false here)));
    }

found_in : (object : Object) (address k j : ℕ) (attached : List Attached) → found_from object address k attached ≡ found.Usable j → FoundAt object address k j attached
found_in object address k j [] is = cc
found_in object address k j (a ∷ later) is =
    by_address object address k j a later (a.address == address) refl (usable object a) refl (λ n. found_in object address n j later) is

-- the object that is found at an address is what is attached there first, and can be put in force
pub found_is : (address : ℕ) (fixed : Fixed) (k : ℕ) → found_at address fixed ≡ found.Usable k → object_at fixed k ≡ usable_first fixed.object address fixed.attached
found_is address fixed k is =
    let f : FoundAt fixed.object address 1 k fixed.attached = found_in fixed.object address 1 k fixed.attached is in
    let place : k ≡ suc f.past = omega (arith, f.place) in
    ap (λ n. slice_get (objects_of fixed) n) place ∙ f.there
