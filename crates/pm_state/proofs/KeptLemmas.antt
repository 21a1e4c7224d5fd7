-- What is kept of the objects of a run is enough for each of them.
use Rattle.std.proofs.Common.{◌≡◌, ℕ, ◌+◌, ◌<◌, ◌≤◌, max, true, false, if◌then◌else◌, nat_lt, List, [], ◌∷◌, map, length, slice_get, Option, Some, None, refl, zero, suc, sym, ◌∙◌, ap, subst, arith}
use Rattle.std.specs.Prelude.{option_map, unwrap_or}
use Rattle.std.specs.List.{list_all, AllByRecursion as Each}
use Rattle.std.proofs.lemmas.Bool.{and_from, lt-ltb}
use Rattle.std.proofs.lemmas.List.{length-map}
use Rattle.std.proofs.lemmas.Option.{slice_get-map}
use Rattle.pm_base.specs.declared.names.Mode.{Mode}
use Rattle.pm_object.specs.declared.attached.Attached.{Attached}
use Rattle.pm_object.specs.declared.object.MasterRec.{MasterRec}
use Rattle.pm_object.specs.declared.object.Object.{Object}
use Rattle.pm_object.specs.declared.object.SlaveRec.{SlaveRec}
use Rattle.pm_perms.specs.Permits.{mask_has, slave_record}
use Rattle.pm_rows.specs.declared.row.RowSeed.{RowSeed}
use Rattle.pm_rows.specs.Counted.{is_placed_seed}
use Rattle.pm_rows.specs.Rows.{Rows, loaded_entry, loaded_rows, remade}
use Rattle.pm_topology.specs.declared.topology.SlaveDef.{SlaveDef}
use Rattle.pm_topology.specs.declared.topology.Topology.{Topology}
use Rattle.pm_state.specs.declared.pairs.Permitted.{Permitted}
use Rattle.pm_state.specs.declared.policies.Policy.{Policy}
use Rattle.pm_grants.specs.Grants.{grants_of}
use Rattle.pm_state.specs.Kept.{KeepsObjects}
use Rattle.pm_state.specs.Pairs.{permitted_from, permitted_in, permitted_of, permitted_of_masters, permitted_on, seed_anew, seed_at_load, seeds_anew, seeds_at_load}
use Rattle.pm_state.specs.Policies.{most_of, policies_of, policy_of}
use Rattle.pm_state.specs.State.{objects_in}
use Rattle.pm_state.proofs.Each.{Each-append}

-- ---- the policies

-- none of these has more pairs than the most
pub most_holds : (policies : List Policy) (k : ℕ) (policy : Policy) → slice_get policies k ≡ Some policy → length policy.pairs ≤ most_of policies
most_holds [] k policy is = cc
most_holds (p ∷ ps) zero policy is =
    let same : p ≡ policy = cc in
    let P : Policy → Type 0 = λ x. length x.pairs ≤ max (length p.pairs) (most_of ps) in
    subst P same (omega arith)
most_holds (p ∷ ps) (suc k) policy is = omega (arith, most_holds ps k policy is)

pub policies_long : (t : Topology) (objects : List Object) (policies : List Policy) → policies ≡ policies_of t objects → length policies ≡ length objects
policies_long t objects policies are = ap length are ∙ length-map objects (policy_of t)

-- the policy at a place is that of the object there
pub policy_is : (t : Topology) (objects : List Object) (policies : List Policy) (k : ℕ) (object : Object) (policy : Policy) → policies ≡ policies_of t objects → slice_get objects k ≡ Some object → slice_get policies k ≡ Some policy → policy ≡ policy_of t object
policy_is t objects policies k object policy are here there =
    let same : Some policy ≡ Some (policy_of t object) =
    sym there ∙ (ap (λ ps. slice_get ps k) are ∙ (slice_get-map (policy_of t) objects k ∙ ap (option_map (policy_of t)) here))
    in
    cc

-- the loaded object is the first one of the run
pub loaded_first : (object : Object) (attached : List Attached) (objects : List Object) → objects ≡ objects_in object attached → slice_get objects 0 ≡ Some object
loaded_first object attached objects are = ap (λ os. slice_get os 0) are

-- at each place among these there is one
pub is_there : {X : Type 0} (xs : List X) (k : ℕ) (d : X) → k < length xs → slice_get xs k ≡ Some (unwrap_or (slice_get xs k) d)
is_there [] k d within = absurd (omega (arith, within))
is_there (x ∷ xs) zero d within = refl
is_there (x ∷ xs) (suc k) d within = is_there xs k d (omega (arith, within))

-- and from their end on there is none
pub is_past : {X : Type 0} (xs : List X) (k : ℕ) → length xs ≤ k → slice_get xs k ≡ None
is_past [] k past = refl
is_past (x ∷ xs) zero past = absurd (omega (arith, past))
is_past (x ∷ xs) (suc k) past = is_past xs k (omega (arith, past))

-- ---- each pair has a slave of the chip

abbrev on_chip : ℕ → Permitted → Type 0
on_chip slaves p = p.pair.slave < slaves

masters_placed : (slaves : ℕ) (object : Object) (m s : ℕ) (slave : SlaveDef) (r : SlaveRec) (left : List MasterRec) → s < slaves → Each (on_chip slaves) (permitted_of_masters object m s slave r left)
masters_placed slaves object m s slave r [] within = tt
masters_placed slaves object m s slave r (x ∷ xs) within =
    Each-append (on_chip slaves) (if mask_has r.mask x.mask then permitted_of object m x s slave r ∷ [] else []) (permitted_of_masters object (m + 1) s slave r xs)
    (elim (mask_has r.mask x.mask) as (λ b. Each (on_chip slaves) (if b then permitted_of object m x s slave r ∷ [] else [])) [
      | true ↦ (within, tt)
      | false ↦ tt
    ])
    (masters_placed slaves object (m + 1) s slave r xs within)

on_placed : (slaves : ℕ) (object : Object) (s : ℕ) (slave : SlaveDef) (r : Option SlaveRec) → s < slaves → Each (on_chip slaves) (permitted_on object s slave r)
on_placed slaves object s slave None within = tt
on_placed slaves object s slave (Some r) within = masters_placed slaves object 0 s slave r object.masters within

from_placed : (slaves : ℕ) (object : Object) (s : ℕ) (left : List SlaveDef) → s + length left ≤ slaves → Each (on_chip slaves) (permitted_from object s left)
from_placed slaves object s [] fits = tt
from_placed slaves object s (x ∷ xs) fits =
    Each-append (on_chip slaves) (permitted_on object s x (slave_record object x.node)) (permitted_from object (s + 1) xs)
    (on_placed slaves object s x (slave_record object x.node) (omega (arith, fits)))
    (from_placed slaves object (s + 1) xs (omega (arith, fits)))

load_all : (slaves boot : ℕ) (ps : List Permitted) → Each (on_chip slaves) ps → list_all (is_placed_seed slaves) (map (seed_at_load boot) ps) ≡ true
load_all slaves boot [] each = refl
load_all slaves boot (p ∷ ps) each =
    and_from (nat_lt p.pair.slave slaves) (list_all (is_placed_seed slaves) (map (seed_at_load boot) ps)) (lt-ltb p.pair.slave slaves each.0) (load_all slaves boot ps each.1)

anew_all : (slaves : ℕ) (known : List Mode) (all ps : List Permitted) → Each (on_chip slaves) ps → list_all (is_placed_seed slaves) (map (seed_anew known all) ps) ≡ true
anew_all slaves known all [] each = refl
anew_all slaves known all (p ∷ ps) each =
    and_from (nat_lt p.pair.slave slaves) (list_all (is_placed_seed slaves) (map (seed_anew known all) ps)) (lt-ltb p.pair.slave slaves each.0) (anew_all slaves known all ps each.1)

-- the rows at load are on slaves of the chip
pub load_placed : (boot : ℕ) (object : Object) (t : Topology) (slaves : ℕ) → slaves ≡ length t.slaves → list_all (is_placed_seed slaves) (seeds_at_load boot object t) ≡ true
load_placed boot object t slaves same = load_all slaves boot (permitted_in object t) (from_placed slaves object 0 t.slaves (omega (arith, same)))

-- and so are those that are made anew
pub anew_placed : (known : List Mode) (object : Object) (t : Topology) (slaves : ℕ) → slaves ≡ length t.slaves → list_all (is_placed_seed slaves) (seeds_anew object t known) ≡ true
anew_placed known object t slaves same =
    anew_all slaves known (permitted_in object t) (permitted_in object t) (from_placed slaves object 0 t.slaves (omega (arith, same)))

-- ---- what is kept

module _ (object : Object) (attached : List Attached) (t : Topology) (objects : List Object) (policies : List Policy) (force seeds slaves rows : ℕ) (keeps : KeepsObjects object attached t objects policies force seeds slaves rows) where
  -- there is a policy at the place of each object
  pub policy_there : (k : ℕ) → k < length objects → k < length policies
  policy_there k within = omega (arith, within, policies_long t objects policies keeps.permits)

  at_object : (k : ℕ) (policy : Policy) → k < length objects → slice_get policies k ≡ Some policy → policy ≡ policy_of t (unwrap_or (slice_get objects k) object)
  at_object k policy within there =
      policy_is t objects policies k (unwrap_or (slice_get objects k) object) policy keeps.permits (is_there objects k object within) there

  -- what it permits, pair by pair and by places, is what that object does
  pub pairs_at : (k : ℕ) (policy : Policy) → k < length objects → slice_get policies k ≡ Some policy → policy.pairs ≡ permitted_in (unwrap_or (slice_get objects k) object) t
  pairs_at k policy within there = ap (λ (p : Policy). p.pairs) (at_object k policy within there)

  pub grants_at : (k : ℕ) (policy : Policy) → k < length objects → slice_get policies k ≡ Some policy → policy.grants ≡ grants_of (unwrap_or (slice_get objects k) object) t
  grants_at k policy within there = ap (λ (p : Policy). p.grants) (at_object k policy within there)

  -- there is room for its seeds, and for its rows
  pub seeds_fit : (k : ℕ) (policy : Policy) → slice_get policies k ≡ Some policy → length policy.pairs ≤ seeds
  seeds_fit k policy there = omega (arith, keeps.for_seeds, most_holds policies k policy there)

  pub rows_fit : (k : ℕ) (policy : Policy) → slice_get policies k ≡ Some policy → length policy.pairs ≤ rows
  rows_fit k policy there = omega (arith, keeps.for_rows, most_holds policies k policy there)

  -- another object may be in force, where the room stays
  pub keeps_after : (k own on some : ℕ) → k < length objects → own ≡ seeds → on ≡ slaves → some ≡ rows → KeepsObjects object attached t objects policies k own on some
  keeps_after k own on some within seeds_stay slaves_stay rows_stay = record {
    all = keeps.all;
    permits = keeps.permits;
    chosen = within;
    for_seeds = seeds_stay ∙ keeps.for_seeds;
    each_slave = slaves_stay ∙ keeps.each_slave;
    for_rows = rows_stay ∙ keeps.for_rows;
  }

  -- the object at a place of the run is the one that is kept there
  pub object_there : (k : ℕ) → k < length objects → slice_get (objects_in object attached) k ≡ Some (unwrap_or (slice_get objects k) object)
  object_there k within = ap (λ os. slice_get os k) (sym keeps.all) ∙ is_there objects k object within

  pub object_past : (k : ℕ) → length objects ≤ k → slice_get (objects_in object attached) k ≡ None
  object_past k past = ap (λ os. slice_get os k) (sym keeps.all) ∙ is_past objects k past

-- what is kept at load
pub keeps_load : (object : Object) (attached : List Attached) (t : Topology) (objects : List Object) (policies : List Policy) (room slaves : ℕ) → objects ≡ objects_in object attached → policies ≡ policies_of t objects → room ≡ most_of policies → slaves ≡ length t.slaves → KeepsObjects object attached t objects policies 0 room slaves room
keeps_load object attached t objects policies room slaves are permits most each = record {
  all = are;
  permits = permits;
  chosen = omega (arith, ap length are);
  for_seeds = most;
  each_slave = each;
  for_rows = most;
}

-- ---- rows that are made anew

-- rows that are made anew are alike where the modes that are known are, and the room
pub remade_alike : (seeds : List RowSeed) (a b : Rows) → a.known ≡ b.known → a.slaves ≡ b.slaves → a.room ≡ b.room → remade seeds a ≡ remade seeds b
remade_alike seeds a b known slaves room =
    let made : List Mode → ℕ → ℕ → Rows = λ k s r. record { entries = map loaded_entry seeds; known = k; slaves = s; room = r } in
    ap (λ k. made k a.slaves a.room) known ∙ (ap (λ s. made b.known s a.room) slaves ∙ ap (made b.known b.slaves) room)

-- and so are rows at load, where what they are made of is
pub loaded_alike : (masters slaves first room a b c d : ℕ) (ps qs : List Permitted) → masters ≡ a → slaves ≡ b → first ≡ c → room ≡ d → ps ≡ qs → loaded_rows masters slaves first room (map (seed_at_load first) ps) ≡ loaded_rows a b c d (map (seed_at_load c) qs)
loaded_alike masters slaves first room a b c d ps qs masters_are slaves_are first_is room_is pairs_are =
    let rows : ℕ → ℕ → ℕ → ℕ → List Permitted → Rows = λ m s f r xs. loaded_rows m s f r (map (seed_at_load f) xs) in
    ap (λ m. rows m slaves first room ps) masters_are
    ∙ (ap (λ s. rows a s first room ps) slaves_are
    ∙ (ap (λ f. rows a b f room ps) first_is
    ∙ (ap (λ r. rows a b c r ps) room_is ∙ ap (rows a b c d) pairs_are)))
