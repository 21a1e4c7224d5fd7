-- The permitted pairs: the rows at load can be loaded, and the rows of an object that is put in force can be made anew.
use Rattle.std.proofs.Common.{◌≡◌, ℕ, ◌+◌, ◌<◌, ◌≤◌, Bool, true, false, not, ◌&&◌, ◌||◌, ◌==◌, if◌then◌else◌, IsTrue, List, [], ◌∷◌, map, length, is_some, bit_and, Option, Some, None, refl, sym, ◌∙◌, ap, subst, arith}
use Rattle.std.specs.Prelude.{count_by, IfSome}
use Rattle.std.specs.Int.{bit_at}
use Rattle.std.specs.List.{All, AllByRecursion as Each}
use Rattle.std.proofs.lemmas.Bool.{and_from, and_parts, eq-eqb, eqb-true}
use Rattle.std.proofs.lemmas.List.Elements.{All-from_recursion}
use Rattle.std.proofs.lemmas.Nat.Bits.{bit_at_and, same_from_bits}
use Rattle.pm_base.specs.declared.caps.Caps.{Caps}
use Rattle.pm_base.specs.declared.names.Mode.{Mode}
use Rattle.pm_base.specs.declared.names.Mode.TheVariants.{Off, Active, Asleep, Suspending}
use Rattle.pm_base.proofs.Bits.{has_none}
use Rattle.pm_base.proofs.Counts.{count_by-cons}
use Rattle.pm_object.specs.declared.object.MasterRec.{MasterRec}
use Rattle.pm_object.specs.declared.object.Object.{Object}
use Rattle.pm_object.specs.declared.object.PreRec.{PreRec}
use Rattle.pm_object.specs.declared.object.SlaveRec.{SlaveRec}
use Rattle.pm_topology.specs.declared.topology.SlaveDef.{SlaveDef}
use Rattle.pm_topology.specs.declared.topology.Topology.{Topology}
use Rattle.pm_perms.specs.Permits.{mask_has, slave_record}
use Rattle.pm_procs.specs.Modes.{is_awake}
use Rattle.pm_rows.specs.declared.row.Pair.{Pair}
use Rattle.pm_rows.specs.Modes.{mode_in}
use Rattle.pm_rows.specs.Rows.{has_all, pair_of}
use Rattle.pm_rows.specs.Sound.{AreOnce, AreRemadeRight, IsLoadable, IsRemadeRight, is_not_off, takes_alone}
use Rattle.pm_rows.proofs.Lists.{fewer_of}
use Rattle.pm_state.specs.Choice.{all_of}
use Rattle.pm_base.specs.Places.{is_place}
use Rattle.pm_state.specs.declared.pairs.Permitted.{Permitted}
use Rattle.pm_state.specs.Pairs.{claims, current_by, cut_to, has_use_flag, pair_permitted, permitted_from, permitted_in, permitted_of, permitted_of_masters, permitted_on, preallocation, preset_by, seed_anew, seed_at_load, seeds_anew, seeds_at_load, start_anew, taker}
use Rattle.pm_state.proofs.Each.{Each-append, Each-map}
use Rattle.pm_state.proofs.PairsLaw.{is_permitted, pairs_once, permitted_once}

-- ---- each permitted pair is right

cut_bits : (a w : ℕ) → bit_and a (bit_and w a) ≡ bit_and w a
cut_bits a w =
    let each : (i : ℕ) → bit_at (bit_and a (bit_and w a)) i ≡ bit_at (bit_and w a) i = λ i.
    let whole = bit_at_and a (bit_and w a) i in
    let part = bit_at_and w a i in
    omega arith
    in
    same_from_bits (bit_and a (bit_and w a)) (bit_and w a) each

-- what is cut to a slave's capabilities is within them
cut_able : (all : Caps) (word : ℕ) → IsTrue (has_all all (cut_to all word))
cut_able all word = eq-eqb _ _ (cut_bits all.0 word)

preset_able : (all : Caps) (r : Option PreRec) → IsTrue (has_all all (preset_by all r))
preset_able all None = eq-eqb _ _ (has_none all.0)
preset_able all (Some r) = cut_able all r.preset

current_if : (all : Caps) (b : Bool) (r : PreRec) → IfSome (if b then Some (cut_to all r.current) else None) (λ caps. IsTrue (has_all all caps))
current_if all true r = cut_able all r.current
current_if all false r = tt

current_able : (all : Caps) (r : Option PreRec) → IfSome (current_by all r) (λ caps. IsTrue (has_all all caps))
current_able all None = tt
current_able all (Some r) = current_if all (has_use_flag r) r

-- its master is one of so many, and what the object has of it the slave has
record IsRight (masters : ℕ) (p : Permitted) : Type 0 where
  pub place : p.pair.master < masters
  pub preset : IsTrue (has_all p.pair.all p.pair.preset)
  pub current : IfSome p.current (λ caps. IsTrue (has_all p.pair.all caps))

one_right : (object : Object) (masters m : ℕ) (master : MasterRec) (s : ℕ) (slave : SlaveDef) (r : SlaveRec) → m < masters → IsRight masters (permitted_of object m master s slave r)
one_right object masters m master s slave r within =
    let first = preallocation object master slave in
    record { place = within; preset = preset_able (all_of slave.states) first; current = current_able (all_of slave.states) first }

masters_right : (object : Object) (masters m s : ℕ) (slave : SlaveDef) (r : SlaveRec) (left : List MasterRec) → m + length left ≡ masters → Each (IsRight masters) (permitted_of_masters object m s slave r left)
masters_right object masters m s slave r [] count = tt
masters_right object masters m s slave r (x ∷ xs) count =
    Each-append (IsRight masters) (if mask_has r.mask x.mask then permitted_of object m x s slave r ∷ [] else []) (permitted_of_masters object (m + 1) s slave r xs)
    (elim (mask_has r.mask x.mask) as (λ b. Each (IsRight masters) (if b then permitted_of object m x s slave r ∷ [] else [])) [
      | true ↦ (one_right object masters m x s slave r (omega (arith, count)), tt)
      | false ↦ tt
    ])
    (masters_right object masters (m + 1) s slave r xs (omega (arith, count)))

on_right : (object : Object) (s : ℕ) (slave : SlaveDef) (r : Option SlaveRec) → Each (IsRight (length object.masters)) (permitted_on object s slave r)
on_right object s slave None = tt
on_right object s slave (Some r) = masters_right object (length object.masters) 0 s slave r object.masters (omega arith)

from_right : (object : Object) (s : ℕ) (slaves : List SlaveDef) → Each (IsRight (length object.masters)) (permitted_from object s slaves)
from_right object s [] = tt
from_right object s (x ∷ xs) =
    Each-append (IsRight (length object.masters)) (permitted_on object s x (slave_record object x.node)) (permitted_from object (s + 1) xs)
    (on_right object s x (slave_record object x.node)) (from_right object (s + 1) xs)

-- ---- the rows at load

start_if : (all : Caps) (b : Bool) (current : Option Caps) → IfSome current (λ caps. IsTrue (has_all all caps)) → IfSome (if b then current else None) (λ caps. IsTrue (has_all all caps))
start_if all true current able = able
start_if all false current able = tt

start_first : (b : Bool) (current : Option Caps) → IsTrue (is_some (if b then current else None)) → b ≡ true
start_first true current is = refl
start_first false current is = cc

loads_right : (masters boot : ℕ) (p : Permitted) → IsRight masters p → IsLoadable masters boot (seed_at_load boot p)
loads_right masters boot p right = record {
  place = right.place;
  preset = right.preset;
  start = start_if p.pair.all (p.pair.master == boot) p.current right.current;
  first = λ is. eqb-true p.pair.master boot (start_first (p.pair.master == boot) p.current is);
}

pub seeds_loadable : (masters boot : ℕ) (object : Object) (t : Topology) → length object.masters ≡ masters → All (IsLoadable masters boot) (seeds_at_load boot object t)
seeds_loadable masters boot object t same =
    let P : ℕ → Type 0 = λ n. Each (IsRight n) (permitted_in object t) in
    All-from_recursion (IsLoadable masters boot) (seeds_at_load boot object t)
    (Each-map (IsLoadable masters boot) (seed_at_load boot) (IsRight masters) (loads_right masters boot) (permitted_in object t)
    (subst P same (from_right object 0 t.slaves)))

pub load_pairs : (boot : ℕ) (ps : List Permitted) → map pair_of (map (seed_at_load boot) ps) ≡ map pair_permitted ps
load_pairs boot [] = refl
load_pairs boot (p ∷ ps) = ap (λ (zs : List Pair). p.pair ∷ zs) (load_pairs boot ps)

-- ---- rows that are made anew

awake_is_on : (mode : Mode) → is_awake mode ≡ true → is_not_off mode ≡ true
awake_is_on Off is = cc
awake_is_on Active is = refl
awake_is_on Asleep is = cc
awake_is_on Suspending is = refl

module _ (known : List Mode) (all : List Permitted) where
  remakes_right : (p : Permitted) → IsRight (length known) p → IsRemadeRight known (seed_anew known all p)
  remakes_right p right =
      let shares : Bool = p.pair.shareable || is_place p.pair.master (taker known p.pair.slave all) in
      record {
        place = right.place;
        preset = right.preset;
        start = start_if p.pair.all (claims known p && shares) p.current right.current;
        awake = λ is. awake_is_on (mode_in p.pair.master known)
            (and_parts (is_some p.current) (is_awake (mode_in p.pair.master known))
            (and_parts (claims known p) shares (start_first (claims known p && shares) p.current is)).0).1;
      }

  -- who uses a slave alone takes it
  not_shared : (shareable own : Bool) → (shareable || own) ≡ true → not shareable ≡ true → own ≡ true
  not_shared true own is alone = cc
  not_shared false own is alone = is

  takes : (s : ℕ) (p : Permitted) → takes_alone s (seed_anew known all p) ≡ true → ((p.pair.slave == s) ≡ true) × (is_place p.pair.master (taker known s all) ≡ true)
  takes s p is =
      let shares : Bool = p.pair.shareable || is_place p.pair.master (taker known p.pair.slave all) in
      let parts = and_parts (p.pair.slave == s) (is_some (start_anew known all p) && not p.pair.shareable) is in
      let used = and_parts (is_some (start_anew known all p)) (not p.pair.shareable) parts.1 in
      let asks = and_parts (claims known p) shares (start_first (claims known p && shares) p.current used.0) in
      let here = not_shared p.pair.shareable (is_place p.pair.master (taker known p.pair.slave all)) asks.1 used.1 in
      (parts.0, ap (λ n. is_place p.pair.master (taker known n all)) (sym (eqb-true p.pair.slave s parts.0)) ∙ here)

  none_takes : (s : ℕ) (ps : List Permitted) → taker known s all ≡ None → count_by (takes_alone s) (map (seed_anew known all) ps) ≤ 0
  none_takes s [] none = omega arith
  none_takes s (p ∷ ps) none =
      rw (count_by-cons (takes_alone s) (seed_anew known all p) (map (seed_anew known all) ps))
      (omega (arith, none_takes s ps none, fewer_of (takes_alone s (seed_anew known all p)) false (λ is. ap (is_place p.pair.master) (sym none) ∙ (takes s p is).1)))

  taker_takes : (s m : ℕ) (ps : List Permitted) → taker known s all ≡ Some m → count_by (takes_alone s) (map (seed_anew known all) ps) ≤ count_by (is_permitted m s) ps
  taker_takes s m [] is = omega arith
  taker_takes s m (p ∷ ps) is =
      rw (count_by-cons (takes_alone s) (seed_anew known all p) (map (seed_anew known all) ps), count_by-cons (is_permitted m s) p ps)
      (omega (
        arith,
        taker_takes s m ps is,
        fewer_of (takes_alone s (seed_anew known all p)) (is_permitted m s p)
            (λ taken. let both = takes s p taken in and_from _ _ (own p.pair.master m (ap (is_place p.pair.master) (sym is) ∙ both.1)) both.0),
      ))
    where
      own : (a b : ℕ) → (b == a) ≡ true → (a == b) ≡ true
      own a b same = eq-eqb a b (sym (eqb-true b a same))

  one_takes : (s : ℕ) (t : Option ℕ) → taker known s all ≡ t → ((m : ℕ) → count_by (is_permitted m s) all ≤ 1) → count_by (takes_alone s) (map (seed_anew known all) all) ≤ 1
  one_takes s None is once = omega (arith, none_takes s all is)
  one_takes s (Some m) is once = omega (arith, taker_takes s m all is, once m)

pub anew_pairs : (known : List Mode) (all ps : List Permitted) → map pair_of (map (seed_anew known all) ps) ≡ map pair_permitted ps
anew_pairs known all [] = refl
anew_pairs known all (p ∷ ps) = ap (λ (zs : List Pair). p.pair ∷ zs) (anew_pairs known all ps)

-- the rows of an object that is put in force are right in the modes that are known of its masters
pub anew_right : (object : Object) (t : Topology) (known : List Mode) → length object.masters ≡ length known → AreRemadeRight known (seeds_anew object t known)
anew_right object t known same =
    let all : List Permitted = permitted_in object t in
    let P : ℕ → Type 0 = λ n. Each (IsRight n) all in
    let Q : List Pair → Type 0 = λ ps. AreOnce ps in
    record {
      once = subst Q (sym (anew_pairs known all all)) (λ m s. pairs_once m s object t);
      each = All-from_recursion (IsRemadeRight known) (seeds_anew object t known)
          (Each-map (IsRemadeRight known) (seed_anew known all) (IsRight (length known)) (remakes_right known all) all (subst P same (from_right object 0 t.slaves)));
      one_taker = λ s. one_takes known all s (taker known s all) refl (λ m. permitted_once m s object t);
    }
