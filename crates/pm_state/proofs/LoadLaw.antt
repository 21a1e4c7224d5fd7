-- The book at load is sound, whichever object of the run is in force.
use Rattle.std.proofs.Common.{◌≡◌, ◌≢◌, ℕ, ◌<◌, true, false, ◌==◌, List, [], ◌∷◌, map, length, get_or, slice_get, Option, Some, None, refl, zero, suc, sym, ◌∙◌, ap, subst, arith, inl, inr}
use Rattle.std.specs.Prelude.{slice_set, replicate}
use Rattle.std.specs.List.{list_any}
use Rattle.std.proofs.lemmas.Bool.{cases_eq, eq-eqb}
use Rattle.std.proofs.lemmas.List.{get_or-set_other, get_or-set_same, length-set, length-replicate}
use Rattle.std.proofs.lemmas.Option.{unwrap_or-slice_get}
use Rattle.pm_base.specs.declared.names.Mode.TheVariants.{Off, Active}
use Rattle.pm_notify.specs.Laws.{OrderLaws}
use Rattle.pm_object.specs.declared.object.Object.{Object}
use Rattle.pm_topology.specs.declared.topology.Topology.{Topology}
use Rattle.pm_procs.specs.declared.procs.Proc.{Proc}
use Rattle.pm_procs.specs.Procs.{all_off, all_turned_off, has_member, master_mode_in, members_at, mode_at, off}
use Rattle.pm_resets.specs.Resets.{all_released, is_asserted}
use Rattle.pm_rows.specs.Modes.{mode_in, loaded_modes}
use Rattle.pm_rows.specs.declared.row.Pair.{Pair}
use Rattle.pm_rows.specs.declared.row.RowSeed.{RowSeed}
use Rattle.pm_rows.specs.Rows.{pair_of}
use Rattle.pm_rows.specs.Sound.{AreOnce, AreSound}
use Rattle.pm_base.proofs.Booleans.{first_passes}
use Rattle.pm_state.specs.Boot.{active_at_load, boot_master, boot_proc}
use Rattle.pm_state.specs.Load.{load_in}
use Rattle.pm_base.specs.Places.{is_place}
use Rattle.pm_state.specs.Members.{members_of, owner_at}
use Rattle.pm_state.specs.declared.pairs.Permitted.{Permitted}
use Rattle.pm_state.specs.Pairs.{pairs_of, permitted_in, seeds_at_load}
use Rattle.pm_state.specs.Policies.{most_pairs}
use Rattle.pm_state.specs.Prims.{procs_with}
use Rattle.pm_state.specs.Sound.{IsSound}
use Rattle.pm_state.specs.State.{Fixed, object_at, objects_of}
use Rattle.pm_state.proofs.AnewLaw.{load_pairs, seeds_loadable}
use Rattle.pm_state.proofs.ObjectsLaw.{masters_same}
use Rattle.pm_state.proofs.MembersLaw.{Owns, members_owned, one_owner}
use Rattle.pm_state.proofs.PairsLaw.{pairs_once}
use Rattle.pm_state.proofs.ArmedLaw.{load_arms}
use Rattle.pm_state.proofs.MasterNotesLaw.{load_notes}
use Rattle.pm_state.proofs.PendingLaw.{RequestLaws, none_named}
use Rattle.pm_state.proofs.RowLaws.{RowLaws}

-- ---- the modes at load

-- what the crate of the processors promises of the modes of masters
pub record ModeLaws : Type 0 where
  pub active : (m p : ℕ) (members : List (List ℕ)) (procs : List Proc)
      → has_member m p members ≡ true → mode_at p procs ≡ Active → master_mode_in m members procs ≡ Active
  pub off : (m : ℕ) (members : List (List ℕ)) (procs : List Proc)
      → ((p : ℕ) → has_member m p members ≡ true → mode_at p procs ≡ Off) → master_mode_in m members procs ≡ Off
  pub load : (m count : ℕ) (members : List (List ℕ)) → master_mode_in m members (all_off count) ≡ Off
  pub restart : (procs : List Proc) → all_turned_off procs ≡ all_off (length procs)

-- each of these is the same, and so is what stands for one past the end
pub get_or-replicate_any : {X : Type 0} (x : X) (count k : ℕ) → get_or (replicate count x) k x ≡ x
get_or-replicate_any x zero k = refl
get_or-replicate_any x (suc count) zero = refl
get_or-replicate_any x (suc count) (suc k) = get_or-replicate_any x count k

all_down : (count q : ℕ) → mode_at q (all_off count) ≡ Off
all_down count q =
    ap (λ (x : Proc). x.mode) (unwrap_or-slice_get (all_off count) q off ∙ get_or-replicate_any off count q)

first_member : (p : ℕ) (places : List ℕ) → slice_get places 0 ≡ Some p → list_any (λ q. q == p) places ≡ true
first_member p [] is = cc
first_member p (x ∷ xs) is = let same : x ≡ p = cc in first_passes (x == p) (list_any (λ q. q == p) xs) (eq-eqb x p same)

boot_down : (count p q : ℕ) → q ≢ p → mode_at q (procs_with (Some p) (all_off count)) ≡ Off
boot_down count p q other =
    ap (λ (x : Proc). x.mode)
    (unwrap_or-slice_get (slice_set (all_off count) p (record { mode = Active; address = 0 })) q off
    ∙ (get_or-set_other (all_off count) p q (record { mode = Active; address = 0 }) off other ∙ sym (unwrap_or-slice_get (all_off count) q off)))
    ∙ all_down count q

boot_up : (count p : ℕ) → p < count → mode_at p (procs_with (Some p) (all_off count)) ≡ Active
boot_up count p there =
    ap (λ (x : Proc). x.mode)
    (unwrap_or-slice_get (slice_set (all_off count) p (record { mode = Active; address = 0 })) p off
    ∙ get_or-set_same (all_off count) p (record { mode = Active; address = 0 }) off (rw (length-replicate count off) there))

known_off : (masters m : ℕ) → mode_in m (replicate masters Off) ≡ Off
known_off masters m = unwrap_or-slice_get (replicate masters Off) m Off ∙ get_or-replicate_any Off masters m

known_other : (masters boot m : ℕ) → m ≢ boot → mode_in m (loaded_modes masters boot) ≡ Off
known_other masters boot m other =
    unwrap_or-slice_get (loaded_modes masters boot) m Off
    ∙ (get_or-set_other (replicate masters Off) boot m Active Off other ∙ (sym (unwrap_or-slice_get (replicate masters Off) m Off) ∙ known_off masters m))

known_own : (masters boot : ℕ) → boot < masters → mode_in boot (loaded_modes masters boot) ≡ Active
known_own masters boot there =
    unwrap_or-slice_get (loaded_modes masters boot) boot Off ∙ get_or-set_same (replicate masters Off) boot Active Off (rw (length-replicate masters Off) there)

-- the rows know the modes of the masters where this processor starts
modes_right : ModeLaws → (object : Object) (t : Topology) (boot : Option ℕ) → slice_get (members_at 0 (members_of object t)) 0 ≡ boot → (m : ℕ) → m < length object.masters → mode_in m (loaded_modes (length object.masters) (active_at_load boot (length object.masters))) ≡ master_mode_in m (members_of object t) (procs_with boot (all_off (length t.procs)))
modes_right laws object t None is m there =
    known_other (length object.masters) (length object.masters) m (λ same. omega (arith, same, there)) ∙ sym (laws.load m (length t.procs) (members_of object t))
modes_right laws object t (Some p) is m there =
    let members = members_of object t in
    let first : has_member 0 p members ≡ true = first_member p (members_at 0 members) is in
    let boot : Owns object t 0 p = members_owned object t 0 p first in
    elim (cases_eq m 0) [
      | inl own ↦
          let up : master_mode_in 0 members (procs_with (Some p) (all_off (length t.procs))) ≡ Active =
          laws.active 0 p members (procs_with (Some p) (all_off (length t.procs))) first (boot_up (length t.procs) p boot.there)
          in
          rw own (known_own (length object.masters) 0 (omega (arith, own, there)) ∙ sym up)
      | inr other ↦
          known_other (length object.masters) 0 m other
          ∙ sym (laws.off m members (procs_with (Some p) (all_off (length t.procs)))
          (λ q in_. boot_down (length t.procs) p q
          (λ same. other (one_owner m 0 (owner_at object t p) (rw (← same) (members_owned object t m q in_).own) boot.own))))
    ]

counted : (boot : Option ℕ) (count : ℕ) → length (procs_with boot (all_off count)) ≡ count
counted None count = length-replicate count off
counted (Some p) count = length-set (all_off count) p (record { mode = Active; address = 0 }) ∙ length-replicate count off

unowned : (owner : Option ℕ) → owner ≡ None → is_place 0 owner ≡ true → ⊥
unowned None none own = cc
unowned (Some m) none own = cc

nobody_up : (object : Object) (t : Topology) (boot : Option ℕ) → slice_get (members_at 0 (members_of object t)) 0 ≡ boot → (q : ℕ) → owner_at object t q ≡ None → mode_at q (procs_with boot (all_off (length t.procs))) ≡ Off
nobody_up object t None is q nobody = all_down (length t.procs) q
nobody_up object t (Some p) is q nobody =
    let boot : Owns object t 0 p = members_owned object t 0 p (first_member p (members_at 0 (members_of object t)) is) in
    boot_down (length t.procs) p q (λ same. unowned (owner_at object t p) (rw (← same) nobody) boot.own)

none_asserted : (count l : ℕ) → is_asserted l (all_released count) ≡ false
none_asserted count l = unwrap_or-slice_get (all_released count) l false ∙ get_or-replicate_any false count l

-- the book at load with one of the run's objects in force
pub load_sound : RowLaws → ModeLaws → RequestLaws → OrderLaws → (fixed : Fixed) (object : Object) → (k : ℕ) → object_at fixed k ≡ Some object → IsSound (load_in fixed object)
load_sound rows modes requests orders fixed object k is =
    let t : Topology = fixed.topology in
    let masters : ℕ = length fixed.object.masters in
    let boot : ℕ = boot_master fixed.object t in
    let seeds : List RowSeed = seeds_at_load boot object t in
    let all : List Permitted = permitted_in object t in
    let pairs : map pair_of seeds ≡ pairs_of object t = load_pairs boot all in
    let Once : List Pair → Type 0 = λ ps. AreOnce ps in
    let Rows : List Pair → Type 0 = λ ps. AreSound ps (load_in fixed object).now.core.rows in
    record {
      force = record { place = k; there = is };
      room = record { slaves = refl; room = refl };
      rows = subst Rows pairs
          (rows.load masters (length t.slaves) boot (most_pairs t (objects_of fixed)) seeds
          (subst Once (sym pairs) (λ m s. pairs_once m s object t))
          (seeds_loadable masters boot object t (masters_same fixed k object is)));
      knows = record {
        each = length-set (replicate masters Off) boot Active ∙ length-replicate masters Off;
        right = modes_right modes fixed.object t (boot_proc fixed.object t) refl;
      };
      procs = record {
        each = counted (boot_proc fixed.object t) (length t.procs);
        nobodys = nobody_up fixed.object t (boot_proc fixed.object t) refl;
      };
      lines = record { each = length-replicate (length t.lines) false; nobodys = λ l none. none_asserted (length t.lines) l };
      armed = load_arms fixed seeds;
      pending = none_named requests fixed;
      notes = load_notes orders t masters;
    }
