-- What a shutdown does, case by case.
use Rattle.std.proofs.Common.{◌≡◌, ◌≢◌, ◌<◌, ◌⊎◌, ℕ, ◌==◌, ◌&&◌, ◌||◌, arith, Bool, true, false, not, if◌then◌else◌, List, [], refl, sym, ap, subst}
use Rattle.std.proofs.lemmas.Bool.{eqb-true}
use Rattle.std.proofs.lemmas.Bool.Decides.{nat_tests}
use Rattle.std.specs.Prelude.{nat_le}
use Rattle.pm_base.proofs.Booleans.{both, none_of, unequal}
use Rattle.pm_state.specs.Prims.{Prim}
use Rattle.pm_state.specs.State.{Fixed}
use Rattle.pm_calls.specs.calls.SystemShutdown.{all_stages, own_stages, restart_all, restarts_all, shutdown_stages}

by_tests : (P : List (List Prim) → Type 0) (fixed : Fixed) (m : ℕ) → P [] → ((restarts : Bool) → P (own_stages fixed m restarts)) → ((restarts : Bool) → P (all_stages fixed restarts)) → (scope own restarts : Bool)
    → P (if scope then [] else if own then own_stages fixed m restarts else all_stages fixed restarts)
by_tests P fixed m nothing own all true b c = nothing
by_tests P fixed m nothing own all false true c = own c
by_tests P fixed m nothing own all false false c = all c

-- a property of no stages, of a shutdown of the caller and of one of everything holds of each shutdown
pub each_shutdown : (P : List (List Prim) → Type 0) (fixed : Fixed) (m : ℕ) → P [] → ((restarts : Bool) → P (own_stages fixed m restarts)) → ((restarts : Bool) → P (all_stages fixed restarts)) → (shutdown_type subtype : ℕ) → P (shutdown_stages fixed m shutdown_type subtype)
each_shutdown P fixed m nothing own all shutdown_type subtype =
    by_tests P fixed m nothing own all (shutdown_type == 2) (subtype == 0) (shutdown_type == 1)

isnt : (b : Bool) → not b ≡ true → b ≡ false
isnt true is = cc
isnt false is = refl

-- a restart of all
pub all_restart : (fixed : Fixed) (m shutdown_type subtype : ℕ) → restarts_all shutdown_type subtype ≡ true → shutdown_stages fixed m shutdown_type subtype ≡ restart_all fixed
all_restart fixed m shutdown_type subtype is =
    let parts = both (shutdown_type == 1) (not (subtype == 0)) is in
    let P : ℕ → Type 0 = λ n. shutdown_stages fixed m n subtype ≡ restart_all fixed in
    let own : List (List Prim) = own_stages fixed m true in
    let all : List (List Prim) = restart_all fixed in
    let one : (if subtype == 0 then own else all) ≡ all = ap (λ b. if b then own else all) (isnt (subtype == 0) parts.1) in
    subst P (sym (eqb-true shutdown_type 1 parts.0)) one

-- an unknown type or subtype, a scope, and a shutdown that isn't permitted
pub isnt_known : (shutdown_type subtype : ℕ) → (2 < shutdown_type) ⊎ (2 < subtype) → (nat_le shutdown_type 2 && nat_le subtype 2) ≡ false
isnt_known shutdown_type subtype is = grind (arith, nat_tests)

pub is_scope : (fixed : Fixed) (m shutdown_type subtype : ℕ) → shutdown_type ≡ 2 → shutdown_stages fixed m shutdown_type subtype ≡ []
is_scope fixed m shutdown_type subtype is =
    let P : ℕ → Type 0 = λ n. shutdown_stages fixed m n subtype ≡ [] in
    subst P (sym is) refl

pub isnt_shut : (shutdown_type : ℕ) (may : Bool) → shutdown_type ≢ 2 → may ≡ false → ((shutdown_type == 2) || may) ≡ false
isnt_shut shutdown_type may isnt_scope fails = none_of (shutdown_type == 2) may (unequal shutdown_type 2 isnt_scope) fails
