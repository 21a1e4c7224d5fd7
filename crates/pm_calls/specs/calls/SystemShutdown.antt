-- PM_SYSTEM_SHUTDOWN (UG1200).
use Rattle.std.specs.Prelude.{ℕ, ◌==◌, ◌&&◌, ◌||◌, nat_le, Bool, true, false, not, if◌then◌else◌, List, [], ◌∷◌, Option, Some, None}
use Rattle.pm_base.specs.declared.names.Mode.TheVariants.{Active}
use Rattle.pm_grants.specs.declared.grants.Grants.{Grants}
use Rattle.pm_grants.specs.Grants.{permits_shut}
use Rattle.pm_state.specs.declared.scope.Scope.TheVariants.{Own, All}
use Rattle.pm_calls.specs.declared.verdict.Say.{Say}
use Rattle.pm_calls.specs.declared.verdict.Say.TheVariants.{Renew}
use Rattle.pm_calls.specs.Checks.{Checks, in_range, unchecked}
use Rattle.pm_state.specs.Prims.{Prim, Put_proc, Halt, Reload}
use Rattle.pm_state.specs.Scope.{offs}
use Rattle.pm_state.specs.State.{Fixed}
use Rattle.pm_calls.specs.Verdict.{Called, saying, staged}
use Rattle.pm_state.specs.Members.{first_own}

-- the type and the subtype are known, and the caller may shut that much down; a scope (type 2) needs no permission
abbrev pub system_shutdown_checks : Grants → (m shutdown_type subtype : ℕ) → Checks
system_shutdown_checks grants m shutdown_type subtype = record unchecked {
  arguments = in_range (nat_le shutdown_type 2 && nat_le subtype 2);
  permitted = (shutdown_type == 2) || permits_shut grants m subtype;
}

-- the first processor of the master starts at address 0, if it has one
abbrev pub starting : ℕ → Option ℕ → List Prim
starting m None = []
starting m (Some p) = Put_proc m p Active 0 ∷ []

-- the caller's processors go off; in a restart its first one then starts
abbrev pub own_stages : Fixed → ℕ → (restarts : Bool) → List (List Prim)
own_stages fixed m false = offs fixed (Own m) ∷ []
own_stages fixed m true = offs fixed (Own m) ∷ starting m (first_own fixed m) ∷ []

-- all processors go off; then the book is halted, or put back as at load
abbrev pub stop_all : Fixed → List (List Prim)
stop_all fixed = offs fixed All ∷ (Halt ∷ []) ∷ []

abbrev pub restart_all : Fixed → List (List Prim)
restart_all fixed = offs fixed All ∷ (Reload ∷ []) ∷ []

abbrev pub all_stages : Fixed → (restarts : Bool) → List (List Prim)
all_stages fixed false = stop_all fixed
all_stages fixed true = restart_all fixed

-- the stages, by the type (0 shutdown, 1 restart, 2 scope) and the subtype (0 the caller, 1 and 2 everything)
abbrev pub shutdown_stages : Fixed → (m shutdown_type subtype : ℕ) → List (List Prim)
shutdown_stages fixed m shutdown_type subtype =
    if shutdown_type == 2 then []
    else if subtype == 0 then own_stages fixed m (shutdown_type == 1)
    else all_stages fixed (shutdown_type == 1)

-- whether a shutdown restarts everything
abbrev pub restarts_all : (shutdown_type subtype : ℕ) → Bool
restarts_all shutdown_type subtype = (shutdown_type == 1) && not (subtype == 0)

-- after a restart of everything, what the masters are told is as at load
abbrev pub renewal : Bool → Option Say
renewal all = if all then Some Renew else None

abbrev pub system_shutdown : Grants → Fixed → (m shutdown_type subtype : ℕ) → Called
system_shutdown grants fixed m shutdown_type subtype =
    record (staged (system_shutdown_checks grants m shutdown_type subtype) (shutdown_stages fixed m shutdown_type subtype)) {
      effects = saying (renewal (restarts_all shutdown_type subtype));
    }
