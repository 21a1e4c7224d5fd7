-- The checks of calls on a processor, and their changes of it.
use Rattle.std.specs.Prelude.{ℕ, Bool, is_some, List, [], ◌∷◌, Option, Some, None}
use Rattle.std.specs.Option.{option_map_or}
use Rattle.pm_base.specs.declared.names.Mode.{Mode}
use Rattle.pm_base.specs.declared.names.Mode.TheVariants.{Off}
use Rattle.pm_procs.specs.declared.procs.Proc.{Proc}
use Rattle.pm_procs.specs.Modes.{same_mode}
use Rattle.pm_calls.specs.declared.views.ProcView.{ProcView}
use Rattle.pm_calls.specs.Checks.{Checks, Finding, Fits, unchecked}
use Rattle.pm_state.specs.Prims.{Prim, Put_proc}

-- the node is a processor, and the caller's
abbrev pub on_own : ProcView → Checks
on_own view = record unchecked { node = is_some view.place; permitted = is_some view.own }

-- the last check, by the mode of the caller's own processor; for another processor the permission check fails first
abbrev pub by_mode : (Mode → Finding) → Option Proc → Finding
by_mode says None = Fits
by_mode says (Some proc) = says proc.mode

-- the processor is the caller's, and in this mode
abbrev pub is_in : Mode → ProcView → Bool
is_in mode view = same_mode (option_map_or (λ (proc : Proc). proc.mode) view.own Off) mode

-- the resume address of the caller's processor; 0 for another one
abbrev pub address_in : ProcView → ℕ
address_in view = option_map_or (λ (proc : Proc). proc.address) view.own 0

-- a processor of the master at place m, if there is one, goes to this mode
abbrev pub put_at : ℕ → Option ℕ → Mode → ℕ → List Prim
put_at m None mode address = []
put_at m (Some p) mode address = Put_proc m p mode address ∷ []

-- the processor of the master at place m goes to this mode, with this resume address
abbrev pub proc_changes : ℕ → Mode → ℕ → ProcView → List Prim
proc_changes m mode address view = put_at m view.place mode address
