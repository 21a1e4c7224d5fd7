-- The stages of a shutdown are free to come in every sound book.
use Rattle.std.proofs.Common.{ℕ, Bool, true, false, Option, Some, None}
use Rattle.std.specs.List.{AllByRecursion as Each}
use Rattle.pm_state.specs.declared.scope.Scope.TheVariants.{Own, All}
use Rattle.pm_state.specs.State.{Fixed}
use Rattle.pm_calls.specs.calls.SystemShutdown.{all_stages, own_stages, starting}
use Rattle.pm_state.specs.Members.{first_own}
use Rattle.pm_state.proofs.ScopeSound.{IsFree, offs_free}

starting_free : (m : ℕ) (first : Option ℕ) → Each IsFree (starting m first)
starting_free m None = tt
starting_free m (Some p) = (tt, tt)

pub own_free : (fixed : Fixed) (m : ℕ) (restarts : Bool) → Each (Each IsFree) (own_stages fixed m restarts)
own_free fixed m false = (offs_free fixed (Own m), tt)
own_free fixed m true = (offs_free fixed (Own m), (starting_free m (first_own fixed m), tt))

pub all_free : (fixed : Fixed) (restarts : Bool) → Each (Each IsFree) (all_stages fixed restarts)
all_free fixed false = (offs_free fixed All, ((tt, tt), tt))
all_free fixed true = (offs_free fixed All, ((tt, tt), tt))
