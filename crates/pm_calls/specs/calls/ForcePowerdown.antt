-- PM_FORCE_POWERDOWN (UG1200).
use Rattle.std.specs.Prelude.{ℕ, is_some, List, [], ◌∷◌}
use Rattle.pm_base.specs.declared.names.NodeId.{NodeId}
use Rattle.pm_topology.specs.Places.{kind_of}
use Rattle.pm_ipi.specs.Calls.{ack_kind}
use Rattle.pm_perms.specs.Permits.{can_be_forced}
use Rattle.pm_grants.specs.declared.grants.Grants.{Grants}
use Rattle.pm_grants.specs.Grants.{permits_force}
use Rattle.pm_state.specs.declared.scope.Scope.TheVariants.{Under}
use Rattle.pm_calls.specs.Checks.{Checks, unchecked}
use Rattle.pm_state.specs.Prims.{Prim}
use Rattle.pm_state.specs.Scope.{offs, clears}
use Rattle.pm_state.specs.State.{Fixed}
use Rattle.pm_calls.specs.Verdict.{Called, staged}

-- the acknowledge kind is known, the node is a processor or a power node, and the caller may force it
abbrev pub force_powerdown_checks : Grants → Fixed → ℕ → NodeId → ℕ → Checks
force_powerdown_checks grants fixed m node ack = record unchecked {
  acknowledge = is_some (ack_kind ack);
  node = can_be_forced (kind_of fixed.topology node);
  permitted = permits_force grants m (kind_of fixed.topology node);
}

-- each processor that the node is, or that is below it, goes off; after that all rows on the slaves below it are
-- cleared, but keep their presets
abbrev pub force_stages : Fixed → NodeId → List (List Prim)
force_stages fixed node = offs fixed (Under node) ∷ clears fixed node ∷ []

abbrev pub force_powerdown : Grants → Fixed → ℕ → NodeId → ℕ → Called
force_powerdown grants fixed m node ack = staged (force_powerdown_checks grants fixed m node ack) (force_stages fixed node)
