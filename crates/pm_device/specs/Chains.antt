-- Acts behind acts: chains are put together, and values after acts are those after the first and then the others.
use Rattle.std.proofs.Common.{◌≡◌, ℕ, ◌&&◌, cond, List, [], ◌∷◌, ◌++◌, refl, sym, ap, subst}
use Rattle.pm_base.specs.declared.names.Unit.{Unit}
use Rattle.pm_device.specs.Act.{Act, Order, Rig, Fit, Chain, value_by, values_after}
use Rattle.pm_topology.specs.Units.{same_unit}

module _ {D : Type 0} (Does : Act → D → D → Type 0) where
  -- no act leads from a device to itself
  pub Chain-refl : (now : D) → Chain Does [] now now
  Chain-refl now = refl

  -- acts, and others behind them
  pub Chain-append : (first second : List Act) (old middle new : D)
      → Chain Does first old middle → Chain Does second middle new → Chain Does (first ++ second) old new
  Chain-append [] second old middle new one two = let P : D → Type 0 = λ d. Chain Does second d new in subst P (sym one) two
  Chain-append (act ∷ first) second old middle new one two = (one.0, one.1, Chain-append first second one.0 middle new one.2 two)

  -- one act more
  pub Chain-then : (acts : List Act) (act : Act) (old middle new : D)
      → Chain Does acts old middle → Does act middle new → Chain Does (acts ++ act ∷ []) old new
  Chain-then acts act old middle new chain does = Chain-append acts (act ∷ []) old middle new chain (new, does, refl)

-- from the same values, the same values
pub values_after-same : (acts : List Act) (f g : Unit → ℕ)
    → ((unit : Unit) → f unit ≡ g unit) → (unit : Unit) → values_after acts f unit ≡ values_after acts g unit
values_after-same [] f g same unit = same unit
values_after-same (Order command ok ∷ acts) f g same unit =
    values_after-same acts (value_by (Order command ok) f) (value_by (Order command ok) g)
    (λ unit. ap (cond (ok && same_unit command.unit unit) command.value) (same unit)) unit
values_after-same (Rig node broken ∷ acts) f g same unit =
    values_after-same acts (value_by (Rig node broken) f) (value_by (Rig node broken) g) same unit
values_after-same (Fit chip ∷ acts) f g same unit =
    values_after-same acts (value_by (Fit chip) f) (value_by (Fit chip) g) (λ unit. refl) unit

-- after acts, and others behind them
pub values_after-append : (first second : List Act) (value : Unit → ℕ) (unit : Unit)
    → values_after (first ++ second) value unit ≡ values_after second (values_after first value) unit
values_after-append [] second value unit = refl
values_after-append (act ∷ first) second value unit = values_after-append first second (value_by act value) unit
