-- A unit that doesn't move in a step has the value that it had.
use Rattle.std.proofs.Common.{◌≡◌, ℕ, ◌==◌, true, false, not, sym, ap, ◌∙◌, inl, inr}
use Rattle.std.proofs.lemmas.Bool.{cases_Bool, eqb-true}
use Rattle.std.proofs.lemmas.Map.Views.{any-filter_same}
use Rattle.pm_base.specs.declared.names.Unit.{Unit}
use Rattle.pm_topology.specs.Units.{UnitLaws, has_in, has_unit, same_unit, units_of}
use Rattle.pm_state.specs.State.{State}
use Rattle.pm_state.specs.Units.{moved}
use Rattle.pm_state.specs.Values.{value}
use Rattle.pm_apply.specs.Carried.{AreMarked, DifferencesAreMarked}
use Rattle.pm_record.specs.Record.{Kept, kept_value}

module _ (laws : UnitLaws) (before : Unit → ℕ) (book : State) where
  -- a unit of the chip whose value differs moves
  moves : (unit : Unit) → has_unit book.fixed.topology unit ≡ true → (before unit == value unit book) ≡ false → has_in (moved before book) unit ≡ true
  moves unit has differs =
      any-filter_same (λ u. same_unit u unit) (λ u. not (before u == value u book)) true
      (λ u same. ap (λ u. not (before u == value u book)) (laws.same u unit same) ∙ ap not differs) (units_of book.fixed.topology)
      ∙ (laws.found book.fixed.topology unit ∙ has)

pub suffices : UnitLaws → (old new : State) (kept : Kept) → new.fixed ≡ old.fixed → AreMarked old.fixed.topology (λ u. value u old) kept → DifferencesAreMarked new.fixed.topology (λ u. value u new) (moved (λ u. value u old) new) kept
suffices laws old new kept fixed marked unit has =
    let known : has_unit old.fixed.topology unit ≡ true = ap (λ fixed. has_unit fixed.topology unit) (sym fixed) ∙ has in
    elim (cases_Bool (kept_value kept unit == value unit old)) [
      | inl same ↦ elim (cases_Bool (value unit old == value unit new)) [
        | inl stays ↦ inr (inr (eqb-true (kept_value kept unit) (value unit old) same ∙ eqb-true (value unit old) (value unit new) stays))
        | inr differs ↦ inl (moves laws (λ u. value u old) new unit has differs)
      ]
      | inr off ↦ inr (inl (marked unit known ∙ ap not off))
    ]
