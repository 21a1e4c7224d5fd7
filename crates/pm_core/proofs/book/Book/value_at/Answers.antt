use Rattle.std.proofs.Common.{◌≡◌, ℕ, Some, None, slice_get, subst}
use Rattle.pm_base.specs.declared.names.Unit.{Unit}
use Rattle.pm_topology.specs.Units.{units_of}
use Rattle.pm_state.specs.State.{State}
use Rattle.pm_state.specs.Values.{value}
use Rattle.pm_core.proofs.book.Book.value_at.Goals as goal

pub returns-clause-value : goal.returns-clause-value
returns-clause-value c =
    let P : State → Type 0 = λ b. (unit : Unit) → slice_get (units_of b.fixed.topology) c.args.place ≡ Some unit → c.value_at.result ≡ value unit b in
    subst P c.self.view_is c.value_at.ensures.value

pub returns-clause-past : goal.returns-clause-past
returns-clause-past c =
    let P : State → Type 0 = λ b. slice_get (units_of b.fixed.topology) c.args.place ≡ None → c.value_at.result ≡ 0 in
    subst P c.self.view_is c.value_at.ensures.past
