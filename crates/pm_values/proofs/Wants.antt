-- In a sound book what is wanted of a slave is within its capabilities.
use Rattle.std.proofs.Common.{◌≡◌, ℕ, IsTrue, Some, slice_get, arith}
use Rattle.std.proofs.lemmas.List.Elements.{All-from_recursion}
use Rattle.pm_topology.specs.declared.topology.SlaveDef.{SlaveDef}
use Rattle.pm_rows.specs.Rows.{has_all}
use Rattle.pm_rows.specs.Wanted.{wanted_of}
use Rattle.pm_rows.specs.declared.row.Pair.{Pair}
use Rattle.pm_state.specs.Choice.{all_of}
use Rattle.pm_state.specs.Pairs.{pairs_of}
use Rattle.pm_state.specs.Sound.{IsSound}
use Rattle.pm_state.specs.State.{State, in_force}
use Rattle.pm_values.proofs.Below.{ValueLaws}
use Rattle.pm_state.proofs.Each.{Each-imply}
use Rattle.pm_state.proofs.PairsLaw.{FitsTable, pairs_fit}

-- what is wanted of a slave is within its capabilities
pub wanted_able : ValueLaws → (s : ℕ) (book : State) (slave : SlaveDef) → IsSound book → slice_get book.fixed.topology.slaves s ≡ Some slave → IsTrue (has_all (all_of slave.states) (wanted_of s book.now.core.rows).caps)
wanted_able laws s book slave sound is =
    let slaves = book.fixed.topology.slaves in
    let pairs = pairs_of (in_force book) book.fixed.topology in
    let HasAll : Pair → Type 0 = λ pair. pair.slave ≡ s → pair.all ≡ all_of slave.states in
    laws.wanted pairs book.now.core.rows s (all_of slave.states) sound.rows
    (All-from_recursion HasAll pairs
    (Each-imply (FitsTable 0 slaves) HasAll (λ seed fits here. fits.all s slave (omega arith) is) pairs (pairs_fit (in_force book) book.fixed.topology)))
