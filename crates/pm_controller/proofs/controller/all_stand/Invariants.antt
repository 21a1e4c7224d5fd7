use Rattle.std.proofs.Common.{◌≡◌, drop}
use Rattle.std.specs.List.{list_all}
use Rattle.pm_state.specs.Units.{units}
use Rattle.pm_controller.specs.Controls.{stands_at}
use Rattle.pm_controller.proofs.controller.all_stand.Given as goal

abbrev pub invariant-loop-k : goal.invariant-loop-k
invariant-loop-k l = list_all (stands_at l.book l.kept) (units l.book) ≡ list_all (stands_at l.book l.kept) (drop l.k (units l.book))
