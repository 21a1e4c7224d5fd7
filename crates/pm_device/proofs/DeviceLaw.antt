-- The two devices move as a device does.
use Rattle.std.proofs.Common.{◌≡◌, ℕ, Bool, true, false, not, cond, List, [], ◌∷◌, ◌++◌, Some, None, unwrap_or, refl, arith, ap, ◌∙◌, Result, Ok, Err, is_ok}
use Rattle.pm_base.specs.Faults.{HasCause}
use Rattle.pm_base.specs.declared.names.Unit.{Unit}
use Rattle.pm_base.specs.declared.names.NodeId.{NodeId}
use Rattle.pm_base.specs.declared.names.Command.{Command}
use Rattle.pm_device.specs.Act.{Act, Order, Rig, Fit, Counts, broken_by, value_by}
use Rattle.pm_topology.specs.declared.topology.Topology.{Topology}
use Rattle.pm_topology.specs.Units.{has_unit, units_of}
use Rattle.pm_topology.specs.UnitMap.{all_at, value_of}
use Rattle.pm_device.specs.declared.cells.Cell.{Cell}
use Rattle.pm_device.specs.Device.{fails, rises}
use Rattle.pm_device.specs.Cells.{broken_of, cell_of, idle, is_there}
use Rattle.pm_device.specs.Model.{Bench, BenchDoes, moment_of, bench_after, bench_by, bench_done, bench_rigged, does_fail}
use Rattle.pm_device.specs.Listed.{Listed, ListedDoes, listed_moment, listed_after, listed_by, listed_done, next_fails}

-- an order counts a fault where it is refused
counts : {T E : Type 0} (command : Command) (result : Result T E) (old new : ℕ) → HasCause old new result → Counts (Order command (is_ok result)) old new
counts command (Ok x) old new cause = let later = cause.later in (later, omega arith)
counts command (Err e) old new cause = let failed = cause.failed in (cause.later, omega arith)

-- an act is done, and then logged
model_logged : (act : Act) (b done : Bench) (log : List Act)
    → done ≡ bench_done act b
    → log ≡ done.log ++ act ∷ []
    → record done { log = log } ≡ bench_by act b
model_logged act b done log after logged =
    ap (λ (d : Bench). record d { log = log }) after
    ∙ ap (λ log. record (bench_done act b) { log = log }) (logged ∙ ap (λ log. log ++ act ∷ []) (ap (λ (d : Bench). d.log) after ∙ same act))
  where
    order : (command : Command) (ok : Bool) → (bench_after command ok b).log ≡ b.log
    order command true = refl
    order command false = refl

    same : (act : Act) → (bench_done act b).log ≡ b.log
    same (Order command ok) = order command ok
    same (Rig node broken) = refl
    same (Fit chip) = refl

-- an order to a device that fails on broken nodes
pub model_ordered : {T E : Type 0} (command : Command) (b new : Bench) (log : List Act) (result : Result T E)
    → is_ok result ≡ not (does_fail b command.unit)
    → new ≡ bench_after command (is_ok result) b
    → HasCause b.faults new.faults result
    → ((unit : Unit) → (moment_of new).value unit ≡ value_by (Order command (is_ok result)) (moment_of b).value unit)
    → ((unit : Unit) → (moment_of new).has unit ≡ (moment_of b).has unit)
    → broken_of new.cells ≡ broken_of b.cells
    → does_fail b command.unit ≡ fails (moment_of b) command.unit
    → rises (broken_of b.cells) ≡ true
    → log ≡ new.log ++ Order command (is_ok result) ∷ []
    → BenchDoes (Order command (is_ok result)) b (record new { log = log })
model_ordered command b new log result answer after cause values units broken listed rising logged = record {
  shows = record {
    counted = counts command result b.faults new.faults cause;
    values = λ seen. values;
    units = λ seen. units;
    broken = λ seen. broken;
    matches = λ seen. answer ∙ ap not listed;
    rising = λ seen. ap rises broken ∙ rising;
  };
  after = model_logged (Order command (is_ok result)) b new log after logged;
}

-- and its nodes are broken and mended
pub model_rigged : (node : NodeId) (broken : Bool) (b new : Bench) (log : List Act)
    → new ≡ bench_rigged node broken b
    → ((unit : Unit) → (moment_of new).value unit ≡ (moment_of b).value unit)
    → ((unit : Unit) → (moment_of new).has unit ≡ (moment_of b).has unit)
    → broken_of new.cells ≡ broken_by (Rig node broken) (moment_of b)
    → rises (broken_of new.cells) ≡ true
    → log ≡ new.log ++ Rig node broken ∷ []
    → BenchDoes (Rig node broken) b (record new { log = log })
model_rigged node broken b new log after values units nodes rising logged = record {
  shows = record {
    counted = ap (λ (n : Bench). n.faults) after;
    values = λ seen. values;
    units = λ seen. units;
    broken = λ seen. nodes;
    matches = λ seen. tt;
    rising = λ seen. rising;
  };
  after = model_logged (Rig node broken) b new log after logged;
}

-- and it is fitted to a chip
pub model_fitted : (chip : Topology) (b : Bench) (cells : List (Unit × Cell)) (log : List Act)
    → cells ≡ all_at idle (units_of chip)
    → ((unit : Unit) → (cell_of cells unit).value ≡ 0)
    → ((unit : Unit) → is_there cells unit ≡ has_unit chip unit)
    → broken_of cells ≡ []
    → log ≡ b.log ++ Fit chip ∷ []
    → BenchDoes (Fit chip) b (record b { cells = cells; log = log })
model_fitted chip b cells log made values units broken logged = record {
  shows = record {
    counted = refl;
    values = λ seen. values;
    units = λ seen. units;
    broken = λ seen. broken;
    matches = λ seen. tt;
    rising = λ seen. ap rises broken;
  };
  after = model_logged (Fit chip) b (record b { cells = cells }) log (ap (λ cells. record b { cells = cells }) made) logged;
}

-- an act is done, and then logged
listed_logged : (act : Act) (d done : Listed) (log : List Act)
    → done ≡ listed_done act d
    → log ≡ done.log ++ act ∷ []
    → record done { log = log } ≡ listed_by act d
listed_logged act d done log after logged =
    ap (λ (e : Listed). record e { log = log }) after
    ∙ ap (λ log. record (listed_done act d) { log = log }) (logged ∙ ap (λ log. log ++ act ∷ []) (ap (λ (e : Listed). e.log) after ∙ same act))
  where
    order : (command : Command) (ok : Bool) → (listed_after command ok d).log ≡ d.log
    order command true = refl
    order command false = refl

    same : (act : Act) → (listed_done act d).log ≡ d.log
    same (Order command ok) = order command ok
    same (Rig node broken) = refl
    same (Fit chip) = refl

-- an order to a device that fails at listed commands
pub listed_ordered : {T E : Type 0} (command : Command) (d new : Listed) (log : List Act) (result : Result T E)
    → is_ok result ≡ not (next_fails d command.unit)
    → new ≡ listed_after command (is_ok result) d
    → HasCause d.faults new.faults result
    → ((unit : Unit) → (listed_moment new).value unit ≡ value_by (Order command (is_ok result)) (listed_moment d).value unit)
    → log ≡ new.log ++ Order command (is_ok result) ∷ []
    → ListedDoes (Order command (is_ok result)) d (record new { log = log })
listed_ordered command d new log result answer after cause values logged = record {
  shows = record {
    counted = counts command result d.faults new.faults cause;
    values = λ seen. values;
    units = λ seen unit. absurd seen;
    broken = λ seen. absurd seen;
    matches = λ seen. absurd seen;
    rising = λ seen. absurd seen;
  };
  after = listed_logged (Order command (is_ok result)) d new log after logged;
  answer = answer;
}

-- and rigged, which changes nothing but the log
pub listed_rigged : (node : NodeId) (broken : Bool) (d : Listed) (log : List Act)
    → log ≡ d.log ++ Rig node broken ∷ []
    → ListedDoes (Rig node broken) d (record d { log = log })
listed_rigged node broken d log logged = record {
  shows = record {
    counted = refl;
    values = λ seen unit. refl;
    units = λ seen unit. absurd seen;
    broken = λ seen. absurd seen;
    matches = λ seen. absurd seen;
    rising = λ seen. absurd seen;
  };
  after = listed_logged (Rig node broken) d d log refl logged;
  answer = tt;
}

-- a unit that stands at 0, or isn't there, shows 0
none_set : (has : Bool) (least : ℕ) → unwrap_or (cond has (Some least) None) least ≡ least
none_set true least = refl
none_set false least = refl

-- and fitted to a chip
pub listed_fitted : (chip : Topology) (d : Listed) (values : List (Unit × ℕ)) (log : List Act)
    → values ≡ all_at 0 (units_of chip)
    → ((unit : Unit) → value_of values unit ≡ cond (has_unit chip unit) (Some 0) None)
    → log ≡ d.log ++ Fit chip ∷ []
    → ListedDoes (Fit chip) d (record d { values = values; log = log })
listed_fitted chip d values log made zeros logged = record {
  shows = record {
    counted = refl;
    values = λ seen unit. ap (λ value. unwrap_or value 0) (zeros unit) ∙ none_set (has_unit chip unit) 0;
    units = λ seen unit. absurd seen;
    broken = λ seen. absurd seen;
    matches = λ seen. absurd seen;
    rising = λ seen. absurd seen;
  };
  after = listed_logged (Fit chip) d (record d { values = values }) log (ap (λ values. record d { values = values }) made) logged;
  answer = tt;
}
