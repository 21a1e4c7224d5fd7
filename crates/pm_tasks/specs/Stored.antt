-- What the tasks that are stored are to contracts. `handler` is the meaning of the interface of the handlers.
use Rattle.std.specs.Prelude.{ℕ, Bool, List, map, take, drop, ◌++◌, slice_index_or, Option, None}
use Rattle.std.specs.Option.{option_map, option_and_then}
use Rattle.slab.specs.Slab.{Slab}
use Rattle.pm_tasks.specs.Timetable.{Period, Timed, Timetable, is_due, ticked, due_from}
use Rattle.pm_tasks.specs.declared.handler.Handler as Handler
use Rattle.pm_tasks.specs.declared.stored.Plan.{Plan}
use Rattle.pm_tasks.specs.declared.stored.Task.{Task}
use Rattle.pm_tasks.specs.declared.tasks.TasksOf.{TasksOf}

abbrev pub period : Plan → Period
period plan = record { from = plan.from; interval = plan.interval }

-- tasks of which those from a key on are still to be called where they are due, as they are afterwards
abbrev pub settled : ℕ → ℕ → ℕ → List (Option Timed) → List (Option Timed)
settled before now next slots = take next slots ++ map (option_map (ticked before now)) (drop next slots)

-- the tasks as they are once no call is left, where those below a key have no call left, and the calls that are left
abbrev pub seen : ℕ → ℕ → ℕ → ℕ → List (Option Timed) → Timetable
seen before now next limit slots =
    record {
      slots = settled before now next slots;
      now = now;
      left = due_from before now next (drop next slots);
      limit = limit;
    }

-- whether the task under a key is due
abbrev pub is_due_at : ℕ → ℕ → ℕ → List (Option Timed) → Bool
is_due_at before now key slots = is_due before now (option_and_then (λ timed. timed.plan) (slice_index_or slots key None))

module _ {H : Type 0} (handler : Handler.Ghosts H) where
  abbrev pub timed : Task H → Timed
  timed task =
      record {
        plan = option_map period task.plan;
        calls = handler.calls task.handler;
      }

  -- the tasks by their keys, as they are now
  abbrev pub stored : Slab (Task H) → List (Option Timed)
  stored tasks = map (option_map timed) tasks.slots

  abbrev pub timetable : TasksOf H → Timetable
  timetable it = seen it.before it.time it.next it.limit (stored it.tasks)

  -- the time of the last call of the task under a key, where its handler keeps that
  abbrev pub last_call : TasksOf H → ℕ → Option ℕ
  last_call it key = option_and_then (λ (task : Task H). handler.last task.handler) (slice_index_or it.tasks.slots key None)
