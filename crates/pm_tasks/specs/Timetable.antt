-- The tasks by their keys, the time, and which calls are left of those that are due.
use Rattle.std.specs.Prelude.{◌≡◌, ◌≢◌, ℕ, ◌+◌, ◌-◌, ◌/◌, ◌%◌, ◌^◌, ◌==◌, ◌&&◌, min, not, nat_lt, Bool, false, if◌then◌else◌, List, [], ◌∷◌, map, count_by, slice_index_or, slice_set, Option, Some, None, is_some}
use Rattle.std.specs.Option.{option_map}
use Rattle.pm_tasks.specs.declared.tasks.Fired.{Fired}

-- when a task was started, and its interval
pub record Period : Type 0 where
  pub from : ℕ
  pub interval : ℕ

-- a task, stopped or started; and how often its handler was called, modulo 2 ^ 32
pub record Timed : Type 0 where
  pub plan : Option Period
  pub calls : ℕ

-- the tasks as they are once no call is left, the time, the calls that are left, and how many tasks there is room for
pub record Timetable : Type 0 where
  pub slots : List (Option Timed)
  pub now : ℕ
  pub left : List Fired
  pub limit : ℕ

-- how many whole intervals have passed since the start
abbrev pub rounds : ℕ → Period → ℕ
rounds at plan = (at - plan.from) / plan.interval

-- a task is due between two times where it is started, and has more whole intervals behind it at the second
abbrev pub is_due : ℕ → ℕ → Option Period → Bool
is_due before now None = false
is_due before now (Some plan) = nat_lt (rounds before plan) (rounds now plan)

-- a task after one more call
abbrev pub called : Timed → Timed
called timed = record timed { calls = (timed.calls + 1) % 2 ^ 32 }

-- a task after the time has moved: however many intervals have passed, it is called once
abbrev pub ticked : ℕ → ℕ → Timed → Timed
ticked before now timed = if is_due before now timed.plan then called timed else timed

-- the calls of the tasks that are due, by rising key from this key on: each at the later time, with the answer of its
-- handler
abbrev pub due_from : ℕ → ℕ → ℕ → List (Option Timed) → List Fired
due_from before now key [] = []
due_from before now key (None ∷ later) = due_from before now (key + 1) later
due_from before now key (Some timed ∷ later) =
    if is_due before now timed.plan
    then record { key = key; at = now; word = (called timed).calls } ∷ due_from before now (key + 1) later
    else due_from before now (key + 1) later

-- the task under a key
abbrev pub slot : ℕ → Timetable → Option Timed
slot key t = slice_index_or t.slots key None

abbrev pub is_stored : ℕ → Timetable → Bool
is_stored key t = is_some (slot key t)

-- how many tasks are stored
abbrev pub stored_count : Timetable → ℕ
stored_count t = count_by is_some t.slots

-- no task, at time 0
abbrev pub empty : ℕ → Timetable
empty limit = record { slots = []; now = 0; left = []; limit = limit }

-- a stopped task was stored under a key that no task had, and nothing else has changed
pub record Adds (old new : Timetable) (key calls : ℕ) : Type 0 where
  pub was_free : slot key old ≡ None
  pub stored : slot key new ≡ Some (record { plan = None; calls = calls })
  pub others : (other : ℕ) → other ≢ key → slot other new ≡ slot other old
  pub count : stored_count new ≡ stored_count old + 1
  pub rest : new ≡ record old { slots = new.slots }

-- a task is stored under the key, and the interval isn't 0
abbrev pub can_start : ℕ → ℕ → Timetable → Bool
can_start key interval t = is_stored key t && not (interval == 0)

-- started at a time, or started again
abbrev pub planned : ℕ → ℕ → Timed → Timed
planned now interval timed = record timed { plan = Some (record { from = now; interval = interval }) }

abbrev pub started : ℕ → ℕ → Timetable → Timetable
started key interval t =
    record t {
      slots =
          if can_start key interval t
          then slice_set t.slots key (option_map (planned t.now interval) (slot key t))
          else t.slots;
    }

abbrev pub cancelled : ℕ → Timetable → Timetable
cancelled key t = record t { slots = if is_stored key t then slice_set t.slots key None else t.slots }

-- how much time passes: as much as fits 64 bits, at whose end the time stands still
abbrev pub passing : ℕ → Timetable → ℕ
passing count t = min count (2 ^ 64 - 1 - t.now)

-- the time moves
abbrev pub advanced : ℕ → Timetable → Timetable
advanced count t =
    record t {
      slots = map (option_map (ticked t.now (t.now + count))) t.slots;
      now = t.now + count;
      left = due_from t.now (t.now + count) 0 t.slots;
    }
