-- The calls of timed tasks that driven lines tell, and what they say of the tasks.
use Rattle.std.specs.Prelude.{◌≡◌, ⊤, ℕ, ◌+◌, ◌%◌, ◌^◌, ◌==◌, Bool, false, if◌then◌else◌, List, [], ◌∷◌, IsSomeAnd, Some, count_by, flat_map, map}
use Rattle.std.specs.List.{AllByRecursion as Each}
use Rattle.std.specs.List.Sorted.{IsStrictlyIncreasing}
use Rattle.std.specs.Option.{option_and_then}
use Rattle.pm_base.specs.declared.events.Event.{Event}
use Rattle.pm_base.specs.declared.events.Event.TheVariants.{Tick}
use Rattle.pm_tasks.specs.declared.tasks.Fired.{Fired}
use Rattle.pm_tasks.specs.Timetable.{Timed, Timetable, is_due, passing, slot}
use Rattle.pm_board.specs.Board.{Standing, begun, board_after}
use Rattle.pm_split.specs.Split.{Note}
use Rattle.pm_drive.specs.Drive.{Driven}

-- the calls that notes tell, in their order
abbrev pub calls_in : List Note → List Fired
calls_in [] = []
calls_in (Note.Fired key at word ∷ notes) = record { key = key; at = at; word = word } ∷ calls_in notes
calls_in (note ∷ notes) = calls_in notes

-- the calls that lines tell, one after another
abbrev pub calls_told : List Driven → List Fired
calls_told xs = flat_map (λ (x : Driven). calls_in x.line.notes) xs

-- a call of the task under a key
abbrev pub is_of : ℕ → Fired → Bool
is_of key call = call.key == key

-- how many of these calls are of the task under a key
abbrev pub count_of : ℕ → List Fired → ℕ
count_of key calls = count_by (is_of key) calls

-- the task under a key is due in the event of a line: in a tick, where it is started and has more whole intervals behind it at
-- the end of the tick than before
abbrev pub is_due_in : Event → Timetable → ℕ → Bool
is_due_in (Tick count) t key =
    is_due t.now (t.now + passing count t) (option_and_then (λ (timed : Timed). timed.plan) (slot key t))
is_due_in event t key = false

-- a line that finds the tasks so tells these calls
pub record TellsWhatIsDue (event : Event) (t : Timetable) (calls : List Fired) : Type 0 where
  -- each task that is due in it is called once, and no other
  pub once : (key : ℕ) → count_of key calls ≡ (if is_due_in event t key then 1 else 0)
  -- by rising keys
  pub rising : IsStrictlyIncreasing (map (λ (call : Fired). call.key) calls)
  -- at the time after the line
  pub time : Each (λ (call : Fired). call.at ≡ (begun event t).now) calls
  -- with the answer of its handler: how often it was called by then
  pub answer : Each (λ (call : Fired). IsSomeAnd (slot call.key (begun event t)) (λ (timed : Timed). call.word ≡ timed.calls)) calls

-- so does each of these lines, the first of which finds a board so
abbrev pub EachTellsWhatIsDue : Standing → List Driven → Type 0
EachTellsWhatIsDue board [] = ⊤
EachTellsWhatIsDue board (x ∷ xs) =
    TellsWhatIsDue x.line.event board.tasks (calls_in x.line.notes) × EachTellsWhatIsDue (board_after x.line.event board) xs

-- what these lines tell of calls, the first of which finds a board so, where the tasks stand so after them
pub record CallsAreTold (xs : List Driven) (board : Standing) (after : Timetable) : Type 0 where
  -- each line tells exactly the calls that are due in it
  pub due : EachTellsWhatIsDue board xs
  -- a task that is stored before and after the lines was called once for each call that they tell of it, modulo 2 ^ 32
  pub counted : (key : ℕ) (old new : Timed) → slot key board.tasks ≡ Some old → slot key after ≡ Some new
      → new.calls % 2 ^ 32 ≡ (old.calls + count_of key (calls_told xs)) % 2 ^ 32
