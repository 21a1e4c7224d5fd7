-- Each line of a run tells exactly the calls that are due in it, and tasks are called as often as lines tell.
use Rattle.std.proofs.Common.{◌≡◌, ◌≢◌, ℕ, zero, suc, ◌+◌, Bool, true, false, List, [], ◌∷◌, ◌++◌, map, take, get_or, set, Option, Some, None, refl, ap, sym, subst, ◌∙◌, arith}
use Rattle.std.specs.Prelude.{◌==◌, ◌%◌, ◌^◌, if◌then◌else◌, is_some}
use Rattle.std.specs.List.{AllByRecursion as Each}
use Rattle.std.specs.Option.{option_map}
use Rattle.std.proofs.lemmas.Bool.{and_parts}
use Rattle.std.proofs.lemmas.Bool.Decides.{nat_tests}
use Rattle.std.proofs.lemmas.List.Sums.{length-filter, sum_by-append}
use Rattle.pm_base.specs.declared.events.Event.{Event}
use Rattle.pm_base.specs.declared.events.Event.TheVariants.{Cancel, Post, Task, Tick}
use Rattle.pm_base.specs.declared.events.Message.{Message}
use Rattle.pm_base.specs.declared.names.NodeId.{NodeId}
use Rattle.pm_ipi.specs.Mail.{is_empty}
use Rattle.pm_tasks.specs.declared.tasks.Fired.{Fired}
use Rattle.pm_tasks.specs.Timetable.{Timed, Timetable, advanced, can_start, is_stored, passing, planned, slot, ticked}
use Rattle.pm_board.specs.Board.{Standing, begun, board_after, settled}
use Rattle.pm_clock_tree.specs.declared.clock_tree.ClockChange.{ClockChange}
use Rattle.pm_clock_tree.specs.Tree.{Tree}
use Rattle.pm_split.specs.Split.{Note, post}
use Rattle.pm_split.specs.Boxes.{box_of}
use Rattle.pm_run.specs.Run.{Line, Setup, Stand, line_of, lines_of, loaded, run, split}
use Rattle.pm_apply.specs.Part.{Kept}
use Rattle.pm_record.specs.Record.{at_zero}
use Rattle.pm_drive.specs.Drive.{Driven, answers_after, drive, drive_line, driven, until}
use Rattle.pm_drive.specs.Clocks.{clock_note, clock_notes, clocked, clocked_by, first_tree, tree_along, turned}
use Rattle.pm_drive.specs.Completed.{completed_by, completed_in, completed_line, last_board}
use Rattle.pm_drive.specs.Tasks.{fired_note, task_notes}
use Rattle.pm_drive.specs.Calls.{CallsAreTold, EachTellsWhatIsDue, TellsWhatIsDue, calls_in, calls_told, count_of, is_due_in, is_of}
use Rattle.pm_drive.proofs.ClocksLaw.{board_clocked}
use Rattle.pm_drive.proofs.CallsLemmas.{Counts, answers_from, join_counts, once_at, rising_from, same_counts, slot_at, tick_counts, time_from}

-- ---- the calls that notes tell

calls_append : (first later : List Note) → calls_in (first ++ later) ≡ calls_in first ++ calls_in later
calls_append [] later = refl
calls_append (Note.Fired key at word ∷ first) later =
    ap (λ (calls : List Fired). record { key = key; at = at; word = word } ∷ calls) (calls_append first later)
calls_append (Note.Busy master ∷ first) later = calls_append first later
calls_append (Note.Called proc code ∷ first) later = calls_append first later
calls_append (Note.NoTask key ∷ first) later = calls_append first later
calls_append (Note.Clock number from to ∷ first) later = calls_append first later
calls_append (Note.Late address ∷ first) later = calls_append first later

calls_back : (calls : List Fired) → calls_in (map fired_note calls) ≡ calls
calls_back [] = refl
calls_back (call ∷ calls) = ap (λ (more : List Fired). call ∷ more) (calls_back calls)

-- ---- a line

none_due : (event : Event) (t : Timetable) → ((key : ℕ) → is_due_in event t key ≡ false) → TellsWhatIsDue event t []
none_due event t never = record {
  once = λ key. rw (never key) refl;
  rising = λ k within. absurd (omega arith);
  time = tt;
  answer = tt;
}

refused : (done : Bool) (key : ℕ) → calls_in ((if done then [] else Note.NoTask key ∷ []) ++ []) ≡ []
refused true key = refl
refused false key = refl

line_due : (event : Event) (t : Timetable) → TellsWhatIsDue event t (calls_in (task_notes event t))
line_due (Tick count) t =
    let now : ℕ = t.now + passing count t in
    let calls : List Fired = (advanced (passing count t) t).left in
    let P : List Fired → Type 0 = TellsWhatIsDue (Tick count) t in
    subst P (sym (calls_back calls)) (record {
      once = λ key. sym (length-filter (is_of key) calls) ∙ once_at t.now now key 0 key t.slots (omega arith);
      rising = rising_from t.now now 0 t.slots;
      time = time_from t.now now 0 t.slots;
      answer = answers_from t.now now (advanced (passing count t) t).slots 0 t.slots here;
    })
  where
    here : (k key : ℕ) → key ≡ k + 0 → get_or (advanced (passing count t) t).slots key None ≡ option_map (ticked t.now (t.now + passing count t)) (get_or t.slots k None)
    here k key is =
        let same : key ≡ k = omega arith in
        rw same (slot_at (ticked t.now (t.now + passing count t)) t.slots k)
line_due (Task key interval) t =
    let P : List Fired → Type 0 = TellsWhatIsDue (Task key interval) t in
    subst P (sym (refused (can_start key interval t) key)) (none_due (Task key interval) t (λ other. refl))
line_due (Cancel key) t =
    let P : List Fired → Type 0 = TellsWhatIsDue (Cancel key) t in
    subst P (sym (refused (is_stored key t) key)) (none_due (Cancel key) t (λ other. refl))
line_due event t = none_due event t (λ other. refl)

-- ---- what a line does to the task under a key

set_there : (slots : List (Option Timed)) (key : ℕ) (new : Option Timed) → is_some (get_or slots key None) ≡ true → get_or (set slots key new) key None ≡ new
set_there [] key new there = cc
set_there (old ∷ later) zero new there = refl
set_there (old ∷ later) (suc key) new there = set_there later key new there

set_elsewhere : (slots : List (Option Timed)) (key other : ℕ) (new : Option Timed) → key ≢ other → get_or (set slots other new) key None ≡ get_or slots key None
set_elsewhere [] key other new apart = refl
set_elsewhere (old ∷ later) zero zero new apart = absurd (apart refl)
set_elsewhere (old ∷ later) zero (suc other) new apart = refl
set_elsewhere (old ∷ later) (suc key) zero new apart = refl
set_elsewhere (old ∷ later) (suc key) (suc other) new apart = set_elsewhere later key other new (λ same. apart (ap suc same))

set_counts : (slots : List (Option Timed)) (key other : ℕ) (new : Option Timed) (same : Bool) → (key == other) ≡ same
    → is_some (get_or slots other None) ≡ true → Counts 0 (get_or slots other None) new
    → Counts 0 (get_or slots key None) (get_or (set slots other new) key None)
set_counts slots key other new true is there counts =
    let same : key ≡ other = grind (arith, nat_tests) in
    rw (same, set_there slots other new there) counts
set_counts slots key other new false is there counts =
    let apart : key ≢ other = grind (arith, nat_tests) in
    rw (set_elsewhere slots key other new apart) (same_counts (get_or slots key None))

planned_counts : (now interval : ℕ) (old : Option Timed) → Counts 0 old (option_map (planned now interval) old)
planned_counts now interval None = refl
planned_counts now interval (Some timed) = same_counts (Some timed)

gone_counts : (old : Option Timed) → Counts 0 old None
gone_counts None = refl
gone_counts (Some timed) = tt

start_counts : (t : Timetable) (key other interval : ℕ) (can : Bool) → can_start other interval t ≡ can
    → Counts 0 (slot key t) (get_or (if can then set t.slots other (option_map (planned t.now interval) (slot other t)) else t.slots) key None)
start_counts t key other interval true is =
    set_counts t.slots key other (option_map (planned t.now interval) (slot other t)) (key == other) refl
    (and_parts (is_stored other t) _ is).0 (planned_counts t.now interval (slot other t))
start_counts t key other interval false is = same_counts (slot key t)

cancel_counts : (t : Timetable) (key other : ℕ) (there : Bool) → is_stored other t ≡ there
    → Counts 0 (slot key t) (get_or (if there then set t.slots other None else t.slots) key None)
cancel_counts t key other true is = set_counts t.slots key other None (key == other) refl is (gone_counts (slot other t))
cancel_counts t key other false is = same_counts (slot key t)

line_counts : (event : Event) (t : Timetable) (key : ℕ)
    → Counts (if is_due_in event t key then 1 else 0) (slot key t) (slot key (begun event (settled t)))
line_counts (Tick count) t key =
    let now : ℕ = t.now + passing count t in
    let P : Option Timed → Type 0 = Counts (if is_due_in (Tick count) t key then 1 else 0) (slot key t) in
    subst P (sym (slot_at (ticked t.now now) t.slots key)) (tick_counts t.now now (slot key t))
line_counts (Task other interval) t key = start_counts t key other interval (can_start other interval t) refl
line_counts (Cancel other) t key = cancel_counts t key other (is_stored other t) refl
line_counts event t key = same_counts (slot key t)

-- ---- lines

-- a line that tells no call of itself
abbrev TellsNone : Driven → Type 0
TellsNone x = calls_in x.line.notes ≡ []

completed_calls : (board : Standing) (x : Driven) → TellsNone x → calls_in (completed_line board x).line.notes ≡ calls_in (task_notes x.line.event board.tasks)
completed_calls board x none =
    calls_append x.line.notes (task_notes x.line.event board.tasks)
    ∙ ap (λ (calls : List Fired). calls ++ calls_in (task_notes x.line.event board.tasks)) none

lines_due : (board : Standing) (xs : List Driven) → Each TellsNone xs → EachTellsWhatIsDue board (completed_by board xs)
lines_due board [] none = tt
lines_due board (x ∷ xs) none =
    let P : List Fired → Type 0 = TellsWhatIsDue x.line.event board.tasks in
    (subst P (sym (completed_calls board x none.0)) (line_due x.line.event board.tasks), lines_due (board_after x.line.event board) xs none.1)

lines_counts : (key : ℕ) (board : Standing) (xs : List Driven) → Each TellsNone xs
    → Counts (count_of key (calls_told (completed_by board xs))) (slot key board.tasks) (slot key (last_board board xs).tasks)
lines_counts key board [] none = same_counts (slot key board.tasks)
lines_counts key board (x ∷ xs) none =
    let next : Standing = board_after x.line.event board in
    let told : List Fired = calls_in (completed_line board x).line.notes in
    let more : List Fired = calls_told (completed_by next xs) in
    let once : count_of key told ≡ (if is_due_in x.line.event board.tasks key then 1 else 0) =
    ap (count_of key) (completed_calls board x none.0) ∙ (line_due x.line.event board.tasks).once key in
    let all : count_of key (told ++ more) ≡ (if is_due_in x.line.event board.tasks key then 1 else 0) + count_of key more =
    sum_by-append _ told more ∙ ap (λ (n : ℕ). n + count_of key more) once in
    let P : ℕ → Type 0 = λ n. Counts n (slot key board.tasks) (slot key (last_board next xs).tasks) in
    subst P (sym all) (join_counts (if is_due_in x.line.event board.tasks key then 1 else 0) (count_of key more)
    (slot key board.tasks) (slot key next.tasks) (slot key (last_board next xs).tasks)
    (line_counts x.line.event board.tasks key) (lines_counts key next xs none.1))

counted_from : (n key : ℕ) (first last : Option Timed) → Counts n first last → (old new : Timed) → first ≡ Some old → last ≡ Some new
    → new.calls % 2 ^ 32 ≡ (old.calls + n) % 2 ^ 32
counted_from n key None last counts old new was is = cc
counted_from n key (Some timed) None counts old new was is = cc
counted_from n key (Some timed) (Some later) counts old new was is =
    let before : timed ≡ old = cc in
    let after : later ≡ new = cc in
    rw (sym before, sym after) counts

told_by_lines : (board : Standing) (xs : List Driven) → Each TellsNone xs → CallsAreTold (completed_by board xs) board (last_board board xs).tasks
told_by_lines board xs none = record {
  due = lines_due board xs none;
  counted = counted_from_lines;
}
  where
    counted_from_lines : (key : ℕ) (old new : Timed) → slot key board.tasks ≡ Some old → slot key (last_board board xs).tasks ≡ Some new
        → new.calls % 2 ^ 32 ≡ (old.calls + count_of key (calls_told (completed_by board xs))) % 2 ^ 32
    counted_from_lines key = counted_from (count_of key (calls_told (completed_by board xs))) key (slot key board.tasks) (slot key (last_board board xs).tasks) (lines_counts key board xs none)

-- ---- the lines of a run tell none of themselves

post_notes : (box : Option ℕ) (stand : Stand) (c : Setup) (master : NodeId) (message : Message) → calls_in (post box master message stand.boxes).notes ≡ []
post_notes None stand c master message = refl
post_notes (Some m) stand c master message = by (is_empty m stand.boxes)
  where
    by : (empty : Bool) → calls_in (if empty then [] else Note.Busy master ∷ []) ≡ []
    by true = refl
    by false = refl

split_notes : (c : Setup) (event : Event) (stand : Stand) → calls_in (split c event stand).notes ≡ []
split_notes c (Post master message) stand = post_notes (box_of c.object master) stand c master message
split_notes c event stand = refl

lines_quiet : (c : Setup) (events : List Event) (stand : Stand) → Each (λ (line : Line). calls_in line.notes ≡ []) (lines_of c events stand)
lines_quiet c [] stand = tt
lines_quiet c (event ∷ events) stand = (split_notes c event stand, lines_quiet c events (line_of c event stand).after)

drive_quiet : (kept : Kept) (answers : List (List Bool)) (lines : List Line) → Each (λ (line : Line). calls_in line.notes ≡ []) lines
    → Each TellsNone (drive kept answers lines)
drive_quiet kept answers [] none = tt
drive_quiet kept answers (line ∷ lines) none =
    (none.0, drive_quiet (drive_line kept answers line).kept (answers_after line.cores answers) lines none.1)

front_each : (n : ℕ) (xs : List Driven) → Each TellsNone xs → Each TellsNone (take n xs)
front_each zero xs none = tt
front_each (suc n) [] none = tt
front_each (suc n) (x ∷ xs) none = (none.0, front_each n xs none.1)

until_each : (cut : Option ℕ) (xs : List Driven) → Each TellsNone xs → Each TellsNone (until cut xs)
until_each None xs none = none
until_each (Some k) xs none = front_each (k + 1) xs none

-- with clocks they tell none of themselves either
none_turned : (turns : List ClockChange) → calls_in (map clock_note turns) ≡ []
none_turned [] = refl
none_turned (turn ∷ turns) = none_turned turns

clocked_quiet : (tree : Tree) (xs : List Driven) → Each TellsNone xs → Each TellsNone (clocked_by tree xs)
clocked_quiet tree [] none = tt
clocked_quiet tree (x ∷ xs) none = (
  calls_append x.line.notes (clock_notes tree x.cores)
      ∙ (ap (λ (calls : List Fired). calls ++ calls_in (clock_notes tree x.cores)) none.0 ∙ none_turned (turned tree (tree_along x.cores tree))),
  clocked_quiet (tree_along x.cores tree) xs none.1,
)

pub calls_told_in_run : (c : Setup) (board : Standing) (events : List Event) (answers : List (List Bool)) (cut : Option ℕ)
    → CallsAreTold (completed_in c board (until cut (driven c answers events))) board (last_board board (until cut (driven c answers events))).tasks
calls_told_in_run c board events answers cut =
    let xs : List Driven = until cut (driven c answers events) in
    let quiet : Each TellsNone xs =
    until_each cut (driven c answers events) (drive_quiet (at_zero c.topology) answers (run c events) (refl, lines_quiet c events (loaded c)))
    in
    subst (λ (left : Standing). CallsAreTold (completed_in c board xs) board left.tasks) (board_clocked (first_tree c) xs board)
    (told_by_lines board (clocked c xs) (clocked_quiet (first_tree c) xs quiet))
