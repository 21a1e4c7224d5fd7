-- What contracts see of the tasks after each call. `f` is what they see of one task.
use Rattle.std.proofs.Common.{◌≡◌, ◌≢◌, ℕ, suc, ◌+◌, ◌≤◌, ◌<◌, Bool, true, false, List, [], ◌∷◌, map, drop, get_or, set, length, Option, Some, None, refl, ap, sym, ◌∙◌, arith, add-one}
use Rattle.std.specs.Prelude.{count_by, is_some, ◌&&◌, ◌==◌}
use Rattle.std.specs.Option.{option_map}
use Rattle.std.proofs.lemmas.Bool.Decides.{nat_tests}
use Rattle.std.proofs.lemmas.List.{map-set, drop_all, length-map}
use Rattle.slab.specs.Slab.{Slab}
use Rattle.pm_tasks.specs.Timetable.{Timed, Timetable, Adds, advanced, called, can_start, cancelled, due_from, is_due, is_stored, planned, started}
use Rattle.pm_tasks.specs.Stored.{seen, settled, is_due_at}
use Rattle.pm_tasks.proofs.Passing.{at_rest, rest_due, settled_already, pass_slots, pass_due, call_slots, call_due, stored_at, stored_count}

never : (b : Bool) → false ≡ b && false
never true = refl
never false = refl

pub same_slots : {X : Type 0} (one other : Slab X) → one ≡ other → one.slots ≡ other.slots
same_slots {X} one other same = ap (λ (s : Slab X). s.slots) same

pub le_trans : {a b c : ℕ} → a ≤ b → b ≤ c → a ≤ c
le_trans one other = omega arith

module _ {X : Type 0} (f : X → Timed) (before now next limit : ℕ) (slots : List (Option X)) where
  -- what is stored, as contracts see it
  abbrev all : List (Option Timed)
  all = map (option_map f) slots

  abbrev Left : Type 0
  Left = due_from before now next (drop next all) ≡ []

  there : (key : ℕ) (slot : Option X) → get_or slots key None ≡ slot → get_or all key None ≡ option_map f slot
  there key slot is = stored_at f slots key ∙ ap (option_map f) is

  -- a task that is started, and where none is
  pub starts : (key interval : ℕ) (task : X) → Left → get_or slots key None ≡ Some task → interval ≢ 0
      → true ≡ can_start key interval (seen before now next limit all)
  starts key interval task none is some =
      let test : (interval == 0) ≡ false = grind (arith, nat_tests) in
      rw (settled_already before now next all none, there key (Some task) is, test) refl

  pub started_table : (key interval : ℕ) (task later : X) → Left → get_or slots key None ≡ Some task → interval ≢ 0
      → f later ≡ planned now interval (f task)
      → seen now now next limit (map (option_map f) (set slots key (Some later))) ≡ started key interval (seen before now next limit all)
  started_table key interval task later none is some plans =
      let test : (interval == 0) ≡ false = grind (arith, nat_tests) in
      let put : map (option_map f) (set slots key (Some later)) ≡ set all key (Some (planned now interval (f task))) = map-set (option_map f) slots key (Some later) ∙ ap (λ (t : Timed). set all key (Some t)) plans in
      rw (at_rest now next (map (option_map f) (set slots key (Some later))), rest_due now next (drop next (map (option_map f) (set slots key (Some later)))), put, none, settled_already before now next all none, there key (Some task) is, test) refl

  pub starts_no_task : (key interval : ℕ) → Left → get_or slots key None ≡ None
      → false ≡ can_start key interval (seen before now next limit all)
  starts_no_task key interval none is = rw (settled_already before now next all none, there key None is) refl

  pub no_task_table : (key interval : ℕ) → Left → get_or slots key None ≡ None
      → seen now now next limit all ≡ started key interval (seen before now next limit all)
  no_task_table key interval none is =
      rw (at_rest now next all, rest_due now next (drop next all), none, settled_already before now next all none, there key None is) refl

  pub starts_at_no_interval : (key interval : ℕ) → interval ≡ 0 → false ≡ can_start key interval (seen before now next limit all)
  starts_at_no_interval key interval zero_ = rw zero_ (never (is_stored key (seen before now next limit all)))

  pub no_interval_table : (key interval : ℕ) → interval ≡ 0 → seen before now next limit all ≡ started key interval (seen before now next limit all)
  no_interval_table key interval zero_ = rw (zero_, sym (never (is_stored key (seen before now next limit all)))) refl

  -- a task that is taken out, and where none is
  pub cancels : (key : ℕ) (slot : Option X) → Left → get_or slots key None ≡ slot
      → is_some slot ≡ is_stored key (seen before now next limit all)
  cancels key None none is = rw (settled_already before now next all none, there key None is) refl
  cancels key (Some task) none is = rw (settled_already before now next all none, there key (Some task) is) refl

  pub cancelled_table : (key : ℕ) (task : X) (later : List (Option X)) → Left → get_or slots key None ≡ Some task → later ≡ set slots key None
      → seen now now next limit (map (option_map f) later) ≡ cancelled key (seen before now next limit all)
  cancelled_table key task later none is gone =
      let put : map (option_map f) later ≡ set all key None = ap (map (option_map f)) gone ∙ map-set (option_map f) slots key None in
      rw (at_rest now next (map (option_map f) later), rest_due now next (drop next (map (option_map f) later)), put, none, settled_already before now next all none, there key (Some task) is) refl

  pub nothing_cancelled_table : (key : ℕ) (later : List (Option X)) → Left → get_or slots key None ≡ None → later ≡ slots
      → seen now now next limit (map (option_map f) later) ≡ cancelled key (seen before now next limit all)
  nothing_cancelled_table key later none is same =
      let put : map (option_map f) later ≡ all = ap (map (option_map f)) same in
      rw (at_rest now next (map (option_map f) later), rest_due now next (drop next (map (option_map f) later)), put, none, settled_already before now next all none, there key None is) refl

  -- a task that is stored, and where there is no room
  counted : Left → count_by is_some (settled before now next all) ≡ count_by is_some slots
  counted none = ap (count_by is_some) (settled_already before now next all none) ∙ stored_count f slots

  pub is_full : (len : ℕ) → Left → limit ≤ len → len ≡ count_by is_some slots → count_by is_some slots ≤ limit
      → count_by is_some (settled before now next all) ≡ limit
  is_full len none least is most =
      let at : count_by is_some slots ≡ limit = omega arith in
      counted none ∙ at

  pub has_room : (len : ℕ) → Left → len < limit → len ≡ count_by is_some slots → count_by is_some (settled before now next all) ≡ limit → false ≡ true
  has_room len none least is same =
      let at : count_by is_some slots ≡ limit = sym (counted none) ∙ same in
      absurd (omega arith)

  pub added_table : (key calls : ℕ) (task : X) (later : List (Option X)) → Left
      → get_or slots key None ≡ None
      → get_or later key None ≡ Some task
      → ((other : ℕ) → other ≢ key → get_or later other None ≡ get_or slots other None)
      → count_by is_some later ≡ count_by is_some slots + 1
      → f task ≡ record { plan = None; calls = calls }
      → Adds (seen before now next limit all) (seen now now next limit (map (option_map f) later)) key calls
  added_table key calls task later none free is others more stops =
      record {
        was_free = rw (settled_already before now next all none) (there key None free);
        stored = rw (at_rest now next (map (option_map f) later)) (stored_at f later key ∙ ap (option_map f) is ∙ ap (λ (t : Timed). Some t) stops);
        others = λ other apart. rw (at_rest now next (map (option_map f) later), settled_already before now next all none) (stored_at f later other ∙ ap (option_map f) (others other apart) ∙ sym (stored_at f slots other));
        count = rw (at_rest now next (map (option_map f) later)) (stored_count f later ∙ more ∙ sym (ap (λ n. n + 1) (counted none)));
        rest = rw (rest_due now next (drop next (map (option_map f) later)), none) refl;
      }

  -- the time moves
  pub advanced_table : (count : ℕ) → Left → seen now (now + count) 0 limit all ≡ advanced count (seen before now next limit all)
  advanced_table count none = rw (settled_already before now next all none) refl

  -- whether the task under a key is due
  pub due_there : (key : ℕ) (task : X) → get_or slots key None ≡ Some task → is_due before now (f task).plan ≡ is_due_at before now key all
  due_there key task is = rw (there key (Some task) is) refl

  pub due_nowhere : (key : ℕ) → get_or slots key None ≡ None → false ≡ is_due_at before now key all
  due_nowhere key is = rw (there key None is) refl

  pub due_is_there : (key : ℕ) → get_or slots key None ≡ None → is_due_at before now key all ≡ true → ⊥
  due_is_there key is due = let wrong : false ≡ true = due_nowhere key is ∙ due in cc

  -- a task that isn't due is passed over, and past the last one none is left
  pub passed_table : is_due_at before now next all ≡ false → seen before now (next + 1) limit all ≡ seen before now next limit all
  passed_table waits =
      let slots : settled before now (suc next) all ≡ settled before now next all = pass_slots before now next all waits in
      let due : due_from before now (suc next) (drop (suc next) all) ≡ due_from before now next (drop next all) = ap (λ k. due_from before now k (drop (suc next) all)) (sym (add-one next)) ∙ pass_due before now next next all waits in
      rw (add-one next, slots, due) refl

  pub none_past_end : (from : ℕ) → seen before now next limit all ≡ seen before now from limit all → length slots ≤ next → due_from before now from (drop from all) ≡ []
  none_past_end from passed past =
      let far : length all ≤ next = rw (length-map slots (option_map f)) past in
      sym (ap (λ (t : Timetable). t.left) passed) ∙ ap (due_from before now next) (drop_all next all far)

  -- where no call is left, all keys are passed over
  pub ended_left : (end : ℕ) → length slots ≤ end → due_from before now end (drop end all) ≡ []
  ended_left end past =
      let far : length all ≤ end = rw (length-map slots (option_map f)) past in
      ap (due_from before now end) (drop_all end all far)

  pub ended_slots : (end : ℕ) → Left → length slots ≤ end → settled before now end all ≡ settled before now next all
  ended_slots end none past = settled_already before now end all (ended_left end past) ∙ sym (settled_already before now next all none)

  -- a task that is called
  pub taken_one : (from word : ℕ) (task later : X) → seen before now next limit all ≡ seen before now from limit all
      → get_or slots next None ≡ Some task
      → is_due_at before now next all ≡ true
      → f later ≡ called (f task)
      → word ≡ (f later).calls
      → due_from before now from (drop from all)
      ≡ record { key = next; at = now; word = word } ∷ due_from before now (next + 1) (drop (next + 1) (map (option_map f) (set slots next (Some later))))
  taken_one from word task later passed is due calls says =
      let put : map (option_map f) (set slots next (Some later)) ≡ set all next (Some (called (f task))) = map-set (option_map f) slots next (Some later) ∙ ap (λ (t : Timed). set all next (Some t)) calls in
      let told : word ≡ (called (f task)).calls = says ∙ ap (λ (t : Timed). t.calls) calls in
      sym (ap (λ (t : Timetable). t.left) passed) ∙ call_due before now next next all (f task) (there next (Some task) is) due ∙ (rw (put, told, add-one next) refl)

  pub taken_rest : (from : ℕ) (task later : X) → seen before now next limit all ≡ seen before now from limit all
      → get_or slots next None ≡ Some task
      → is_due_at before now next all ≡ true
      → f later ≡ called (f task)
      → settled before now (next + 1) (map (option_map f) (set slots next (Some later))) ≡ settled before now from all
  taken_rest from task later passed is due calls =
      let put : map (option_map f) (set slots next (Some later)) ≡ set all next (Some (called (f task))) = map-set (option_map f) slots next (Some later) ∙ ap (λ (t : Timed). set all next (Some t)) calls in
      rw (put, add-one next) (call_slots before now next all (f task) (there next (Some task) is) due) ∙ ap (λ (t : Timetable). t.slots) passed
