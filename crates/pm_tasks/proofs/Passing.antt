-- Tasks that are passed over, called, started and taken out, key by key.
use Rattle.std.proofs.Common.{◌≡◌, ℕ, zero, suc, ◌+◌, Bool, true, false, List, [], ◌∷◌, map, drop, get_or, set, length, Option, Some, None, refl, ap, sym, ◌∙◌, arith}
use Rattle.std.specs.Prelude.{count_by, filter, is_some}
use Rattle.std.specs.Option.{option_map}
use Rattle.std.proofs.lemmas.Bool.Decides.{nat_tests}
use Rattle.std.proofs.lemmas.List.{take-append-drop}
use Rattle.std.proofs.lemmas.List.Sums.{length-filter}
use Rattle.pm_tasks.specs.Timetable.{Period, Timed, called, due_from, is_due, ticked}
use Rattle.pm_tasks.specs.Stored.{settled, is_due_at}

-- nothing is due between a time and the same time
pub due_at_rest : (at : ℕ) (plan : Option Period) → is_due at at plan ≡ false
due_at_rest at None = refl
due_at_rest at (Some plan) = grind (arith, nat_tests)

still : (at : ℕ) (slot : Option Timed) → option_map (ticked at at) slot ≡ slot
still at None = refl
still at (Some timed) = rw (due_at_rest at timed.plan) refl

rest_slots : (at : ℕ) (slots : List (Option Timed)) → map (option_map (ticked at at)) slots ≡ slots
rest_slots at [] = refl
rest_slots at (slot ∷ later) = rw (still at slot, rest_slots at later) refl

pub rest_due : (at key : ℕ) (slots : List (Option Timed)) → due_from at at key slots ≡ []
rest_due at key [] = refl
rest_due at key (None ∷ later) = rest_due at (key + 1) later
rest_due at key (Some timed ∷ later) = rw (due_at_rest at timed.plan) (rest_due at (key + 1) later)

pub at_rest : (at next : ℕ) (slots : List (Option Timed)) → settled at at next slots ≡ slots
at_rest at next slots = rw (rest_slots at (drop next slots)) (take-append-drop next slots)

-- where no call is left, no task is to change
none_of : (before now key : ℕ) (timed : Timed) (later : List (Option Timed)) (due : Bool)
    → is_due before now timed.plan ≡ due
    → due_from before now key (Some timed ∷ later) ≡ []
    → (due_from before now (key + 1) later ≡ [] → map (option_map (ticked before now)) later ≡ later)
    → map (option_map (ticked before now)) (Some timed ∷ later) ≡ Some timed ∷ later
none_of before now key timed later true is none so = let there = rw is at none in cc
none_of before now key timed later false is none so =
    let there = rw is at none in
    rw (is, so there) refl

none_left : (before now key : ℕ) (slots : List (Option Timed)) → due_from before now key slots ≡ [] → map (option_map (ticked before now)) slots ≡ slots
none_left before now key [] none = refl
none_left before now key (None ∷ later) none = ap (λ s. None ∷ s) (none_left before now (key + 1) later none)
none_left before now key (Some timed ∷ later) none =
    none_of before now key timed later (is_due before now timed.plan) refl none (none_left before now (key + 1) later)

pub settled_already : (before now next : ℕ) (slots : List (Option Timed)) → due_from before now next (drop next slots) ≡ [] → settled before now next slots ≡ slots
settled_already before now next slots none = rw (none_left before now next (drop next slots) none) (take-append-drop next slots)

-- a task that isn't due is passed over
pub pass_slots : (before now key : ℕ) (slots : List (Option Timed)) → is_due_at before now key slots ≡ false → settled before now (suc key) slots ≡ settled before now key slots
pass_slots before now zero [] waits = refl
pass_slots before now zero (None ∷ later) waits = refl
pass_slots before now zero (Some timed ∷ later) waits = rw waits refl
pass_slots before now (suc key) [] waits = refl
pass_slots before now (suc key) (slot ∷ later) waits = ap (λ s. slot ∷ s) (pass_slots before now key later waits)

pub pass_due : (before now key at : ℕ) (slots : List (Option Timed)) → is_due_at before now key slots ≡ false → due_from before now (at + 1) (drop (suc key) slots) ≡ due_from before now at (drop key slots)
pass_due before now zero at [] waits = refl
pass_due before now zero at (None ∷ later) waits = refl
pass_due before now zero at (Some timed ∷ later) waits = rw waits refl
pass_due before now (suc key) at [] waits = refl
pass_due before now (suc key) at (slot ∷ later) waits = pass_due before now key at later waits

-- the task under a key is called
pub call_slots : (before now key : ℕ) (slots : List (Option Timed)) (timed : Timed)
    → get_or slots key None ≡ Some timed
    → is_due_at before now key slots ≡ true
    → settled before now (suc key) (set slots key (Some (called timed))) ≡ settled before now key slots
call_slots before now zero [] timed there due = cc
call_slots before now zero (None ∷ later) timed there due = cc
call_slots before now zero (Some other ∷ later) timed there due =
    let same : other ≡ timed = cc in
    rw (due, same) refl
call_slots before now (suc key) [] timed there due = cc
call_slots before now (suc key) (slot ∷ later) timed there due = ap (λ s. slot ∷ s) (call_slots before now key later timed there due)

pub call_due : (before now key at : ℕ) (slots : List (Option Timed)) (timed : Timed)
    → get_or slots key None ≡ Some timed
    → is_due_at before now key slots ≡ true
    → due_from before now at (drop key slots)
    ≡ record { key = at; at = now; word = (called timed).calls } ∷ due_from before now (at + 1) (drop (suc key) (set slots key (Some (called timed))))
call_due before now zero at [] timed there due = cc
call_due before now zero at (None ∷ later) timed there due = cc
call_due before now zero at (Some other ∷ later) timed there due =
    let same : other ≡ timed = cc in
    rw (due, same) refl
call_due before now (suc key) at [] timed there due = cc
call_due before now (suc key) at (slot ∷ later) timed there due = call_due before now key at later timed there due

-- the tasks by what is stored under their keys
pub stored_at : {X Y : Type 0} (f : X → Y) (slots : List (Option X)) (key : ℕ) → get_or (map (option_map f) slots) key None ≡ option_map f (get_or slots key None)
stored_at f [] key = refl
stored_at f (slot ∷ later) zero = refl
stored_at f (slot ∷ later) (suc key) = stored_at f later key

filtered : {X Y : Type 0} (f : X → Y) (slots : List (Option X)) → length (filter is_some (map (option_map f) slots)) ≡ length (filter is_some slots)
filtered f [] = refl
filtered f (None ∷ later) = filtered f later
filtered f (Some x ∷ later) = ap suc (filtered f later)

pub stored_count : {X Y : Type 0} (f : X → Y) (slots : List (Option X)) → count_by is_some (map (option_map f) slots) ≡ count_by is_some slots
stored_count f slots = sym (length-filter is_some (map (option_map f) slots)) ∙ filtered f slots ∙ length-filter is_some slots
