-- The calls that are due, key by key, and the counts of calls.
use Rattle.std.proofs.Common.{◌≡◌, ◌≢◌, ℕ, zero, suc, ◌+◌, ◌<◌, ◌≤◌, Bool, true, false, List, [], ◌∷◌, map, length, get_or, Option, Some, None, refl, ◌∙◌, arith}
use Rattle.std.specs.Prelude.{◌==◌, ◌%◌, ◌^◌, ⊤, filter, if◌then◌else◌, IsSomeAnd}
use Rattle.std.specs.List.{AllByRecursion as Each}
use Rattle.std.specs.List.Sorted.{IsStrictlyIncreasing}
use Rattle.std.specs.Option.{option_and_then, option_map}
use Rattle.std.proofs.lemmas.Bool.Decides.{nat_tests}
use Rattle.pm_tasks.specs.declared.tasks.Fired.{Fired}
use Rattle.pm_tasks.specs.Timetable.{Period, Timed, called, due_from, is_due, ticked}
use Rattle.pm_drive.specs.Calls.{is_of}

abbrev pub plan_of : Option Timed → Option Period
plan_of slot = option_and_then (λ (timed : Timed). timed.plan) slot

pub slot_at : (f : Timed → Timed) (slots : List (Option Timed)) (key : ℕ) → get_or (map (option_map f) slots) key None ≡ option_map f (get_or slots key None)
slot_at f [] key = refl
slot_at f (slot ∷ later) zero = refl
slot_at f (slot ∷ later) (suc key) = slot_at f later key

-- ---- rising keys

cons_rising : (key : ℕ) (calls : List Fired) → Each (λ (call : Fired). key + 1 ≤ call.key) calls
    → IsStrictlyIncreasing (map (λ (call : Fired). call.key) calls) → IsStrictlyIncreasing (key ∷ map (λ (call : Fired). call.key) calls)
cons_rising key [] above rising = λ k within. absurd (omega arith)
cons_rising key (call ∷ calls) above rising = go
  where
    go : IsStrictlyIncreasing (key ∷ map (λ (it : Fired). it.key) (call ∷ calls))
    go zero within = omega (arith, above.0)
    go (suc k) within =
        let later = rising k (omega arith) in
        let more : suc k + 1 ≡ suc (k + 1) = omega arith in
        rw more later

module _ (before now : ℕ) where
  -- none has a key below that of the first slot
  none_at : (key base : ℕ) (timed : Timed) (later : List (Option Timed)) (due : Bool) → is_due before now timed.plan ≡ due → key < base
      → filter (is_of key) (due_from before now (base + 1) later) ≡ []
      → filter (is_of key) (due_from before now base (Some timed ∷ later)) ≡ []
  none_at key base timed later true is below none =
      let test : (base == key) ≡ false = grind (arith, nat_tests) in
      rw (is, test) none
  none_at key base timed later false is below none = rw is none

  none_below : (key base : ℕ) (slots : List (Option Timed)) → key < base → filter (is_of key) (due_from before now base slots) ≡ []
  none_below key base [] below = refl
  none_below key base (None ∷ later) below = none_below key (base + 1) later (omega arith)
  none_below key base (Some timed ∷ later) below =
      none_at key base timed later (is_due before now timed.plan) refl below (none_below key (base + 1) later (omega arith))

  -- the task under a key is called once where it is due, and else not
  once_here : (base key : ℕ) (timed : Timed) (later : List (Option Timed)) (due : Bool) → is_due before now timed.plan ≡ due → key ≡ base
      → length (filter (is_of key) (due_from before now base (Some timed ∷ later))) ≡ (if due then 1 else 0)
  once_here base key timed later true is same =
      let test : (base == key) ≡ true = grind (arith, nat_tests) in
      let none = none_below key (base + 1) later (omega arith) in
      rw (is, test, none) refl
  once_here base key timed later false is same =
      let none = none_below key (base + 1) later (omega arith) in
      rw (is, none) refl

  once_later : (base key n : ℕ) (timed : Timed) (later : List (Option Timed)) (due : Bool) → is_due before now timed.plan ≡ due → key ≢ base
      → length (filter (is_of key) (due_from before now (base + 1) later)) ≡ n
      → length (filter (is_of key) (due_from before now base (Some timed ∷ later))) ≡ n
  once_later base key n timed later true is apart rest =
      let test : (base == key) ≡ false = grind (arith, nat_tests) in
      rw (is, test) rest
  once_later base key n timed later false is apart rest = rw is rest

  pub once_at : (k base key : ℕ) (slots : List (Option Timed)) → key ≡ k + base
      → length (filter (is_of key) (due_from before now base slots)) ≡ (if is_due before now (plan_of (get_or slots k None)) then 1 else 0)
  once_at zero base key [] is = refl
  once_at (suc k) base key [] is = refl
  once_at zero base key (None ∷ later) is = let none = none_below key (base + 1) later (omega arith) in rw none refl
  once_at zero base key (Some timed ∷ later) is = once_here base key timed later (is_due before now timed.plan) refl (omega arith)
  once_at (suc k) base key (None ∷ later) is = once_at k (base + 1) key later (omega arith)
  once_at (suc k) base key (Some timed ∷ later) is =
      once_later base key _ timed later (is_due before now timed.plan) refl (λ same. absurd (omega arith)) (once_at k (base + 1) key later (omega arith))

  -- the keys rise
  above_some : (low base : ℕ) (timed : Timed) (later : List (Option Timed)) (due : Bool) → is_due before now timed.plan ≡ due → low ≤ base
      → Each (λ (call : Fired). low ≤ call.key) (due_from before now (base + 1) later)
      → Each (λ (call : Fired). low ≤ call.key) (due_from before now base (Some timed ∷ later))
  above_some low base timed later true is least rest = rw is (least, rest)
  above_some low base timed later false is least rest = rw is rest

  above : (low base : ℕ) (slots : List (Option Timed)) → low ≤ base → Each (λ (call : Fired). low ≤ call.key) (due_from before now base slots)
  above low base [] least = tt
  above low base (None ∷ later) least = above low (base + 1) later (omega arith)
  above low base (Some timed ∷ later) least =
      above_some low base timed later (is_due before now timed.plan) refl least (above low (base + 1) later (omega arith))

  rising_some : (base : ℕ) (timed : Timed) (later : List (Option Timed)) (due : Bool) → is_due before now timed.plan ≡ due
      → IsStrictlyIncreasing (map (λ (call : Fired). call.key) (due_from before now (base + 1) later))
      → IsStrictlyIncreasing (map (λ (call : Fired). call.key) (due_from before now base (Some timed ∷ later)))
  rising_some base timed later true is rest =
      rw is (cons_rising base (due_from before now (base + 1) later) (above (base + 1) (base + 1) later (omega arith)) rest)
  rising_some base timed later false is rest = rw is rest

  pub rising_from : (base : ℕ) (slots : List (Option Timed)) → IsStrictlyIncreasing (map (λ (call : Fired). call.key) (due_from before now base slots))
  rising_from base [] = λ k within. absurd (omega arith)
  rising_from base (None ∷ later) = rising_from (base + 1) later
  rising_from base (Some timed ∷ later) =
      rising_some base timed later (is_due before now timed.plan) refl (rising_from (base + 1) later)

  -- each at the later time
  time_some : (base : ℕ) (timed : Timed) (later : List (Option Timed)) (due : Bool) → is_due before now timed.plan ≡ due
      → Each (λ (call : Fired). call.at ≡ now) (due_from before now (base + 1) later)
      → Each (λ (call : Fired). call.at ≡ now) (due_from before now base (Some timed ∷ later))
  time_some base timed later true is rest = rw is (refl, rest)
  time_some base timed later false is rest = rw is rest

  pub time_from : (base : ℕ) (slots : List (Option Timed)) → Each (λ (call : Fired). call.at ≡ now) (due_from before now base slots)
  time_from base [] = tt
  time_from base (None ∷ later) = time_from (base + 1) later
  time_from base (Some timed ∷ later) = time_some base timed later (is_due before now timed.plan) refl (time_from (base + 1) later)

  -- each with the count of its task afterwards
  module _ (all : List (Option Timed)) where
    abbrev Answers : Fired → Type 0
    Answers call = IsSomeAnd (get_or all call.key None) (λ (timed : Timed). call.word ≡ timed.calls)

    abbrev Here : ℕ → List (Option Timed) → Type 0
    Here base slots = (k key : ℕ) → key ≡ k + base → get_or all key None ≡ option_map (ticked before now) (get_or slots k None)

    answers_some : (base : ℕ) (timed : Timed) (later : List (Option Timed)) (due : Bool) → is_due before now timed.plan ≡ due
        → get_or all base None ≡ Some (ticked before now timed)
        → Each Answers (due_from before now (base + 1) later)
        → Each Answers (due_from before now base (Some timed ∷ later))
    answers_some base timed later true is here rest =
        let last : get_or all base None ≡ Some (called timed) = here ∙ rw is refl in
        rw (is, last) (refl, rest)
    answers_some base timed later false is here rest = rw is rest

    pub answers_from : (base : ℕ) (slots : List (Option Timed)) → Here base slots → Each Answers (due_from before now base slots)
    answers_from base [] here = tt
    answers_from base (None ∷ later) here = answers_from (base + 1) later (λ k key is. here (suc k) key (omega arith))
    answers_from base (Some timed ∷ later) here =
        answers_some base timed later (is_due before now timed.plan) refl (here 0 base (omega arith))
        (answers_from (base + 1) later (λ k key is. here (suc k) key (omega arith)))

-- ---- counts

-- a task that is stored at both ends was called this often in between, modulo 2 ^ 32, and none is stored where none was
abbrev pub Counts : ℕ → Option Timed → Option Timed → Type 0
Counts n None new = new ≡ None
Counts n (Some old) None = ⊤
Counts n (Some old) (Some new) = new.calls % 2 ^ 32 ≡ (old.calls + n) % 2 ^ 32

add_counts : (old middle new first second : ℕ) → middle % 2 ^ 32 ≡ (old + first) % 2 ^ 32 → new % 2 ^ 32 ≡ (middle + second) % 2 ^ 32
    → new % 2 ^ 32 ≡ (old + (first + second)) % 2 ^ 32
add_counts old middle new first second one two = omega (arith, one, two)

pub join_counts : (first second : ℕ) (old middle new : Option Timed) → Counts first old middle → Counts second middle new → Counts (first + second) old new
join_counts first second None None new gone later = later
join_counts first second None (Some middle) new gone later = cc
join_counts first second (Some old) None None one later = tt
join_counts first second (Some old) None (Some new) one later = cc
join_counts first second (Some old) (Some middle) None one two = tt
join_counts first second (Some old) (Some middle) (Some new) one two = add_counts old.calls middle.calls new.calls first second one two

pub same_counts : (slot : Option Timed) → Counts 0 slot slot
same_counts None = refl
same_counts (Some timed) = let none : timed.calls + 0 ≡ timed.calls = omega arith in rw none refl

tick_timed : (before now : ℕ) (timed : Timed) (due : Bool) → is_due before now timed.plan ≡ due
    → Counts (if due then 1 else 0) (Some timed) (Some (ticked before now timed))
tick_timed before now timed true is =
    let twice : ((timed.calls + 1) % 2 ^ 32) % 2 ^ 32 ≡ (timed.calls + 1) % 2 ^ 32 = omega arith in
    rw is twice
tick_timed before now timed false is = rw is (same_counts (Some timed))

pub tick_counts : (before now : ℕ) (slot : Option Timed) → Counts (if is_due before now (plan_of slot) then 1 else 0) slot (option_map (ticked before now) slot)
tick_counts before now None = refl
tick_counts before now (Some timed) = tick_timed before now timed (is_due before now timed.plan) refl
