-- A pass leaves a row as it is.
use Rattle.std.proofs.Common.{◌≡◌, ℕ, ◌+◌, ◌<◌, ◌^◌, ◌==◌, ◌&&◌, Bool, true, false, not, length, List, Option, Some, None, refl, sym, ◌∙◌, ap, subst, arith}
use Rattle.std.specs.Prelude.{◌||◌, is_some, slice_get}
use Rattle.std.proofs.lemmas.Bool.{eqb-true}
use Rattle.pm_base.specs.declared.caps.Caps.{Caps}
use Rattle.pm_base.specs.declared.names.Mode.{Mode}
use Rattle.pm_base.specs.declared.names.Mode.TheVariants.{Off, Active, Asleep, Suspending}
use Rattle.pm_rows.specs.declared.passes.Pass.{Pass}
use Rattle.pm_rows.specs.declared.passes.Pass.TheVariants.{One, Settle, Shift, DropSlave, Clear}
use Rattle.pm_rows.specs.declared.row.Entry.{Entry}
use Rattle.pm_rows.specs.declared.row.Row.{Row}
use Rattle.pm_rows.specs.Cost.{put_cost}
use Rattle.pm_rows.specs.Counted.{Table, counted, counted_in, limit_of, permitted_on}
use Rattle.pm_rows.specs.Modes.{mode_in}
use Rattle.pm_rows.specs.Passes.{is_idle, is_left, known_after, row_after}
use Rattle.pm_rows.specs.Passing.{IsPut, MayPutAt, PutsAt}
use Rattle.pm_rows.specs.Rows.{cleared, no_caps}
use Rattle.pm_rows.specs.Shift.{is_start, is_taken, preallocated, shifted_row}
use Rattle.pm_rows.specs.Wanted.{required_by}
use Rattle.pm_rows.proofs.Paid.{alike_free}
use Rattle.pm_rows.proofs.Tallies.{moved_same, set_same}

-- a row that stays as it is, and requires the same in the mode afterwards, is put by its reading alone
pub stay_put : (k : ℕ) (x : Entry) (from to : Mode) (row : Row) (table : Table) (start steps : ℕ) → slice_get table.entries k ≡ Some x
    → x.seed.slave < length table.tally.users → row ≡ x.row → required_by to x ≡ required_by from x
    → slice_get table.tally.limits x.seed.slave ≡ Some (limit_of x.seed.slave table.entries) → steps ≡ start + 1
    → IsPut k (counted_in from x) (counted_in to (record x { row = row })) table start table steps
stay_put k x from to row table start steps at placed stays alike limit reads =
    let free : put_cost (counted_in from x) (counted_in to x) (permitted_on x.seed.slave table.entries) ≡ 0 =
    alike_free (counted_in from x) (counted_in to x) (permitted_on x.seed.slave table.entries) alike refl refl
    in
    let P : Row → Type 0 = λ row. IsPut k (counted_in from x) (counted_in to (record x { row = row })) table start table steps in
    subst P (sym stays) (record {
      placed = placed;
      entries = sym (set_same table.entries k x at);
      tally = sym (moved_same (counted_in from x) (counted_in to x) table.entries table.tally refl alike limit);
      slaves = refl;
      room = refl;
      cost = omega (arith, reads, free);
    })

pub both_true : (a b : Bool) → (a && b) ≡ true → (a ≡ true) × (b ≡ true)
both_true true b is = (refl, is)
both_true false b is = cc

pub not_true : (a : Bool) → not a ≡ true → a ≡ false
not_true true is = cc
not_true false is = refl

pub none_is : {X : Type 0} (o : Option X) → not (is_some o) ≡ true → o ≡ None
none_is (Some x) is = cc
none_is None is = refl

pub caps_none : (caps : Caps) → (caps.0 == 0) ≡ true → caps ≡ no_caps
caps_none caps is = ap (λ (n : ℕ). record { 0 = n }) (eqb-true caps.0 0 is)

-- an idle row has nothing but its preset
pub idle_is : (row : Row) → is_idle row ≡ true → row ≡ cleared row
idle_is row idle =
    let one = both_true _ _ idle in
    let two = both_true _ _ one.1 in
    let three = both_true _ _ two.1 in
    let four = both_true _ _ three.1 in
    let five = both_true _ _ four.1 in
    ap (λ u. record row { used = u }) (not_true row.used one.0)
    ∙ (ap (λ c. record row { used = false; now = c }) (caps_none row.now two.0)
    ∙ (ap (λ c. record row { used = false; now = no_caps; next = c }) (caps_none row.next three.0)
    ∙ (ap (λ h. record row { used = false; now = no_caps; next = no_caps; hold = h }) (not_true row.hold four.0)
    ∙ (ap (λ a. record row { used = false; now = no_caps; next = no_caps; hold = false; armed = a }) (none_is row.armed five.0)
    ∙ ap (λ l. record row { used = false; now = no_caps; next = no_caps; hold = false; armed = None; latency = l }) (none_is row.latency five.1)))))

-- a row with nothing but its preset stays when its master's mode changes, but for a start with its preset
shift_cleared : (from to : Mode) (taken : Bool) (row : Row) → (not (is_start from to) || (row.preset.0 == 0)) ≡ true
    → shifted_row from to taken (cleared row) ≡ cleared row
shift_cleared Off Off taken row is = refl
shift_cleared Off Active taken row is = at (row.preset.0 == 0) refl is
  where
    at : (b : Bool) → (row.preset.0 == 0) ≡ b → b ≡ true → preallocated taken (cleared row) ≡ cleared row
    at true none is = rw none refl
    at false none is = cc
shift_cleared Off Asleep taken row is = refl
shift_cleared Off Suspending taken row is = refl
shift_cleared Active Off taken row is = refl
shift_cleared Active Active taken row is = refl
shift_cleared Active Asleep taken row is = refl
shift_cleared Active Suspending taken row is = refl
shift_cleared Asleep Off taken row is = refl
shift_cleared Asleep Active taken row is = refl
shift_cleared Asleep Asleep taken row is = refl
shift_cleared Asleep Suspending taken row is = refl
shift_cleared Suspending Off taken row is = refl
shift_cleared Suspending Active taken row is = refl
shift_cleared Suspending Asleep taken row is = refl
shift_cleared Suspending Suspending taken row is = refl

-- so does an idle row
pub idle_shifts : (from to : Mode) (taken : Bool) (row : Row) → is_idle row ≡ true → (not (is_start from to) || (row.preset.0 == 0)) ≡ true
    → shifted_row from to taken row ≡ row
idle_shifts from to taken row idle none =
    let same = idle_is row idle in
    ap (shifted_row from to taken) same ∙ (shift_cleared from to taken row none ∙ sym same)

-- a row that a pass leaves is the row before
pub left_is : (pass : Pass) (entries : List Entry) (x : Entry) → is_left pass x.row ≡ true → row_after pass entries x ≡ x.row
left_is (One m s by) entries x is = cc
left_is (Settle m) entries x is = ap (λ h. record x.row { hold = h }) (sym (not_true x.row.hold is))
left_is (Shift m from to) entries x is =
    let parts = both_true _ _ is in
    idle_shifts from to (is_taken entries x) x.row parts.0 parts.1
left_is (DropSlave s) entries x is = sym (idle_is x.row is)
left_is Clear entries x is = sym (idle_is x.row is)

-- an idle row requires the same in each mode
pub idle_needs : (from to : Mode) (x : Entry) → is_idle x.row ≡ true → required_by to x ≡ required_by from x
idle_needs from to x idle =
    let same = idle_is x.row idle in
    ap (λ (row : Row). required_by to (record x { row = row })) same ∙ sym (ap (λ (row : Row). required_by from (record x { row = row })) same)

-- and so does any row that a pass leaves, in the modes before and after it
pub left_needs : (pass : Pass) (known : List Mode) (x : Entry) → is_left pass x.row ≡ true
    → required_by (mode_in x.seed.master (known_after pass known)) x ≡ required_by (mode_in x.seed.master known) x
left_needs (One m s by) known x is = cc
left_needs (Settle m) known x is = refl
left_needs (Shift m from to) known x is = idle_needs _ _ x (both_true _ _ is).0
left_needs (DropSlave s) known x is = refl
left_needs Clear known x is = refl

-- so nothing is to be done for it
pub left_put : (pass : Pass) (known : List Mode) (k : ℕ) (table : Table) (start steps : ℕ) (entry : Entry)
    → slice_get table.entries k ≡ Some entry → is_left pass entry.row ≡ true
    → entry.seed.slave < length table.tally.users → length table.entries < 2 ^ 31 → MayPutAt known k table → steps ≡ start + 1
    → PutsAt pass known k table start table steps
left_put pass known k table start steps entry here left placed few may reads x at =
    let both : Some entry ≡ Some x = sym here ∙ at in
    let same : entry ≡ x = cc in
    let P : Entry → Type 0 = λ y. IsPut k (counted known y)
    (counted_in (mode_in y.seed.master (known_after pass known)) (record y { row = row_after pass table.entries y })) table start table steps
    in
    subst P same
    (stay_put k entry (mode_in entry.seed.master known) (mode_in entry.seed.master (known_after pass known)) (row_after pass table.entries entry) table start steps
    here placed (left_is pass table.entries entry left) (left_needs pass known entry left) (may entry here placed few).limit reads)
