-- A calm change of a master's mode leaves the rows that rest.
use Rattle.std.proofs.Common.{◌≡◌, ℕ, ◌+◌, ◌<◌, ◌^◌, ◌==◌, ◌&&◌, Bool, true, false, not, if◌then◌else◌, List, length, Some, refl, sym, ◌∙◌, ap, subst}
use Rattle.std.specs.Prelude.{◌||◌, bit_and, is_some, slice_get}
use Rattle.std.proofs.lemmas.Bool.{eqb-true}
use Rattle.pm_base.specs.declared.names.Mode.{Mode}
use Rattle.pm_base.specs.declared.names.Mode.TheVariants.{Off, Active, Asleep, Suspending}
use Rattle.pm_rows.specs.declared.row.Pair.{Pair}
use Rattle.pm_rows.specs.declared.row.Row.{Row}
use Rattle.pm_rows.specs.declared.row.Entry.{Entry}
use Rattle.pm_base.specs.declared.caps.Caps.{Caps}
use Rattle.pm_rows.specs.Modes.{mode_in}
use Rattle.pm_rows.specs.Rows.{no_caps}
use Rattle.pm_rows.specs.Wanted.{arming_differs, both, by_hold, by_use, required_by, wakeup, while_asleep}
use Rattle.pm_rows.specs.Shift.{exchanged, is_calm, restored, shifted_row, turned_row, unscheduled}
use Rattle.pm_rows.specs.Counted.{Table, counted, counted_in}
use Rattle.pm_rows.specs.Passes.{rests}
use Rattle.pm_rows.specs.Passing.{IsPut, MayPutAt}
use Rattle.pm_rows.proofs.Left.{stay_put}

-- where a row that rests is used, it wants now what it wants next
wants_next : (differs : Bool) (x : Entry) → rests differs x ≡ true → x.row.used ≡ true → x.row.now ≡ x.row.next
wants_next differs x resting used =
    let same : (x.row.next.0 == x.row.now.0) ≡ true =
    at (differs && is_some x.row.armed) x.row.used (x.row.next.0 == x.row.now.0) resting used
    in
    sym (ap (λ n. record { 0 = n }) (eqb-true x.row.next.0 x.row.now.0 same))
  where
    at : (armed used alike : Bool) → (not armed && (not used || alike)) ≡ true → used ≡ true → alike ≡ true
    at true used alike is on = cc
    at false true alike is on = is
    at false false alike is on = cc

module _ (row : Row) (same : row.used ≡ true → row.now ≡ row.next) where
  dropped : (used : Bool) → row.used ≡ used → unscheduled row ≡ row
  dropped true is =
      ap (λ u. if u then record row { next = row.now } else row) is ∙ ap (λ c. record row { next = c }) (same is)
  dropped false is = ap (λ u. if u then record row { next = row.now } else row) is

  swapped : (used : Bool) → row.used ≡ used → exchanged row ≡ row
  swapped true is =
      ap (λ u. if u then record row { now = row.next; next = row.now } else row) is
      ∙ (ap (λ c. record row { now = c; next = row.now }) (sym (same is)) ∙ ap (λ c. record row { next = c }) (same is))
  swapped false is = ap (λ u. if u then record row { now = row.next; next = row.now } else row) is

  back : (used : Bool) → row.used ≡ used → restored row ≡ row
  back true is = ap (λ u. if u then record row { now = row.next } else row) is ∙ ap (λ c. record row { now = c }) (sym (same is))
  back false is = ap (λ u. if u then record row { now = row.next } else row) is

  -- such a row stays
  stays : (from to : Mode) (taken : Bool) → is_calm from to ≡ true → shifted_row from to taken row ≡ row
  stays Off Off taken calm = cc
  stays Off Active taken calm = cc
  stays Off Asleep taken calm = refl
  stays Off Suspending taken calm = refl
  stays Active Off taken calm = cc
  stays Active Active taken calm = refl
  stays Active Asleep taken calm = swapped row.used refl
  stays Active Suspending taken calm = dropped row.used refl
  stays Asleep Off taken calm = cc
  stays Asleep Active taken calm = back row.used refl
  stays Asleep Asleep taken calm = refl
  stays Asleep Suspending taken calm = refl
  stays Suspending Off taken calm = cc
  stays Suspending Active taken calm = dropped row.used refl
  stays Suspending Asleep taken calm = swapped row.used refl
  stays Suspending Suspending taken calm = refl

row_kept : (b : Bool) (row : Row) → (if b then row else row) ≡ row
row_kept true row = refl
row_kept false row = refl

-- what a calm change makes of a row
pub turned_is : (from to : Mode) (taken : Bool) (row : Row) → is_calm from to ≡ true → turned_row from to row ≡ shifted_row from to taken row
turned_is Off Off taken row calm = cc
turned_is Off Active taken row calm = cc
turned_is Off Asleep taken row calm = row_kept row.used row
turned_is Off Suspending taken row calm = row_kept row.used row
turned_is Active Off taken row calm = cc
turned_is Active Active taken row calm = row_kept row.used row
turned_is Active Asleep taken row calm = refl
turned_is Active Suspending taken row calm = refl
turned_is Asleep Off taken row calm = cc
turned_is Asleep Active taken row calm = refl
turned_is Asleep Asleep taken row calm = row_kept row.used row
turned_is Asleep Suspending taken row calm = row_kept row.used row
turned_is Suspending Off taken row calm = cc
turned_is Suspending Active taken row calm = refl
turned_is Suspending Asleep taken row calm = refl
turned_is Suspending Suspending taken row calm = row_kept row.used row

-- neither of two modes is sleep
awake_both : (m n : Mode) (caps : Caps) → arming_differs m n ≡ false → while_asleep m caps ≡ while_asleep n caps
awake_both Off Off caps is = refl
awake_both Off Active caps is = refl
awake_both Off Asleep caps is = cc
awake_both Off Suspending caps is = refl
awake_both Active Off caps is = refl
awake_both Active Active caps is = refl
awake_both Active Asleep caps is = cc
awake_both Active Suspending caps is = refl
awake_both Asleep Off caps is = cc
awake_both Asleep Active caps is = cc
awake_both Asleep Asleep caps is = refl
awake_both Asleep Suspending caps is = cc
awake_both Suspending Off caps is = refl
awake_both Suspending Active caps is = refl
awake_both Suspending Asleep caps is = cc
awake_both Suspending Suspending caps is = refl

-- a row that rests wants the same in both modes of its master
wants_same : (m n : Mode) (x : Entry) → rests (arming_differs m n) x ≡ true → required_by m x ≡ required_by n x
wants_same m n x resting = at (is_some x.row.armed) refl (arming_differs m n) refl
  where
    at : (armed : Bool) → is_some x.row.armed ≡ armed → (differs : Bool) → arming_differs m n ≡ differs
        → required_by m x ≡ required_by n x
    at true is true differs = let none : rests (arming_differs m n) x ≡ false = rw (differs, is) refl in cc
    at true is false differs =
        let alike = awake_both m n (record { 0 = bit_and wakeup.0 x.seed.all.0 }) differs in
        ap (λ caps. both (by_use x) (both (if is_some x.row.armed then caps else no_caps) (by_hold x))) alike
    at false is differs so = rw is refl

-- so nothing is to be done for it
pub rest_put : (k : ℕ) (known : List Mode) (from to : Mode) (taken : Bool) (table : Table) (start steps : ℕ) (x entry : Entry)
    → slice_get table.entries k ≡ Some x → slice_get table.entries k ≡ Some entry → rests (arming_differs from to) entry ≡ true
    → is_calm from to ≡ true → entry.seed.slave < length table.tally.users → length table.entries < 2 ^ 31 → MayPutAt known k table
    → mode_in x.seed.master known ≡ from → steps ≡ start + 1
    → IsPut k (counted known x) (counted_in to (record x { row = shifted_row from to taken x.row })) table start table steps
rest_put k known from to taken table start steps x entry at here resting calm placed few may mode reads =
    let both : Some entry ≡ Some x = sym here ∙ at in
    let same : entry ≡ x = cc in
    let own : rests (arming_differs from to) x ≡ true = ap (rests (arming_differs from to)) (sym same) ∙ resting in
    let room : x.seed.slave < length table.tally.users = subst (λ (e : Entry). e.seed.slave < length table.tally.users) same placed in
    let left : shifted_row from to taken x.row ≡ x.row = stays x.row (wants_next (arming_differs from to) x own) from to taken calm in
    let alike : required_by to x ≡ required_by (mode_in x.seed.master known) x = sym (ap (λ m. required_by m x) mode ∙ wants_same from to x own) in
    stay_put k x (mode_in x.seed.master known) to (shifted_row from to taken x.row) table start steps at room left alike (may x at room few).limit reads

-- what a row requires, by what it requires by
abbrev needs : Bool → Caps → Bool → Mode → Caps → Bool → Caps
needs used now armed mode all hold =
    both (if used then now else no_caps)
    (both (if armed then while_asleep mode (record { 0 = bit_and wakeup.0 all.0 }) else no_caps) (if hold then all else no_caps))

-- a row put in place of one that is used, armed and held alike, and wants the same now, requires the same
pub needs_same : (m n : Mode) (x y : Entry) → y.seed ≡ x.seed → y.row.used ≡ x.row.used → y.row.now ≡ x.row.now → y.row.hold ≡ x.row.hold
    → is_some y.row.armed ≡ is_some x.row.armed → (is_some x.row.armed && arming_differs m n) ≡ false
    → required_by n y ≡ required_by m x
needs_same m n x y seed used now hold armed quiet =
    ap (λ (u : Bool). needs u y.row.now (is_some y.row.armed) n y.seed.all y.row.hold) used
    ∙ (ap (λ (c : Caps). needs x.row.used c (is_some y.row.armed) n y.seed.all y.row.hold) now
    ∙ (ap (λ (a : Bool). needs x.row.used x.row.now a n y.seed.all y.row.hold) armed
    ∙ (ap (λ (s : Pair). needs x.row.used x.row.now (is_some x.row.armed) n s.all y.row.hold) seed
    ∙ (ap (λ (h : Bool). needs x.row.used x.row.now (is_some x.row.armed) n x.seed.all h) hold ∙ at (is_some x.row.armed) quiet))))
  where
    at : (armed : Bool) → (armed && arming_differs m n) ≡ false
        → needs x.row.used x.row.now armed n x.seed.all x.row.hold ≡ needs x.row.used x.row.now armed m x.seed.all x.row.hold
    at true is =
        ap (λ (c : Caps). both (by_use x) (both c (by_hold x))) (sym (awake_both m n (record { 0 = bit_and wakeup.0 x.seed.all.0 }) is))
    at false is = refl
