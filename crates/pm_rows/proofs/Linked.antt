-- The rows of a master, one behind another.
use Rattle.std.proofs.Common.{◌≡◌, ◌≢◌, ℕ, zero, suc, ◌+◌, ◌-◌, ◌<◌, ◌≤◌, Bool, true, false, ◌==◌, List, [], ◌∷◌, length, Some, ap, arith, refl, subst, sym, ◌∙◌}
use Rattle.std.specs.Prelude.{max, min, slice_get}
use Rattle.std.specs.Option.{option_map}
use Rattle.std.proofs.lemmas.Bool.{eqb-true}
use Rattle.std.proofs.lemmas.Option.{slice_get_within}
use Rattle.pm_base.specs.declared.names.Mode.{Mode}
use Rattle.pm_rows.specs.declared.row.Pair.{Pair}
use Rattle.pm_rows.specs.declared.row.Row.{Row}
use Rattle.pm_rows.specs.declared.row.Entry.{Entry}
use Rattle.pm_rows.specs.Counted.{Table, Tally, entries_of}
use Rattle.pm_rows.specs.declared.passes.Pass.{Pass}
use Rattle.pm_rows.specs.declared.passes.Pass.TheVariants.{Settle, Shift}
use Rattle.pm_rows.specs.Links.{IsLinked, IsNextFor, IsNextOf, link_at}
use Rattle.pm_rows.specs.Passes.{passed, touches}
use Rattle.pm_rows.specs.Passing.{IsPassing, PutsAt, Visits, same}
use Rattle.pm_cells.specs.Midway.{midway}
use Rattle.pm_cells.proofs.Midway.{midway_get, there}
use Rattle.pm_rows.proofs.Cells.{entries_seed}
use Rattle.pm_rows.proofs.Turns.{left_here, puts_there, skip_to}

-- behind the last pair there is none
pub linked_end : (pairs : List Pair) (k : ℕ) (first next : List ℕ) → k ≡ length pairs → IsLinked k pairs first next
linked_end pairs k first next end = record {
  front = λ m j pair at past below. absurd (let within = slice_get_within pairs j pair at in omega (arith, end, past));
  behind = λ i j one other at there past below less. absurd (let within = slice_get_within pairs i one at in omega (arith, end, past));
}

pub linked_none : (pairs : List Pair) (first next : List ℕ) → length pairs ≡ 0 → IsLinked 0 pairs first next
linked_none pairs first next none = linked_end pairs 0 first next (sym none)

-- ---- seen in a table

module _ (now : Table) (seeds : List Pair) (rows : List Row) (tally : Tally) (wide room : ℕ) (first next : List ℕ)
    (view : record { entries = entries_of seeds rows; tally = tally; slaves = wide; room = room } ≡ now) (is : IsLinked 0 seeds first next) where
  pair_seen : (k : ℕ) (e : Entry) → slice_get now.entries k ≡ Some e → slice_get seeds k ≡ Some e.seed
  pair_seen k e at = entries_seed seeds rows k e (ap (λ (t : Table). slice_get t.entries k) view ∙ at)

  -- the first row of a master
  pub front_seen : (m from to : ℕ) → from ≡ 0 → to ≡ link_at m first → IsNextOf m from to now.entries
  front_seen m from to start found = record {
    after = omega arith;
    none = λ j e at past below. is.front m j e.seed (pair_seen j e at) (omega arith) (omega (arith, below, found));
  }

  -- the next one behind a row
  pub behind_seen : (m from to : ℕ) (seed : Pair) → 0 < from → from ≤ length now.entries
      → option_map (λ (e : Entry). e.seed) (slice_get now.entries (from - 1)) ≡ Some seed → seed.master ≡ m
      → to ≡ max (link_at (from - 1) next) from → IsNextOf m from to now.entries
  behind_seen m from to seed some within pair own found =
      let row = there now.entries (from - 1) (omega arith) in
      let both : Some row.0.seed ≡ Some seed = ap (option_map (λ (e : Entry). e.seed)) (sym row.1) ∙ pair in
      let alike : row.0.seed ≡ seed = cc in
      let master : row.0.seed.master ≡ m = ap (λ (s : Pair). s.master) alike ∙ own in
      record {
        after = omega (arith, found);
        none = λ j e at past below own_too.
            is.behind (from - 1) j row.0.seed e.seed (pair_seen (from - 1) row.0 row.1) (pair_seen j e at) (omega arith) (omega (arith, past, some)) (omega (arith, below, found, past))
            (own_too ∙ sym master);
      }

-- where nothing is known of a place it is the next one
pub none_skipped : (m from to : ℕ) (entries : List Entry) → to ≡ from → IsNextOf m from to entries
none_skipped m from to entries same = record {
  after = omega arith;
  none = λ j e at past below. absurd (omega (arith, same, past, below));
}

-- ---- in the middle of a pass

-- the rows behind the place of a pass are as before it
midway_past : {X Y : Type 0} (f g : X → Y) (xs : List X) (k j : ℕ) (x : X) → slice_get xs j ≡ Some x → k ≤ j → slice_get (midway f g k xs) j ≡ Some (g x)
midway_past f g [] k j x at past = cc
midway_past f g (y ∷ ys) zero zero x at past = ap (option_map g) at
midway_past f g (y ∷ ys) zero (suc j) x at past = midway_past f g ys zero j x at (omega arith)
midway_past f g (y ∷ ys) (suc k) zero x at past = absurd (omega arith)
midway_past f g (y ∷ ys) (suc k) (suc j) x at past = midway_past f g ys k j x at (omega arith)

unequal : (a b : ℕ) → a ≢ b → (a == b) ≡ false
unequal a b apart = by (a == b) refl
  where
    by : (same : Bool) → (a == b) ≡ same → (a == b) ≡ false
    by true is = absurd (apart (eqb-true _ _ is))
    by false is = is

-- a pass over the rows of one master goes on at the next of them
pub next_own : (pass : Pass) (m from to next end : ℕ) (entries : List Entry) → ((seed : Pair) → touches pass seed ≡ (seed.master == m))
    → IsNextOf m from to entries → next ≡ min to end → from ≤ end → IsNextFor pass from next end entries
next_own pass m from to next end entries own is capped order = record {
  after = omega (arith, is.after, capped, order);
  within = omega (arith, capped);
  none = λ j e at past below. own e.seed ∙ unequal e.seed.master m (is.none j e at past (omega (arith, below, capped)));
}

pub next_settle : (pass : Pass) (m from to next end : ℕ) (entries : List Entry) → pass ≡ Settle m
    → IsNextOf m from to entries → next ≡ min to end → from ≤ end → IsNextFor pass from next end entries
next_settle pass m from to next end entries is found capped order =
    let P : Pass → Type 0 = λ p. IsNextFor p from next end entries in
    subst P (sym is) (next_own (Settle m) m from to next end entries (λ seed. refl) found capped order)

pub next_shift : (pass : Pass) (m : ℕ) (a b : Mode) (from to next end : ℕ) (entries : List Entry) → pass ≡ Shift m a b
    → IsNextOf m from to entries → next ≡ min to end → from ≤ end → IsNextFor pass from next end entries
next_shift pass m a b from to next end entries is found capped order =
    let P : Pass → Type 0 = λ p. IsNextFor p from next end entries in
    subst P (sym is) (next_own (Shift m a b) m from to next end entries (λ seed. refl) found capped order)

-- another pass goes on at the next row
pub next_here : (pass : Pass) (from next end : ℕ) (entries : List Entry) → next ≡ from → from ≤ end → IsNextFor pass from next end entries
next_here pass from next end entries same order = record {
  after = omega arith;
  within = omega arith;
  none = λ j e at past below. absurd (omega (arith, same, past, below));
}

pub passing_next : (pass : Pass) (known : List Mode) (rows : List Entry) (start from next end : ℕ) (table : Table) (steps : ℕ)
    → IsPassing pass known rows start from table steps → IsNextFor pass from next end table.entries → end ≤ length rows
    → IsPassing pass known rows start next table steps
passing_next pass known rows start from next end table steps is found within =
    skip_to next from pass known rows start table steps is found.after (omega (arith, found.within, within))
    (λ j x at past below. found.none j x (ap (λ es. slice_get es j) is.changed ∙ midway_past (passed pass rows) same rows from j x at past) past below)

-- ---- the row at a place is visited

seed_of : (entries : List Entry) (k : ℕ) (x : Entry) (seed : Pair) → slice_get entries k ≡ Some x
    → option_map (λ (e : Entry). e.seed) (slice_get entries k) ≡ Some seed → x.seed ≡ seed
seed_of entries k x seed at pair =
    let both : Some x.seed ≡ Some seed = ap (option_map (λ (e : Entry). e.seed)) (sym at) ∙ pair in
    cc

pub visits_put : (pass : Pass) (known : List Mode) (k : ℕ) (before : Table) (start : ℕ) (after : Table) (steps : ℕ) (seed : Pair)
    → option_map (λ (e : Entry). e.seed) (slice_get before.entries k) ≡ Some seed → touches pass seed ≡ true
    → PutsAt pass known k before start after steps → Visits pass known k before start after steps
visits_put pass known k before start after steps seed pair touched_is puts = record {
  touched = λ x at own. puts;
  left = λ x at left_is.
      let wrong : true ≡ false = sym touched_is ∙ (ap (touches pass) (sym (seed_of before.entries k x seed at pair)) ∙ left_is) in
      absurd cc;
}

pub visits_left : (pass : Pass) (known : List Mode) (k : ℕ) (table : Table) (steps : ℕ) (seed : Pair)
    → option_map (λ (e : Entry). e.seed) (slice_get table.entries k) ≡ Some seed → touches pass seed ≡ false
    → Visits pass known k table steps table steps
visits_left pass known k table steps seed pair left_is = record {
  touched = λ x at touched_is.
      let wrong : true ≡ false = sym touched_is ∙ (ap (touches pass) (seed_of table.entries k x seed at pair) ∙ left_is) in
      absurd cc;
  left = λ x at own. (refl, refl);
}

module _ (pass : Pass) (known : List Mode) (rows : List Entry) (start k : ℕ) (table : Table) (steps : ℕ) (next : Table) (later : ℕ)
    (is : IsPassing pass known rows start k table steps) (within : k < length rows) (visits : Visits pass known k table steps next later) where
  visited_at : (x : Entry) → slice_get rows k ≡ Some x → slice_get table.entries k ≡ Some x → (own : Bool) → touches pass x.seed ≡ own
      → IsPassing pass known rows start (k + 1) next later × (next.slaves ≡ table.slaves) × (next.room ≡ table.room)
  visited_at x there_is at true touched_is =
      puts_there pass known rows start k table steps is x.seed next later within (ap (option_map (λ (e : Entry). e.seed)) at) touched_is (visits.touched x at touched_is)
  visited_at x there_is at false left_is =
      let stays = visits.left x at left_is in
      let P : Table → Type 0 = λ t. IsPassing pass known rows start (k + 1) t later × (t.slaves ≡ table.slaves) × (t.room ≡ table.room) in
      let Q : ℕ → Type 0 = λ n. IsPassing pass known rows start (k + 1) table n × (table.slaves ≡ table.slaves) × (table.room ≡ table.room) in
      subst P (sym stays.0) (subst Q (sym stays.1) (left_here pass known rows start k table steps is x there_is left_is, refl, refl))

  -- then the pass is one place further on
  pub visited : IsPassing pass known rows start (k + 1) next later × (next.slaves ≡ table.slaves) × (next.room ≡ table.room)
  visited =
      let found = there rows k within in
      visited_at found.0 found.1
      (ap (λ es. slice_get es k) is.changed ∙ midway_get (passed pass rows) same rows k found.0 found.1)
      (touches pass found.0.seed) refl
