-- One turn of a pass.
use Rattle.std.proofs.Common.{◌≡◌, ◌≢◌, ℕ, zero, suc, ◌+◌, ◌-◌, ◌*◌, ◌<◌, ◌^◌, ◌≤◌, Bool, true, false, ◌&&◌, ◌==◌, cond, if◌then◌else◌, List, [], ◌∷◌, map, length, drop, Some, refl, sym, ◌∙◌, ap, subst, arith}
use Rattle.std.specs.Prelude.{slice_get, slice_set, sum_by, count_by}
use Rattle.std.specs.List.{list_any}
use Rattle.std.specs.Option.{option_map}
use Rattle.std.proofs.lemmas.Bool.{eqb-true, eq-eqb}
use Rattle.std.proofs.lemmas.List.{get_or-set_other, get_or-set_same}
use Rattle.std.proofs.lemmas.List.Sums.{sum_by-cons}
use Rattle.std.proofs.lemmas.Option.{unwrap_or-slice_get}
use Rattle.pm_base.proofs.ListLemmas.{drop_found}
use Rattle.pm_base.proofs.Counts.{count_by-cons}
use Rattle.pm_base.specs.declared.names.Mode.{Mode}
use Rattle.pm_base.specs.declared.names.Mode.TheVariants.{Off}
use Rattle.pm_rows.specs.declared.row.Row.{Row}
use Rattle.pm_rows.specs.declared.row.Pair.{Pair}
use Rattle.pm_rows.specs.declared.row.Entry.{Entry}
use Rattle.pm_rows.specs.declared.row.Change.{Change}
use Rattle.pm_rows.specs.declared.passes.Pass.{Pass}
use Rattle.pm_rows.specs.declared.passes.Pass.TheVariants.{One, Settle, Shift, DropSlave, Clear}
use Rattle.pm_rows.specs.Modes.{mode_in}
use Rattle.pm_rows.specs.Rows.{is_rival, is_at}
use Rattle.pm_rows.specs.Shift.{shifted_row, is_taken}
use Rattle.pm_rows.specs.Wanted.{limit_by, required_by}
use Rattle.pm_rows.specs.Counted.{Counted, Table, Tally, AreTallied, AreReady, has, counted, counted_in, entry_in, is_on, permitted_on, limit_of, moved}
use Rattle.pm_rows.specs.Passes.{touches, row_after, passed, known_after, cost_of, done}
use Rattle.pm_rows.specs.Cost.{is_same_limit, moves, put_cost}
use Rattle.pm_cells.specs.Midway.{midway}
use Rattle.pm_rows.specs.Passing.{same, IsPassing, MayPut, PutsAt, Turns}
use Rattle.pm_cells.proofs.Midway.{midway_get, midway_set, midway_same, midway_map, midway_len, midway_count, midway_any, map_same, midway_end, there}
use Rattle.pm_cells.proofs.Counting.{one_if}
use Rattle.pm_rows.proofs.Tallies.{tallied_moved, tallied_ready, tallied_limit}

if_seed : (b : Bool) (x : Entry) (r : Row) → (if b then record x { row = r } else x).seed ≡ x.seed
if_seed true x r = refl
if_seed false x r = refl

pub passed_seed : (pass : Pass) (rows : List Entry) (x : Entry) → (passed pass rows x).seed ≡ x.seed
passed_seed pass rows x = if_seed (touches pass x.seed) x (row_after pass rows x)

rival_at : (m s : ℕ) (x : Entry) (r : Row) (b : Bool) → (x.seed.master == m) ≡ b
    → is_rival m s (if b then record x { row = r } else x) ≡ is_rival m s x
rival_at m s x r true is = rw is refl
rival_at m s x r false is = refl

-- judged in the middle of a pass, a row changes as judged before it
pub row_alike : (pass : Pass) (rows now : List Entry) (k : ℕ) (x : Entry) → now ≡ midway (passed pass rows) same k rows
    → touches pass x.seed ≡ true → row_after pass now x ≡ row_after pass rows x
row_alike (One m s by) rows now k x is touched = refl
row_alike (Settle m) rows now k x is touched = refl
row_alike (Shift m from to) rows now k x is touched =
    let at : x.seed.master ≡ m = eqb-true _ _ touched in
    let any : list_any (is_rival m x.seed.slave) now ≡ list_any (is_rival m x.seed.slave) rows =
    ap (list_any (is_rival m x.seed.slave)) is
    ∙ midway_any (is_rival m x.seed.slave) (is_rival m x.seed.slave) (passed (Shift m from to) rows) same
    (λ y. rival_at m x.seed.slave y (shifted_row from to (is_taken rows y) y.row) (y.seed.master == m) refl) (λ y. refl) rows k
    in
    let taken : is_taken now x ≡ is_taken rows x = rw at any in
    ap (λ t. shifted_row from to t x.row) taken
row_alike (DropSlave s) rows now k x is touched = refl
row_alike Clear rows now k x is touched = refl

pub passed_touched : (pass : Pass) (rows : List Entry) (x : Entry) → touches pass x.seed ≡ true
    → passed pass rows x ≡ record x { row = row_after pass rows x }
passed_touched pass rows x is = ap (λ b. if b then record x { row = row_after pass rows x } else x) is

pub passed_untouched : (pass : Pass) (rows : List Entry) (x : Entry) → touches pass x.seed ≡ false → passed pass rows x ≡ x
passed_untouched pass rows x is = ap (λ b. if b then record x { row = row_after pass rows x } else x) is

-- the masters of rows that a pass leaves are in the mode that they were in
mode_untouched : (pass : Pass) (known : List Mode) (x : Entry) → touches pass x.seed ≡ false
    → mode_in x.seed.master (known_after pass known) ≡ mode_in x.seed.master known
mode_untouched (One m s by) known x is = refl
mode_untouched (Settle m) known x is = refl
mode_untouched (Shift m from to) known x is =
    let apart : x.seed.master ≢ m = λ e. let yes : (x.seed.master == m) ≡ true = eq-eqb _ _ e in cc in
    unwrap_or-slice_get (slice_set known m to) x.seed.master Off
    ∙ (get_or-set_other known m x.seed.master to Off apart ∙ sym (unwrap_or-slice_get known x.seed.master Off))
mode_untouched (DropSlave s) known x is = refl
mode_untouched Clear known x is = cc

entries_midway : (pass : Pass) (known : List Mode) (rows : List Entry) (k : ℕ)
    → map entry_in (midway (done pass known rows) (counted known) k rows) ≡ midway (passed pass rows) same k rows
entries_midway pass known rows k = midway_map entry_in (done pass known rows) (counted known) rows k

module _ (pass : Pass) (known : List Mode) (rows : List Entry) (start k : ℕ) (table : Table) (steps : ℕ)
    (is : IsPassing pass known rows start k table steps) where
  -- the row at the place is the one before the pass
  pub row_here : (x : Entry) → slice_get table.entries k ≡ Some x → k < length rows → slice_get rows k ≡ Some x
  row_here x at within =
      let found = there rows k within in
      let mid : slice_get (midway (passed pass rows) same k rows) k ≡ Some found.0 = midway_get (passed pass rows) same rows k found.0 found.1 in
      let one : slice_get table.entries k ≡ Some found.0 = ap (λ es. slice_get es k) is.changed ∙ mid in
      found.1 ∙ (sym one ∙ at)

  pub len_here : length table.entries ≡ length rows
  len_here = ap length is.changed ∙ midway_len (passed pass rows) same rows k

  -- its counts are ready
  pub ready_here : (x : Entry) → slice_get rows k ≡ Some x → x.seed.slave < length table.tally.users → length rows < 2 ^ 31
      → AreReady (counted_in (mode_in x.seed.master known) x) table.tally
  ready_here x at placed few =
      tallied_ready (midway (done pass known rows) (counted known) k rows) table.tally k (counted known x) is.kept
      (midway_get (done pass known rows) (counted known) rows k x at) placed
      (let size = midway_len (done pass known rows) (counted known) rows k in omega arith)

  -- the least latency that is kept is that of the rows
  pub limit_here : (s : ℕ) → s < length table.tally.users → slice_get table.tally.limits s ≡ Some (limit_of s table.entries)
  limit_here s within =
      tallied_limit (midway (done pass known rows) (counted known) k rows) table.tally s table.entries is.kept within
      (is.changed ∙ sym (entries_midway pass known rows k))

  permitted_here : (s : ℕ) → permitted_on s table.entries ≡ permitted_on s rows
  permitted_here s =
      ap (permitted_on s) is.changed
      ∙ midway_count (is_on s) (is_on s) (passed pass rows) same
      (λ x. ap (λ (n : ℕ). n == s) (ap (λ (seed : Pair). seed.slave) (passed_seed pass rows x))) (λ x. refl) rows k

  -- it is put
  pub put_here : (x : Entry) (to : Mode) (row : Row) (next : Table) (later : ℕ) → slice_get rows k ≡ Some x → touches pass x.seed ≡ true
      → x.seed.slave < length table.tally.users
      → to ≡ mode_in x.seed.master (known_after pass known)
      → row ≡ row_after pass table.entries x
      → next.entries ≡ slice_set table.entries k (record x { row = row })
      → next.tally ≡ moved (counted_in (mode_in x.seed.master known) x) (counted_in to (record x { row = row })) next.entries table.tally
      → later ≡ steps + 1 + put_cost (counted_in (mode_in x.seed.master known) x) (counted_in to (record x { row = row }))
      (permitted_on x.seed.slave table.entries)
      → IsPassing pass known rows start (k + 1) next later
  put_here x to row next later at touched placed mode row_is entries tally cost =
      let after : record x { row = row } ≡ passed pass rows x =
      ap (λ r. record x { row = r }) (row_is ∙ row_alike pass rows table.entries k x is.changed touched) ∙ sym (passed_touched pass rows x touched)
      in
      let seen : counted_in to (record x { row = row }) ≡ done pass known rows x =
      ap (λ m. counted_in m (record x { row = row })) mode ∙ ap (counted_in (mode_in x.seed.master (known_after pass known))) after
      in
      let put = midway_set (done pass known rows) (counted known) rows k x at in
      let P : Tally → Type 0 = λ t. AreTallied (midway (done pass known rows) (counted known) (k + 1) rows) t in
      let Q : List Counted → Type 0 = λ cs. AreTallied cs (moved (counted known x) (counted_in to (record x { row = row })) next.entries table.tally) in
      let here : AreTallied (slice_set (midway (done pass known rows) (counted known) k rows) k (counted_in to (record x { row = row })))
      (moved (counted known x) (counted_in to (record x { row = row })) next.entries table.tally) =
      tallied_moved (midway (done pass known rows) (counted known) k rows) table.tally k (counted known x) (counted_in to (record x { row = row }))
      next.entries is.kept (midway_get (done pass known rows) (counted known) rows k x at) refl placed
      (entries ∙ ap (λ es. slice_set es k (record x { row = row })) (is.changed ∙ sym (entries_midway pass known rows k)))
      in
      let price : ℕ = put_cost (counted known x) (done pass known rows x) (permitted_on x.seed.slave rows) in
      let due : cost_of pass known rows x ≡ 1 + price = ap (λ b. cond b (1 + price) 0) touched in
      let paid : put_cost (counted known x) (counted_in to (record x { row = row })) (permitted_on x.seed.slave table.entries) ≡ price =
      ap (put_cost (counted known x) (counted_in to (record x { row = row }))) (permitted_here x.seed.slave)
      ∙ ap (λ y. put_cost (counted known x) y (permitted_on x.seed.slave rows)) seen
      in
      let left : sum_by (cost_of pass known rows) (drop k rows) ≡ cost_of pass known rows x + sum_by (cost_of pass known rows) (drop (k + 1) rows) =
      ap (sum_by (cost_of pass known rows)) (drop_found rows k x at) ∙ sum_by-cons (cost_of pass known rows) x (drop (k + 1) rows)
      in
      record {
        changed =
            entries ∙ (ap (λ es. slice_set es k (record x { row = row })) is.changed
            ∙ (ap (slice_set (midway (passed pass rows) same k rows) k) after ∙ midway_set (passed pass rows) same rows k x at));
        kept = subst P (sym tally) (subst Q (ap (slice_set (midway (done pass known rows) (counted known) k rows) k) seen ∙ put) here);
        cost = omega (arith, due, left, is.cost, paid, cost);
      }

  -- or it is left
  pub left_here : (x : Entry) → slice_get rows k ≡ Some x → touches pass x.seed ≡ false
      → IsPassing pass known rows start (k + 1) table steps
  left_here x at untouched =
      let stays = passed_untouched pass rows x untouched in
      let alike : done pass known rows x ≡ counted known x =
      ap (λ m. counted_in m (passed pass rows x)) (mode_untouched pass known x untouched) ∙ ap (counted_in (mode_in x.seed.master known)) stays
      in
      let P : List Counted → Type 0 = λ cs. AreTallied cs table.tally in
      let price : ℕ = put_cost (counted known x) (done pass known rows x) (permitted_on x.seed.slave rows) in
      let due : cost_of pass known rows x ≡ 0 = ap (λ b. cond b (1 + price) 0) untouched in
      let left : sum_by (cost_of pass known rows) (drop k rows) ≡ cost_of pass known rows x + sum_by (cost_of pass known rows) (drop (k + 1) rows) =
      ap (sum_by (cost_of pass known rows)) (drop_found rows k x at) ∙ sum_by-cons (cost_of pass known rows) x (drop (k + 1) rows)
      in
      record {
        changed = is.changed ∙ midway_same (passed pass rows) same rows k x at stays;
        kept = subst P (midway_same (done pass known rows) (counted known) rows k x at alike) is.kept;
        cost = omega (arith, due, left, is.cost);
      }

  -- the same, where its pair alone was read
  pub left_there : (seed : Pair) → k < length rows → option_map (λ (e : Entry). e.seed) (slice_get table.entries k) ≡ Some seed
      → touches pass seed ≡ false → IsPassing pass known rows start (k + 1) table steps
  left_there seed within pair untouched =
      let found = there rows k within in
      let mid : slice_get table.entries k ≡ Some found.0 = ap (λ es. slice_get es k) is.changed ∙ midway_get (passed pass rows) same rows k found.0 found.1 in
      let both : Some found.0.seed ≡ Some seed = ap (option_map (λ (e : Entry). e.seed)) (sym mid) ∙ pair in
      let same_pair : found.0.seed ≡ seed = cc in
      left_here found.0 found.1 (ap (touches pass) same_pair ∙ untouched)

  -- it may be put
  pub may_put : (x : Entry) → slice_get rows k ≡ Some x → x.seed.slave < length table.tally.users → length rows < 2 ^ 31
      → MayPut (counted known x) table
  may_put x at placed few = record { ready = ready_here x at placed few; limit = limit_here x.seed.slave placed }

  -- it is put by the pass
  pub puts_there : (seed : Pair) (next : Table) (later : ℕ) → k < length rows
      → option_map (λ (e : Entry). e.seed) (slice_get table.entries k) ≡ Some seed → touches pass seed ≡ true
      → PutsAt pass known k table steps next later
      → IsPassing pass known rows start (k + 1) next later × (next.slaves ≡ table.slaves) × (next.room ≡ table.room)
  puts_there seed next later within pair touched puts =
      let found = there rows k within in
      let mid : slice_get table.entries k ≡ Some found.0 = ap (λ es. slice_get es k) is.changed ∙ midway_get (passed pass rows) same rows k found.0 found.1 in
      let both : Some found.0.seed ≡ Some seed = ap (option_map (λ (e : Entry). e.seed)) (sym mid) ∙ pair in
      let same_pair : found.0.seed ≡ seed = cc in
      let put = puts found.0 mid in (
        put_here found.0 (mode_in found.0.seed.master (known_after pass known)) (row_after pass table.entries found.0) next later found.1
            (ap (touches pass) same_pair ∙ touched) put.placed refl refl put.entries put.tally put.cost,
        put.slaves,
        put.room,
      )

-- rows that a pass leaves are passed over
pub skip : (n : ℕ) (pass : Pass) (known : List Mode) (rows : List Entry) (start k : ℕ) (table : Table) (steps : ℕ)
    → IsPassing pass known rows start k table steps → k + n ≤ length rows
    → ((j : ℕ) (x : Entry) → slice_get rows j ≡ Some x → k ≤ j → j < k + n → touches pass x.seed ≡ false)
    → IsPassing pass known rows start (k + n) table steps
skip zero pass known rows start k table steps is within off =
    let P : ℕ → Type 0 = λ j. IsPassing pass known rows start j table steps in
    let same_place : k ≡ k + 0 = omega arith in
    subst P same_place is
skip (suc n) pass known rows start k table steps is within off =
    let found = there rows k (omega arith) in
    let one = left_here pass known rows start k table steps is found.0 found.1 (off k found.0 found.1 (omega arith) (omega arith)) in
    let P : ℕ → Type 0 = λ j. IsPassing pass known rows start j table steps in
    let next : k + 1 + n ≡ k + suc n = omega arith in
    subst P next (skip n pass known rows start (k + 1) table steps one (omega arith) (λ j x at past below. off j x at (omega arith) (omega arith)))

pub skip_to : (a k : ℕ) (pass : Pass) (known : List Mode) (rows : List Entry) (start : ℕ) (table : Table) (steps : ℕ)
    → IsPassing pass known rows start k table steps → k ≤ a → a ≤ length rows
    → ((j : ℕ) (x : Entry) → slice_get rows j ≡ Some x → k ≤ j → j < a → touches pass x.seed ≡ false)
    → IsPassing pass known rows start a table steps
skip_to a k pass known rows start table steps is from within off =
    let P : ℕ → Type 0 = λ j. IsPassing pass known rows start j table steps in
    let there_is : k + (a - k) ≡ a = omega arith in
    subst P there_is (skip (a - k) pass known rows start k table steps is (omega arith) (λ j x at past below. off j x at past (omega arith)))

-- at the start nothing is done
pub starts : (pass : Pass) (known : List Mode) (table : Table) (steps : ℕ)
    → AreTallied (map (counted known) table.entries) table.tally
    → IsPassing pass known table.entries steps 0 table steps
starts pass known table steps are = record {
  changed = sym (map_same same (λ x. refl) table.entries);
  kept = are;
  cost = omega arith;
}

counted_done : (pass : Pass) (known : List Mode) (rows : List Entry) (xs : List Entry)
    → map (done pass known rows) xs ≡ map (counted (known_after pass known)) (map (passed pass rows) xs)
counted_done pass known rows [] = refl
counted_done pass known rows (x ∷ xs) =
    let master : x.seed.master ≡ (passed pass rows x).seed.master = ap (λ (seed : Pair). seed.master) (sym (passed_seed pass rows x)) in
    let here : done pass known rows x ≡ counted (known_after pass known) (passed pass rows x) =
    ap (λ m. counted_in (mode_in m (known_after pass known)) (passed pass rows x)) master
    in
    let later = counted_done pass known rows xs in
    cc

-- at the end all is
pub record HasPassed (pass : Pass) (known : List Mode) (rows : List Entry) (start : ℕ) (table : Table) (steps : ℕ) : Type 0 where
  pub changed : table.entries ≡ map (passed pass rows) rows
  pub kept : AreTallied (map (counted (known_after pass known)) table.entries) table.tally
  pub cost : steps ≡ start + sum_by (cost_of pass known rows) rows

none_left : (xs : List Entry) → drop (length xs) xs ≡ []
none_left [] = refl
none_left (x ∷ xs) = none_left xs

pub ends : (pass : Pass) (known : List Mode) (rows : List Entry) (start k : ℕ) (table : Table) (steps : ℕ)
    → IsPassing pass known rows start k table steps → k ≡ length rows → HasPassed pass known rows start table steps
ends pass known rows start k table steps is end =
    let changed : table.entries ≡ map (passed pass rows) rows = is.changed ∙ midway_end (passed pass rows) same rows k end in
    let P : List Counted → Type 0 = λ cs. AreTallied cs table.tally in
    let left : sum_by (cost_of pass known rows) (drop k rows) ≡ 0 =
    ap (λ (n : ℕ). sum_by (cost_of pass known rows) (drop n rows)) end ∙ ap (sum_by (cost_of pass known rows)) (none_left rows)
    in
    record {
      changed = changed;
      kept = subst P (midway_end (done pass known rows) (counted known) rows k end ∙ (counted_done pass known rows rows ∙ ap (map (counted (known_after pass known))) (sym changed))) is.kept;
      cost = omega (arith, left, is.cost);
    }

-- ---- one pair

none_costs : (p : Entry → Bool) (f : Entry → ℕ) (xs : List Entry) → count_by p xs ≡ 0 → sum_by (λ x. cond (p x) (f x) 0) xs ≡ 0
none_costs p f [] none = refl
none_costs p f (x ∷ xs) none =
    let parts : one_if (p x) + count_by p xs ≡ 0 = sym (count_by-cons p x xs) ∙ none in
    sum_by-cons (λ x. cond (p x) (f x) 0) x xs ∙ at (p x) parts (none_costs p f xs)
  where
    at : (b : Bool) → one_if b + count_by p xs ≡ 0 → (count_by p xs ≡ 0 → sum_by (λ x. cond (p x) (f x) 0) xs ≡ 0)
        → cond b (f x) 0 + sum_by (λ x. cond (p x) (f x) 0) xs ≡ 0
    at true parts again = absurd (omega arith)
    at false parts again = let later : sum_by (λ x. cond (p x) (f x) 0) xs ≡ 0 = again (omega arith) in omega arith

pub one_costs : (p : Entry → Bool) (f : Entry → ℕ) (most : ℕ) → ((x : Entry) → p x ≡ true → f x ≤ most) → (xs : List Entry)
    → count_by p xs ≤ 1 → sum_by (λ x. cond (p x) (f x) 0) xs ≤ most
one_costs p f most bound [] once = omega arith
one_costs p f most bound (x ∷ xs) once =
    let parts : count_by p (x ∷ xs) ≡ one_if (p x) + count_by p xs = count_by-cons p x xs in
    let whole : sum_by (λ x. cond (p x) (f x) 0) (x ∷ xs) ≡ cond (p x) (f x) 0 + sum_by (λ x. cond (p x) (f x) 0) xs = sum_by-cons (λ x. cond (p x) (f x) 0) x xs in
    let here = at (p x) refl (one_costs p f most bound xs) (none_costs p f xs) (omega arith) in
    let P : ℕ → Type 0 = λ n. n ≤ most in
    subst P (sym whole) here
  where
    at : (b : Bool) → p x ≡ b
        → (count_by p xs ≤ 1 → sum_by (λ x. cond (p x) (f x) 0) xs ≤ most)
        → (count_by p xs ≡ 0 → sum_by (λ x. cond (p x) (f x) 0) xs ≡ 0)
        → one_if b + count_by p xs ≤ 1
        → cond b (f x) 0 + sum_by (λ x. cond (p x) (f x) 0) xs ≤ most
    at true is again nothing few =
        let later : sum_by (λ x. cond (p x) (f x) 0) xs ≡ 0 = nothing (omega arith) in
        let bounded = bound x is in
        omega arith
    at false is again nothing few = let later = again (omega arith) in omega arith

has_both : (a b : Bool) → (a && b) ≡ true → b ≡ true
has_both true b is = is
has_both false b is = cc

fewer : (m s : ℕ) (xs : List Entry) → count_by (is_at m s) xs ≤ permitted_on s xs
fewer m s [] = omega arith
fewer m s (x ∷ xs) =
    let one : count_by (is_at m s) (x ∷ xs) ≡ one_if (is_at m s x) + count_by (is_at m s) xs = count_by-cons (is_at m s) x xs in
    let two : permitted_on s (x ∷ xs) ≡ one_if (is_on s x) + permitted_on s xs = count_by-cons (is_on s) x xs in
    omega (arith, fewer m s xs, at (x.seed.master == m) (x.seed.slave == s))
  where
    at : (a b : Bool) → one_if (a && b) ≤ one_if b
    at true b = omega arith
    at false true = omega arith
    at false false = omega arith

moves_few : (a b : Bool) → moves a b ≤ 1
moves_few true true = omega arith
moves_few true false = omega arith
moves_few false true = omega arith
moves_few false false = omega arith

limit_few : (b : Bool) (n : ℕ) → cond b 0 n ≤ n
limit_few true n = omega arith
limit_few false n = omega arith

-- at most four counts change, and no row is read but those on the slave
put_few : (x y : Counted) (n : ℕ) → put_cost x y n ≤ 4 + n
put_few x y n =
    omega (
      arith,
      moves_few (has 0 (required_by x.mode x.entry)) (has 0 (required_by y.mode y.entry)),
      moves_few (has 1 (required_by x.mode x.entry)) (has 1 (required_by y.mode y.entry)),
      moves_few (has 2 (required_by x.mode x.entry)) (has 2 (required_by y.mode y.entry)),
      moves_few x.entry.row.used y.entry.row.used,
      limit_few (is_same_limit (limit_by x.entry) (limit_by y.entry)) n,
    )

-- the change of the row of one pair costs at most twice the rows on its slave and four
pub change_costs : (m s : ℕ) (by : Change) (known : List Mode) (rows : List Entry) → count_by (is_at m s) rows ≤ 1
    → sum_by (cost_of (One m s by) known rows) rows ≤ 2 * permitted_on s rows + 4
change_costs m s by known rows once =
    at (count_by (is_at m s) rows) refl once
    (one_costs (is_at m s) price (5 + permitted_on s rows) bound rows once)
    (none_costs (is_at m s) price rows)
    (fewer m s rows)
  where
    price : Entry → ℕ
    price x = 1 + put_cost (counted known x) (done (One m s by) known rows x) (permitted_on x.seed.slave rows)

    bound : (x : Entry) → is_at m s x ≡ true → price x ≤ 5 + permitted_on s rows
    bound x is =
        let own : x.seed.slave ≡ s = eqb-true _ _ (has_both (x.seed.master == m) (x.seed.slave == s) is) in
        let alike : permitted_on x.seed.slave rows ≡ permitted_on s rows = ap (λ t. permitted_on t rows) own in
        let few = put_few (counted known x) (done (One m s by) known rows x) (permitted_on x.seed.slave rows) in
        omega arith

    at : (n : ℕ) → count_by (is_at m s) rows ≡ n → n ≤ 1
        → sum_by (cost_of (One m s by) known rows) rows ≤ 5 + permitted_on s rows
        → (count_by (is_at m s) rows ≡ 0 → sum_by (cost_of (One m s by) known rows) rows ≡ 0)
        → count_by (is_at m s) rows ≤ permitted_on s rows
        → sum_by (cost_of (One m s by) known rows) rows ≤ 2 * permitted_on s rows + 4
    at zero is few most nothing some = let none = nothing is in omega arith
    at (suc n) is few most nothing some = omega arith

-- the master of a row changes from the one mode to the other where it is the one at place m
pub turns_here : (known : List Mode) (m : ℕ) (from to : Mode) (k : ℕ) (table : Table) (seed : Pair)
    → option_map (λ (e : Entry). e.seed) (slice_get table.entries k) ≡ Some seed → seed.master ≡ m
    → mode_in m known ≡ from → m < length known → Turns known m from to k table
turns_here known m from to k table seed pair own mode within x at =
    let both : Some x.seed ≡ Some seed = ap (option_map (λ (e : Entry). e.seed)) (sym at) ∙ pair in
    let same_pair : x.seed ≡ seed = cc in
    let master : x.seed.master ≡ m = ap (λ (s : Pair). s.master) same_pair ∙ own in (
      ap (λ n. mode_in n known) master ∙ mode,
      ap (λ n. mode_in n (slice_set known m to)) master
          ∙ (unwrap_or-slice_get (slice_set known m to) m Off ∙ get_or-set_same known m to Off within),
    )
