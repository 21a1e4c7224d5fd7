-- Rows in cells, each with its pair.
use Rattle.std.proofs.Common.{min, ◌≡◌, ℕ, zero, suc, ◌<◌, ◌≤◌, ◌^◌, Bool, true, false, IsTrue, List, [], ◌∷◌, length, Option, Some, None, refl, sym, ◌∙◌, ap, arith, subst, ◌+◌, ◌==◌, drop, ◌&&◌}
use Rattle.std.specs.Prelude.{slice_get, slice_set}
use Rattle.std.specs.List.{list_all}
use Rattle.std.specs.Option.{option_map}
use Rattle.std.proofs.lemmas.Bool.{and_parts, ltb-true}
use Rattle.pm_rows.specs.declared.row.Pair.{Pair}
use Rattle.pm_rows.specs.declared.row.Row.{Row}
use Rattle.pm_rows.specs.declared.row.Entry.{Entry}
use Rattle.std.proofs.lemmas.Bool.{and_from}
use Rattle.std.proofs.lemmas.List.{length-set}
use Rattle.std.proofs.lemmas.Option.{slice_get_within}
use Rattle.std.specs.Prelude.{count_by, fold}
use Rattle.pm_base.specs.BoundedList.{Bounded}
use Rattle.pm_base.proofs.Counts.{count_by-cons}
use Rattle.pm_base.proofs.ListLemmas.{drop_found}
use Rattle.pm_rows.specs.Wanted.{least, limit_by}
use Rattle.pm_cells.proofs.Counting.{one_if}
use Rattle.pm_rows.proofs.Tallies.{with_off, with_on}
use Rattle.pm_rows.specs.Kept.{IsKept}
use Rattle.pm_rows.specs.Spans.{IsSpan, span_place}
use Rattle.pm_rows.specs.Counted.{entries_of, is_placed, is_placed_pair, is_narrow, is_narrow_pair, is_narrow_row, is_narrow_entry, AreNarrow, IsTable, Table, Tally, with_limit, is_on, permitted_on}

pub entries_len : (seeds : List Pair) (rows : List Row) → length seeds ≤ length rows → length (entries_of seeds rows) ≡ length seeds
entries_len [] rows same = refl
entries_len (seed ∷ seeds) [] same = absurd (omega arith)
entries_len (seed ∷ seeds) (row ∷ rows) same = ap suc (entries_len seeds rows (omega arith))

pub entries_get : (seeds : List Pair) (rows : List Row) (k : ℕ) (seed : Pair) (row : Row)
    → slice_get seeds k ≡ Some seed → slice_get rows k ≡ Some row
    → slice_get (entries_of seeds rows) k ≡ Some (record { seed = seed; row = row })
entries_get [] rows k seed row at there = cc
entries_get (s ∷ seeds) [] k seed row at there = cc
entries_get (s ∷ seeds) (r ∷ rows) zero seed row at there = cc
entries_get (s ∷ seeds) (r ∷ rows) (suc k) seed row at there = entries_get seeds rows k seed row at there

-- the pair of a row that is there
pub entries_seed : (seeds : List Pair) (rows : List Row) (k : ℕ) (entry : Entry)
    → slice_get (entries_of seeds rows) k ≡ Some entry → slice_get seeds k ≡ Some entry.seed
entries_seed [] rows k entry at = cc
entries_seed (s ∷ seeds) [] k entry at = cc
entries_seed (s ∷ seeds) (r ∷ rows) zero entry at = ap (option_map (λ (e : Entry). e.seed)) at
entries_seed (s ∷ seeds) (r ∷ rows) (suc k) entry at = entries_seed seeds rows k entry at

pub entries_map : (seeds : List Pair) (rows : List Row) (k : ℕ) (seed : Pair) → length seeds ≤ length rows
    → slice_get seeds k ≡ Some seed → option_map (λ (e : Entry). e.seed) (slice_get (entries_of seeds rows) k) ≡ Some seed
entries_map [] rows k seed same at = cc
entries_map (s ∷ seeds) [] k seed same at = absurd (omega arith)
entries_map (s ∷ seeds) (r ∷ rows) zero seed same at = at
entries_map (s ∷ seeds) (r ∷ rows) (suc k) seed same at = entries_map seeds rows k seed (omega arith) at

-- to write one cell is to write one row
pub entries_set : (seeds : List Pair) (rows : List Row) (k : ℕ) (seed : Pair) (row : Row)
    → slice_get seeds k ≡ Some seed
    → entries_of seeds (slice_set rows k row) ≡ slice_set (entries_of seeds rows) k (record { seed = seed; row = row })
entries_set [] rows k seed row at = cc
entries_set (s ∷ seeds) [] zero seed row at = refl
entries_set (s ∷ seeds) [] (suc k) seed row at = refl
entries_set (s ∷ seeds) (r ∷ rows) zero seed row at =
    let same : s ≡ seed = cc in
    ap (λ (z : Pair). record { seed = z; row = row } ∷ entries_of seeds rows) same
entries_set (s ∷ seeds) (r ∷ rows) (suc k) seed row at =
    ap (λ (es : List Entry). record { seed = s; row = r } ∷ es) (entries_set seeds rows k seed row at)

pub passes_at : {X : Type 0} (p : X → Bool) (xs : List X) (k : ℕ) (x : X) → list_all p xs ≡ true → slice_get xs k ≡ Some x → p x ≡ true
passes_at p [] k x all at = cc
passes_at p (y ∷ xs) zero x all at =
    let same : y ≡ x = cc in
    ap p (sym same) ∙ (and_parts (p y) (list_all p xs) all).0
passes_at p (y ∷ xs) (suc k) x all at = passes_at p xs k x (and_parts (p y) (list_all p xs) all).1 at

-- ---- what is seen of a table

module _ (now : Table) (seeds : List Pair) (rows : List Row) (tally : Tally) (slaves wide room : ℕ)
    (view : record { entries = entries_of seeds rows; tally = tally; slaves = wide; room = room } ≡ now) (is : IsTable seeds rows slaves) where
  pub seen_len : length now.entries ≡ length seeds
  seen_len = ap (λ (t : Table). length t.entries) (sym view) ∙ entries_len seeds rows is.places

  pub seen_within : (k : ℕ) → k < length now.entries → k < length seeds
  seen_within k within = omega (arith, seen_len)

  pub seen_cell : (k : ℕ) → k < length now.entries → k < length rows
  seen_cell k within = omega (arith, seen_len, is.places)

  pub seen_few : length now.entries < 2 ^ 31
  seen_few = omega (arith, seen_len, is.few, is.places)

  pub seen_entry : (k : ℕ) (seed : Pair) (row : Row) → slice_get seeds k ≡ Some seed → slice_get rows k ≡ Some row
      → slice_get now.entries k ≡ Some (record { seed = seed; row = row })
  seen_entry k seed row at there = ap (λ (t : Table). slice_get t.entries k) (sym view) ∙ entries_get seeds rows k seed row at there

  pub seen_seed : (k : ℕ) (seed : Pair) → slice_get seeds k ≡ Some seed
      → option_map (λ (e : Entry). e.seed) (slice_get now.entries k) ≡ Some seed
  seen_seed k seed at =
      ap (λ (t : Table). option_map (λ (e : Entry). e.seed) (slice_get t.entries k)) (sym view) ∙ entries_map seeds rows k seed is.places at

  pub seen_put : (k : ℕ) (entry : Entry) (row : Row) → slice_get now.entries k ≡ Some entry
      → entries_of seeds (slice_set rows k row) ≡ slice_set now.entries k (record entry { row = row })
  seen_put k entry row at =
      let here : slice_get (entries_of seeds rows) k ≡ Some entry = ap (λ (t : Table). slice_get t.entries k) view ∙ at in
      entries_set seeds rows k entry.seed row (entries_seed seeds rows k entry here)
      ∙ ap (λ (t : Table). slice_set t.entries k (record entry { row = row })) view

  pub seen_placed : (k : ℕ) (seed : Pair) → slaves ≡ length tally.users → slice_get seeds k ≡ Some seed → seed.slave < length now.tally.users
  seen_placed k seed same at =
      let below : seed.slave < slaves = ltb-true _ _ (passes_at (is_placed_pair slaves) seeds k seed is.placed at) in
      let size : length tally.users ≡ length now.tally.users = ap (λ (t : Table). length t.tally.users) view in
      omega arith

  pub seen_all : slaves ≡ length tally.users → IsTrue (list_all (is_placed (length now.tally.users)) now.entries)
  seen_all same =
      let P : Table → Type 0 = λ t. IsTrue (list_all (is_placed slaves) t.entries) in
      let Q : ℕ → Type 0 = λ n. IsTrue (list_all (is_placed n) now.entries) in
      subst Q (same ∙ ap (λ (t : Table). length t.tally.users) view) (subst P view (each seeds rows is.placed))
    where
      each : (seeds : List Pair) (rows : List Row) → list_all (is_placed_pair slaves) seeds ≡ true
          → list_all (is_placed slaves) (entries_of seeds rows) ≡ true
      each [] rows all = refl
      each (seed ∷ seeds) [] all = refl
      each (seed ∷ seeds) (row ∷ rows) all =
          let parts = and_parts (is_placed_pair slaves seed) (list_all (is_placed_pair slaves) seeds) all in
          and_from _ _ parts.0 (each seeds rows parts.1)

  -- the table after a cell was written
  pub still : (k : ℕ) (row : Row) (after : List Row) (more : ℕ) → after ≡ slice_set rows k row → more ≡ slaves → IsTable seeds after more
  still k row after more written same =
      let P : ℕ → Type 0 = λ n. IsTrue (list_all (is_placed_pair n) seeds) in
      record {
        places = (let size = ap length written ∙ length-set rows k row in omega (arith, size, is.places));
        placed = subst P (sym same) is.placed;
        few = (let size = ap length written ∙ length-set rows k row in omega (arith, size, is.few));
      }

-- ---- known capabilities

all_set : {X : Type 0} (p : X → Bool) (xs : List X) (k : ℕ) (y : X) → list_all p xs ≡ true → p y ≡ true → list_all p (slice_set xs k y) ≡ true
all_set p [] k y all is = refl
all_set p (x ∷ xs) zero y all is = and_from _ _ is (and_parts (p x) (list_all p xs) all).1
all_set p (x ∷ xs) (suc k) y all is =
    let parts = and_parts (p x) (list_all p xs) all in
    and_from _ _ parts.0 (all_set p xs k y parts.1 is)

narrow_entries : (seeds : List Pair) (rows : List Row) → list_all is_narrow_pair seeds ≡ true → list_all is_narrow_row rows ≡ true
    → list_all is_narrow_entry (entries_of seeds rows) ≡ true
narrow_entries [] rows one two = refl
narrow_entries (seed ∷ seeds) [] one two = refl
narrow_entries (seed ∷ seeds) (row ∷ rows) one two =
    let first = and_parts (is_narrow_pair seed) (list_all is_narrow_pair seeds) one in
    let second = and_parts (is_narrow_row row) (list_all is_narrow_row rows) two in
    and_from _ _ (and_from _ _ first.0 second.0) (narrow_entries seeds rows first.1 second.1)

pub seen_narrow : (now : Table) (seeds : List Pair) (rows : List Row) (tally : Tally) (wide room : ℕ)
    → record { entries = entries_of seeds rows; tally = tally; slaves = wide; room = room } ≡ now → AreNarrow seeds rows → list_all is_narrow_entry now.entries ≡ true
seen_narrow now seeds rows tally wide room view are =
    ap (λ (t : Table). list_all is_narrow_entry t.entries) (sym view) ∙ narrow_entries seeds rows are.pairs are.rows

-- the places of a slave
pub seen_span : (now : Table) (seeds : Bounded Pair) (rows : List Row) (tally : Tally) (slaves : ℕ) (narrow : Bool) (first past : List ℕ) (wide room : ℕ)
    → record { entries = entries_of seeds.items rows; tally = tally; slaves = wide; room = room } ≡ now → IsKept seeds rows slaves narrow first past
    → (s a b : ℕ) → a ≡ min (span_place s first) b → b ≡ span_place s past → IsSpan s a b now.entries
seen_span now seeds rows tally slaves narrow first past wide room view is s a b one two = record {
  order = omega arith;
  within = (let size = seen_len now seeds.items rows tally slaves wide room view is.base in let most = is.spans.within s in omega arith);
  inside = λ k e at own.
      let here : slice_get (entries_of seeds.items rows) k ≡ Some e = ap (λ (t : Table). slice_get t.entries k) view ∙ at in
      let pair = entries_seed seeds.items rows k e here in
      let inside = is.spans.inside k e.seed (slice_get_within seeds.items k e.seed pair) pair in
      let low : span_place s first ≡ span_place e.seed.slave first = ap (λ t. span_place t first) (sym own) in
      let high : span_place s past ≡ span_place e.seed.slave past = ap (λ t. span_place t past) (sym own) in
      (omega (arith, inside.0), omega (arith, inside.1));
}

-- a cell was written
pub kept_put : (now : Table) (seeds : Bounded Pair) (rows : List Row) (tally : Tally) (slaves : ℕ) (narrow : Bool) (first past : List ℕ) (wide room : ℕ)
    → record { entries = entries_of seeds.items rows; tally = tally; slaves = wide; room = room } ≡ now → IsKept seeds rows slaves narrow first past
    → (k : ℕ) (row : Row) (after : List Row) (more : ℕ) (still_narrow : Bool) → after ≡ slice_set rows k row → more ≡ slaves
    → still_narrow ≡ (narrow && is_narrow row.now) → IsKept seeds after more still_narrow first past
kept_put now seeds rows tally slaves narrow first past wide room view is k row after more still_narrow written same narrower = record {
  base = still now seeds.items rows tally slaves wide room view is.base k row after more written same;
  room = is.room ∙ sym (ap length written ∙ length-set rows k row);
  each = is.each ∙ sym same;
  narrow_ones = λ yes.
      let parts = and_parts narrow (is_narrow row.now) (sym narrower ∙ yes) in
      let was = is.narrow_ones parts.0 in
      record {
        pairs = was.pairs;
        rows = ap (list_all is_narrow_row) written ∙ all_set is_narrow_row rows k row was.rows parts.1;
      };
  spans = is.spans;
}

-- ---- the rows on a slave are read one after another

pub off : (s : ℕ) (entries : List Entry) (k : ℕ) (seed : Pair) (limit : Option ℕ)
    → option_map (λ (e : Entry). e.seed) (slice_get entries k) ≡ Some seed → (seed.slave == s) ≡ false
    → (fold (with_limit s) limit (drop (k + 1) entries) ≡ fold (with_limit s) limit (drop k entries))
    × (permitted_on s (drop (k + 1) entries) ≡ permitted_on s (drop k entries))
off s entries k seed limit there other = at (slice_get entries k) refl there
  where
    at : (got : Option Entry) → slice_get entries k ≡ got → option_map (λ (e : Entry). e.seed) got ≡ Some seed
        → (fold (with_limit s) limit (drop (k + 1) entries) ≡ fold (with_limit s) limit (drop k entries))
        × (permitted_on s (drop (k + 1) entries) ≡ permitted_on s (drop k entries))
    at None here is = cc
    at (Some e) here is =
        let same : e.seed ≡ seed = cc in
        let apart : (e.seed.slave == s) ≡ false = ap (λ (z : Pair). z.slave == s) same ∙ other in
        let whole : permitted_on s (drop k entries) ≡ one_if (is_on s e) + permitted_on s (drop (k + 1) entries) =
        ap (count_by (is_on s)) (drop_found entries k e here) ∙ count_by-cons (is_on s) e (drop (k + 1) entries)
        in
        let none : one_if (is_on s e) ≡ 0 = ap one_if apart in
        (ap (λ l. fold (with_limit s) l (drop (k + 1) entries)) (sym (with_off s limit e apart)) ∙ sym (ap (fold (with_limit s) limit) (drop_found entries k e here)), omega arith)

pub on : (s : ℕ) (entries : List Entry) (k : ℕ) (entry : Entry) (seed : Pair) (limit : Option ℕ)
    → slice_get entries k ≡ Some entry → option_map (λ (e : Entry). e.seed) (slice_get entries k) ≡ Some seed → (seed.slave == s) ≡ true
    → (fold (with_limit s) (least limit (limit_by entry)) (drop (k + 1) entries) ≡ fold (with_limit s) limit (drop k entries))
    × (1 + permitted_on s (drop (k + 1) entries) ≡ permitted_on s (drop k entries))
on s entries k entry seed limit here there is =
    let both : Some entry.seed ≡ Some seed = ap (option_map (λ (e : Entry). e.seed)) (sym here) ∙ there in
    let same : entry.seed ≡ seed = cc in
    let own : (entry.seed.slave == s) ≡ true = ap (λ (z : Pair). z.slave == s) same ∙ is in
    let whole : permitted_on s (drop k entries) ≡ one_if (is_on s entry) + permitted_on s (drop (k + 1) entries) =
    ap (count_by (is_on s)) (drop_found entries k entry here) ∙ count_by-cons (is_on s) entry (drop (k + 1) entries)
    in
    let here_one : one_if (is_on s entry) ≡ 1 = ap one_if own in
    (ap (λ l. fold (with_limit s) l (drop (k + 1) entries)) (sym (with_on s limit entry own)) ∙ sym (ap (fold (with_limit s) limit) (drop_found entries k entry here)), omega arith)
