-- Rows that aren't used count nothing, whatever their pairs are.
use Rattle.std.proofs.Common.{◌≡◌, ℕ, zero, suc, ◌+◌, ◌<◌, ◌≤◌, ◌^◌, Bool, true, false, ◌&&◌, ◌==◌, if◌then◌else◌, List, [], ◌∷◌, ◌++◌, map, length, replicate, take, drop, fold, Option, Some, None, refl, sym, ◌∙◌, ap, arith}
use Rattle.std.specs.Prelude.{slice_get, slice_set, count_by}
use Rattle.std.specs.List.{list_all}
use Rattle.std.proofs.lemmas.List.{append-nil, drop_all, length-append, length-drop, length-replicate, get_or-replicate}
use Rattle.pm_base.proofs.Counts.{count_by-cons}
use Rattle.pm_base.specs.declared.names.Mode.{Mode}
use Rattle.pm_rows.specs.declared.passes.Pass.TheVariants.{Clear}
use Rattle.pm_rows.specs.declared.row.Entry.{Entry}
use Rattle.pm_rows.specs.declared.row.Pair.{Pair}
use Rattle.pm_rows.specs.declared.row.Row.{Row}
use Rattle.pm_rows.specs.declared.row.RowSeed.{RowSeed}
use Rattle.pm_rows.specs.Counted.{AreTallied, Counted, IsTally, Tally, blank_entry, blank_row, counted, entries_of, entry_in, is_narrow_pair, is_narrow_row, is_placed_pair, is_placed_seed, no_tally, on, uses, wants, with_limit}
use Rattle.pm_rows.specs.Kept.{IsKept}
use Rattle.pm_rows.specs.Passes.{passed}
use Rattle.pm_rows.specs.Rows.{pair_of}
use Rattle.pm_rows.specs.Spans.{IsIndexed}
use Rattle.pm_rows.specs.Wanted.{limit_by}
use Rattle.pm_cells.proofs.Counting.{one_if}

abbrev zeros : ℕ → List ℕ
zeros n = replicate n 0

-- ---- what is counted of rows that aren't used

-- rows that are made so want nothing, and none is used
pub record AreQuiet {X : Type 0} (modes : List Mode) (f : X → Entry) : Type 0 where
  pub access : (x : X) → wants 0 (counted modes (f x)) ≡ false
  pub context : (x : X) → wants 1 (counted modes (f x)) ≡ false
  pub wakeup : (x : X) → wants 2 (counted modes (f x)) ≡ false
  pub users : (x : X) → uses (counted modes (f x)) ≡ false
  pub limits : (x : X) → limit_by (f x) ≡ None

pub blank_quiet : (modes : List Mode) → AreQuiet modes blank_entry
blank_quiet modes = record { access = λ x. refl; context = λ x. refl; wakeup = λ x. refl; users = λ x. refl; limits = λ x. refl }

pub cleared_quiet : (modes : List Mode) (rows : List Entry) → AreQuiet modes (passed Clear rows)
cleared_quiet modes rows = record { access = λ x. refl; context = λ x. refl; wakeup = λ x. refl; users = λ x. refl; limits = λ x. refl }

off : (b c : Bool) → c ≡ false → one_if (b && c) ≡ 0
off true c is = ap one_if is
off false c is = refl

module _ {X : Type 0} (modes : List Mode) (f : X → Entry) where
  abbrev pub made : List X → List Counted
  made xs = map (counted modes) (map f xs)

  none_counts : (test : Counted → Bool) → ((x : X) → test (counted modes (f x)) ≡ false) → (s : ℕ) (xs : List X) → count_by (on s test) (made xs) ≡ 0
  none_counts test fails s [] = refl
  none_counts test fails s (x ∷ xs) =
      let whole = count_by-cons (on s test) (counted modes (f x)) (made xs) in
      let here : one_if (on s test (counted modes (f x))) ≡ 0 = off ((f x).seed.slave == s) (test (counted modes (f x))) (fails x) in
      let later = none_counts test fails s xs in
      omega (arith, whole, here, later)

  limit_none : ((x : X) → limit_by (f x) ≡ None) → (s : ℕ) (xs : List X) → fold (with_limit s) None (map entry_in (made xs)) ≡ None
  limit_none none s [] = refl
  limit_none none s (x ∷ xs) =
      ap (λ l. fold (with_limit s) l (map entry_in (made xs))) (at ((f x).seed.slave == s)) ∙ limit_none none s xs
    where
      at : (b : Bool) → (if b then limit_by (f x) else None) ≡ None
      at true = none x
      at false = refl

-- what is counted of some such rows is what is counted of any others
module _ {X Y : Type 0} (modes : List Mode) (f : X → Entry) (g : Y → Entry) (one : AreQuiet modes f) (two : AreQuiet modes g) (xs : List X) (ys : List Y) where
  same_tally : (test : Counted → Bool) (slaves : ℕ) (counts : List ℕ) → ((x : X) → test (counted modes (f x)) ≡ false) → ((y : Y) → test (counted modes (g y)) ≡ false)
      → IsTally test slaves (made modes f xs) counts → IsTally test slaves (made modes g ys) counts
  same_tally test slaves counts fails others is = record {
    places = is.places;
    right = λ s within. is.right s within ∙ (none_counts modes f test fails s xs ∙ sym (none_counts modes g test others s ys));
  }

  pub retallied : (t : Tally) → AreTallied (made modes f xs) t → AreTallied (made modes g ys) t
  retallied t is = record {
    access = same_tally (wants 0) (length t.users) t.access one.access two.access is.access;
    context = same_tally (wants 1) (length t.users) t.context one.context two.context is.context;
    wakeup = same_tally (wants 2) (length t.users) t.wakeup one.wakeup two.wakeup is.wakeup;
    users = same_tally uses (length t.users) t.users one.users two.users is.users;
    limits = record {
      places = is.limits.places;
      right = λ s within. is.limits.right s within ∙ ap Some (limit_none modes f one.limits s xs ∙ sym (limit_none modes g two.limits s ys));
    };
  }

get_replicate : {X : Type 0} (n s : ℕ) (x : X) → s < n → slice_get (replicate n x) s ≡ Some x
get_replicate zero s x within = absurd (omega arith)
get_replicate (suc n) zero x within = refl
get_replicate (suc n) (suc s) x within = get_replicate n s x (omega arith)

-- nothing is counted where there are no rows
none_tally : (test : Counted → Bool) (slaves : ℕ) → IsTally test (length (zeros slaves)) [] (zeros slaves)
none_tally test slaves = record {
  places = refl;
  right = λ s within.
      let size : length (zeros slaves) ≡ slaves = length-replicate {A = ℕ} slaves 0 in
      get_or-replicate slaves s 0 0 (omega (arith, size));
}

pub none_tallied : (slaves : ℕ) → AreTallied [] (no_tally slaves)
none_tallied slaves = record {
  access = none_tally (wants 0) slaves;
  context = none_tally (wants 1) slaves;
  wakeup = none_tally (wants 2) slaves;
  users = none_tally uses slaves;
  limits = record {
    places = length-replicate {A = Option ℕ} slaves None ∙ sym (length-replicate {A = ℕ} slaves 0);
    right = λ s within.
        let size : length (zeros slaves) ≡ slaves = length-replicate {A = ℕ} slaves 0 in
        get_replicate slaves s None (omega (arith, size));
  };
}

-- ---- the table

pub blank_rows : (pairs : List Pair) (room : ℕ) → length pairs ≤ room → entries_of pairs (replicate room blank_row) ≡ map blank_entry pairs
blank_rows [] room few = refl
blank_rows (pair ∷ pairs) zero few = absurd (omega arith)
blank_rows (pair ∷ pairs) (suc room) few = ap (λ (es : List Entry). blank_entry pair ∷ es) (blank_rows pairs room (omega arith))

narrow_blank : (n : ℕ) → list_all is_narrow_row (replicate n blank_row) ≡ true
narrow_blank zero = refl
narrow_blank (suc n) = narrow_blank n

pub placed_pairs : (slaves : ℕ) (seeds : List RowSeed) → list_all (is_placed_pair slaves) (map pair_of seeds) ≡ list_all (is_placed_seed slaves) seeds
placed_pairs slaves [] = refl
placed_pairs slaves (seed ∷ seeds) = ap (λ all. is_placed_seed slaves seed && all) (placed_pairs slaves seeds)

pub pairs_count : (seeds : List RowSeed) → length (map pair_of seeds) ≡ length seeds
pairs_count [] = refl
pairs_count (seed ∷ seeds) = ap suc (pairs_count seeds)

-- a table in whose cells nothing is used is kept
pub blank_kept : (pairs : List Pair) (room slaves : ℕ) (cells : List Row) (narrow : Bool) (first past : List ℕ)
    → cells ≡ replicate room blank_row → length pairs ≤ room → room < 2 ^ 31
    → list_all (is_placed_pair slaves) pairs ≡ true → length first ≡ slaves
    → narrow ≡ list_all is_narrow_pair pairs → IsIndexed (length pairs) pairs first past
    → IsKept (record { items = pairs; room = room }) cells slaves narrow first past
blank_kept pairs room slaves cells narrow first past all fits few placed each narrow_is index =
    let size : length cells ≡ room = ap length all ∙ length-replicate {A = Row} room blank_row in
    record {
      base = record { places = omega (arith, size, fits); placed = placed; few = omega (arith, size, few) };
      room = sym size;
      each = each;
      narrow_ones = λ yes. record {
        pairs = sym narrow_is ∙ yes;
        rows = ap (list_all is_narrow_row) all ∙ narrow_blank room;
      };
      spans = index;
    }

-- ---- rows that are made blank, and pairs that are put, one after another

blank_suc : (k : ℕ) (xs : List Row) → k < length xs → slice_set (replicate k blank_row ++ drop k xs) k blank_row ≡ replicate (suc k) blank_row ++ drop (suc k) xs
blank_suc zero [] within = absurd (omega arith)
blank_suc zero (x ∷ xs) within = refl
blank_suc (suc k) [] within = absurd (omega arith)
blank_suc (suc k) (x ∷ xs) within = ap (λ (rows : List Row). blank_row ∷ rows) (blank_suc k xs (omega arith))

pub blank_step : (k : ℕ) (xs ys zs : List Row) (row : Row) → k < length xs → ys ≡ replicate k blank_row ++ drop k xs → zs ≡ slice_set ys k row → row ≡ blank_row
    → zs ≡ replicate (k + 1) blank_row ++ drop (k + 1) xs
blank_step k xs ys zs row within so_far written is =
    let next : suc k ≡ k + 1 = omega arith in
    written
    ∙ (ap (λ (rows : List Row). slice_set rows k row) so_far
    ∙ (ap (slice_set (replicate k blank_row ++ drop k xs) k) is
    ∙ (blank_suc k xs within ∙ ap (λ n. replicate n blank_row ++ drop n xs) next)))

pub blank_size : (k : ℕ) (xs ys : List Row) → k ≤ length xs → ys ≡ replicate k blank_row ++ drop k xs → length ys ≡ length xs
blank_size k xs ys within so_far =
    let whole = ap length so_far ∙ (length-append (replicate k blank_row) (drop k xs) ∙ ap (λ n. n + length (drop k xs)) (length-replicate {A = Row} k blank_row)) in
    let rest = length-drop k xs in
    omega (arith, whole, rest)

pub blank_end : (k count : ℕ) (xs ys : List Row) → count ≡ length xs → k ≡ count → ys ≡ replicate k blank_row ++ drop k xs → ys ≡ replicate count blank_row
blank_end k count xs ys size end so_far =
    let none : drop k xs ≡ [] = drop_all k xs (omega (arith, size, end)) in
    so_far
    ∙ (ap (λ (rows : List Row). replicate k blank_row ++ rows) none
    ∙ (append-nil (replicate k blank_row) ∙ ap (λ n. replicate n blank_row) end))

pub pairs_step : (seeds : List RowSeed) (k : ℕ) (seed : RowSeed) → slice_get seeds k ≡ Some seed → map pair_of (take k seeds) ++ pair_of seed ∷ [] ≡ map pair_of (take (k + 1) seeds)
pairs_step seeds k seed at = let next : suc k ≡ k + 1 = omega arith in one seeds k at ∙ ap (λ n. map pair_of (take n seeds)) next
  where
    one : (seeds : List RowSeed) (k : ℕ) → slice_get seeds k ≡ Some seed → map pair_of (take k seeds) ++ pair_of seed ∷ [] ≡ map pair_of (take (suc k) seeds)
    one [] k at = cc
    one (x ∷ xs) zero at = let is : x ≡ seed = cc in ap (λ (s : RowSeed). pair_of s ∷ []) (sym is)
    one (x ∷ xs) (suc k) at = ap (λ (ps : List Pair). pair_of x ∷ ps) (one xs k at)
