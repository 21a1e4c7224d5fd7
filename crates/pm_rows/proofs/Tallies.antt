-- One row is put: each count follows it.
use Rattle.std.proofs.Common.{◌≡◌, ◌≢◌, ℕ, zero, suc, ◌+◌, ◌-◌, ◌<◌, ◌^◌, Bool, true, false, ◌&&◌, ◌==◌, if◌then◌else◌, List, [], ◌∷◌, map, length, Option, Some, None, refl, sym, ◌∙◌, ap, subst, arith, inl, inr}
use Rattle.std.specs.Prelude.{count_by, slice_get, slice_set, slice_index, fold}
use Rattle.std.proofs.lemmas.Bool.{eq-eqb}
use Rattle.std.proofs.lemmas.List.{length-set, get_or-set_same, get_or-set_other}
use Rattle.pm_cells.proofs.Counting.{one_if, count_set, count_most, count_some, get_same, get_other, same_or_not}
use Rattle.pm_rows.specs.declared.row.Entry.{Entry}
use Rattle.pm_rows.specs.declared.row.Row.{Row}
use Rattle.pm_rows.specs.Wanted.{least, limit_by, required_by}
use Rattle.pm_rows.specs.Counted.{Counted, on, has, entry_in, wants, uses, limit_of, with_limit, Tally, IsTally, AreLimits, AreTallied, IsReady, AreReady, moved_count, moved}

moved_len : (s : ℕ) (before after : Bool) (counts : List ℕ) → length (moved_count s before after counts) ≡ length counts
moved_len s true true counts = refl
moved_len s true false counts = length-set counts s _
moved_len s false true counts = length-set counts s _
moved_len s false false counts = refl

moved_other : (s t : ℕ) (before after : Bool) (counts : List ℕ) → t ≢ s
    → slice_index (moved_count s before after counts) t ≡ slice_index counts t
moved_other s t true true counts other = refl
moved_other s t true false counts other = get_or-set_other counts s t _ 0 other
moved_other s t false true counts other = get_or-set_other counts s t _ 0 other
moved_other s t false false counts other = refl

moved_here : (s : ℕ) (before after : Bool) (counts : List ℕ) (c d : ℕ) → s < length counts → slice_index counts s ≡ c
    → d + one_if before ≡ c + one_if after → slice_index (moved_count s before after counts) s ≡ d
moved_here s true true counts c d within is by = omega arith
moved_here s true false counts c d within is by =
    get_or-set_same counts s (slice_index counts s - 1) 0 within ∙ omega arith
moved_here s false true counts c d within is by =
    get_or-set_same counts s (slice_index counts s + 1) 0 within ∙ omega arith
moved_here s false false counts c d within is by = omega arith

off_test : (b c : Bool) → b ≡ false → one_if (b && c) ≡ 0
off_test true c is = cc
off_test false c is = refl

on_test : (b c : Bool) → b ≡ true → (b && c) ≡ c
on_test true c is = refl
on_test false c is = cc

pub tally_moved : (test : Counted → Bool) (slaves : ℕ) (rows : List Counted) (counts : List ℕ) (k : ℕ) (x y : Counted)
    → IsTally test slaves rows counts → slice_get rows k ≡ Some x → y.entry.seed.slave ≡ x.entry.seed.slave
    → x.entry.seed.slave < slaves
    → IsTally test slaves (slice_set rows k y) (moved_count x.entry.seed.slave (test x) (test y) counts)
tally_moved test slaves rows counts k x y tally at same within = record {
  places = moved_len x.entry.seed.slave (test x) (test y) counts ∙ tally.places;
  right = λ t below. elim (same_or_not x.entry.seed.slave t _ refl) [
    | inl here ↦
        let step : count_by (on t test) (slice_set rows k y) + one_if (on t test x) ≡ count_by (on t test) rows + one_if (on t test y) = count_set (on t test) rows k x y at in
        let first : (x.entry.seed.slave == t) ≡ true = eq-eqb _ _ here in
        let second : (y.entry.seed.slave == t) ≡ true = eq-eqb _ _ (same ∙ here) in
        let before : one_if (on t test x) ≡ one_if (test x) = ap one_if (on_test _ (test x) first) in
        let after : one_if (on t test y) ≡ one_if (test y) = ap one_if (on_test _ (test y) second) in
        let is : slice_index counts t ≡ count_by (on t test) rows = tally.right t below in
        let P : ℕ → Type 0 = λ s. slice_index (moved_count s (test x) (test y) counts) t ≡ count_by (on t test) (slice_set rows k y) in
        subst P (sym here)
        (moved_here t (test x) (test y) counts (count_by (on t test) rows) (count_by (on t test) (slice_set rows k y))
        (omega (arith, tally.places)) is (omega arith))
    | inr other ↦
        let step : count_by (on t test) (slice_set rows k y) + one_if (on t test x) ≡ count_by (on t test) rows + one_if (on t test y) = count_set (on t test) rows k x y at in
        let before : one_if (on t test x) ≡ 0 = off_test _ (test x) other.1 in
        let apart : (y.entry.seed.slave == t) ≡ false = ap (λ n. n == t) same ∙ other.1 in
        let after : one_if (on t test y) ≡ 0 = off_test _ (test y) apart in
        let is : slice_index counts t ≡ count_by (on t test) rows = tally.right t below in
        moved_other x.entry.seed.slave t (test x) (test y) counts other.0 ∙ omega arith
  ];
}

-- ---- the least latency

pub with_off : (t : ℕ) (limit : Option ℕ) (y : Entry) → (y.seed.slave == t) ≡ false → with_limit t limit y ≡ limit
with_off t limit y is = ap (λ b. if b then least limit (limit_by y) else limit) is

pub with_on : (t : ℕ) (limit : Option ℕ) (y : Entry) → (y.seed.slave == t) ≡ true → with_limit t limit y ≡ least limit (limit_by y)
with_on t limit y is = ap (λ b. if b then least limit (limit_by y) else limit) is

fold_apart : (t : ℕ) (entries : List Entry) (k : ℕ) (x y : Entry) (limit : Option ℕ) → slice_get entries k ≡ Some x
    → (x.seed.slave == t) ≡ false → (y.seed.slave == t) ≡ false
    → fold (with_limit t) limit (slice_set entries k y) ≡ fold (with_limit t) limit entries
fold_apart t [] k x y limit at one two = cc
fold_apart t (z ∷ entries) zero x y limit at one two =
    let same : z ≡ x = cc in
    let off : (z.seed.slave == t) ≡ false = ap (λ (e : Entry). e.seed.slave == t) same ∙ one in
    ap (λ l. fold (with_limit t) l entries) (with_off t limit y two ∙ sym (with_off t limit z off))
fold_apart t (z ∷ entries) (suc k) x y limit at one two = fold_apart t entries k x y (with_limit t limit z) at one two

pub limits_moved : (slaves : ℕ) (entries : List Entry) (limits : List (Option ℕ)) (k : ℕ) (x y : Entry)
    → AreLimits slaves entries limits → slice_get entries k ≡ Some x → y.seed.slave ≡ x.seed.slave → x.seed.slave < slaves
    → AreLimits slaves (slice_set entries k y) (slice_set limits x.seed.slave (limit_of x.seed.slave (slice_set entries k y)))
limits_moved slaves entries limits k x y are at same within = record {
  places = length-set limits x.seed.slave _ ∙ are.places;
  right = λ t below. elim (same_or_not x.seed.slave t _ refl) [
    | inl here ↦
        let P : ℕ → Type 0 = λ s. slice_get (slice_set limits s (limit_of s (slice_set entries k y))) t ≡ Some (limit_of t (slice_set entries k y)) in
        subst P (sym here) (get_same limits t _ (omega (arith, are.places)))
    | inr other ↦
        get_other limits x.seed.slave t _ (λ e. other.0 (sym e))
        ∙ are.right t below
        ∙ ap Some (sym (fold_apart t entries k x y None at other.1 (ap (λ n. n == t) same ∙ other.1)))
  ];
}

map_get : {X Y : Type 0} (f : X → Y) (xs : List X) (k : ℕ) (x : X) → slice_get xs k ≡ Some x → slice_get (map f xs) k ≡ Some (f x)
map_get f [] k x at = cc
map_get f (z ∷ xs) zero x at = let same : z ≡ x = cc in ap (λ w. Some (f w)) same
map_get f (z ∷ xs) (suc k) x at = map_get f xs k x at

map_set : {X Y : Type 0} (f : X → Y) (xs : List X) (k : ℕ) (y : X) → map f (slice_set xs k y) ≡ slice_set (map f xs) k (f y)
map_set f [] k y = refl
map_set f (z ∷ xs) zero y = refl
map_set f (z ∷ xs) (suc k) y = ap (λ ys. f z ∷ ys) (map_set f xs k y)

-- THE step: one row is put, and all counts follow it
pub tallied_moved : (rows : List Counted) (t : Tally) (k : ℕ) (x y : Counted) (entries : List Entry)
    → AreTallied rows t → slice_get rows k ≡ Some x → y.entry.seed.slave ≡ x.entry.seed.slave
    → x.entry.seed.slave < length t.users → entries ≡ slice_set (map entry_in rows) k y.entry
    → AreTallied (slice_set rows k y) (moved x y entries t)
tallied_moved rows t k x y entries are at same within is =
    let size : length t.users ≡ length (moved x y entries t).users = sym (moved_len x.entry.seed.slave (uses x) (uses y) t.users) in
    let P : ℕ → Type 0 = λ n. IsTally (wants 0) n (slice_set rows k y) (moved x y entries t).access in
    let Q : ℕ → Type 0 = λ n. IsTally (wants 1) n (slice_set rows k y) (moved x y entries t).context in
    let R : ℕ → Type 0 = λ n. IsTally (wants 2) n (slice_set rows k y) (moved x y entries t).wakeup in
    let S : ℕ → Type 0 = λ n. IsTally uses n (slice_set rows k y) (moved x y entries t).users in
    let T : ℕ → Type 0 = λ n. AreLimits n (map entry_in (slice_set rows k y)) (moved x y entries t).limits in
    let U : List Entry → Type 0 = λ es. AreLimits (length t.users) es (slice_set t.limits x.entry.seed.slave (limit_of x.entry.seed.slave (slice_set (map entry_in rows) k y.entry))) in
    let V : List Entry → Type 0 = λ es. AreLimits (length t.users) (map entry_in (slice_set rows k y)) (slice_set t.limits x.entry.seed.slave (limit_of x.entry.seed.slave es)) in
    let base = limits_moved (length t.users) (map entry_in rows) t.limits k x.entry y.entry are.limits (map_get entry_in rows k x at) same within in
    let first : AreLimits (length t.users) (map entry_in (slice_set rows k y)) (slice_set t.limits x.entry.seed.slave (limit_of x.entry.seed.slave (slice_set (map entry_in rows) k y.entry))) =
    subst U (sym (map_set entry_in rows k y)) base in
    record {
      access = subst P size (tally_moved (wants 0) _ rows t.access k x y are.access at same within);
      context = subst Q size (tally_moved (wants 1) _ rows t.context k x y are.context at same within);
      wakeup = subst R size (tally_moved (wants 2) _ rows t.wakeup k x y are.wakeup at same within);
      users = subst S size (tally_moved uses _ rows t.users k x y are.users at same within);
      limits = subst T size (subst V (sym is) first);
    }

ready_at : (test : Counted → Bool) (slaves : ℕ) (rows : List Counted) (counts : List ℕ) (k : ℕ) (x : Counted)
    → IsTally test slaves rows counts → slice_get rows k ≡ Some x → x.entry.seed.slave < slaves → length rows < 2 ^ 31
    → IsReady x.entry.seed.slave (test x) counts
ready_at test slaves rows counts k x tally at within few =
    let is : slice_index counts x.entry.seed.slave ≡ count_by (on x.entry.seed.slave test) rows = tally.right x.entry.seed.slave within in
    let most = count_most (on x.entry.seed.slave test) rows in
    record {
      place = omega (arith, tally.places);
      some = λ passes.
          let some = count_some (on x.entry.seed.slave test) rows k x at (on_test _ (test x) (eq-eqb _ _ refl) ∙ passes) in
          omega arith;
      few = omega arith;
    }

-- before a row is put its counts are ready
pub tallied_ready : (rows : List Counted) (t : Tally) (k : ℕ) (x : Counted) → AreTallied rows t → slice_get rows k ≡ Some x
    → x.entry.seed.slave < length t.users → length rows < 2 ^ 31 → AreReady x t
tallied_ready rows t k x are at within few = record {
  access = ready_at (wants 0) _ rows t.access k x are.access at within few;
  context = ready_at (wants 1) _ rows t.context k x are.context at within few;
  wakeup = ready_at (wants 2) _ rows t.wakeup k x are.wakeup at within few;
  users = ready_at uses _ rows t.users k x are.users at within few;
  limits = omega (arith, are.limits.places);
}

-- and the least latency that is kept of its slave is that of the rows
pub tallied_limit : (rows : List Counted) (t : Tally) (s : ℕ) (entries : List Entry) → AreTallied rows t → s < length t.users
    → entries ≡ map entry_in rows → slice_get t.limits s ≡ Some (limit_of s entries)
tallied_limit rows t s entries are within is = are.limits.right s within ∙ ap (λ es. Some (limit_of s es)) (sym is)

-- a row that allows what the one before it allowed leaves the least latency
pub limit_same : (s : ℕ) (entries : List Entry) (k : ℕ) (x y : Entry) → slice_get entries k ≡ Some x → y.seed.slave ≡ x.seed.slave
    → limit_by x ≡ limit_by y → limit_of s entries ≡ limit_of s (slice_set entries k y)
limit_same s entries k x y at seat same = along s entries k None at
  where
    along : (s : ℕ) (entries : List Entry) (k : ℕ) (limit : Option ℕ) → slice_get entries k ≡ Some x
        → fold (with_limit s) limit entries ≡ fold (with_limit s) limit (slice_set entries k y)
    along s [] k limit at = cc
    along s (z ∷ entries) zero limit at =
        let first : z ≡ x = cc in
        let one : with_limit s limit x ≡ with_limit s limit y =
        ap (λ n. if n == s then least limit (limit_by x) else limit) (sym seat) ∙ ap (λ l. if y.seed.slave == s then least limit l else limit) same
        in
        ap (λ l. fold (with_limit s) l entries) (ap (with_limit s limit) first ∙ one)
    along s (z ∷ entries) (suc k) limit at = along s entries k (with_limit s limit z) at

-- ---- a row that stays leaves all that is counted

pub set_same : {X : Type 0} (xs : List X) (k : ℕ) (x : X) → slice_get xs k ≡ Some x → slice_set xs k x ≡ xs
set_same [] k x at = refl
set_same (z ∷ xs) zero x at = let same : z ≡ x = cc in ap (λ w. w ∷ xs) (sym same)
set_same (z ∷ xs) (suc k) x at = ap (λ ys. z ∷ ys) (set_same xs k x at)

moved_none : (s : ℕ) (before after : Bool) (counts : List ℕ) → before ≡ after → moved_count s before after counts ≡ counts
moved_none s true true counts same = refl
moved_none s true false counts same = cc
moved_none s false true counts same = cc
moved_none s false false counts same = refl

abbrev tally_of : List ℕ → List ℕ → List ℕ → List ℕ → List (Option ℕ) → Tally
tally_of access context wakeup users limits = record { access = access; context = context; wakeup = wakeup; users = users; limits = limits }

pub moved_same : (x y : Counted) (entries : List Entry) (t : Tally) → y.entry ≡ x.entry
    → required_by y.mode y.entry ≡ required_by x.mode x.entry
    → slice_get t.limits x.entry.seed.slave ≡ Some (limit_of x.entry.seed.slave entries)
    → moved x y entries t ≡ t
moved_same x y entries t same alike limit =
    let access = moved_none x.entry.seed.slave _ _ t.access (ap (has 0) (sym alike)) in
    let context = moved_none x.entry.seed.slave _ _ t.context (ap (has 1) (sym alike)) in
    let wakeup = moved_none x.entry.seed.slave _ _ t.wakeup (ap (has 2) (sym alike)) in
    let users = moved_none x.entry.seed.slave _ _ t.users (ap (λ (e : Entry). e.row.used) (sym same)) in
    let limits = set_same t.limits x.entry.seed.slave _ limit in
    ap (λ l. tally_of (moved x y entries t).access (moved x y entries t).context (moved x y entries t).wakeup (moved x y entries t).users l) limits
    ∙ (ap (λ l. tally_of (moved x y entries t).access (moved x y entries t).context (moved x y entries t).wakeup l t.limits) users
    ∙ (ap (λ l. tally_of (moved x y entries t).access (moved x y entries t).context l t.users t.limits) wakeup
    ∙ (ap (λ l. tally_of (moved x y entries t).access l t.wakeup t.users t.limits) context
    ∙ ap (λ l. tally_of l t.context t.wakeup t.users t.limits) access)))

-- ---- a row that is used and limited as the one before

pub limit_alike : (x : Entry) (row : Row) → row.used ≡ x.row.used → row.latency ≡ x.row.latency → limit_by x ≡ limit_by (record x { row = row })
limit_alike x row used latency =
    ap (λ u. if u then x.row.latency else None) (sym used) ∙ ap (λ l. if row.used then l else None) (sym latency)

pub wants_moved : (x y : Counted) (entries : List Entry) (t : Tally) (access context wakeup : List ℕ)
    → access ≡ moved_count x.entry.seed.slave (wants 0 x) (wants 0 y) t.access
    → context ≡ moved_count x.entry.seed.slave (wants 1 x) (wants 1 y) t.context
    → wakeup ≡ moved_count x.entry.seed.slave (wants 2 x) (wants 2 y) t.wakeup
    → y.entry.row.used ≡ x.entry.row.used
    → slice_get t.limits x.entry.seed.slave ≡ Some (limit_of x.entry.seed.slave entries)
    → tally_of access context wakeup t.users t.limits ≡ moved x y entries t
wants_moved x y entries t access context wakeup first second third used limit =
    ap (λ l. tally_of l context wakeup t.users t.limits) first
    ∙ (ap (λ l. tally_of (moved x y entries t).access l wakeup t.users t.limits) second
    ∙ (ap (λ l. tally_of (moved x y entries t).access (moved x y entries t).context l t.users t.limits) third
    ∙ (ap (λ l. tally_of (moved x y entries t).access (moved x y entries t).context (moved x y entries t).wakeup l t.limits)
    (sym (moved_none x.entry.seed.slave (uses x) (uses y) t.users (sym used)))
    ∙ ap (λ l. tally_of (moved x y entries t).access (moved x y entries t).context (moved x y entries t).wakeup (moved x y entries t).users l)
    (sym (set_same t.limits x.entry.seed.slave _ limit)))))
