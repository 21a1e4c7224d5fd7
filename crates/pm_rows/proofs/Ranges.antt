-- The rows of a slave stand between its two places.
use Rattle.std.proofs.Common.{◌≡◌, ◌≢◌, ℕ, zero, suc, ◌+◌, ◌<◌, ◌≤◌, min, Bool, true, false, ◌&&◌, ◌||◌, ◌==◌, cond, List, [], ◌∷◌, ◌++◌, take, length, replicate, drop, Option, Some, None, refl, sym, ◌∙◌, ap, subst, arith, unwrap_or, inl, inr, ◌⊎◌, is_some, not}
use Rattle.std.specs.Prelude.{slice_get, slice_set, count_by, fold, find}
use Rattle.std.specs.List.{list_all, list_any}
use Rattle.std.proofs.lemmas.Bool.{eqb-true, ltb-true}
use Rattle.std.proofs.lemmas.List.{append-nil, drop_all, take_all, length-set, length-replicate}
use Rattle.std.proofs.lemmas.Option.{slice_get_within}
use Rattle.pm_base.proofs.Counts.{count_by-cons}
use Rattle.pm_base.proofs.ListLemmas.{drop_found}
use Rattle.pm_base.specs.declared.names.Mode.{Mode}
use Rattle.pm_cells.proofs.Counting.{one_if, get_same, get_other, same_or_not}
use Rattle.pm_cells.proofs.Midway.{there}
use Rattle.pm_rows.specs.declared.row.Pair.{Pair}
use Rattle.pm_rows.specs.declared.row.Entry.{Entry}
use Rattle.pm_rows.specs.declared.wanted.Wanted.{Wanted}
use Rattle.pm_rows.specs.declared.seeking.Sought.{Sought}
use Rattle.pm_rows.specs.declared.seeking.Sought.TheVariants.{At, Rival, Use, OtherUse}
use Rattle.pm_rows.specs.declared.passes.Pass.{Pass}
use Rattle.pm_rows.specs.Counted.{is_on, is_placed_pair, permitted_on, with_limit}
use Rattle.pm_rows.specs.Passes.{touches}
use Rattle.pm_rows.specs.Rows.{is_at, is_of_other}
use Rattle.pm_rows.specs.Seeking.{is_sought, slave_of}
use Rattle.pm_rows.specs.Spans.{IsIndexed, IsSpan, IsCover, span_place}
use Rattle.pm_rows.specs.Wanted.{with_row}
use Rattle.pm_rows.proofs.Tallies.{with_off}
use Rattle.pm_rows.proofs.Cells.{passes_at}

-- ---- the places are found pair by pair

none_placed : (n s : ℕ) → span_place s (replicate n 0) ≡ 0
none_placed zero zero = refl
none_placed zero (suc s) = refl
none_placed (suc n) zero = refl
none_placed (suc n) (suc s) = none_placed n s

pub indexed_first : (seeds : List Pair) (first past : List ℕ) (slaves some : ℕ) → first ≡ replicate slaves some → past ≡ replicate slaves 0
    → IsIndexed 0 seeds first past
indexed_first seeds first past slaves some one two = record {
  same = ap length one ∙ (length-replicate {A = ℕ} slaves some ∙ sym (ap length two ∙ length-replicate {A = ℕ} slaves 0));
  inside = λ j seed below at. absurd (omega arith);
  within = λ s. let none = ap (span_place s) two ∙ none_placed slaves s in omega arith;
}

placed_same : (xs : List ℕ) (s place : ℕ) → s < length xs → span_place s (slice_set xs s place) ≡ place
placed_same xs s place within = ap (λ got. unwrap_or got 0) (get_same xs s place within)

placed_other : (xs : List ℕ) (s t place : ℕ) → s ≢ t → span_place t (slice_set xs s place) ≡ span_place t xs
placed_other xs s t place other = ap (λ got. unwrap_or got 0) (get_other xs s t place other)

pub indexed_next : (k : ℕ) (seeds : List Pair) (first past : List ℕ) (seed : Pair) (low : ℕ) (first' past' : List ℕ) (slaves : ℕ)
    → IsIndexed k seeds first past → slice_get seeds k ≡ Some seed → list_all (is_placed_pair slaves) seeds ≡ true → length first ≡ slaves
    → low ≡ min (span_place seed.slave first) k
    → first' ≡ slice_set first seed.slave low → past' ≡ slice_set past seed.slave (k + 1)
    → IsIndexed (k + 1) seeds first' past'
indexed_next k seeds first past seed low first' past' slaves is at placed size low_is one two =
    rw (one, two) (record {
      same = length-set first seed.slave low ∙ (is.same ∙ sym (length-set past seed.slave (k + 1)));
      inside = λ j other below there. elim (same_or_not seed.slave other.slave _ refl) [
        | inl own ↦
            let P : ℕ → Type 0 = λ s. (span_place s (slice_set first seed.slave low) ≤ j) × (j < span_place s (slice_set past seed.slave (k + 1))) in
            subst P own (early j other below there own, let late : span_place seed.slave (slice_set past seed.slave (k + 1)) ≡ k + 1 = placed_same past seed.slave (k + 1) (omega (arith, is.same, room)) in omega arith)
        | inr apart ↦
            let before : j < k = earlier j other below there apart.0 in
            let was = is.inside j other before there in
            let low_other = placed_other first seed.slave other.slave low (λ e. apart.0 (sym e)) in
            let past_other = placed_other past seed.slave other.slave (k + 1) (λ e. apart.0 (sym e)) in
            (omega (arith, was.0), omega (arith, was.1))
      ];
      within = λ s. elim (same_or_not seed.slave s _ refl) [
        | inl own ↦
            let P : ℕ → Type 0 = λ t. span_place t (slice_set past seed.slave (k + 1)) ≤ k + 1 in
            subst P own (let late : span_place seed.slave (slice_set past seed.slave (k + 1)) ≡ k + 1 = placed_same past seed.slave (k + 1) (omega (arith, is.same, room)) in omega arith)
        | inr apart ↦
            let was = is.within s in
            let past_other = placed_other past seed.slave s (k + 1) (λ e. apart.0 (sym e)) in
            omega arith
      ];
    })
  where
    room : seed.slave < length first
    room = (let below : seed.slave < slaves = ltb-true _ _ (passes_at (is_placed_pair slaves) seeds k seed placed at) in omega arith)

    early : (j : ℕ) (other : Pair) → j < k + 1 → slice_get seeds j ≡ Some other → seed.slave ≡ other.slave
        → span_place seed.slave (slice_set first seed.slave low) ≤ j
    early j other below there own =
        let now : span_place seed.slave (slice_set first seed.slave low) ≡ low = placed_same first seed.slave low room in
        elim (same_or_not j k _ refl) [
          | inl last ↦ omega arith
          | inr before ↦
              let apart = before.0 in
              let was : span_place other.slave first ≤ j = (is.inside j other (omega arith) there).0 in
              let alike : span_place seed.slave first ≡ span_place other.slave first = ap (λ s. span_place s first) own in
              omega arith
        ]

    earlier : (j : ℕ) (other : Pair) → j < k + 1 → slice_get seeds j ≡ Some other → other.slave ≢ seed.slave → j < k
    earlier j other below there apart = elim (same_or_not j k _ refl) [
      | inl last ↦
          let P : ℕ → Type 0 = λ n. slice_get seeds n ≡ Some other in
          let both : Some seed ≡ Some other = sym at ∙ subst P last there in
          let alike : other.slave ≡ seed.slave = (let same : seed ≡ other = cc in ap (λ (z : Pair). z.slave) (sym same)) in
          absurd (apart alike)
      | inr before ↦ let other_place = before.0 in omega arith
    ]

-- what was lent as a whole is given back as a whole
pub given_back : (len : ℕ) (items new : List ℕ) → len ≡ length items → length new ≡ length items
    → take len (new ++ drop (length new) items) ≡ new
given_back len items new size same =
    let none : drop (length new) items ≡ [] = drop_all (length new) items (omega arith) in
    let whole : new ++ drop (length new) items ≡ new = ap (λ xs. new ++ xs) none ∙ append-nil new in
    ap (take len) whole ∙ take_all len new (omega arith)

-- ---- what is neither before a place nor from one on

shifted_off : {X : Type 0} (p : X → Bool) (x : X) (xs : List X) (a : ℕ)
    → ((j : ℕ) (y : X) → slice_get (x ∷ xs) j ≡ Some y → j < suc a → p y ≡ false)
    → (j : ℕ) (y : X) → slice_get xs j ≡ Some y → j < a → p y ≡ false
shifted_off p x xs a off j y at below = off (suc j) y at (omega arith)

pub fold_front : {X Z : Type 0} (f : Z → X → Z) (p : X → Bool) → ((z : Z) (x : X) → p x ≡ false → f z x ≡ z)
    → (xs : List X) (a : ℕ) → ((j : ℕ) (x : X) → slice_get xs j ≡ Some x → j < a → p x ≡ false)
    → (z : Z) → fold f z (drop a xs) ≡ fold f z xs
fold_front f p keeps [] zero off z = refl
fold_front f p keeps [] (suc a) off z = refl
fold_front f p keeps (x ∷ xs) zero off z = refl
fold_front f p keeps (x ∷ xs) (suc a) off z =
    fold_front f p keeps xs a (shifted_off p x xs a off) z ∙ ap (λ w. fold f w xs) (sym (keeps z x (off zero x refl (omega arith))))

pub fold_rest : {X Z : Type 0} (f : Z → X → Z) (p : X → Bool) → ((z : Z) (x : X) → p x ≡ false → f z x ≡ z)
    → (xs : List X) (k : ℕ) → ((j : ℕ) (x : X) → slice_get xs j ≡ Some x → k ≤ j → p x ≡ false)
    → (z : Z) → fold f z (drop k xs) ≡ z
fold_rest f p keeps [] zero off z = refl
fold_rest f p keeps [] (suc k) off z = refl
fold_rest f p keeps (x ∷ xs) zero off z =
    fold_rest f p keeps xs zero (λ j y at past. off (suc j) y at (omega arith)) (f z x) ∙ keeps z x (off zero x refl (omega arith))
fold_rest f p keeps (x ∷ xs) (suc k) off z = fold_rest f p keeps xs k (λ j y at past. off (suc j) y at (omega arith)) z

find_front : {X : Type 0} (p : X → Bool) (xs : List X) (a : ℕ) → ((j : ℕ) (x : X) → slice_get xs j ≡ Some x → j < a → p x ≡ false)
    → find p (drop a xs) ≡ find p xs
find_front p [] zero off = refl
find_front p [] (suc a) off = refl
find_front p (x ∷ xs) zero off = refl
find_front p (x ∷ xs) (suc a) off =
    find_front p xs a (shifted_off p x xs a off) ∙ ap (λ b. cond b (Some x) (find p xs)) (sym (off zero x refl (omega arith)))

find_rest : {X : Type 0} (p : X → Bool) (xs : List X) (k : ℕ) → ((j : ℕ) (x : X) → slice_get xs j ≡ Some x → k ≤ j → p x ≡ false)
    → find p (drop k xs) ≡ None
find_rest p [] zero off = refl
find_rest p [] (suc k) off = refl
find_rest p (x ∷ xs) zero off =
    ap (λ b. cond b (Some x) (find p xs)) (off zero x refl (omega arith)) ∙ find_rest p xs zero (λ j y at past. off (suc j) y at (omega arith))
find_rest p (x ∷ xs) (suc k) off = find_rest p xs k (λ j y at past. off (suc j) y at (omega arith))

count_front : {X : Type 0} (p : X → Bool) (xs : List X) (a : ℕ) → ((j : ℕ) (x : X) → slice_get xs j ≡ Some x → j < a → p x ≡ false)
    → count_by p (drop a xs) ≡ count_by p xs
count_front p [] zero off = refl
count_front p [] (suc a) off = refl
count_front p (x ∷ xs) zero off = refl
count_front p (x ∷ xs) (suc a) off =
    let later = count_front p xs a (shifted_off p x xs a off) in
    let whole : count_by p (x ∷ xs) ≡ one_if (p x) + count_by p xs = count_by-cons p x xs in
    let none : one_if (p x) ≡ 0 = ap one_if (off zero x refl (omega arith)) in
    later ∙ omega arith

count_rest : {X : Type 0} (p : X → Bool) (xs : List X) (k : ℕ) → ((j : ℕ) (x : X) → slice_get xs j ≡ Some x → k ≤ j → p x ≡ false)
    → count_by p (drop k xs) ≡ 0
count_rest p [] zero off = refl
count_rest p [] (suc k) off = refl
count_rest p (x ∷ xs) zero off =
    let later = count_rest p xs zero (λ j y at past. off (suc j) y at (omega arith)) in
    let whole : count_by p (x ∷ xs) ≡ one_if (p x) + count_by p xs = count_by-cons p x xs in
    let none : one_if (p x) ≡ 0 = ap one_if (off zero x refl (omega arith)) in
    omega arith
count_rest p (x ∷ xs) (suc k) off = count_rest p xs k (λ j y at past. off (suc j) y at (omega arith))

-- an element is looked at
pub find_hit : {X : Type 0} (p : X → Bool) (xs : List X) (k : ℕ) (x : X) → slice_get xs k ≡ Some x → p x ≡ true → find p (drop k xs) ≡ Some x
find_hit p xs k x at is = ap (find p) (drop_found xs k x at) ∙ ap (λ b. cond b (Some x) (find p (drop (k + 1) xs))) is

pub find_miss : {X : Type 0} (p : X → Bool) (xs : List X) (k : ℕ) (x : X) → slice_get xs k ≡ Some x → p x ≡ false
    → find p (drop (k + 1) xs) ≡ find p (drop k xs)
find_miss p xs k x at is = sym (ap (find p) (drop_found xs k x at) ∙ ap (λ b. cond b (Some x) (find p (drop (k + 1) xs))) is)

pub any_found : {X : Type 0} (p : X → Bool) (xs : List X) → is_some (find p xs) ≡ list_any p xs
any_found p [] = refl
any_found p (x ∷ xs) = at (p x) (any_found p xs)
  where
    at : (b : Bool) → is_some (find p xs) ≡ list_any p xs → is_some (cond b (Some x) (find p xs)) ≡ (b || list_any p xs)
    at true later = refl
    at false later = later

-- whether one was there before this place or is from here on, once the element here is looked at
pub any_next : {X : Type 0} (p : X → Bool) (xs : List X) (k : ℕ) (x : X) (before now : Bool) → slice_get xs k ≡ Some x
    → now ≡ (before || p x) → (now || is_some (find p (drop (k + 1) xs))) ≡ (before || is_some (find p (drop k xs)))
any_next {X = X} p xs k x before now at is =
    ap (λ b. b || is_some (find p (drop (k + 1) xs))) is
    ∙ (along before (p x) (find p (drop (k + 1) xs)) ∙ ap (λ o. before || is_some o) (sym (ap (find p) (drop_found xs k x at))))
  where
    along : (a b : Bool) (o : Option X) → ((a || b) || is_some o) ≡ (a || is_some (cond b (Some x) o))
    along true b o = refl
    along false true o = refl
    along false false o = refl

-- where none is from here on, one was there before or not
pub or_none : {X : Type 0} (before : Bool) (o : Option X) → o ≡ None → (before || is_some o) ≡ before
or_none true o none = refl
or_none false o none = ap is_some none

-- ---- the rows on a slave

apart : (m n : ℕ) → (m ≡ n → ⊥) → (m == n) ≡ false
apart m n other = elim (same_or_not m n _ refl) [ inl same ↦ absurd (other same) | inr is ↦ is.1 ]

module _ (s a b : ℕ) (entries : List Entry) (is : IsSpan s a b entries) where
  pub off_before : (j : ℕ) (e : Entry) → slice_get entries j ≡ Some e → j < a → (e.seed.slave == s) ≡ false
  off_before j e at below = apart e.seed.slave s (λ same. let inside = is.inside j e at same in let low = inside.0 in absurd (omega arith))

  pub off_past : (k : ℕ) → b ≤ k → (j : ℕ) (e : Entry) → slice_get entries j ≡ Some e → k ≤ j → (e.seed.slave == s) ≡ false
  off_past k past j e at below = apart e.seed.slave s (λ same. let inside = is.inside j e at same in let high = inside.1 in absurd (omega arith))

  pub limit_front : (limit : Option ℕ) → fold (with_limit s) limit (drop a entries) ≡ fold (with_limit s) limit entries
  limit_front limit = fold_front (with_limit s) (is_on s) (λ z x off. with_off s z x off) entries a off_before limit

  pub limit_rest : (k : ℕ) → b ≤ k → (limit : Option ℕ) → fold (with_limit s) limit (drop k entries) ≡ limit
  limit_rest k past limit = fold_rest (with_limit s) (is_on s) (λ z x off. with_off s z x off) entries k (off_past k past) limit

  pub permitted_front : permitted_on s (drop a entries) ≡ permitted_on s entries
  permitted_front = count_front (is_on s) entries a off_before

  pub permitted_rest : (k : ℕ) → b ≤ k → permitted_on s (drop k entries) ≡ 0
  permitted_rest k past = count_rest (is_on s) entries k (off_past k past)

  pub wanted_front : (modes : List Mode) (w : Wanted) → ((v : Wanted) (e : Entry) → (e.seed.slave == s) ≡ false → with_row s modes v e ≡ v)
      → fold (with_row s modes) w (drop a entries) ≡ fold (with_row s modes) w entries
  wanted_front modes w keeps = fold_front (with_row s modes) (is_on s) keeps entries a off_before w

  pub wanted_rest : (k : ℕ) → b ≤ k → (modes : List Mode) (w : Wanted) → ((v : Wanted) (e : Entry) → (e.seed.slave == s) ≡ false → with_row s modes v e ≡ v)
      → fold (with_row s modes) w (drop k entries) ≡ w
  wanted_rest k past modes w keeps = fold_rest (with_row s modes) (is_on s) keeps entries k (off_past k past) w

-- ---- a row that is looked for stands on its slave

second_fails : (a b : Bool) → b ≡ false → (a && b) ≡ false
second_fails true b is = is
second_fails false b is = refl

first_fails : (a b : Bool) → a ≡ false → (a && b) ≡ false
first_fails true b is = cc
first_fails false b is = refl

not_sought : (q : Sought) (e : Entry) → (e.seed.slave == slave_of q) ≡ false → is_sought q e ≡ false
not_sought (At m s) e is = second_fails (e.seed.master == m) (e.seed.slave == s) is
not_sought (Rival m s) e is =
    first_fails (is_of_other m s e && e.row.used) (not e.seed.shareable)
    (first_fails (is_of_other m s e) e.row.used (second_fails (not (e.seed.master == m)) (e.seed.slave == s) is))
not_sought (Use m s) e is = first_fails (is_at m s e) e.row.used (second_fails (e.seed.master == m) (e.seed.slave == s) is)
not_sought (OtherUse m s) e is = first_fails (is_of_other m s e) e.row.used (second_fails (not (e.seed.master == m)) (e.seed.slave == s) is)

pub sought_front : (q : Sought) (s a b : ℕ) (entries : List Entry) → s ≡ slave_of q → IsSpan s a b entries
    → find (is_sought q) (drop a entries) ≡ find (is_sought q) entries
sought_front q s a b entries own is =
    find_front (is_sought q) entries a
    (λ j e at below. not_sought q e (ap (λ t. e.seed.slave == t) (sym own) ∙ off_before s a b entries is j e at below))

pub sought_rest : (q : Sought) (s a b k : ℕ) (entries : List Entry) → s ≡ slave_of q → IsSpan s a b entries → b ≤ k
    → find (is_sought q) (drop k entries) ≡ None
sought_rest q s a b k entries own is past =
    find_rest (is_sought q) entries k
    (λ j e at below. not_sought q e (ap (λ t. e.seed.slave == t) (sym own) ∙ off_past s a b entries is k past j e at below))

-- ---- the rows that a pass touches

has_second : (a b : Bool) → (a && b) ≡ true → b ≡ true
has_second true b is = is
has_second false b is = cc

pub cover_one : (m s : ℕ) (pass : Pass) (a b : ℕ) (entries : List Entry)
    → ((seed : Pair) → touches pass seed ≡ true → (seed.slave == s) ≡ true) → IsSpan s a b entries → IsCover pass a b entries
cover_one m s pass a b entries own is = record {
  order = is.order;
  within = is.within;
  inside = λ k e at touched. is.inside k e at (eqb-true _ _ (own e.seed touched));
}

pub own_one : (m s : ℕ) (seed : Pair) → ((seed.master == m) && (seed.slave == s)) ≡ true → (seed.slave == s) ≡ true
own_one m s seed is = has_second (seed.master == m) (seed.slave == s) is

pub cover_all : (pass : Pass) (b : ℕ) (entries : List Entry) → b ≡ length entries → IsCover pass 0 b entries
cover_all pass b entries all = record {
  order = omega arith;
  within = omega arith;
  inside = λ k e at touched. let within = slice_get_within entries k e at in (omega arith, omega arith);
}

pub untouched_before : (pass : Pass) (a b : ℕ) (entries : List Entry) → IsCover pass a b entries
    → (j : ℕ) (e : Entry) → slice_get entries j ≡ Some e → j < a → touches pass e.seed ≡ false
untouched_before pass a b entries is j e at below = elim (true_or_not (touches pass e.seed)) [
  | inl touched ↦ let inside = is.inside j e at touched in let low = inside.0 in absurd (omega arith)
  | inr left ↦ left
]
  where
    true_or_not : (b : Bool) → (b ≡ true) ⊎ (b ≡ false)
    true_or_not true = inl refl
    true_or_not false = inr refl

pub untouched_past : (pass : Pass) (a b : ℕ) (entries : List Entry) → IsCover pass a b entries
    → (j : ℕ) (e : Entry) → slice_get entries j ≡ Some e → b ≤ j → touches pass e.seed ≡ false
untouched_past pass a b entries is j e at below = elim (true_or_not (touches pass e.seed)) [
  | inl touched ↦ let inside = is.inside j e at touched in let high = inside.1 in absurd (omega arith)
  | inr left ↦ left
]
  where
    true_or_not : (b : Bool) → (b ≡ true) ⊎ (b ≡ false)
    true_or_not true = inl refl
    true_or_not false = inr refl

-- one row more is wanted of its slave
pub wanted_next : (s : ℕ) (modes : List Mode) (es : List Entry) (k : ℕ) (e : Entry) (w v : Wanted) → slice_get es k ≡ Some e
    → v ≡ with_row s modes w e → fold (with_row s modes) v (drop (k + 1) es) ≡ fold (with_row s modes) w (drop k es)
wanted_next s modes es k e w v at is =
    ap (λ u. fold (with_row s modes) u (drop (k + 1) es)) is ∙ sym (ap (fold (with_row s modes) w) (drop_found es k e at))
