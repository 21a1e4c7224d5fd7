-- Places that are written down, and their marks.
use Rattle.std.proofs.Common.{◌≡◌, ◌≢◌, ℕ, zero, suc, ◌+◌, ◌-◌, ◌<◌, ◌≤◌, ◌==◌, ◌||◌, Bool, true, false, not, nat_lt, cond, List, [], ◌∷◌, ◌++◌, length, take, drop, get_or, slice_get, unwrap_or, Some, refl, arith, sym, ap, ◌∙◌, ◌⊎◌, inl, inr}
use Rattle.std.specs.Prelude.{count_by, replicate, slice_set}
use Rattle.std.specs.List.{list_any}
use Rattle.std.proofs.lemmas.Bool.{eqb-true}
use Rattle.std.proofs.lemmas.Bool.Decides.{nat_tests}
use Rattle.std.proofs.lemmas.Grind.{get_or-set_at}
use Rattle.std.proofs.lemmas.List.{get_or-set_other, drop_all, drop_more, length-append, length-replicate, length-set}
use Rattle.std.proofs.Math.Seq.{take-append_seam}
use Rattle.std.proofs.lemmas.List.Folds.{list_any-append}
use Rattle.std.proofs.lemmas.List.Sums.{count_by-le-length, sum_by-set}
use Rattle.std.proofs.lemmas.Option.{get_or_from_slice_get, slice_get-get_or}
use Rattle.pm_base.proofs.Booleans.{at_most_one, differs, first_passes, later_passes, neither}
use Rattle.pm_base.proofs.Counts.{count_by-cons}
use Rattle.pm_base.specs.BoundedList.{Bounded}
use Rattle.pm_rows.specs.declared.row.Entry.{Entry}
use Rattle.pm_rows.specs.Rows.{Rows, mode_of}
use Rattle.pm_state.specs.Changes.{AreMarked, Listed, Written, is_in, is_listed, listed, listed_from, listed_if, listed_rows, unmarked, with_master, with_masters}

-- a slice of all of a list that was written is what was written
pub written_back : {X : Type 0} (new old : List X) (n : ℕ) → length new ≡ n → take n (new ++ drop (length new) old) ≡ new
written_back new old n places =
    ap (λ n. take n (new ++ drop (length new) old)) (sym places) ∙ take-append_seam new (drop (length new) old)

-- a place that isn't written down is one of the places, and isn't among those that are
pub unlisted_at : (k : ℕ) (list : List ℕ) (count : ℕ) → (not (nat_lt k count) || is_in k list) ≡ false → (k < count) × (is_in k list ≡ false)
unlisted_at k list count is =
    let parts = neither (not (nat_lt k count)) (is_in k list) is in
    let inside : not (nat_lt k count) ≡ false = parts.0 in
    (grind (arith, nat_tests, inside), parts.1)

abbrev counted : Bool → ℕ
counted b = cond b 1 0

-- where one isn't marked, fewer are than there are
pub room_left : (marks : List Bool) (k : ℕ) → k < length marks → get_or marks k false ≡ false → count_by (λ b. b) marks < length marks
room_left [] k within is = absurd (omega (arith, within))
room_left (x ∷ xs) zero within is =
    let most = count_by-le-length (λ (b : Bool). b) xs in
    let none : counted x ≡ 0 = ap counted is in
    rw (count_by-cons (λ (b : Bool). b) x xs) (omega (arith, most, none))
room_left (x ∷ xs) (suc k) within is =
    let later = room_left xs k (omega (arith, within)) is in
    rw (count_by-cons (λ (b : Bool). b) x xs) (omega (arith, later, at_most_one x))

-- one more is marked
pub one_more : (marks : List Bool) (k : ℕ) → k < length marks → get_or marks k false ≡ false → count_by (λ b. b) (slice_set marks k true) ≡ count_by (λ b. b) marks + 1
one_more marks k within is =
    let sums = sum_by-set counted marks k true false within in
    let none : counted (get_or marks k false) ≡ 0 = ap counted is in
    omega (arith, sums, none)

or_none : (b c : Bool) → c ≡ false → b ≡ (b || (c || false))
or_none true c is = refl
or_none false c is = sym (ap (λ c. c || false) is)

-- it is that place
pub marked_right : (marks : List Bool) (places : List ℕ) (k : ℕ) → ((j : ℕ) → j < length marks → slice_get marks j ≡ Some (is_in j places)) → k < length marks
    → (j : ℕ) → j < length (slice_set marks k true) → slice_get (slice_set marks k true) j ≡ Some (is_in j (places ++ k ∷ []))
marked_right marks places k right within j inside = by (k == j) refl
  where
    there : slice_get (slice_set marks k true) j ≡ Some (get_or (slice_set marks k true) j false)
    there = slice_get-get_or (slice_set marks k true) j false inside

    by : (b : Bool) → (k == j) ≡ b → slice_get (slice_set marks k true) j ≡ Some (is_in j (places ++ k ∷ []))
    by true is =
        let among : is_in j (places ++ k ∷ []) ≡ true =
        list_any-append (λ i. i == j) places (k ∷ []) ∙ later_passes (is_in j places) (is_in j (k ∷ [])) (first_passes (k == j) false is)
        in
        there ∙ (ap (λ b. Some b) (get_or-set_at marks k j true false (sym (eqb-true k j is)) within) ∙ ap (λ b. Some b) (sym among))
    by false is =
        let before : j < length marks = omega (arith, inside, length-set marks k true) in
        there
        ∙ (ap (λ b. Some b) (get_or-set_other marks k j true false (λ same. differs k j is (sym same)))
        ∙ (sym (slice_get-get_or marks j false before)
        ∙ (right j before ∙ ap (λ b. Some b) (or_none (is_in j places) (k == j) is ∙ sym (list_any-append (λ i. i == j) places (k ∷ []))))))

-- the marks and the list after one more
pub one_added : (marks : List Bool) (places : Bounded ℕ) (k : ℕ) → AreMarked marks places → k < length marks → is_in k places.items ≡ false
    → AreMarked (slice_set marks k true) (record places { items = places.items ++ k ∷ [] })
one_added marks places k are within none =
    let mark : get_or marks k false ≡ false = get_or_from_slice_get marks k (is_in k places.items) false (are.right k within) ∙ none in
    record {
      room = are.room ∙ sym (length-set marks k true);
      right = marked_right marks places.items k are.right within;
      few = one_more marks k within mark ∙ (ap (λ n. n + 1) are.few ∙ sym (length-append places.items (k ∷ [])));
    }

-- ---- none is marked any more

unmarked_length : (places : List ℕ) (marks : List Bool) → length (unmarked places marks) ≡ length marks
unmarked_length [] marks = refl
unmarked_length (k ∷ ks) marks = unmarked_length ks (slice_set marks k false) ∙ length-set marks k false

unmarked_one : (k : ℕ) (ks : List ℕ) (marks : List Bool) (j : ℕ) → j < length marks → (here : Bool) → (k == j) ≡ here → (get_or marks j false ≡ false) ⊎ ((here || is_in j ks) ≡ true)
    → (get_or (slice_set marks k false) j false ≡ false) ⊎ (is_in j ks ≡ true)
unmarked_one k ks marks j within true is so =
    let same = eqb-true k j is in
    inl (get_or-set_at marks k j false false (sym same) (omega (arith, same, within)))
unmarked_one k ks marks j within false is (inl none) = inl (get_or-set_other marks k j false false (λ same. differs k j is (sym same)) ∙ none)
unmarked_one k ks marks j within false is (inr among) = inr among

unmarked_at : (places : List ℕ) (marks : List Bool) (j : ℕ) → j < length marks → (get_or marks j false ≡ false) ⊎ (is_in j places ≡ true) → get_or (unmarked places marks) j false ≡ false
unmarked_at [] marks j within (inl none) = none
unmarked_at [] marks j within (inr among) = cc
unmarked_at (k ∷ ks) marks j within so =
    unmarked_at ks (slice_set marks k false) j (omega (arith, within, length-set marks k false)) (unmarked_one k ks marks j within (k == j) refl so)

none_counted : (marks : List Bool) → ((j : ℕ) → j < length marks → get_or marks j false ≡ false) → count_by (λ b. b) marks ≡ 0
none_counted [] none = refl
none_counted (x ∷ xs) none =
    let first : counted x ≡ 0 = ap counted (none 0 (omega arith)) in
    let later = none_counted xs (λ j within. none (suc j) (omega (arith, within))) in
    rw (count_by-cons (λ (b : Bool). b) x xs) (omega (arith, first, later))

-- at load none is
all_false : (n k : ℕ) → get_or (replicate n false) k false ≡ false
all_false zero k = refl
all_false (suc n) zero = refl
all_false (suc n) (suc k) = all_false n k

pub marked_at_load : (count : ℕ) → AreMarked (replicate count false) (record { items = []; room = count })
marked_at_load count = record {
  room = sym (length-replicate count false);
  right = λ k within. slice_get-get_or (replicate count false) k false within ∙ ap (λ b. Some b) (all_false count k);
  few = none_counted (replicate count false) (λ k within. all_false count k);
}

marked_or : (marks : List Bool) (places : List ℕ) (j : ℕ) → slice_get marks j ≡ Some (is_in j places) → (b : Bool) → is_in j places ≡ b → (get_or marks j false ≡ false) ⊎ (is_in j places ≡ true)
marked_or marks places j is true among = inr among
marked_or marks places j is false among = inl (get_or_from_slice_get marks j (is_in j places) false is ∙ among)

pub all_unmarked : (marks : List Bool) (places : Bounded ℕ) → AreMarked marks places → AreMarked (unmarked places.items marks) (record places { items = [] })
all_unmarked marks places are =
    let none : (j : ℕ) → j < length (unmarked places.items marks) → get_or (unmarked places.items marks) j false ≡ false =
    λ j within.
    let before : j < length marks = omega (arith, within, unmarked_length places.items marks) in
    unmarked_at places.items marks j before (marked_or marks places.items j (are.right j before) (is_in j places.items) refl)
    in
    record {
      room = are.room ∙ sym (unmarked_length places.items marks);
      right = λ j within. slice_get-get_or (unmarked places.items marks) j false within ∙ ap (λ b. Some b) (none j within);
      few = none_counted (unmarked places.items marks) none;
    }

-- ---- one more of many

pub rows_step : (test : Entry → Bool) (entries : List Entry) (k : ℕ) (entry : Entry) (places next : Listed) → slice_get entries k ≡ Some entry → k < length entries
    → next ≡ listed_if (test entry) entry.seed.slave places → listed_rows test (drop (k + 1) entries) next ≡ listed_rows test (drop k entries) places
rows_step test entries k entry places next there within is =
    let left : drop k entries ≡ entry ∷ drop (k + 1) entries =
    drop_more entries k entry within ∙ ap (λ e. e ∷ drop (k + 1) entries) (get_or_from_slice_get entries k entry entry there)
    in
    ap (listed_rows test (drop (k + 1) entries)) is ∙ ap (λ es. listed_rows test es places) (sym left)

pub all_step : (end k : ℕ) (places next : Listed) → k < end → next ≡ listed k places → listed_from (end - (k + 1)) (k + 1) next ≡ listed_from (end - k) k places
all_step end k places next within is =
    let count : end - k ≡ suc (end - (k + 1)) = omega (arith, within) in
    ap (listed_from (end - (k + 1)) (k + 1)) is ∙ ap (λ n. listed_from n k places) (sym count)

pub masters_step : (end m : ℕ) (rows : Rows) (w next : Written) → m < end → next ≡ with_master m (mode_of m rows) w → with_masters (end - (m + 1)) (m + 1) rows next ≡ with_masters (end - m) m rows w
masters_step end m rows w next within is =
    let count : end - m ≡ suc (end - (m + 1)) = omega (arith, within) in
    ap (with_masters (end - (m + 1)) (m + 1) rows) is ∙ ap (λ n. with_masters n m rows w) (sym count)

-- a row that doesn't pass the test is passed over, and so are several
rows_one : (test : Entry → Bool) (entries : List Entry) (k : ℕ) (places : Listed) → ((e : Entry) → slice_get entries k ≡ Some e → test e ≡ false)
    → listed_rows test (drop (suc k) entries) places ≡ listed_rows test (drop k entries) places
rows_one test [] zero places off = refl
rows_one test [] (suc k) places off = refl
rows_one test (e ∷ entries) zero places off = sym (ap (λ (b : Bool). listed_rows test entries (listed_if b e.seed.slave places)) (off e refl))
rows_one test (e ∷ entries) (suc k) places off = rows_one test entries k places off

rows_skip : (test : Entry → Bool) (entries : List Entry) (n k : ℕ) (places : Listed)
    → ((j : ℕ) (e : Entry) → slice_get entries j ≡ Some e → k ≤ j → j < k + n → test e ≡ false)
    → listed_rows test (drop (k + n) entries) places ≡ listed_rows test (drop k entries) places
rows_skip test entries zero k places off = let here : k + 0 ≡ k = omega arith in ap (λ j. listed_rows test (drop j entries) places) here
rows_skip test entries (suc n) k places off =
    let next : k + suc n ≡ suc k + n = omega arith in
    ap (λ j. listed_rows test (drop j entries) places) next
    ∙ (rows_skip test entries n (suc k) places (λ j e there past below. off j e there (omega arith) (omega arith))
    ∙ rows_one test entries k places (λ e there. off k e there (omega arith) (omega arith)))

pub rows_next : (test : Entry → Bool) (entries : List Entry) (k next : ℕ) (places : Listed) → k ≤ next
    → ((j : ℕ) (e : Entry) → slice_get entries j ≡ Some e → k ≤ j → j < next → test e ≡ false)
    → listed_rows test (drop next entries) places ≡ listed_rows test (drop k entries) places
rows_next test entries k next places order off =
    let there : k + (next - k) ≡ next = omega arith in
    ap (λ j. listed_rows test (drop j entries) places) (sym there)
    ∙ rows_skip test entries (next - k) k places (λ j e at past below. off j e at past (omega arith))

-- past the last row nothing is left
pub rows_end : (test : Entry → Bool) (entries : List Entry) (k : ℕ) (places : Listed) → length entries ≤ k → places ≡ listed_rows test (drop k entries) places
rows_end test entries k places past = sym (ap (λ es. listed_rows test es places) (drop_all k entries past))
