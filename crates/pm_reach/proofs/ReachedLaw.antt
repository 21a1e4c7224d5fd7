-- A master is reached in as many steps as there are masters, or not at all.
use Rattle.std.proofs.Common.{◌≡◌, ℕ, ◌+◌, ◌<◌, ◌≤◌, ◌⊎◌, inl, inr, Bool, true, false, ◌&&◌, nat_lt, cond, zero, suc, Option, Some, None, List, length, is_some, refl, ap, sym, ◌∙◌, subst, arith}
use Rattle.std.specs.List.{list_any, range_with_len}
use Rattle.std.proofs.lemmas.Bool.{eqb-true, ltb-true, lt-ltb, cases_lt}
use Rattle.std.proofs.lemmas.List.FromFn.{length-range_with_len, get_or-range_with_len}
use Rattle.std.proofs.lemmas.Option.{slice_get-get_or, slice_get_within, get_or_from_slice_get}
use Rattle.pm_base.specs.declared.names.Unit.{Unit}
use Rattle.pm_base.proofs.Booleans.{either, both, pair_of, first_passes, later_passes, equal}
use Rattle.pm_base.proofs.Tests.{present_at, present_from}
use Rattle.pm_object.specs.declared.object.Object.{Object}
use Rattle.pm_topology.specs.declared.topology.Topology.{Topology}
use Rattle.pm_perms.specs.Several.{masters_of}
use Rattle.pm_reach.specs.declared.members.MemberKind.{MemberKind}
use Rattle.pm_reach.specs.declared.members.Why.{Why}
use Rattle.pm_reach.specs.declared.members.Why.TheVariants.{Myself}
use Rattle.pm_reach.specs.Border.{Reaches, IsIn}
use Rattle.pm_reach.specs.Brings.{brings}
use Rattle.pm_reach.specs.Leads.{lead}
use Rattle.pm_reach.specs.Paths.{IsPath, start, step}
use Rattle.pm_reach.specs.Reached.{some_master, is_reached_by, is_reached, is_brought_in}

-- ---- a place that passes

-- a place below a length that passes a test
abbrev PassesBelow : (ℕ → Bool) → ℕ → Type 0
PassesBelow test n = (k : ℕ) × (k < n) × (test k ≡ true)

passes_below : (test : ℕ → Bool) (n : ℕ) → list_any test (range_with_len 0 n) ≡ true → PassesBelow test n
passes_below test n e =
    let found = present_at test (range_with_len 0 n) e in
    let within : found.0 < length (range_with_len 0 n) = slice_get_within (range_with_len 0 n) found.0 found.1 found.2 in
    let size = length-range_with_len 0 n in
    let less : found.0 < n = omega arith in
    let at : found.1 ≡ 0 + found.0 =
    sym (get_or_from_slice_get (range_with_len 0 n) found.0 found.1 0 found.2) ∙ get_or-range_with_len 0 n found.0 0 less
    in
    (found.1, omega arith, found.3)

any_below : (test : ℕ → Bool) (n k : ℕ) → k < n → test k ≡ true → list_any test (range_with_len 0 n) ≡ true
any_below test n k less e =
    let size = length-range_with_len 0 n in
    let there : k < length (range_with_len 0 n) = omega arith in
    let at : 0 + k ≡ k = omega arith in
    let here = slice_get-get_or (range_with_len 0 n) k 0 there in
    present_from test (range_with_len 0 n) k k
    (here ∙ ap (λ x. Some x) (get_or-range_with_len 0 n k 0 less ∙ at)) e

there : {X : Type 0} (o : Option X) → is_some o ≡ true → (x : X) × (o ≡ Some x)
there None e = cc
there (Some x) e = (x, refl)

is_there : {X : Type 0} (o : Option X) (x : X) → o ≡ Some x → is_some o ≡ true
is_there o x e = rw e refl

-- ---- a test that passes wherever another one does, or passes more often

abbrev bit : Bool → ℕ
bit b = cond b 1 0

bit_on : (b : Bool) → b ≡ true → bit b ≡ 1
bit_on b e = rw e refl

bit_off : (b : Bool) → b ≡ false → bit b ≡ 0
bit_off b e = rw e refl

-- how many places below a number pass a test
count : (ℕ → Bool) → ℕ → ℕ
count test zero = 0
count test (suc n) = count test n + bit (test n)

count_none : (test : ℕ → Bool) → count test zero ≡ 0
unfolding count
count_none test = refl

count_next : (test : ℕ → Bool) (n : ℕ) → count test (suc n) ≡ count test n + bit (test n)
unfolding count
count_next test n = refl

bit_below : (b : Bool) → bit b ≤ 1
bit_below true = omega arith
bit_below false = omega arith

count_few : (test : ℕ → Bool) (n : ℕ) → count test n ≤ n
count_few test zero = omega (arith, count_none test)
count_few test (suc n) = omega (arith, count_next test n, count_few test n, bit_below (test n))

count_some : (test : ℕ → Bool) (n k : ℕ) → k < n → test k ≡ true → 0 < count test n
count_some test zero k less e = absurd (omega arith)
count_some test (suc n) k less e =
    elim (cases_lt k n) [
      | inl before ↦ omega (arith, count_next test n, count_some test n k before e)
      | inr past ↦ (let here : k ≡ n = omega arith in
          let one : bit (test n) ≡ 1 = bit_on (test n) (ap test (sym here) ∙ e) in
          omega (arith, count_next test n))
    ]

-- the second test passes for no other place below a number
abbrev NoOther : (ℕ → Bool) → (ℕ → Bool) → ℕ → Type 0
NoOther f g n = (k : ℕ) → k < n → g k ≡ true → f k ≡ true

bits_rise : (a b : Bool) → (a ≡ true → b ≡ true) → bit a ≤ bit b
bits_rise false b e = omega arith
bits_rise true b e = omega (arith, bit_on b (e refl))

counts_rise : (f g : ℕ → Bool) → ((k : ℕ) → f k ≡ true → g k ≡ true) → (n : ℕ) → count f n ≤ count g n
counts_rise f g more zero = omega (arith, count_none f, count_none g)
counts_rise f g more (suc n) =
    omega (arith, count_next f n, count_next g n, counts_rise f g more n, bits_rise (f n) (g n) (more n))

next_same : (f g : ℕ → Bool) (n : ℕ) → NoOther f g n → (g n ≡ true → f n ≡ true) → NoOther f g (suc n)
next_same f g n same last k less e =
    elim (cases_lt k n) [
      | inl before ↦ same k before e
      | inr past ↦ (let here : k ≡ n = omega arith in ap f here ∙ last (ap g (sym here) ∙ e))
    ]

-- either it is so, or the second test passes more often
same_or_more : (f g : ℕ → Bool) → ((k : ℕ) → f k ≡ true → g k ≡ true) → (n : ℕ) → NoOther f g n ⊎ (count f n < count g n)
same_or_more f g more zero = inl (λ k less e. absurd (omega arith))
same_or_more f g more (suc n) =
    elim (same_or_more f g more n) [
      | inl same ↦ at (f n) (g n) refl refl same
      | inr less ↦ inr (omega (arith, count_next f n, count_next g n, bits_rise (f n) (g n) (more n)))
    ]
  where
    at : (a b : Bool) → f n ≡ a → g n ≡ b → NoOther f g n → NoOther f g (suc n) ⊎ (count f (suc n) < count g (suc n))
    at true b here there same = inl (next_same f g n same (λ e. here))
    at false true here there same =
        inr (omega (arith, bit_off (f n) here, bit_on (g n) there, count_next f n, count_next g n, counts_rise f g more n))
    at false false here there same = inl (next_same f g n same (λ e. cc))

-- ---- steps

module _ (objects : List Object) (t : Topology) (from : ℕ) where
  abbrev masters : ℕ
  masters = length (masters_of objects)

  abbrev by : ℕ → ℕ → Bool
  by steps b = is_reached_by objects t from steps b

  -- one step more leads to this master
  abbrev on : ℕ → ℕ → ℕ → Bool
  on steps b a = by steps a && is_some (lead objects t a b)

  -- another step leads to no other master
  abbrev Rests : ℕ → Type 0
  Rests steps = (b : ℕ) → by (suc steps) b ≡ true → by steps b ≡ true

  more_steps : (steps b : ℕ) → by steps b ≡ true → by (suc steps) b ≡ true
  more_steps steps b e = first_passes (by steps b) _ e

  one_step : (steps a b : ℕ) (why : Why) → b < masters → a < masters → by steps a ≡ true → lead objects t a b ≡ Some why → by (suc steps) b ≡ true
  one_step steps a b why there from_there e leads =
      later_passes (by steps b) _
      (pair_of (nat_lt b masters) _ (lt-ltb b masters there)
      (any_below (on steps b) masters a from_there (pair_of (by steps a) _ e (is_there (lead objects t a b) why leads))))

  -- where the last step comes from
  abbrev IsStep : ℕ → ℕ → Type 0
  IsStep steps b = (b < masters) × PassesBelow (on steps b) masters

  last_step : (steps b : ℕ) → by (suc steps) b ≡ true → (by steps b ≡ true) ⊎ IsStep steps b
  last_step steps b e =
      elim (either (by steps b) _ e) [
        | inl old ↦ inl old
        | inr new ↦ (let parts = both (nat_lt b masters) _ new in
            inr (ltb-true b masters parts.0, passes_below (on steps b) masters parts.1))
      ]

  -- where one step leads nowhere new, neither do more
  rests_on : (steps : ℕ) → Rests steps → Rests (suc steps)
  rests_on steps rests b e =
      elim (last_step (suc steps) b e) [
        | inl old ↦ old
        | inr new ↦ (let a = new.1.0 in
            let parts = both (by (suc steps) a) _ new.1.2 in
            let leads = there (lead objects t a b) parts.1 in
            one_step steps a b leads.0 new.0 new.1.1 (rests a parts.0) leads.1)
      ]

  rests_below : (steps : ℕ) → NoOther (by steps) (by (suc steps)) masters → Rests steps
  rests_below steps same b e =
      elim (last_step steps b e) [ inl old ↦ old | inr new ↦ same b new.0 e ]

  -- after some steps nothing new is reached, or more masters are than steps were taken
  rests_or_counts : from < masters → (steps : ℕ) → Rests steps ⊎ (steps < count (by steps) masters)
  rests_or_counts within zero = inr (count_some (by zero) masters from within (equal from from refl))
  rests_or_counts within (suc steps) =
      elim (rests_or_counts within steps) [
        | inl rests ↦ inl (rests_on steps rests)
        | inr many ↦ elim (same_or_more (by steps) (by (suc steps)) (more_steps steps) masters) [
          | inl same ↦ inl (rests_on steps (rests_below steps same))
          | inr more ↦ inr (omega arith)
        ]
      ]

  all_found : from < masters → Rests masters
  all_found within =
      elim (rests_or_counts within masters) [
        | inl rests ↦ rests
        | inr many ↦ absurd (omega (arith, count_few (by masters) masters))
      ]

  -- ---- paths

  start_found : (steps : ℕ) → by steps from ≡ true
  start_found zero = equal from from refl
  start_found (suc steps) = more_steps steps from (start_found steps)

  end_within : from < masters → (path : List ℕ) (b : ℕ) (why : Why) → IsPath objects t from path b why → b < masters
  end_within within _ _ _ start = within
  end_within within _ _ _ (step path a b before why p less leads) = less

  path_found : from < masters → (path : List ℕ) (b : ℕ) (why : Why) → IsPath objects t from path b why → is_reached objects t from b ≡ true
  path_found within _ _ _ start = start_found masters
  path_found within _ _ _ (step path a b before why p less leads) =
      all_found within b
      (one_step masters a b why less (end_within within path a before p) (path_found within path a before p) leads)

  found_path : (steps b : ℕ) → by steps b ≡ true → Reaches objects t from b
  found_path zero b e =
      let P : ℕ → Type 0 = λ k. Reaches objects t from k in
      let here : Reaches objects t from from = (_, Myself, start) in
      subst P (sym (eqb-true b from e)) here
  found_path (suc steps) b e =
      elim (last_step steps b e) [
        | inl old ↦ found_path steps b old
        | inr new ↦ (let a = new.1.0 in
            let parts = both (by steps a) _ new.1.2 in
            let leads = there (lead objects t a b) parts.1 in
            let path = found_path steps a parts.0 in
            (_, leads.0, step path.0 a b path.1 leads.0 path.2 new.0 leads.1))
      ]

-- ---- the tests

pub reached_where : (os : List Object) (t : Topology) (from b : ℕ) → from < length (masters_of os)
    → (is_reached os t from b ≡ true → Reaches os t from b) × (Reaches os t from b → is_reached os t from b ≡ true)
reached_where os t from b within =
    (found_path os t from (length (masters_of os)) b, λ path. path_found os t from within path.0 b path.1 path.2)

-- this master is within reach and brings in the unit
abbrev reaches_in : List Object → Topology → ℕ → MemberKind → Unit → ℕ → Bool
reaches_in os t from kind unit a = is_reached os t from a && is_some (brings os t kind unit a)

brought_in : (os : List Object) (t : Topology) (from : ℕ) (kind : MemberKind) (unit : Unit) → from < length (masters_of os)
    → is_brought_in os t from kind unit ≡ true → IsIn os t from kind unit
brought_in os t from kind unit within e =
    let found = passes_below (reaches_in os t from kind unit) (length (masters_of os)) e in
    let parts = both (is_reached os t from found.0) _ found.2 in
    let why = there (brings os t kind unit found.0) parts.1 in
    (found.0, why.0, (reached_where os t from found.0 within).0 parts.0, why.1)

in_brought : (os : List Object) (t : Topology) (from : ℕ) (kind : MemberKind) (unit : Unit) → from < length (masters_of os)
    → IsIn os t from kind unit → is_brought_in os t from kind unit ≡ true
in_brought os t from kind unit within in_reach =
    let path = in_reach.2 in
    let less = end_within os t from within path.0 in_reach.0 path.1 path.2 in
    any_below (reaches_in os t from kind unit) (length (masters_of os)) in_reach.0 less
    (pair_of (is_reached os t from in_reach.0) _ ((reached_where os t from in_reach.0 within).1 path)
    (is_there (brings os t kind unit in_reach.0) in_reach.1 in_reach.3))

pub brought_where : (os : List Object) (t : Topology) (from : ℕ) (kind : MemberKind) (unit : Unit) → from < length (masters_of os)
    → (is_brought_in os t from kind unit ≡ true → IsIn os t from kind unit) × (IsIn os t from kind unit → is_brought_in os t from kind unit ≡ true)
brought_where os t from kind unit within = (brought_in os t from kind unit within, in_brought os t from kind unit within)

pub some_where : (os : List Object) (test : ℕ → Bool)
    → (some_master os test ≡ true → PassesBelow test (length (masters_of os))) × (PassesBelow test (length (masters_of os)) → some_master os test ≡ true)
some_where os test =
    (passes_below test (length (masters_of os)), λ one. any_below test (length (masters_of os)) one.0 one.1 one.2)
