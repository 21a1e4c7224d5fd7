-- The power nodes follow needs that are set one by one.
use Rattle.std.proofs.Common.{◌≡◌, ℕ, ◌+◌, ◌<◌, ◌≤◌, Bool, true, if◌then◌else◌, List, [], ◌∷◌, ◌++◌, length, map, slice_get, Option, Some, None, refl, zero, suc, arith, ap, sym, ◌∙◌, subst, inl, inr}
use Rattle.std.specs.Prelude.{slice_set}
use Rattle.std.proofs.lemmas.List.{length-append}
use Rattle.std.proofs.lemmas.Option.{slice_get_cases, slice_get_within}
use Rattle.pm_topology.specs.declared.topology.SlaveDef.{SlaveDef}
use Rattle.pm_power.specs.declared.child.Child.{Child}
use Rattle.pm_power.specs.Forest.{Needs}
use Rattle.pm_power.specs.Needs.{child, with_need_at, with_needs}
use Rattle.pm_state.specs.State.{CoreHalf, Fixed}
use Rattle.pm_state.specs.Values.{forest, need_of, placed, run_of}
use Rattle.pm_state.proofs.PlacedLemmas.{length-placed}
use Rattle.pm_values.specs.Caches.{AreNeeded, FollowNeeds, FollowRuns, idle, renewed_at, use_of}
use Rattle.pm_values.specs.Notifications.{is_used}
use Rattle.pm_values.proofs.CachesLaw.{forest_idle, forest_is}

set_need_at : (needs : List Bool) (cs : List Child) (k : ℕ) (on : Bool) → k < length needs → with_needs (slice_set needs k on) (with_need_at k on cs) ≡ with_need_at k on (with_needs needs cs)
set_need_at [] cs k on within = absurd (omega (arith, within))
set_need_at (need ∷ needs) [] k on within = refl
set_need_at (need ∷ needs) (c ∷ cs) zero on within = refl
set_need_at (need ∷ needs) (c ∷ cs) (suc k) on within = ap (λ later. child c.node c.parent need ∷ later) (set_need_at needs cs k on (omega (arith, within)))

idle_still : (k : ℕ) (on : Bool) (cs : List Child) → map idle (with_need_at k on cs) ≡ map idle cs
idle_still k on [] = refl
idle_still zero on (c ∷ cs) = refl
idle_still (suc k) on (c ∷ cs) = ap (λ later. idle c ∷ later) (idle_still k on cs)

set_front : (xs ys : List Bool) (k : ℕ) (on : Bool) → k < length xs → slice_set xs k on ++ ys ≡ slice_set (xs ++ ys) k on
set_front [] ys k on within = absurd (omega (arith, within))
set_front (x ∷ xs) ys zero on within = refl
set_front (x ∷ xs) ys (suc k) on within = ap (λ later. x ∷ later) (set_front xs ys k on (omega (arith, within)))

set_back : (xs ys : List Bool) (k : ℕ) (on : Bool) → xs ++ slice_set ys k on ≡ slice_set (xs ++ ys) (length xs + k) on
set_back [] ys k on = let here : k ≡ 0 + k = omega arith in ap (λ n. slice_set ys n on) here
set_back (x ∷ xs) ys k on =
    let next : suc (length xs + k) ≡ length (x ∷ xs) + k = omega arith in
    ap (λ later. x ∷ later) (set_back xs ys k on) ∙ ap (λ n. slice_set (x ∷ xs ++ ys) n on) next

all_put : (needs : List Bool) (cs : List Child) (k : ℕ) (on : Bool) → k < length needs → with_needs needs cs ≡ cs → with_needs (slice_set needs k on) (with_need_at k on cs) ≡ with_need_at k on cs
all_put needs cs k on within agree = set_need_at needs cs k on within ∙ ap (with_need_at k on) agree

-- ---- slaves

pub no_need : (needs : List Bool) (power : Needs) → FollowNeeds needs needs power power
no_need needs power = record { powers = refl; children = refl; each = λ runs agree. agree }

pub more_needs : (one two three : List Bool) (p q r : Needs) → FollowNeeds one two p q → FollowNeeds two three q r → FollowNeeds one three p r
more_needs one two three p q r first later = record {
  powers = later.powers ∙ first.powers;
  children = later.children ∙ first.children;
  each = λ runs agree. later.each runs (first.each runs agree);
}

pub one_need : (needs : List Bool) (s : ℕ) (on : Bool) (power : Needs) → s < length needs → FollowNeeds needs (slice_set needs s on) power (record power { children = with_need_at s on power.children })
one_need needs s on power within = record {
  powers = refl;
  children = idle_still s on power.children;
  each = λ runs agree.
      let all : s < length (needs ++ runs) = omega (arith, within, length-append needs runs) in
      ap (λ ns. with_needs ns (with_need_at s on power.children)) (set_front needs runs s on within)
      ∙ all_put (needs ++ runs) power.children s on all agree;
}

-- the need of the slave at a place was written, and its power node followed
pub chosen_follows : (needs : List Bool) (s : ℕ) (need value : Bool) (power new : Needs) (after : List Bool) (slaves : List SlaveDef) (slave : SlaveDef)
    → length needs ≡ length slaves → Some slave ≡ slice_get slaves s → need ≡ value → after ≡ slice_set needs s value
    → new ≡ record power { children = with_need_at s need power.children } → FollowNeeds needs after power new
chosen_follows needs s need value power new after slaves slave places found is written put =
    let within : s < length needs = omega (arith, places, slice_get_within slaves s slave (sym found)) in
    let P : List Bool → Type 0 = λ ns. FollowNeeds needs ns power new in
    let Q : Needs → Type 0 = λ p. FollowNeeds needs (slice_set needs s need) power p in
    subst P (ap (λ b. slice_set needs s b) is ∙ sym written) (subst Q (sym put) (one_need needs s need power within))

-- ---- processors

pub no_run : (slaves : ℕ) (runs : List Bool) (power : Needs) → FollowRuns slaves runs runs power power
no_run slaves runs power = record { powers = refl; children = refl; each = λ needs count agree. agree }

pub more_runs : (slaves : ℕ) (one two three : List Bool) (p q r : Needs) → FollowRuns slaves one two p q → FollowRuns slaves two three q r → FollowRuns slaves one three p r
more_runs slaves one two three p q r first later = record {
  powers = later.powers ∙ first.powers;
  children = later.children ∙ first.children;
  each = λ needs count agree. later.each needs count (first.each needs count agree);
}

pub one_run : (slaves : ℕ) (runs : List Bool) (p : ℕ) (on : Bool) (power : Needs) → p < length runs → FollowRuns slaves runs (slice_set runs p on) power (record power { children = with_need_at (slaves + p) on power.children })
one_run slaves runs p on power within = record {
  powers = refl;
  children = idle_still (slaves + p) on power.children;
  each = λ needs count agree.
      let P : ℕ → Type 0 = λ n. with_needs (needs ++ slice_set runs p on) (with_need_at (n + p) on power.children) ≡ with_need_at (n + p) on power.children in
      let all : length needs + p < length (needs ++ runs) = omega (arith, within, length-append needs runs) in
      let own : P (length needs) =
      ap (λ ns. with_needs ns (with_need_at (length needs + p) on power.children)) (set_back needs runs p on)
      ∙ all_put (needs ++ runs) power.children (length needs + p) on all agree
      in
      subst P count own;
}

-- ---- the power nodes of a book

-- from those of the book before, by the needs that changed
pub followed_is : (fixed : Fixed) (before core : CoreHalf) (old mid new : Needs) (needs_before needs runs_before running : List Bool)
    → old ≡ forest fixed before → needs_before ≡ placed (need_of before) 0 fixed.topology.slaves → runs_before ≡ placed (run_of before) 0 fixed.topology.procs
    → FollowNeeds needs_before needs old mid → FollowRuns (length fixed.topology.slaves) runs_before running mid new
    → needs ≡ placed (need_of core) 0 fixed.topology.slaves → running ≡ placed (run_of core) 0 fixed.topology.procs
    → new ≡ forest fixed core
followed_is fixed before core old mid new needs_before needs runs_before running old_is needs_were runs_were slaves_follow procs_follow needs_are runs_are =
    let P : Needs → Type 0 = λ power. AreNeeded needs_before runs_before power in
    let all : P (forest fixed before) =
    ap (λ (power : Needs). power.children) (forest_is fixed before (forest fixed before) needs_before runs_before needs_were runs_were refl (forest_idle fixed before))
    in
    let start : AreNeeded needs_before runs_before old = subst P (sym old_is) all in
    let count : length needs ≡ length fixed.topology.slaves = ap length needs_are ∙ length-placed (need_of core) 0 fixed.topology.slaves in
    let now : AreNeeded needs running new = procs_follow.each needs count (slaves_follow.each runs_before start) in
    ap (λ cs. record new { children = cs }) (sym now)
    ∙ forest_is fixed core new needs running needs_are runs_are
    (procs_follow.powers ∙ (slaves_follow.powers ∙ ap (λ (power : Needs). power.powers) old_is))
    (procs_follow.children ∙ (slaves_follow.children ∙ (ap (λ (power : Needs). map idle power.children) old_is ∙ forest_idle fixed before)))

-- ---- whether slaves are used

-- past the last one nothing is written
pub set_past : {X : Type 0} (xs : List X) (k : ℕ) (x : X) → length xs ≤ k → slice_set xs k x ≡ xs
set_past [] k x past = refl
set_past (y ∷ ys) zero x past = absurd (omega (arith, past))
set_past (y ∷ ys) (suc k) x past = ap (λ later. y ∷ later) (set_past ys k x (omega (arith, past)))

-- whether the slave at a place is used is written, if there is such a slave
pub use_written : (core : CoreHalf) (s : ℕ) (asked : Bool) (slaves : List SlaveDef) (slave : Option SlaveDef) (used after : List Bool)
    → asked ≡ true → slice_get slaves s ≡ slave → length used ≡ length slaves → after ≡ slice_set used s (is_used s core.rows)
    → after ≡ renewed_at asked (use_of core) s slave used
use_written core s asked slaves (Some slave) used after so at places written =
    written ∙ ap (λ b. if b then slice_set used s (is_used s core.rows) else used) (sym so)
use_written core s asked slaves None used after so at places written =
    elim ((slice_get_cases slaves s).1) [
      | inl there ↦ let no : None ≡ Some there.0 = sym at ∙ there.2 in cc
      | inr past ↦ written ∙ set_past used s (is_used s core.rows) (omega (arith, past.0, places))
    ]
