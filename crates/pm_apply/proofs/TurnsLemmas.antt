-- The turns of a step, one by one.
use Rattle.std.proofs.Common.{◌≡◌, ℕ, ◌+◌, ◌-◌, ◌<◌, ◌≤◌, Some, List, ◌++◌, length, map, get_or, slice_get, ap, ◌∙◌, arith}
use Rattle.std.specs.Prelude.{reverse}
use Rattle.std.specs.List.{range_with_len}
use Rattle.std.specs.Option.{option_map}
use Rattle.std.proofs.lemmas.List.{length-append, length-map, length-reverse, get_or-reverse}
use Rattle.std.proofs.lemmas.List.FromFn.{length-range_with_len, get_or-range_with_len}
use Rattle.std.proofs.lemmas.Option.{slice_get-map, slice_get-get_or}
use Rattle.pm_base.specs.declared.names.Unit.{Unit}
use Rattle.pm_base.proofs.ListLemmas.{slice_get-append_left, slice_get-append_right}
use Rattle.pm_topology.specs.declared.topology.Topology.{Topology}
use Rattle.pm_topology.specs.WellFormed.{IsWellFormed}
use Rattle.pm_topology.specs.Units.{UnitLaws, entry_count, units_of}
use Rattle.pm_apply.specs.declared.turns.Turn.{Turn}
use Rattle.pm_apply.specs.declared.turns.Turn.TheVariants.{PowerOn, Apply, PowerOff}
use Rattle.pm_apply.specs.Plan.{power_places, unit_turns}

-- ---- the three parts

abbrev pub raises : Topology → List Turn
raises t = map PowerOn (power_places t)

abbrev pub settles : Topology → List Turn
settles t = map Apply (units_of t)

abbrev pub lowers : Topology → List Turn
lowers t = map PowerOff (reverse (power_places t))

-- ---- one by one

place_at : (n w : ℕ) → w < n → slice_get (range_with_len 0 n) w ≡ Some w
place_at n w within =
    let fits : w < length (range_with_len 0 n) = omega (arith, length-range_with_len 0 n) in
    let is : get_or (range_with_len 0 n) w w ≡ w = get_or-range_with_len 0 n w w within ∙ (let none : 0 + w ≡ w = omega arith in none) in
    slice_get-get_or (range_with_len 0 n) w w fits ∙ ap Some is

place_from_end : (n i w : ℕ) → i + (w + 1) ≡ n → slice_get (reverse (range_with_len 0 n)) i ≡ Some w
place_from_end n i w is =
    let len : length (range_with_len 0 n) ≡ n = length-range_with_len 0 n in
    let back : length (reverse (range_with_len 0 n)) ≡ length (range_with_len 0 n) = length-reverse (range_with_len 0 n) in
    let at : length (range_with_len 0 n) - 1 - i ≡ w = omega arith in
    let found : get_or (reverse (range_with_len 0 n)) i w ≡ w =
    get_or-reverse (range_with_len 0 n) i w (omega arith)
    ∙ ap (λ k. get_or (range_with_len 0 n) k w) at
    ∙ get_or-range_with_len 0 n w w (omega arith)
    ∙ (let none : 0 + w ≡ w = omega arith in none)
    in
    slice_get-get_or (reverse (range_with_len 0 n)) i w (omega arith) ∙ ap Some found

pub raise_at : (t : Topology) (w : ℕ) → w < length t.powers → slice_get (raises t) w ≡ Some (PowerOn w)
raise_at t w within = slice_get-map PowerOn (power_places t) w ∙ ap (option_map PowerOn) (place_at (length t.powers) w within)

pub settle_at : (t : Topology) (k : ℕ) (unit : Unit) → slice_get (units_of t) k ≡ Some unit → slice_get (settles t) k ≡ Some (Apply unit)
settle_at t k unit here = slice_get-map Apply (units_of t) k ∙ ap (option_map Apply) here

pub lower_at : (t : Topology) (i w : ℕ) → i + (w + 1) ≡ length t.powers → slice_get (lowers t) i ≡ Some (PowerOff w)
lower_at t i w is = slice_get-map PowerOff (reverse (power_places t)) i ∙ ap (option_map PowerOff) (place_from_end (length t.powers) i w is)

pub length-raises : (t : Topology) → length (raises t) ≡ length t.powers
length-raises t = length-map (power_places t) PowerOn ∙ length-range_with_len 0 (length t.powers)

pub length-settles : (t : Topology) → length (settles t) ≡ length (units_of t)
length-settles t = length-map (units_of t) Apply

pub length-lowers : (t : Topology) → length (lowers t) ≡ length t.powers
length-lowers t = length-map (reverse (power_places t)) PowerOff ∙ length-reverse (power_places t) ∙ length-range_with_len 0 (length t.powers)

pub length-unit_turns : (t : Topology) → length (unit_turns t) ≡ length t.powers + (length (units_of t) + length t.powers)
length-unit_turns t =
    let all = length-append (raises t) (settles t ++ lowers t) in
    let later = length-append (settles t) (lowers t) in
    omega (arith, all, later, length-raises t, length-settles t, length-lowers t)

-- the turns of a well-formed chip are few
pub few_turns : UnitLaws → (t : Topology) → IsWellFormed t → length (unit_turns t) ≤ 2000
few_turns units t well =
    let few : length (units_of t) ≤ entry_count t = units.few t in
    omega (arith, few, length-unit_turns t, well.few_powers, well.few_procs, well.few_slaves, well.few_lines)

pub turn_up : (t : Topology) (k : ℕ) → k < length t.powers → slice_get (unit_turns t) k ≡ Some (PowerOn k)
turn_up t k within = slice_get-append_left (raises t) (settles t ++ lowers t) k (PowerOn k) (raise_at t k within)

pub turn_between : (t : Topology) (k i : ℕ) (unit : Unit) → k ≡ length t.powers + i → slice_get (units_of t) i ≡ Some unit → slice_get (unit_turns t) k ≡ Some (Apply unit)
turn_between t k i unit at here =
    let place : k ≡ length (raises t) + i = omega (arith, length-raises t) in
    ap (slice_get (unit_turns t)) place
    ∙ slice_get-append_right (raises t) (settles t ++ lowers t) i
    ∙ slice_get-append_left (settles t) (lowers t) i (Apply unit) (settle_at t i unit here)

pub turn_down : (t : Topology) (k i w : ℕ) → k ≡ length t.powers + (length (units_of t) + i) → i + (w + 1) ≡ length t.powers → slice_get (unit_turns t) k ≡ Some (PowerOff w)
turn_down t k i w at is =
    let place : k ≡ length (raises t) + (length (settles t) + i) = omega (arith, length-raises t, length-settles t) in
    ap (slice_get (unit_turns t)) place
    ∙ slice_get-append_right (raises t) (settles t ++ lowers t) (length (settles t) + i)
    ∙ slice_get-append_right (settles t) (lowers t) i
    ∙ lower_at t i w is
