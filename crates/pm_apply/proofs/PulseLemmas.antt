-- The turns of a step are those of the units, with a pulse among those of the units that take their values.
use Rattle.std.proofs.Common.{◌≡◌, ℕ, ◌+◌, ◌<◌, ◌≤◌, Bool, true, false, if◌then◌else◌, List, [], ◌∷◌, ◌++◌, map, Option, Some, None, refl, ap, ◌∙◌, arith}
use Rattle.std.specs.Prelude.{IfSome, flat_map, option_to_list, reverse}
use Rattle.std.proofs.lemmas.Grind.{flat_map-append}
use Rattle.std.proofs.lemmas.List.Sums.{sum_by-append, sum_by-cons}
use Rattle.pm_base.specs.declared.names.LineId.{LineId}
use Rattle.pm_base.specs.declared.names.Unit.{Unit}
use Rattle.pm_base.specs.declared.names.Unit.TheVariants.{Line}
use Rattle.pm_topology.specs.declared.topology.Topology.{Topology}
use Rattle.pm_topology.specs.Units.{same_unit, units_of}
use Rattle.pm_apply.specs.declared.turns.Turn.{Turn}
use Rattle.pm_apply.specs.declared.turns.Turn.TheVariants.{PowerOn, Pulse, Apply, PowerOff}
use Rattle.pm_apply.specs.Plan.{power_places, pulse_before, pulse_turn, turns_of, with_pulse}
use Rattle.pm_apply.specs.Room.{most, most_of}
use Rattle.pm_apply.proofs.TurnsLemmas.{raises, settles, lowers}

-- power nodes have no pulse
raise_pulses : (pulse : Option LineId) (places : List ℕ) → flat_map (with_pulse pulse) (map PowerOn places) ≡ map PowerOn places
raise_pulses pulse [] = refl
raise_pulses pulse (w ∷ places) = ap (λ turns. PowerOn w ∷ turns) (raise_pulses pulse places)

lower_pulses : (pulse : Option LineId) (places : List ℕ) → flat_map (with_pulse pulse) (map PowerOff places) ≡ map PowerOff places
lower_pulses pulse [] = refl
lower_pulses pulse (w ∷ places) = ap (λ turns. PowerOff w ∷ turns) (lower_pulses pulse places)

-- the turns of the units that take their values, with the pulse among them
abbrev pub settle_pulses : Topology → Option LineId → List Turn
settle_pulses t pulse = flat_map (with_pulse pulse) (map Apply (units_of t))

pub turns_are : (t : Topology) (pulse : Option LineId) → turns_of t pulse ≡ raises t ++ (settle_pulses t pulse ++ lowers t)
turns_are t pulse =
    flat_map-append (with_pulse pulse) (raises t) (settles t ++ lowers t)
    ∙ (ap (λ turns. turns ++ flat_map (with_pulse pulse) (settles t ++ lowers t)) (raise_pulses pulse (power_places t))
    ∙ (ap (λ turns. raises t ++ turns) (flat_map-append (with_pulse pulse) (settles t) (lowers t))
    ∙ ap (λ turns. raises t ++ (settle_pulses t pulse ++ turns)) (lower_pulses pulse (reverse (power_places t)))))

-- ---- one turn with its pulse

module _ (t : Topology) (values : Unit → ℕ) where
  -- a pulse has one command at most
  by_test : (line : LineId) (is : Bool) (x : Turn) → x ∷ [] ≡ (if is then Pulse line ∷ [] else []) → most t values x ≡ 1
  by_test line true x is = let same : x ≡ Pulse line = cc in ap (most t values) same
  by_test line false x is = cc

  by_line : (pulse : Option LineId) (unit : Unit) (x : Turn) → x ∷ [] ≡ pulse_turn pulse unit → most t values x ≡ 1
  by_line None unit x is = cc
  by_line (Some line) unit x is = by_test line (same_unit (Line line) unit) x is

  one_pulse : (pulse : Option LineId) (turn x : Turn) → x ∷ [] ≡ pulse_before pulse turn → most t values x ≡ 1
  one_pulse pulse (Apply unit) x is = by_line pulse unit x is
  one_pulse pulse (PowerOn w) x is = cc
  one_pulse pulse (Pulse line) x is = cc
  one_pulse pulse (PowerOff w) x is = cc

  -- so there is room for it where there is room for the turn with it
  pub pulse_room : (pulse : Option LineId) (turn : Turn) (found : Option Turn) (n room : ℕ) → option_to_list found ≡ pulse_before pulse turn → n + most_of t values (with_pulse pulse turn) ≤ room → IfSome found (λ _. n < room)
  pulse_room pulse turn None n room is fits = tt
  pulse_room pulse turn (Some x) n room is fits =
      let one : most t values x ≡ 1 = one_pulse pulse turn x is in
      let all = sum_by-append (most t values) (pulse_before pulse turn) (turn ∷ []) in
      let first : most_of t values (x ∷ []) ≡ most_of t values (pulse_before pulse turn) = ap (most_of t values) is in
      let own = sum_by-cons (most t values) x [] in
      omega (arith, one, all, first, own, fits)
