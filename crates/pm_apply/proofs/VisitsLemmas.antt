-- What a step visits: a unit that isn't marked has no command, and the turns of a step leave that so.
use Rattle.std.proofs.Common.{◌≡◌, ℕ, ◌-◌, ◌<◌, ◌≤◌, length, arith, Bool, true, false, cond, if◌then◌else◌, Option, Some, None, List, [], ◌∷◌, ◌++◌, map, slice_get, refl, sym, ap, subst, ◌∙◌, ◌⊎◌, inl, inr, zero, suc}
use Rattle.std.specs.Prelude.{⊤, IfSome, flat_map, reverse}
use Rattle.std.specs.List.{list_all}
use Rattle.std.specs.Option.{option_map, option_map_or}
use Rattle.std.proofs.lemmas.Bool.{and_from, both_ways, cases_Bool, cases_lt, or_left}
use Rattle.std.proofs.lemmas.List.Folds.{list_all-append}
use Rattle.std.proofs.lemmas.Option.{slice_get-map, slice_get_cases}
use Rattle.pm_base.proofs.Booleans.{both}
use Rattle.pm_base.specs.declared.names.LineId.{LineId}
use Rattle.pm_base.specs.declared.names.Unit.{Unit}
use Rattle.pm_base.specs.declared.names.Unit.TheVariants.{Node, Line}
use Rattle.pm_base.specs.declared.names.Command.{Command}
use Rattle.pm_topology.specs.declared.topology.PowerDef.{PowerDef}
use Rattle.pm_topology.specs.declared.topology.Topology.{Topology}
use Rattle.pm_topology.specs.WellFormed.{IsWellFormed}
use Rattle.pm_topology.specs.UnitMap.{units_in}
use Rattle.pm_topology.specs.Units.{UnitLaws, has_in, rises, same_unit, units_of}
use Rattle.pm_record.proofs.Below.{ChipLaws}
use Rattle.pm_record.specs.declared.kept.KeptValue.{KeptValue}
use Rattle.pm_apply.specs.declared.turns.Turn.{Turn}
use Rattle.pm_apply.specs.declared.turns.Turn.TheVariants.{PowerOn, Pulse, Apply, PowerOff}
use Rattle.pm_record.specs.Record.{Kept, idle, kept_value, lags_in, after_answer}
use Rattle.pm_apply.specs.Plan.{Carried, power_places, unit_turns, due, later_answers, next_answer, plan, pulse_turn, take_turn, turns_of, with_pulse}
use Rattle.pm_record.specs.Marks.{LagsNotAt, StandsAt, StandsElsewhere, pulsed}
use Rattle.pm_apply.specs.Visits.{IsIdle, IsIdleAt, power_lags, IsReady}
use Rattle.pm_apply.proofs.TurnsLemmas.{turn_between}
use Rattle.pm_record.proofs.RecordLemmas.{units_in-after_answer, kept_value-keep, lags_in-after_answer, kept_gone}
use Rattle.pm_apply.proofs.OrdersDue.{raises, pulses, settles, lowers}
use Rattle.pm_apply.proofs.OrdersUnits.{power_is_listed}
use Rattle.pm_record.proofs.EntryLemmas.{has_at, kept_at, stands_of}

-- ---- places that aren't visited

-- a unit that doesn't lag has its turn behind those in which power nodes go up
pub idle_at : UnitLaws → (t : Topology) (kept : Kept) (k powers : ℕ) → units_in kept ≡ units_of t → powers ≡ length t.powers → powers ≤ k → LagsNotAt (k - powers) kept → IsIdleAt t kept k
idle_at laws t kept k powers units is past found =
    let rising : rises (units_in kept) ≡ true = ap rises units ∙ (laws.are t).rising in
    record {
      turn = Apply found.entry.0;
      here = turn_between t k (k - powers) found.entry.0 (omega arith)
          (ap (λ us. slice_get us (k - powers)) (sym units) ∙ slice_get-map (λ (e : Unit × KeptValue). e.0) kept (k - powers) ∙ ap (option_map (λ (e : Unit × KeptValue). e.0)) found.here);
      idle = record {
        known = has_at laws kept (k - powers) found.entry found.here;
        idle = ap (λ (k : KeptValue). k.lags) (kept_at laws kept (k - powers) found.entry rising found.here) ∙ found.idle;
      };
    }

-- the power node at a place has its two turns, and is a unit of the record
pub idle_power : ChipLaws → (t : Topology) (kept : Kept) → IsWellFormed t → units_in kept ≡ units_of t → (w : ℕ) → power_lags t kept w ≡ false
    → (p : PowerDef) → slice_get t.powers w ≡ Some p → IsIdle kept (Node p.node)
idle_power laws t kept well units w idle p here = record {
  known = ap (λ us. has_in us (Node p.node)) units ∙ power_is_listed laws t well w p here;
  idle = ap (λ found. option_map_or (λ (p : PowerDef). lags_in kept (Node p.node)) found false) (sym here) ∙ idle;
}

-- what holds of the element that is found
pub holds_where : {X : Type 0} (P : X → Type 0) (found : Option X) → ((x : X) → found ≡ Some x → P x) → IfSome found P
holds_where P None holds = tt
holds_where P (Some x) holds = holds x refl

pub where_found : {X : Type 0} (P : X → Type 0) (found : Option X) (x : X) → found ≡ Some x → P x → IfSome found P
where_found {X = X} P found x here holds = let Q : Option X → Type 0 = λ found. IfSome found P in subst Q (sym here) holds

pub stands_at : UnitLaws → (values : Unit → ℕ) (kept : Kept) (k : ℕ) → rises (units_in kept) ≡ true → StandsElsewhere values kept → IfSome (slice_get kept k) (λ e. StandsAt values e)
stands_at laws values kept k rising stands =
    holds_where (λ e. StandsAt values e) (slice_get kept k) (λ e here. stands_of laws values kept k e rising stands here)

-- ---- the turns of a step

abbrev pub no_pulse : Turn → Bool
no_pulse (Pulse line) = false
no_pulse _ = true

all_at : {X : Type 0} (p : X → Bool) (xs : List X) (k : ℕ) (x : X) → list_all p xs ≡ true → slice_get xs k ≡ Some x → p x ≡ true
all_at p [] k x all here = cc
all_at p (y ∷ xs) zero x all here = let same : y ≡ x = cc in ap p (sym same) ∙ (both (p y) (list_all p xs) all).0
all_at p (y ∷ xs) (suc k) x all here = all_at p xs k x (both (p y) (list_all p xs) all).1 here

pub no_raise : (places : List ℕ) → list_all no_pulse (map PowerOn places) ≡ true
no_raise [] = refl
no_raise (w ∷ places) = no_raise places

pub no_lower : (places : List ℕ) → list_all no_pulse (map PowerOff places) ≡ true
no_lower [] = refl
no_lower (w ∷ places) = no_lower places

pub no_settle : (units : List Unit) → list_all no_pulse (map Apply units) ≡ true
no_settle [] = refl
no_settle (u ∷ units) = no_settle units

pub none_pulses : (t : Topology) → list_all no_pulse (unit_turns t) ≡ true
none_pulses t =
    list_all-append no_pulse (map PowerOn (power_places t)) (map Apply (units_of t) ++ map PowerOff (reverse (power_places t)))
    ∙ and_from _ _ (no_raise (power_places t))
    (list_all-append no_pulse (map Apply (units_of t)) (map PowerOff (reverse (power_places t))) ∙ and_from _ _ (no_settle (units_of t)) (no_lower (reverse (power_places t))))

-- each of these turns
abbrev pub Each : (Turn → Type 0) → List Turn → Type 0
Each P [] = ⊤
Each P (turn ∷ turns) = P turn × Each P turns

pub Each-append : (P : Turn → Type 0) (turns others : List Turn) → Each P turns → Each P others → Each P (turns ++ others)
Each-append P [] others each more = more
Each-append P (turn ∷ turns) others each more = (each.0, Each-append P turns others each.1 more)

-- a pulse is that of the line that is pulsed
abbrev pub IsPulseOf : Option LineId → Turn → Type 0
IsPulseOf pulse (Pulse line) = pulse ≡ Some line
IsPulseOf pulse _ = ⊤

pulsed_has : UnitLaws → (pulse : Option LineId) (line : LineId) → pulse ≡ Some line → has_in (pulsed pulse) (Line line) ≡ true
pulsed_has laws pulse line is = ap (λ pulse. has_in (pulsed pulse) (Line line)) is ∙ or_left _ _ (laws.itself (Line line))

-- the record within a step: that of these units, in which each that isn't marked has the book's value
pub record IsOpen (values : Unit → ℕ) (pulse : Option LineId) (units : List Unit) (kept : Kept) : Type 0 where
  pub are : units_in kept ≡ units
  pub ready : IsReady values pulse kept

module _ (laws : ChipLaws) (t : Topology) (values : Unit → ℕ) (pulse : Option LineId) where
  -- a command brings its unit to the book's value, or is that of the line that is pulsed
  towards : (turn : Turn) (kept : Kept) (c : Command) → IsPulseOf pulse turn → due t values kept turn ≡ Some c → (c.value ≡ values c.unit) ⊎ (has_in (pulsed pulse) c.unit ≡ true)
  towards (PowerOn w) kept c of is =
      let r = raises t values kept w c is in
      inl (ap (λ (c : Command). c.value) r.is ∙ sym r.value ∙ ap (λ (c : Command). values c.unit) (sym r.is))
  towards (Pulse line) kept c of is =
      inr (ap (λ (c : Command). has_in (pulsed pulse) c.unit) (pulses t values kept line c is) ∙ pulsed_has laws.units pulse line of)
  towards (Apply unit) kept c of is =
      let s = settles t values kept unit c is in
      inl (ap (λ (c : Command). c.value) s.is ∙ ap (λ (c : Command). values c.unit) (sym s.is))
  towards (PowerOff w) kept c of is =
      let l = lowers t values kept w c is in
      inl (ap (λ (c : Command). c.value) l.is ∙ sym l.value ∙ ap (λ (c : Command). values c.unit) (sym l.is))

  value_after : (units : List Unit) (kept : Kept) (c : Command) (x : Unit) (same : Bool)
      → IsOpen values pulse units kept
      → (c.value ≡ values c.unit) ⊎ (has_in (pulsed pulse) c.unit ≡ true)
      → same_unit c.unit x ≡ same
      → has_in (units_in kept) x ≡ true → lags_in kept x ≡ false
      → has_in (units_in kept) c.unit ≡ true
      → cond same c.value (kept_value kept x) ≡ values x
  value_after units kept c x false opened to is has idle there = opened.ready.stands x has idle
  value_after units kept c x true opened to is has idle there =
      let one = laws.units.same c.unit x is in
      elim to [
        | inl book ↦ book ∙ ap values one
        | inr line ↦ absurd (both_ways (lags_in kept x) idle (opened.ready.line x (ap (has_in (pulsed pulse)) (sym one) ∙ line) has))
      ]

  stands_after : (units : List Unit) (kept : Kept) (c : Command) (ok : Bool) → IsOpen values pulse units kept
      → (c.value ≡ values c.unit) ⊎ (has_in (pulsed pulse) c.unit ≡ true)
      → (x : Unit) → has_in (units_in kept) x ≡ true → lags_in kept x ≡ false
      → kept_value (after_answer c ok kept) x ≡ values x
  stands_after units kept c false opened to x has idle = opened.ready.stands x has idle
  stands_after units kept c true opened to x has idle =
      elim (cases_Bool (has_in (units_in kept) c.unit)) [
        | inl there ↦ kept_value-keep laws c.unit c.value kept x there ∙ value_after units kept c x (same_unit c.unit x) opened to refl has idle there
        | inr gone ↦ kept_gone laws c kept x gone ∙ opened.ready.stands x has idle
      ]

  -- the command of a turn leaves it so
  pub turn_open : (units : List Unit) (turn : Turn) (kept : Kept) (c : Command) (ok : Bool) → IsPulseOf pulse turn → due t values kept turn ≡ Some c → IsOpen values pulse units kept → IsOpen values pulse units (after_answer c ok kept)
  turn_open units turn kept c ok of is opened =
      let same : units_in (after_answer c ok kept) ≡ units_in kept = units_in-after_answer laws c ok kept in
      let there : (x : Unit) → has_in (units_in (after_answer c ok kept)) x ≡ true → has_in (units_in kept) x ≡ true = λ x has. ap (λ us. has_in us x) (sym same) ∙ has in
      record {
        are = same ∙ opened.are;
        ready = record {
          stands = λ x has idle. stands_after units kept c ok opened (towards turn kept c of is) x (there x has) (sym (lags_in-after_answer laws c ok kept x) ∙ idle);
          line = λ x line has. lags_in-after_answer laws c ok kept x ∙ opened.ready.line x line (there x has);
        };
      }

  take_open : (units : List Unit) (turn : Turn) (command : Option Command) (kept : Kept) (answers : List Bool) (later : Kept → List Bool → Carried)
      → IsPulseOf pulse turn
      → due t values kept turn ≡ command
      → ((kept : Kept) (answers : List Bool) → IsOpen values pulse units kept → IsOpen values pulse units (later kept answers).kept)
      → IsOpen values pulse units kept → IsOpen values pulse units (take_turn command kept answers later).kept
  take_open units turn None kept answers later of is next opened = next kept answers opened
  take_open units turn (Some c) kept answers later of is next opened =
      next (after_answer c (next_answer answers) kept) (later_answers answers) (turn_open units turn kept c (next_answer answers) of is opened)

  pub plan_open : (units : List Unit) (turns : List Turn) (kept : Kept) (answers : List Bool) → Each (IsPulseOf pulse) turns → IsOpen values pulse units kept → IsOpen values pulse units (plan t values turns kept answers).kept
  plan_open units [] kept answers of opened = opened
  plan_open units (turn ∷ turns) kept answers of opened =
      take_open units turn (due t values kept turn) kept answers (plan t values turns) of.0 refl (λ kept answers. plan_open units turns kept answers of.1) opened

-- the turns of a unit, with its pulse
by_test : (pulse : Option LineId) (line : LineId) (unit : Unit) (is : Bool) → pulse ≡ Some line → Each (IsPulseOf pulse) ((if is then Pulse line ∷ [] else []) ++ Apply unit ∷ [])
by_test pulse line unit true is = (is, (tt, tt))
by_test pulse line unit false is = (tt, tt)

by_line : (pulse found : Option LineId) (unit : Unit) → pulse ≡ found → Each (IsPulseOf pulse) (pulse_turn found unit ++ Apply unit ∷ [])
by_line pulse None unit is = (tt, tt)
by_line pulse (Some line) unit is = by_test pulse line unit (same_unit (Line line) unit) is

pub are_pulses : (pulse : Option LineId) (turn : Turn) → no_pulse turn ≡ true → Each (IsPulseOf pulse) (with_pulse pulse turn)
are_pulses pulse (PowerOn w) unpulsed = (tt, tt)
are_pulses pulse (Pulse line) unpulsed = cc
are_pulses pulse (Apply unit) unpulsed = by_line pulse pulse unit refl
are_pulses pulse (PowerOff w) unpulsed = (tt, tt)

-- each pulse among the turns of a step is that of the line that is pulsed
pub each_turn : (pulse : Option LineId) (turns : List Turn) → list_all no_pulse turns ≡ true → Each (IsPulseOf pulse) (flat_map (with_pulse pulse) turns)
each_turn pulse [] all = tt
each_turn pulse (turn ∷ turns) all =
    let parts = both (no_pulse turn) (list_all no_pulse turns) all in
    Each-append (IsPulseOf pulse) (with_pulse pulse turn) (flat_map (with_pulse pulse) turns) (are_pulses pulse turn parts.0) (each_turn pulse turns parts.1)

pub pulses_of : (t : Topology) (pulse : Option LineId) → Each (IsPulseOf pulse) (turns_of t pulse)
pulses_of t pulse = each_turn pulse (unit_turns t) (none_pulses t)

pub Each-front : (P : Turn → Type 0) (turns others : List Turn) → Each P (turns ++ others) → Each P turns
Each-front P [] others each = tt
Each-front P (turn ∷ turns) others each = (each.0, Each-front P turns others each.1)

pub turn_there : (turns : List Turn) (k : ℕ) → k < length turns → (turn : Turn) × (slice_get turns k ≡ Some turn)
turn_there turns k within =
    elim ((slice_get_cases turns k).1) [
      | inl there ↦ (there.0, there.2)
      | inr past ↦ absurd (omega (arith, past.0))
    ]

-- what holds up to a place, and from it on
pub holds_on : (P : ℕ → Type 0) (i j k : ℕ) → ((x : ℕ) → i ≤ x → x < j → P x) → ((x : ℕ) → j ≤ x → x < k → P x) → (x : ℕ) → i ≤ x → x < k → P x
holds_on P i j k first later x after before =
    elim (cases_lt x j) [
      | inl early ↦ first x after early
      | inr late ↦ later x late before
    ]
