-- The turns of a step are taken in three parts: power nodes go up, the other units take their values, power nodes go down.
use Rattle.std.proofs.Common.{Bool, ◌≡◌, ℕ, ◌+◌, ◌-◌, ◌<◌, ◌≤◌, ◌==◌, ◌&&◌, true, false, not, Option, Some, None, List, [], ◌∷◌, ◌++◌, length, map, take, slice_get, refl, sym, ap, subst, ◌∙◌, zero, suc, arith, inl, inr}
use Rattle.std.specs.Prelude.{flat_map, reverse}
use Rattle.std.specs.List.{list_all}
use Rattle.std.specs.Option.{option_map}
use Rattle.std.proofs.lemmas.Bool.{and_from}
use Rattle.std.proofs.lemmas.Grind.{flat_map-append}
use Rattle.std.proofs.lemmas.List.Sums.{sum_by-append, sum_by-cons}
use Rattle.std.proofs.lemmas.Option.{slice_get-map, slice_get_cases}
use Rattle.pm_base.proofs.Booleans.{both}
use Rattle.pm_base.specs.declared.names.LineId.{LineId}
use Rattle.pm_base.specs.declared.names.Unit.{Unit}
use Rattle.pm_base.specs.declared.names.Unit.TheVariants.{Node}
use Rattle.pm_topology.specs.declared.topology.PowerDef.{PowerDef}
use Rattle.pm_topology.specs.declared.topology.Topology.{Topology}
use Rattle.pm_topology.specs.WellFormed.{IsWellFormed}
use Rattle.pm_topology.specs.UnitMap.{units_in}
use Rattle.pm_topology.specs.Units.{has_in, rises, units_of}
use Rattle.pm_device.specs.Act.{Act}
use Rattle.pm_core.specs.declared.outbox.Done.{Done}
use Rattle.pm_core.specs.declared.outbox.Outbox.{Outbox}
use Rattle.pm_record.specs.declared.kept.KeptValue.{KeptValue}
use Rattle.pm_apply.specs.declared.turns.Turn.{Turn}
use Rattle.pm_apply.specs.declared.turns.Turn.TheVariants.{PowerOn, Apply, PowerOff}
use Rattle.pm_apply.specs.Carried.{KeepsRest, Takes}
use Rattle.pm_apply.specs.Left.{HaveNone, IsFollowed}
use Rattle.pm_apply.specs.Plan.{Carried, answers_of, command, due, is_fed, is_used, plan, power_off, power_on, power_places, turns_of, where_due, with_pulse}
use Rattle.pm_record.specs.Record.{Kept, kept_value, lags_in}
use Rattle.pm_apply.specs.Room.{most, most_of}
use Rattle.pm_record.specs.Marks.{LagsNotAt, NoPowerLags}
use Rattle.pm_apply.specs.Visits.{IsIdle}
use Rattle.pm_record.proofs.Below.{ChipLaws}
use Rattle.pm_apply.proofs.IdleLemmas.{idle_none, no_fall_held, no_rise_held}
use Rattle.pm_apply.proofs.OrdersUnits.{power_is_listed}
use Rattle.pm_apply.proofs.PlanLemmas.{plan-recorded}
use Rattle.pm_apply.proofs.RecordLemmas.{recorded}
use Rattle.pm_apply.proofs.TakesLemmas.{KeepsRest-trans, Takes-all, Takes-fits, Takes-next, Takes-none, Takes-refl, Takes-trans}
use Rattle.pm_apply.proofs.TurnsLemmas.{lowers, raises, settles}
use Rattle.pm_record.proofs.EntryLemmas.{kept_at}
use Rattle.pm_record.proofs.RecordLemmas.{lags_in-after_answer}
use Rattle.pm_record.proofs.EntryLemmas.{has_at}
use Rattle.pm_apply.proofs.VisitsLemmas.{Each, IsOpen, IsPulseOf, each_turn, no_lower, no_pulse, no_raise, no_settle, plan_open}

pub KeepsRest-refl : (out : Outbox) → KeepsRest out out
KeepsRest-refl out = record { room = refl; moved = refl; pulse = refl; starts = refl; late = refl; callbacks = refl; answer = refl }

-- ---- the record once turns were taken

lags_in-recorded : ChipLaws → (done : List Done) (kept : Kept) (x : Unit) → lags_in (recorded kept done) x ≡ lags_in kept x
lags_in-recorded laws [] kept x = refl
lags_in-recorded laws (d ∷ done) kept x =
    lags_in-recorded laws done (recorded kept (d ∷ [])) x ∙ lags_in-after_answer laws d.command d.ok kept x

none_first : (turns : List Turn) (k : ℕ) → list_all no_pulse turns ≡ true → list_all no_pulse (take k turns) ≡ true
none_first turns zero all = refl
none_first [] (suc k) all = refl
none_first (turn ∷ turns) (suc k) all =
    let parts = both (no_pulse turn) (list_all no_pulse turns) all in
    and_from _ _ parts.0 (none_first turns k parts.1)

-- of the first turns of a part each pulse is that of the line that is pulsed
pub each_first : (pulse : Option LineId) (turns : List Turn) (k : ℕ) → list_all no_pulse turns ≡ true → Each (IsPulseOf pulse) (flat_map (with_pulse pulse) (take k turns))
each_first pulse turns k all = each_turn pulse (take k turns) (none_first turns k all)

pub none_raises : (t : Topology) → list_all no_pulse (raises t) ≡ true
none_raises t = no_raise (power_places t)

pub none_settles : (t : Topology) → list_all no_pulse (settles t) ≡ true
none_settles t = no_settle (units_of t)

pub none_lowers : (t : Topology) → list_all no_pulse (lowers t) ≡ true
none_lowers t = no_lower (reverse (power_places t))

module _ {D : Type 0} (Does : Act → D → D → Type 0) (laws : ChipLaws) (t : Topology) (values : Unit → ℕ) (pulse : Option LineId) (turns : List Turn)
    (kept after : Kept) (done longer : List Done) (m n : D) (takes : Takes Does t values turns kept after done longer m n) where
  is_recorded : after ≡ recorded kept (plan t values turns kept (answers_of takes.done)).done
  is_recorded = ap (λ (c : Carried). c.kept) (sym takes.planned) ∙ plan-recorded t values turns kept (answers_of takes.done)

  -- the marks stay
  pub lags_then : (x : Unit) → lags_in after x ≡ lags_in kept x
  lags_then x =
      ap (λ kept. lags_in kept x) is_recorded ∙ lags_in-recorded laws (plan t values turns kept (answers_of takes.done)).done kept x

  -- it is followed as before
  pub followed_then : Each (IsPulseOf pulse) turns → IsFollowed t values pulse kept → IsFollowed t values pulse after
  followed_then each followed =
      let opened : IsOpen values pulse (units_of t) after =
      subst (IsOpen values pulse (units_of t)) (ap (λ (c : Carried). c.kept) takes.planned)
      (plan_open laws t values pulse (units_of t) turns kept (answers_of takes.done) each (record { are = followed.units; ready = followed.ready }))
      in
      record {
        units = opened.are;
        ready = opened.ready;
      }

  pub powers_rest : NoPowerLags t kept → NoPowerLags t after
  powers_rest rest w p here = lags_then (Node p.node) ∙ rest w p here

-- ---- turns without a command

pub none_take : {D : Type 0} (Does : Act → D → D → Type 0) (t : Topology) (values : Unit → ℕ) (kept : Kept) (done : List Done) (m : D) (turns : List Turn)
    → HaveNone t values kept turns → Takes Does t values turns kept kept done done m m
none_take Does t values kept done m [] none = Takes-refl Does t values kept done m
none_take Does t values kept done m (turn ∷ turns) none =
    Takes-trans Does t values (turn ∷ []) turns kept kept kept done done done m m m (Takes-none Does t values turn kept done m none.0) (none_take Does t values kept done m turns none.1)

module _ (laws : ChipLaws) (t : Topology) (values : Unit → ℕ) (pulse : Option LineId) (kept : Kept) (followed : IsFollowed t values pulse kept) where
  module _ (well : IsWellFormed t) (rest : NoPowerLags t kept) where
    power_idle : (w : ℕ) (p : PowerDef) → slice_get t.powers w ≡ Some p → IsIdle kept (Node p.node)
    power_idle w p here = record {
      known = ap (λ us. has_in us (Node p.node)) followed.units ∙ power_is_listed laws t well w p here;
      idle = rest w p here;
    }

    -- where no power node lags, none goes up
    pub none_rise : (places : List ℕ) → HaveNone t values kept (flat_map (with_pulse pulse) (map PowerOn places))
    none_rise [] = tt
    none_rise (w ∷ places) = ((idle_none t values kept laws pulse followed.ready (PowerOn w) (λ p here. power_idle w p here)).0, none_rise places)

    -- and none goes down
    pub none_fall : (places : List ℕ) → HaveNone t values kept (flat_map (with_pulse pulse) (map PowerOff places))
    none_fall [] = tt
    none_fall (w ∷ places) = ((idle_none t values kept laws pulse followed.ready (PowerOff w) (λ p here. power_idle w p here)).0, none_fall places)

  module _ (well : IsWellFormed t) where
    power_stands : (w : ℕ) (p : PowerDef) → slice_get t.powers w ≡ Some p → lags_in kept (Node p.node) ≡ false → kept_value kept (Node p.node) ≡ values (Node p.node)
    power_stands w p here rests = followed.ready.stands (Node p.node) (ap (λ us. has_in us (Node p.node)) followed.units ∙ power_is_listed laws t well w p here) rests

    -- a power node that doesn't lag, or isn't down in the record, doesn't go up
    pub not_raised : (w : ℕ) (p : PowerDef) → slice_get t.powers w ≡ Some p → (lags_in kept (Node p.node) && (kept_value kept (Node p.node) == 0)) ≡ false → due t values kept (PowerOn w) ≡ None
    not_raised w p here none =
        ap (power_on t values kept) here
        ∙ ap (λ b. where_due b (command (Node p.node) 1))
        (no_rise_held (lags_in kept (Node p.node)) (kept_value kept (Node p.node)) (values (Node p.node)) (is_fed t kept p.parent) none (power_stands w p here))

    -- and one that isn't up doesn't go down
    pub not_lowered : (w : ℕ) (p : PowerDef) → slice_get t.powers w ≡ Some p → (lags_in kept (Node p.node) && (kept_value kept (Node p.node) == 1)) ≡ false → due t values kept (PowerOff w) ≡ None
    not_lowered w p here none =
        ap (power_off t values kept w) here
        ∙ ap (λ b. where_due b (command (Node p.node) 0))
        (no_fall_held (lags_in kept (Node p.node)) (kept_value kept (Node p.node)) (values (Node p.node)) (not (is_used t kept w)) none (power_stands w p here))

  -- the unit at a place that doesn't lag
  record IdleThere (k : ℕ) : Type 0 where
    unit : Unit
    here : slice_get (settles t) k ≡ Some (Apply unit)
    idle : IsIdle kept unit

  idle_there : (k : ℕ) → LagsNotAt k kept → IdleThere k
  idle_there k found =
      let rising : rises (units_in kept) ≡ true = ap rises followed.units ∙ (laws.units.are t).rising in
      let at : slice_get (units_of t) k ≡ Some found.entry.0 =
      ap (λ us. slice_get us k) (sym followed.units) ∙ slice_get-map (λ (e : Unit × KeptValue). e.0) kept k ∙ ap (option_map (λ (e : Unit × KeptValue). e.0)) found.here
      in
      record {
        unit = found.entry.0;
        here = slice_get-map Apply (units_of t) k ∙ ap (option_map Apply) at;
        idle = record {
          known = has_at laws.units kept k found.entry found.here;
          idle = ap (λ (k : KeptValue). k.lags) (kept_at laws.units kept k found.entry rising found.here) ∙ found.idle;
        };
      }

  module _ {D : Type 0} (Does : Act → D → D → Type 0) (kept₀ : Kept) (done₀ done : List Done) (m₀ m : D) where
    -- the units up to a place took their values
    abbrev pub UpTo : ℕ → Type 0
    UpTo k = Takes Does t values (flat_map (with_pulse pulse) (take k (settles t))) kept₀ kept done₀ done m₀ m

    over : (n i : ℕ) → ((k : ℕ) → i ≤ k → k < i + n → LagsNotAt k kept) → UpTo i → UpTo (i + n)
    over zero i idle takes =
        let same : i ≡ i + 0 = omega arith in
        subst UpTo same takes
    over (suc n) i idle takes =
        let at = idle_there i (idle i (omega arith) (omega arith)) in
        let none = none_take Does t values kept done m (with_pulse pulse (Apply at.unit)) (idle_none t values kept laws pulse followed.ready (Apply at.unit) at.idle) in
        let next : UpTo (i + 1) =
        Takes-next Does t values (with_pulse pulse) (settles t) i (Apply at.unit) kept₀ kept kept done₀ done done m₀ m m at.here takes none
        in
        let same : i + 1 + n ≡ i + suc n = omega arith in
        subst UpTo same (over n (i + 1) (λ k after before. idle k (omega (arith, after)) (omega (arith, before))) next)

    -- those that don't lag are passed over
    pub passed_over : (i j : ℕ) → i ≤ j → ((k : ℕ) → i ≤ k → k < j → LagsNotAt k kept) → UpTo i → UpTo j
    passed_over i j up idle takes =
        let same : i + (j - i) ≡ j = omega (arith, up) in
        subst UpTo same (over (j - i) i (λ k after before. idle k after (omega (arith, up, before))) takes)

-- ---- the three parts

pub parts_are : (t : Topology) (pulse : Option LineId)
    → turns_of t pulse ≡ flat_map (with_pulse pulse) (raises t) ++ (flat_map (with_pulse pulse) (settles t) ++ flat_map (with_pulse pulse) (lowers t))
parts_are t pulse =
    flat_map-append (with_pulse pulse) (raises t) (settles t ++ lowers t)
    ∙ ap (λ later. flat_map (with_pulse pulse) (raises t) ++ later) (flat_map-append (with_pulse pulse) (settles t) (lowers t))

-- their most commands
pub parts_most : (t : Topology) (values : Unit → ℕ) (pulse : Option LineId)
    → most_of t values (turns_of t pulse) ≡ most_of t values (flat_map (with_pulse pulse) (raises t)) + (most_of t values (flat_map (with_pulse pulse) (settles t)) + most_of t values (flat_map (with_pulse pulse) (lowers t)))
parts_most t values pulse =
    let whole = ap (most_of t values) (parts_are t pulse) in
    let first = sum_by-append (most t values) (flat_map (with_pulse pulse) (raises t)) (flat_map (with_pulse pulse) (settles t) ++ flat_map (with_pulse pulse) (lowers t)) in
    let second = sum_by-append (most t values) (flat_map (with_pulse pulse) (settles t)) (flat_map (with_pulse pulse) (lowers t)) in
    omega (arith, whole, first, second)

-- a turn has its room alone
pub most_alone : (t : Topology) (values : Unit → ℕ) (turn : Turn) → most_of t values (turn ∷ []) ≡ most t values turn
most_alone t values turn =
    let one = sum_by-cons (most t values) turn [] in
    omega (arith, one)

-- ---- a part that is under way

module _ {D : Type 0} (Does : Act → D → D → Type 0) (t : Topology) (values : Unit → ℕ) (turns : List Turn)
    (kept₀ : Kept) (out₀ : Outbox) (m₀ : D) where
  -- the first turns of it were taken
  pub record IsPartly (k : ℕ) (kept : Kept) (out : Outbox) (m : D) : Type 0 where
    pub takes : Takes Does t values (flat_map (with_pulse out₀.pulse) (take k turns)) kept₀ kept out₀.done.items out.done.items m₀ m
    pub rest : KeepsRest out₀ out

  pub part_start : IsPartly 0 kept₀ out₀ m₀
  part_start = record { takes = Takes-refl Does t values kept₀ out₀.done.items m₀; rest = KeepsRest-refl out₀ }

  pub part_followed : ChipLaws → (k : ℕ) (kept : Kept) (out : Outbox) (m : D) → list_all no_pulse turns ≡ true → IsFollowed t values out₀.pulse kept₀
      → IsPartly k kept out m → IsFollowed t values out₀.pulse kept
  part_followed laws k kept out m none followed part =
      followed_then Does laws t values out₀.pulse (flat_map (with_pulse out₀.pulse) (take k turns)) kept₀ kept out₀.done.items out.done.items m₀ m part.takes
      (each_first out₀.pulse turns k none) followed

  -- the next one has its room
  pub part_room : (k : ℕ) (turn : Turn) (kept : Kept) (out : Outbox) (m : D) → slice_get turns k ≡ Some turn
      → length out₀.done.items + most_of t values (flat_map (with_pulse out₀.pulse) turns) ≤ out₀.done.room
      → IsPartly k kept out m → length out.done.items + most_of t values (with_pulse out₀.pulse turn) ≤ out.done.room
  part_room k turn kept out m here room part =
      let fits = Takes-fits Does t values (with_pulse out₀.pulse) turns k turn kept₀ kept out₀.done.items out.done.items m₀ m out₀.done.room here room part.takes in
      omega (arith, fits, part.rest.room)

  pub part_next : (k : ℕ) (turn : Turn) (kept after : Kept) (out then : Outbox) (m n : D) → slice_get turns k ≡ Some turn
      → IsPartly k kept out m → Takes Does t values (with_pulse out₀.pulse turn) kept after out.done.items then.done.items m n → KeepsRest out then
      → IsPartly (k + 1) after then n
  part_next k turn kept after out then m n here part takes rest = record {
    takes = Takes-next Does t values (with_pulse out₀.pulse) turns k turn kept₀ kept after out₀.done.items out.done.items then.done.items m₀ m n here part.takes takes;
    rest = KeepsRest-trans out₀ out then part.rest rest;
  }

  pub part_end : (k : ℕ) (kept : Kept) (out : Outbox) (m : D) → length turns ≤ k → IsPartly k kept out m
      → Takes Does t values (flat_map (with_pulse out₀.pulse) turns) kept₀ kept out₀.done.items out.done.items m₀ m
  part_end k kept out m all part = Takes-all Does t values (with_pulse out₀.pulse) turns k kept₀ kept out₀.done.items out.done.items m₀ m all part.takes

-- the units that don't lag are passed over
pub part_over : {D : Type 0} (Does : Act → D → D → Type 0) (t : Topology) (values : Unit → ℕ) (kept₀ : Kept) (out₀ : Outbox) (m₀ : D)
    → ChipLaws → (kept : Kept) (out : Outbox) (m : D) (i j : ℕ) → IsFollowed t values out₀.pulse kept → i ≤ j → ((k : ℕ) → i ≤ k → k < j → LagsNotAt k kept)
    → IsPartly Does t values (settles t) kept₀ out₀ m₀ i kept out m → IsPartly Does t values (settles t) kept₀ out₀ m₀ j kept out m
part_over Does t values kept₀ out₀ m₀ laws kept out m i j followed up idle part = record {
  takes = passed_over laws t values out₀.pulse kept followed Does kept₀ out₀.done.items out.done.items m₀ m i j up idle part.takes;
  rest = part.rest;
}

-- there is a unit at each place below their number
pub unit_there : (units : List Unit) (k : ℕ) → k < length units → (unit : Unit) × (slice_get units k ≡ Some unit)
unit_there units k within =
    elim ((slice_get_cases units k).1) [
      | inl there ↦ (there.0, there.2)
      | inr past ↦ absurd (omega (arith, past.0, within))
    ]

-- ---- the command of a power node by what is known of it

-- one that is down in the record goes up where it is up in the book and is fed
pub raised_is : (t : Topology) (values : Unit → ℕ) (kept : Kept) (w : ℕ) (p : PowerDef) (rises : Bool) → slice_get t.powers w ≡ Some p → kept_value kept (Node p.node) ≡ 0
    → rises ≡ ((values (Node p.node) == 1) && is_fed t kept p.parent) → due t values kept (PowerOn w) ≡ where_due rises (command (Node p.node) 1)
raised_is t values kept w p rises here down is =
    ap (power_on t values kept) here
    ∙ (ap (λ n. where_due ((values (Node p.node) == 1) && ((n == 0) && is_fed t kept p.parent)) (command (Node p.node) 1)) down
    ∙ ap (λ b. where_due b (command (Node p.node) 1)) (sym is))

-- one that is up in the record goes down where it is down in the book and isn't used
pub lowered_is : (t : Topology) (values : Unit → ℕ) (kept : Kept) (w : ℕ) (p : PowerDef) (falls : Bool) → slice_get t.powers w ≡ Some p → kept_value kept (Node p.node) ≡ 1
    → falls ≡ ((values (Node p.node) == 0) && not (is_used t kept w)) → due t values kept (PowerOff w) ≡ where_due falls (command (Node p.node) 0)
lowered_is t values kept w p falls here up is =
    ap (power_off t values kept w) here
    ∙ (ap (λ n. where_due ((values (Node p.node) == 0) && ((n == 1) && not (is_used t kept w))) (command (Node p.node) 0)) up
    ∙ ap (λ b. where_due b (command (Node p.node) 0)) (sym is))
