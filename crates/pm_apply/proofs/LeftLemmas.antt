-- The turns that are left, one after another.
use Rattle.std.proofs.Common.{◌≡◌, ℕ, ◌+◌, ◌<◌, ◌≤◌, Bool, true, false, if◌then◌else◌, Option, Some, None, List, [], ◌∷◌, ◌++◌, drop, length, slice_get, refl, sym, ap, subst, ◌∙◌, append_assoc, length-append, zero, suc, arith}
use Rattle.std.specs.Prelude.{IfSome, flat_map, is_some, option_to_list, unwrap_or}
use Rattle.std.specs.List.{list_all}
use Rattle.std.proofs.lemmas.List.Sums.{sum_by-append, sum_by-cons}
use Rattle.pm_base.proofs.Booleans.{both}
use Rattle.pm_base.specs.declared.names.Command.{Command}
use Rattle.pm_base.specs.declared.names.LineId.{LineId}
use Rattle.pm_base.specs.declared.names.Unit.{Unit}
use Rattle.pm_topology.specs.declared.topology.Topology.{Topology}
use Rattle.pm_topology.specs.Units.{units_of}
use Rattle.pm_device.specs.Act.{Act, Order}
use Rattle.pm_core.specs.declared.outbox.Done.{Done}
use Rattle.pm_apply.specs.declared.carrying.Carrying.{Carrying}
use Rattle.pm_apply.specs.declared.turns.Turn.{Turn}
use Rattle.pm_apply.specs.declared.turns.Turn.TheVariants.{PowerOn, Pulse, Apply, PowerOff}
use Rattle.pm_apply.specs.Carried.{Takes}
use Rattle.pm_apply.specs.Left.{Answers, Begins, HaveNone, IsFollowed, Passes, Waits, left_from, turns_left}
use Rattle.pm_record.specs.Record.{after_answer, Kept}
use Rattle.pm_apply.specs.Plan.{Carried, answers_of, due, pulse_before, turns_of, unit_turns, with_pulse}
use Rattle.pm_apply.specs.Room.{most, most_of}
use Rattle.pm_record.proofs.Below.{ChipLaws}
use Rattle.pm_apply.proofs.CountLemmas.{due_most}
use Rattle.pm_apply.proofs.GapLemmas.{Gap, HaveNone-append}
use Rattle.pm_apply.proofs.TakesLemmas.{Takes-none, Takes-refl, Takes-room, Takes-some, Takes-trans}
use Rattle.pm_record.proofs.ListedLemmas.{drop_here}
use Rattle.pm_apply.proofs.VisitsLemmas.{Each, Each-front, IsOpen, IsPulseOf, each_turn, no_pulse, none_pulses, plan_open, pulses_of, turn_open}

later_same : (a b : Turn) (xs ys : List Turn) → a ∷ xs ≡ b ∷ ys → xs ≡ ys
later_same a b xs ys e = cc

-- ---- the first turn

pub left_all : (pulse : Option LineId) (turns : List Turn) → left_from pulse false turns ≡ flat_map (with_pulse pulse) turns
left_all pulse [] = refl
left_all pulse (turn ∷ turns) = refl

module _ (t : Topology) (pulse : Option LineId) where
  -- the turns behind the one at a place
  abbrev behind : ℕ → List Turn
  behind k = flat_map (with_pulse pulse) (drop (k + 1) (unit_turns t))

  left_at : (c : Carrying) (pulsed : Bool) (turn : Turn) → c.pulsed ≡ pulsed → slice_get (unit_turns t) c.place ≡ Some turn
      → turns_left t pulse c ≡ (if pulsed then turn ∷ [] else with_pulse pulse turn) ++ behind c.place
  left_at c pulsed turn is here =
      ap (λ b. left_from pulse b (drop c.place (unit_turns t))) is
      ∙ ap (left_from pulse pulsed) (drop_here (unit_turns t) c.place turn here)

  pub first_pulsed : (c : Carrying) (turn : Turn) → c.pulsed ≡ true → slice_get (unit_turns t) c.place ≡ Some turn → Begins turn (turns_left t pulse c)
  first_pulsed c turn is here = record { later = behind c.place; is = left_at c true turn is here }

  -- with its pulse before it, if it has one
  left_with : (c : Carrying) (turn : Turn) (p : Option Turn) → c.pulsed ≡ false → slice_get (unit_turns t) c.place ≡ Some turn → option_to_list p ≡ pulse_before pulse turn
      → turns_left t pulse c ≡ (option_to_list p ++ turn ∷ []) ++ behind c.place
  left_with c turn p is here before =
      left_at c false turn is here ∙ ap (λ (turns : List Turn). (turns ++ turn ∷ []) ++ behind c.place) (sym before)

  pub first_unpulsed : (c : Carrying) (turn : Turn) (p : Option Turn) → c.pulsed ≡ false → slice_get (unit_turns t) c.place ≡ Some turn → option_to_list p ≡ pulse_before pulse turn
      → Begins (unwrap_or p turn) (turns_left t pulse c)
  first_unpulsed c turn None is here before = record { later = behind c.place; is = left_with c turn None is here before }
  first_unpulsed c turn (Some q) is here before = record { later = turn ∷ behind c.place; is = left_with c turn (Some q) is here before }

  -- ---- the turns behind it

  -- behind a pulse its unit's turn is left
  pub behind_pulse : (c : Carrying) (turn : Turn) (p : Option Turn) → is_some p ≡ true → c.pulsed ≡ false → slice_get (unit_turns t) c.place ≡ Some turn → option_to_list p ≡ pulse_before pulse turn
      → (one : Turn) (first : Begins one (turns_left t pulse c)) → turns_left t pulse (record { place = c.place; pulsed = true }) ≡ first.later
  behind_pulse c turn None some is here before one first = cc
  behind_pulse c turn (Some q) some is here before one first =
      left_at (record { place = c.place; pulsed = true }) true turn refl here
      ∙ later_same q one (turn ∷ behind c.place) first.later (sym (left_with c turn (Some q) is here before) ∙ first.is)

  -- and behind a unit's turn those of the later units
  later_turns : (c : Carrying) (turn one : Turn) (first : Begins one (turns_left t pulse c)) → turns_left t pulse c ≡ turn ∷ behind c.place
      → turns_left t pulse (record { place = c.place + 1; pulsed = false }) ≡ first.later
  later_turns c turn one first left =
      left_all pulse (drop (c.place + 1) (unit_turns t)) ∙ later_same turn one (behind c.place) first.later (sym left ∙ first.is)

  pub behind_pulsed : (c : Carrying) (turn : Turn) → c.pulsed ≡ true → slice_get (unit_turns t) c.place ≡ Some turn
      → (one : Turn) (first : Begins one (turns_left t pulse c)) → turns_left t pulse (record { place = c.place + 1; pulsed = false }) ≡ first.later
  behind_pulsed c turn is here one first = later_turns c turn one first (left_at c true turn is here)

  pub behind_unpulsed : (c : Carrying) (turn : Turn) (p : Option Turn) → is_some p ≡ false → c.pulsed ≡ false → slice_get (unit_turns t) c.place ≡ Some turn → option_to_list p ≡ pulse_before pulse turn
      → (one : Turn) (first : Begins one (turns_left t pulse c)) → turns_left t pulse (record { place = c.place + 1; pulsed = false }) ≡ first.later
  behind_unpulsed c turn (Some q) none is here before one first = cc
  behind_unpulsed c turn None none is here before one first = later_turns c turn one first (left_with c turn None is here before)

  -- ---- turns that are passed over

  module _ (values : Unit → ℕ) (kept : Kept) where
    pub Passes-gap : (c : Carrying) (j : ℕ) → c.pulsed ≡ false → Gap t values pulse kept c.place j → Passes t values pulse kept c (record { place = j; pulsed = c.pulsed })
    Passes-gap c j is gap = record {
      passed = gap.passed;
      left =
          ap (λ b. left_from pulse b (drop c.place (unit_turns t))) is
          ∙ left_all pulse (drop c.place (unit_turns t))
          ∙ gap.left
          ∙ ap (λ later. gap.passed ++ later) (sym (left_all pulse (drop j (unit_turns t))) ∙ ap (λ b. left_from pulse b (drop j (unit_turns t))) (sym is));
      none = gap.none;
    }

    -- one more that has no command, and those behind it
    pub Passes-on : (a b middle c : Carrying) (turn : Turn) (first : Begins turn (turns_left t pulse b))
        → Passes t values pulse kept a b → due t values kept turn ≡ None → turns_left t pulse middle ≡ first.later → Passes t values pulse kept middle c
        → Passes t values pulse kept a c
    Passes-on a b middle c turn first one none is two = record {
      passed = one.passed ++ turn ∷ two.passed;
      left =
          one.left
          ∙ ap (λ later. one.passed ++ later) (first.is ∙ ap (λ later. turn ∷ later) (sym is ∙ two.left))
          ∙ sym (append_assoc one.passed (turn ∷ two.passed) (turns_left t pulse c));
      none = HaveNone-append t values kept one.passed (turn ∷ two.passed) one.none (none, two.none);
    }

    -- fewer are left then
    pub Passes-fewer : (a b : Carrying) → Passes t values pulse kept a b → length (turns_left t pulse b) ≤ length (turns_left t pulse a)
    Passes-fewer a b passes =
        let all = ap length passes.left ∙ length-append passes.passed (turns_left t pulse b) in
        omega (arith, all)

pub Begins-fewer : (turn : Turn) (turns later : List Turn) (first : Begins turn turns) → later ≡ first.later → length later < length turns
Begins-fewer turn turns later first is =
    let all : length turns ≡ length (turn ∷ first.later) = ap length first.is in
    let same : length later ≡ length first.later = ap length is in
    omega (arith, all, same)

-- ---- what the first turn that is left comes to

-- each pulse among the turns that are left is that of the line that is pulsed
each_left : (pulse : Option LineId) (pulsed : Bool) (turns : List Turn) → list_all no_pulse turns ≡ true → Each (IsPulseOf pulse) (left_from pulse pulsed turns)
each_left pulse pulsed [] all = tt
each_left pulse false (turn ∷ turns) all = each_turn pulse (turn ∷ turns) all
each_left pulse true (turn ∷ turns) all =
    let parts = both (no_pulse turn) (list_all no_pulse turns) all in
    (is_unpulsed pulse turn parts.0, each_turn pulse turns parts.1)
  where
    is_unpulsed : (pulse : Option LineId) (turn : Turn) → no_pulse turn ≡ true → IsPulseOf pulse turn
    is_unpulsed pulse (PowerOn w) unpulsed = tt
    is_unpulsed pulse (Pulse line) unpulsed = cc
    is_unpulsed pulse (Apply unit) unpulsed = tt
    is_unpulsed pulse (PowerOff w) unpulsed = tt

none_after : (turns : List Turn) (k : ℕ) → list_all no_pulse turns ≡ true → list_all no_pulse (drop k turns) ≡ true
none_after turns zero all = all
none_after [] (suc k) all = refl
none_after (turn ∷ turns) (suc k) all = none_after turns k (both (no_pulse turn) (list_all no_pulse turns) all).1

module _ (laws : ChipLaws) (t : Topology) (values : Unit → ℕ) (pulse : Option LineId) where
  -- the record is followed behind the command that was waited for
  pub followed_on : (c : Carrying) (kept : Kept) (command : Command) (ok : Bool) → Waits t values pulse kept c command → IsFollowed t values pulse kept → IsFollowed t values pulse (after_answer command ok kept)
  followed_on c kept command ok waits followed =
      let each = each_left pulse c.pulsed (drop c.place (unit_turns t)) (none_after (unit_turns t) c.place (none_pulses t)) in
      let one = subst (Each (IsPulseOf pulse)) waits.first.is each in
      let opened = turn_open laws t values pulse (units_of t) waits.turn kept command ok one.0 waits.has (record { are = followed.units; ready = followed.ready }) in
      record {
        units = opened.are;
        ready = opened.ready;
      }

  -- room for all commands that may be left is room for the one that waits and for those behind it
  pub room_passed : (a b : Carrying) (kept : Kept) (n room : ℕ) → Passes t values pulse kept a b
      → n + most_of t values (turns_left t pulse a) ≤ room → n + most_of t values (turns_left t pulse b) ≤ room
  room_passed a b kept n room passes fits =
      let parts = sum_by-append (most t values) passes.passed (turns_left t pulse b) in
      let same = ap (most_of t values) passes.left in
      omega (arith, fits, parts, same)

  pub room_waits : (c : Carrying) (kept : Kept) (command : Command) (n room : ℕ) (waits : Waits t values pulse kept c command)
      → n + most_of t values (turns_left t pulse c) ≤ room → n + 1 + most_of t values waits.first.later ≤ room
  room_waits c kept command n room waits fits =
      let one = due_most t values waits.turn kept command waits.has in
      let parts = sum_by-cons (most t values) waits.turn waits.first.later in
      let same = ap (most_of t values) waits.first.is in
      omega (arith, fits, one, parts, same)

-- ---- a step that is under way

module _ {D : Type 0} (Does : Act → D → D → Type 0) (t : Topology) (values : Unit → ℕ) (pulse : Option LineId) (kept₀ : Kept) (done₀ : List Done) (m₀ : D) where
  -- the turns that aren't left were taken
  pub record IsUnderWay (c : Carrying) (kept : Kept) (done : List Done) (m : D) : Type 0 where
    pub turns : List Turn
    pub all : turns ++ turns_left t pulse c ≡ turns_of t pulse
    pub takes : Takes Does t values turns kept₀ kept done₀ done m₀ m

  pub way_start : (c : Carrying) → turns_left t pulse c ≡ turns_of t pulse → IsUnderWay c kept₀ done₀ m₀
  way_start c all = record { turns = []; all = all; takes = Takes-refl Does t values kept₀ done₀ m₀ }

  none_takes : (kept : Kept) (done : List Done) (m : D) (turns : List Turn) → HaveNone t values kept turns → Takes Does t values turns kept kept done done m m
  none_takes kept done m [] none = Takes-refl Does t values kept done m
  none_takes kept done m (turn ∷ turns) none =
      Takes-trans Does t values (turn ∷ []) turns kept kept kept done done done m m m (Takes-none Does t values turn kept done m none.0) (none_takes kept done m turns none.1)

  pub way_passes : (a b : Carrying) (kept : Kept) (done : List Done) (m : D) → IsUnderWay a kept done m → Passes t values pulse kept a b → IsUnderWay b kept done m
  way_passes a b kept done m way passes = record {
    turns = way.turns ++ passes.passed;
    all = append_assoc way.turns passes.passed (turns_left t pulse b) ∙ ap (λ later. way.turns ++ later) (sym passes.left) ∙ way.all;
    takes = Takes-trans Does t values way.turns passes.passed kept₀ kept kept done₀ done done m₀ m m way.takes (none_takes kept done m passes.passed passes.none);
  }

  pub way_answered : (a b : Carrying) (kept after : Kept) (done longer : List Done) (m n : D) (command : Command) (ok : Bool)
      → IsUnderWay a kept done m → Waits t values pulse kept a command → Answers t pulse command ok a b kept after done longer → Does (Order command ok) m n
      → IsUnderWay b after longer n
  way_answered a b kept after done longer m n command ok way waits answers does =
      let turn = waits.turn in
      let later = waits.first.later in
      record {
        turns = way.turns ++ turn ∷ [];
        all =
            append_assoc way.turns (turn ∷ []) (turns_left t pulse b)
            ∙ ap (λ later. way.turns ++ turn ∷ later) (answers.left turn waits.first)
            ∙ ap (λ left. way.turns ++ left) (sym waits.first.is)
            ∙ way.all;
        takes = Takes-trans Does t values way.turns (turn ∷ []) kept₀ kept after done₀ done longer m₀ m n way.takes
            (Takes-some Does t values turn command ok kept after done longer m n waits.has answers.kept answers.done does);
      }

  pub way_end : (c : Carrying) (kept : Kept) (done : List Done) (m : D) → IsUnderWay c kept done m → turns_left t pulse c ≡ [] → Takes Does t values (turns_of t pulse) kept₀ kept done₀ done m₀ m
  way_end c kept done m way none =
      let P : List Turn → Type 0 = λ turns. Takes Does t values turns kept₀ kept done₀ done m₀ m in
      subst P (append-none way.turns ∙ ap (λ left. way.turns ++ left) (sym none) ∙ way.all) way.takes
    where
      append-none : {X : Type 0} (xs : List X) → xs ≡ xs ++ []
      append-none [] = refl
      append-none (x ∷ xs) = ap (λ ys. x ∷ ys) (append-none xs)

  -- there is room for the command that waits
  pub way_room : (c : Carrying) (kept : Kept) (done : List Done) (m : D) (room : ℕ) (command : Command) → length done₀ + most_of t values (turns_of t pulse) ≤ room
      → IsUnderWay c kept done m → Waits t values pulse kept c command → length done < room
  way_room c kept done m room command fits way waits =
      let turn = waits.turn in
      let all : (way.turns ++ turn ∷ []) ++ waits.first.later ≡ turns_of t pulse =
      append_assoc way.turns (turn ∷ []) waits.first.later ∙ ap (λ left. way.turns ++ left) (sym waits.first.is) ∙ way.all
      in
      let parts = sum_by-append (most t values) (way.turns ++ turn ∷ []) waits.first.later in
      let same = ap (most_of t values) all in
      let P : Option Command → Type 0 = λ found. IfSome found (λ _. length done < room) in
      subst P waits.has (Takes-room Does t values way.turns turn kept₀ kept done₀ done m₀ m room (omega (arith, fits, parts, same)) way.takes)

  -- the record is still one in which each unit that isn't marked has the book's value
  pub way_open : ChipLaws → (units : List Unit) (c : Carrying) (kept : Kept) (done : List Done) (m : D) → IsUnderWay c kept done m → IsOpen values pulse units kept₀ → IsOpen values pulse units kept
  way_open laws units c kept done m way opened =
      subst (IsOpen values pulse units) (ap (λ (c : Carried). c.kept) way.takes.planned)
      (plan_open laws t values pulse units way.turns kept₀ (answers_of way.takes.done)
      (Each-front (IsPulseOf pulse) way.turns (turns_left t pulse c) (subst (Each (IsPulseOf pulse)) (sym way.all) (pulses_of t pulse))) opened)
