-- What a chain of acts shows, and where none of its orders is refused.
use Rattle.std.proofs.Common.{◌≡◌, ℕ, ◌+◌, ◌≤◌, ◌||◌, Bool, true, false, not, cond, inl, inr, List, [], ◌∷◌, ◌++◌, refl, sym, ap, ◌∙◌, subst, arith}
use Rattle.std.proofs.lemmas.Bool.{cases_lt}
use Rattle.std.proofs.lemmas.List.{append-nil, append_assoc}
use Rattle.pm_base.specs.declared.names.Command.{Command}
use Rattle.pm_base.specs.declared.names.NodeId.{NodeId}
use Rattle.pm_base.specs.declared.names.Unit.{Unit}
use Rattle.pm_base.specs.declared.names.Unit.TheVariants.{Node, Line}
use Rattle.pm_device.specs.Act.{Act, Order, Rig, Fit, AllMatch, AreHarmless, Chain, Counts, Matches, Shows, ShowsAll, refused, refusals, shown_after, shown_by, value_by}
use Rattle.pm_base.specs.Faults.{Rose}
use Rattle.pm_topology.specs.declared.topology.Topology.{Topology}
use Rattle.pm_device.specs.Fresh.{IsWhole}
use Rattle.pm_device.specs.Chains.{values_after-same}
use Rattle.pm_topology.specs.Units.{has_unit}
use Rattle.pm_device.specs.Device.{DeviceMoment, RoseBy, fails, is_broken, rigged}

-- ---- moments that show the same

record SameNodes (a b : DeviceMoment) : Type 0 where
  units : (unit : Unit) → a.has unit ≡ b.has unit
  broken : a.broken ≡ b.broken

after-nodes : (act : Act) (a b : DeviceMoment) → SameNodes a b → SameNodes (shown_after act a) (shown_after act b)
after-nodes (Order command ok) a b same = record { units = same.units; broken = same.broken }
after-nodes (Rig node broken) a b same = record {
  units = same.units;
  broken =
      ap (λ has. cond has (rigged node.0 broken a.broken) a.broken) (same.units (Node node))
      ∙ ap (λ nodes. cond (b.has (Node node)) (rigged node.0 broken nodes) nodes) same.broken;
}
after-nodes (Fit chip) a b same = record { units = λ unit. refl; broken = refl }

by-nodes : (acts : List Act) (a b : DeviceMoment) → SameNodes a b → SameNodes (shown_by acts a) (shown_by acts b)
by-nodes [] a b same = same
by-nodes (act ∷ acts) a b same = by-nodes acts (shown_after act a) (shown_after act b) (after-nodes act a b same)

fails-same : (a b : DeviceMoment) (unit : Unit) → SameNodes a b → fails a unit ≡ fails b unit
fails-same a b unit same =
    ap (λ has. not has || is_broken a.broken unit) (same.units unit) ∙ ap (λ nodes. not (b.has unit) || is_broken nodes unit) same.broken

matches-same : (act : Act) (a b : DeviceMoment) → SameNodes a b → Matches act a → Matches act b
matches-same (Order command ok) a b same matches = matches ∙ ap not (fails-same a b command.unit same)
matches-same (Rig node broken) a b same matches = tt
matches-same (Fit chip) a b same matches = tt

all_match-same : (acts : List Act) (a b : DeviceMoment) → SameNodes a b → AllMatch acts a → AllMatch acts b
all_match-same [] a b same all = tt
all_match-same (act ∷ acts) a b same all =
    (matches-same act a b same all.0, all_match-same acts (shown_after act a) (shown_after act b) (after-nodes act a b same) all.1)

-- ---- what a chain shows

counts-later : (act : Act) (before now : ℕ) → Counts act before now → before ≤ now
counts-later (Order command ok) before now counts = counts.0
counts-later (Rig node broken) before now counts = omega arith
counts-later (Fit chip) before now counts = omega arith

counts-refused : (act : Act) (before now : ℕ) → Counts act before now → RoseBy (refused act) before now
counts-refused (Order command ok) before now counts = counts.1
counts-refused (Rig node broken) before now counts = omega arith
counts-refused (Fit chip) before now counts = omega arith

rose-none : (count : ℕ) → RoseBy 0 count count
rose-none count = omega arith

rose-both : (before middle now first second : ℕ) → RoseBy first before middle → RoseBy second middle now → RoseBy (first + second) before now
rose-both before middle now first second one two = omega arith

module _ {D : Type 0} (values_observable nodes_observable : Type 0) (Does : Act → D → D → Type 0) (state : D → DeviceMoment)
    (shows : (act : Act) (old new : D) → Does act old new → Shows values_observable nodes_observable act (state old) (state new)) where
  shows_none : (now : DeviceMoment) → ShowsAll values_observable nodes_observable [] now now
  shows_none now = record {
    later = omega arith;
    counted = rose-none now.faults;
    values = λ seen unit. refl;
    units = λ seen unit. refl;
    broken = λ seen. refl;
    matched = λ seen. tt;
    rising = λ seen rising. rising;
  }

  shows_more : (act : Act) (acts : List Act) (old next new : DeviceMoment)
      → Shows values_observable nodes_observable act old next
      → ShowsAll values_observable nodes_observable acts next new
      → ShowsAll values_observable nodes_observable (act ∷ acts) old new
  shows_more act acts old next new one all =
      let first : old.faults ≤ next.faults = counts-later act old.faults next.faults one.counted in
      let second : next.faults ≤ new.faults = all.later in
      let nodes : nodes_observable → SameNodes next (shown_after act old) = λ seen. record { units = one.units seen; broken = one.broken seen } in
      record {
        later = omega arith;
        counted = rose-both old.faults next.faults new.faults (refused act) (refusals acts) (counts-refused act old.faults next.faults one.counted) all.counted;
        values = λ seen unit. all.values seen unit ∙ values_after-same acts next.value (value_by act old.value) (one.values seen) unit;
        units = λ seen unit. all.units seen unit ∙ (by-nodes acts next (shown_after act old) (nodes seen)).units unit;
        broken = λ seen. all.broken seen ∙ (by-nodes acts next (shown_after act old) (nodes seen)).broken;
        matched = λ seen. (one.matches seen, all_match-same acts next (shown_after act old) (nodes seen) (all.matched seen));
        rising = λ seen before. all.rising seen (one.rising seen);
      }

  pub chain_shows : (acts : List Act) (old new : D) → Chain Does acts old new → ShowsAll values_observable nodes_observable acts (state old) (state new)
  chain_shows [] old new chain =
      let P : D → Type 0 = λ d. ShowsAll values_observable nodes_observable [] (state old) (state d) in
      subst P chain (shows_none (state old))
  chain_shows (act ∷ acts) old new chain =
      shows_more act acts (state old) (state chain.0) (state new) (shows act old chain.0 chain.1) (chain_shows acts chain.0 new chain.2)

-- ---- a chain is logged

-- where each act is added to a log, a chain of acts is
pub chain_logged : {D : Type 0} (Does : Act → D → D → Type 0) (log : D → List Act)
    → ((act : Act) (old new : D) → Does act old new → log new ≡ log old ++ act ∷ [])
    → (acts : List Act) (old new : D) → Chain Does acts old new → log new ≡ log old ++ acts
chain_logged Does log logs [] old new chain = ap log (sym chain) ∙ sym (append-nil (log old))
chain_logged Does log logs (act ∷ acts) old new chain =
    chain_logged Does log logs acts chain.0 new chain.2
    ∙ ap (λ before. before ++ acts) (logs act old chain.0 chain.1)
    ∙ append_assoc (log old) (act ∷ []) acts

-- ---- where no order is refused

-- the count didn't rise
not_counted : (by before now : ℕ) → RoseBy by before now → (Rose before now → ⊥) → by ≡ 0
not_counted by before now rose still = elim (cases_lt 0 by) [
  | inl some ↦ absurd (still (omega arith))
  | inr none ↦ omega arith
]

none_broken : (unit : Unit) → is_broken [] unit ≡ false
none_broken (Node node) = refl
none_broken (Line line) = refl

-- a device that is whole refuses no order on a unit of the chip
passes : (t : Topology) (now : DeviceMoment) (unit : Unit) → IsWhole t now → has_unit t unit ≡ true → fails now unit ≡ false
passes t now unit whole has =
    ap (λ nodes. not (now.has unit) || is_broken nodes unit) whole.broken
    ∙ ap (λ has. not has || is_broken [] unit) (whole.units unit has)
    ∙ none_broken unit

stays_whole : (t : Topology) (node : NodeId) (now : DeviceMoment) → IsWhole t now → IsWhole t (shown_after (Rig node false) now)
stays_whole t node now whole = record {
  units = whole.units;
  broken =
      ap (λ nodes. cond (now.has (Node node)) (rigged node.0 false nodes) nodes) whole.broken ∙ either (now.has (Node node));
} where
  either : (has : Bool) → cond has (rigged node.0 false []) [] ≡ []
  either true = refl
  either false = refl

-- and one that is fitted to the chip is whole
fitted_whole : (t chip : Topology) (now : DeviceMoment) → chip ≡ t → IsWhole t (shown_after (Fit chip) now)
fitted_whole t chip now is = record { units = λ unit has. ap (λ (c : Topology). has_unit c unit) is ∙ has; broken = refl }

taken : (command : Command) (ok : Bool) → ok ≡ true → refused (Order command ok) ≡ 0
taken command true is = refl
taken command false is = cc

none_refused : (t : Topology) (acts : List Act) (now : DeviceMoment) → IsWhole t now → AreHarmless t acts → AllMatch acts now → refusals acts ≡ 0
none_refused t [] now whole harmless all = refl
none_refused t (Order command ok ∷ acts) now whole harmless all =
    let first : refused (Order command ok) ≡ 0 = taken command ok (all.0 ∙ ap not (passes t now command.unit whole harmless.0)) in
    let still : IsWhole t (shown_after (Order command ok) now) = record { units = whole.units; broken = whole.broken } in
    let later : refusals acts ≡ 0 = none_refused t acts (shown_after (Order command ok) now) still harmless.1 all.1 in
    omega arith
none_refused t (Rig node broken ∷ acts) now whole harmless all =
    let P : Bool → Type 0 = λ b. IsWhole t (shown_after (Rig node b) now) in
    let later : refusals acts ≡ 0 = none_refused t acts (shown_after (Rig node broken) now) (subst P (sym harmless.0) (stays_whole t node now whole)) harmless.1 all.1 in
    omega arith
none_refused t (Fit chip ∷ acts) now whole harmless all =
    let later : refusals acts ≡ 0 = none_refused t acts (shown_after (Fit chip) now) (fitted_whole t chip now harmless.0) harmless.1 all.1 in
    omega arith

module _ {D : Type 0} (values_observable nodes_observable : Type 0) (Does : Act → D → D → Type 0) (state : D → DeviceMoment)
    (shows : (act : Act) (old new : D) → Does act old new → Shows values_observable nodes_observable act (state old) (state new)) where
  pub unrefused_still : (acts : List Act) (old new : D) → Chain Does acts old new → (Rose (state old).faults (state new).faults → ⊥) → refusals acts ≡ 0
  unrefused_still acts old new chain still =
      let all = chain_shows values_observable nodes_observable Does state shows acts old new chain in
      not_counted (refusals acts) (state old).faults (state new).faults all.counted still

  pub unrefused_whole : (t : Topology) (acts : List Act) (old new : D) → Chain Does acts old new → nodes_observable → IsWhole t (state old) → AreHarmless t acts → refusals acts ≡ 0
  unrefused_whole t acts old new chain seen whole harmless =
      let all = chain_shows values_observable nodes_observable Does state shows acts old new chain in
      none_refused t acts (state old) whole harmless (all.matched seen)

-- ---- acts behind others

pub refusals-append : (first second : List Act) → refusals (first ++ second) ≡ refusals first + refusals second
refusals-append [] second = omega arith
refusals-append (act ∷ first) second = let later : refusals (first ++ second) ≡ refusals first + refusals second = refusals-append first second in omega arith

pub shown_by-append : (first second : List Act) (now : DeviceMoment) → shown_by (first ++ second) now ≡ shown_by second (shown_by first now)
shown_by-append [] second now = refl
shown_by-append (act ∷ first) second now = shown_by-append first second (shown_after act now)

pub AllMatch-append : (first second : List Act) (now : DeviceMoment) → AllMatch (first ++ second) now → AllMatch first now × AllMatch second (shown_by first now)
AllMatch-append [] second now all = (tt, all)
AllMatch-append (act ∷ first) second now all =
    let later = AllMatch-append first second (shown_after act now) all.1 in
    ((all.0, later.0), later.1)

pub AreHarmless-append : (t : Topology) (first second : List Act) → AreHarmless t first → AreHarmless t second → AreHarmless t (first ++ second)
AreHarmless-append t [] second one two = two
AreHarmless-append t (Order command ok ∷ first) second one two = (one.0, AreHarmless-append t first second one.1 two)
AreHarmless-append t (Rig node broken ∷ first) second one two = (one.0, AreHarmless-append t first second one.1 two)
AreHarmless-append t (Fit chip ∷ first) second one two = (one.0, AreHarmless-append t first second one.1 two)
