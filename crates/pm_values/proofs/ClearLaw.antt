-- If a step wrote down no slave, no processor and no reset line, all that is kept is right, and nothing happened.
use Rattle.std.proofs.Common.{◌≡◌, ℕ, ◌+◌, ◌<◌, ◌==◌, ◌||◌, Bool, true, false, not, nat_lt, cond, List, [], ◌∷◌, ◌++◌, length, slice_get, Option, Some, None, refl, zero, suc, arith, ap, sym, ◌∙◌, subst, inl, inr}
use Rattle.std.proofs.lemmas.Bool.Decides.{nat_tests}
use Rattle.std.proofs.lemmas.Option.{slice_get_within}
use Rattle.pm_base.proofs.Searches.{position-first}
use Rattle.pm_base.specs.declared.names.NodeId.{NodeId}
use Rattle.pm_base.specs.declared.names.Unit.{Unit}
use Rattle.pm_base.specs.declared.names.Unit.TheVariants.{Node, Line}
use Rattle.pm_topology.specs.declared.places.Kind.{Kind}
use Rattle.pm_topology.specs.declared.places.Kind.TheVariants.{Proc, Slave, Power, Unknown}
use Rattle.pm_topology.specs.declared.topology.LineDef.{LineDef}
use Rattle.pm_topology.specs.declared.topology.ProcDef.{ProcDef}
use Rattle.pm_topology.specs.declared.topology.SlaveDef.{SlaveDef}
use Rattle.pm_topology.specs.declared.topology.Topology.{Topology}
use Rattle.pm_topology.specs.Places.{IsKind, KindLaws, kind_of, line_place}
use Rattle.pm_topology.specs.Units.{needs_in}
use Rattle.pm_power.specs.Forest.{is_up}
use Rattle.pm_power.specs.Needs.{child}
use Rattle.pm_procs.specs.Modes.{is_awake}
use Rattle.pm_resets.specs.Resets.{line_value}
use Rattle.pm_state.specs.Changes.{HasPlaces, Keeps, Listed, Written, is_in, is_listed}
use Rattle.pm_state.specs.State.{CoreHalf, State}
use Rattle.pm_state.specs.Units.{units}
use Rattle.pm_state.specs.Values.{chosen, forest, line_at, need_of, placed, proc_child, run_of, runs, slave_child, state_at, value, value_at}
use Rattle.pm_values.specs.declared.caches.Caches.{Caches}
use Rattle.pm_values.specs.Along.{Trail, down_logged, is_down}
use Rattle.pm_values.specs.Behind.{IsBehind, IsClear, with_core}
use Rattle.pm_values.specs.Caches.{AreKept, use_of}
use Rattle.pm_values.proofs.BringLaw.{chosen_same, use_same}
use Rattle.pm_values.proofs.MovesLemmas.{valued_same}
use Rattle.pm_values.proofs.RestLaw.{IsAtRest, none_left, there}

not_listed : (places : Listed) (k : ℕ) → places.list ≡ [] → k < places.count → is_listed k places ≡ false
not_listed places k none within =
    let inside : nat_lt k places.count ≡ true = grind (arith, nat_tests) in
    ap (λ b. not b || is_in k places.list) inside ∙ ap (is_in k) none

placed_same : {X Y : Type 0} (f g : ℕ → X → Y) (k : ℕ) (xs : List X) → ((i at : ℕ) (x : X) → at ≡ k + i → slice_get xs i ≡ Some x → f at x ≡ g at x) → placed f k xs ≡ placed g k xs
placed_same f g k [] same = refl
placed_same f g k (x ∷ xs) same =
    ap (λ y. y ∷ placed f (k + 1) xs) (same zero k x (omega arith) refl)
    ∙ ap (λ ys. g k x ∷ ys) (placed_same f g (k + 1) xs (λ i at y is here. same (suc i) at y (omega (arith, is)) here))

-- by the first place on
placed_alike : {X Y : Type 0} (f g : ℕ → X → Y) (xs : List X) → ((i : ℕ) (x : X) → slice_get xs i ≡ Some x → f i x ≡ g i x) → placed f 0 xs ≡ placed g 0 xs
placed_alike f g xs same =
    placed_same f g 0 xs (λ i at x is here. let place : i ≡ at = omega (arith, is) in same at x (ap (slice_get xs) (sym place) ∙ here))

module _ (w : Written) (book : State) (before : CoreHalf) (keeps : Keeps w before book.now.core) (places : HasPlaces book.fixed w) (clear : IsClear w) where
  slave_clear : (s : ℕ) (slave : SlaveDef) → slice_get book.fixed.topology.slaves s ≡ Some slave → is_listed s w.slaves ≡ false
  slave_clear s slave at =
      let within : s < length book.fixed.topology.slaves = slice_get_within book.fixed.topology.slaves s slave at in
      not_listed w.slaves s clear.slaves (omega (arith, within, places.slaves))

  same_state : (s : ℕ) (slave : SlaveDef) → slice_get book.fixed.topology.slaves s ≡ Some slave → chosen before s slave ≡ chosen book.now.core s slave
  same_state s slave at = chosen_same w before book.now.core keeps s slave (slave_clear s slave at)

  same_run : (p : ℕ) → p < length book.fixed.topology.procs → runs before p ≡ runs book.now.core p
  same_run p within = ap (λ proc. is_awake proc.mode) (sym (keeps.procs p (not_listed w.procs p clear.procs (omega (arith, within, places.procs)))))

  same_runs : (p : ℕ) (proc : ProcDef) → slice_get book.fixed.topology.procs p ≡ Some proc → runs before p ≡ runs book.now.core p
  same_runs p proc at = same_run p (slice_get_within book.fixed.topology.procs p proc at)

  same_forest : forest book.fixed before ≡ forest book.fixed book.now.core
  same_forest =
      let t : Topology = book.fixed.topology in
      ap (λ cs. record { powers = t.powers; children = cs ++ placed (proc_child before) 0 t.procs })
      (placed_alike (slave_child before) (slave_child book.now.core) t.slaves (λ s slave at. ap (λ n. child slave.node slave.parent (needs_in n slave)) (same_state s slave at)))
      ∙ ap (λ cs. record { powers = t.powers; children = placed (slave_child book.now.core) 0 t.slaves ++ cs })
      (placed_alike (proc_child before) (proc_child book.now.core) t.procs (λ p proc at. ap (child proc.node proc.parent) (same_runs p proc at)))

  -- ---- the value of each unit

  same_at : (s : ℕ) (slave : Option SlaveDef) → slice_get book.fixed.topology.slaves s ≡ slave → state_at s slave before ≡ state_at s slave book.now.core
  same_at s None at = refl
  same_at s (Some slave) at = same_state s slave at

  same_kind : (node : NodeId) (kind : Kind) → IsKind book.fixed.topology node kind → value_at kind book.fixed before ≡ value_at kind book.fixed book.now.core
  same_kind node (Slave s) is = same_at s (slice_get book.fixed.topology.slaves s) refl
  same_kind node (Power p) is = ap (λ f. cond (is_up f p) 1 0) same_forest
  same_kind node (Proc p) is = ap (λ b. cond b 1 0) (same_run p (there book.fixed.topology node p is))
  same_kind node Unknown is = refl

  same_line : (place : Option ℕ) (number : ℕ) → line_place book.fixed.topology.lines number ≡ place → line_at place before.lines ≡ line_at place book.now.core.lines
  same_line None number is = refl
  same_line (Some l) number is =
      let lines : List LineDef = book.fixed.topology.lines in
      let found = position-first (λ (line : LineDef). line.line.0 == number) lines l is in
      let within : l < length lines = slice_get_within lines l found.element found.here in
      ap line_value (sym (keeps.lines l (not_listed w.lines l clear.lines (omega (arith, within, places.lines)))))

  same_value : KindLaws → (unit : Unit) → value unit (with_core before book) ≡ value unit book
  same_value laws (Node node) = same_kind node (kind_of book.fixed.topology node) (laws.is book.fixed.topology node)
  same_value laws (Line line) = same_line (line_place book.fixed.topology.lines line.0) line.0 refl

-- ---- all of it

pub clear_kept : KindLaws → (w : Written) (book : State) (caches : Caches) → IsBehind w book caches → IsClear w → AreKept book caches
clear_kept laws w book caches behind clear =
    let before : CoreHalf = behind.before in
    let core : CoreHalf = book.now.core in
    let t : Topology = book.fixed.topology in
    let kept = behind.kept in
    record {
      kinds = kept.kinds;
      states = kept.states
          ∙ placed_alike (chosen before) (chosen core) t.slaves (λ s slave at. same_state w book before behind.keeps behind.places clear s slave at);
      needs = kept.needs
          ∙ placed_alike (need_of before) (need_of core) t.slaves
          (λ s slave at. ap (λ n. needs_in n slave) (same_state w book before behind.keeps behind.places clear s slave at));
      runs = kept.runs
          ∙ placed_alike (run_of before) (run_of core) t.procs (λ p proc at. same_runs w book before behind.keeps behind.places clear p proc at);
      used = kept.used
          ∙ placed_alike (use_of before) (use_of core) t.slaves
          (λ s slave at. use_same w before core behind.keeps s slave (slave_clear w book before behind.keeps behind.places clear s slave at));
      power = kept.power ∙ same_forest w book before behind.keeps behind.places clear;
      values = kept.values
          ∙ valued_same (λ u. value u (with_core before book)) (λ u. value u book) (same_value w book before behind.keeps behind.places clear laws) (units book);
    }

or_none : (b : Bool) → (b || false) ≡ b
or_none true = refl
or_none false = refl

pub clear_rests : KindLaws → (w : Written) (book : State) (along : Trail) (caches : Caches) → IsBehind w book caches → IsClear w
    → ((p : ℕ) → p < length book.fixed.topology.procs → down_logged p along.downs ≡ is_down book p)
    → IsAtRest book along caches
clear_rests laws w book along caches behind clear downs =
    let kept : AreKept book caches = clear_kept laws w book caches behind clear in
    record { kinds = kept.kinds; values = kept.values; freed = none_left book caches kept; downs = λ p within. downs p within ∙ sym (or_none (is_down book p)) }
