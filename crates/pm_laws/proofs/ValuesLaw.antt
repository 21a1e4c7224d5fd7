-- What is beyond has the same value in two books that agree.
use Rattle.std.proofs.Common.{◌≡◌, ℕ, ◌+◌, Bool, true, false, ◌&&◌, ◌||◌, ◌==◌, cond, List, [], ◌∷◌, slice_get, Option, Some, None, refl, sym, ◌∙◌, ap, subst, arith}
use Rattle.std.specs.Prelude.{fold}
use Rattle.std.specs.List.{list_any, AllByRecursion as Each}
use Rattle.std.proofs.lemmas.Bool.{eqb-true}
use Rattle.std.proofs.lemmas.List.Folds.{list_any-append}
use Rattle.pm_laws.proofs.Common.{Agree, Border, BothFrom, Entry, Fixed, IsClosed, IsWithin, Kind, Mode, Node, Now, Off, Power, Same, SameLine, SameProc, SameRows, Slave, State, Unit, Unknown, chosen, forest, is_awake, is_place, kind_of, line_at, line_beyond, mode_at, need_of, none_within, off, owner_at, proc_child, runs, slave_child, state_at, unit_beyond, value, value_at, value_in}
use Rattle.pm_base.specs.declared.names.Unit.TheVariants.{Line}
use Rattle.pm_base.proofs.Booleans.{equal}
use Rattle.pm_topology.specs.declared.places.Kind.TheVariants.{Proc}
use Rattle.pm_topology.specs.declared.topology.PowerDef.{PowerDef}
use Rattle.pm_topology.specs.declared.topology.ProcDef.{ProcDef}
use Rattle.pm_topology.specs.declared.topology.SlaveDef.{SlaveDef}
use Rattle.pm_topology.specs.Units.{needs_in}
use Rattle.pm_power.specs.declared.child.Child.{Child}
use Rattle.pm_base.specs.Places.{is_place}
use Rattle.pm_power.specs.Forest.{child_needs, is_up, power_needs, ups_from}
use Rattle.pm_procs.specs.declared.procs.Proc.{Proc as Processor}
use Rattle.pm_resets.specs.Resets.{line_value}
use Rattle.pm_rows.specs.declared.wanted.Wanted.{Wanted}
use Rattle.pm_rows.specs.Wanted.{nothing_wanted, wanted_of, with_row}
use Rattle.pm_state.specs.Choice.{state_for}
use Rattle.pm_state.specs.Members.{owns}
use Rattle.pm_state.specs.Values.{line_place, placed}
use Rattle.pm_laws.specs.Values.{is_beyond}
use Rattle.pm_laws.proofs.AgreeLaw.{clash}
use Rattle.pm_laws.proofs.CallsAlike.{book_of}
use Rattle.pm_laws.proofs.FollowLaw.{proc_alike}
use Rattle.pm_laws.proofs.Places.{BothFrom-get, StandsFrom, stands_first, stands_from_start, stands_later}
use Rattle.pm_laws.proofs.WantedLaw.{wanted_alike}

-- ---- slaves

-- a row on no slave adds no requirement
rows_elsewhere : (border : Border) (s : ℕ) (modes : List Mode) → border.slave s ≡ true
    → (wanted : Wanted) (entries : List Entry) → Each (IsWithin border) entries
    → fold (with_row s modes) wanted entries ≡ wanted
rows_elsewhere border s modes beyond wanted [] each = refl
rows_elsewhere border s modes beyond wanted (entry ∷ entries) each =
    ap (λ w. fold (with_row s modes) w entries) (elsewhere (entry.seed.slave == s) refl)
    ∙ rows_elsewhere border s modes beyond wanted entries each.1
  where
    elsewhere : (here : Bool) → (entry.seed.slave == s) ≡ here → with_row s modes wanted entry ≡ wanted
    elsewhere true is = clash (border.slave entry.seed.slave) (ap border.slave (eqb-true entry.seed.slave s is) ∙ beyond) each.0
    elsewhere false is = rw is refl

-- the requirements in force on a slave beyond are equal, whether a master is beyond or none
wanted_beyond : (border : Border) (s : ℕ) (a b : State) (some : Bool) → border.some ≡ some → border.slave s ≡ true → Agree border a b → wanted_of s a.now.core.rows ≡ wanted_of s b.now.core.rows
wanted_beyond border s a b true is beyond agree = wanted_alike border s a b is beyond agree
wanted_beyond border s a b false is beyond agree =
    let P : Bool → Type 0 = λ some. SameRows border some a.now.core.rows.entries b.now.core.rows.entries in
    let within : Each (IsWithin border) a.now.core.rows.entries × Each (IsWithin border) b.now.core.rows.entries = subst P is agree.now.rows in
    rows_elsewhere border s a.now.core.rows.known beyond nothing_wanted a.now.core.rows.entries within.0
    ∙ sym (rows_elsewhere border s b.now.core.rows.known beyond nothing_wanted b.now.core.rows.entries within.1)

-- ---- processors

module _ (fixed : Fixed) (border : Border) (a b : Now) (same : Same fixed border a b) where
  abbrev AreOff : Processor → Processor → Type 0
  AreOff x y = (x.mode ≡ Off) × (y.mode ≡ Off)

  -- a processor of nobody is off
  pub nobody_off : (p : ℕ) → owner_at fixed.object fixed.topology p ≡ None → (mode_at p a.core.procs ≡ Off) × (mode_at p b.core.procs ≡ Off)
  nobody_off p is =
      BothFrom-get (SameProc fixed border) AreOff 0 p p off (omega arith) (refl, refl) (λ x y each. each.nobodys is) a.core.procs b.core.procs same.procs

  -- a processor of a master beyond, or of nobody, has the same mode
  pub mode_same : (p : ℕ) (owner : Option ℕ) → owner_at fixed.object fixed.topology p ≡ owner → none_within border owner ≡ true
      → mode_at p a.core.procs ≡ mode_at p b.core.procs
  mode_same p None is beyond = (nobody_off p is).0 ∙ sym (nobody_off p is).1
  mode_same p (Some m) is beyond =
      let own : owns fixed.object fixed.topology m p ≡ true = ap (is_place m) is ∙ equal m m refl in
      ap (λ (proc : Processor). proc.mode) (proc_alike fixed border m p a b beyond own same)

  runs_alike : (p : ℕ) → none_within border (owner_at fixed.object fixed.topology p) ≡ true → runs a.core p ≡ runs b.core p
  runs_alike p beyond = ap is_awake (mode_same p (owner_at fixed.object fixed.topology p) refl beyond)

-- ---- power nodes and slaves

module _ (fixed : Fixed) (border : Border) (closed : IsClosed fixed border) (a b : Now) (same : Same fixed border a b) where
  slave_wanted : (s : ℕ) → border.slave s ≡ true → wanted_of s a.core.rows ≡ wanted_of s b.core.rows
  slave_wanted s beyond = wanted_beyond border s (book_of fixed a) (book_of fixed b) border.some refl beyond (record { fixed = refl; now = same })

  chosen_alike : (s : ℕ) (slave : SlaveDef) → border.slave s ≡ true → chosen a.core s slave ≡ chosen b.core s slave
  chosen_alike s slave beyond = ap (λ wanted. state_for wanted slave.states) (slave_wanted s beyond)

  state_alike : (s : ℕ) (slave : Option SlaveDef) → border.slave s ≡ true → state_at s slave a.core ≡ state_at s slave b.core
  state_alike s None beyond = refl
  state_alike s (Some slave) beyond = chosen_alike s slave beyond

  -- ---- what needs a power node beyond

  any_placed : {X : Type 0} (test : Child → Bool) (f g : ℕ → X → Child) (whole : List X) (k : ℕ) (xs : List X) → StandsFrom whole k xs
      → ((i : ℕ) (x : X) → slice_get whole i ≡ Some x → test (f i x) ≡ test (g i x))
      → list_any test (placed f k xs) ≡ list_any test (placed g k xs)
  any_placed test f g whole k [] stands each = refl
  any_placed test f g whole k (x ∷ xs) stands each =
      ap (λ t. t || list_any test (placed f (k + 1) xs)) (each k x (stands_first whole k x xs stands))
      ∙ ap (λ t. test (g k x) || t) (any_placed test f g whole (k + 1) xs (stands_later whole k x xs stands) each)

  -- the test of a child of the power node at w
  abbrev needs : ℕ → Child → Bool
  needs w c = (c.parent == w) && c.needs

  slave_needs : (w : ℕ) → border.power w ≡ true → (s : ℕ) (slave : SlaveDef) → slice_get fixed.topology.slaves s ≡ Some slave
      → needs w (slave_child a.core s slave) ≡ needs w (slave_child b.core s slave)
  slave_needs w beyond s slave is = at (slave.parent == w) refl
    where
      at : (here : Bool) → (slave.parent == w) ≡ here → ((slave.parent == w) && need_of a.core s slave) ≡ ((slave.parent == w) && need_of b.core s slave)
      at true here =
          let above : border.power slave.parent ≡ true = ap border.power (eqb-true slave.parent w here) ∙ beyond in
          ap (λ k. (slave.parent == w) && needs_in k slave) (chosen_alike s slave (closed.slaves s slave is above))
      at false here = ap (λ t. t && need_of a.core s slave) here ∙ sym (ap (λ t. t && need_of b.core s slave) here)

  -- the owner of a processor below a power node beyond is beyond, if it has one
  owner_beyond : (p : ℕ) (proc : ProcDef) (owner : Option ℕ) → slice_get fixed.topology.procs p ≡ Some proc → border.power proc.parent ≡ true
      → owner_at fixed.object fixed.topology p ≡ owner → none_within border owner ≡ true
  owner_beyond p proc None is above own = refl
  owner_beyond p proc (Some m) is above own = closed.procs p m proc is above own

  proc_needs : (w : ℕ) → border.power w ≡ true → (p : ℕ) (proc : ProcDef) → slice_get fixed.topology.procs p ≡ Some proc
      → needs w (proc_child a.core p proc) ≡ needs w (proc_child b.core p proc)
  proc_needs w beyond p proc is = at (proc.parent == w) refl
    where
      at : (here : Bool) → (proc.parent == w) ≡ here → ((proc.parent == w) && runs a.core p) ≡ ((proc.parent == w) && runs b.core p)
      at true here =
          let above : border.power proc.parent ≡ true = ap border.power (eqb-true proc.parent w here) ∙ beyond in
          ap (λ t. (proc.parent == w) && t) (runs_alike fixed border a b same p (owner_beyond p proc (owner_at fixed.object fixed.topology p) is above refl))
      at false here = ap (λ t. t && runs a.core p) here ∙ sym (ap (λ t. t && runs b.core p) here)

  children_alike : (w : ℕ) → border.power w ≡ true → child_needs (forest fixed a.core).children w ≡ child_needs (forest fixed b.core).children w
  children_alike w beyond =
      let slaves = fixed.topology.slaves in
      let procs = fixed.topology.procs in
      list_any-append (needs w) (placed (slave_child a.core) 0 slaves) (placed (proc_child a.core) 0 procs)
      ∙ (ap (λ t. t || list_any (needs w) (placed (proc_child a.core) 0 procs))
      (any_placed (needs w) (slave_child a.core) (slave_child b.core) slaves 0 slaves (stands_from_start slaves) (slave_needs w beyond))
      ∙ (ap (λ t. list_any (needs w) (placed (slave_child b.core) 0 slaves) || t)
      (any_placed (needs w) (proc_child a.core) (proc_child b.core) procs 0 procs (stands_from_start procs) (proc_needs w beyond))
      ∙ sym (list_any-append (needs w) (placed (slave_child b.core) 0 slaves) (placed (proc_child b.core) 0 procs))))

  -- ---- power nodes, from the back of the list

  abbrev SameUp : ℕ → Bool → Bool → Type 0
  SameUp k x y = border.power k ≡ true → x ≡ y

  -- a power node below w
  below_alike : (w k : ℕ) (p : PowerDef) (x y : Bool) (parent : Option ℕ) → border.power w ≡ true
      → slice_get fixed.topology.powers k ≡ Some p → p.parent ≡ parent → SameUp k x y
      → (is_place w parent && x) ≡ (is_place w parent && y)
  below_alike w k p x y None beyond there is same_up = refl
  below_alike w k p x y (Some u) beyond there is same_up = at (u == w) refl
    where
      at : (here : Bool) → (u == w) ≡ here → ((u == w) && x) ≡ ((u == w) && y)
      at true here =
          let above : border.power u ≡ true = ap border.power (eqb-true u w here) ∙ beyond in
          ap (λ t. (u == w) && t) (same_up (closed.powers k u p there is above))
      at false here = ap (λ t. t && x) here ∙ sym (ap (λ t. t && y) here)

  powers_alike : (w k : ℕ) (later : List PowerDef) (xs ys : List Bool) → border.power w ≡ true
      → StandsFrom fixed.topology.powers k later → BothFrom SameUp k xs ys → power_needs later xs w ≡ power_needs later ys w
  powers_alike w k [] xs ys beyond stands each = refl
  powers_alike w k (p ∷ later) [] [] beyond stands each = refl
  powers_alike w k (p ∷ later) [] (y ∷ ys) beyond stands each = absurd each
  powers_alike w k (p ∷ later) (x ∷ xs) [] beyond stands each = absurd each
  powers_alike w k (p ∷ later) (x ∷ xs) (y ∷ ys) beyond stands each =
      ap (λ t. t || power_needs later xs w)
      (below_alike w k p x y p.parent beyond (stands_first fixed.topology.powers k p later stands) refl each.0)
      ∙ ap (λ t. (is_place w p.parent && y) || t)
      (powers_alike w (k + 1) later xs ys beyond (stands_later fixed.topology.powers k p later stands) each.1)

  ups_alike : (k : ℕ) (powers : List PowerDef) → StandsFrom fixed.topology.powers k powers
      → BothFrom SameUp k (ups_from (forest fixed a.core).children k powers) (ups_from (forest fixed b.core).children k powers)
  ups_alike k [] stands = tt
  ups_alike k (p ∷ later) stands =
      let stands_on = stands_later fixed.topology.powers k p later stands in
      let first = (forest fixed a.core).children in
      let second = (forest fixed b.core).children in
      let rest = ups_alike (k + 1) later stands_on in (
        λ beyond. ap (λ t. p.held || (t || power_needs later (ups_from first (k + 1) later) k)) (children_alike k beyond)
            ∙ ap (λ t. p.held || (child_needs second k || t))
            (powers_alike k (k + 1) later (ups_from first (k + 1) later) (ups_from second (k + 1) later) beyond stands_on rest),
        rest,
      )

  abbrev SameBool : Bool → Bool → Type 0
  SameBool x y = x ≡ y

  up_alike : (w : ℕ) → border.power w ≡ true → is_up (forest fixed a.core) w ≡ is_up (forest fixed b.core) w
  up_alike w beyond =
      BothFrom-get SameUp SameBool 0 w w false (omega arith) refl (λ x y each. each beyond)
      (ups_from (forest fixed a.core).children 0 fixed.topology.powers) (ups_from (forest fixed b.core).children 0 fixed.topology.powers)
      (ups_alike 0 fixed.topology.powers (stands_from_start fixed.topology.powers))

  -- ---- units

  pub kind_alike : (kind : Kind) → unit_beyond fixed.object fixed.topology border kind ≡ true → value_at kind fixed a.core ≡ value_at kind fixed b.core
  kind_alike (Proc p) beyond = ap (λ t. cond t 1 0) (runs_alike fixed border a b same p beyond)
  kind_alike (Slave s) beyond = state_alike s (slice_get fixed.topology.slaves s) beyond
  kind_alike (Power w) beyond = ap (λ t. cond t 1 0) (up_alike w beyond)
  kind_alike Unknown beyond = refl

  pub line_alike : (place : Option ℕ) → line_beyond border place ≡ true → line_at place a.core.lines ≡ line_at place b.core.lines
  line_alike None beyond = refl
  line_alike (Some l) beyond =
      ap line_value
      (BothFrom-get (SameLine border) SameBool 0 l l false (omega arith) refl (λ x y each. each.beyond beyond) a.core.lines b.core.lines same.lines)

  unit_alike : (unit : Unit) → is_beyond fixed.object fixed.topology border unit ≡ true → value_in fixed a.core unit ≡ value_in fixed b.core unit
  unit_alike (Node node) beyond = kind_alike (kind_of fixed.topology node) beyond
  unit_alike (Line line) beyond = line_alike (line_place line fixed) beyond

-- a unit beyond has the same value in both
pub values_alike : (border : Border) (unit : Unit) (a b : State) → IsClosed a.fixed border
    → is_beyond a.fixed.object a.fixed.topology border unit ≡ true
    → Agree border a b → value unit a ≡ value unit b
values_alike border unit a b closed beyond agree =
    let P : Fixed → Type 0 = λ fixed. value unit a ≡ value_in fixed b.now.core unit in
    subst P agree.fixed (unit_alike a.fixed border closed a.now b.now agree.now unit beyond)

-- a processor beyond has the same mode in both
pub modes_alike : (border : Border) (p : ℕ) (a b : State)
    → unit_beyond a.fixed.object a.fixed.topology border (Proc p) ≡ true
    → Agree border a b → mode_at p a.now.core.procs ≡ mode_at p b.now.core.procs
modes_alike border p a b beyond agree =
    mode_same a.fixed border a.now b.now agree.now p (owner_at a.fixed.object a.fixed.topology p) refl beyond
