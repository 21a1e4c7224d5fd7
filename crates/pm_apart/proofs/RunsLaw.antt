-- Two runs over a device that never fails, one without the messages of a master, set beside one another. On a unit
-- beyond its reach, line by line the same commands are given, and in the end its values are equal.
use Rattle.std.proofs.Common.{◌≡◌, ℕ, true, List, [], ◌∷◌, refl, ap, sym, ◌∙◌, subst}
use Rattle.std.specs.Prelude.{filter}
use Rattle.pm_base.specs.declared.events.Event.{Event}
use Rattle.pm_base.specs.declared.names.NodeId.{NodeId}
use Rattle.pm_base.specs.declared.names.Unit.{Unit}
use Rattle.pm_topology.specs.declared.topology.Topology.{Topology}
use Rattle.pm_topology.specs.declared.places.Kind.TheVariants.{Proc}
use Rattle.pm_topology.specs.Units.{has_unit}
use Rattle.pm_topology.specs.WellFormed.{IsWellFormed}
use Rattle.pm_procs.specs.Procs.{mode_at}
use Rattle.pm_state.specs.Load.{load_of}
use Rattle.pm_state.specs.State.{Fixed, State}
use Rattle.pm_core.specs.Step.{effect, outputs_at_load}
use Rattle.pm_state.specs.Values.{value}
use Rattle.pm_run.specs.Run.{Core, IsBookOf, Line, Setup, fixed_of, lines_of, loaded}
use Rattle.pm_laws.specs.Agree.{Agree}
use Rattle.pm_laws.specs.Beside.{AreBeside, no_core, both_cores, left_core, rest_core}
use Rattle.pm_laws.specs.Border.{AreObjects, Border, IsClosed, unit_beyond}
use Rattle.pm_laws.specs.Quiet.{quiet}
use Rattle.pm_laws.specs.ReachBorder.{border_of}
use Rattle.pm_laws.specs.Values.{is_beyond}
use Rattle.pm_laws.specs.Worlds.{AreLinesBeside, AreWorldsBeside}
use Rattle.pm_apply.specs.Part.{Kept, Part, part_of}
use Rattle.pm_record.specs.Record.{IsRecordOf, at_zero, kept_value}
use Rattle.pm_drive.specs.Drive.{Driven, Given, drive, drive_line, driven, give, kept_after, last_book, last_kept}
use Rattle.pm_drive.proofs.DroveLaw.{run_goes}
use Rattle.pm_drive.proofs.DroveLemmas.{AllGo, OfRun, last_after, no_answers}
use Rattle.pm_apart.specs.Apart.{AreDrivenAlike, IsOutOfReach}
use Rattle.pm_apart.specs.Lines.{commands_of, is_on}
use Rattle.pm_apart.proofs.FilterLemmas.{parts_alike}
use Rattle.pm_apart.proofs.PartsLaw.{PartLaws, commands_alike, kept_alike, nothing_kept, nothing_on, part_reached, record_next}

-- the laws of two runs, and of two books that agree beyond the reach of a master
pub record ReachLaws : Type 0 where
  pub beside : (c : Setup) (m : NodeId) (events : List Event) → AreObjects (fixed_of c) → IsWellFormed c.topology → AreWorldsBeside c m events
  pub closed : (fixed : Fixed) (m : NodeId) → AreObjects fixed → IsWellFormed fixed.topology → IsClosed fixed (border_of fixed m)
  pub values : (border : Border) (unit : Unit) (a b : State) → IsClosed a.fixed border
      → is_beyond a.fixed.object a.fixed.topology border unit ≡ true → Agree border a b → value unit a ≡ value unit b
  pub modes : (border : Border) (p : ℕ) (a b : State) → unit_beyond a.fixed.object a.fixed.topology border (Proc p) ≡ true
      → Agree border a b → mode_at p a.now.core.procs ≡ mode_at p b.now.core.procs
  pub load : (c : Setup) → IsWellFormed c.topology → IsBookOf c (loaded c).book
  pub keeps : (c : Setup) (event : Event) (book : State) → IsWellFormed c.topology → IsBookOf c book → IsBookOf c (effect event book)
  pub zero : (t : Topology) → IsRecordOf t (at_zero t)
  pub part : PartLaws

module _ (laws : ReachLaws) (c : Setup) (m : NodeId) (u : Unit) (object : AreObjects (fixed_of c)) (chip : IsWellFormed c.topology)
    (beyond : IsOutOfReach c m u) where
  abbrev border : Border
  border = border_of (fixed_of c) m

  -- two runs are alike: their books agree beyond the reach, and both keep the book's value of the unit
  pub record StandAlike (a b : State) (first second : Kept) : Type 0 where
    pub is_a : IsBookOf c a
    pub is_b : IsBookOf c b
    pub agree : Agree border a b
    pub record_a : IsRecordOf c.topology first
    pub record_b : IsRecordOf c.topology second
    pub kept : kept_value first u ≡ kept_value second u
    pub reached : has_unit c.topology u ≡ true → kept_value second u ≡ value u b

  pub value_beyond : (a b : State) → IsBookOf c a → Agree border a b → value u a ≡ value u b
  value_beyond a b is_a agree =
      let P : Fixed → Type 0 = λ fixed. IsClosed fixed border → is_beyond fixed.object fixed.topology border u ≡ true → value u a ≡ value u b in
      subst P is_a.fixed (λ closed is. laws.values border u a b closed is agree) (laws.closed (fixed_of c) m object chip) beyond

  -- ---- core steps that are beside one another

  abbrev on : List Given → List Given → Type 0
  on given others = filter (is_on u) (commands_of given) ≡ filter (is_on u) (commands_of others)

  pub record CoresAlike (a b : State) (first second : Kept) (xs ys : List Core) : Type 0 where
    pub commands : on (give first [] xs) (give second [] ys)
    pub end : StandAlike (last_after a xs) (last_after b ys) (kept_after first (give first [] xs)) (kept_after second (give second [] ys))

  pub cores_alike : (a b : State) (xs ys : List Core) → AreBeside c m a b xs ys → OfRun c xs → OfRun c ys
      → (first second : Kept) → StandAlike a b first second → CoresAlike a b first second xs ys
  cores_alike _ _ _ _ (no_core a b) of_x of_y first second s = record { commands = refl; end = s }
  cores_alike _ _ _ _ (both_cores a b x y xs ys event from_a from_b agree told later) of_x of_y first second s =
      let p : Part = part_of first [] x.after x.outputs in
      let q : Part = part_of second [] y.after y.outputs in
      let values : value u x.after ≡ value u y.after = value_beyond x.after y.after of_x.0 agree in
      let same : filter (is_on u) p.commands ≡ filter (is_on u) q.commands =
      commands_alike laws.part c chip border first second x.after y.after x.outputs y.outputs of_x.0 of_y.0 s.record_a s.record_b told.pulse u beyond s.kept values
      in
      let rest = cores_alike x.after y.after xs ys later of_x.1 of_y.1 p.kept q.kept (record {
        is_a = of_x.0;
        is_b = of_y.0;
        agree = agree;
        record_a = record_next laws.part c chip first x.after x.outputs of_x.0 s.record_a;
        record_b = record_next laws.part c chip second y.after y.outputs of_y.0 s.record_b;
        kept = kept_alike laws.part c chip border first second x.after y.after x.outputs y.outputs of_x.0 of_y.0 s.record_a s.record_b told.pulse u same s.kept;
        reached = part_reached laws.part c chip second y.after y.outputs of_y.0 s.record_b u;
      }) in
      record {
        commands = parts_alike (is_on u) p.commands (commands_of (give p.kept [] xs)) q.commands (commands_of (give q.kept [] ys)) same rest.commands;
        end = rest.end;
      }
  cores_alike _ _ _ _ (left_core a b x xs ys own from_a agree tells later) of_x of_y first second s =
      let p : Part = part_of first [] x.after x.outputs in
      let none : filter (is_on u) p.commands ≡ [] =
      nothing_on laws.part c chip first x.after x.outputs of_x.0 s.record_a border tells.pulse u beyond
      (λ has. s.kept ∙ (s.reached has ∙ sym (value_beyond x.after b of_x.0 agree)))
      in
      let rest = cores_alike x.after b xs ys later of_x.1 of_y p.kept second (record {
        is_a = of_x.0;
        is_b = s.is_b;
        agree = agree;
        record_a = record_next laws.part c chip first x.after x.outputs of_x.0 s.record_a;
        record_b = s.record_b;
        kept = nothing_kept laws.part c chip first x.after x.outputs of_x.0 s.record_a border tells.pulse u none ∙ s.kept;
        reached = s.reached;
      }) in
      record {
        commands = parts_alike (is_on u) p.commands (commands_of (give p.kept [] xs)) [] (commands_of (give second [] ys)) none rest.commands;
        end = rest.end;
      }
  cores_alike _ _ _ _ (rest_core a b y xs ys pass from_b agree tells later) of_x of_y first second s =
      let q : Part = part_of second [] y.after y.outputs in
      let values : value u a ≡ value u y.after = value_beyond a y.after s.is_a agree in
      let none : filter (is_on u) q.commands ≡ [] =
      nothing_on laws.part c chip second y.after y.outputs of_y.0 s.record_b border tells.pulse u beyond
      (λ has. s.reached has ∙ (sym (value_beyond a b s.is_a s.agree) ∙ values))
      in
      let rest = cores_alike a y.after xs ys later of_x of_y.1 first q.kept (record {
        is_a = s.is_a;
        is_b = of_y.0;
        agree = agree;
        record_a = s.record_a;
        record_b = record_next laws.part c chip second y.after y.outputs of_y.0 s.record_b;
        kept = s.kept ∙ sym (nothing_kept laws.part c chip second y.after y.outputs of_y.0 s.record_b border tells.pulse u none);
        reached = part_reached laws.part c chip second y.after y.outputs of_y.0 s.record_b u;
      }) in
      record {
        commands = parts_alike (is_on u) [] (commands_of (give first [] xs)) q.commands (commands_of (give q.kept [] ys)) (sym none) rest.commands;
        end = rest.end;
      }

  -- ---- all lines

  -- two driven runs that are alike at first are driven alike, and are alike at the end
  pub record EndAlike (a b : State) (first second : Kept) (xs ys : List Driven) : Type 0 where
    pub commands : AreDrivenAlike u xs ys
    pub end : StandAlike (last_book a xs) (last_book b ys) (last_kept first xs) (last_kept second ys)

  -- without answers the lines after a line have none
  drive_more : (kept : Kept) (line : Line) (lines : List Line)
      → drive kept [] (line ∷ lines) ≡ drive_line kept [] line ∷ drive (drive_line kept [] line).kept [] lines
  drive_more kept line lines =
      ap (λ answers. drive_line kept [] line ∷ drive (drive_line kept [] line).kept answers lines) (no_answers line.cores)

  lines_alike : (xs ys : List Line) (a b : State) → AreLinesBeside c m a b xs ys → AllGo c a xs → AllGo c b ys → (first second : Kept)
      → StandAlike a b first second → EndAlike a b first second (drive first [] xs) (drive second [] ys)
  lines_alike [] [] a b beside go_x go_y first second s = record { commands = tt; end = s }
  lines_alike [] (y ∷ ys) a b beside go_x go_y first second s = absurd beside
  lines_alike (x ∷ xs) [] a b beside go_x go_y first second s = absurd beside
  lines_alike (x ∷ xs) (y ∷ ys) a b beside go_x go_y first second s =
      let one = cores_alike a b x.cores y.cores beside.0.cores go_x.0.cores go_y.0.cores first second s in
      let mid : Kept = kept_after first (give first [] x.cores) in
      let next : Kept = kept_after second (give second [] y.cores) in
      let here : StandAlike x.after.book y.after.book mid next =
      subst (λ book. StandAlike book y.after.book mid next) (sym go_x.0.ends)
      (subst (λ book. StandAlike (last_after a x.cores) book mid next) (sym go_y.0.ends) one.end)
      in
      let rest = lines_alike xs ys x.after.book y.after.book beside.1 go_x.1 go_y.1 mid next here in
      let whole : EndAlike a b first second (drive_line first [] x ∷ drive mid [] xs) (drive_line second [] y ∷ drive next [] ys) =
      record { commands = (one.commands, rest.commands); end = rest.end }
      in
      subst (λ ds. EndAlike a b first second ds (drive second [] (y ∷ ys))) (sym (drive_more first x xs))
      (subst (λ ds. EndAlike a b first second (drive_line first [] x ∷ drive mid [] xs) ds) (sym (drive_more second y ys)) whole)

  abbrev load : State
  load = load_of c.object c.attached c.topology

  abbrev start : Kept
  start = at_zero c.topology

  -- both begin with the load
  pub runs_alike : (events : List Event) → EndAlike load load start start (driven c [] events) (driven c [] (quiet m events))
  runs_alike events =
      let p : Part = part_of start [] load (outputs_at_load load) in
      let is : IsBookOf c load = laws.load c chip in
      let keeps : (event : Event) (book : State) → IsBookOf c book → IsBookOf c (effect event book) = λ event book. laws.keeps c event book chip in
      let worlds = laws.beside c m events object chip in
      let kept : IsRecordOf c.topology p.kept = record_next laws.part c chip start load (outputs_at_load load) is (laws.zero c.topology) in
      let rest = lines_alike (lines_of c events (loaded c)) (lines_of c (quiet m events) (loaded c)) load load worlds.lines
      (run_goes c keeps is events).1 (run_goes c keeps is (quiet m events)).1 p.kept p.kept (record {
        is_a = is;
        is_b = is;
        agree = worlds.load;
        record_a = kept;
        record_b = kept;
        kept = refl;
        reached = part_reached laws.part c chip start load (outputs_at_load load) is (laws.zero c.topology) u;
      }) in
      record { commands = (refl, rest.commands); end = rest.end }
