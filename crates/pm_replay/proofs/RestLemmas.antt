-- What comes after the lines of a script, and step 0 before them.
use Rattle.std.proofs.Common.{◌≡◌, ℕ, ◌+◌, ◌<◌, ◌≤◌, Bool, true, false, List, [], ◌∷◌, ◌++◌, length, Option, Some, None, Result, Ok, Err, if◌then◌else◌, suc, refl, sym, ◌∙◌, ap, subst, arith, take_all}
use Rattle.std.specs.Prelude.{◌&&◌, IfOk, flat_map, is_some, map, nat_lt, not, option_to_list}
use Rattle.std.specs.List.{concat}
use Rattle.std.proofs.lemmas.Bool.Decides.{nat_tests}
use Rattle.std.proofs.lemmas.List.{append_assoc, append-nil, length-append}
use Rattle.std.proofs.lemmas.Option.{slice_get_within}
use Rattle.pm_base.specs.declared.errors.Exit.{Exit}
use Rattle.pm_base.specs.declared.errors.Exit.TheVariants.{WriteFault}
use Rattle.pm_base.specs.declared.events.Event.{Event}
use Rattle.pm_base.specs.declared.events.Event.TheVariants.{Pass}
use Rattle.pm_io.specs.declared.prefix.StopReason.{StopReason}
use Rattle.pm_io.specs.declared.prefix.StopReason.TheVariants as reason
use Rattle.pm_io.specs.declared.sink.Sink as Sink
use Rattle.pm_io.specs.Sink.{Wrote}
use Rattle.pm_io.specs.Writing.{BreaksIn, Leaves}
use Rattle.pm_io.proofs.SinkLemmas.{Wrote-is}
use Rattle.pm_object.specs.declared.attached.Attached.{Attached}
use Rattle.pm_object.specs.declared.object.Object.{Object}
use Rattle.pm_topology.specs.declared.topology.Topology.{Topology}
use Rattle.pm_device.specs.declared.device.Device as Device
use Rattle.pm_device.specs.Act.{Act, Chain}
use Rattle.pm_device.specs.Chains.{Chain-append}
use Rattle.pm_board.specs.Board.{Standing, board_after}
use Rattle.pm_state.specs.Load.{load_of}
use Rattle.pm_core.specs.Outbox.{Holds}
use Rattle.pm_clock_tree.specs.declared.clock_tree.ClockChange.{ClockChange}
use Rattle.pm_clock_tree.specs.declared.table.ClockDef.{ClockDef}
use Rattle.pm_clock_tree.specs.Followed.{followed}
use Rattle.pm_clock_tree.specs.Table.{clock_place, clocks}
use Rattle.pm_clock_tree.specs.Told.{Clocked, change, change_at, same as alike}
use Rattle.pm_clock_tree.specs.Tree.{Tree, running, runs}
use Rattle.pm_clocks.specs.Clocked.{tree_of, view_of}
use Rattle.pm_split.specs.Boxes.{Boxes}
use Rattle.pm_split.specs.Split.{Note}
use Rattle.pm_run.specs.Run.{Setup, core_0, line_0, lines_of, loaded as at_load, setup, setup_of}
use Rattle.pm_state.specs.State.{State}
use Rattle.pm_core.specs.Step.{outputs_at_load}
use Rattle.pm_apply.specs.Part.{Kept, Part, answers_in, orders_in, part_in, part_of}
use Rattle.pm_record.specs.Record.{at_zero}
use Rattle.pm_reader.specs.declared.follow.LineStop.TheVariants as stops
use Rattle.pm_script.specs.declared.meaning.LineFault.{LineFault}
use Rattle.pm_script.specs.Script.{Script, Stop, stop_of}
use Rattle.pm_trace.specs.declared.faults.Fault.{Fault}
use Rattle.pm_trace.specs.declared.faults.Fault.TheVariants.{Line}
use Rattle.pm_trace.specs.Faults.{exit_after}
use Rattle.pm_trace.specs.Report.{Report, Reports, exit_of, fault_lines, pieces, refusal}
use Rattle.pm_trace.specs.Step.{Notices, core_text, notices_in, notices_of, step_text}
use Rattle.pm_drive.specs.Drive.{Driven, Given, acts, acts_of, drive, driven, last_book, last_kept, until}
use Rattle.pm_drive.specs.Clocks.{clock_note, clock_notes, clocked_by, first_tree, last_tree, table_text, tree_along, turned}
use Rattle.pm_drive.specs.Completed.{completed_by, completed_in, last_board}
use Rattle.pm_drive.specs.Text.{closing_after, texts}
use Rattle.pm_trace.specs.Notes.{notes_text}
use Rattle.pm_trace.specs.Scripts.{at_end, fault_at}
use Rattle.pm_replay.specs.Replay.{run_report}
use Rattle.pm_engine.specs.Progress.{AreOf, Progress}
use Rattle.pm_replay.specs.Within.{IsLoaded, RanLines, RanRest, RanScript, Started, Went, closing_report, driven_from, completed_from, report_from, table_from}
use Rattle.pm_replay.proofs.DriveLemmas.{until-cons}
use Rattle.pm_replay.proofs.LeavesLemmas.{Leaves-append, Leaves-before, behind}

-- ---- reports behind pieces that were written

-- a report with some pieces before it
abbrev pub report_after : List (List ℕ) → Report → Report
report_after done r = record { body = done ++ r.body; fault = r.fault }

pub exit-after : (done : List (List ℕ)) (r : Report) (cut : Option ℕ) → exit_of (report_after done r) (behind (length done) cut) ≡ exit_of r cut
exit-after done r None = refl
exit-after done r (Some k) =
    ap (λ (b : Bool). if b then WriteFault else exit_after r.fault) (same (length done) k (length r.body) (length (done ++ r.body)) (length-append done r.body))
  where
    same : (m k n all : ℕ) → all ≡ m + n → nat_lt (m + k) all ≡ nat_lt k n
    same m k n all is = grind (arith, nat_tests)

module _ {O : Type 0} (o : Sink.Ghosts O) where
  pub left-after : (done : List (List ℕ)) (r : Report) (cut : Option ℕ) (first mid last : O) → Wrote o.observable (concat done) (o.state first) (o.state mid) → Leaves o (pieces r) cut mid last → Leaves o (pieces (report_after done r)) (behind (length done) cut) first last
  left-after done r cut first mid last before after =
      subst (λ (all : List (List ℕ)). Leaves o all (behind (length done) cut) first last) (sym (append_assoc done r.body (fault_lines r.fault))) (Leaves-append o done (pieces r) cut first mid last before after)

  -- the sink broke off within the closing table
  pub Reports-cut : (table : List ℕ) (old new : O) → BreaksIn o 0 (table ∷ []) old new → Reports o (record { body = table ∷ []; fault = None }) old new WriteFault
  Reports-cut table old new breaks = record { cut = Some 0; left = breaks; ends = refl }

-- ---- what was driven before a cut that comes later

-- what is told of lines are as many
length-completed : (n : ℕ) (board : Standing) (xs : List Driven) → length (texts n (completed_by board xs)) ≡ length xs
length-completed n board [] = refl
length-completed n board (x ∷ xs) = ap suc (length-completed (n + 1) (board_after x.line.event board) xs)

length-clocked : (tree : Tree) (xs : List Driven) → length (clocked_by tree xs) ≡ length xs
length-clocked tree [] = refl
length-clocked tree (x ∷ xs) = ap suc (length-clocked (tree_along x.cores tree) xs)

length-told : (n : ℕ) (board : Standing) (tree : Tree) (xs : List Driven) → length (texts n (completed_by board (clocked_by tree xs))) ≡ length xs
length-told n board tree xs = length-completed n board (clocked_by tree xs) ∙ length-clocked tree xs

pub until-past : {X : Type 0} (m : ℕ) (cut : Option ℕ) (xs : List X) → length xs ≤ m → until (behind m cut) xs ≡ xs
until-past m None xs long = refl
until-past m (Some k) xs long = take_all (m + k + 1) xs (omega arith)

-- the number of a line is told for a bad one alone
fault-anywhere : (m n : ℕ) (r : StopReason) → fault_at m (stop_of r) ≡ fault_at n (stop_of r)
fault-anywhere m n reason.End = refl
fault-anywhere m n reason.Limit = refl
fault-anywhere m n reason.Failure = refl
fault-anywhere m n reason.Unbegun = refl

-- a property of a result, if there is one
pub in_ok : {A E : Type 0} (P : A → Type 0) (made : Result A E) (it : A) → made ≡ Ok it → IfOk made P → P it
in_ok {A} {E} P made it is holds = subst (λ (r : Result A E). IfOk r P) is holds

-- the book of an object at load, a device that took nothing yet, and what the load puts out
pub is_loaded : (c : Progress) (object : Object) (attached : List Attached) (topology : Topology) → c.book ≡ load_of object attached topology → c.kept ≡ at_zero topology → c.boxes ≡ (at_load (setup object attached topology)).boxes → Holds (outputs_at_load c.book) c.outbox → AreOf c.book c.clocks → IsLoaded c
is_loaded c object attached topology book kept boxes out clocks = record {
  book = subst (λ (b : State). b ≡ load_of b.fixed.object b.fixed.attached b.fixed.topology) (sym book) refl;
  kept = kept ∙ ap (λ (b : State). at_zero b.fixed.topology) (sym book);
  boxes = boxes ∙ ap (λ (b : State). (at_load (setup_of b)).boxes) (sym book);
  clocks = clocks;
  out = out;
}

pub setup_loaded : (book : State) (object : Object) (attached : List Attached) (topology : Topology) → book ≡ load_of object attached topology → setup_of book ≡ setup object book.fixed.attached topology
setup_loaded book object attached topology is = subst (λ (b : State). setup_of b ≡ setup object b.fixed.attached topology) (sym is) refl

-- so, if all of it was made
pub load_made : {E : Type 0} (made : Result Progress E) (now : Progress) (object : Object) (attached : List Attached) (t : Topology) → made ≡ Ok now
    → IfOk made (λ (c : Progress). c.book ≡ load_of object attached t) → IfOk made (λ (c : Progress). c.kept ≡ at_zero t)
    → IfOk made (λ (c : Progress). c.boxes ≡ (at_load (setup object attached t)).boxes) → IfOk made (λ (c : Progress). Holds (outputs_at_load c.book) c.outbox)
    → IfOk made (λ (c : Progress). AreOf c.book c.clocks) → IsLoaded now
load_made made now object attached t is book kept boxes out clocks =
    is_loaded now object attached t
    (in_ok (λ (c : Progress). c.book ≡ load_of object attached t) made now is book)
    (in_ok (λ (c : Progress). c.kept ≡ at_zero t) made now is kept)
    (in_ok (λ (c : Progress). c.boxes ≡ (at_load (setup object attached t)).boxes) made now is boxes)
    (in_ok (λ (c : Progress). Holds (outputs_at_load c.book) c.outbox) made now is out)
    (in_ok (λ (c : Progress). AreOf c.book c.clocks) made now is clocks)

-- the tree at load is that of the book
tree_at_load : (now : Progress) → IsLoaded now → now.clocks.tree ≡ first_tree (setup_of now.book)
tree_at_load now loaded = ap (λ (it : Clocked). it.tree) loaded.clocks.are ∙ ap (λ (b : State). tree_of b) loaded.book

-- if the tree is as it was told, no clock has started or stopped
unchanged : (on there : Bool) (number : ℕ) → (if there && not (alike on on) then Some (change number on on) else None) ≡ None
unchanged on false number = refl
unchanged true true number = refl
unchanged false true number = refl

none_turned : (tree : Tree) → turned tree tree ≡ []
none_turned tree = by clocks
  where
    it : Clocked
    it = record { tree = tree; told = running tree }

    by : (defs : List ClockDef) → flat_map (λ (def : ClockDef). option_to_list (change_at def.number it)) defs ≡ []
    by [] = refl
    by (def ∷ defs) =
        ap (λ (turn : Option ClockChange). option_to_list turn ++ flat_map (λ (def : ClockDef). option_to_list (change_at def.number it)) defs)
        (unchanged (runs def.number tree) (is_some (clock_place def.number)) def.number)
        ∙ by defs

module _ {O D : Type 0} (o : Sink.Ghosts O) (d : Device.Ghosts D) where
  -- lines were all carried out or one is bad, and after a report was written
  rest_by : (c : Setup) (n : ℕ) (s : Script) (now : Progress) (old mid new : O) (from to : D) (board is : Standing) (exit : Exit) (answers : List (List Bool)) (cut : Option ℕ) (r : Report) → Went o d (texts n (completed_from c board now answers s.events)) (driven_from c now answers s.events) cut old mid from to → cut ≡ None → is ≡ last_board board (until cut (driven_from c now answers s.events)) → Reports o r mid new exit → report_from c board n now s answers ≡ report_after (texts n (completed_from c board now answers s.events)) r → RanRest o d c n s now old new from to board is exit
  rest_by c n s now old mid new from to board is exit answers cut r went whole left reports same =
      let xs : List Driven = driven_from c now answers s.events in
      let done : List (List ℕ) = texts n (completed_by board (clocked_by now.clocks.tree xs)) in
      let wrote : Wrote o.observable (concat done) (o.state old) (o.state mid) = subst (λ (cut : Option ℕ). Leaves o done cut old mid) whole went.left in
      let given : Chain d.Does (acts xs) from to = subst (λ (cut : Option ℕ). Chain d.Does (acts (until cut xs)) from to) whole went.given in
      let after : is ≡ last_board board xs = subst (λ (cut : Option ℕ). is ≡ last_board board (until cut xs)) whole left in
      let long : length xs ≤ length done = omega (arith, length-told n board now.clocks.tree xs) in
      record {
        answers = answers;
        cut = behind (length done) reports.cut;
        went = record {
          left = subst (λ (all : Report). Leaves o (pieces all) (behind (length done) reports.cut) old new) (sym same) (left-after o done r reports.cut old mid new wrote reports.left);
          given = subst (λ (ys : List Driven). Chain d.Does (acts ys) from to) (sym (until-past (length done) reports.cut xs long)) given;
        };
        ends = reports.ends ∙ sym (exit-after done r reports.cut) ∙ ap (λ (all : Report). exit_of all (behind (length done) reports.cut)) (sym same);
        tasks_left = after ∙ sym (ap (λ (ys : List Driven). last_board board ys) (until-past (length done) reports.cut xs long));
      }

  -- lines were carried out, and what comes after them was written
  pub RanRest-closed : (c : Setup) (n : ℕ) (s : Script) (r : StopReason) (now after : Progress) (old mid new : O) (from to : D) (board is : Standing) (exit : Exit) (count : ℕ) → RanLines o d c n s now after old mid from to board is (Ok (record { count = count; stop = r })) → Reports o (closing_report (stop_of r) after.book after.kept after.clocks.tree) mid new exit → RanRest o d c n s now old new from to board is exit
  RanRest-closed c n s r now after old mid new from to board is exit count ran reports =
      let xs : List Driven = driven_from c now ran.answers s.events in
      let done : List (List ℕ) = texts n (completed_by board (clocked_by now.clocks.tree xs)) in
      let number : ℕ = n + length s.events in
      let whole = ran.ends.0 in
      let stop : s.stop ≡ stop_of r = ran.ends.1 in
      let book : after.book ≡ last_book now.book xs = ran.ends.2 in
      let kept : after.kept ≡ last_kept now.kept xs = ran.ends.3 in
      let tree : after.clocks.tree ≡ last_tree now.clocks.tree xs = ran.ends.4 in
      let same : report_from c board n now s ran.answers ≡ report_after done (closing_report (stop_of r) after.book after.kept after.clocks.tree) =
      ap (λ (stop : Stop). record { body = done ++ at_end stop (table_from now xs); fault = fault_at number stop }) stop
      ∙ ap (λ (b : State). record { body = done ++ at_end (stop_of r) (table_text b (last_kept now.kept xs) (last_tree now.clocks.tree xs)); fault = fault_at number (stop_of r) }) (sym book)
      ∙ ap (λ (k : Kept). record { body = done ++ at_end (stop_of r) (table_text after.book k (last_tree now.clocks.tree xs)); fault = fault_at number (stop_of r) }) (sym kept)
      ∙ ap (λ (t : Tree). record { body = done ++ at_end (stop_of r) (table_text after.book after.kept t); fault = fault_at number (stop_of r) }) (sym tree)
      ∙ ap (λ (f : Option Fault). record { body = done ++ at_end (stop_of r) (table_text after.book after.kept after.clocks.tree); fault = f }) (fault-anywhere number 0 r)
      in
      rest_by c n s now old mid new from to board is exit ran.answers ran.cut (closing_report (stop_of r) after.book after.kept after.clocks.tree) ran.went whole ran.tasks_left reports same

  -- a line has no meaning, and the line of that fault was written
  pub RanRest-bad : (c : Setup) (n m : ℕ) (cause : LineFault) (s : Script) (now after : Progress) (old mid new : O) (from to : D) (board is : Standing) (exit : Exit) → RanLines o d c n s now after old mid from to board is (Err (stops.Bad m cause)) → Reports o (refusal (Line m cause)) mid new exit → RanRest o d c n s now old new from to board is exit
  RanRest-bad c n m cause s now after old mid new from to board is exit ran reports =
      let xs : List Driven = driven_from c now ran.answers s.events in
      let done : List (List ℕ) = texts n (completed_by board (clocked_by now.clocks.tree xs)) in
      let table : List ℕ = table_from now xs in
      let same : report_from c board n now s ran.answers ≡ report_after done (refusal (Line m cause)) =
      ap (λ (stop : Stop). record { body = done ++ at_end stop table; fault = fault_at (n + length s.events) stop }) ran.ends.1
      ∙ ap (λ (number : ℕ). record { body = done ++ []; fault = Some (Line number cause) }) (sym ran.ends.2)
      in
      rest_by c n s now old mid new from to board is exit ran.answers ran.cut (refusal (Line m cause)) ran.went ran.ends.0 ran.tasks_left reports same

  -- the sink broke off within the lines
  pub RanRest-broken : (c : Setup) (n : ℕ) (s : Script) (now after : Progress) (old new : O) (from to : D) (board is : Standing) → RanLines o d c n s now after old new from to board is (Err stops.Broken) → RanRest o d c n s now old new from to board is WriteFault
  RanRest-broken c n s now after old new from to board is ran =
      let xs : List Driven = driven_from c now ran.answers s.events in
      let done : List (List ℕ) = texts n (completed_by board (clocked_by now.clocks.tree xs)) in
      let r : Report = report_from c board n now s ran.answers in
      let k : ℕ = ran.ends.0 in
      let tail : List (List ℕ) = at_end s.stop (table_from now xs) in
      let breaks : BreaksIn o k done old new = subst (λ (cut : Option ℕ). Leaves o done cut old new) ran.ends.1 ran.went.left in
      let within : k < length done = slice_get_within done k breaks.piece breaks.is in
      record {
        answers = ran.answers;
        cut = Some k;
        went = record {
          left = Leaves-before o (done ++ tail) (fault_lines r.fault) k old new (Leaves-before o done tail k old new breaks);
          given = subst (λ (cut : Option ℕ). Chain d.Does (acts (until cut xs)) from to) ran.ends.1 ran.went.given;
        };
        ends = ap (λ (b : Bool). if b then WriteFault else exit_after r.fault) (sym (inside k (length done) (length tail) (length (done ++ tail)) within (length-append done tail)));
        tasks_left = subst (λ (cut : Option ℕ). is ≡ last_board board (until cut xs)) ran.ends.1 ran.tasks_left;
      }
    where
      inside : (k m n all : ℕ) → k < m → all ≡ m + n → nat_lt k all ≡ true
      inside k m n all within is = grind (arith, nat_tests)

  -- ---- step 0

  -- step 0 with what the device was told for it
  abbrev pub first_step : Setup → Part → Driven
  first_step c part = record { line = line_0 c; cores = record { core = core_0 c; part = part } ∷ []; kept = part.kept }

  driven_first : (now after : Progress) (events : List Event) (later : List (List Bool)) (from to : D) → IsLoaded now → Started o d now after from to → driven (setup_of now.book) (answers_in after.outbox ∷ later) events ≡ first_step (setup_of now.book) (part_in after.kept after.outbox) ∷ driven_from (setup_of now.book) after later events
  driven_first now after events later from to loaded started =
      let c : Setup = setup_of now.book in
      let load : State = load_of c.object c.attached c.topology in
      let P : Part = part_of (at_zero c.topology) (answers_in after.outbox) load (outputs_at_load load) in
      let Q : Part = part_in after.kept after.outbox in
      let is : P ≡ Q =
      ap (λ (b : State). part_of (at_zero c.topology) (answers_in after.outbox) b (outputs_at_load b)) (sym loaded.book)
      ∙ ap (λ (k : Kept). part_of k (answers_in after.outbox) now.book (outputs_at_load now.book)) (sym loaded.kept)
      ∙ sym started.part
      in
      ap (λ (p : Part). first_step c p ∷ drive p.kept later (lines_of c events (at_load c))) is
      ∙ ap (λ (b : State). first_step c Q ∷ drive after.kept later (lines_of c events (record { book = b; boxes = (at_load c).boxes }))) (sym loaded.book ∙ sym started.book)
      ∙ ap (λ (b : Boxes). first_step c Q ∷ drive after.kept later (lines_of c events (record { book = after.book; boxes = b }))) (sym loaded.boxes ∙ sym started.boxes)

  -- the report of a script is that of its lines behind the text of step 0, which says nothing of modules and tasks
  -- at the load nothing is left to drop, and no clock begins or ceases to run in step 0
  load_stands : (now : Progress) → IsLoaded now → followed (view_of (load_of now.book.fixed.object now.book.fixed.attached now.book.fixed.topology)) (first_tree (setup_of now.book)) ≡ first_tree (setup_of now.book)
  load_stands now loaded =
      let c : Setup = setup_of now.book in
      let T : State → Tree → Type 0 = λ b t. followed (view_of b) t ≡ t in
      subst (λ (b : State). T b (first_tree c)) loaded.book (subst (T now.book) (tree_at_load now loaded) loaded.clocks.over.stands)

  report_first : (now after : Progress) (s : Script) (later : List (List Bool)) (board : Standing) (from to : D) → IsLoaded now → Started o d now after from to → run_report (setup_of now.book) board s (answers_in after.outbox ∷ later) ≡ report_after (step_text 0 after.outbox.done.items (notices_in after.outbox) after.outbox.answer ∷ []) (report_from (setup_of now.book) (board_after Pass board) 1 after s later)
  report_first now after s later board from to loaded started =
      let c : Setup = setup_of now.book in
      let load : State = load_of c.object c.attached c.topology in
      let Q : Part = part_in after.kept after.outbox in
      let g : Given = record { core = core_0 c; part = Q } in
      let ys : List Driven = driven_from (setup_of now.book) after later s.events in
      let tree : Tree = first_tree c in
      let next : Tree = tree_along (g ∷ []) tree in
      let next_is : next ≡ tree = load_stands now loaded in
      let number : ℕ = 1 + length s.events in
      let text : List Note → List ℕ = λ turns. (core_text 0 (outputs_at_load load) Q ++ []) ++ notes_text 0 ((turns ++ []) ++ []) in
      let told : Tree → List (List ℕ) = λ t. texts 1 (completed_by (board_after Pass board) (clocked_by t ys)) in
      let table : State → Tree → List ℕ = λ b t. table_text (last_book b ys) (last_kept after.kept ys) (last_tree t ys) in
      let whole : List Note → Tree → Report = λ turns t. record { body = text turns ∷ (told t ++ at_end s.stop (table load t)); fault = fault_at number s.stop } in
      let none : clock_notes tree (g ∷ []) ≡ [] = ap (λ (t : Tree). map clock_note (turned tree t)) next_is ∙ ap (map clock_note) (none_turned tree) in
      let here : next ≡ after.clocks.tree = next_is ∙ sym (ap (λ (it : Clocked). it.tree) started.clocks ∙ tree_at_load now loaded) in
      let at : Tree = after.clocks.tree in
      ap (λ (xs : List Driven). record { body = texts 0 (completed_in c board xs) ++ at_end s.stop (closing_after c xs); fault = fault_at number s.stop }) (driven_first now after s.events later from to loaded started)
      ∙ ap (λ (turns : List Note). whole turns next) none
      ∙ ap (whole []) here
      ∙ ap (λ (text : List ℕ). record { body = text ∷ (told at ++ at_end s.stop (table load at)); fault = fault_at number s.stop }) (append-nil (core_text 0 (outputs_at_load load) Q ++ []) ∙ append-nil (core_text 0 (outputs_at_load load) Q))
      ∙ ap (λ (b : State). record { body = core_text 0 (outputs_at_load load) Q ∷ (told at ++ at_end s.stop (table b at)); fault = fault_at number s.stop }) (sym loaded.book ∙ sym started.book)
      ∙ ap (λ (notices : Notices). record { body = step_text 0 Q.commands notices Q.answer ∷ (told at ++ at_end s.stop (table after.book at)); fault = fault_at number s.stop }) (ap (λ (b : State). notices_of (outputs_at_load b)) (sym loaded.book) ∙ sym started.notices)

  acts_first : (now after : Progress) → acts_of (first_step (setup_of now.book) (part_in after.kept after.outbox)) ≡ orders_in after.outbox
  acts_first now after = append-nil (orders_in after.outbox)

  -- step 0 was written, and after the rest of the script was run
  pub RanScript-first : (s : Script) (now after : Progress) (old mid new : O) (from via to : D) (board begun is : Standing) (exit : Exit) → IsLoaded now → Started o d now after from via → begun ≡ board_after Pass board → Wrote o.observable (step_text 0 after.outbox.done.items (notices_in after.outbox) after.outbox.answer) (o.state old) (o.state mid) → RanRest o d (setup_of now.book) 1 s after mid new via to begun is exit → RanScript o d (setup_of now.book) s old new from to board is exit
  RanScript-first s now after old mid new from via to board begun is exit loaded started settles wrote ran =
      let c : Setup = setup_of now.book in
      let first : List ℕ = step_text 0 after.outbox.done.items (notices_in after.outbox) after.outbox.answer in
      let x : Driven = first_step c (part_in after.kept after.outbox) in
      let rest = subst (λ (b : Standing). RanRest o d (setup_of now.book) 1 s after mid new via to b is exit) settles ran in
      let ys : List Driven = driven_from (setup_of now.book) after rest.answers s.events in
      let report : Report = report_from (setup_of now.book) (board_after Pass board) 1 after s rest.answers in
      let same = report_first now after s rest.answers board from via loaded started in
      let xs_are = driven_first now after s.events rest.answers from via loaded started in
      let one : Wrote o.observable (concat (first ∷ [])) (o.state old) (o.state mid) = Wrote-is o.observable first (first ++ []) (o.state old) (o.state mid) (sym (append-nil first)) wrote in
      record {
        answers = answers_in after.outbox ∷ rest.answers;
        cut = behind 1 rest.cut;
        went = record {
          left = subst (λ (r : Report). Leaves o (pieces r) (behind 1 rest.cut) old new) (sym same) (left-after o (first ∷ []) report rest.cut old mid new one rest.went.left);
          given =
              let step : Chain d.Does (acts_of x) from via = subst (λ (done : List Act). Chain d.Does done from via) (sym (acts_first now after)) started.given in
              let whole = Chain-append d.Does (acts_of x) (acts (until rest.cut ys)) from via to step rest.went.given in
              let cut = subst (λ (xs : List Driven). Chain d.Does (acts xs) from to) (sym (until-cons rest.cut x ys)) whole in
              subst (λ (xs : List Driven). Chain d.Does (acts (until (behind 1 rest.cut) xs)) from to) (sym xs_are) cut;
        };
        ends = rest.ends ∙ sym (exit-after (first ∷ []) report rest.cut) ∙ ap (λ (r : Report). exit_of r (behind 1 rest.cut)) (sym same);
        tasks_left =
            rest.tasks_left
            ∙ sym (ap (λ (xs : List Driven). last_board board xs) (until-cons rest.cut x ys))
            ∙ sym (ap (λ (xs : List Driven). last_board board (until (behind 1 rest.cut) xs)) xs_are);
      }

  -- the sink broke off within the text of step 0
  pub RanScript-cut : (s : Script) (now after : Progress) (old new : O) (from to : D) (board is : Standing) → IsLoaded now → Started o d now after from to → is ≡ board_after Pass board → BreaksIn o 0 (step_text 0 after.outbox.done.items (notices_in after.outbox) after.outbox.answer ∷ []) old new → RanScript o d (setup_of now.book) s old new from to board is WriteFault
  RanScript-cut s now after old new from to board is loaded started settles breaks =
      let c : Setup = setup_of now.book in
      let first : List ℕ = step_text 0 after.outbox.done.items (notices_in after.outbox) after.outbox.answer in
      let rest : Report = report_from (setup_of now.book) (board_after Pass board) 1 after s [] in
      let x : Driven = first_step c (part_in after.kept after.outbox) in
      let same = report_first now after s [] board from to loaded started in
      let xs_are = driven_first now after s.events [] from to loaded started in
      record {
        answers = answers_in after.outbox ∷ [];
        cut = Some 0;
        went = record {
          left = subst (λ (r : Report). Leaves o (pieces r) (Some 0) old new) (sym same) (Leaves-before o (first ∷ []) (rest.body ++ fault_lines rest.fault) 0 old new breaks);
          given =
              let step : Chain d.Does (acts (x ∷ [])) from to = subst (λ (done : List Act). Chain d.Does done from to) (sym (append-nil (acts_of x) ∙ acts_first now after)) started.given in
              subst (λ (xs : List Driven). Chain d.Does (acts (until (Some 0) xs)) from to) (sym xs_are) step;
        };
        ends = ap (λ (b : Bool). if b then WriteFault else exit_after rest.fault) (sym (some first rest.body)) ∙ ap (λ (r : Report). exit_of r (Some 0)) (sym same);
        tasks_left = settles ∙ sym (ap (λ (xs : List Driven). last_board board (until (Some 0) xs)) xs_are);
      }
    where
      some : (x : List ℕ) (xs : List (List ℕ)) → nat_lt 0 (length (x ∷ xs)) ≡ true
      some x xs = grind (arith, nat_tests)
