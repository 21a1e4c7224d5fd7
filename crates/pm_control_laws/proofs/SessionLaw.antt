-- A session ends each step as the driven run of its events.
use Rattle.std.proofs.Common.{◌≡◌, Bool, None, List, [], ◌∷◌, ◌++◌, refl, sym, ap, subst, ◌∙◌, append-nil}
use Rattle.std.specs.List.{AllByRecursion as Each}
use Rattle.pm_base.specs.declared.events.Event.{Event}
use Rattle.pm_base.specs.declared.events.Event.TheVariants.{Post, Serve, Smc}
use Rattle.pm_object.specs.declared.object.Object.{Object}
use Rattle.pm_topology.specs.declared.topology.Topology.{Topology}
use Rattle.pm_core.specs.Outbox.{Outputs}
use Rattle.pm_core.specs.Step.{effect, outputs, outputs_at_load}
use Rattle.pm_split.specs.Boxes.{Boxes}
use Rattle.pm_split.specs.Split.{split_of}
use Rattle.pm_run.specs.Run.{Core, Line, Setup, Stand, core_0, book_after, core_of, cores_of, line_0, line_of, lines_of, loaded, setup}
use Rattle.pm_apply.specs.Part.{Part, part_in, part_of}
use Rattle.pm_record.specs.Record.{Kept, at_zero}
use Rattle.pm_trace.specs.Step.{notices_in, notices_of, step_text}
use Rattle.pm_drive.specs.Drive.{Given, answers_after, drive, drive_line, driven}
use Rattle.pm_drive.specs.Lowered.{given_in}
use Rattle.pm_controller.specs.Controls.{Controls, coming, coming_where}
use Rattle.pm_controller.specs.Steps.{StepBegins}
use Rattle.pm_control_laws.specs.Session.{Answered, AreSteps, EndAs, EndsAs, IsCore, IsSession}

-- ---- one step

-- its answers come one by one
answered_comes : (answers : List Bool) (begun end : Controls) → Answered answers begun end → (later : List Bool) → coming end later ≡ coming begun (answers ++ later)
answered_comes [] begun end is later = ap (λ c. coming c later) (sym is)
answered_comes (ok ∷ answers) begun end is later = answered_comes answers is.0 end is.2 later ∙ is.1.comes (answers ++ later)

answered_book : (answers : List Bool) (begun end : Controls) → Answered answers begun end → end.book ≡ begun.book
answered_book [] begun end is = ap (λ (c : Controls). c.book) (sym is)
answered_book (ok ∷ answers) begun end is = answered_book answers is.0 end is.2 ∙ is.1.book

answered_tells : (answers : List Bool) (begun end : Controls) → Answered answers begun end → notices_in end.outbox ≡ notices_in begun.outbox
answered_tells [] begun end is = ap (λ (c : Controls). notices_in c.outbox) (sym is)
answered_tells (ok ∷ answers) begun end is = answered_tells answers is.0 end is.2 ∙ is.1.notices

-- a step that was begun so, and whose commands were all answered, comes to its part
step_ends : (kept : Kept) (outs : Outputs) (answers : List Bool) (begun end : Controls) (core : Core) → StepBegins kept outs begun → Answered answers begun end → end.waits ≡ None
    → begun.book ≡ core.after → outs ≡ core.outputs
    → EndsAs end (record { core = core; part = part_of kept answers core.after core.outputs })
step_ends kept outs answers begun end core starts answered over after out =
    let part : part_in end.kept end.outbox ≡ part_of kept answers core.after core.outputs =
    sym (ap (λ waits. coming_where end waits []) over)
    ∙ (answered_comes answers begun end answered []
    ∙ (ap (coming begun) (append-nil answers)
    ∙ (starts.comes answers
    ∙ (ap (λ book. part_of kept answers book outs) after ∙ ap (part_of kept answers core.after) out))))
    in
    let told = answered_tells answers begun end answered ∙ (starts.notices ∙ ap notices_of out) in
    record {
      book = answered_book answers begun end answered ∙ after;
      part = part;
      notices = told;
      text = λ n.
          ap (λ notices. step_text n end.outbox.done.items notices end.outbox.answer) told
          ∙ ap (λ (p : Part). step_text n p.commands (notices_of core.outputs) p.answer) part;
    }

-- ---- one after another

-- a core event is its own core step
core_is : (object : Object) (t : Topology) (event : Event) (boxes : Boxes) → IsCore event → (split_of object t event boxes).events ≡ event ∷ []
core_is object t (Post master message) boxes is = absurd is
core_is object t Serve boxes is = absurd is
core_is object t (Smc proc function args) boxes is = absurd is
core_is object t event boxes is = refl

-- what the device is given in the lines of these core events
abbrev given_from : Kept → List (List Bool) → List Line → List Given
given_from kept answers lines = given_in (drive kept answers lines)

-- a line with one core step
one_step : (kept : Kept) (given : List Bool) (answers : List (List Bool)) (line : Line) (lines : List Line) (core : Core) → line.cores ≡ core ∷ []
    → given_from kept (given ∷ answers) (line ∷ lines)
    ≡ record { core = core; part = part_of kept given core.after core.outputs } ∷ given_from (part_of kept given core.after core.outputs).kept answers lines
one_step kept given answers line lines core is =
    let P : List Core → List Given = λ cores.
    (drive_line kept (given ∷ answers) (record line { cores = cores })).cores
    ++ given_from (drive_line kept (given ∷ answers) (record line { cores = cores })).kept (answers_after cores (given ∷ answers)) lines
    in
    ap P is

module _ (c : Setup) where
  steps_end : (events : List Event) (answers : List (List Bool)) (old : Controls) (ends : List Controls) (stand : Stand) → Each IsCore events → old.book ≡ stand.book
      → AreSteps events answers old ends → EndAs ends (given_from old.kept answers (lines_of c events stand))
  steps_end [] [] old [] stand cores same steps = tt
  steps_end [] [] old (end ∷ ends) stand cores same steps = absurd steps
  steps_end [] (given ∷ answers) old ends stand cores same steps = absurd steps
  steps_end (event ∷ events) [] old ends stand cores same steps = absurd steps
  steps_end (event ∷ events) (given ∷ answers) old [] stand cores same steps = absurd steps
  steps_end (event ∷ events) (given ∷ answers) old (end ∷ ends) stand cores same steps =
      let step = steps.0 in
      let core : Core = core_of event stand.book in
      let part : Part = part_of old.kept given core.after core.outputs in
      let one : (line_of c event stand).cores ≡ core ∷ [] = ap (λ events. cores_of events stand.book) (core_is c.object c.topology event stand.boxes cores.0) in
      let here : EndsAs end (record { core = core; part = part }) =
      step_ends old.kept (outputs event old.book) given step.begun end core step.taken.step step.answered step.over
      (step.taken.book ∙ ap (effect event) same) (ap (outputs event) same)
      in
      let after : Stand = (line_of c event stand).after in
      let next : end.book ≡ after.book = here.book ∙ sym (ap (λ events. book_after events stand.book) (core_is c.object c.topology event stand.boxes cores.0)) in
      let P : Kept → Type 0 = λ kept. EndAs ends (given_from kept answers (lines_of c events after)) in
      subst (EndAs (end ∷ ends)) (sym (one_step old.kept given answers (line_of c event stand) (lines_of c events after) core one))
      (here, subst P (ap (λ (p : Part). p.kept) here.part) (steps_end events answers end ends after cores.1 next steps.1))

pub session_ends : (object : Object) (t : Topology) (events : List Event) (answers : List (List Bool)) (ends : List Controls) → Each IsCore events
    → IsSession object t events answers ends → EndAs ends (given_in (driven (setup object [] t) answers events))
session_ends object t events [] ends cores session = absurd session
session_ends object t events (given ∷ answers) [] cores session = absurd session
session_ends object t events (given ∷ answers) (end ∷ ends) cores session =
    let c : Setup = setup object [] t in
    let first = session.0 in
    let core : Core = core_0 c in
    let here : EndsAs end (record { core = core; part = part_of (at_zero t) given core.after core.outputs }) =
    step_ends (at_zero t) (outputs_at_load first.begun.book) given first.begun end core first.loaded.step first.answered first.over
    first.loaded.book (ap outputs_at_load first.loaded.book)
    in
    let P : Kept → Type 0 = λ kept. EndAs ends (given_from kept answers (lines_of c events (loaded c))) in
    subst (EndAs (end ∷ ends)) (sym (one_step (at_zero t) given answers (line_0 c) (lines_of c events (loaded c)) core refl))
    (here, subst P (ap (λ (p : Part). p.kept) here.part) (steps_end c events answers end ends (loaded c) cores here.book session.1))
