-- A step under way: its commands are found and answered one by one, and then it ends.
use Rattle.std.proofs.Common.{◌≡◌, ℕ, ◌<◌, ◌≤◌, Bool, Option, List, [], ◌∷◌, ◌++◌, length, refl, sym, ap, subst, ◌∙◌, append-nil, append_assoc, arith}
use Rattle.std.specs.Prelude.{⊤}
use Rattle.pm_base.specs.declared.names.Command.{Command}
use Rattle.pm_base.specs.declared.names.LineId.{LineId}
use Rattle.pm_base.specs.declared.names.Unit.{Unit}
use Rattle.pm_topology.specs.declared.topology.Topology.{Topology}
use Rattle.pm_topology.specs.Units.{units_of}
use Rattle.pm_device.specs.Act.{Act, Chain}
use Rattle.pm_state.specs.State.{State}
use Rattle.pm_state.specs.Values.{value}
use Rattle.pm_core.specs.declared.outbox.Done.{Done}
use Rattle.pm_core.specs.declared.outbox.Outbox.{Outbox}
use Rattle.pm_core.specs.declared.replies.Answer.{Answer}
use Rattle.pm_core.specs.Outbox.{Outputs, outputs_in}
use Rattle.pm_apply.specs.Failing.{falls_short, told_answer}
use Rattle.pm_apply.specs.declared.carrying.Carrying.{Carrying}
use Rattle.pm_apply.specs.declared.turns.Turn.{Turn}
use Rattle.pm_apply.specs.Carried.{KeepsRest}
use Rattle.pm_apply.specs.Left.{Answers, IsFollowed, Passes, turns_left}
use Rattle.pm_apply.specs.Part.{orders_of, part_of}
use Rattle.pm_record.specs.Record.{after_answer, IsRecordOf, Kept, marked}
use Rattle.pm_apply.specs.Plan.{Carried, answers_of, done_as, plan, turns_of}
use Rattle.pm_apply.specs.Room.{most_of}
use Rattle.pm_record.proofs.Below.{ChipLaws}
use Rattle.pm_apply.proofs.LeftLemmas as left
use Rattle.pm_apply.proofs.PlanLemmas.{plan-append}
use Rattle.pm_apply.proofs.VisitsLemmas.{IsOpen}
use Rattle.pm_controller.specs.Controls.{part_with}
use Rattle.pm_controller.specs.Stands.{IsAsking, IsAtRest, IsUnderWay}
use Rattle.pm_controller.proofs.ComingLemmas.{part_ended, part_ends, part_moves, plan_first, plan_none, plan_passed}

-- of an outbox nothing changed but its commands
pub outputs_same : (before after : Outbox) → KeepsRest before after → outputs_in after ≡ outputs_in before
outputs_same before after rest = let moved = rest.moved in let pulse = rest.pulse in let starts = rest.starts in let late = rest.late in let callbacks = rest.callbacks in let answer = rest.answer in cc

module _ (book : State) (pulse : Option LineId) where
  abbrev t : Topology
  t = book.fixed.topology

  abbrev values : Unit → ℕ
  values u = value u book

  -- turns without a command were passed over
  pub way_on : (kept : Kept) (done : List Done) (a b : Carrying) → IsUnderWay book kept pulse done a → Passes t values pulse kept a b → IsUnderWay book kept pulse done b
  way_on kept done a b way passes = record {
    begun = way.begun;
    known = way.known;
    followed = way.followed;
    turns = way.turns ++ passes.passed;
    all = append_assoc way.turns passes.passed (turns_left t pulse b) ∙ (ap (λ later. way.turns ++ later) (sym passes.left) ∙ way.all);
    planned =
        let P : List Done → Type 0 = λ done. plan t values (way.turns ++ passes.passed) way.begun (answers_of done) ≡ record { done = done; kept = kept } in
        subst P (append-nil done) (plan-append t values way.turns passes.passed way.begun kept kept done [] way.planned (plan_none t values passes.passed kept [] passes.none));
  }

  -- the command that waited was answered
  pub way_answered : (kept after : Kept) (done longer : List Done) (a b : Carrying) (command : Command) (ok : Bool)
      → IsAsking book kept pulse done a command → Answers t pulse command ok a b kept after done longer → IsUnderWay book after pulse longer b
  way_answered kept after done longer a b command ok asking answers =
      let way = asking.way in
      let turn : Turn = asking.waits.turn in
      let d : Done = done_as command kept ok in
      let one : plan t values (turn ∷ []) kept (ok ∷ []) ≡ record { done = d ∷ []; kept = after } =
      plan_first t values turn [] kept command (ok ∷ []) asking.waits.has ∙ ap (λ kept. record { done = d ∷ []; kept = kept }) (sym answers.kept)
      in
      record {
        begun = way.begun;
        known = way.known;
        followed = way.followed;
        turns = way.turns ++ turn ∷ [];
        all =
            append_assoc way.turns (turn ∷ []) (turns_left t pulse b)
            ∙ (ap (λ later. way.turns ++ turn ∷ later) (answers.left turn asking.waits.first)
            ∙ (ap (λ left. way.turns ++ left) (sym asking.waits.first.is) ∙ way.all));
        planned =
            let P : List Done → Type 0 = λ done. plan t values (way.turns ++ turn ∷ []) way.begun (answers_of done) ≡ record { done = done; kept = after } in
            subst P (sym answers.done) (plan-append t values way.turns (turn ∷ []) way.begun kept after done (d ∷ []) way.planned one);
      }

  -- ---- what the step comes to

  -- turns that are passed over make no difference
  pub comes_on : (outputs : Outputs) (kept : Kept) (done : List Done) (a b : Carrying) → Passes t values pulse kept a b → (answers : List Bool)
      → part_with book outputs done (plan t values (turns_left t pulse b) kept answers) ≡ part_with book outputs done (plan t values (turns_left t pulse a) kept answers)
  comes_on outputs kept done a b passes answers =
      ap (part_with book outputs done)
      (sym (ap (λ turns. plan t values turns kept answers) passes.left ∙ plan_passed t values passes.passed (turns_left t pulse b) kept answers passes.none))

  -- an answer that was given is the first one
  pub comes_answered : (outputs : Outputs) (kept after : Kept) (done longer : List Done) (a b : Carrying) (command : Command) (ok : Bool)
      → IsAsking book kept pulse done a command → Answers t pulse command ok a b kept after done longer → (answers : List Bool)
      → part_with book outputs longer (plan t values (turns_left t pulse b) after answers) ≡ part_with book outputs done (plan t values (turns_left t pulse a) kept (ok ∷ answers))
  comes_answered outputs kept after done longer a b command ok asking given answers =
      let turn : Turn = asking.waits.turn in
      let later : List Turn = asking.waits.first.later in
      let d : Done = done_as command kept ok in
      let old : plan t values (turns_left t pulse a) kept (ok ∷ answers) ≡ record { done = d ∷ (plan t values later (after_answer command ok kept) answers).done; kept = (plan t values later (after_answer command ok kept) answers).kept } =
      ap (λ turns. plan t values turns kept (ok ∷ answers)) asking.waits.first.is ∙ plan_first t values turn later kept command (ok ∷ answers) asking.waits.has
      in
      let new : plan t values (turns_left t pulse b) after answers ≡ plan t values later (after_answer command ok kept) answers =
      ap (λ turns. plan t values turns after answers) (given.left turn asking.waits.first) ∙ ap (λ kept. plan t values later kept answers) given.kept
      in
      ap (λ longer. part_with book outputs longer (plan t values (turns_left t pulse b) after answers)) given.done
      ∙ (ap (part_with book outputs (done ++ d ∷ [])) new
      ∙ (sym (part_moves book outputs done d (plan t values later (after_answer command ok kept) answers))
      ∙ sym (ap (part_with book outputs done) old)))

  -- ---- the end

  pub comes_end : (outputs : Outputs) (kept now : Kept) (done : List Done) (answer : Answer) (a b : Carrying) → Passes t values pulse kept a b → turns_left t pulse b ≡ []
      → now ≡ marked values kept → answer ≡ told_answer (falls_short values outputs.moved outputs.pulse done now) outputs.answer → (answers : List Bool)
      → record { commands = done; kept = now; answer = answer } ≡ part_with book outputs done (plan t values (turns_left t pulse a) kept answers)
  comes_end outputs kept now done answer a b passes none is told answers =
      part_ended book outputs kept now done answer is told
      ∙ (sym (part_ends book outputs done kept)
      ∙ (sym (ap (λ turns. part_with book outputs done (plan t values turns kept answers)) none)
      ∙ comes_on outputs kept done a b passes answers))

  pub rests : (formed : (kept : Kept) (answers : List Bool) (outputs : Outputs) → IsRecordOf t kept → IsAtRest book (part_of kept answers book outputs).kept)
      → (outputs : Outputs) (kept now : Kept) (done : List Done) (c : Carrying)
      → IsUnderWay book kept pulse done c → turns_left t pulse c ≡ [] → outputs.pulse ≡ pulse → now ≡ marked values kept → IsAtRest book now
  rests formed outputs kept now done c way none same is =
      let all : way.turns ≡ turns_of t pulse = sym (append-nil way.turns) ∙ (ap (λ left. way.turns ++ left) (sym none) ∙ way.all) in
      let whole : plan t values (turns_of t outputs.pulse) way.begun (answers_of done) ≡ record { done = done; kept = kept } =
      ap (λ turns. plan t values turns way.begun (answers_of done)) (ap (turns_of t) same ∙ sym all) ∙ way.planned
      in
      subst (IsAtRest book) (ap (λ (carried : Carried). marked values carried.kept) whole ∙ sym is) (formed way.begun (answers_of done) outputs way.known)

  -- ---- what a step under way allows

  -- the acts on no device
  abbrev NoDevice : Act → ⊤ → ⊤ → Type 0
  NoDevice act old new = ⊤

  no_acts : (acts : List Act) → Chain NoDevice acts tt tt
  no_acts [] = refl
  no_acts (act ∷ acts) = (tt, tt, no_acts acts)

  as_way : (kept : Kept) (done : List Done) (c : Carrying) (way : IsUnderWay book kept pulse done c) → left.IsUnderWay NoDevice t values pulse way.begun [] tt c kept done tt
  as_way kept done c way = record {
    turns = way.turns;
    all = way.all;
    takes = record { done = done; put = refl; planned = way.planned; given = no_acts (orders_of done) };
  }

  -- each unit of the record that isn't marked has the book's value
  pub followed_now : ChipLaws → (kept : Kept) (done : List Done) (c : Carrying) → IsUnderWay book kept pulse done c → IsFollowed t values pulse kept
  followed_now laws kept done c way =
      let first : IsOpen values pulse (units_of t) way.begun = record { are = way.followed.units; ready = way.followed.ready } in
      let now = left.way_open NoDevice t values pulse way.begun [] tt laws (units_of t) c kept done tt (as_way kept done c way) first in
      record {
        units = now.are;
        ready = now.ready;
      }

  -- there is room for the command that waits
  pub room_now : (kept : Kept) (done : List Done) (c : Carrying) (room : ℕ) (command : Command) → most_of t values (turns_of t pulse) ≤ room
      → IsAsking book kept pulse done c command → length done < room
  room_now kept done c room command fits asking =
      left.way_room NoDevice t values pulse asking.way.begun [] tt c kept done tt room command (omega (arith, fits)) (as_way kept done c asking.way) asking.waits

  -- at its beginning
  pub way_start : (begun : Kept) (done : List Done) (c : Carrying) → IsRecordOf t begun → IsFollowed t values pulse begun → turns_left t pulse c ≡ turns_of t pulse → done ≡ []
      → IsUnderWay book begun pulse done c
  way_start begun done c known followed all fresh = record {
    begun = begun;
    known = known;
    followed = followed;
    turns = [];
    all = all;
    planned =
        let P : List Done → Type 0 = λ done. plan t values [] begun (answers_of done) ≡ record { done = done; kept = begun } in
        subst P (sym fresh) refl;
  }
