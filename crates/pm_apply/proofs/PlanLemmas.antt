-- Plans one after another: the plan of two runs of turns is the two plans in sequence.
use Rattle.std.proofs.Common.{◌≡◌, ℕ, Bool, true, Option, Some, None, List, [], ◌∷◌, ◌++◌, refl, ap, subst, ◌∙◌}
use Rattle.std.specs.Prelude.{⊤}
use Rattle.std.specs.List.{list_all}
use Rattle.std.proofs.lemmas.Bool.{and_parts}
use Rattle.pm_base.specs.declared.names.Unit.{Unit}
use Rattle.pm_base.specs.declared.names.Command.{Command}
use Rattle.pm_topology.specs.declared.topology.Topology.{Topology}
use Rattle.pm_core.specs.declared.outbox.Done.{Done}
use Rattle.pm_record.specs.Record.{Kept, after_answer}
use Rattle.pm_apply.specs.declared.turns.Turn.{Turn}
use Rattle.pm_apply.specs.Plan.{plan, due, take_turn, before, done_as, next_answer, later_answers, answers_of, Carried}
use Rattle.pm_apply.proofs.RecordLemmas.{recorded}

abbrev pub carried : List Done → Kept → Carried
carried done kept = record { done = done; kept = kept }

-- what was done, and behind it what a plan comes to
abbrev pub behind : List Done → Carried → Carried
behind done carried = record carried { done = done ++ carried.done }

-- the parts of a plan that begins with a command
pub record BeginsWith (d : Done) (done : List Done) (after : Kept) (first : Done) (later : Carried) : Type 0 where
  pub command : first ≡ d
  pub rest : later ≡ record { done = done; kept = after }

begins_with : (d : Done) (done : List Done) (after : Kept) (first : Done) (later : Carried)
    → before first later ≡ record { done = d ∷ done; kept = after }
    → BeginsWith d done after first later
begins_with d done after first later is =
    let commands : (first ∷ later.done) ≡ (d ∷ done) = ap (λ (c : Carried). c.done) is in
    let kept : later.kept ≡ after = ap (λ (c : Carried). c.kept) is in
    let rest : later.done ≡ done = cc in
    record {
      command = cc;
      rest = ap (λ ds. carried ds later.kept) rest ∙ ap (carried done) kept;
    }

pub answers_of-append : (front back : List Done) → answers_of (front ++ back) ≡ answers_of front ++ answers_of back
answers_of-append [] back = refl
answers_of-append (d ∷ front) back = ap (λ answers. d.ok ∷ answers) (answers_of-append front back)

-- one turn, where what comes later goes on like that
turn_behind : (command : Option Command) (kept after : Kept) (done : List Done) (rest : List Bool) (first whole : Kept → List Bool → Carried) (others : Carried)
    → ((kept : Kept) (done : List Done) → first kept (answers_of done) ≡ record { done = done; kept = after } → whole kept (answers_of done ++ rest) ≡ behind done others)
    → take_turn command kept (answers_of done) first ≡ record { done = done; kept = after }
    → take_turn command kept (answers_of done ++ rest) whole ≡ behind done others
turn_behind None kept after done rest first whole others next is = next kept done is
turn_behind (Some c) kept after [] rest first whole others next is =
    let commands = ap (λ (c : Carried). c.done) is in
    cc
turn_behind (Some c) kept after (d ∷ done) rest first whole others next is =
    let parts = begins_with d done after (done_as c kept d.ok) _ is in
    ap (before (done_as c kept d.ok)) (next _ done parts.rest) ∙ ap (λ x. before x (behind done others)) parts.command

module _ (t : Topology) (values : Unit → ℕ) where
  -- some turns whose plan used up exactly these answers, and others after them: these begin with the record that the first
  -- left, and with the answers that are left
  pub plan-behind : (turns others : List Turn) (kept after : Kept) (done : List Done) (rest : List Bool)
      → plan t values turns kept (answers_of done) ≡ record { done = done; kept = after }
      → plan t values (turns ++ others) kept (answers_of done ++ rest) ≡ behind done (plan t values others after rest)
  plan-behind [] others kept after done rest is =
      let none : [] ≡ done = ap (λ (c : Carried). c.done) is in
      let same : kept ≡ after = ap (λ (c : Carried). c.kept) is in
      let P : List Done → Type 0 = λ done. plan t values others kept (answers_of done ++ rest) ≡ behind done (plan t values others after rest) in
      subst P none (ap (λ kept. plan t values others kept rest) same)
  plan-behind (turn ∷ turns) others kept after done rest is =
      turn_behind (due t values kept turn) kept after done rest (plan t values turns) (plan t values (turns ++ others)) (plan t values others after rest)
      (λ kept done. plan-behind turns others kept after done rest) is

  -- the plan of some turns and then others, each of which used up exactly its answers
  pub plan-append : (turns others : List Turn) (kept middle after : Kept) (front back : List Done)
      → plan t values turns kept (answers_of front) ≡ record { done = front; kept = middle }
      → plan t values others middle (answers_of back) ≡ record { done = back; kept = after }
      → plan t values (turns ++ others) kept (answers_of (front ++ back)) ≡ record { done = front ++ back; kept = after }
  plan-append turns others kept middle after front back first second =
      ap (plan t values (turns ++ others) kept) (answers_of-append front back)
      ∙ plan-behind turns others kept middle front (answers_of back) first
      ∙ ap (behind front) second

  turn_used : (command : Option Command) (kept : Kept) (answers : List Bool) (later : Kept → List Bool → Carried)
      → ((kept : Kept) (answers : List Bool) → later kept (answers_of (later kept answers).done) ≡ later kept answers)
      → take_turn command kept (answers_of (take_turn command kept answers later).done) later ≡ take_turn command kept answers later
  turn_used None kept answers later next = next kept answers
  turn_used (Some c) kept answers later next =
      ap (before (done_as c kept (next_answer answers))) (next (after_answer c (next_answer answers) kept) (later_answers answers))

  -- a plan depends only on the answers of its own commands
  pub plan-used : (turns : List Turn) (kept : Kept) (answers : List Bool)
      → plan t values turns kept (answers_of (plan t values turns kept answers).done) ≡ plan t values turns kept answers
  plan-used [] kept answers = refl
  plan-used (turn ∷ turns) kept answers =
      turn_used (due t values kept turn) kept answers (plan t values turns) (plan-used turns)

  -- the record after a plan is the record once its commands were done
  turn_recorded : (command : Option Command) (kept : Kept) (answers : List Bool) (later : Kept → List Bool → Carried)
      → ((kept : Kept) (answers : List Bool) → (later kept answers).kept ≡ recorded kept (later kept answers).done)
      → (take_turn command kept answers later).kept ≡ recorded kept (take_turn command kept answers later).done
  turn_recorded None kept answers later next = next kept answers
  turn_recorded (Some c) kept answers later next = next (after_answer c (next_answer answers) kept) (later_answers answers)

  pub plan-recorded : (turns : List Turn) (kept : Kept) (answers : List Bool)
      → (plan t values turns kept answers).kept ≡ recorded kept (plan t values turns kept answers).done
  plan-recorded [] kept answers = refl
  plan-recorded (turn ∷ turns) kept answers =
      turn_recorded (due t values kept turn) kept answers (plan t values turns) (plan-recorded turns)

-- this holds of each command, with the record as it stands before it
abbrev pub Along : (Kept → Done → Type 0) → Kept → List Done → Type 0
Along P kept [] = ⊤
Along P kept (d ∷ done) = P kept d × Along P (after_answer d.command d.ok kept) done

-- it holds along a plan where it holds of the command of each turn
module _ (t : Topology) (values : Unit → ℕ) (P : Kept → Done → Type 0) (q : Turn → Bool)
    (each : (turn : Turn) (kept : Kept) (c : Command) (ok : Bool) → q turn ≡ true → due t values kept turn ≡ Some c → P kept (done_as c kept ok)) where
  turn_along : (turn : Turn) (command : Option Command) (kept : Kept) (answers : List Bool) (later : Kept → List Bool → Carried)
      → q turn ≡ true
      → due t values kept turn ≡ command
      → ((kept : Kept) (answers : List Bool) → Along P kept (later kept answers).done)
      → Along P kept (take_turn command kept answers later).done
  turn_along turn None kept answers later is none next = next kept answers
  turn_along turn (Some c) kept answers later is some next =
      (each turn kept c (next_answer answers) is some, next (after_answer c (next_answer answers) kept) (later_answers answers))

  pub along_plan : (turns : List Turn) (kept : Kept) (answers : List Bool)
      → list_all q turns ≡ true → Along P kept (plan t values turns kept answers).done
  along_plan [] kept answers all = tt
  along_plan (turn ∷ turns) kept answers all =
      let parts = and_parts (q turn) (list_all q turns) all in
      turn_along turn (due t values kept turn) kept answers (plan t values turns) parts.0 refl (λ kept answers. along_plan turns kept answers parts.1)
