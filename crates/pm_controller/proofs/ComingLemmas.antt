-- What a step comes to while its commands are found and answered one by one.
use Rattle.std.proofs.Common.{◌≡◌, ℕ, ◌+◌, ◌&&◌, true, false, drop, slice_get, Bool, Option, Some, List, [], ◌∷◌, ◌++◌, refl, sym, ap, ◌∙◌, append-nil, append_assoc}
use Rattle.std.specs.List.{list_all}
use Rattle.pm_base.specs.declared.names.Command.{Command}
use Rattle.pm_base.specs.declared.names.Unit.{Unit}
use Rattle.pm_topology.specs.declared.topology.Topology.{Topology}
use Rattle.pm_state.specs.State.{State}
use Rattle.pm_state.specs.Values.{value}
use Rattle.pm_core.specs.declared.outbox.Done.{Done}
use Rattle.pm_core.specs.declared.replies.Answer.{Answer}
use Rattle.pm_core.specs.Outbox.{Outputs}
use Rattle.pm_apply.specs.declared.turns.Turn.{Turn}
use Rattle.pm_apply.specs.Failing.{falls_short, told_answer}
use Rattle.pm_apply.specs.Left.{HaveNone}
use Rattle.pm_apply.specs.Part.{Part}
use Rattle.pm_record.specs.Record.{after_answer, Kept, marked}
use Rattle.pm_apply.specs.Plan.{Carried, before, done_as, due, later_answers, next_answer, plan, take_turn}
use Rattle.pm_record.proofs.ListedLemmas.{drop_here}
use Rattle.pm_controller.specs.Controls.{part_with}

module _ (t : Topology) (values : Unit → ℕ) where
  -- turns that have no command add nothing to what comes after them
  pub plan_passed : (turns others : List Turn) (kept : Kept) (answers : List Bool) → HaveNone t values kept turns
      → plan t values (turns ++ others) kept answers ≡ plan t values others kept answers
  plan_passed [] others kept answers none = refl
  plan_passed (turn ∷ turns) others kept answers none =
      ap (λ (command : Option Command). take_turn command kept answers (plan t values (turns ++ others))) none.0
      ∙ plan_passed turns others kept answers none.1

  pub plan_none : (turns : List Turn) (kept : Kept) (answers : List Bool) → HaveNone t values kept turns
      → plan t values turns kept answers ≡ record { done = []; kept = kept }
  plan_none [] kept answers none = refl
  plan_none (turn ∷ turns) kept answers none =
      ap (λ (command : Option Command). take_turn command kept answers (plan t values turns)) none.0 ∙ plan_none turns kept answers none.1

  -- a first turn that has a command
  pub plan_first : (turn : Turn) (turns : List Turn) (kept : Kept) (command : Command) (answers : List Bool) → due t values kept turn ≡ Some command
      → plan t values (turn ∷ turns) kept answers
      ≡ before (done_as command kept (next_answer answers)) (plan t values turns (after_answer command (next_answer answers) kept) (later_answers answers))
  plan_first turn turns kept command answers has =
      ap (λ (command : Option Command). take_turn command kept answers (plan t values turns)) has

module _ (book : State) (outputs : Outputs) where
  -- by its commands and the record that they leave
  abbrev pub part_by : Kept → List Done → Part
  part_by kept commands =
      let after = marked (λ u. value u book) kept in
      record {
        commands = commands;
        kept = after;
        answer = told_answer (falls_short (λ u. value u book) outputs.moved outputs.pulse commands after) outputs.answer;
      }

  -- the first of those that come later stands behind those before
  pub part_moves : (done : List Done) (d : Done) (later : Carried) → part_with book outputs done (before d later) ≡ part_with book outputs (done ++ d ∷ []) later
  part_moves done d later = ap (part_by later.kept) (sym (append_assoc done (d ∷ []) later.done))

  -- where none come
  pub part_ends : (done : List Done) (kept : Kept) → part_with book outputs done (record { done = []; kept = kept }) ≡ part_by kept done
  part_ends done kept = ap (part_by kept) (append-nil done)

  -- by a record that is marked, and the answer by it
  pub part_ended : (kept now : Kept) (done : List Done) (answer : Answer) → now ≡ marked (λ u. value u book) kept
      → answer ≡ told_answer (falls_short (λ u. value u book) outputs.moved outputs.pulse done now) outputs.answer
      → record { commands = done; kept = now; answer = answer } ≡ part_by kept done
  part_ended kept now done answer is told =
      let P : Kept → Answer → Part = λ kept answer. record { commands = done; kept = kept; answer = answer } in
      ap (P now) told ∙ ap (λ now. P now (told_answer (falls_short (λ u. value u book) outputs.moved outputs.pulse done now) outputs.answer)) is

-- what holds of all from a place on
pub all_from : (p : Unit → Bool) (units : List Unit) (k : ℕ) (unit : Unit) → slice_get units k ≡ Some unit
    → list_all p (drop k units) ≡ (p unit && list_all p (drop (k + 1) units))
all_from p units k unit here = ap (list_all p) (drop_here units k unit here)

pub all_fails : (p : Unit → Bool) (units : List Unit) (k : ℕ) (unit : Unit) → list_all p units ≡ list_all p (drop k units) → slice_get units k ≡ Some unit → p unit ≡ false
    → false ≡ list_all p units
all_fails p units k unit so_far here fails = sym (so_far ∙ (all_from p units k unit here ∙ ap (λ b. b && list_all p (drop (k + 1) units)) fails))

pub all_next : (p : Unit → Bool) (units : List Unit) (k : ℕ) (unit : Unit) → list_all p units ≡ list_all p (drop k units) → slice_get units k ≡ Some unit → p unit ≡ true
    → list_all p units ≡ list_all p (drop (k + 1) units)
all_next p units k unit so_far here holds = so_far ∙ (all_from p units k unit here ∙ ap (λ b. b && list_all p (drop (k + 1) units)) holds)
