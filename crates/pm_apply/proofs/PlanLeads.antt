-- What holds of the record and of the commands so far, carried turn by turn along a plan, under any answers.
use Rattle.std.proofs.Common.{◌≡◌, ℕ, Bool, Option, Some, None, List, [], ◌∷◌, ◌++◌, refl, ap, sym, subst, append_assoc, append-nil}
use Rattle.pm_base.specs.declared.names.Unit.{Unit}
use Rattle.pm_base.specs.declared.names.Command.{Command}
use Rattle.pm_topology.specs.declared.topology.Topology.{Topology}
use Rattle.pm_core.specs.declared.outbox.Done.{Done}
use Rattle.pm_record.specs.Record.{Kept, after_answer}
use Rattle.pm_apply.specs.declared.turns.Turn.{Turn}
use Rattle.pm_apply.specs.Plan.{plan, due, take_turn, before, done_as, next_answer, later_answers, Carried}
use Rattle.pm_apply.proofs.PlanLemmas.{behind}

-- what may hold of the record and of the commands so far
abbrev pub Fact : Type 1
Fact = Kept → List Done → Type 0

turn_parts : (command : Option Command) (kept : Kept) (answers : List Bool) (first whole others : Kept → List Bool → Carried)
    → ((kept : Kept) (answers : List Bool) → (later : List Bool) × (whole kept answers ≡ behind (first kept answers).done (others (first kept answers).kept later)))
    → (later : List Bool) × (take_turn command kept answers whole ≡ behind (take_turn command kept answers first).done (others (take_turn command kept answers first).kept later))
turn_parts None kept answers first whole others next = next kept answers
turn_parts (Some c) kept answers first whole others next =
    let found = next (after_answer c (next_answer answers) kept) (later_answers answers) in
    (found.0, ap (before (done_as c kept (next_answer answers))) found.1)

module _ (t : Topology) (values : Unit → ℕ) where
  -- the plan of some turns and others is that of the first and, with the answers that are left, that of the others
  pub plan-parts : (turns others : List Turn) (kept : Kept) (answers : List Bool)
      → (later : List Bool) × (plan t values (turns ++ others) kept answers ≡ behind (plan t values turns kept answers).done (plan t values others (plan t values turns kept answers).kept later))
  plan-parts [] others kept answers = (answers, refl)
  plan-parts (turn ∷ turns) others kept answers =
      turn_parts (due t values kept turn) kept answers (plan t values turns) (plan t values (turns ++ others)) (plan t values others) (plan-parts turns others)

  -- where the one holds before these turns, the other holds after them
  abbrev pub Leads : Fact → List Turn → Fact → Type 0
  Leads I turns F = (kept : Kept) (front : List Done) (answers : List Bool) → I kept front → F (plan t values turns kept answers).kept (front ++ (plan t values turns kept answers).done)

  pub leads_none : (I F : Fact) → ((kept : Kept) (front : List Done) → I kept front → F kept front) → Leads I [] F
  leads_none I F now kept front answers holds =
      subst (F kept) (sym (append-nil front)) (now kept front holds)

  module _ (I M F : Fact) where
    leads_through : (turn : Turn) (command : Option Command) (kept : Kept) (front : List Done) (answers : List Bool) (later : Kept → List Bool → Carried)
        → (due t values kept turn ≡ None → M kept front)
        → ((c : Command) (ok : Bool) → due t values kept turn ≡ Some c → M (after_answer c ok kept) (front ++ done_as c kept ok ∷ []))
        → ((kept : Kept) (front : List Done) (answers : List Bool) → M kept front → F (later kept answers).kept (front ++ (later kept answers).done))
        → due t values kept turn ≡ command
        → F (take_turn command kept answers later).kept (front ++ (take_turn command kept answers later).done)
    leads_through turn None kept front answers later skips issues next is = next kept front answers (skips is)
    leads_through turn (Some c) kept front answers later skips issues next is =
        let ok = next_answer answers in
        let d = done_as c kept ok in
        let rest = later (after_answer c ok kept) (later_answers answers) in
        subst (F rest.kept) (append_assoc front (d ∷ []) rest.done)
        (next (after_answer c ok kept) (front ++ d ∷ []) (later_answers answers) (issues c ok is))

    -- a turn that has no command, and one that has one, with either answer
    pub leads_turn : (turn : Turn) (turns : List Turn)
        → ((kept : Kept) (front : List Done) → I kept front → due t values kept turn ≡ None → M kept front)
        → ((kept : Kept) (front : List Done) → I kept front → (c : Command) (ok : Bool) → due t values kept turn ≡ Some c → M (after_answer c ok kept) (front ++ done_as c kept ok ∷ []))
        → Leads M turns F
        → Leads I (turn ∷ turns) F
    leads_turn turn turns skips issues next kept front answers holds =
        leads_through turn (due t values kept turn) kept front answers (plan t values turns)
        (skips kept front holds) (issues kept front holds) next refl

    pub leads_append : (turns others : List Turn) → Leads I turns M → Leads M others F → Leads I (turns ++ others) F
    leads_append turns others first second kept front answers holds =
        let done = (plan t values turns kept answers).done in
        let middle = (plan t values turns kept answers).kept in
        let parts = plan-parts turns others kept answers in
        let rest = plan t values others middle parts.0 in
        let Q : Carried → Type 0 = λ carried. F carried.kept (front ++ carried.done) in
        subst Q (sym parts.1)
        (subst (F rest.kept) (append_assoc front done rest.done)
        (second middle (front ++ done) parts.0 (first kept front answers holds)))
