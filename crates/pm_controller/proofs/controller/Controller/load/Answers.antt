use Rattle.std.proofs.Common.{◌≡◌, ℕ, List, Result, Ok, ap, length, subst, sym, ◌∙◌}
use Rattle.std.specs.Prelude.{IfOk}
use Rattle.std.proofs.lemmas.Result.{IfOk-at_ok}
use Rattle.pm_object.specs.declared.attached.Attached.{Attached}
use Rattle.pm_object.specs.declared.object.Object.{Object}
use Rattle.pm_topology.specs.declared.topology.Topology.{Topology}
use Rattle.pm_topology.specs.WellFormed.{IsWellFormed}
use Rattle.pm_state.specs.Load.{load_of}
use Rattle.pm_state.specs.State.{State}
use Rattle.pm_core.specs.declared.outbox.Outbox.{Outbox}
use Rattle.pm_core.specs.Outbox.{HasRoom, HasRoomFor, Holds}
use Rattle.pm_core.specs.Step.{outputs_at_load}
use Rattle.pm_record.specs.Record.{IsRecordOf, Kept, at_zero}
use Rattle.pm_controller.specs.Steps.{StepBegins}
use Rattle.pm_controller.proofs.controller.Controller.load.Goals as goal

pub load-book-requires : goal.load-book-requires
load-book-requires c =
    let given = c.in_ok-object in
    let Formed : Object × Topology → Type 0 = λ g. IsWellFormed g.1 in
    let Room : Object × Topology → Type 0 = λ g. HasRoom g.1 (length g.0.masters) given.outbox in
    let room : HasRoom c.args.topology c.len.result given.outbox =
    IfOk-at_ok (λ (b : Kept × Outbox). HasRoom c.args.topology c.len.result b.1) given.ensures.1 c.beside_of-beside.ensures.room
    in
    record {
      formed = subst Formed (sym given.ensures.0) c.requires.formed;
      room = subst Room (sym given.ensures.0) (subst (λ (n : ℕ). HasRoom c.args.topology n given.outbox) c.len.ensures room);
    }

-- the book that was loaded
book_is : {E : Type 0} (object : Object) (attached : List Attached) (t : Topology) (given : Object × Topology) (loaded : Result State E) (book : State)
    → given ≡ (object, t) → loaded ≡ Ok book → IfOk loaded (λ b. b ≡ load_of given.0 attached given.1) → book ≡ load_of object attached t
book_is object attached t given loaded book same made is =
    IfOk-at_ok (λ (b : State). b ≡ load_of given.0 attached given.1) made is ∙ ap (λ (g : Object × Topology). load_of g.0 attached g.1) same

pub begun-requires : goal.begun-requires
begun-requires c =
    let given = c.in_ok-object in
    let later = c.in_ok-kept in
    let after : Outbox = c.load-book.new.out in
    let topology = c.args.topology in
    let is = book_is c.args.object c.new.result topology (given.object, given.topology) c.load-book.result later.book given.ensures.0 later.ensures.1 c.load-book.ensures.book in
    let known : IsRecordOf topology given.kept = IfOk-at_ok (λ (b : Kept × Outbox). IsRecordOf topology b.0) given.ensures.1 c.beside_of-beside.ensures.known in
    let kept : later.kept ≡ given.kept = ap (λ (b : Kept × Outbox). b.0) later.ensures.0 in
    let out : later.outbox ≡ after = ap (λ (b : Kept × Outbox). b.1) later.ensures.0 in
    record {
      known = subst (λ (t : Topology). IsRecordOf t later.kept) (sym (ap (λ (b : State). b.fixed.topology) is)) (subst (λ (k : Kept). IsRecordOf topology k) (sym kept) known);
      out = subst (λ (o : Outbox). Holds (outputs_at_load later.book) o) (sym out)
          (IfOk-at_ok (λ (b : State). Holds (outputs_at_load b) after) later.ensures.1 c.load-book.ensures.out);
      ready = subst (λ (o : Outbox). HasRoomFor later.book o) (sym out) (IfOk-at_ok (λ (b : State). HasRoomFor b after) later.ensures.1 c.load-book.ensures.ready);
    }

pub returns : goal.returns
returns c =
    let given = c.in_ok-object in
    let later = c.in_ok-kept in
    let topology = c.args.topology in
    let is = book_is c.args.object c.new.result topology (given.object, given.topology) c.load-book.result later.book given.ensures.0 later.ensures.1 c.load-book.ensures.book in
    let first : given.kept ≡ at_zero topology = IfOk-at_ok (λ (b : Kept × Outbox). b.0 ≡ at_zero topology) given.ensures.1 c.beside_of-beside.ensures.first in
    let kept : later.kept ≡ given.kept = ap (λ (b : Kept × Outbox). b.0) later.ensures.0 in
    record {
      loaded = record {
        book = c.begun.ensures.book ∙ is ∙ ap (λ (attached : List Attached). load_of c.args.object attached topology) c.new.ensures;
        step = subst (λ (k : Kept). StepBegins k (outputs_at_load c.begun.result.book) c.begun.result) (kept ∙ first) c.begun.ensures.step;
      };
    }
