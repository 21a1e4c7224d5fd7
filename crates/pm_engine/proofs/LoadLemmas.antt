-- What is made one after another at a load, each with what was made before it.
use Rattle.std.proofs.Common.{◌≡◌, List, Result, Ok, ap, subst, sym, ◌∙◌}
use Rattle.std.specs.Prelude.{IfOk}
use Rattle.pm_base.specs.declared.errors.NoMemory.{NoMemory}
use Rattle.pm_object.specs.declared.attached.Attached.{Attached}
use Rattle.pm_object.specs.declared.object.Object.{Object}
use Rattle.pm_topology.specs.declared.topology.Topology.{Topology}
use Rattle.pm_state.specs.Load.{load_of}
use Rattle.pm_state.specs.State.{State}
use Rattle.pm_core.specs.Outbox.{Holds}
use Rattle.pm_core.specs.Step.{outputs_at_load}
use Rattle.pm_clock_tree.specs.Told.{Clocked}
use Rattle.pm_record.specs.Record.{IsRecordOf, Kept, at_zero}
use Rattle.pm_run.specs.declared.runner.Runner.{Runner}
use Rattle.pm_run.specs.Run.{Stand, loaded, setup, stand_at}
use Rattle.pm_engine.specs.Progress.{AreOf, IsOver}

-- what holds of a result where it is there
in_ok : {A E : Type 0} (P : A → Type 0) (made : Result A E) (it : A) → made ≡ Ok it → IfOk made P → P it
in_ok {A} {E} P made it is holds = subst (λ (r : Result A E). IfOk r P) is holds

-- a runner, a record and clocks are those of an object at load
pub record IsMade (object : Object) (attached : List Attached) (t : Topology) (r : Runner) (k : Kept) (it : Clocked) : Type 0 where
  pub book : r.book ≡ load_of object attached t
  pub boxes : r.boxes ≡ (loaded (setup object attached t)).boxes
  pub out : Holds (outputs_at_load r.book) r.outbox
  pub kept : k ≡ at_zero t
  pub is_record : IsRecordOf r.book.fixed.topology k
  pub clocks : AreOf r.book it
  pub over : IsOver r.book it.tree

-- the record was made, then the runner, and then the clocks over that runner
pub all_made : (object o : Object) (attached a : List Attached) (t t' : Topology) (first second third : Kept) (one two : Runner) (clocks : Clocked)
    (kept_made : Result Kept NoMemory) (runner_made : Result Runner NoMemory) (clocks_made : Result Clocked NoMemory)
    → ◌≡◌ {A = Topology × (Object × List Attached)} (t', (o, a)) (t, (object, attached))
    → kept_made ≡ Ok first → second ≡ first → runner_made ≡ Ok one → ◌≡◌ {A = Runner × Kept} (two, third) (one, second) → clocks_made ≡ Ok clocks
    → IfOk kept_made (λ (k : Kept). k ≡ at_zero t) → IfOk kept_made (λ (k : Kept). IsRecordOf t k)
    → IfOk runner_made (λ (r : Runner). r.book ≡ load_of o a t') → IfOk runner_made (λ (r : Runner). stand_at r.book r.boxes ≡ loaded (setup o a t'))
    → IfOk runner_made (λ (r : Runner). Holds (outputs_at_load r.book) r.outbox)
    → IfOk clocks_made (λ (it : Clocked). AreOf one.book it)
    → IsMade object attached t two third clocks
all_made object o attached a t t' first second third one two clocks kept_made runner_made clocks_made given kept_there kept_stays runner_there both clocks_there zero recorded book stands out are =
    let Given : Type 0 = Topology × (Object × List Attached) in
    let runner : two ≡ one = ap (λ (p : Runner × Kept). p.0) both in
    let kept : third ≡ first = ap (λ (p : Runner × Kept). p.1) both ∙ kept_stays in
    let at_load : two.book ≡ load_of object attached t =
    ap (λ (r : Runner). r.book) runner
    ∙ in_ok (λ (r : Runner). r.book ≡ load_of o a t') runner_made one runner_there book
    ∙ ap (λ (g : Given). load_of g.1.0 g.1.1 g.0) given
    in
    let Over : State → Type 0 = λ b. IsRecordOf b.fixed.topology third in
    let Clocks : Runner → Type 0 = λ r. AreOf r.book clocks in
    let theirs : AreOf two.book clocks = subst Clocks (sym runner) (in_ok (λ (it : Clocked). AreOf one.book it) clocks_made clocks clocks_there are) in
    record {
      book = at_load;
      boxes =
          ap (λ (r : Runner). r.boxes) runner
          ∙ ap (λ (s : Stand). s.boxes) (in_ok (λ (r : Runner). stand_at r.book r.boxes ≡ loaded (setup o a t')) runner_made one runner_there stands)
          ∙ ap (λ (g : Given). (loaded (setup g.1.0 g.1.1 g.0)).boxes) given;
      out = subst (λ (r : Runner). Holds (outputs_at_load r.book) r.outbox) (sym runner)
          (in_ok (λ (r : Runner). Holds (outputs_at_load r.book) r.outbox) runner_made one runner_there out);
      kept = kept ∙ in_ok (λ (k : Kept). k ≡ at_zero t) kept_made first kept_there zero;
      is_record = subst Over (sym at_load)
          (subst (λ (k : Kept). IsRecordOf t k) (sym kept) (in_ok (λ (k : Kept). IsRecordOf t k) kept_made first kept_there recorded));
      clocks = theirs;
      over = theirs.over;
    }
