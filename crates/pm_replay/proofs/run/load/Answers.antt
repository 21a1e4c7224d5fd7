-- The book is loaded with what the block attaches.
use Rattle.std.proofs.Common.{◌≡◌, List, ap, subst, sym, ◌∙◌}
use Rattle.pm_object.specs.declared.attached.Attached.{Attached}
use Rattle.pm_object.specs.declared.object.Object.{Object}
use Rattle.pm_topology.specs.declared.topology.Topology.{Topology}
use Rattle.pm_topology.specs.WellFormed.{IsWellFormed}
use Rattle.pm_reader.specs.declared.follow.Front.{Front}
use Rattle.pm_reader.specs.Front.{Attaches, ahead_of}
use Rattle.pm_run.specs.Run.{setup}
use Rattle.pm_state.specs.Load.{load_of}
use Rattle.pm_state.specs.State.{State}
use Rattle.pm_engine.specs.Progress.{Progress}
use Rattle.pm_replay.proofs.RestLemmas.{in_ok, load_made, setup_loaded}
use Rattle.pm_replay.proofs.run.load.Goals as goal

pub load-engine-requires : goal.load-engine-requires
load-engine-requires g c =
    let P : Object × Topology → Type 0 = λ given. IsWellFormed given.1 in
    record { formed = subst P (sym c.in_ok-object.ensures.0) c.requires.formed }

pub returns-clause-loaded : goal.returns-clause-loaded
returns-clause-loaded g c =
    let made = c.load-engine.ensures in
    load_made c.load-engine.result c.in_ok-front.engine c.in_ok-object.object c.in_ok-object.attached c.in_ok-object.topology c.in_ok-front.ensures.1 made.book made.kept made.boxes made.out made.clocks

pub returns-clause-setup : goal.returns-clause-setup
returns-clause-setup g c =
    let now = c.in_ok-front.engine in
    let Loads : Progress → Type 0 = λ it. it.book ≡ load_of c.in_ok-object.object c.in_ok-object.attached c.in_ok-object.topology in
    setup_loaded now.book c.in_ok-object.object c.in_ok-object.attached c.in_ok-object.topology (in_ok Loads c.load-engine.result now c.in_ok-front.ensures.1 c.load-engine.ensures.book)
    ∙ ap (λ (given : Object × Topology). setup given.0 now.book.fixed.attached given.1) c.in_ok-object.ensures.0

pub returns-clause-front : goal.returns-clause-front
returns-clause-front g c =
    let now = c.in_ok-front.engine in
    let first = g.I.Inputs.state c.args.inputs.now in
    let then = g.I.Inputs.state c.read_block-read.new.inputs in
    let Loads : Progress → Type 0 = λ it. it.book ≡ load_of c.in_ok-object.object c.in_ok-object.attached c.in_ok-object.topology in
    let book = in_ok Loads c.load-engine.result now c.in_ok-front.ensures.1 c.load-engine.ensures.book in
    let Read : Front × List Attached → Type 0 = λ read. Attaches g.I.Inputs.observable c.args.id (ahead_of first read.1) then read.0 in
    let read = in_ok Read c.read_block-read.result (c.in_ok-object.front, c.in_ok-object.attached) c.in_ok-object.ensures.1 c.read_block-read.ensures.front in
    let Over : List Attached → Type 0 = λ attached. Attaches g.I.Inputs.observable c.args.id (ahead_of first attached) then c.in_ok-front.front in
    let With : Front → Type 0 = λ front. Attaches g.I.Inputs.observable c.args.id (ahead_of first c.in_ok-object.attached) then front in
    subst Over (sym (ap (λ (b : State). b.fixed.attached) book)) (subst With (sym c.in_ok-front.ensures.0) read)
