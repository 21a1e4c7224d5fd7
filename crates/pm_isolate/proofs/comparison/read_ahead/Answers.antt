-- What the block attaches is what was read. If memory runs out the script was read up to some point.
use Rattle.std.proofs.Common.{◌≡◌, List, Ok, map, subst, sym}
use Rattle.std.proofs.lemmas.Result.{IfOk-at_ok, IfOk-weaker}
use Rattle.pm_object.specs.declared.attached.Attached.{Attached}
use Rattle.pm_block.specs.declared.block.Piece.{Piece}
use Rattle.pm_block.specs.Pieces.{attached_in, kept}
use Rattle.pm_reader.specs.declared.follow.Front.{Front}
use Rattle.pm_reader.specs.Front.{Attaches, ahead_of}
use Rattle.pm_reader.proofs.AheadLemmas.{attaches_by, read_calls}
use Rattle.pm_isolate.proofs.comparison.read_ahead.Goals as goal

pub returns-clause-ahead : goal.returns-clause-ahead
returns-clause-ahead g c =
    let shown = g.I.Inputs.observable in
    let old = g.I.Inputs.state c.args.inputs.now in
    let new = g.I.Inputs.state c.read.new.inputs in
    let front = c.in_ok-front.front in
    let read = c.in_ok-front.ensures.ahead in
    IfOk-weaker c.with.result (λ (both : Front × List Attached). (both.0 ≡ front) × (c.attached-attached.result ≡ Ok both.1)) (λ (both : Front × List Attached). Attaches shown c.args.id (ahead_of old both.1) new both.0)
    (λ both is.
    let made : both.1 ≡ map attached_in read.pieces =
    IfOk-at_ok (λ (list : List Attached). (pieces : List Piece) → c.read.new.block ≡ map kept pieces → list ≡ map attached_in pieces) is.1 c.attached-attached.ensures read.pieces read.is_kept
    in
    subst (λ (f : Front). Attaches shown c.args.id (ahead_of old both.1) new f) (sym is.0) (attaches_by shown c.args.id old new c.read.new.block front read both.1 made))
    c.with.ensures

pub returns-clause-reads : goal.returns-clause-reads
returns-clause-reads g c =
    read_calls g.I.Inputs.observable c.args.id (g.I.Inputs.state c.args.inputs.now) (g.I.Inputs.state c.read.new.inputs) c.read.new.block c.in_ok-front.front c.in_ok-front.ensures.ahead
