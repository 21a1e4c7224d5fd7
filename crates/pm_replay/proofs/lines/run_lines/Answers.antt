use Rattle.std.proofs.Common.{rules, ◌≡◌, sym}
use Rattle.pm_reader.specs.Front.{ran}
use Rattle.pm_reader.proofs.ShownLemmas.{followed_read, read_more}
use Rattle.pm_replay.proofs.LinesLemmas.{holds_same, ran_lines}
use Rattle.pm_replay.proofs.lines.run_lines.Goals as goal

pub returns-clause-ran : goal.returns-clause-ran
returns-clause-ran g c = λ ahead front cs is told.
    let new = c.follow.new.follower in
    let followed = c.follow.ensures.followed ahead front in
    let same = holds_same g.O.Sink g.D.Device g.H.Responder g.T.Handler 1 _ _ new c.follow.result followed.followed.holds.1 in
    let engine : c.engine-1.given.0 ≡ new.engine.now = search (rules, sym, c.engine-1.given.1, same.engine) in
    let out : c.out-1.given.0 ≡ new.out.now = search (rules, sym, c.out-1.given.1, same.out) in
    let dev : c.dev-1.given.0 ≡ new.dev.now = search (rules, sym, c.dev-1.given.1, same.dev) in
    rw (engine, out, dev) (read_more g.I.Inputs.observable c.args.id _ _ _ _
    (λ s did. (did.0, ran_lines g.O.Sink g.D.Device g.H.Responder g.T.Handler cs 1 (ran s) _ new c.follow.result is told did.1))
    (followed_read _ g.I.Inputs.observable c.args.id ahead (g.I.Inputs.state c.follow.new.inputs) _ new c.follow.result followed (c.follow.ensures.reads ahead front)))

-- the tasks that the player gives back are those of the board
pub shape_of-board : goal.shape_of-board
shape_of-board g c =
    sym (holds_same g.O.Sink g.D.Device g.H.Responder g.T.Handler 1 _ _ c.follow.new.follower c.follow.result (c.follow.ensures.followed c.requires.front.0 c.requires.front.1).followed.holds.1).tasks

pub returns-clause-ends : goal.returns-clause-ends
returns-clause-ends g c = (c.follow.ensures.followed c.requires.front.0 c.requires.front.1).ends

pub returns-clause-fault : goal.returns-clause-fault
returns-clause-fault g c = λ ahead front. (c.follow.ensures.followed ahead front).fault

pub returns-clause-reads : goal.returns-clause-reads
returns-clause-reads g c = c.follow.ensures.reads
