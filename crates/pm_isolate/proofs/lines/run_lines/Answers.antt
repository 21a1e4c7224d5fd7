use Rattle.std.proofs.Common.{rules, ◌≡◌, sym}
use Rattle.pm_reader.specs.Front.{ran}
use Rattle.pm_reader.proofs.ShownLemmas.{followed_read, read_more}
use Rattle.pm_isolate.proofs.LinesLemmas.{lines_end, watches_same}
use Rattle.pm_isolate.proofs.lines.run_lines.Goals as goal

pub returns-clause-ran : goal.returns-clause-ran
returns-clause-ran g c = λ ahead front.
    let new = c.follow.new.follower in
    let followed = c.follow.ensures.followed ahead front in
    let same = watches_same _ _ new c.follow.result followed.followed.holds.1 in
    let worlds : c.worlds-1.given.0 ≡ new.worlds.now = search (rules, sym, c.worlds-1.given.1, same) in
    rw worlds (read_more g.I.Inputs.observable c.args.id _ _ _ _ (λ s did. (did.0, lines_end (ran s) _ new c.follow.result did.1))
    (followed_read _ g.I.Inputs.observable c.args.id ahead (g.I.Inputs.state c.follow.new.inputs) _ new c.follow.result followed (c.follow.ensures.reads ahead front)))

pub returns-clause-ends : goal.returns-clause-ends
returns-clause-ends g c = (c.follow.ensures.followed c.requires.front.0 c.requires.front.1).ends

pub returns-clause-fault : goal.returns-clause-fault
returns-clause-fault g c = λ ahead front. (c.follow.ensures.followed ahead front).fault

pub returns-clause-reads : goal.returns-clause-reads
returns-clause-reads g c = c.follow.ensures.reads
