use Rattle.pm_io.proofs.ReadingsLemmas.{comes_start}
use Rattle.pm_reader.proofs.GivenLemmas.{grew_more, grew_none, turn_fault, turn_gave}
use Rattle.pm_reader.proofs.ReadsLemmas.{gave_reads, then_fault, then_more}
use Rattle.pm_reader.proofs.reader.LineReader.next.Goals as goal

pub loop-taken-init : goal.loop-taken-init
loop-taken-init g c =
    let m = g.I.Inputs.state c.args.inputs.now in
    record {
      grew = grew_none g.I.Inputs.observable c.args.id c.args.self.now m;
      reads = comes_start c.args.id c.args.self.now.credit c.args.self.now.ended m;
      knows = λ knows. knows;
    }

pub loop-taken-preserved : goal.loop-taken-preserved
loop-taken-preserved g c =
    let old = g.I.Inputs.state c.args.inputs.now in
    let mid = g.I.Inputs.state c.loop-taken.inputs in
    let new = g.I.Inputs.state c.more.new.inputs in
    record {
      grew = grew_more g.I.Inputs.observable c.args.id c.args.self.now c.loop-taken.self c.give.new.self c.more.new.self old mid new c.loop-taken.invariant.grew c.in_default.ensures.gives c.in_default-more.ensures.grew;
      reads = then_more c.args.id c.args.self.now c.loop-taken.self c.give.new.self c.more.new.self old mid new c.in_default.ensures.gives c.loop-taken.invariant.reads c.in_default-more.ensures.reads;
      knows = λ knows. c.in_default-more.ensures.knows;
    }

pub returns-in-Some-clause-turn : goal.returns-in-Some-clause-turn
returns-in-Some-clause-turn g c =
    turn_gave g.I.Inputs.observable c.args.id c.args.self.now c.loop-taken.self c.give.new.self c.in-Some.taken c.give.new.line.items (g.I.Inputs.state c.args.inputs.now) (g.I.Inputs.state c.loop-taken.inputs) c.loop-taken.invariant.grew c.in-Some.ensures.gives

pub returns-in-Some-clause-reads : goal.returns-in-Some-clause-reads
returns-in-Some-clause-reads g c =
    gave_reads c.args.id c.args.self.now c.loop-taken.self c.give.new.self c.in-Some.taken c.give.new.line.items (g.I.Inputs.state c.args.inputs.now) (g.I.Inputs.state c.loop-taken.inputs) c.in-Some.ensures.calm c.in-Some.ensures.gives c.loop-taken.invariant.reads

pub returns-in-Err-clause-turn : goal.returns-in-Err-clause-turn
returns-in-Err-clause-turn g c =
    turn_fault g.I.Inputs.observable c.args.id c.args.self.now c.loop-taken.self c.give.new.self c.more.new.self c.give.new.line.items (g.I.Inputs.state c.args.inputs.now) (g.I.Inputs.state c.loop-taken.inputs) (g.I.Inputs.state c.more.new.inputs) c.loop-taken.invariant.grew c.in_default.ensures.gives c.in-Err.ensures.grew.0 c.in-Err.ensures.grew.1 c.in-Err.ensures.reads

pub returns-in-Err-clause-reads : goal.returns-in-Err-clause-reads
returns-in-Err-clause-reads g c =
    then_fault c.args.id c.args.self.now c.loop-taken.self c.give.new.self c.more.new.self (g.I.Inputs.state c.args.inputs.now) (g.I.Inputs.state c.loop-taken.inputs) (g.I.Inputs.state c.more.new.inputs) c.in_default.ensures.gives c.loop-taken.invariant.reads c.in-Err.ensures.reads
