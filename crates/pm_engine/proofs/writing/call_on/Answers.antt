use Rattle.std.proofs.Common.{ℤ, Option, subst, sym}
use Rattle.pm_base.specs.declared.names.NodeId.{NodeId}
use Rattle.pm_split.specs.Split.{noted_call}
use Rattle.pm_trace.specs.Notes.{notes_text}
use Rattle.pm_engine.specs.Writes.{WritesOn}
use Rattle.pm_engine.proofs.WritesLemmas.{on-none}
use Rattle.pm_engine.proofs.writing.call_on.Goals as goal

pub returns-in-None : goal.returns-in-None
returns-in-None g c =
    let P : Option (NodeId × ℤ) → Type 0 = λ called. WritesOn g.O.Sink (notes_text c.args.number (noted_call called)) c.args.written c.args.written c.args.out.now c.args.out.now in
    subst P (sym c.in-None.is) (on-none g.O.Sink c.args.written c.args.out.now)
