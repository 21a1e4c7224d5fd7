use Rattle.std.proofs.Common.{Option, subst, sym}
use Rattle.pm_split.specs.declared.cores.OwnNote.{OwnNote}
use Rattle.pm_split.specs.Split.{noted}
use Rattle.pm_trace.specs.Notes.{notes_text}
use Rattle.pm_engine.specs.Writes.{WritesOn}
use Rattle.pm_engine.proofs.WritesLemmas.{on-none}
use Rattle.pm_engine.proofs.writing.note_on.Goals as goal

pub returns-in-None : goal.returns-in-None
returns-in-None g c =
    let P : Option OwnNote → Type 0 = λ busy. WritesOn g.O.Sink (notes_text c.args.number (noted busy)) c.args.written c.args.written c.args.out.now c.args.out.now in
    subst P (sym c.in-None.is) (on-none g.O.Sink c.args.written c.args.out.now)
