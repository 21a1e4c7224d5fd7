use Rattle.std.proofs.Common.{List, ℕ, ◌∙◌, sym, subst}
use Rattle.std.proofs.lemmas.List.{append-nil}
use Rattle.pm_drive.specs.Clocks.{clock_note}
use Rattle.pm_trace.specs.Notes.{note_line}
use Rattle.pm_engine.specs.Writes.{Writes}
use Rattle.pm_engine.proofs.WritesLemmas.{wrote_by}
use Rattle.pm_engine.proofs.writing.write_clock.Goals as goal

pub returns : goal.returns
returns g c =
    let P : List ℕ → Type 0 = λ text. Writes g.O.Sink text c.args.out.now c.write_all.new.sink c.write_all.result in
    subst P (c.as_slice.ensures.value ∙ (c.clock_line.ensures ∙ sym (append-nil (note_line c.args.number (clock_note c.args.change)))))
    (wrote_by g.O.Sink c.as_slice.result.now c.args.out.now c.write_all.new.sink c.write_all.result c.write_all.ensures.written c.write_all.ensures.short)
