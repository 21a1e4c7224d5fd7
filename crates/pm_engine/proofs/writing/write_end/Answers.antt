use Rattle.std.proofs.Common.{List, ℕ, ◌∙◌, sym, subst}
use Rattle.std.proofs.lemmas.List.{append-nil}
use Rattle.pm_drive.specs.Clocks.{end_line}
use Rattle.pm_engine.specs.Writes.{Writes}
use Rattle.pm_engine.proofs.WritesLemmas.{wrote_by}
use Rattle.pm_engine.proofs.writing.write_end.Goals as goal

pub returns : goal.returns
returns g c =
    let P : List ℕ → Type 0 = λ text. Writes g.O.Sink text c.args.out.now c.write_all.new.sink c.write_all.result in
    subst P (c.as_slice.ensures.value ∙ (c.clock_closing.ensures ∙ sym (append-nil (end_line c.args.end))))
    (wrote_by g.O.Sink c.as_slice.result.now c.args.out.now c.write_all.new.sink c.write_all.result c.write_all.ensures.written c.write_all.ensures.short)
