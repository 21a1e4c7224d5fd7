use Rattle.std.proofs.Common.{◌∙◌, List, ℕ, subst}
use Rattle.pm_engine.specs.Writes.{Writes}
use Rattle.pm_engine.proofs.WritesLemmas.{wrote_by}
use Rattle.pm_engine.proofs.writing.write_nonempty.Goals as goal

pub returns-then-fill : goal.returns-then-fill
returns-then-fill g c =
    let P : List ℕ → Type 0 = λ text. Writes g.O.Sink text c.args.out.now c.write_all.new.sink c.write_all.result in
    subst P (c.as_slice.ensures.value ∙ c.fill.ensures c.if-fill.true)
    (wrote_by g.O.Sink c.as_slice.result.now c.args.out.now c.write_all.new.sink c.write_all.result c.write_all.ensures.written c.write_all.ensures.short)
