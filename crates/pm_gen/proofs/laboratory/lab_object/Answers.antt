use Rattle.std.proofs.Common.{◌∙◌}
use Rattle.pm_gen.proofs.LaboratoryLemmas.{is_laboratory, is_without_fault}
use Rattle.pm_gen.proofs.laboratory.lab_object.Goals as goal

pub returns-in-Ok-clause-exact : goal.returns-in-Ok-clause-exact
returns-in-Ok-clause-exact c = is_laboratory c.as_slice.result.now c.in-Ok.object c.in-Ok.ensures.found (c.as_slice.ensures.value ∙ c.in_ok-bytes.ensures)

pub unreachable-requires : goal.unreachable-requires
unreachable-requires c =
    is_without_fault c.in-Err-Bad.is c.in-Err-Bad.field-0-is c.decode.ensures.bad (c.as_slice.ensures.value ∙ c.in_ok-bytes.ensures)
