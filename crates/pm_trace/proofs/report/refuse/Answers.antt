use Rattle.std.proofs.Common.{◌∙◌}
use Rattle.pm_trace.proofs.ReportLemmas.{Reports-refusal}
use Rattle.pm_trace.proofs.report.refuse.Goals as goal

pub returns : goal.returns
returns g c = Reports-refusal g.O.Sink c.args.fault _ c.args.out.now c.write_all.new.sink c.write_all.result c.exit.result (c.as_slice.ensures.value ∙ c.write_fault.ensures) c.exit.ensures c.write_all.ensures.written c.write_all.ensures.short
