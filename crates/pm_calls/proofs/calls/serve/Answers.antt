use Rattle.std.proofs.Common.{refl}
use Rattle.pm_calls.specs.calls.{called}
use Rattle.pm_calls.specs.Verdict.{stages_of}
use Rattle.pm_values.proofs.AlongLaw.{once_trailed}
use Rattle.pm_calls.proofs.CallsOnce.{called_once, once_of}
use Rattle.pm_calls.proofs.calls.serve.Goals as goal

pub returns-in_default : goal.returns-in_default
returns-in_default c =
    let book = c.args.tables.now in
    record {
      verdict = c.serve_once.ensures.verdict;
      book = c.serve_once.ensures.book;
      written = c.serve_once.ensures.written;
      along = once_trailed (stages_of (called c.args.master c.args.call.now book)) book c.serve_once.new.tables c.args.along.now
          (called_once c.args.master c.args.call.now book (once_of c.args.call.now c.in_default.not-ForcePowerdown c.in_default.not-SystemShutdown))
          c.requires.along c.serve_once.ensures.book;
      still = λ is. refl;
    }
