use Rattle.std.proofs.Common.{sym}
use Rattle.pm_modules.proofs.ModulesLemmas.{none_below}
use Rattle.pm_modules.proofs.modules.ModulesOf.answer.Goals as goal

pub returns-then-message-lt-FIRST_WORD : goal.returns-then-message-lt-FIRST_WORD
returns-then-message-lt-FIRST_WORD g c = sym (none_below g.H.Responder c.args.self.now.modules.items c.args.message.now c.if-message-lt-FIRST_WORD.true)
