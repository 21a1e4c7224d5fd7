use Rattle.pm_script.proofs.NamedLemmas.{read_whole, script_cause, script_none, script_some, script_unread}
use Rattle.pm_script.proofs.laws.scripts_are_read.Goals as goal

pub returns : goal.returns
returns c = record {
  unbegun = script_none;
  begun = script_some;
  fails = script_unread;
  whole = read_whole;
  cause = script_cause;
}
