use Rattle.std.proofs.Common.{◌≡◌, ◌⊎◌, Some, subst, sym}
use Rattle.pm_base.specs.declared.events.Event.{Event}
use Rattle.pm_ipi.specs.Calls.{ack_of, call_of, node_of}
use Rattle.pm_core.specs.declared.replies.Answer.TheVariants.{Silent}
use Rattle.pm_core.specs.Step.{acknowledged, answer_to, effect}
use Rattle.pm_causes.specs.Answers.{told}
use Rattle.pm_causes.specs.Causes.{response, status}
use Rattle.pm_causes.proofs.Answered.{dropped, formed, silenced, told_status}
use Rattle.pm_causes.proofs.Statuses.{double_requests, no_accesses, no_features, no_nodes, others_told, successes, unknown_arguments, used_by_others, wrong_modes}
use Rattle.pm_causes.proofs.causes.answers_have_causes.Goals as goal

pub returns : goal.returns
returns c = λ event book. record {
  dropped = λ master. dropped event book master;
  silent = silenced event book;
  told = λ sender message m is heard.
      let P : Event → Type 0 = λ e. (answer_to e book ≡ Silent) ⊎ (told (answer_to e book) ≡ Some (sender, status m (call_of message) book)) in
      subst P (sym is) (told_status sender message m book heard);
  formed = λ sender message m is heard.
      let P : Event → Type 0 = λ e. (answer_to e book ≡ Silent)
      ⊎ (answer_to e book ≡ acknowledged (ack_of (call_of message)) sender (node_of (call_of message)) (response m (call_of message) book) (effect e book)) in
      subst P (sym is) (formed sender message m book heard);
  statuses = λ m call. record {
    success = successes m call book;
    no_feature = no_features m call book;
    unknown_argument = unknown_arguments m call book;
    no_node = no_nodes m call book;
    no_access = no_accesses m call book;
    double_request = double_requests m call book;
    used_by_other = used_by_others m call book;
    other_told = others_told m call book;
    wrong_mode = wrong_modes m call book;
  };
}
