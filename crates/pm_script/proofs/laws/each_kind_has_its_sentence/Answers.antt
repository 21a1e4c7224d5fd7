use Rattle.std.proofs.Common.{refl}
use Rattle.pm_script.proofs.SentencesLemmas.{attaches, boots, breaks, calls, cancels, interrupts, mends, message, none_found, posts, serves, starts, ticks, waits, wakes}
use Rattle.pm_script.proofs.laws.each_kind_has_its_sentence.Goals as goal

pub returns : goal.returns
returns c = record {
  empty = refl;
  ipi = message;
  boot = boots;
  wfi = waits;
  irq = interrupts;
  gic = wakes;
  tick = ticks;
  post = posts;
  serve = serves;
  smc = calls;
  task = starts;
  cancel = cancels;
  object = attaches;
  break_ = breaks;
  mend = mends;
  unknown = none_found;
}
