use Rattle.pm_laws.proofs.CallsAlike.{asked_agrees, proc_views_agree, row_views_agree, suspend_views_agree, wake_views_agree}
use Rattle.pm_laws.proofs.WantedLaw.{wanted_alike}
use Rattle.pm_laws.proofs.laws.views_agree.Goals as goal

pub returns : goal.returns
returns c = record {
  row = row_views_agree;
  proc = proc_views_agree;
  wake = wake_views_agree;
  suspend = suspend_views_agree c.laws_below.ensures;
  asked = asked_agrees;
  wanted = wanted_alike;
}
