use Rattle.pm_resets.proofs.LinesLaw as law
use Rattle.pm_resets.proofs.laws.lines_keep_their_values.Goals as goal

pub returns : goal.returns
returns c = record {
  puts = law.puts;
  loads = law.loads;
  stays = law.stays;
  bound = law.bound;
}
