use Rattle.std.proofs.Common.{false, length, ap, ◌∙◌}
use Rattle.std.proofs.lemmas.List.{length-replicate}
use Rattle.pm_values.proofs.kinds.Kinds.rest.Goals as goal

pub invariant_of-self : goal.invariant_of-self
invariant_of-self c = record {
  home = c.self.invariant.home;
  listed = c.self.invariant.listed;
  places = ap length c.rest_all.ensures ∙ (length-replicate _ false ∙ c.self.invariant.places);
}
