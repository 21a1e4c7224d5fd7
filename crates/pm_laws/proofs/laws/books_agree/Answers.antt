use Rattle.pm_laws.proofs.AgreeLaw.{agree_self, agree_sym, agree_trans, load_self}
use Rattle.pm_laws.proofs.laws.books_agree.Goals as goal

pub returns : goal.returns
returns c = record {
  itself = agree_self c.units_stand_in_order.ensures;
  load = load_self c.units_stand_in_order.ensures c.loads_are_sound.ensures.load;
  turned = agree_sym;
  through = agree_trans;
}
