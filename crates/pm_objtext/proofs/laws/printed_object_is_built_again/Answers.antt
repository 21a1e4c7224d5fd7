use Rattle.pm_objtext.specs.Printing.{text_of}
use Rattle.pm_objtext.proofs.laws.printed_object_is_built_again.Goals as goal

pub returns : goal.returns
returns c = λ o is. (c.one_meaning.ensures.built (text_of o) o).1 (c.one_meaning.ensures.printed o is)
