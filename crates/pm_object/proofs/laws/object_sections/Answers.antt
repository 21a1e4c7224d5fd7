use Rattle.pm_object.proofs.Bodies.{body-with, body-others, order-with, extra-with, body-order, body-unset, same_object}
use Rattle.pm_object.proofs.ReadObject.{none_together}
use Rattle.pm_object.proofs.laws.object_sections.Goals as goal

pub returns : goal.returns
returns c = record { put = body-with; others = body-others; order = order-with; extra = extra-with; reordered = body-order; none = body-unset; empty = none_together; whole = same_object }
