-- The response of the tests' handler.
use Rattle.std.specs.Prelude.{[], ◌∷◌}
use Rattle.pm_base.specs.declared.events.Message.{Message}
use Rattle.pm_ipi.specs.declared.responses.Response.{Response}

-- status 0 and one word that isn't 0
abbrev pub five : Message → Response
five message = record { status = 0; words = 5 ∷ 0 ∷ 0 ∷ [] }
