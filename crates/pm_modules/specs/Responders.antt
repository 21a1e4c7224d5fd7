-- What the two responders of this crate say to a message.
use Rattle.std.specs.Prelude.{ℕ, [], ◌∷◌, bit_and, slice_index}
use Rattle.pm_base.specs.declared.events.Message.{Message}
use Rattle.pm_ipi.specs.declared.responses.Response.{Response}

-- status 0 and the first three arguments
abbrev pub echoed : Message → Response
echoed message =
    record {
      status = 0;
      words = slice_index message.args 0 ∷ slice_index message.args 1 ∷ slice_index message.args 2 ∷ [];
    }

-- status 0, and the bits of the first argument that are in the mask
abbrev pub masked : ℕ → Message → Response
masked mask message = record { status = 0; words = bit_and (slice_index message.args 0) mask ∷ 0 ∷ 0 ∷ [] }
