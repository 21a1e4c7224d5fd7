-- The responses of the tests' handlers.
use Rattle.std.specs.Prelude.{ℕ, ◌+◌, ◌%◌, ◌^◌, [], ◌∷◌, slice_index}
use Rattle.pm_base.specs.declared.events.Message.{Message}
use Rattle.pm_ipi.specs.declared.responses.Response.{Response}

-- another response to each word
abbrev pub told : Message → Response
told message =
    record {
      status = 7;
      words = message.api ∷ ((message.api + message.api) % 2 ^ 32) ∷ slice_index message.args 4 ∷ [];
    }

-- one response to all
abbrev pub constant : ℕ → Message → Response
constant word message = record { status = 0; words = word ∷ 0 ∷ 0 ∷ [] }
