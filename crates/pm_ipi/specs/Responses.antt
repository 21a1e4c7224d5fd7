-- What a call is answered: its status, and the words that it tells.
use Rattle.std.specs.Prelude.{ℕ, List, [], ◌∷◌, slice_index}
use Rattle.pm_base.specs.declared.names.NodeId.{NodeId}
use Rattle.pm_ipi.specs.declared.responses.Response.{Response}
use Rattle.pm_ipi.specs.Status.{node_used}

-- the call was done, and tells these words
abbrev pub success : List ℕ → Response
success words = record { status = 0; words = words }

-- the call was refused, and tells nothing
abbrev pub refusal : ℕ → Response
refusal status = record { status = status; words = 0 ∷ 0 ∷ 0 ∷ [] }

-- the call was refused since this master uses the slave
abbrev pub used_by : NodeId → Response
used_by master = record { status = node_used; words = master.0 ∷ 0 ∷ 0 ∷ [] }

-- the words of a response: its status, and then the words that it tells
abbrev pub response_words : Response → List ℕ
response_words response =
    response.status ∷ slice_index response.words 0 ∷ slice_index response.words 1 ∷ slice_index response.words 2 ∷ []
