-- What stands in a section of an object, whichever section it is.
use Rattle.std.specs.Prelude.{ℕ, List, [], ◌∷◌, ◌++◌}
use Rattle.pm_object.specs.declared.object.MasterRec.{MasterRec}
use Rattle.pm_object.specs.declared.object.SlaveRec.{SlaveRec}
use Rattle.pm_object.specs.declared.object.PreGroup.{PreGroup}
use Rattle.pm_object.specs.declared.object.Pair.{Pair}
use Rattle.pm_object.specs.declared.object.Section.{Section}
use Rattle.pm_object.specs.declared.object.Section.TheVariants.{Masters, Slaves, Prealloc, Power, Reset, Shutdown, Config, Gpo}
use Rattle.pm_object.specs.declared.object.Object.{Object}

-- the records of a section, or the words of one that always has exactly one record
abbrev pub Body : Section → Type 0
Body Masters = List MasterRec
Body Slaves = List SlaveRec
Body Prealloc = List PreGroup
Body Power = List Pair
Body Reset = List Pair
Body Shutdown = List Pair
Body Config = ℕ × ℕ
Body Gpo = ℕ

-- what stands in a section of an object
abbrev pub body_of : (s : Section) → Object → Body s
body_of Masters o = o.masters
body_of Slaves o = o.slaves
body_of Prealloc o = o.groups
body_of Power o = o.power
body_of Reset o = o.reset
body_of Shutdown o = o.shutdown
body_of Config o = (o.base_mask, o.overlay_mask)
body_of Gpo o = o.gpo

-- the object with this in a section
abbrev pub with_body : (s : Section) → Body s → Object → Object
with_body Masters body o = record o { masters = body }
with_body Slaves body o = record o { slaves = body }
with_body Prealloc body o = record o { groups = body }
with_body Power body o = record o { power = body }
with_body Reset body o = record o { reset = body }
with_body Shutdown body o = record o { shutdown = body }
with_body Config body o = record o { base_mask = body.0; overlay_mask = body.1 }
with_body Gpo body o = record o { gpo = body }

-- what stands in a section that doesn't come
abbrev pub no_body : (s : Section) → Body s
no_body Masters = []
no_body Slaves = []
no_body Prealloc = []
no_body Power = []
no_body Reset = []
no_body Shutdown = []
no_body Config = (0, 0)
no_body Gpo = 0

-- the object with one more section, in which this stands
abbrev pub with_section : (s : Section) → Body s → Object → Object
with_section s body o = record (with_body s body o) { order = (with_body s body o).order ++ s ∷ [] }

-- an object without sections, of these further header words
abbrev pub unset : List ℕ → Object
unset extra = record { extra = extra; order = []; masters = []; slaves = []; groups = []; power = []; reset = []; shutdown = []; base_mask = 0; overlay_mask = 0; gpo = 0 }
