-- What the items of the lines so far say: what is open, the words of the object, and the object.
use Rattle.std.specs.Prelude.{ℕ, ◌+◌, true, false, ◌==◌, if◌then◌else◌, [], ◌∷◌, ◌++◌, length}
use Rattle.pm_object.specs.declared.object.Object.{Object}
use Rattle.pm_object.specs.declared.object.Section.TheVariants as sections
use Rattle.pm_object.specs.Bodies.{unset}
use Rattle.pm_objtext.specs.declared.item.Item.{Item}
use Rattle.pm_objtext.specs.declared.item.Item.TheVariants.{Empty, Header, Opens, Master, Slave, Group, Prefer, Power, Reset, Shutdown, Config, Gpo}
use Rattle.pm_objtext.specs.declared.stage.Stage.{Stage}
use Rattle.pm_objtext.specs.declared.stage.Stage.TheVariants as stages
use Rattle.pm_objtext.specs.Groups.{with_preset}
use Rattle.pm_objtext.specs.Stage.{is_single}

pub record SoFar : Type 0 where
  pub stage : Stage
  pub size : ℕ
  pub object : Object

-- before the first line
abbrev pub start : SoFar
start = record { stage = stages.Start; size = 0; object = unset [] }

-- the first header line brings the three words before the extra ones
abbrev pub header_size : Stage → ℕ → ℕ
header_size stages.Start extra = 3 + extra
header_size (stages.Header full) extra = extra
header_size (stages.In section filled) extra = extra

-- the words of the object that a line brings. A section begins with its identifier and, but for those of one record, a count
abbrev pub words_in : Item → Stage → ℕ
words_in Empty stage = 0
words_in (Header extra) stage = header_size stage (length extra.items)
words_in (Opens section) stage = if is_single section then 1 else 2
words_in (Master m) stage = 5
words_in (Slave s) stage = 3
words_in (Group mask) stage = 2
words_in (Prefer rec) stage = 4
words_in (Power pair) stage = 2
words_in (Reset pair) stage = 2
words_in (Shutdown pair) stage = 2
words_in (Config base overlay) stage = 2
words_in (Gpo word) stage = 1

-- what is open after an item
abbrev pub stage_after : Item → Stage → Stage
stage_after (Header extra) stage = stages.Header (length extra.items == 16)
stage_after (Opens section) stage = stages.In section false
stage_after (Config base overlay) stage = stages.In sections.Config true
stage_after (Gpo word) stage = stages.In sections.Gpo true
stage_after item stage = stage

-- the object with what an item says
abbrev pub with_item : Item → Object → Object
with_item Empty o = o
with_item (Header extra) o = record o { extra = o.extra ++ extra.items }
with_item (Opens section) o = record o { order = o.order ++ section ∷ [] }
with_item (Master m) o = record o { masters = o.masters ++ m ∷ [] }
with_item (Slave s) o = record o { slaves = o.slaves ++ s ∷ [] }
with_item (Group mask) o = record o { groups = o.groups ++ record { mask = mask; recs = [] } ∷ [] }
with_item (Prefer rec) o = record o { groups = with_preset rec o.groups }
with_item (Power pair) o = record o { power = o.power ++ pair ∷ [] }
with_item (Reset pair) o = record o { reset = o.reset ++ pair ∷ [] }
with_item (Shutdown pair) o = record o { shutdown = o.shutdown ++ pair ∷ [] }
with_item (Config base overlay) o = record o { base_mask = base; overlay_mask = overlay }
with_item (Gpo word) o = record o { gpo = word }

-- after one more item
abbrev pub say : Item → SoFar → SoFar
say item d = record { stage = stage_after item d.stage; size = d.size + words_in item d.stage; object = with_item item d.object }
