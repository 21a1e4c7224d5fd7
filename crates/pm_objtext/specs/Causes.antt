-- Why a line of an object's text is wrong, in view of what the lines before it say.
use Rattle.std.specs.Prelude.{◌+◌, Bool, true, false, not, ◌==◌, nat_lt, ◌&&◌, ◌||◌, if◌then◌else◌, length, Option, Some, None}
use Rattle.std.specs.List.{list_any}
use Rattle.pm_object.specs.declared.object.Object.{Object}
use Rattle.pm_object.specs.declared.object.Section.{Section}
use Rattle.pm_object.specs.declared.object.Section.TheVariants as sections
use Rattle.pm_object.specs.Grammar.{is_same, most_words}
use Rattle.pm_object.specs.Reading.{is_among, is_bad_node, is_bad_mask}
use Rattle.pm_objtext.specs.declared.fault.TextCause.{TextCause}
use Rattle.pm_objtext.specs.declared.fault.TextCause.TheVariants as causes
use Rattle.pm_objtext.specs.declared.item.Item.{Item}
use Rattle.pm_objtext.specs.declared.item.Item.TheVariants.{Empty, Header, Opens, Master, Slave, Group, Prefer, Power, Reset, Shutdown, Config, Gpo}
use Rattle.pm_objtext.specs.Groups.{last_recs}
use Rattle.pm_objtext.specs.Stage.{awaits_record, takes_header, takes_section, is_in}
use Rattle.pm_objtext.specs.SoFar.{SoFar, words_in}

-- whether a line stands in its place. A record stands in its own section, and `prefer` after a `group`
abbrev pub stands : Item → SoFar → Bool
stands Empty d = true
stands (Header extra) d = takes_header d.stage
stands (Opens section) d = takes_section d.stage
stands (Master m) d = is_in sections.Masters d.stage
stands (Slave s) d = is_in sections.Slaves d.stage
stands (Group mask) d = is_in sections.Prealloc d.stage
stands (Prefer rec) d = is_in sections.Prealloc d.stage && not (length d.object.groups == 0)
stands (Power pair) d = is_in sections.Power d.stage
stands (Reset pair) d = is_in sections.Reset d.stage
stands (Shutdown pair) d = is_in sections.Shutdown d.stage
stands (Config base overlay) d = is_in sections.Config d.stage && awaits_record d.stage
stands (Gpo word) d = is_in sections.Gpo d.stage && awaits_record d.stage

-- ---- what may not come twice

-- whether the section came before, or the first word of the record in its section or group
abbrev pub repeats : Item → SoFar → Bool
repeats (Opens section) d = is_among section d.object.order
repeats (Master m) d = list_any (λ e. e.node == m.node) d.object.masters
repeats (Slave s) d = list_any (λ e. e.node == s.node) d.object.slaves
repeats (Prefer rec) d = list_any (λ e. e.node == rec.node) (last_recs d.object.groups)
repeats (Power pair) d = list_any (λ e. e.key == pair.key) d.object.power
repeats (Reset pair) d = list_any (λ e. e.key == pair.key) d.object.reset
repeats (Shutdown pair) d = list_any (λ e. e.key == pair.key) d.object.shutdown
repeats item d = false

-- ---- masters

-- the first section isn't the masters', or it ends with no master in it
abbrev pub lacks_masters : Section → Object → Bool
lacks_masters section o =
    if length o.order == 0 then not (is_same section sections.Masters) else length o.masters == 0

-- whether a line is wrong about the masters
abbrev pub breaks_masters : Item → SoFar → Bool
breaks_masters (Opens section) d = lacks_masters section d.object
breaks_masters (Master m) d = is_bad_node d.object.masters m.node || is_bad_mask d.object.masters m.mask
breaks_masters item d = false

-- the first of the causes for which a line is wrong, where its form is right
unfoldable pub cause_of : Item → SoFar → Option TextCause
cause_of item d =
    if not (stands item d) then Some causes.Place
    else if repeats item d then Some causes.Repeated
    else if breaks_masters item d then Some causes.Master
    else if nat_lt most_words (d.size + words_in item d.stage) then Some causes.Size
    else None

-- why the text may not end here
abbrev pub end_cause : SoFar → Option TextCause
end_cause d =
    if not (takes_section d.stage) then Some causes.Place
    else if (length d.object.order == 0) || (length d.object.masters == 0) then Some causes.Master
    else None
