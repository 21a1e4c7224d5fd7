-- The words of an object's text that are no numbers.
use Rattle.std.specs.Prelude.{ℕ, List, [], ◌∷◌, codes}
use Rattle.pm_object.specs.declared.object.Section.{Section}
use Rattle.pm_object.specs.declared.object.Section.TheVariants as sections
use Rattle.pm_objtext.specs.declared.names.Keyword.{Keyword}
use Rattle.pm_objtext.specs.declared.names.Keyword.TheVariants as keywords

-- what a line begins with
abbrev pub keyword_text : Keyword → List ℕ
keyword_text keywords.Header = codes "header"
keyword_text keywords.Section = codes "section"
keyword_text keywords.Master = codes "master"
keyword_text keywords.Slave = codes "slave"
keyword_text keywords.Group = codes "group"
keyword_text keywords.Prefer = codes "prefer"
keyword_text keywords.Power = codes "power"
keyword_text keywords.Reset = codes "reset"
keyword_text keywords.Shutdown = codes "shutdown"
keyword_text keywords.Config = codes "config"
keyword_text keywords.Gpo = codes "gpo"

-- the names of the sections
abbrev pub section_text : Section → List ℕ
section_text sections.Masters = codes "masters"
section_text sections.Slaves = codes "slaves"
section_text sections.Prealloc = codes "prealloc"
section_text sections.Power = codes "power"
section_text sections.Reset = codes "reset"
section_text sections.Shutdown = codes "shutdown"
section_text sections.Config = codes "config"
section_text sections.Gpo = codes "gpo"

abbrev pub all_keywords : List Keyword
all_keywords = keywords.Header ∷ keywords.Section ∷ keywords.Master ∷ keywords.Slave ∷ keywords.Group ∷ keywords.Prefer ∷ keywords.Power ∷ keywords.Reset ∷ keywords.Shutdown ∷ keywords.Config ∷ keywords.Gpo ∷ []

abbrev pub all_sections : List Section
all_sections = sections.Masters ∷ sections.Slaves ∷ sections.Prealloc ∷ sections.Power ∷ sections.Reset ∷ sections.Shutdown ∷ sections.Config ∷ sections.Gpo ∷ []
