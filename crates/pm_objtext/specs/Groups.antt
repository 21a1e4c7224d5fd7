-- The preallocation groups of an object while its text is read.
use Rattle.std.specs.Prelude.{List, [], ◌∷◌, ◌++◌}
use Rattle.pm_object.specs.declared.object.PreRec.{PreRec}
use Rattle.pm_object.specs.declared.object.PreGroup.{PreGroup}

-- the records of the last group
abbrev pub last_recs : List PreGroup → List PreRec
last_recs [] = []
last_recs (group ∷ []) = group.recs
last_recs (group ∷ next ∷ groups) = last_recs (next ∷ groups)

-- the groups, with one more record at the end of the last one
abbrev pub with_preset : PreRec → List PreGroup → List PreGroup
with_preset rec [] = []
with_preset rec (group ∷ []) = record group { recs = group.recs ++ rec ∷ [] } ∷ []
with_preset rec (group ∷ next ∷ groups) = group ∷ with_preset rec (next ∷ groups)
