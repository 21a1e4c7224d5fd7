-- The object of the laboratory.
use Rattle.std.specs.Prelude.{ℕ, List, [], ◌∷◌, ◌++◌}
use Rattle.pm_object.specs.declared.object.MasterRec.{MasterRec}
use Rattle.pm_object.specs.declared.object.SlaveRec.{SlaveRec}
use Rattle.pm_object.specs.declared.object.Section.TheVariants.{Masters, Slaves, Power, Reset}
use Rattle.pm_object.specs.declared.object.Object.{Object}

abbrev header : List ℕ
header = 2 ∷ 4 ∷ 1 ∷ []

-- masters 1 and 7; master 1 may suspend and wake master 7
abbrev masters : List ℕ
masters = 0x101 ∷ 2 ∷ 1 ∷ 0x1 ∷ 100 ∷ 0x100 ∷ 0x100 ∷ 7 ∷ 0x100 ∷ 100 ∷ 0 ∷ 0 ∷ []

-- slaves 11, 28, 39 and 46 of both, of which 11 and 46 are shared, and 33 of master 1
abbrev slaves : List ℕ
slaves = 0x102 ∷ 5 ∷ 11 ∷ 1 ∷ 0x101 ∷ 28 ∷ 0 ∷ 0x101 ∷ 33 ∷ 0 ∷ 0x1 ∷ 39 ∷ 0 ∷ 0x101 ∷ 46 ∷ 1 ∷ 0x101 ∷ []

-- power node 10 of master 7
abbrev power : List ℕ
power = 0x104 ∷ 1 ∷ 10 ∷ 0x100 ∷ []

-- reset line 33 of master 1
abbrev reset : List ℕ
reset = 0x105 ∷ 1 ∷ 33 ∷ 0x1 ∷ []

-- its words
abbrev pub lab_words : List ℕ
lab_words = header ++ masters ++ slaves ++ power ++ reset

-- ---- the same as an object

abbrev master_of : ℕ → ℕ → ℕ → MasterRec
master_of node mask others = record { node = node; mask = mask; timeout = 100; suspend = others; wake = others }

abbrev slave_of : ℕ → ℕ → ℕ → SlaveRec
slave_of node flags mask = record { node = node; flags = flags; mask = mask }

abbrev pub laboratory : Object
laboratory = record {
  extra = [];
  order = Masters ∷ Slaves ∷ Power ∷ Reset ∷ [];
  masters = master_of 1 0x1 0x100 ∷ master_of 7 0x100 0 ∷ [];
  slaves = slave_of 11 1 0x101 ∷ slave_of 28 0 0x101 ∷ slave_of 33 0 0x1 ∷ slave_of 39 0 0x101 ∷ slave_of 46 1 0x101 ∷ [];
  groups = [];
  power = record { key = 10; mask = 0x100 } ∷ [];
  reset = record { key = 33; mask = 0x1 } ∷ [];
  shutdown = [];
  base_mask = 0;
  overlay_mask = 0;
  gpo = 0;
}
