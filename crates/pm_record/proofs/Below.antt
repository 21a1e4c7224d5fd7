-- What the crates below promise of the units of a chip, and of a record as a table of them.
use Rattle.pm_topology.specs.Places.{KindLaws}
use Rattle.pm_topology.specs.UnitMap.{TableLaws}
use Rattle.pm_topology.specs.Units.{UnitLaws}
use Rattle.pm_record.specs.declared.kept.KeptValue.{KeptValue}

pub record ChipLaws : Type 0 where
  pub units : UnitLaws
  pub kinds : KindLaws
  pub table : TableLaws KeptValue
