-- The numbers of the causes for which an object has no reading.
use Rattle.std.specs.Prelude.{ℕ}
use Rattle.pm_object.specs.declared.object.ObjectCause.{ObjectCause}
use Rattle.pm_object.specs.declared.object.ObjectCause.TheVariants.{Length, TooLong, Truncated, HeaderShort, BadType, UnknownSection, RepeatedSection, NoMasters, BadMaster, MaskRepeated, RepeatedNode, Trailing}

abbrev pub cause_number : ObjectCause → ℕ
cause_number Length = 1
cause_number TooLong = 2
cause_number Truncated = 3
cause_number HeaderShort = 4
cause_number BadType = 5
cause_number UnknownSection = 6
cause_number RepeatedSection = 7
cause_number NoMasters = 8
cause_number BadMaster = 9
cause_number MaskRepeated = 10
cause_number RepeatedNode = 11
cause_number Trailing = 12
