-- What functions that read a text return.
use Rattle.std.specs.Prelude.{Option, Some, None, Result}
use Rattle.pm_object.specs.Answers.{GivesAs}
use Rattle.pm_objtext.specs.declared.fault.TextFault.{TextFault}
use Rattle.pm_objtext.specs.declared.fault.BuildError.{BuildError}
use Rattle.pm_objtext.specs.declared.fault.BuildError.TheVariants.{Bad, Memory}

-- the fault that an error tells
abbrev pub fault_in : BuildError → Option TextFault
fault_in (Bad f) = Some f
fault_in (Memory e) = None

-- what a function returned is what reading gives, unless memory ran out
abbrev pub Gives : {A : Type 0} → Result A BuildError → Result A TextFault → Type 0
Gives result read = GivesAs fault_in (λ x. x) result read

-- the result of a function that changed a value in place to what reading gives
abbrev pub GivesInto : {A B : Type 0} → A → Result B BuildError → Result A TextFault → Type 0
GivesInto value result read = GivesAs fault_in (λ _. value) result read
