-- What functions that read a text return.
use Rattle.std.specs.Prelude.{◌≡◌, ⊤, Result, Ok, Err}
use Rattle.pm_topofile.specs.declared.fault.TopologyError.{TopologyError}
use Rattle.pm_topofile.specs.declared.fault.TopologyError.TheVariants.{Bad, Rule, Memory}

-- the error that a function failed with is what reading fails with, unless memory ran out
abbrev pub FailsAs : {A : Type 0} → TopologyError → Result A TopologyError → Type 0
FailsAs (Memory e) read = ⊤
FailsAs (Bad f) read = read ≡ Err (Bad f)
FailsAs (Rule f) read = read ≡ Err (Rule f)

-- what is made of that which a function returned is what reading gives, unless memory ran out
abbrev pub GivesAs : {A B : Type 0} → (B → A) → Result B TopologyError → Result A TopologyError → Type 0
GivesAs made (Ok x) read = read ≡ Ok (made x)
GivesAs made (Err e) read = FailsAs e read

-- what a function returned is what reading gives, unless memory ran out
abbrev pub Gives : {A : Type 0} → Result A TopologyError → Result A TopologyError → Type 0
Gives result read = GivesAs (λ x. x) result read

-- the result of a function that changed a value in place to what reading gives
abbrev pub GivesInto : {A B : Type 0} → A → Result B TopologyError → Result A TopologyError → Type 0
GivesInto value result read = GivesAs (λ _. value) result read
