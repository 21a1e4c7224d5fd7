-- What a function that reads answers: what reading gives, unless memory ran out.
use Rattle.std.specs.Prelude.{◌≡◌, Option, Result, Ok, Err, IfSome}

-- the fault that a function failed with is what reading fails with. An error that tells no fault is want of memory
abbrev pub FailsAs : {A E F : Type 0} → (E → Option F) → E → Result A F → Type 0
FailsAs fault_in e read = IfSome (fault_in e) (λ f. read ≡ Err f)

-- what is made of that which a function returned is what reading gives
abbrev pub GivesAs : {A B E F : Type 0} → (E → Option F) → (B → A) → Result B E → Result A F → Type 0
GivesAs fault_in made (Ok x) read = read ≡ Ok (made x)
GivesAs fault_in made (Err e) read = FailsAs fault_in e read
