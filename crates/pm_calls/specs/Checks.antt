-- The seven checks of a call, in the order in which they come, and the first one that fails (UG1200).
use Rattle.std.specs.Prelude.{◌≡◌, ℕ, Bool, true, not, if◌then◌else◌, List, [], ◌∷◌, Option, Some, None}
use Rattle.pm_base.specs.declared.names.NodeId.{NodeId}

-- what the last check finds in the state of the book
pub data Finding : Type 0 where
  -- nothing speaks against the call
  Fits : Finding
  -- the caller doesn't use the slave
  NotUsed : Finding
  -- the caller uses the slave already, its processor suspends already, or a request to suspend is pending already
  InUse : Finding
  -- this other master uses the slave, which can't be shared
  UsedBy : NodeId → Finding
  -- a processor, or the master that is asked, isn't in a mode that the call needs
  WrongMode : Finding

-- the seven checks of a call in their order: whether each holds; for the fourth the words that are told if it fails,
-- for the last what it finds
pub record Checks : Type 0 where
  -- 1: there is such a call
  pub known : Bool
  -- 2: its acknowledge kind is known, if it has one
  pub acknowledge : Bool
  -- 3: the chip has each node or reset line that it names, and of a kind that the call takes
  pub node : Bool
  -- 4: none if each other argument is in range, else the words of the refusal
  pub arguments : Option (List ℕ)
  -- 5: the object permits it to the caller
  pub permitted : Bool
  -- 6: the slave, or the product, can do what is asked
  pub capable : Bool
  -- 7: the state of the book allows it
  pub finding : Finding

-- a call without checks
abbrev pub unchecked : Checks
unchecked = record {
  known = true;
  acknowledge = true;
  node = true;
  arguments = None;
  permitted = true;
  capable = true;
  finding = Fits;
}

-- arguments that are in range, or a refusal without words
abbrev pub in_range : Bool → Option (List ℕ)
in_range holds = if holds then None else Some (0 ∷ 0 ∷ 0 ∷ [])

-- the first check that fails. If the first six hold, it is the last one with its finding, which is no failure if the
-- call fits
pub data Cause : Type 0 where
  Known : Cause
  Acknowledge : Cause
  Node : Cause
  Arguments : List ℕ → Cause
  Permitted : Cause
  Capable : Cause
  Stands : Finding → Cause

-- the fourth check, or else a later cause
abbrev pub range_first : Option (List ℕ) → Cause → Cause
range_first None later = later
range_first (Some words) later = Arguments words

abbrev pub first_failing : Checks → Cause
first_failing checks =
    if not checks.known then Known
    else if not checks.acknowledge then Acknowledge
    else if not checks.node then Node
    else range_first checks.arguments
    (if not checks.permitted then Permitted
    else if not checks.capable then Capable
    else Stands checks.finding)

-- all seven checks hold
pub record AllHold (checks : Checks) : Type 0 where
  pub known : checks.known ≡ true
  pub acknowledge : checks.acknowledge ≡ true
  pub node : checks.node ≡ true
  pub arguments : checks.arguments ≡ None
  pub permitted : checks.permitted ≡ true
  pub capable : checks.capable ≡ true
  pub finding : checks.finding ≡ Fits
