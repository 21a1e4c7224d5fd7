-- The calls of a source of inputs, in their order, and which readings of names they are.
use Rattle.std.specs.Prelude.{◌≡◌, ◌==◌, ◌||◌, ℕ, ◌+◌, ◌-◌, ◌<◌, ◌≤◌, List, [], ◌∷◌, ◌++◌, length, Bool, true, false, Option, Some, None, ⊤}

-- a name was begun under a number, or could not be; bytes were read under a number, none at the end, or the read failed
pub data Call : Type 0 where
  Begin : (name : List ℕ) (answer : Option ℕ) → Call
  Read : (id : ℕ) (answer : Option (List ℕ)) → Call

-- a name, and how many bytes of it are taken: no read takes more than one past them
pub record Named : Type 0 where
  pub name : List ℕ
  pub limit : ℕ

abbrev pub named : List ℕ → ℕ → Named
named name limit = record { name = name; limit = limit }

-- reads under a number, the last of which takes nothing, at the end, or the last byte that may be taken
abbrev pub ReadsOut : ℕ → ℕ → List Call → Type 0
ReadsOut id left [] = left ≡ 0
ReadsOut id left (Begin name answer ∷ calls) = ⊥
ReadsOut id left (Read other None ∷ calls) = ⊥
ReadsOut id left (Read other (Some []) ∷ calls) = (other ≡ id) × (0 < left) × (calls ≡ [])
ReadsOut id left (Read other (Some (byte ∷ bytes)) ∷ calls) =
    (other ≡ id) × (length (byte ∷ bytes) ≤ left) × ReadsOut id (left - length (byte ∷ bytes)) calls

-- a name is begun, and read whole: to its end, or to one byte past its limit
abbrev pub ReadsWhole : Named → List Call → Type 0
ReadsWhole n [] = ⊥
ReadsWhole n (Begin name None ∷ calls) = ⊥
ReadsWhole n (Begin name (Some id) ∷ calls) = (name ≡ n.name) × ReadsOut id (n.limit + 1) calls
ReadsWhole n (Read id answer ∷ calls) = ⊥

-- names are read whole one after another, in this order
abbrev pub ReadsEach : List Named → List Call → Type 0
ReadsEach [] calls = calls ≡ []
ReadsEach (n ∷ names) calls =
    (one : List Call) × (next : List Call) × (calls ≡ one ++ next) × ReadsWhole n one × ReadsEach names next

-- the same, broken off behind some call
abbrev pub ReadsOn : List Named → List Call → Type 0
ReadsOn names calls = (left : List Call) × ReadsEach names (calls ++ left)

-- a call that failed, as if it had gone well
abbrev pub mended : Call → Call
mended (Begin name None) = Begin name (Some 0)
mended (Begin name (Some id)) = Begin name (Some id)
mended (Read id None) = Read id (Some [])
mended (Read id (Some bytes)) = Read id (Some bytes)

abbrev pub IsFailure : Call → Type 0
IsFailure (Begin name None) = ⊤
IsFailure (Begin name (Some id)) = ⊥
IsFailure (Read id None) = ⊤
IsFailure (Read id (Some bytes)) = ⊥

-- such calls, broken off by a call that failed, which is the last one
pub record ReadsToFault (names : List Named) (calls : List Call) : Type 0 where
  pub front : List Call
  pub last : Call
  pub is : calls ≡ front ++ last ∷ []
  pub failed : IsFailure last
  pub on : ReadsOn names (front ++ mended last ∷ [])

-- the names that were begun
abbrev pub begun : List Call → List (List ℕ)
begun [] = []
begun (Begin name None ∷ calls) = begun calls
begun (Begin name (Some id) ∷ calls) = name ∷ begun calls
begun (Read id answer ∷ calls) = begun calls

-- whether a number was answered when a name was begun
abbrev pub is_answered : ℕ → List Call → Bool
is_answered id [] = false
is_answered id (Begin name None ∷ calls) = is_answered id calls
is_answered id (Begin name (Some number) ∷ calls) = (number == id) || is_answered id calls
is_answered id (Read other answer ∷ calls) = is_answered id calls

-- each number below this one was answered
abbrev pub AnsweredBelow : ℕ → List Call → Type 0
AnsweredBelow count calls = (id : ℕ) → id < count → is_answered id calls ≡ true

-- ---- the same seen from within: how a reading that came so far can go on

-- so many bytes may still be taken under a number, and the end was seen or not: these reads come to the end
abbrev pub GoesOn : ℕ → ℕ → Bool → List Call → Type 0
GoesOn id left true calls = calls ≡ []
GoesOn id left false calls = ReadsOut id left calls

-- calls under a number after which this many bytes may be taken, and the end was seen or not. However the reading goes
-- on from there, it goes on so from where it began
abbrev pub Comes : ℕ → ℕ → Bool → ℕ → Bool → List Call → Type 0
Comes id first ended left now_ended calls = (rest : List Call) → GoesOn id left now_ended rest → GoesOn id first ended (calls ++ rest)

-- such reads, broken off by one that failed, which is the last call
pub record GoesToFault (id left : ℕ) (ended : Bool) (calls : List Call) : Type 0 where
  pub front : List Call
  pub is : calls ≡ front ++ Read id None ∷ []
  pub mends : GoesOn id left ended (front ++ Read id (Some []) ∷ [])

-- the same, broken off behind some call
abbrev pub GoesUpTo : ℕ → ℕ → Bool → List Call → Type 0
GoesUpTo id left ended calls = (later : List Call) × GoesOn id left ended (calls ++ later)
