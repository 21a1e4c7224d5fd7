-- The first fault of an object by its grammar: the words before the fault's own are spelled by the grammar and break no
-- rule of it, and the fault's own word breaks the rule that is told, or is wanted and isn't there.
use Rattle.std.specs.Prelude.{◌≡◌, ◌≢◌, ℕ, ◌+◌, ◌*◌, ◌/◌, ◌%◌, ◌^◌, ◌<◌, ◌≤◌, ◌⊎◌, false, IsTrue, List, [], ◌∷◌, ◌++◌, length, slice_get, Some, bit_and, count_ones, ⊤}
use Rattle.std.specs.List.{flat_map, All, AllPairs, Contains}
use Rattle.pm_object.specs.declared.object.MasterRec.{MasterRec}
use Rattle.pm_object.specs.declared.object.PreGroup.{PreGroup}
use Rattle.pm_object.specs.declared.object.Section.{Section}
use Rattle.pm_object.specs.declared.object.Section.TheVariants.{Masters, Slaves, Prealloc, Power, Reset, Shutdown, Config, Gpo}
use Rattle.pm_object.specs.declared.object.Object.{Object}
use Rattle.pm_object.specs.declared.object.ObjectCause.{ObjectCause}
use Rattle.pm_object.specs.declared.object.ObjectCause.TheVariants.{Length, TooLong, Truncated, HeaderShort, BadType, UnknownSection, RepeatedSection, NoMasters, BadMaster, MaskRepeated, RepeatedNode, Trailing}
use Rattle.pm_object.specs.declared.object.ObjectFault.{ObjectFault}
use Rattle.pm_object.specs.Bodies.{body_of, no_body}
use Rattle.pm_base.specs.Masters.{is_master_number, splits_lockstep}
use Rattle.pm_object.specs.Grammar.{identifier, master_words, slave_words, preset_words, group_words, pair_words, section_words, most_words, IsMaster, AreApart, HasOwnNodes, IsBody, little_endian}

-- ---- words

-- where a part of the grammar is broken: its words, those from the fault's own on, and the cause
abbrev pub Fault : Type 1
Fault = List ℕ → List ℕ → ObjectCause → Type 0

-- a word is wanted: it isn't there, or breaks a rule
abbrev pub WordFault : (ℕ → ObjectCause → Type 0) → Fault
WordFault Breaks words left cause =
    (left ≡ words)
    × (((words ≡ []) × (cause ≡ Truncated)) ⊎ ((w : ℕ) × (rest : List ℕ) × (words ≡ w ∷ rest) × Breaks w cause))

-- a word that has no rule
abbrev pub Free : ℕ → ObjectCause → Type 0
Free w cause = ⊥

-- so many words are wanted, and not all are there
abbrev pub WordsEnd : ℕ → Fault
WordsEnd count words left cause = (length words < count) × (left ≡ []) × (cause ≡ Truncated)

-- these words are there, and what follows them is broken
abbrev pub After : List ℕ → Fault → Fault
After text Next words left cause = (rest : List ℕ) × (words ≡ text ++ rest) × Next rest left cause

-- ---- lists of records

-- some of the records are there, fewer than are wanted, and keep the rules, each alone and each two; the next is broken
abbrev pub RecordsFault : {A : Type 0} → (A → List ℕ) → (A → Type 0) → (A → A → Type 0) → (List A → Fault) → ℕ → Fault
RecordsFault {A} spell Own Apart One count words left cause =
    (read : List A) × (length read < count) × All Own read × AllPairs Apart read
    × After (flat_map spell read) (One read) words left cause

-- their number, and then the records
abbrev pub CountedFault : {A : Type 0} → (A → List ℕ) → (A → Type 0) → (A → A → Type 0) → (List A → Fault) → Fault
CountedFault spell Own Apart One words left cause =
    WordFault Free words left cause
    ⊎ ((count : ℕ) × After (count ∷ []) (RecordsFault spell Own Apart One count) words left cause)

-- nothing is asked of one record, or of two
abbrev pub Any : {A : Type 0} → A → Type 0
Any x = ⊤

abbrev pub AnyTwo : {A : Type 0} → A → A → Type 0
AnyTwo a b = ⊤

-- two records have keys of their own
abbrev pub Differ : {A : Type 0} → (A → ℕ) → A → A → Type 0
Differ key a b = key a ≢ key b

-- no earlier record has this key
abbrev pub IsNew : {A : Type 0} → (A → ℕ) → List A → ℕ → Type 0
IsNew key earlier w = All (λ e. key e ≢ w) earlier

abbrev pub KeyBreaks : {A : Type 0} → (A → ℕ) → List A → ℕ → ObjectCause → Type 0
KeyBreaks key earlier w cause = (cause ≡ RepeatedNode) × (IsNew key earlier w → ⊥)

-- a record of a key and so many further words
abbrev pub KeyedFault : {A : Type 0} → (A → ℕ) → ℕ → List A → Fault
KeyedFault key more earlier words left cause =
    WordFault (KeyBreaks key earlier) words left cause
    ⊎ ((w : ℕ) × IsNew key earlier w × After (w ∷ []) (WordsEnd more) words left cause)

-- ---- masters

-- the node is a master's, and goes with the earlier ones
abbrev pub NodeFits : List MasterRec → ℕ → Type 0
NodeFits earlier w = IsTrue (is_master_number w) × All (λ e. splits_lockstep e.node w ≡ false) earlier

abbrev pub NodeBreaks : List MasterRec → ℕ → ObjectCause → Type 0
NodeBreaks earlier w cause =
    ((cause ≡ BadMaster) × (NodeFits earlier w → ⊥))
    ⊎ ((cause ≡ RepeatedNode) × NodeFits earlier w × (IsNew (λ m. m.node) earlier w → ⊥))

-- the mask has one bit, which no earlier master has
abbrev pub MaskFits : List MasterRec → ℕ → Type 0
MaskFits earlier w = (count_ones w ≡ 1) × All (λ e. bit_and e.mask w ≡ 0) earlier

abbrev pub MaskBreaks : List MasterRec → ℕ → ObjectCause → Type 0
MaskBreaks earlier w cause = (cause ≡ MaskRepeated) × (MaskFits earlier w → ⊥)

abbrev pub MasterFault : List MasterRec → Fault
MasterFault earlier words left cause =
    WordFault (NodeBreaks earlier) words left cause
    ⊎ ((node : ℕ) × NodeFits earlier node × IsNew (λ m. m.node) earlier node
    × After (node ∷ []) (λ words left cause.
    WordFault (MaskBreaks earlier) words left cause
    ⊎ ((mask : ℕ) × MaskFits earlier mask × After (mask ∷ []) (WordsEnd 3) words left cause)) words left cause)

-- there is at least one
abbrev pub CountBreaks : ℕ → ObjectCause → Type 0
CountBreaks count cause = (count ≡ 0) × (cause ≡ NoMasters)

abbrev pub MastersFault : Fault
MastersFault words left cause =
    WordFault CountBreaks words left cause
    ⊎ ((count : ℕ) × (0 < count)
    × After (count ∷ []) (RecordsFault master_words IsMaster AreApart MasterFault count) words left cause)

-- ---- sections

abbrev pub GroupFault : List PreGroup → Fault
GroupFault earlier words left cause =
    WordFault Free words left cause
    ⊎ ((mask : ℕ) × After (mask ∷ [])
    (CountedFault preset_words Any (Differ (λ r. r.node)) (KeyedFault (λ r. r.node) 3)) words left cause)

abbrev pub PairsFault : Fault
PairsFault = CountedFault pair_words Any (Differ (λ p. p.key)) (KeyedFault (λ p. p.key) 1)

abbrev pub BodyFault : Section → Fault
BodyFault Masters = MastersFault
BodyFault Slaves = CountedFault slave_words Any (Differ (λ s. s.node)) (KeyedFault (λ s. s.node) 2)
BodyFault Prealloc = CountedFault group_words HasOwnNodes AnyTwo GroupFault
BodyFault Power = PairsFault
BodyFault Reset = PairsFault
BodyFault Shutdown = PairsFault
BodyFault Config = WordsEnd 2
BodyFault Gpo = WordsEnd 1

-- a section that may come after these
pub record MayFollow (order : List Section) (s : Section) : Type 0 where
  pub new : All (λ t. t ≢ s) order
  pub first : order ≡ [] → s ≡ Masters

abbrev pub NameBreaks : List Section → ℕ → ObjectCause → Type 0
NameBreaks order w cause =
    ((cause ≡ UnknownSection) × ((s : Section) → w ≢ identifier s))
    ⊎ ((s : Section) × (w ≡ identifier s)
    × (((cause ≡ RepeatedSection) × (All (λ t. t ≢ s) order → ⊥))
    ⊎ ((cause ≡ NoMasters) × (order ≡ []) × (s ≢ Masters))))

abbrev pub SectionFault : List Section → Fault
SectionFault order words left cause =
    WordFault (NameBreaks order) words left cause
    ⊎ ((s : Section) × MayFollow order s × After (identifier s ∷ []) (BodyFault s) words left cause)

-- an object whose sections are read one by one: those that came are in order, the masters first, and no other says
-- anything
pub record IsPart (o : Object) : Type 0 where
  pub once : AllPairs (λ s t. s ≢ t) o.order
  pub unset : (s : Section) → (Contains o.order s → ⊥) → body_of s o ≡ no_body s
  pub sections : (s : Section) → IsBody s (body_of s o)
  pub begun : (o.order ≡ []) ⊎ ((slice_get o.order 0 ≡ Some Masters) × (0 < length o.masters))

-- some of the sections are there, fewer than are wanted, and in order; the next is broken
abbrev pub SectionsFault : ℕ → Fault
SectionsFault count words left cause =
    (o : Object) × IsPart o × (length o.order < count)
    × After (flat_map (section_words o) o.order) (SectionFault o.order) words left cause

-- ---- the object

-- the type, which is 1, is told once the whole header is there
abbrev pub TypeFault : ℕ → Fault
TypeFault more words left cause =
    (sections kind : ℕ) × (extra rest : List ℕ) × (words ≡ sections ∷ kind ∷ extra ++ rest)
    × (2 + length extra ≡ more) × (kind ≢ 1) × (cause ≡ BadType) × (left ≡ kind ∷ extra ++ rest)

abbrev pub HeaderFault : Fault
HeaderFault words left cause =
    WordFault (λ w cause. (w < 2) × (cause ≡ HeaderShort)) words left cause
    ⊎ ((more : ℕ) × (2 ≤ more)
    × After (more ∷ []) (λ words left cause. WordsEnd more words left cause ⊎ TypeFault more words left cause) words left cause)

-- the sections: there is at least one, and no word after the last
abbrev pub TailFault : ℕ → Fault
TailFault count words left cause =
    ((count ≡ 0) × (cause ≡ NoMasters) × (left ≡ words))
    ⊎ ((0 < count) × (SectionsFault count words left cause
    ⊎ ((o : Object) × IsPart o × (length o.order ≡ count) × (words ≡ flat_map (section_words o) o.order ++ left)
    × (0 < length left) × (cause ≡ Trailing))))

abbrev pub ObjectFaultIn : Fault
ObjectFaultIn words left cause =
    HeaderFault words left cause
    ⊎ ((sections : ℕ) × (extra : List ℕ)
    × After ((2 + length extra) ∷ sections ∷ 1 ∷ extra) (TailFault sections) words left cause)

-- the bytes are too many, or no words; or of their words those before the fault's own keep the rules
abbrev pub IsFirstFault : List ℕ → ObjectFault → Type 0
IsFirstFault bytes f =
    ((4 * most_words < length bytes) × (f ≡ record { cause = TooLong; offset = most_words }))
    ⊎ ((length bytes ≤ 4 * most_words) × (((length bytes % 4 ≢ 0) × (f ≡ record { cause = Length; offset = length bytes / 4 }))
    ⊎ ((words left : List ℕ) × All (λ w. w < 2 ^ 32) words × (bytes ≡ little_endian words)
    × (f.offset + length left ≡ length words) × ObjectFaultIn words left f.cause)))
