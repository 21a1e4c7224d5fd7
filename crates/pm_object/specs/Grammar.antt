-- Which bytes a configuration object is written as: its one spelling (UG1137, configuration object).
use Rattle.std.specs.Prelude.{◌≡◌, ◌≢◌, ℕ, ◌+◌, ◌<◌, ◌≤◌, ◌^◌, Bool, false, ◌==◌, IsTrue, List, [], ◌∷◌, ◌++◌, length, slice_get, Some, bit_and, count_ones, ⊤}
use Rattle.std.specs.List.{flat_map, All, AllPairs, Contains}
use Rattle.std.specs.Int.{w32, to_le_bytes}
use Rattle.pm_base.specs.Masters.{is_master_number, splits_lockstep}
use Rattle.pm_object.specs.declared.object.MasterRec.{MasterRec}
use Rattle.pm_object.specs.declared.object.SlaveRec.{SlaveRec}
use Rattle.pm_object.specs.declared.object.PreRec.{PreRec}
use Rattle.pm_object.specs.declared.object.PreGroup.{PreGroup}
use Rattle.pm_object.specs.declared.object.Pair.{Pair}
use Rattle.pm_object.specs.declared.object.Section.{Section}
use Rattle.pm_object.specs.declared.object.Section.TheVariants.{Masters, Slaves, Prealloc, Power, Reset, Shutdown, Config, Gpo}
use Rattle.pm_object.specs.declared.object.Object.{Object}
use Rattle.pm_object.specs.Bodies.{Body, body_of, no_body}

-- ---- the spelling, as words of 32 bits

-- the word that a section begins with
abbrev pub identifier : Section → ℕ
identifier Masters = 0x101
identifier Slaves = 0x102
identifier Prealloc = 0x103
identifier Power = 0x104
identifier Reset = 0x105
identifier Shutdown = 0x106
identifier Config = 0x107
identifier Gpo = 0x108

abbrev pub master_words : MasterRec → List ℕ
master_words master = master.node ∷ master.mask ∷ master.timeout ∷ master.suspend ∷ master.wake ∷ []

abbrev pub slave_words : SlaveRec → List ℕ
slave_words slave = slave.node ∷ slave.flags ∷ slave.mask ∷ []

abbrev pub preset_words : PreRec → List ℕ
preset_words rec = rec.node ∷ rec.flags ∷ rec.current ∷ rec.preset ∷ []

abbrev pub pair_words : Pair → List ℕ
pair_words pair = pair.key ∷ pair.mask ∷ []

-- a list of records: their number, and then each of them
abbrev pub counted : {A : Type 0} → (A → List ℕ) → List A → List ℕ
counted spell records = length records ∷ flat_map spell records

abbrev pub group_words : PreGroup → List ℕ
group_words group = group.mask ∷ counted preset_words group.recs

-- how that which stands in a section is spelled
abbrev pub body_words : (s : Section) → Body s → List ℕ
body_words Masters masters = counted master_words masters
body_words Slaves slaves = counted slave_words slaves
body_words Prealloc groups = counted group_words groups
body_words Power pairs = counted pair_words pairs
body_words Reset pairs = counted pair_words pairs
body_words Shutdown pairs = counted pair_words pairs
body_words Config masks = masks.0 ∷ masks.1 ∷ []
body_words Gpo word = word ∷ []

-- the words of a section after its identifier, case by case, so that they compute at each one
abbrev pub inner_words : Section → Object → List ℕ
inner_words Masters o = body_words Masters (body_of Masters o)
inner_words section o = body_words section (body_of section o)

abbrev pub section_words : Object → Section → List ℕ
section_words o section = identifier section ∷ inner_words section o

-- how many header words follow, how many sections there are, the object's type, and any further header words
abbrev pub header_words : Object → List ℕ
header_words o = (2 + length o.extra) ∷ length o.order ∷ 1 ∷ o.extra

abbrev pub words_of : Object → List ℕ
words_of o = header_words o ++ flat_map (section_words o) o.order

-- ---- which objects are well formed

-- the most words of an object
abbrev pub most_words : ℕ
most_words = 4096

-- whether two sections are the same one
abbrev pub is_same : Section → Section → Bool
is_same s t = identifier s == identifier t

-- a master has one bit in all masks
pub record IsMaster (master : MasterRec) : Type 0 where
  pub node : IsTrue (is_master_number master.node)
  pub one_bit : count_ones master.mask ≡ 1

-- two masters differ in node and bit, and don't use the real-time processors both as a pair and alone
pub record AreApart (a b : MasterRec) : Type 0 where
  pub nodes : a.node ≢ b.node
  pub modes : splits_lockstep a.node b.node ≡ false
  pub bits : bit_and a.mask b.mask ≡ 0

pub record AreMasters (masters : List MasterRec) : Type 0 where
  pub each : All IsMaster masters
  pub apart : AllPairs AreApart masters

-- no two records have the same key
abbrev pub HaveOwnKeys : {A : Type 0} → (A → ℕ) → List A → Type 0
HaveOwnKeys key records = AllPairs (λ a b. key a ≢ key b) records

abbrev pub HasOwnNodes : PreGroup → Type 0
HasOwnNodes group = HaveOwnKeys (λ rec. rec.node) group.recs

-- the records of a section go together
abbrev pub IsBody : (s : Section) → Body s → Type 0
IsBody Masters masters = AreMasters masters
IsBody Slaves slaves = HaveOwnKeys (λ slave. slave.node) slaves
IsBody Prealloc groups = All HasOwnNodes groups
IsBody Power pairs = HaveOwnKeys (λ pair. pair.key) pairs
IsBody Reset pairs = HaveOwnKeys (λ pair. pair.key) pairs
IsBody Shutdown pairs = HaveOwnKeys (λ pair. pair.key) pairs
IsBody Config masks = ⊤
IsBody Gpo word = ⊤

-- a well formed object
pub record IsObject (o : Object) : Type 0 where
  -- the masters come first, and no section comes twice
  pub first : slice_get o.order 0 ≡ Some Masters
  pub once : AllPairs (λ s t. s ≢ t) o.order
  -- a section that doesn't come says nothing, and each that does is in order
  pub unset : (s : Section) → (Contains o.order s → ⊥) → body_of s o ≡ no_body s
  pub sections : (s : Section) → IsBody s (body_of s o)
  pub some_master : 0 < length o.masters
  -- it has a spelling, which is not too long
  pub words : All (λ w. w < 2 ^ 32) (words_of o)
  pub size : length (words_of o) ≤ most_words

-- ---- the grammar

-- words as bytes, the lowest byte of each first
abbrev pub little_endian : List ℕ → List ℕ
little_endian words = flat_map (to_le_bytes w32) words

-- the bytes are the spelling of this well formed object
pub record Reads (bytes : List ℕ) (o : Object) : Type 0 where
  pub object : IsObject o
  pub spelling : bytes ≡ little_endian (words_of o)
