-- Reading an object word by word from the front, up to the first fault.
use Rattle.std.specs.Prelude.{◌≡◌, ℕ, zero, suc, ◌+◌, ◌-◌, ◌*◌, ◌/◌, ◌%◌, Bool, not, ◌==◌, nat_lt, if◌then◌else◌, ◌||◌, ◌&&◌, List, [], ◌∷◌, ◌++◌, length, take, Option, Some, None, Result, Ok, Err, bit_and, count_ones, ⊤}
use Rattle.std.specs.List.{list_any}
use Rattle.std.specs.Int.{w32, from_le_bytes}
use Rattle.pm_object.specs.declared.object.MasterRec.{MasterRec}
use Rattle.pm_object.specs.declared.object.SlaveRec.{SlaveRec}
use Rattle.pm_object.specs.declared.object.PreRec.{PreRec}
use Rattle.pm_object.specs.declared.object.PreGroup.{PreGroup}
use Rattle.pm_object.specs.declared.object.Pair.{Pair}
use Rattle.pm_object.specs.declared.object.Section.{Section}
use Rattle.pm_object.specs.declared.object.Section.TheVariants.{Masters, Slaves, Prealloc, Power, Reset, Shutdown, Config, Gpo}
use Rattle.pm_object.specs.declared.object.Object.{Object}
use Rattle.pm_object.specs.declared.object.ObjectCause.{ObjectCause}
use Rattle.pm_object.specs.declared.object.ObjectCause.TheVariants.{Length, TooLong, Truncated, HeaderShort, BadType, UnknownSection, RepeatedSection, NoMasters, BadMaster, MaskRepeated, RepeatedNode, Trailing}
use Rattle.pm_object.specs.declared.object.ObjectFault.{ObjectFault}
use Rattle.pm_object.specs.declared.object.DecodeError.{DecodeError}
use Rattle.pm_object.specs.declared.object.DecodeError.TheVariants.{Bad, Memory}
use Rattle.pm_object.specs.declared.header.Header.{Header}
use Rattle.pm_object.specs.Answers.{GivesAs}
use Rattle.pm_object.specs.Bodies.{Body, with_body, unset}
use Rattle.pm_base.specs.Masters.{is_master_number, splits_lockstep}
use Rattle.pm_object.specs.Grammar.{identifier, is_same, most_words, Reads}

-- ---- steps

-- a place among the words, and the words from there on
pub record Cursor : Type 0 where
  pub place : ℕ
  pub left : List ℕ

-- what is read at a place, and the place after it; or the first fault
abbrev pub Step : Type 0 → Type 0
Step A = Result (A × Cursor) ObjectFault

infixl 10 ◌>>=◌
abbrev pub ◌>>=◌ : {A B : Type 0} → Result A ObjectFault → (A → Result B ObjectFault) → Result B ObjectFault
(Ok x) >>= f = f x
(Err e) >>= f = Err e

abbrev pub fault : {A : Type 0} → ObjectCause → ℕ → Result A ObjectFault
fault cause offset = Err (record { cause = cause; offset = offset })

abbrev pub word_from : ℕ → List ℕ → Step ℕ
word_from place [] = fault Truncated place
word_from place (w ∷ left) = Ok (w, record { place = place + 1; left = left })

-- the next word
abbrev pub word : Cursor → Step ℕ
word c = word_from c.place c.left

-- so many records, each read in view of those before it
unfoldable pub records : {A : Type 0} → (List A → Cursor → Step A) → ℕ → List A → Cursor → Step (List A)
records one zero earlier c = Ok (earlier, c)
records one (suc n) earlier c = do
  r ← one earlier c
  records one n (earlier ++ r.0 ∷ []) r.1

-- their number, and then the records
unfoldable pub counted_records : {A : Type 0} → (List A → Cursor → Step A) → Cursor → Step (List A)
counted_records one c = do
  count ← word c
  records one count.0 [] count.1

-- the first word of a record, which no earlier record of its list has
unfoldable pub own_key : {A : Type 0} → (A → ℕ) → List A → Cursor → Step ℕ
own_key key earlier c = do
  w ← word c
  if list_any (λ r. key r == w.0) earlier then fault RepeatedNode c.place else Ok w

-- ---- the header

-- its words after the first three are kept
unfoldable pub header : Cursor → Step Header
header c = do
  more ← word c
  if nat_lt more.0 2 then fault HeaderShort c.place else do
    sections ← word more.1
    type ← word sections.1
    extra ← records (λ _ d. word d) (more.0 - 2) [] type.1
    if not (type.0 == 1) then fault BadType sections.1.place else Ok (record { sections = sections.0; extra = extra.0 }, extra.1)

-- ---- the masters

-- whether a node is no master's, or is one of the pair in lockstep together with it
abbrev pub is_bad_node : List MasterRec → ℕ → Bool
is_bad_node earlier node = not (is_master_number node) || list_any (λ m. splits_lockstep m.node node) earlier

-- whether a mask hasn't exactly one bit, or has an earlier master's
abbrev pub is_bad_mask : List MasterRec → ℕ → Bool
is_bad_mask earlier mask = not (count_ones mask == 1) || list_any (λ m. not (bit_and m.mask mask == 0)) earlier

unfoldable pub master_node : List MasterRec → Cursor → Step ℕ
master_node earlier c = do
  w ← word c
  if is_bad_node earlier w.0 then fault BadMaster c.place
      else if list_any (λ m. m.node == w.0) earlier then fault RepeatedNode c.place else Ok w

unfoldable pub master_mask : List MasterRec → Cursor → Step ℕ
master_mask earlier c = do
  w ← word c
  if is_bad_mask earlier w.0 then fault MaskRepeated c.place else Ok w

unfoldable pub master : List MasterRec → Cursor → Step MasterRec
master earlier c = do
  node ← master_node earlier c
  mask ← master_mask earlier node.1
  timeout ← word mask.1
  suspend ← word timeout.1
  wake ← word suspend.1
  Ok (record { node = node.0; mask = mask.0; timeout = timeout.0; suspend = suspend.0; wake = wake.0 }, wake.1)

unfoldable pub masters : Cursor → Step (List MasterRec)
masters c = do
  count ← word c
  if count.0 == 0 then fault NoMasters c.place else records master count.0 [] count.1

-- ---- the slaves

unfoldable pub slave : List SlaveRec → Cursor → Step SlaveRec
slave earlier c = do
  node ← own_key (λ s. s.node) earlier c
  flags ← word node.1
  mask ← word flags.1
  Ok (record { node = node.0; flags = flags.0; mask = mask.0 }, mask.1)

-- ---- the preallocations

unfoldable pub preset : List PreRec → Cursor → Step PreRec
preset earlier c = do
  node ← own_key (λ r. r.node) earlier c
  flags ← word node.1
  current ← word flags.1
  preset ← word current.1
  Ok (record { node = node.0; flags = flags.0; current = current.0; preset = preset.0 }, preset.1)

unfoldable pub group : List PreGroup → Cursor → Step PreGroup
group earlier c = do
  mask ← word c
  recs ← counted_records preset mask.1
  Ok (record { mask = mask.0; recs = recs.0 }, recs.1)

-- ---- pairs of a key and a mask

unfoldable pub pair : List Pair → Cursor → Step Pair
pair earlier c = do
  key ← own_key (λ p. p.key) earlier c
  mask ← word key.1
  Ok (record { key = key.0; mask = mask.0 }, mask.1)

-- ---- the sections

-- the section that begins with this word
abbrev pub section_of : ℕ → Option Section
section_of id =
    if id == 0x101 then Some Masters
    else if id == 0x102 then Some Slaves
    else if id == 0x103 then Some Prealloc
    else if id == 0x104 then Some Power
    else if id == 0x105 then Some Reset
    else if id == 0x106 then Some Shutdown
    else if id == 0x107 then Some Config
    else if id == 0x108 then Some Gpo
    else None

-- whether the section is among these
abbrev pub is_among : Section → List Section → Bool
is_among section order = list_any (λ s. is_same s section) order

-- whether the section may come after these: none comes twice, and the masters come first
abbrev pub section_after : List Section → ℕ → Option Section → Result Section ObjectFault
section_after order place None = fault UnknownSection place
section_after order place (Some s) =
    if is_among s order then fault RepeatedSection place
    else if (length order == 0) && not (identifier s == identifier Masters) then fault NoMasters place else Ok s

-- the identifier of a section that may come after these
unfoldable pub section_name : List Section → Cursor → Step Section
section_name order c = do
  w ← word c
  s ← section_after order c.place (section_of w.0)
  Ok (s, w.1)

-- what stands in a section
unfoldable pub body : (s : Section) → Cursor → Step (Body s)
body Masters c = masters c
body Slaves c = counted_records slave c
body Prealloc c = counted_records group c
body Power c = counted_records pair c
body Reset c = counted_records pair c
body Shutdown c = counted_records pair c
body Config c = do
  base ← word c
  overlay ← word base.1
  Ok ((base.0, overlay.0), overlay.1)
body Gpo c = word c

-- the object so far, with what stands in a section, case by case, so that it computes at each one
unfoldable pub section_body : Section → Object → Cursor → Step Object
section_body Masters o c = do
  b ← body Masters c
  Ok (with_body Masters b.0 o, b.1)
section_body s o c = do
  b ← body s c
  Ok (with_body s b.0 o, b.1)

-- the object so far, with one more section
unfoldable pub section : Object → Cursor → Step Object
section o c = do
  s ← section_name o.order c
  r ← section_body s.0 o s.1
  Ok (record r.0 { order = r.0.order ++ s.0 ∷ [] }, r.1)

unfoldable pub sections : ℕ → Object → Cursor → Step Object
sections zero o c = Ok (o, c)
sections (suc n) o c = do
  r ← section o c
  sections n r.0 r.1

-- ---- the object

-- all the words
unfoldable pub object : Cursor → Result Object ObjectFault
object c = do
  h ← header c
  if h.0.sections == 0 then fault NoMasters h.1.place else do
    o ← sections h.0.sections (unset h.0.extra) h.1
    if length o.1.left == 0 then Ok o.0 else fault Trailing o.1.place

-- the words that bytes are, the lowest byte of each first
unfoldable pub words : List ℕ → List ℕ
words [] = []
words (a ∷ []) = []
words (a ∷ b ∷ []) = []
words (a ∷ b ∷ c ∷ []) = []
words (a ∷ b ∷ c ∷ d ∷ bytes) = from_le_bytes w32 (a ∷ b ∷ c ∷ d ∷ []) ∷ words bytes

-- the object that the bytes are, or the first thing that is wrong with them
unfoldable pub reading : List ℕ → Result Object ObjectFault
reading bytes =
    if nat_lt (4 * most_words) (length bytes) then fault TooLong most_words
    else if not (length bytes % 4 == 0) then fault Length (length bytes / 4)
    else object (record { place = 0; left = words bytes })

-- the first thing that is wrong, if something is
abbrev pub fault_of : Result Object ObjectFault → Option ObjectFault
fault_of (Ok o) = None
fault_of (Err f) = Some f

abbrev pub first_fault : List ℕ → Option ObjectFault
first_fault bytes = fault_of (reading bytes)

-- whatever follows the fault's word: no bytes that agree with these up to its end spell an object
abbrev pub IsFatal : List ℕ → ObjectFault → Type 0
IsFatal bytes f = (other : List ℕ) (o : Object) → take (4 * (f.offset + 1)) other ≡ take (4 * (f.offset + 1)) bytes → Reads other o → ⊥

-- ---- what functions return

-- the fault that an error tells
abbrev pub fault_in : DecodeError → Option ObjectFault
fault_in (Bad f) = Some f
fault_in (Memory e) = None

-- what a function returned is what reading gives, unless memory ran out
abbrev pub Gives : {A : Type 0} → Result A DecodeError → Result A ObjectFault → Type 0
Gives result read = GivesAs fault_in (λ x. x) result read

-- the result of a function that left the words at a place
abbrev pub GivesAt : {A : Type 0} → Cursor → Result A DecodeError → Step A → Type 0
GivesAt after result read = GivesAs fault_in (λ x. (x, after)) result read

-- the result of a function that left an object as it is at a place
abbrev pub GivesInto : {A : Type 0} → A → Cursor → Result ⊤ DecodeError → Step A → Type 0
GivesInto value after result read = GivesAs fault_in (λ _. (value, after)) result read
