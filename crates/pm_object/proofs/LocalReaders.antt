-- Each reader of an object goes word by word.
use Rattle.std.proofs.Common.{ℕ, zero, suc, ◌-◌, ◌<◌, ◌≤◌, Bool, true, false, cond, not, eqb, ltb, List, [], Option, Some, None, Ok, Err, inl, inr, refl}
use Rattle.std.specs.List.{list_any}
use Rattle.pm_object.specs.declared.object.MasterRec.{MasterRec}
use Rattle.pm_object.specs.declared.object.SlaveRec.{SlaveRec}
use Rattle.pm_object.specs.declared.object.PreRec.{PreRec}
use Rattle.pm_object.specs.declared.object.PreGroup.{PreGroup}
use Rattle.pm_object.specs.declared.object.Pair.{Pair}
use Rattle.pm_object.specs.declared.object.Section.{Section}
use Rattle.pm_object.specs.declared.object.Section.TheVariants.{Masters, Slaves, Prealloc, Power, Reset, Shutdown, Config, Gpo}
use Rattle.pm_object.specs.declared.object.Object.{Object}
use Rattle.pm_object.specs.declared.object.ObjectCause.TheVariants.{HeaderShort, BadType, UnknownSection, RepeatedSection, NoMasters, BadMaster, MaskRepeated, RepeatedNode}
use Rattle.pm_object.specs.declared.object.ObjectFault.{ObjectFault}
use Rattle.pm_object.specs.declared.header.Header.{Header}
use Rattle.pm_object.specs.Reading.{Cursor, Step, ◌>>=◌, fault, word, records, own_key, header, master_node, master_mask, master, masters, slave, preset, group, pair, section_of, is_among, section_after, section_name, body, section_body, section, sections, is_bad_node, is_bad_mask}
use Rattle.pm_object.proofs.Local.{Agree, Past, Follows, IsLocal, Past-bind, IsLocal-bind, IsLocal-done, IsLocal-placed, Judges, IsLocal-judged, IsLocal-tested, IsLocal-tested_then, IsLocal-word, IsLocal-records, IsLocal-counted}

-- ---- the header

module _ (more sections : ℕ) where
  -- the further words, and then the test of the type, which is read before them
  abbrev typed : Bool → ℕ → Cursor → Step Header
  typed bad place c = records (λ _ d. word d) (more - 2) [] c >>= λ extra. cond bad (fault BadType place) (Ok (record { sections = sections; extra = extra.0 }, extra.1))

  test_past : (n place : ℕ) (bad : Bool) (h : Header) (c : Cursor) → n ≤ place → n < c.place → Past n (cond bad (fault BadType place) (Ok (h, c)))
  test_past n place true h c here later = here
  test_past n place false h c here later = later

  typed_past : (n place : ℕ) (bad : Bool) (c : Cursor) → n ≤ place → n < c.place → Past n (typed bad place c)
  typed_past n place bad c here later =
      Past-bind n _ _ ((IsLocal-records (λ _ d. word d) (λ _. IsLocal-word) (more - 2) []).past n c later) (λ extra d after. test_past n place bad (record { sections = sections; extra = extra }) d here after)

  never : {A B : Type 0} (n : ℕ) (a : Step B) (b : Step A) (f : ObjectFault) → Follows n a (b >>= λ x. Err f)
  never n a (Ok x) f = tt
  never n a (Err g) f = tt

  typed_follows : (n place : ℕ) (bad : Bool) (c d : Cursor) → Agree n c d → Follows n (typed bad place c) (typed bad place d)
  typed_follows n place true c d agree = never n (typed true place c) (records (λ _ e. word e) (more - 2) [] d) (record { cause = BadType; offset = place })
  typed_follows n place false c d agree =
      (IsLocal-bind (records (λ _ e. word e) (more - 2) []) (λ extra. Ok (record { sections = sections; extra = extra.0 }, extra.1)) (IsLocal-records (λ _ e. word e) (λ _. IsLocal-word) (more - 2) []) (λ extra. IsLocal-done _)).follows n c d agree

  IsLocal-typed : IsLocal (λ c. word c >>= λ kind. typed (not (eqb kind.0 1)) c.place kind.1)
  IsLocal-typed = IsLocal-placed (λ place kind. typed (not (eqb kind.0 1)) place kind.1)
      (λ n place w c here later. typed_past n place (not (eqb w 1)) c here later) (λ n place w c d agree. typed_follows n place (not (eqb w 1)) c d agree)

pub IsLocal-header : IsLocal header
unfolding header
IsLocal-header = IsLocal-tested_then (λ m. ltb m 2) HeaderShort _ (λ more. IsLocal-bind _ _ IsLocal-word (λ sections. IsLocal-typed more sections))

-- ---- records

IsLocal-own_key : {A : Type 0} (key : A → ℕ) (earlier : List A) → IsLocal (own_key key earlier)
unfolding own_key
IsLocal-own_key key earlier = IsLocal-tested (λ w. list_any (λ r. eqb (key r) w) earlier) RepeatedNode

IsLocal-slave : (earlier : List SlaveRec) → IsLocal (slave earlier)
unfolding slave
IsLocal-slave earlier =
    IsLocal-bind _ _ (IsLocal-own_key (λ s. s.node) earlier) (λ node. IsLocal-bind _ _ IsLocal-word (λ flags. IsLocal-bind _ _ IsLocal-word (λ mask. IsLocal-done _)))

IsLocal-preset : (earlier : List PreRec) → IsLocal (preset earlier)
unfolding preset
IsLocal-preset earlier =
    IsLocal-bind _ _ (IsLocal-own_key (λ r. r.node) earlier) (λ node. IsLocal-bind _ _ IsLocal-word (λ flags. IsLocal-bind _ _ IsLocal-word (λ current. IsLocal-bind _ _ IsLocal-word (λ set. IsLocal-done _))))

IsLocal-group : (earlier : List PreGroup) → IsLocal (group earlier)
unfolding group
IsLocal-group earlier = IsLocal-bind _ _ IsLocal-word (λ mask. IsLocal-bind _ _ (IsLocal-counted preset IsLocal-preset) (λ recs. IsLocal-done _))

IsLocal-pair : (earlier : List Pair) → IsLocal (pair earlier)
unfolding pair
IsLocal-pair earlier = IsLocal-bind _ _ (IsLocal-own_key (λ p. p.key) earlier) (λ key. IsLocal-bind _ _ IsLocal-word (λ mask. IsLocal-done _))

-- ---- masters

judged_node : (a b : Bool) (place w : ℕ) → Judges place (λ c. cond a (fault BadMaster place) (cond b (fault RepeatedNode place) (Ok (w, c))))
judged_node true b place w = inl (record { cause = BadMaster; offset = place }, refl, λ c. refl)
judged_node false true place w = inl (record { cause = RepeatedNode; offset = place }, refl, λ c. refl)
judged_node false false place w = inr (w, λ c. refl)

IsLocal-master_node : (earlier : List MasterRec) → IsLocal (master_node earlier)
unfolding master_node
IsLocal-master_node earlier =
    IsLocal-judged (λ place w. cond (is_bad_node earlier w.0) (fault BadMaster place) (cond (list_any (λ m. eqb m.node w.0) earlier) (fault RepeatedNode place) (Ok w)))
    (λ place w. judged_node (is_bad_node earlier w) (list_any (λ m. eqb m.node w) earlier) place w)

IsLocal-master_mask : (earlier : List MasterRec) → IsLocal (master_mask earlier)
unfolding master_mask
IsLocal-master_mask earlier = IsLocal-tested (is_bad_mask earlier) MaskRepeated

IsLocal-master : (earlier : List MasterRec) → IsLocal (master earlier)
unfolding master
IsLocal-master earlier =
    IsLocal-bind _ _ (IsLocal-master_node earlier) (λ node. IsLocal-bind _ _ (IsLocal-master_mask earlier) (λ mask.
    IsLocal-bind _ _ IsLocal-word (λ timeout. IsLocal-bind _ _ IsLocal-word (λ suspend. IsLocal-bind _ _ IsLocal-word (λ wake. IsLocal-done _)))))

IsLocal-masters : IsLocal masters
unfolding masters
IsLocal-masters = IsLocal-tested_then (λ n. eqb n 0) NoMasters _ (λ count. IsLocal-records master IsLocal-master count [])

-- ---- sections

judged_among : (a b : Bool) (place : ℕ) (s : Section) → Judges place (λ c. cond a (fault RepeatedSection place) (cond b (fault NoMasters place) (Ok s)) >>= λ t. Ok (t, c))
judged_among true b place s = inl (record { cause = RepeatedSection; offset = place }, refl, λ c. refl)
judged_among false true place s = inl (record { cause = NoMasters; offset = place }, refl, λ c. refl)
judged_among false false place s = inr (s, λ c. refl)

judged_name : (order : List Section) (place : ℕ) (found : Option Section) → Judges place (λ c. section_after order place found >>= λ t. Ok (t, c))
judged_name order place None = inl (record { cause = UnknownSection; offset = place }, refl, λ c. refl)
judged_name order place (Some s) = judged_among (is_among s order) _ place s

IsLocal-section_name : (order : List Section) → IsLocal (section_name order)
unfolding section_name
IsLocal-section_name order = IsLocal-judged (λ place w. section_after order place (section_of w.0) >>= λ s. Ok (s, w.1)) (λ place w. judged_name order place (section_of w))

IsLocal-body : (s : Section) → IsLocal (body s)
unfolding body
IsLocal-body Masters = IsLocal-masters
IsLocal-body Slaves = IsLocal-counted slave IsLocal-slave
IsLocal-body Prealloc = IsLocal-counted group IsLocal-group
IsLocal-body Power = IsLocal-counted pair IsLocal-pair
IsLocal-body Reset = IsLocal-counted pair IsLocal-pair
IsLocal-body Shutdown = IsLocal-counted pair IsLocal-pair
IsLocal-body Config = IsLocal-bind _ _ IsLocal-word (λ base. IsLocal-bind _ _ IsLocal-word (λ overlay. IsLocal-done _))
IsLocal-body Gpo = IsLocal-word

IsLocal-section_body : (s : Section) (o : Object) → IsLocal (section_body s o)
unfolding section_body
IsLocal-section_body Masters o = IsLocal-bind _ _ (IsLocal-body Masters) (λ b. IsLocal-done _)
IsLocal-section_body s o = IsLocal-bind _ _ (IsLocal-body s) (λ b. IsLocal-done _)

IsLocal-section : (o : Object) → IsLocal (section o)
unfolding section
IsLocal-section o = IsLocal-bind _ _ (IsLocal-section_name o.order) (λ s. IsLocal-bind _ _ (IsLocal-section_body s o) (λ r. IsLocal-done _))

pub IsLocal-sections : (n : ℕ) (o : Object) → IsLocal (sections n o)
unfolding sections
IsLocal-sections zero o = IsLocal-done o
IsLocal-sections (suc n) o = IsLocal-bind _ _ (IsLocal-section o) (λ p. IsLocal-sections n p)
