-- An object so far: what stays true of it from line to line.
use Rattle.std.proofs.Common.{◌≡◌, ◌≢◌, ℕ, suc, ◌+◌, ◌^◌, ◌<◌, ◌≤◌, Bool, true, false, not, ◌==◌, eqb, ◌&&◌, cond, ◌⊎◌, inl, inr, List, [], ◌∷◌, ◌++◌, length, get_or, refl, ap, sym, ◌∙◌, subst, arith, length-append, bit_and, count_ones}
use Rattle.std.specs.Prelude.{⊤}
use Rattle.std.specs.List.{flat_map, list_any, All, AllPairs, AllByRecursion}
use Rattle.std.proofs.lemmas.Bool.{false≢true, not-false, eqb-true}
use Rattle.std.proofs.lemmas.Bool.Decides.{nat_tests}
use Rattle.std.proofs.lemmas.List.Concat.{flat_map-append}
use Rattle.std.proofs.lemmas.List.Elements.{recursion_from_All, All-from_recursion, All-push}
use Rattle.std.proofs.lemmas.List.Quantifiers.{all_pairs_push}
use Rattle.pm_object.specs.declared.object.MasterRec.{MasterRec}
use Rattle.pm_object.specs.declared.object.PreRec.{PreRec}
use Rattle.pm_object.specs.declared.object.PreGroup.{PreGroup}
use Rattle.pm_object.specs.declared.object.Object.{Object}
use Rattle.pm_object.specs.declared.object.Section.{Section}
use Rattle.pm_object.specs.declared.object.Section.TheVariants as sections
use Rattle.pm_object.specs.Bodies.{Body, body_of, with_body, no_body}
use Rattle.pm_base.specs.Masters.{is_master_number, splits_lockstep}
use Rattle.pm_object.specs.Grammar.{identifier, master_words, slave_words, preset_words, pair_words, group_words, body_words, section_words, IsMaster, AreApart, AreMasters, HaveOwnKeys, HasOwnNodes, IsBody}
use Rattle.pm_base.proofs.Booleans.{neither, differs}
use Rattle.pm_base.proofs.Elements.{AllByRecursion-append, each_fails}
use Rattle.pm_objtext.specs.declared.stage.Stage.{Stage}
use Rattle.pm_objtext.specs.declared.stage.Stage.TheVariants as stages
use Rattle.pm_objtext.specs.Groups.{last_recs, with_preset}
use Rattle.pm_object.specs.Grammar.{is_same}
use Rattle.pm_object.specs.Reading.{is_bad_node, is_bad_mask}
use Rattle.pm_objtext.specs.Stage.{is_in, awaits_record, takes_section}
use Rattle.pm_objtext.proofs.ItemTexts.{AreSmall}
use Rattle.pm_objtext.proofs.TextLaw.{AreSmall-split}
use Rattle.pm_objtext.proofs.SectionLaws.{SectionLaws, same_section, other_section, same_or_not}
use Rattle.pm_objtext.proofs.Whole.{apart_later}

-- ---- a section of an object so far

abbrev pub is_there : Section → List Section → Bool
is_there s order = list_any (λ t. is_same t s) order

abbrev pub group_numbers : PreGroup → List ℕ
group_numbers group = group.mask ∷ flat_map preset_words group.recs

-- the numbers in a section, without its counts
abbrev pub body_numbers : (s : Section) → Body s → List ℕ
body_numbers sections.Masters masters = flat_map master_words masters
body_numbers sections.Slaves slaves = flat_map slave_words slaves
body_numbers sections.Prealloc groups = flat_map group_numbers groups
body_numbers sections.Power pairs = flat_map pair_words pairs
body_numbers sections.Reset pairs = flat_map pair_words pairs
body_numbers sections.Shutdown pairs = flat_map pair_words pairs
body_numbers sections.Config masks = masks.0 ∷ masks.1 ∷ []
body_numbers sections.Gpo word = word ∷ []

-- it is empty where it isn't there, its records go together, and their numbers have 32 bits
abbrev pub IsFine : (s : Section) → Body s → Bool → Type 0
IsFine s b there = (there ≡ false → b ≡ no_body s) × IsBody s b × AreSmall (body_numbers s b)

-- the masters stand first
abbrev pub IsLedByMasters : List Section → Type 0
IsLedByMasters [] = ⊤
IsLedByMasters (s ∷ order) = s ≡ sections.Masters

-- the open section is there
abbrev pub IsOpened : Stage → List Section → Type 0
IsOpened stages.Start order = ⊤
IsOpened (stages.Header full) order = ⊤
IsOpened (stages.In s filled) order = is_there s order ≡ true

-- the words of a section that has not yet its one record
abbrev pub unfilled : Section → ℕ
unfilled sections.Config = 2
unfilled sections.Gpo = 1
unfilled s = 0

-- the words of the object that no line has brought yet
abbrev pub missing : Stage → ℕ
missing stages.Start = 3
missing (stages.Header full) = 0
missing (stages.In s filled) = cond filled 0 (unfilled s)

-- the words of the sections
abbrev pub size_of : List Section → Object → ℕ
size_of order o = length (flat_map (section_words o) order)

-- an object so far, with its size and what comes next
pub record IsFormed (stage : Stage) (size : ℕ) (o : Object) : Type 0 where
  pub led : IsLedByMasters o.order
  pub once : AllPairs (λ s t. s ≢ t) o.order
  pub opened : IsOpened stage o.order
  pub fine : (s : Section) → IsFine s (body_of s o) (is_there s o.order)
  pub extra : AreSmall o.extra
  pub words : size + missing stage ≡ 3 + length o.extra + size_of o.order o
  pub most : size ≤ 4096

-- ---- one more record

-- one more record with a key of its own
pub keys_push : {X : Type 0} (key : X → ℕ) (xs : List X) (x : X) → HaveOwnKeys key xs → list_any (λ e. key e == key x) xs ≡ false → HaveOwnKeys key (xs ++ x ∷ [])
keys_push key xs x own none = all_pairs_push (λ a b. key a ≢ key b) xs x own (λ k d within. differs (key (get_or xs k d)) (key x) (each_fails (λ e. key e == key x) xs none k d within))

pub small_push : {X : Type 0} (words : X → List ℕ) (xs : List X) (x : X) → AreSmall (flat_map words xs) → AreSmall (words x) → AreSmall (flat_map words (xs ++ x ∷ []))
small_push words xs x small one = subst AreSmall (sym (flat_map-append words xs (x ∷ []))) (AllByRecursion-append (λ n. n < 2 ^ 32) (flat_map words xs) (words x ++ []) small (AllByRecursion-append (λ n. n < 2 ^ 32) (words x) [] one tt))

pub length_push : {X : Type 0} (words : X → List ℕ) (xs : List X) (x : X) → length (flat_map words (xs ++ x ∷ [])) ≡ length (flat_map words xs) + length (words x)
length_push words xs x = omega (arith, ap length (flat_map-append words xs (x ∷ [])), length-append (flat_map words xs) (words x ++ []), length-append (words x) [])

-- ---- the open section

pub opened_there : (laws : SectionLaws) (s : Section) (stage : Stage) (order : List Section) → is_in s stage ≡ true → IsOpened stage order → is_there s order ≡ true
opened_there laws s stages.Start order is opened = absurd (false≢true is)
opened_there laws s (stages.Header full) order is opened = absurd (false≢true is)
opened_there laws s (stages.In t filled) order is opened = subst (λ u. is_there u order ≡ true) (same_section laws t s is) opened

pub none_missing : (stage : Stage) → takes_section stage ≡ true → missing stage ≡ 0
none_missing stages.Start takes = absurd (false≢true takes)
none_missing (stages.Header full) takes = refl
none_missing (stages.In sections.Config false) takes = absurd (false≢true takes)
none_missing (stages.In sections.Gpo false) takes = absurd (false≢true takes)
none_missing (stages.In s true) takes = refl
none_missing (stages.In s false) takes = refl

pub config_missing : (stage : Stage) → (is_in sections.Config stage && awaits_record stage) ≡ true → missing stage ≡ 2
config_missing stages.Start awaits = absurd (false≢true awaits)
config_missing (stages.Header full) awaits = absurd (false≢true awaits)
config_missing (stages.In sections.Config false) awaits = refl
config_missing (stages.In s filled) awaits = absurd (false≢true awaits)

pub gpo_missing : (stage : Stage) → (is_in sections.Gpo stage && awaits_record stage) ≡ true → missing stage ≡ 1
gpo_missing stages.Start awaits = absurd (false≢true awaits)
gpo_missing (stages.Header full) awaits = absurd (false≢true awaits)
gpo_missing (stages.In sections.Gpo false) awaits = refl
gpo_missing (stages.In s filled) awaits = absurd (false≢true awaits)

-- ---- sizes

-- sections that keep their sizes
pub size_kept : (order : List Section) (o p : Object) → ((t : Section) → length (section_words p t) ≡ length (section_words o t)) → size_of order p ≡ size_of order o
size_kept [] o p same = refl
size_kept (t ∷ order) o p same =
    omega (arith, length-append (section_words p t) (flat_map (section_words p) order), length-append (section_words o t) (flat_map (section_words o) order), same t, size_kept order o p same)

module _ (laws : SectionLaws) (s : Section) (b : Body s) (o : Object) where
  other_kept : (t : Section) → t ≢ s → length (section_words (with_body s b o) t) ≡ length (section_words o t)
  other_kept t differ = ap length (laws.words t (with_body s b o) ∙ ap (λ c. identifier t ∷ body_words t c) (laws.others s t b o differ) ∙ sym (laws.words t o))

  this_put : length (section_words (with_body s b o) s) + length (body_words s (body_of s o)) ≡ length (section_words o s) + length (body_words s b)
  this_put = omega (arith, ap length (laws.words s o), ap length (laws.words s (with_body s b o)), ap (λ c. length (body_words s c)) (laws.put s b o))

  others_kept : (order : List Section) → AllByRecursion (λ t. s ≢ t) order → size_of order (with_body s b o) ≡ size_of order o
  others_kept [] apart = refl
  others_kept (t ∷ order) apart =
      let same = other_kept t (λ is. apart.0 (sym is)) in
      omega (arith, length-append (section_words (with_body s b o) t) (flat_map (section_words (with_body s b o)) order), length-append (section_words o t) (flat_map (section_words o) order), others_kept order apart.1)

  -- a section that is there has other words
  size_put : (order : List Section) → AllPairs (λ a c. a ≢ c) order → is_there s order ≡ true → size_of order (with_body s b o) + length (body_words s (body_of s o)) ≡ size_of order o + length (body_words s b)
  size_put [] once there = absurd (false≢true there)
  size_put (t ∷ order) once there = at (same_or_not laws t s) (λ later. size_put order pairs_rest later)
    where
      long_p : size_of (t ∷ order) (with_body s b o) ≡ length (section_words (with_body s b o) t) + size_of order (with_body s b o)
      long_p = length-append (section_words (with_body s b o) t) (flat_map (section_words (with_body s b o)) order)

      long_o : size_of (t ∷ order) o ≡ length (section_words o t) + size_of order o
      long_o = length-append (section_words o t) (flat_map (section_words o) order)

      pairs_rest : AllPairs (λ a c. a ≢ c) order
      pairs_rest i j d before within = once (suc i) (suc j) d (omega arith) (omega arith)

      at : (t ≡ s) ⊎ (t ≢ s) → (is_there s order ≡ true → size_of order (with_body s b o) + length (body_words s (body_of s o)) ≡ size_of order o + length (body_words s b)) → size_of (t ∷ order) (with_body s b o) + length (body_words s (body_of s o)) ≡ size_of (t ∷ order) o + length (body_words s b)
      at (inl here) others =
          let first : length (section_words (with_body s b o) t) + length (body_words s (body_of s o)) ≡ length (section_words o t) + length (body_words s b) =
          subst (λ u. length (section_words (with_body s b o) u) + length (body_words s (body_of s o)) ≡ length (section_words o u) + length (body_words s b)) (sym here) this_put in
          let apart : AllByRecursion (λ u. s ≢ u) order = subst (λ u. AllByRecursion (λ v. u ≢ v) order) here (apart_later [] t order once) in
          omega (arith, long_p, long_o, first, others_kept order apart)
      at (inr other) others =
          let later : is_there s order ≡ true = rw (other_section laws t s other) at there in
          omega (arith, long_p, long_o, other_kept t other, others later)

-- ---- a section that is changed

module _ (laws : SectionLaws) (o : Object) (there : Section → Bool) (fine : (t : Section) → IsFine t (body_of t o) (there t)) where
  fine_put : (s : Section) (b : Body s) → there s ≡ true → IsBody s b → AreSmall (body_numbers s b) → (t : Section) → IsFine t (body_of t (with_body s b o)) (there t)
  fine_put s b is together small t = at (same_or_not laws t s)
    where
      at : (t ≡ s) ⊎ (t ≢ s) → IsFine t (body_of t (with_body s b o)) (there t)
      at (inl here) =
          subst (λ u. IsFine u (body_of u (with_body s b o)) (there u)) (sym here)
          (subst (λ c. IsFine s c (there s)) (sym (laws.put s b o)) (λ none. absurd (false≢true (sym none ∙ is)), together, small))
      at (inr other) = subst (λ c. IsFine t c (there t)) (sym (laws.others s t b o other)) (fine t)

-- a section that is there has something else in it
pub formed_put : (laws : SectionLaws) (stage after : Stage) (size now : ℕ) (o : Object) (s : Section) (b : Body s) → IsFormed stage size o → is_there s o.order ≡ true → IsOpened after o.order → IsBody s b → AreSmall (body_numbers s b)
    → now + missing after + length (body_words s (body_of s o)) ≡ size + missing stage + length (body_words s b) → now ≤ 4096 → IsFormed after now (with_body s b o)
formed_put laws stage after size now o s b f there opened together small words most =
    let order = laws.order s b o in
    let extra = laws.extra s b o in
    let all : now + missing after ≡ 3 + length o.extra + size_of o.order (with_body s b o) = let before = f.words in omega (arith, size_put laws s b o o.order f.once there) in
    record {
      led = subst IsLedByMasters (sym order) f.led;
      once = subst (AllPairs (λ s t. s ≢ t)) (sym order) f.once;
      opened = subst (IsOpened after) (sym order) opened;
      fine = λ t. subst (λ l. IsFine t (body_of t (with_body s b o)) (is_there t l)) (sym order) (fine_put laws o (λ t. is_there t o.order) f.fine s b there together small t);
      extra = subst AreSmall (sym extra) f.extra;
      words = subst (λ l. now + missing after ≡ 3 + length (with_body s b o).extra + size_of l (with_body s b o)) (sym order) (subst (λ x. now + missing after ≡ 3 + length x + size_of o.order (with_body s b o)) (sym extra) all);
      most = most;
    }

-- ---- masters

pub masters_push : (masters : List MasterRec) (m : MasterRec) → AreMasters masters → list_any (λ e. e.node == m.node) masters ≡ false → is_bad_node masters m.node ≡ false → is_bad_mask masters m.mask ≡ false → AreMasters (masters ++ m ∷ [])
masters_push masters m are new node mask =
    let nodes = neither (not (is_master_number m.node)) (list_any (λ e. splits_lockstep e.node m.node) masters) node in
    let masks = neither (not (count_ones m.mask == 1)) (list_any (λ e. not (bit_and e.mask m.mask == 0)) masters) mask in
    let one : eqb (count_ones m.mask) 1 ≡ true = not-false (eqb (count_ones m.mask) 1) masks.0 in
    let is : IsMaster m = record { node = not-false (is_master_number m.node) nodes.0; one_bit = grind (arith, nat_tests) } in
    record {
      each = All-push IsMaster masters m are.each is;
      apart = all_pairs_push AreApart masters m are.apart (λ k d within. record {
        nodes = differs _ _ (each_fails (λ e. e.node == m.node) masters new k d within);
        modes = each_fails (λ e. splits_lockstep e.node m.node) masters nodes.1 k d within;
        bits = eqb-true _ _ (not-false _ (each_fails (λ e. not (bit_and e.mask m.mask == 0)) masters masks.1 k d within));
      });
    }

-- ---- groups

presets_own : (rec : PreRec) (groups : List PreGroup) → AllByRecursion HasOwnNodes groups → list_any (λ e. e.node == rec.node) (last_recs groups) ≡ false → AllByRecursion HasOwnNodes (with_preset rec groups)
presets_own rec [] own none = tt
presets_own rec (group ∷ []) own none = (keys_push (λ (r : PreRec). r.node) group.recs rec own.0 none, tt)
presets_own rec (group ∷ next ∷ groups) own none = (own.0, presets_own rec (next ∷ groups) own.1 none)

pub preset_own : (rec : PreRec) (groups : List PreGroup) → All HasOwnNodes groups → list_any (λ e. e.node == rec.node) (last_recs groups) ≡ false → All HasOwnNodes (with_preset rec groups)
preset_own rec groups own none = All-from_recursion HasOwnNodes (with_preset rec groups) (presets_own rec groups (recursion_from_All HasOwnNodes groups own) none)

pub preset_small : (rec : PreRec) (groups : List PreGroup) → AreSmall (flat_map group_numbers groups) → AreSmall (preset_words rec) → AreSmall (flat_map group_numbers (with_preset rec groups))
preset_small rec [] small one = tt
preset_small rec (group ∷ []) small one =
    let numbers = AreSmall-split (flat_map preset_words group.recs) [] small.1 in
    (small.0, AllByRecursion-append (λ n. n < 2 ^ 32) (flat_map preset_words (group.recs ++ rec ∷ [])) [] (small_push preset_words group.recs rec numbers.0 one) tt)
preset_small rec (group ∷ next ∷ groups) small one =
    let numbers = AreSmall-split (flat_map preset_words group.recs) (flat_map group_numbers (next ∷ groups)) small.1 in
    (small.0, AllByRecursion-append (λ n. n < 2 ^ 32) (flat_map preset_words group.recs) (flat_map group_numbers (with_preset rec (next ∷ groups))) numbers.0 (preset_small rec (next ∷ groups) numbers.1 one))

pub preset_count : (rec : PreRec) (groups : List PreGroup) → 0 < length groups → length (flat_map group_words (with_preset rec groups)) ≡ length (flat_map group_words groups) + 4
preset_count rec [] some = absurd (omega arith)
preset_count rec (group ∷ []) some =
    omega (arith, length_push preset_words group.recs rec, length-append (group_words group) [], length-append (group_words (record group { recs = group.recs ++ rec ∷ [] })) [])
preset_count rec (group ∷ next ∷ groups) some =
    omega (arith, preset_count rec (next ∷ groups) (omega arith), length-append (group_words group) (flat_map group_words (with_preset rec (next ∷ groups))), length-append (group_words group) (flat_map group_words (next ∷ groups)))
