-- Each item that is taken leaves a well-formed object so far.
use Rattle.std.proofs.Common.{◌≡◌, ◌≢◌, ℕ, ◌+◌, ◌^◌, ◌<◌, ◌≤◌, Bool, true, false, not, ◌==◌, eqb, cond, List, [], ◌∷◌, ◌++◌, length, refl, ap, sym, ◌∙◌, subst, arith, length-append, zero-add}
use Rattle.std.specs.List.{list_any}
use Rattle.std.proofs.lemmas.Bool.{false≢true, not-false}
use Rattle.std.proofs.lemmas.List.Folds.{list_any-append}
use Rattle.std.proofs.lemmas.List.Elements.{All-push}
use Rattle.std.proofs.lemmas.List.Quantifiers.{all_pairs_push}
use Rattle.std.proofs.Math.Bool.{or-true}
use Rattle.pm_base.proofs.Booleans.{neither, both}
use Rattle.pm_base.proofs.Elements.{AllByRecursion-append, each_fails, no_pairs}
use Rattle.pm_object.specs.declared.object.SlaveRec.{SlaveRec}
use Rattle.pm_object.specs.declared.object.Pair.{Pair}
use Rattle.pm_object.specs.declared.object.PreGroup.{PreGroup}
use Rattle.pm_object.specs.declared.object.Object.{Object}
use Rattle.pm_object.specs.declared.object.Section.{Section}
use Rattle.pm_object.specs.declared.object.Section.TheVariants as sections
use Rattle.pm_object.specs.Bodies.{Body, body_of, no_body, with_body}
use Rattle.pm_object.specs.Grammar.{is_same, master_words, slave_words, pair_words, group_words, body_words, section_words, HasOwnNodes, IsBody}
use Rattle.pm_object.specs.Reading.{is_bad_node, is_bad_mask}
use Rattle.pm_objtext.specs.declared.item.Item.{Item}
use Rattle.pm_objtext.specs.declared.item.Item.TheVariants.{Empty, Header, Opens, Master, Slave, Group, Prefer, Power, Reset, Shutdown, Config, Gpo}
use Rattle.pm_objtext.specs.declared.stage.Stage.{Stage}
use Rattle.pm_objtext.specs.declared.stage.Stage.TheVariants as stages
use Rattle.pm_objtext.specs.Groups.{with_preset}
use Rattle.pm_objtext.specs.Stage.{is_single, is_in, awaits_record, takes_header}
use Rattle.pm_objtext.specs.SoFar.{SoFar, say, header_size, words_in}
use Rattle.pm_objtext.specs.Causes.{stands, repeats, breaks_masters}
use Rattle.pm_objtext.proofs.ItemTexts.{AreSmall, item_numbers}
use Rattle.pm_objtext.proofs.SectionLaws.{SectionLaws, same_section, differ}
use Rattle.pm_objtext.proofs.Walks.{IsClear}
use Rattle.pm_objtext.proofs.Formed.{is_there, group_numbers, body_numbers, IsFine, IsLedByMasters, missing, unfilled, IsFormed, keys_push, small_push, length_push, opened_there, none_missing, config_missing, gpo_missing, size_kept, masters_push, preset_own, preset_small, preset_count, formed_put}

-- ---- the header

header_missing : (stage : Stage) (n : ℕ) → takes_header stage ≡ true → header_size stage n ≡ missing stage + n
header_missing stages.Start n takes = refl
header_missing (stages.Header full) n takes = sym (zero-add n)
header_missing (stages.In s filled) n takes = absurd (false≢true takes)

-- the further header words are no part of a section
fine_extra : (o : Object) (extra : List ℕ) (there : Section → Bool) → ((t : Section) → IsFine t (body_of t o) (there t)) → (t : Section) → IsFine t (body_of t (record o { extra = extra })) (there t)
fine_extra o extra there fine sections.Masters = fine sections.Masters
fine_extra o extra there fine t = fine t

same_extra : (o : Object) (extra : List ℕ) (t : Section) → length (section_words (record o { extra = extra }) t) ≡ length (section_words o t)
same_extra o extra sections.Gpo = refl
same_extra o extra t = refl

-- ---- a section that begins

led_push : (laws : SectionLaws) (order : List Section) (s : Section) (b : Bool) → cond (eqb (length order) 0) (not (is_same s sections.Masters)) b ≡ false → IsLedByMasters order → IsLedByMasters (order ++ s ∷ [])
led_push laws [] s b lacks led = same_section laws s sections.Masters (not-false (is_same s sections.Masters) lacks)
led_push laws (t ∷ order) s b lacks led = led

there_push : (laws : SectionLaws) (s : Section) (order : List Section) → is_there s (order ++ s ∷ []) ≡ true
there_push laws s order = list_any-append (λ t. is_same t s) order (s ∷ []) ∙ rw ((laws.same s s).1 refl) (or-true (is_there s order))

not_there_before : (s : Section) (order : List Section) (t : Section) → is_there t (order ++ s ∷ []) ≡ false → is_there t order ≡ false
not_there_before s order t none =
    let both = neither (is_there t order) (list_any (λ u. is_same u t) (s ∷ [])) (sym (list_any-append (λ u. is_same u t) order (s ∷ [])) ∙ none) in
    both.0

fine_order : (laws : SectionLaws) (o : Object) (order : List Section) (there now : Section → Bool) → ((t : Section) → now t ≡ false → there t ≡ false) → ((t : Section) → IsFine t (body_of t o) (there t)) → (t : Section) → IsFine t (body_of t (record o { order = order })) (now t)
fine_order laws o order there now less fine t =
    subst (λ c. IsFine t c (now t)) (sym (laws.reordered t order o)) (λ none. (fine t).0 (less t none), (fine t).1, (fine t).2)

same_order : (o : Object) (order : List Section) (t : Section) → length (section_words (record o { order = order }) t) ≡ length (section_words o t)
same_order o order sections.Gpo = refl
same_order o order t = refl

no_words : (s : Section) → length (body_words s (no_body s)) + 1 ≡ cond (is_single s) 1 2 + unfilled s
no_words sections.Masters = refl
no_words s = refl

-- a section that is empty so far
size_empty : (laws : SectionLaws) (s : Section) (o : Object) → body_of s o ≡ no_body s → length (section_words o s) ≡ cond (is_single s) 1 2 + unfilled s
size_empty laws s o none = omega (arith, ap length (laws.words s o), ap (λ b. length (body_words s b)) none, no_words s)

some_groups : (groups : List PreGroup) → not (eqb (length groups) 0) ≡ true → 0 < length groups
some_groups [] some = absurd (false≢true some)
some_groups (group ∷ groups) some = omega arith

-- ---- an item that is taken

module _ (laws : SectionLaws) (d : SoFar) (f : IsFormed d.stage d.size d.object) where
  -- one more record in the open section, of so many words
  record_taken : (s : Section) (b : Body s) (more : ℕ) → is_in s d.stage ≡ true → IsBody s b → AreSmall (body_numbers s b) → length (body_words s b) ≡ length (body_words s (body_of s d.object)) + more → d.size + more ≤ 4096 → IsFormed d.stage (d.size + more) (with_body s b d.object)
  record_taken s b more is together small long fits =
      formed_put laws d.stage d.stage d.size (d.size + more) d.object s b f (opened_there laws s d.stage d.object.order is f.opened) f.opened together small (omega (arith, long)) fits

  -- the record of a section of one
  only_taken : (s : Section) (b : Body s) (words : ℕ) → is_in s d.stage ≡ true → missing d.stage ≡ words → IsBody s b → AreSmall (body_numbers s b) → length (body_words s b) ≡ length (body_words s (body_of s d.object)) → d.size + words ≤ 4096 → IsFormed (stages.In s true) (d.size + words) (with_body s b d.object)
  only_taken s b words is awaited together small long fits =
      let opened = opened_there laws s d.stage d.object.order is f.opened in
      formed_put laws d.stage (stages.In s true) d.size (d.size + words) d.object s b f opened opened together small (omega (arith, long, awaited)) fits

  pub formed_item : (item : Item) → AreSmall (item_numbers item) → stands item d ≡ true → repeats item d ≡ false → breaks_masters item d ≡ false → d.size + words_in item d.stage ≤ 4096 → IsFormed (say item d).stage (say item d).size (say item d).object
  formed_item Empty small place new masters fits =
      let words = f.words in
      record { led = f.led; once = f.once; opened = f.opened; fine = f.fine; extra = f.extra; words = omega arith; most = fits }
  formed_item (Header extra) small place new masters fits =
      let words = f.words in
      record {
        led = f.led;
        once = f.once;
        opened = tt;
        fine = fine_extra d.object (d.object.extra ++ extra.items) (λ t. is_there t d.object.order) f.fine;
        extra = AllByRecursion-append (λ n. n < 2 ^ 32) d.object.extra extra.items f.extra small;
        words = omega (arith, header_missing d.stage (length extra.items) place, length-append d.object.extra extra.items, size_kept d.object.order d.object (record d.object { extra = d.object.extra ++ extra.items }) (same_extra d.object (d.object.extra ++ extra.items)));
        most = fits;
      }
  formed_item (Opens s) small place new masters fits =
      let words = f.words in
      let q : Object = record d.object { order = d.object.order ++ s ∷ [] } in
      record {
        led = led_push laws d.object.order s _ masters f.led;
        once = all_pairs_push (λ a b. a ≢ b) d.object.order s f.once (λ k e within. differ laws _ s (each_fails (λ t. is_same t s) d.object.order new k e within));
        opened = there_push laws s d.object.order;
        fine = fine_order laws d.object (d.object.order ++ s ∷ []) (λ t. is_there t d.object.order) (λ t. is_there t (d.object.order ++ s ∷ [])) (not_there_before s d.object.order) f.fine;
        extra = f.extra;
        words = omega (arith, none_missing d.stage place, length_push (section_words q) d.object.order s, size_kept d.object.order d.object q (same_order d.object (d.object.order ++ s ∷ [])), same_order d.object (d.object.order ++ s ∷ []) s, size_empty laws s d.object ((f.fine s).0 new));
        most = fits;
      }
  formed_item (Master m) small place new masters fits =
      let bad = neither (is_bad_node d.object.masters m.node) (is_bad_mask d.object.masters m.mask) masters in
      record_taken sections.Masters (d.object.masters ++ m ∷ []) 5 place (masters_push d.object.masters m (f.fine sections.Masters).1 new bad.0 bad.1)
      (small_push master_words d.object.masters m (f.fine sections.Masters).2 small) (omega (arith, length_push master_words d.object.masters m)) fits
  formed_item (Slave s) small place new masters fits =
      record_taken sections.Slaves (d.object.slaves ++ s ∷ []) 3 place (keys_push (λ (e : SlaveRec). e.node) d.object.slaves s (f.fine sections.Slaves).1 new)
      (small_push slave_words d.object.slaves s (f.fine sections.Slaves).2 small) (omega (arith, length_push slave_words d.object.slaves s)) fits
  formed_item (Group mask) small place new masters fits =
      let group : PreGroup = record { mask = mask; recs = [] } in
      record_taken sections.Prealloc (d.object.groups ++ group ∷ []) 2 place (All-push HasOwnNodes d.object.groups group (f.fine sections.Prealloc).1 (no_pairs (λ a b. a.node ≢ b.node)))
      (small_push group_numbers d.object.groups group (f.fine sections.Prealloc).2 small) (omega (arith, length_push group_words d.object.groups group)) fits
  formed_item (Prefer rec) small place new masters fits =
      let some = both (is_in sections.Prealloc d.stage) (not (length d.object.groups == 0)) place in
      record_taken sections.Prealloc (with_preset rec d.object.groups) 4 some.0 (preset_own rec d.object.groups (f.fine sections.Prealloc).1 new)
      (preset_small rec d.object.groups (f.fine sections.Prealloc).2 small) (omega (arith, preset_count rec d.object.groups (some_groups d.object.groups some.1))) fits
  formed_item (Power x) small place new masters fits =
      record_taken sections.Power (d.object.power ++ x ∷ []) 2 place (keys_push (λ (e : Pair). e.key) d.object.power x (f.fine sections.Power).1 new)
      (small_push pair_words d.object.power x (f.fine sections.Power).2 small) (omega (arith, length_push pair_words d.object.power x)) fits
  formed_item (Reset x) small place new masters fits =
      record_taken sections.Reset (d.object.reset ++ x ∷ []) 2 place (keys_push (λ (e : Pair). e.key) d.object.reset x (f.fine sections.Reset).1 new)
      (small_push pair_words d.object.reset x (f.fine sections.Reset).2 small) (omega (arith, length_push pair_words d.object.reset x)) fits
  formed_item (Shutdown x) small place new masters fits =
      record_taken sections.Shutdown (d.object.shutdown ++ x ∷ []) 2 place (keys_push (λ (e : Pair). e.key) d.object.shutdown x (f.fine sections.Shutdown).1 new)
      (small_push pair_words d.object.shutdown x (f.fine sections.Shutdown).2 small) (omega (arith, length_push pair_words d.object.shutdown x)) fits
  formed_item (Config base overlay) small place new masters fits =
      let in_it = both (is_in sections.Config d.stage) (awaits_record d.stage) place in
      only_taken sections.Config (base, overlay) 2 in_it.0 (config_missing d.stage place) tt small refl fits
  formed_item (Gpo word) small place new masters fits =
      let in_it = both (is_in sections.Gpo d.stage) (awaits_record d.stage) place in
      only_taken sections.Gpo word 1 in_it.0 (gpo_missing d.stage place) tt small refl fits

pub formed_clear : (laws : SectionLaws) (item : Item) (d : SoFar) → IsFormed d.stage d.size d.object → AreSmall (item_numbers item) → IsClear item d → IsFormed (say item d).stage (say item d).size (say item d).object
formed_clear laws item d f small is = formed_item laws d f item small is.place is.new is.masters is.fits
