-- What the records of each section tell where they fail.
use Rattle.std.proofs.Common.{◌≡◌, ℕ, ◌+◌, ◌||◌, ◌⊎◌, inl, inr, true, false, cond, not, eqb, List, [], ◌∷◌, length, bit_and, count_ones, Result, Ok, Err, ap, ◌∙◌, arith}
use Rattle.std.specs.List.{list_any}
use Rattle.std.proofs.lemmas.Bool.{eqb-false, eqb-true, eq-eqb, not-false}
use Rattle.std.proofs.lemmas.List.Elements.{All-weaker}
use Rattle.std.proofs.lemmas.List.Folds.{list_any_none}
use Rattle.pm_base.proofs.Booleans.{neither, none_of}
use Rattle.pm_base.proofs.Elements.{each_fails}
use Rattle.pm_object.specs.declared.object.MasterRec.{MasterRec}
use Rattle.pm_object.specs.declared.object.SlaveRec.{SlaveRec}
use Rattle.pm_object.specs.declared.object.PreRec.{PreRec}
use Rattle.pm_object.specs.declared.object.PreGroup.{PreGroup}
use Rattle.pm_object.specs.declared.object.Pair.{Pair}
use Rattle.pm_object.specs.declared.object.ObjectCause.TheVariants.{NoMasters, BadMaster, MaskRepeated, RepeatedNode}
use Rattle.pm_object.specs.declared.object.ObjectFault.{ObjectFault}
use Rattle.pm_object.specs.FirstFault.{Fault, WordFault, Free, WordsEnd, After, RecordsFault, CountedFault, Any, Differ, KeyedFault, NodeFits, NodeBreaks, MaskFits, MaskBreaks, MasterFault, CountBreaks, MastersFault, GroupFault}
use Rattle.pm_base.specs.Masters.{is_master_number, splits_lockstep}
use Rattle.pm_object.specs.Grammar.{master_words, preset_words, IsMaster, AreApart}
use Rattle.pm_object.specs.Reading.{Cursor, ◌>>=◌, fault, word, own_key, counted_records, records, slave, pair, preset, group, master_node, master_mask, master, masters}
use Rattle.pm_object.proofs.Steps.{bind_ok, passed, ok_is, word_takes}
use Rattle.pm_object.proofs.ReadRecords.{preset_reader}
use Rattle.pm_object.proofs.ReadMasters.{reader, node_takes, mask_takes}
use Rattle.pm_object.proofs.FaultSteps.{Told, Steady, IsTelling, bind_err, later, word_steady, word_fails, word_breaks, tested, clash, more_words, new_is_free, tested_steady, tested_fails, key_steady, keyed_fails, records_steady, records_fails, counted_steady, counted_fails}

-- ---- slaves, pairs and preallocations

slave_steady : (earlier : List SlaveRec) (c : Cursor) (x : SlaveRec) (d : Cursor) → slave earlier c ≡ Ok (x, d) → Steady c d
unfolding slave
slave_steady earlier c x d e =
    let n = bind_ok (own_key (λ s. s.node) earlier c) _ (x, d) e in
    let f = bind_ok (word n.0.1) _ (x, d) n.2 in
    let m = bind_ok (word f.0.1) _ (x, d) f.2 in
    let end = ok_is _ (x, d) m.2 in
    key_steady (λ (s : SlaveRec). s.node) earlier c n.0.0 n.0.1 n.1 ∙ word_steady n.0.1 f.0.0 f.0.1 f.1 ∙ word_steady f.0.1 m.0.0 m.0.1 m.1
    ∙ ap (λ (p : SlaveRec × Cursor). p.1.place + length p.1.left) end

slave_fails : (earlier : List SlaveRec) (c : Cursor) (f : ObjectFault) → slave earlier c ≡ Err f → Told (KeyedFault (λ s. s.node) 2 earlier) c.place c.left f
unfolding slave
slave_fails earlier c f e =
    keyed_fails (λ (s : SlaveRec). s.node) 2 earlier c _ f
    (λ w d is. more_words 1 d _ f (λ v b is. more_words 0 b _ f (λ u a is. absurd cc) is) is) e

pub slave_telling : IsTelling slave (KeyedFault (λ s. s.node) 2)
slave_telling = record { steady = slave_steady; fails = slave_fails }

pair_steady : (earlier : List Pair) (c : Cursor) (x : Pair) (d : Cursor) → pair earlier c ≡ Ok (x, d) → Steady c d
unfolding pair
pair_steady earlier c x d e =
    let n = bind_ok (own_key (λ p. p.key) earlier c) _ (x, d) e in
    let m = bind_ok (word n.0.1) _ (x, d) n.2 in
    let end = ok_is _ (x, d) m.2 in
    key_steady (λ (p : Pair). p.key) earlier c n.0.0 n.0.1 n.1 ∙ word_steady n.0.1 m.0.0 m.0.1 m.1
    ∙ ap (λ (p : Pair × Cursor). p.1.place + length p.1.left) end

pair_fails : (earlier : List Pair) (c : Cursor) (f : ObjectFault) → pair earlier c ≡ Err f → Told (KeyedFault (λ p. p.key) 1 earlier) c.place c.left f
unfolding pair
pair_fails earlier c f e =
    keyed_fails (λ (p : Pair). p.key) 1 earlier c _ f (λ w d is. more_words 0 d _ f (λ u a is. absurd cc) is) e

pub pair_telling : IsTelling pair (KeyedFault (λ p. p.key) 1)
pair_telling = record { steady = pair_steady; fails = pair_fails }

preset_steady : (earlier : List PreRec) (c : Cursor) (x : PreRec) (d : Cursor) → preset earlier c ≡ Ok (x, d) → Steady c d
unfolding preset
preset_steady earlier c x d e =
    let n = bind_ok (own_key (λ r. r.node) earlier c) _ (x, d) e in
    let f = bind_ok (word n.0.1) _ (x, d) n.2 in
    let u = bind_ok (word f.0.1) _ (x, d) f.2 in
    let s = bind_ok (word u.0.1) _ (x, d) u.2 in
    let end = ok_is _ (x, d) s.2 in
    key_steady (λ (r : PreRec). r.node) earlier c n.0.0 n.0.1 n.1 ∙ word_steady n.0.1 f.0.0 f.0.1 f.1 ∙ word_steady f.0.1 u.0.0 u.0.1 u.1
    ∙ word_steady u.0.1 s.0.0 s.0.1 s.1 ∙ ap (λ (p : PreRec × Cursor). p.1.place + length p.1.left) end

preset_fails : (earlier : List PreRec) (c : Cursor) (f : ObjectFault) → preset earlier c ≡ Err f → Told (KeyedFault (λ r. r.node) 3 earlier) c.place c.left f
unfolding preset
preset_fails earlier c f e =
    keyed_fails (λ (r : PreRec). r.node) 3 earlier c _ f
    (λ w d is. more_words 2 d _ f (λ v b is. more_words 1 b _ f (λ x a is. more_words 0 a _ f (λ u z is. absurd cc) is) is) is) e

preset_telling : IsTelling preset (KeyedFault (λ r. r.node) 3)
preset_telling = record { steady = preset_steady; fails = preset_fails }

group_steady : (earlier : List PreGroup) (c : Cursor) (x : PreGroup) (d : Cursor) → group earlier c ≡ Ok (x, d) → Steady c d
unfolding group
group_steady earlier c x d e =
    let m = bind_ok (word c) _ (x, d) e in
    let r = bind_ok (counted_records preset m.0.1) _ (x, d) m.2 in
    let end = ok_is _ (x, d) r.2 in
    word_steady c m.0.0 m.0.1 m.1
    ∙ counted_steady preset preset_words Any (Differ (λ r. r.node)) (KeyedFault (λ r. r.node) 3) preset_reader preset_telling m.0.1 r.0.0 r.0.1 r.1
    ∙ ap (λ (p : PreGroup × Cursor). p.1.place + length p.1.left) end

group_fails : (earlier : List PreGroup) (c : Cursor) (f : ObjectFault) → group earlier c ≡ Err f → Told (GroupFault earlier) c.place c.left f
unfolding group
group_fails earlier c f e =
    elim (bind_err (word c) _ f e) [
      | inl ends ↦ let told = word_fails Free c f ends in (told.0, told.1, inl told.2)
      | inr there ↦
          let mask = there.0.0 in
          let d = there.0.1 in
          elim (bind_err (counted_records preset d) _ f there.2) [
            | inl within ↦
                let inner = counted_fails preset preset_words Any (Differ (λ r. r.node)) (KeyedFault (λ r. r.node) 3) preset_reader preset_telling d f within in
                let told = later (mask ∷ []) (CountedFault preset_words Any (Differ (λ r. r.node)) (KeyedFault (λ r. r.node) 3)) c d f (word_steady c mask d there.1) (word_takes c mask d there.1) inner in
                (told.0, told.1, inr (mask, told.2))
            | inr ended ↦ absurd (let no = ended.2 in cc)
          ]
    ]

pub group_telling : IsTelling group GroupFault
group_telling = record { steady = group_steady; fails = group_fails }

-- ---- masters

fitting : (earlier : List MasterRec) (w : ℕ) → NodeFits earlier w → (not (is_master_number w) || list_any (λ m. splits_lockstep m.node w) earlier) ≡ false
fitting earlier w fits =
    none_of _ _ (ap not fits.0) (list_any_none (λ (m : MasterRec). splits_lockstep m.node w) earlier fits.1)

mask_fitting : (earlier : List MasterRec) (w : ℕ) → MaskFits earlier w → (not (eqb (count_ones w) 1) || list_any (λ m. not (eqb (bit_and m.mask w) 0)) earlier) ≡ false
mask_fitting earlier w fits =
    none_of _ _ (ap not (eq-eqb (count_ones w) 1 fits.0))
    (list_any_none (λ (m : MasterRec). not (eqb (bit_and m.mask w) 0)) earlier
    (All-weaker (λ (e : MasterRec). bit_and e.mask w ≡ 0) (λ e. not (eqb (bit_and e.mask w) 0) ≡ false) (λ e no. ap not (eq-eqb (bit_and e.mask w) 0 no)) earlier fits.1))

node_fails : (earlier : List MasterRec) (c : Cursor) (f : ObjectFault) → master_node earlier c ≡ Err f → Told (WordFault (NodeBreaks earlier)) c.place c.left f
unfolding master_node
node_fails earlier c f e =
    let bad = λ (v : ℕ). not (is_master_number v) || list_any (λ m. splits_lockstep m.node v) earlier in
    let taken = λ (v : ℕ). list_any (λ m. eqb m.node v) earlier in
    elim (bind_err (word c) (λ v. cond (bad v.0) (fault BadMaster c.place) (cond (taken v.0) (fault RepeatedNode c.place) (Ok v))) f e) [
      | inl ends ↦ word_fails (NodeBreaks earlier) c f ends
      | inr there ↦
          let w = there.0.0 in
          elim (tested (bad w) BadMaster c.place _ f there.2) [
            | inl refused ↦ word_breaks (NodeBreaks earlier) c w there.0.1 f there.1 (inl (refused.1, λ fits. clash _ refused.0 (fitting earlier w fits))) refused.2
            | inr fits ↦ elim (tested (taken w) RepeatedNode c.place (Ok there.0) f fits.1) [
              | inl refused ↦ word_breaks (NodeBreaks earlier) c w there.0.1 f there.1
                  (inr (refused.1, does_fit earlier w fits.0, λ own. clash _ refused.0 (new_is_free (λ (m : MasterRec). m.node) earlier w own))) refused.2
              | inr passes ↦ absurd (let no = passes.1 in cc)
            ]
          ]
    ]
  where
    does_fit : (earlier : List MasterRec) (w : ℕ) → (not (is_master_number w) || list_any (λ m. splits_lockstep m.node w) earlier) ≡ false → NodeFits earlier w
    does_fit earlier w good =
        let parts = neither (not (is_master_number w)) (list_any (λ m. splits_lockstep m.node w) earlier) good in
        (not-false (is_master_number w) parts.0, each_fails (λ (m : MasterRec). splits_lockstep m.node w) earlier parts.1)

node_steady : (earlier : List MasterRec) (c : Cursor) (w : ℕ) (d : Cursor) → master_node earlier c ≡ Ok (w, d) → Steady c d
unfolding master_node
node_steady earlier c w d e =
    let bad = λ (v : ℕ). not (is_master_number v) || list_any (λ m. splits_lockstep m.node v) earlier in
    let taken = λ (v : ℕ). list_any (λ m. eqb m.node v) earlier in
    let a = bind_ok (word c) (λ v. cond (bad v.0) (fault BadMaster c.place) (cond (taken v.0) (fault RepeatedNode c.place) (Ok v))) (w, d) e in
    let g = passed (bad a.0.0) BadMaster c.place (cond (taken a.0.0) (fault RepeatedNode c.place) (Ok a.0)) (w, d) a.2 in
    let h = passed (taken a.0.0) RepeatedNode c.place (Ok a.0) (w, d) g.1 in
    word_steady c w d (a.1 ∙ h.1)

mask_steady : (earlier : List MasterRec) (c : Cursor) (w : ℕ) (d : Cursor) → master_mask earlier c ≡ Ok (w, d) → Steady c d
unfolding master_mask
mask_steady earlier c w d e = tested_steady (λ v. not (eqb (count_ones v) 1) || list_any (λ m. not (eqb (bit_and m.mask v) 0)) earlier) MaskRepeated c w d e

mask_fails : (earlier : List MasterRec) (c : Cursor) (f : ObjectFault) → master_mask earlier c ≡ Err f → Told (WordFault (MaskBreaks earlier)) c.place c.left f
unfolding master_mask
mask_fails earlier c f e =
    tested_fails (MaskBreaks earlier) (λ v. not (eqb (count_ones v) 1) || list_any (λ m. not (eqb (bit_and m.mask v) 0)) earlier) MaskRepeated c f
    (λ w refused cause. (cause, λ fits. clash _ refused (mask_fitting earlier w fits))) e

-- what follows the node of a master
abbrev AfterNode : List MasterRec → Fault
AfterNode earlier words left cause =
    WordFault (MaskBreaks earlier) words left cause
    ⊎ ((mask : ℕ) × MaskFits earlier mask × After (mask ∷ []) (WordsEnd 3) words left cause)

after_node : {B : Type 0} (earlier : List MasterRec) (c : Cursor) (k : ℕ × Cursor → Result (B × Cursor) ObjectFault) (f : ObjectFault)
    → ((w : ℕ) (d : Cursor) → k (w, d) ≡ Err f → Told (WordsEnd 3) d.place d.left f)
    → (master_mask earlier c >>= k) ≡ Err f → Told (AfterNode earlier) c.place c.left f
after_node earlier c k f next e =
    elim (bind_err (master_mask earlier c) k f e) [
      | inl own ↦ let told = mask_fails earlier c f own in (told.0, told.1, inl told.2)
      | inr there ↦
          let mask = there.0.0 in
          let d = there.0.1 in
          let takes = mask_takes earlier c mask d there.1 in
          let told = later (mask ∷ []) (WordsEnd 3) c d f (mask_steady earlier c mask d there.1) takes.0 (next mask d there.2) in
          (told.0, told.1, inr (mask, (takes.1.one_bit, takes.1.own), told.2))
    ]

master_steady : (earlier : List MasterRec) (c : Cursor) (x : MasterRec) (d : Cursor) → master earlier c ≡ Ok (x, d) → Steady c d
unfolding master
master_steady earlier c x d e =
    let n = bind_ok (master_node earlier c) _ (x, d) e in
    let m = bind_ok (master_mask earlier n.0.1) _ (x, d) n.2 in
    let t = bind_ok (word m.0.1) _ (x, d) m.2 in
    let s = bind_ok (word t.0.1) _ (x, d) t.2 in
    let w = bind_ok (word s.0.1) _ (x, d) s.2 in
    let end = ok_is _ (x, d) w.2 in
    node_steady earlier c n.0.0 n.0.1 n.1 ∙ mask_steady earlier n.0.1 m.0.0 m.0.1 m.1 ∙ word_steady m.0.1 t.0.0 t.0.1 t.1
    ∙ word_steady t.0.1 s.0.0 s.0.1 s.1 ∙ word_steady s.0.1 w.0.0 w.0.1 w.1 ∙ ap (λ (p : MasterRec × Cursor). p.1.place + length p.1.left) end

master_fails : (earlier : List MasterRec) (c : Cursor) (f : ObjectFault) → master earlier c ≡ Err f → Told (MasterFault earlier) c.place c.left f
unfolding master
master_fails earlier c f e =
    elim (bind_err (master_node earlier c) _ f e) [
      | inl own ↦ let told = node_fails earlier c f own in (told.0, told.1, inl told.2)
      | inr there ↦
          let node = there.0.0 in
          let d = there.0.1 in
          let takes = node_takes earlier c node d there.1 in
          let inner = after_node earlier d _ f
          (λ w b is. more_words 2 b _ f (λ x a is. more_words 1 a _ f (λ y z is. more_words 0 z _ f (λ u q is. absurd cc) is) is) is) there.2 in
          let told = later (node ∷ []) (AfterNode earlier) c d f (node_steady earlier c node d there.1) takes.0 inner in
          (told.0, told.1, inr (node, (takes.1.known, takes.1.modes), takes.1.own, told.2))
    ]

master_telling : IsTelling master MasterFault
master_telling = record { steady = master_steady; fails = master_fails }

pub masters_steady : (c : Cursor) (xs : List MasterRec) (d : Cursor) → masters c ≡ Ok (xs, d) → Steady c d
unfolding masters
masters_steady c xs d e =
    let n = bind_ok (word c) (λ n. cond (eqb n.0 0) (fault NoMasters c.place) (records master n.0 [] n.1)) (xs, d) e in
    let g = passed (eqb n.0.0 0) NoMasters c.place (records master n.0.0 [] n.0.1) (xs, d) n.2 in
    word_steady c n.0.0 n.0.1 n.1
    ∙ records_steady master master_words IsMaster AreApart MasterFault reader master_telling n.0.0 [] n.0.1 xs d g.1

pub masters_fails : (c : Cursor) (f : ObjectFault) → masters c ≡ Err f → Told MastersFault c.place c.left f
unfolding masters
masters_fails c f e =
    elim (bind_err (word c) (λ n. cond (eqb n.0 0) (fault NoMasters c.place) (records master n.0 [] n.1)) f e) [
      | inl ends ↦ let told = word_fails CountBreaks c f ends in (told.0, told.1, inl told.2)
      | inr there ↦
          let n = there.0.0 in
          let d = there.0.1 in
          elim (tested (eqb n 0) NoMasters c.place (records master n [] d) f there.2) [
            | inl none ↦ let told = word_breaks CountBreaks c n d f there.1 (eqb-true n 0 none.0, none.1) none.2 in (told.0, told.1, inl told.2)
            | inr some ↦
                let inner = records_fails master master_words IsMaster AreApart MasterFault reader master_telling n d f some.1 in
                let told = later (n ∷ []) (RecordsFault master_words IsMaster AreApart MasterFault n) c d f (word_steady c n d there.1) (word_takes c n d there.1) inner in
                (told.0, told.1, inr (n, omega (arith, eqb-false n 0 some.0), told.2))
          ]
    ]
