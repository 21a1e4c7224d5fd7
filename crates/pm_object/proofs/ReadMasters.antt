-- The masters that are read are the masters that are written.
use Rattle.std.proofs.Common.{◌≡◌, ◌≢◌, ℕ, ◌+◌, ◌<◌, true, false, cond, not, ◌||◌, eqb, List, [], ◌∷◌, ◌++◌, length, bit_and, count_ones, Ok, refl, sym, ap, subst, ◌∙◌, arith}
use Rattle.std.specs.List.{All, list_any, flat_map}
use Rattle.std.proofs.lemmas.Bool.{eqb-false, eqb-true, ne_eqb, eq-eqb, not-false}
use Rattle.std.proofs.lemmas.List.Elements.{All-nil, All-weaker}
use Rattle.std.proofs.lemmas.List.Folds.{list_any_none}
use Rattle.pm_base.proofs.Booleans.{neither}
use Rattle.pm_base.proofs.Elements.{each_fails, no_pairs}
use Rattle.pm_object.specs.declared.object.MasterRec.{MasterRec}
use Rattle.pm_object.specs.declared.object.ObjectCause.TheVariants.{NoMasters, BadMaster, MaskRepeated, RepeatedNode}
use Rattle.pm_base.specs.Masters.{is_master_number, splits_lockstep}
use Rattle.pm_object.specs.Grammar.{master_words, counted, IsMaster, AreApart, AreMasters}
use Rattle.pm_object.specs.Reading.{Cursor, fault, word, master_node, master_mask, master, masters, records}
use Rattle.pm_object.proofs.Steps.{bind_ok, passed, ok_is, Again, before, word_takes, word_again, tested_takes}
use Rattle.pm_object.proofs.ReadLists.{IsReader, records_take, records_again}

-- ---- the node

pub record HasNode (earlier : List MasterRec) (node : ℕ) : Type 0 where
  pub known : is_master_number node ≡ true
  pub modes : All (λ e. splits_lockstep e.node node ≡ false) earlier
  pub own : All (λ e. e.node ≢ node) earlier

pub node_takes : (earlier : List MasterRec) (c : Cursor) (w : ℕ) (d : Cursor) → master_node earlier c ≡ Ok (w, d) → (c.left ≡ w ∷ d.left) × HasNode earlier w
unfolding master_node
node_takes earlier c w d e =
    let bad = λ (v : ℕ). not (is_master_number v) || list_any (λ m. splits_lockstep m.node v) earlier in
    let taken = λ (v : ℕ). list_any (λ m. eqb m.node v) earlier in
    let a = bind_ok (word c) (λ v. cond (bad v.0) (fault BadMaster c.place) (cond (taken v.0) (fault RepeatedNode c.place) (Ok v))) (w, d) e in
    let g = passed (bad a.0.0) BadMaster c.place (cond (taken a.0.0) (fault RepeatedNode c.place) (Ok a.0)) (w, d) a.2 in
    let h = passed (taken a.0.0) RepeatedNode c.place (Ok a.0) (w, d) g.1 in
    let is = ok_is a.0 (w, d) h.1 in
    let good : bad w ≡ false = subst (λ (p : ℕ × Cursor). bad p.0 ≡ false) is g.0 in
    let free : taken w ≡ false = subst (λ (p : ℕ × Cursor). taken p.0 ≡ false) is h.0 in
    let parts = neither (not (is_master_number w)) (list_any (λ m. splits_lockstep m.node w) earlier) good in (
      word_takes c w d (a.1 ∙ h.1),
      record {
        known = not-false (is_master_number w) parts.0;
        modes = each_fails (λ (m : MasterRec). splits_lockstep m.node w) earlier parts.1;
        own = All-weaker (λ (e : MasterRec). eqb e.node w ≡ false) (λ e. e.node ≢ w) (λ e differs. eqb-false e.node w differs) earlier (each_fails (λ (m : MasterRec). eqb m.node w) earlier free);
      },
    )

node_again : (earlier : List MasterRec) (c : Cursor) (w : ℕ) (rest : List ℕ) → c.left ≡ w ∷ rest → HasNode earlier w → Again (master_node earlier c) w rest
unfolding master_node
node_again earlier c w rest h has =
    let known = has.known in
    let modes : list_any (λ m. splits_lockstep m.node w) earlier ≡ false = list_any_none (λ (m : MasterRec). splits_lockstep m.node w) earlier has.modes in
    let own : list_any (λ m. eqb m.node w) earlier ≡ false = list_any_none (λ (m : MasterRec). eqb m.node w) earlier (All-weaker (λ (e : MasterRec). e.node ≢ w) (λ e. eqb e.node w ≡ false) (λ e differs. ne_eqb e.node w differs) earlier has.own) in
    record { after = record { place = c.place + 1; left = rest }; is = rw (h, known, modes, own) refl; left = refl }

-- ---- the mask

pub record HasBit (earlier : List MasterRec) (mask : ℕ) : Type 0 where
  pub one_bit : count_ones mask ≡ 1
  pub own : All (λ e. bit_and e.mask mask ≡ 0) earlier

pub mask_takes : (earlier : List MasterRec) (c : Cursor) (w : ℕ) (d : Cursor) → master_mask earlier c ≡ Ok (w, d) → (c.left ≡ w ∷ d.left) × HasBit earlier w
unfolding master_mask
mask_takes earlier c w d e =
    let t = tested_takes (λ v. not (eqb (count_ones v) 1) || list_any (λ m. not (eqb (bit_and m.mask v) 0)) earlier) MaskRepeated c w d e in
    let parts = neither (not (eqb (count_ones w) 1)) (list_any (λ m. not (eqb (bit_and m.mask w) 0)) earlier) t.1 in (
      t.0,
      record {
        one_bit = eqb-true _ _ (not-false (eqb (count_ones w) 1) parts.0);
        own = All-weaker (λ (e : MasterRec). not (eqb (bit_and e.mask w) 0) ≡ false) (λ e. bit_and e.mask w ≡ 0) (λ e no. eqb-true (bit_and e.mask w) 0 (not-false (eqb (bit_and e.mask w) 0) no)) earlier (each_fails (λ (m : MasterRec). not (eqb (bit_and m.mask w) 0)) earlier parts.1);
      },
    )

mask_again : (earlier : List MasterRec) (c : Cursor) (w : ℕ) (rest : List ℕ) → c.left ≡ w ∷ rest → HasBit earlier w → Again (master_mask earlier c) w rest
unfolding master_mask
mask_again earlier c w rest h has =
    let one : eqb (count_ones w) 1 ≡ true = eq-eqb (count_ones w) 1 has.one_bit in
    let own : list_any (λ m. not (eqb (bit_and m.mask w) 0)) earlier ≡ false = list_any_none (λ (m : MasterRec). not (eqb (bit_and m.mask w) 0)) earlier (All-weaker (λ (e : MasterRec). bit_and e.mask w ≡ 0) (λ e. not (eqb (bit_and e.mask w) 0) ≡ false) (λ e no. ap not (eq-eqb (bit_and e.mask w) 0 no)) earlier has.own) in
    record { after = record { place = c.place + 1; left = rest }; is = rw (h, one, own) refl; left = refl }

-- ---- a master

master_takes : (earlier : List MasterRec) (c : Cursor) (x : MasterRec) (d : Cursor) → master earlier c ≡ Ok (x, d) → (c.left ≡ master_words x ++ d.left) × IsMaster x × All (λ e. AreApart e x) earlier
unfolding master
master_takes earlier c x d e =
    let n = bind_ok (master_node earlier c) _ (x, d) e in
    let m = bind_ok (master_mask earlier n.0.1) _ (x, d) n.2 in
    let t = bind_ok (word m.0.1) _ (x, d) m.2 in
    let s = bind_ok (word t.0.1) _ (x, d) t.2 in
    let w = bind_ok (word s.0.1) _ (x, d) s.2 in
    let node = node_takes earlier c n.0.0 n.0.1 n.1 in
    let mask = mask_takes earlier n.0.1 m.0.0 m.0.1 m.1 in
    let timeout = word_takes m.0.1 t.0.0 t.0.1 t.1 in
    let suspend = word_takes t.0.1 s.0.0 s.0.1 s.1 in
    let wake = word_takes s.0.1 w.0.0 w.0.1 w.1 in
    let made : MasterRec = record { node = n.0.0; mask = m.0.0; timeout = t.0.0; suspend = s.0.0; wake = w.0.0 } in
    let text : c.left ≡ master_words made ++ w.0.1.left = before _ _ _ _ node.0 (before _ _ _ _ mask.0 (before _ _ _ _ timeout (before _ _ _ _ suspend wake))) in
    let apart : All (λ e. AreApart e made) earlier = λ k v within. record { nodes = node.1.own k v within; modes = node.1.modes k v within; bits = mask.1.own k v within } in
    subst (λ (p : MasterRec × Cursor). (c.left ≡ master_words p.0 ++ p.1.left) × IsMaster p.0 × All (λ e. AreApart e p.0) earlier) (ok_is (made, w.0.1) (x, d) w.2)
    (text, record { node = node.1.known; one_bit = mask.1.one_bit }, apart)

master_again : (earlier : List MasterRec) (c : Cursor) (x : MasterRec) (rest : List ℕ) → c.left ≡ master_words x ++ rest → IsMaster x → All (λ e. AreApart e x) earlier → Again (master earlier c) x rest
unfolding master
master_again earlier c x rest text good apart =
    let node = node_again earlier c x.node _ text (record { known = good.node; modes = λ k v within. (apart k v within).modes; own = λ k v within. (apart k v within).nodes }) in
    let mask = mask_again earlier node.after x.mask _ node.left (record { one_bit = good.one_bit; own = λ k v within. (apart k v within).bits }) in
    let timeout = word_again mask.after x.timeout _ mask.left in
    let suspend = word_again timeout.after x.suspend _ timeout.left in
    let wake = word_again suspend.after x.wake rest suspend.left in
    record { after = wake.after; is = rw (node.is, mask.is, timeout.is, suspend.is, wake.is) refl; left = wake.left }

pub reader : IsReader master master_words IsMaster AreApart
reader = record { takes = master_takes; again = master_again }

-- ---- the section

pub masters_take : (c : Cursor) (xs : List MasterRec) (d : Cursor) → masters c ≡ Ok (xs, d) → (c.left ≡ counted master_words xs ++ d.left) × AreMasters xs × (0 < length xs)
unfolding masters
masters_take c xs d e =
    let n = bind_ok (word c) (λ n. cond (eqb n.0 0) (fault NoMasters c.place) (records master n.0 [] n.1)) (xs, d) e in
    let g = passed (eqb n.0.0 0) NoMasters c.place (records master n.0.0 [] n.0.1) (xs, d) n.2 in
    let count = word_takes c n.0.0 n.0.1 n.1 in
    let taken = records_take master master_words IsMaster AreApart reader n.0.0 [] n.0.1 xs d (All-nil IsMaster) (no_pairs AreApart) g.1 in
    let long : length xs ≡ n.0.0 = ap length taken.is ∙ taken.count in
    let body : n.0.1.left ≡ flat_map master_words xs ++ d.left = taken.words ∙ ap (λ (l : List MasterRec). flat_map master_words l ++ d.left) (sym taken.is) in (
      count ∙ ap (λ (l : List ℕ). n.0.0 ∷ l) body ∙ ap (λ (k : ℕ). k ∷ flat_map master_words xs ++ d.left) (sym long),
      record { each = taken.own; apart = taken.apart },
      omega (arith, eqb-false n.0.0 0 g.0, long),
    )

pub masters_again : (c : Cursor) (xs : List MasterRec) (rest : List ℕ) → c.left ≡ counted master_words xs ++ rest → AreMasters xs → 0 < length xs → Again (masters c) xs rest
unfolding masters
masters_again c xs rest text good some =
    let count = word_again c (length xs) (flat_map master_words xs ++ rest) text in
    let many : eqb (length xs) 0 ≡ false = ne_eqb (length xs) 0 (λ (none : length xs ≡ 0). omega arith) in
    let body = records_again master master_words IsMaster AreApart reader xs [] count.after rest good.each good.apart count.left in
    record { after = body.after; is = rw (count.is, many) body.is; left = body.left }
