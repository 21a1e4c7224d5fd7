-- The slaves, preallocations and pairs that are read are those that are written.
use Rattle.std.proofs.Common.{◌≡◌, ℕ, List, ◌++◌, Ok, refl, subst}
use Rattle.std.specs.List.{All}
use Rattle.pm_object.specs.declared.object.SlaveRec.{SlaveRec}
use Rattle.pm_object.specs.declared.object.PreRec.{PreRec}
use Rattle.pm_object.specs.declared.object.PreGroup.{PreGroup}
use Rattle.pm_object.specs.declared.object.Pair.{Pair}
use Rattle.pm_object.specs.FirstFault.{Any, AnyTwo, Differ}
use Rattle.pm_object.specs.Grammar.{slave_words, preset_words, group_words, pair_words, HasOwnNodes}
use Rattle.pm_object.specs.Reading.{Cursor, word, own_key, counted_records, slave, preset, group, pair}
use Rattle.pm_object.proofs.Steps.{bind_ok, ok_is, Again, before, word_takes, word_again, own_key_takes, own_key_again}
use Rattle.pm_object.proofs.ReadLists.{IsReader, counted_take, counted_again}

-- ---- slaves

slave_takes : (earlier : List SlaveRec) (c : Cursor) (x : SlaveRec) (d : Cursor) → slave earlier c ≡ Ok (x, d) → (c.left ≡ slave_words x ++ d.left) × Any x × All (λ e. Differ (λ s. s.node) e x) earlier
unfolding slave
slave_takes earlier c x d e =
    let n = bind_ok (own_key (λ s. s.node) earlier c) _ (x, d) e in
    let f = bind_ok (word n.0.1) _ (x, d) n.2 in
    let m = bind_ok (word f.0.1) _ (x, d) f.2 in
    let node = own_key_takes (λ (s : SlaveRec). s.node) earlier c n.0.0 n.0.1 n.1 in
    let made : SlaveRec = record { node = n.0.0; flags = f.0.0; mask = m.0.0 } in
    let text : c.left ≡ slave_words made ++ m.0.1.left = before _ _ _ _ node.0 (before _ _ _ _ (word_takes n.0.1 f.0.0 f.0.1 f.1) (word_takes f.0.1 m.0.0 m.0.1 m.1)) in
    subst (λ (p : SlaveRec × Cursor). (c.left ≡ slave_words p.0 ++ p.1.left) × Any p.0 × All (λ e. Differ (λ s. s.node) e p.0) earlier) (ok_is (made, m.0.1) (x, d) m.2) (text, tt, node.1)

slave_again : (earlier : List SlaveRec) (c : Cursor) (x : SlaveRec) (rest : List ℕ) → c.left ≡ slave_words x ++ rest → Any x → All (λ e. Differ (λ s. s.node) e x) earlier → Again (slave earlier c) x rest
unfolding slave
slave_again earlier c x rest text good apart =
    let node = own_key_again (λ (s : SlaveRec). s.node) earlier c x.node _ text apart in
    let flags = word_again node.after x.flags _ node.left in
    let mask = word_again flags.after x.mask rest flags.left in
    record { after = mask.after; is = rw (node.is, flags.is, mask.is) refl; left = mask.left }

pub slave_reader : IsReader slave slave_words Any (Differ (λ s. s.node))
slave_reader = record { takes = slave_takes; again = slave_again }

-- ---- pairs

pair_takes : (earlier : List Pair) (c : Cursor) (x : Pair) (d : Cursor) → pair earlier c ≡ Ok (x, d) → (c.left ≡ pair_words x ++ d.left) × Any x × All (λ e. Differ (λ p. p.key) e x) earlier
unfolding pair
pair_takes earlier c x d e =
    let n = bind_ok (own_key (λ p. p.key) earlier c) _ (x, d) e in
    let m = bind_ok (word n.0.1) _ (x, d) n.2 in
    let key = own_key_takes (λ (p : Pair). p.key) earlier c n.0.0 n.0.1 n.1 in
    let made : Pair = record { key = n.0.0; mask = m.0.0 } in
    let text : c.left ≡ pair_words made ++ m.0.1.left = before _ _ _ _ key.0 (word_takes n.0.1 m.0.0 m.0.1 m.1) in
    subst (λ (p : Pair × Cursor). (c.left ≡ pair_words p.0 ++ p.1.left) × Any p.0 × All (λ e. Differ (λ p. p.key) e p.0) earlier) (ok_is (made, m.0.1) (x, d) m.2) (text, tt, key.1)

pair_again : (earlier : List Pair) (c : Cursor) (x : Pair) (rest : List ℕ) → c.left ≡ pair_words x ++ rest → Any x → All (λ e. Differ (λ p. p.key) e x) earlier → Again (pair earlier c) x rest
unfolding pair
pair_again earlier c x rest text good apart =
    let key = own_key_again (λ (p : Pair). p.key) earlier c x.key _ text apart in
    let mask = word_again key.after x.mask rest key.left in
    record { after = mask.after; is = rw (key.is, mask.is) refl; left = mask.left }

pub pair_reader : IsReader pair pair_words Any (Differ (λ p. p.key))
pair_reader = record { takes = pair_takes; again = pair_again }

-- ---- preallocations

preset_takes : (earlier : List PreRec) (c : Cursor) (x : PreRec) (d : Cursor) → preset earlier c ≡ Ok (x, d) → (c.left ≡ preset_words x ++ d.left) × Any x × All (λ e. Differ (λ r. r.node) e x) earlier
unfolding preset
preset_takes earlier c x d e =
    let n = bind_ok (own_key (λ r. r.node) earlier c) _ (x, d) e in
    let f = bind_ok (word n.0.1) _ (x, d) n.2 in
    let u = bind_ok (word f.0.1) _ (x, d) f.2 in
    let s = bind_ok (word u.0.1) _ (x, d) u.2 in
    let node = own_key_takes (λ (r : PreRec). r.node) earlier c n.0.0 n.0.1 n.1 in
    let made : PreRec = record { node = n.0.0; flags = f.0.0; current = u.0.0; preset = s.0.0 } in
    let text : c.left ≡ preset_words made ++ s.0.1.left = before _ _ _ _ node.0 (before _ _ _ _ (word_takes n.0.1 f.0.0 f.0.1 f.1) (before _ _ _ _ (word_takes f.0.1 u.0.0 u.0.1 u.1) (word_takes u.0.1 s.0.0 s.0.1 s.1))) in
    subst (λ (p : PreRec × Cursor). (c.left ≡ preset_words p.0 ++ p.1.left) × Any p.0 × All (λ e. Differ (λ r. r.node) e p.0) earlier) (ok_is (made, s.0.1) (x, d) s.2) (text, tt, node.1)

preset_again : (earlier : List PreRec) (c : Cursor) (x : PreRec) (rest : List ℕ) → c.left ≡ preset_words x ++ rest → Any x → All (λ e. Differ (λ r. r.node) e x) earlier → Again (preset earlier c) x rest
unfolding preset
preset_again earlier c x rest text good apart =
    let node = own_key_again (λ (r : PreRec). r.node) earlier c x.node _ text apart in
    let flags = word_again node.after x.flags _ node.left in
    let current = word_again flags.after x.current _ flags.left in
    let set = word_again current.after x.preset rest current.left in
    record { after = set.after; is = rw (node.is, flags.is, current.is, set.is) refl; left = set.left }

pub preset_reader : IsReader preset preset_words Any (Differ (λ r. r.node))
preset_reader = record { takes = preset_takes; again = preset_again }

-- ---- groups of preallocations

group_takes : (earlier : List PreGroup) (c : Cursor) (x : PreGroup) (d : Cursor) → group earlier c ≡ Ok (x, d) → (c.left ≡ group_words x ++ d.left) × HasOwnNodes x × All (λ e. AnyTwo e x) earlier
unfolding group
group_takes earlier c x d e =
    let m = bind_ok (word c) _ (x, d) e in
    let r = bind_ok (counted_records preset m.0.1) _ (x, d) m.2 in
    let recs = counted_take preset preset_words Any (Differ (λ r. r.node)) preset_reader m.0.1 r.0.0 r.0.1 r.1 in
    let made : PreGroup = record { mask = m.0.0; recs = r.0.0 } in
    let text : c.left ≡ group_words made ++ r.0.1.left = before _ _ _ _ (word_takes c m.0.0 m.0.1 m.1) recs.0 in
    let free : All (λ e. AnyTwo e made) earlier = λ k v within. tt in
    subst (λ (p : PreGroup × Cursor). (c.left ≡ group_words p.0 ++ p.1.left) × HasOwnNodes p.0 × All (λ e. AnyTwo e p.0) earlier) (ok_is (made, r.0.1) (x, d) r.2) (text, recs.2, free)

group_again : (earlier : List PreGroup) (c : Cursor) (x : PreGroup) (rest : List ℕ) → c.left ≡ group_words x ++ rest → HasOwnNodes x → All (λ e. AnyTwo e x) earlier → Again (group earlier c) x rest
unfolding group
group_again earlier c x rest text good apart =
    let mask = word_again c x.mask _ text in
    let recs = counted_again preset preset_words Any (Differ (λ r. r.node)) preset_reader mask.after x.recs rest mask.left (λ k v within. tt) good in
    record { after = recs.after; is = rw (mask.is, recs.is) refl; left = recs.left }

pub group_reader : IsReader group group_words HasOwnNodes AnyTwo
group_reader = record { takes = group_takes; again = group_again }
