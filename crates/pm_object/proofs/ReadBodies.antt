-- The section that is read after the others is the section that is written.
use Rattle.std.proofs.Common.{◌≡◌, ℕ, ◌<◌, List, [], ◌∷◌, ◌++◌, length, Ok, refl, sym, ap, subst, ◌∙◌}
use Rattle.std.specs.Bool.{⊤}
use Rattle.pm_object.specs.declared.object.Pair.{Pair}
use Rattle.pm_object.specs.declared.object.Section.{Section}
use Rattle.pm_object.specs.declared.object.Section.TheVariants.{Masters, Slaves, Prealloc, Power, Reset, Shutdown, Config, Gpo}
use Rattle.pm_object.specs.declared.object.Object.{Object}
use Rattle.pm_object.specs.Bodies.{Body, with_body, with_section}
use Rattle.pm_object.specs.FirstFault.{Any, AnyTwo, Differ, MayFollow}
use Rattle.pm_object.specs.Grammar.{identifier, counted, body_words, slave_words, group_words, pair_words, HaveOwnKeys, HasOwnNodes, IsBody}
use Rattle.pm_object.specs.Reading.{Cursor, ◌>>=◌, word, counted_records, slave, group, pair, section_name, body, section_body, section}
use Rattle.pm_object.proofs.Steps.{bind_ok, ok_is, Again, before, word_takes, word_again}
use Rattle.pm_object.proofs.ReadMasters.{masters_take, masters_again}
use Rattle.pm_object.proofs.ReadLists.{counted_take, counted_again}
use Rattle.pm_object.proofs.ReadRecords.{slave_reader, pair_reader, group_reader}
use Rattle.pm_object.proofs.ReadNames.{name_takes, name_again}

-- ---- what stands in a section

-- the masters' section has a master
abbrev pub HasSome : (s : Section) → Body s → Type 0
HasSome Masters b = 0 < length b
HasSome s b = ⊤

pairs_take : (c : Cursor) (b : List Pair) (d : Cursor) → counted_records pair c ≡ Ok (b, d) → (c.left ≡ counted pair_words b ++ d.left) × HaveOwnKeys (λ p. p.key) b × ⊤
pairs_take c b d e = let taken = counted_take pair pair_words Any (Differ (λ p. p.key)) pair_reader c b d e in (taken.0, taken.2, tt)

pairs_again : (c : Cursor) (b : List Pair) (rest : List ℕ) → c.left ≡ counted pair_words b ++ rest → HaveOwnKeys (λ p. p.key) b → Again (counted_records pair c) b rest
pairs_again c b rest text together = counted_again pair pair_words Any (Differ (λ p. p.key)) pair_reader c b rest text (λ k v within. tt) together

body_takes : (s : Section) (c : Cursor) (b : Body s) (d : Cursor) → body s c ≡ Ok (b, d) → (c.left ≡ body_words s b ++ d.left) × IsBody s b × HasSome s b
unfolding body
body_takes Masters c b d e = let taken = masters_take c b d e in (taken.0, taken.1, taken.2)
body_takes Slaves c b d e = let taken = counted_take slave slave_words Any (Differ (λ s. s.node)) slave_reader c b d e in (taken.0, taken.2, tt)
body_takes Prealloc c b d e = let taken = counted_take group group_words HasOwnNodes AnyTwo group_reader c b d e in (taken.0, taken.1, tt)
body_takes Power c b d e = pairs_take c b d e
body_takes Reset c b d e = pairs_take c b d e
body_takes Shutdown c b d e = pairs_take c b d e
body_takes Config c b d e =
    let base = bind_ok (word c) (λ base. word base.1 >>= λ overlay. Ok ((base.0, overlay.0), overlay.1)) (b, d) e in
    let overlay = bind_ok (word base.0.1) (λ overlay. Ok ((base.0.0, overlay.0), overlay.1)) (b, d) base.2 in
    let text : c.left ≡ base.0.0 ∷ overlay.0.0 ∷ overlay.0.1.left = before _ _ _ _ (word_takes c base.0.0 base.0.1 base.1) (word_takes base.0.1 overlay.0.0 overlay.0.1 overlay.1) in
    subst (λ (p : (ℕ × ℕ) × Cursor). (c.left ≡ body_words Config p.0 ++ p.1.left) × ⊤ × ⊤) (ok_is ((base.0.0, overlay.0.0), overlay.0.1) (b, d) overlay.2) (text, tt, tt)
body_takes Gpo c b d e = (word_takes c b d e, tt, tt)

body_again : (s : Section) (c : Cursor) (b : Body s) (rest : List ℕ) → c.left ≡ body_words s b ++ rest → IsBody s b → HasSome s b → Again (body s c) b rest
unfolding body
body_again Masters c b rest text together some = masters_again c b rest text together some
body_again Slaves c b rest text together some = counted_again slave slave_words Any (Differ (λ s. s.node)) slave_reader c b rest text (λ k v within. tt) together
body_again Prealloc c b rest text together some = counted_again group group_words HasOwnNodes AnyTwo group_reader c b rest text together (λ i j v below within. tt)
body_again Power c b rest text together some = pairs_again c b rest text together
body_again Reset c b rest text together some = pairs_again c b rest text together
body_again Shutdown c b rest text together some = pairs_again c b rest text together
body_again Config c b rest text together some =
    let base = word_again c b.0 _ text in
    let overlay = word_again base.after b.1 rest base.left in
    record { after = overlay.after; is = rw (base.is, overlay.is) refl; left = overlay.left }
body_again Gpo c b rest text together some = word_again c b rest text

-- ---- a section with its identifier

pub body_in : (s : Section) (o : Object) (c : Cursor) → section_body s o c ≡ (body s c >>= λ b. Ok (with_body s b.0 o, b.1))
unfolding section_body
body_in Masters o c = refl
body_in s o c = refl

-- p is o with one more section
pub record IsNext (o : Object) (c : Cursor) (p : Object) (d : Cursor) : Type 0 where
  pub name : Section
  pub inside : Body name
  pub may : MayFollow o.order name
  pub words : c.left ≡ identifier name ∷ body_words name inside ++ d.left
  pub is : p ≡ with_section name inside o
  pub together : IsBody name inside
  pub some : HasSome name inside

pub section_takes : (o : Object) (c : Cursor) (p : Object) (d : Cursor) → section o c ≡ Ok (p, d) → IsNext o c p d
unfolding section section_body
section_takes o c p d e =
    let n = bind_ok (section_name o.order c) (λ s. section_body s.0 o s.1 >>= λ r. Ok (record r.0 { order = r.0.order ++ s.0 ∷ [] }, r.1)) (p, d) e in
    let s = n.0.0 in
    let r = bind_ok (section_body s o n.0.1) (λ r. Ok (record r.0 { order = r.0.order ++ s ∷ [] }, r.1)) (p, d) n.2 in
    let b = bind_ok (body s n.0.1) (λ b. Ok (with_body s b.0 o, b.1)) r.0 (sym (body_in s o n.0.1) ∙ r.1) in
    let name = name_takes o.order c s n.0.1 n.1 in
    let inside = body_takes s n.0.1 b.0.0 b.0.1 b.1 in
    let first : (with_section s b.0.0 o, b.0.1) ≡ (p, d) =
    ap (λ (q : Object × Cursor). (record q.0 { order = q.0.order ++ s ∷ [] }, q.1)) (ok_is (with_body s b.0.0 o, b.0.1) r.0 b.2) ∙ ok_is _ (p, d) r.2 in
    subst (λ (q : Object × Cursor). IsNext o c q.0 q.1) first
    (record { name = s; inside = b.0.0; may = name.1; words = name.0 ∙ ap (λ (l : List ℕ). identifier s ∷ l) inside.0; is = refl; together = inside.1; some = inside.2 })

pub section_again : (s : Section) (b : Body s) (o : Object) (c : Cursor) (rest : List ℕ) → MayFollow o.order s → c.left ≡ identifier s ∷ body_words s b ++ rest → IsBody s b → HasSome s b → Again (section o c) (with_section s b o) rest
unfolding section section_body
section_again s b o c rest may text together some =
    let name = name_again o.order c s (body_words s b ++ rest) text may in
    let inside = body_again s name.after b rest name.left together some in
    record { after = inside.after; is = rw (name.is, body_in s o name.after, inside.is) refl; left = inside.left }
