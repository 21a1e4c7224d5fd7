-- A step that doesn't fail takes its words from the front, and takes them again.
use Rattle.std.proofs.Common.{◌≡◌, ◌≢◌, ℕ, ◌+◌, Bool, true, false, cond, eqb, List, [], ◌∷◌, Result, Ok, Err, refl, ap, subst, ◌∙◌}
use Rattle.std.specs.List.{All, list_any}
use Rattle.std.proofs.lemmas.Bool.{eqb-false, ne_eqb}
use Rattle.std.proofs.lemmas.List.Elements.{All-weaker}
use Rattle.std.proofs.lemmas.List.Folds.{list_any_none}
use Rattle.pm_base.proofs.Elements.{each_fails}
use Rattle.pm_object.specs.declared.object.ObjectCause.{ObjectCause}
use Rattle.pm_object.specs.declared.object.ObjectCause.TheVariants.{RepeatedNode}
use Rattle.pm_object.specs.declared.object.ObjectFault.{ObjectFault}
use Rattle.pm_object.specs.Reading.{Cursor, Step, ◌>>=◌, fault, word_from, word, own_key}

-- ---- steps that don't fail

-- the value of a step that did not fail
pub bind_ok : {A B : Type 0} (r : Result A ObjectFault) (f : A → Result B ObjectFault) (y : B) → (r >>= f) ≡ Ok y → (x : A) × (r ≡ Ok x) × (f x ≡ Ok y)
bind_ok (Ok x) f y e = (x, refl, e)
bind_ok (Err d) f y e = absurd cc

-- a test that did not refuse
pub passed : {A : Type 0} (b : Bool) (cause : ObjectCause) (offset : ℕ) (r : Result A ObjectFault) (y : A) → cond b (fault cause offset) r ≡ Ok y → (b ≡ false) × (r ≡ Ok y)
passed true cause offset r y e = absurd cc
passed false cause offset r y e = (refl, e)

abbrev done : {A : Type 0} → A → Result A ObjectFault
done x = Ok x

pub ok_is : {A : Type 0} (x y : A) → done x ≡ done y → x ≡ y
ok_is x y e = cc

-- a step that reads x, and leaves these words
pub record Again {A : Type 0} (r : Step A) (x : A) (rest : List ℕ) : Type 0 where
  pub after : Cursor
  pub is : r ≡ Ok (x, after)
  pub left : after.left ≡ rest

-- ---- a word

word_from_takes : (place : ℕ) (left : List ℕ) (w : ℕ) (d : Cursor) → word_from place left ≡ Ok (w, d) → left ≡ w ∷ d.left
word_from_takes place [] w d e = absurd cc
word_from_takes place (v ∷ left) w d e =
    let next : Cursor = record { place = place + 1; left = left } in
    ap (λ (p : ℕ × Cursor). p.0 ∷ p.1.left) (ok_is (v, next) (w, d) e)

pub word_takes : (c : Cursor) (w : ℕ) (d : Cursor) → word c ≡ Ok (w, d) → c.left ≡ w ∷ d.left
word_takes c w d e = word_from_takes c.place c.left w d e

pub word_again : (c : Cursor) (w : ℕ) (rest : List ℕ) → c.left ≡ w ∷ rest → Again (word c) w rest
word_again c w rest h = record { after = record { place = c.place + 1; left = rest }; is = rw h refl; left = refl }

-- a word, and what follows it
pub before : (text : List ℕ) (w : ℕ) (rest more : List ℕ) → text ≡ w ∷ rest → rest ≡ more → text ≡ w ∷ more
before text w rest more first then = first ∙ ap (λ (l : List ℕ). w ∷ l) then

-- ---- a word that is tested

pub tested_takes : (bad : ℕ → Bool) (cause : ObjectCause) (c : Cursor) (w : ℕ) (d : Cursor) → (word c >>= λ v. cond (bad v.0) (fault cause c.place) (Ok v)) ≡ Ok (w, d) → (c.left ≡ w ∷ d.left) × (bad w ≡ false)
tested_takes bad cause c w d e =
    let a = bind_ok (word c) (λ v. cond (bad v.0) (fault cause c.place) (Ok v)) (w, d) e in
    let g = passed (bad a.0.0) cause c.place (Ok a.0) (w, d) a.2 in
    (word_takes c w d (a.1 ∙ g.1), subst (λ (p : ℕ × Cursor). bad p.0 ≡ false) (ok_is a.0 (w, d) g.1) g.0)

pub tested_again : (bad : ℕ → Bool) (cause : ObjectCause) (c : Cursor) (w : ℕ) (rest : List ℕ) → c.left ≡ w ∷ rest → bad w ≡ false → Again (word c >>= λ v. cond (bad v.0) (fault cause c.place) (Ok v)) w rest
tested_again bad cause c w rest h passes = record { after = record { place = c.place + 1; left = rest }; is = rw (h, passes) refl; left = refl }

-- ---- the key of a record

pub own_key_takes : {A : Type 0} (key : A → ℕ) (earlier : List A) (c : Cursor) (w : ℕ) (d : Cursor) → own_key key earlier c ≡ Ok (w, d) → (c.left ≡ w ∷ d.left) × All (λ r. key r ≢ w) earlier
unfolding own_key
own_key_takes key earlier c w d e =
    let t = tested_takes (λ v. list_any (λ r. eqb (key r) v) earlier) RepeatedNode c w d e in
    (t.0, All-weaker (λ r. eqb (key r) w ≡ false) (λ r. key r ≢ w) (λ r differs. eqb-false (key r) w differs) earlier (each_fails (λ r. eqb (key r) w) earlier t.1))

pub own_key_again : {A : Type 0} (key : A → ℕ) (earlier : List A) (c : Cursor) (w : ℕ) (rest : List ℕ) → c.left ≡ w ∷ rest → All (λ r. key r ≢ w) earlier → Again (own_key key earlier c) w rest
unfolding own_key
own_key_again key earlier c w rest h own =
    tested_again (λ v. list_any (λ r. eqb (key r) v) earlier) RepeatedNode c w rest h
    (list_any_none (λ r. eqb (key r) w) earlier (All-weaker (λ r. key r ≢ w) (λ r. eqb (key r) w ≡ false) (λ r differs. ne_eqb (key r) w differs) earlier own))
