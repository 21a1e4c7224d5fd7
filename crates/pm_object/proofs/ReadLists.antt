-- Records that are read one by one in view of the earlier ones, against the rules that hold of each and of each two.
use Rattle.std.proofs.Common.{◌≡◌, ℕ, zero, suc, List, [], ◌∷◌, ◌++◌, length, Ok, refl, sym, ap, subst, ◌∙◌, append_assoc}
use Rattle.std.specs.List.{All, AllPairs, flat_map}
use Rattle.std.proofs.lemmas.List.{append-nil}
use Rattle.std.proofs.lemmas.List.Concat.{flat_map-cons}
use Rattle.std.proofs.lemmas.List.Elements.{All-nil, All-push}
use Rattle.std.proofs.lemmas.List.Quantifiers.{all_pairs_push}
use Rattle.pm_base.proofs.Elements.{earlier_ones, next_one, no_pairs}
use Rattle.pm_object.specs.Grammar.{counted}
use Rattle.pm_object.specs.Reading.{Cursor, Step, word, records, counted_records}
use Rattle.pm_object.proofs.Steps.{bind_ok, ok_is, Again, word_takes, word_again}

-- what one step reads of a record after the earlier ones, and what it can read again
pub record IsReader {A : Type 0} (one : List A → Cursor → Step A) (spell : A → List ℕ) (Own : A → Type 0) (Apart : A → A → Type 0) : Type 0 where
  pub takes : (earlier : List A) (c : Cursor) (x : A) (d : Cursor) → one earlier c ≡ Ok (x, d) → (c.left ≡ spell x ++ d.left) × Own x × All (λ e. Apart e x) earlier
  pub again : (earlier : List A) (c : Cursor) (x : A) (rest : List ℕ) → c.left ≡ spell x ++ rest → Own x → All (λ e. Apart e x) earlier → Again (one earlier c) x rest

-- the records that were read after the earlier ones
pub record Taken {A : Type 0} (spell : A → List ℕ) (Own : A → Type 0) (Apart : A → A → Type 0) (n : ℕ) (earlier : List A) (c : Cursor) (all : List A) (d : Cursor) : Type 0 where
  pub new : List A
  pub is : all ≡ earlier ++ new
  pub count : length new ≡ n
  pub words : c.left ≡ flat_map spell new ++ d.left
  pub own : All Own all
  pub apart : AllPairs Apart all

module _ {A : Type 0} (one : List A → Cursor → Step A) (spell : A → List ℕ) (Own : A → Type 0) (Apart : A → A → Type 0) (reader : IsReader one spell Own Apart) where
  pub records_take : (n : ℕ) (earlier : List A) (c : Cursor) (all : List A) (d : Cursor) → All Own earlier → AllPairs Apart earlier → records one n earlier c ≡ Ok (all, d) → Taken spell Own Apart n earlier c all d
  unfolding records
  records_take zero earlier c all d own apart e =
      let is = ok_is (earlier, c) (all, d) e in
      subst (λ (p : List A × Cursor). Taken spell Own Apart 0 earlier c p.0 p.1) is
      (record { new = []; is = sym (append-nil earlier); count = refl; words = refl; own = own; apart = apart })
  records_take (suc n) earlier c all d own apart e =
      let a = bind_ok (one earlier c) (λ r. records one n (earlier ++ r.0 ∷ []) r.1) (all, d) e in
      let x = a.0.0 in
      let first = reader.takes earlier c x a.0.1 a.1 in
      let after = records_take n (earlier ++ x ∷ []) a.0.1 all d (All-push Own earlier x own first.1) (all_pairs_push Apart earlier x apart first.2) a.2 in
      let text : c.left ≡ flat_map spell (x ∷ after.new) ++ d.left =
      first.0 ∙ ap (λ (t : List ℕ). spell x ++ t) after.words ∙ sym (append_assoc (spell x) (flat_map spell after.new) d.left)
      ∙ ap (λ (t : List ℕ). t ++ d.left) (sym (flat_map-cons spell x after.new)) in
      record {
        new = x ∷ after.new;
        is = after.is ∙ append_assoc earlier (x ∷ []) after.new;
        count = ap suc after.count;
        words = text;
        own = after.own;
        apart = after.apart;
      }

  pub records_again : (xs earlier : List A) (c : Cursor) (rest : List ℕ) → All Own (earlier ++ xs) → AllPairs Apart (earlier ++ xs) → c.left ≡ flat_map spell xs ++ rest → Again (records one (length xs) earlier c) (earlier ++ xs) rest
  unfolding records
  records_again [] earlier c rest own apart text =
      record { after = c; is = ap (λ (all : List A). Ok (all, c)) (sym (append-nil earlier)); left = text }
  records_again (x ∷ xs) earlier c rest own apart text =
      let split : c.left ≡ spell x ++ (flat_map spell xs ++ rest) = text ∙ ap (λ (t : List ℕ). t ++ rest) (flat_map-cons spell x xs) ∙ append_assoc (spell x) (flat_map spell xs) rest in
      let first = reader.again earlier c x (flat_map spell xs ++ rest) split (next_one Own earlier x xs own) (earlier_ones Apart earlier x xs apart) in
      let whole : (earlier ++ x ∷ []) ++ xs ≡ earlier ++ x ∷ xs = append_assoc earlier (x ∷ []) xs in
      let after = records_again xs (earlier ++ x ∷ []) first.after rest (subst (λ (l : List A). All Own l) (sym whole) own) (subst (λ (l : List A). AllPairs Apart l) (sym whole) apart) first.left in
      let read : records one (length (x ∷ xs)) earlier c ≡ Ok ((earlier ++ x ∷ []) ++ xs, after.after) = rw first.is after.is in
      record { after = after.after; is = subst (λ (l : List A). records one (length (x ∷ xs)) earlier c ≡ Ok (l, after.after)) whole read; left = after.left }

  pub counted_take : (c : Cursor) (xs : List A) (d : Cursor) → counted_records one c ≡ Ok (xs, d) → (c.left ≡ counted spell xs ++ d.left) × All Own xs × AllPairs Apart xs
  unfolding counted_records
  counted_take c xs d e =
      let n = bind_ok (word c) (λ n. records one n.0 [] n.1) (xs, d) e in
      let count = word_takes c n.0.0 n.0.1 n.1 in
      let taken = records_take n.0.0 [] n.0.1 xs d (All-nil Own) (no_pairs Apart) n.2 in
      let long : length xs ≡ n.0.0 = ap length taken.is ∙ taken.count in
      let body : n.0.1.left ≡ flat_map spell xs ++ d.left = taken.words ∙ ap (λ (l : List A). flat_map spell l ++ d.left) (sym taken.is) in
      (count ∙ ap (λ (l : List ℕ). n.0.0 ∷ l) body ∙ ap (λ (k : ℕ). k ∷ flat_map spell xs ++ d.left) (sym long), taken.own, taken.apart)

  pub counted_again : (c : Cursor) (xs : List A) (rest : List ℕ) → c.left ≡ counted spell xs ++ rest → All Own xs → AllPairs Apart xs → Again (counted_records one c) xs rest
  unfolding counted_records
  counted_again c xs rest text own apart =
      let count = word_again c (length xs) (flat_map spell xs ++ rest) text in
      let body = records_again xs [] count.after rest own apart count.left in
      record { after = body.after; is = rw count.is body.is; left = body.left }

-- ---- words on their own

pub flat_map_words : (ws : List ℕ) → flat_map (λ w. w ∷ []) ws ≡ ws
flat_map_words [] = refl
flat_map_words (w ∷ ws) = flat_map-cons (λ w. w ∷ []) w ws ∙ ap (λ (t : List ℕ). w ∷ t) (flat_map_words ws)
