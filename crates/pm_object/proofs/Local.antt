-- A reader that goes word by word: on words that agree up to a place it does the same, until it is past that place.
use Rattle.std.proofs.Common.{◌≡◌, ℕ, zero, suc, ◌+◌, ◌<◌, ◌≤◌, Bool, true, false, cond, List, [], ◌∷◌, ◌++◌, length, Ok, Err, ◌⊎◌, inl, inr, refl, subst, arith}
use Rattle.std.specs.Prelude.{⊤}
use Rattle.pm_object.specs.declared.object.ObjectCause.{ObjectCause}
use Rattle.pm_object.specs.declared.object.ObjectFault.{ObjectFault}
use Rattle.pm_object.specs.Reading.{Cursor, Step, ◌>>=◌, fault, word_from, word, records, counted_records}

-- two cursors at one place, whose words agree up to place n
pub record Agree (n : ℕ) (c d : Cursor) : Type 0 where
  pub front : List ℕ
  pub rest : List ℕ
  pub other : List ℕ
  pub left : c.left ≡ front ++ rest
  pub others : d.left ≡ front ++ other
  pub place : c.place ≡ d.place
  pub ends : c.place + length front ≡ n

-- a step that ends or fails past place n
abbrev pub Past : {A : Type 0} → ℕ → Step A → Type 0
Past n (Ok p) = n < p.1.place
Past n (Err f) = n ≤ f.offset

-- where the second step doesn't fail, the first one does the same, or is past place n
abbrev pub Follows : {A : Type 0} → ℕ → Step A → Step A → Type 0
Follows n a (Err g) = ⊤
Follows n (Err f) (Ok q) = n ≤ f.offset
Follows n (Ok p) (Ok q) = ((p.0 ≡ q.0) × Agree n p.1 q.1) ⊎ (n < p.1.place)

pub record IsLocal {A : Type 0} (read : Cursor → Step A) : Type 0 where
  pub past : (n : ℕ) (c : Cursor) → n < c.place → Past n (read c)
  pub follows : (n : ℕ) (c d : Cursor) → Agree n c d → Follows n (read c) (read d)

pub Follows-past : {A : Type 0} (n : ℕ) (a b : Step A) → Past n a → Follows n a b
Follows-past n a (Err g) past = tt
Follows-past n (Err f) (Ok q) past = past
Follows-past n (Ok p) (Ok q) past = inr past

-- ---- one step after another

pub Past-bind : {A B : Type 0} (n : ℕ) (a : Step A) (k : A × Cursor → Step B) → Past n a → ((x : A) (c : Cursor) → n < c.place → Past n (k (x, c))) → Past n (a >>= k)
Past-bind n (Ok p) k past each = each p.0 p.1 past
Past-bind n (Err f) k past each = past

pub Follows-bind : {A B : Type 0} (n : ℕ) (a b : Step A) (k : A × Cursor → Step B) → Follows n a b → ((x : A) (c : Cursor) → n < c.place → Past n (k (x, c))) → ((x : A) (c d : Cursor) → Agree n c d → Follows n (k (x, c)) (k (x, d))) → Follows n (a >>= k) (b >>= k)
Follows-bind n a (Err g) k first past each = tt
Follows-bind n (Err f) (Ok q) k first past each = Follows-past n (Err f) (k q) first
Follows-bind n (Ok p) (Ok q) k (inl same) past each = subst (λ y. Follows n (k p) (k (y, q.1))) same.0 (each p.0 p.1 q.1 same.1)
Follows-bind n (Ok p) (Ok q) k (inr later) past each = Follows-past n (k p) (k q) (past p.0 p.1 later)

pub IsLocal-bind : {A B : Type 0} (read : Cursor → Step A) (k : A × Cursor → Step B) → IsLocal read → ((x : A) → IsLocal (λ c. k (x, c))) → IsLocal (λ c. read c >>= k)
IsLocal-bind read k first each = record {
  past = λ n c later. Past-bind n (read c) k (first.past n c later) (λ x d after. (each x).past n d after);
  follows = λ n c d agree. Follows-bind n (read c) (read d) k (first.follows n c d agree) (λ x e after. (each x).past n e after) (λ x e f agrees. (each x).follows n e f agrees);
}

pub IsLocal-done : {A : Type 0} (x : A) → IsLocal (λ c. Ok (x, c))
IsLocal-done x = record { past = λ n c later. later; follows = λ n c d agree. inl (refl, agree) }

pub IsLocal-same : {A : Type 0} (read other : Cursor → Step A) → ((c : Cursor) → read c ≡ other c) → IsLocal read → IsLocal other
IsLocal-same read other same local = record {
  past = λ n c later. subst (Past n) (same c) (local.past n c later);
  follows = λ n c d agree. subst (λ b. Follows n (other c) b) (same d) (subst (λ a. Follows n a (read d)) (same c) (local.follows n c d agree));
}

-- ---- a word, and what is made of it at its place

module _ {B : Type 0} (step : ℕ → ℕ × Cursor → Step B)
    (past : (n place w : ℕ) (c : Cursor) → n ≤ place → n < c.place → Past n (step place (w, c)))
    (follows : (n place w : ℕ) (c d : Cursor) → Agree n c d → Follows n (step place (w, c)) (step place (w, d))) where
  word_past : (n place : ℕ) (left : List ℕ) → n ≤ place → Past n (word_from place left >>= λ w. step place w)
  word_past n place [] here = here
  word_past n place (w ∷ left) here = past n place w (record { place = place + 1; left = left }) here (omega arith)

  word_follows : (n place : ℕ) (left others front rest other : List ℕ) → left ≡ front ++ rest → others ≡ front ++ other → place + length front ≡ n → Follows n (word_from place left >>= λ w. step place w) (word_from place others >>= λ w. step place w)
  word_follows n place left others [] rest other is are ends = Follows-past n _ _ (word_past n place left (omega arith))
  word_follows n place left others (w ∷ front) rest other is are ends =
      rw (is, are) (follows n place w (record { place = place + 1; left = front ++ rest }) (record { place = place + 1; left = front ++ other })
      (record { front = front; rest = rest; other = other; left = refl; others = refl; place = refl; ends = omega arith }))

  pub IsLocal-placed : IsLocal (λ c. word c >>= λ w. step c.place w)
  IsLocal-placed = record {
    past = λ n c later. word_past n c.place c.left (omega arith);
    follows = λ n c d agree. rw (← agree.place) (word_follows n c.place c.left d.left agree.front agree.rest agree.other agree.left agree.others agree.ends);
  }

-- what is made of a word: a fault at its place, or a value
abbrev pub Judges : {B : Type 0} → ℕ → (Cursor → Step B) → Type 0
Judges {B} place judge = ((f : ObjectFault) × (f.offset ≡ place) × ((c : Cursor) → judge c ≡ Err f)) ⊎ ((x : B) × ((c : Cursor) → judge c ≡ Ok (x, c)))

pub IsLocal-judged : {B : Type 0} (step : ℕ → ℕ × Cursor → Step B) → ((place w : ℕ) → Judges place (λ c. step place (w, c))) → IsLocal (λ c. word c >>= λ w. step c.place w)
IsLocal-judged step judges = IsLocal-placed step
    (λ n place w c here later. elim (judges place w) [
      | inl bad ↦ rw (bad.2 c) (omega (arith, bad.1))
      | inr good ↦ rw (good.1 c) later
    ])
    (λ n place w c d agree. elim (judges place w) [
      | inl bad ↦ rw (bad.2 c, bad.2 d) tt
      | inr good ↦ rw (good.1 c, good.1 d) (inl (refl, agree))
    ])

judged_test : (b : Bool) (cause : ObjectCause) (place w : ℕ) → Judges place (λ c. cond b (fault cause place) (Ok (w, c)))
judged_test true cause place w = inl (record { cause = cause; offset = place }, refl, λ c. refl)
judged_test false cause place w = inr (w, λ c. refl)

pub IsLocal-tested : (bad : ℕ → Bool) (cause : ObjectCause) → IsLocal (λ c. word c >>= λ w. cond (bad w.0) (fault cause c.place) (Ok w))
IsLocal-tested bad cause = IsLocal-judged (λ place w. cond (bad w.0) (fault cause place) (Ok w)) (λ place w. judged_test (bad w) cause place w)

-- a test of a word, and what is read after it
tested : {B : Type 0} (b : Bool) (cause : ObjectCause) (place : ℕ) (w : ℕ × Cursor) (k : ℕ × Cursor → Step B) → (cond b (fault cause place) (Ok w) >>= k) ≡ cond b (fault cause place) (k w)
tested true cause place w k = refl
tested false cause place w k = refl

tested_word : {B : Type 0} (a : Step ℕ) (bad : ℕ → Bool) (cause : ObjectCause) (place : ℕ) (k : ℕ × Cursor → Step B) → (a >>= (λ w. cond (bad w.0) (fault cause place) (Ok w)) >>= k) ≡ (a >>= λ w. cond (bad w.0) (fault cause place) (k w))
tested_word (Ok w) bad cause place k = tested (bad w.0) cause place w k
tested_word (Err f) bad cause place k = refl

pub IsLocal-tested_then : {B : Type 0} (bad : ℕ → Bool) (cause : ObjectCause) (k : ℕ × Cursor → Step B) → ((x : ℕ) → IsLocal (λ c. k (x, c))) → IsLocal (λ c. word c >>= λ w. cond (bad w.0) (fault cause c.place) (k w))
IsLocal-tested_then bad cause k each =
    IsLocal-same _ _ (λ c. tested_word (word c) bad cause c.place k) (IsLocal-bind _ k (IsLocal-tested bad cause) each)

pub IsLocal-word : IsLocal word
IsLocal-word = IsLocal-same _ word (λ c. bind_done (word c)) (IsLocal-judged (λ place w. Ok w) (λ place w. inr (w, λ c. refl)))
  where
    bind_done : {A : Type 0} (a : Step A) → (a >>= λ p. Ok p) ≡ a
    bind_done (Ok p) = refl
    bind_done (Err f) = refl

-- ---- lists of records

module _ {A : Type 0} (one : List A → Cursor → Step A) (each : (earlier : List A) → IsLocal (one earlier)) where
  pub IsLocal-records : (count : ℕ) (earlier : List A) → IsLocal (records one count earlier)
  unfolding records
  IsLocal-records zero earlier = IsLocal-done earlier
  IsLocal-records (suc count) earlier = IsLocal-bind _ _ (each earlier) (λ x. IsLocal-records count (earlier ++ x ∷ []))

  pub IsLocal-counted : IsLocal (counted_records one)
  unfolding counted_records
  IsLocal-counted = IsLocal-bind _ _ IsLocal-word (λ count. IsLocal-records count [])
