-- What is told, one change after another, and master by master.
use Rattle.std.proofs.Common.{◌≡◌, ℕ, ◌+◌, ◌<◌, List, [], ◌∷◌, ◌++◌, length, drop, get_or, slice_get, map, Some, refl, sym, ◌∙◌, ap}
use Rattle.std.specs.Prelude.{flat_map}
use Rattle.std.proofs.lemmas.List.{drop_more}
use Rattle.pm_base.proofs.ListLemmas.{drop_found}
use Rattle.pm_object.specs.declared.object.MasterRec.{MasterRec}
use Rattle.pm_values.specs.declared.turns.Turns.{Turns}
use Rattle.pm_state.specs.State.{State, TalkHalf}
use Rattle.pm_state.specs.Talk.{Talk, apply_talk, talked, talks}
use Rattle.pm_tell.specs.Opening.{forget_at, forgets_from}

pub talks_append : (first later : List Talk) (half : TalkHalf) → talks (first ++ later) half ≡ talks later (talks first half)
talks_append [] later half = refl
talks_append (change ∷ first) later half = talks_append first later (apply_talk change half)

pub talked_append : (first later : List Talk) (book : State) → talked (first ++ later) book ≡ talked later (talked first book)
talked_append first later book =
    ap (λ (talk : TalkHalf). record book { now = record book.now { talk = talk } }) (talks_append first later book.now.talk)

-- the changes for one element more, and those that are left
pub each_step : {X : Type 0} (change : X → List Talk) (xs : List X) (i : ℕ) (x : X) (book next : State) → slice_get xs i ≡ Some x → next ≡ talked (change x) book
    → talked (flat_map change (drop (i + 1) xs)) next ≡ talked (flat_map change (drop i xs)) book
each_step change xs i x book next at is =
    ap (talked (flat_map change (drop (i + 1) xs))) is
    ∙ (sym (talked_append (change x) (flat_map change (drop (i + 1) xs)) book)
    ∙ ap (λ left. talked (flat_map change left) book) (sym (drop_found xs i x at)))

-- one master forgets, and those that are left
pub forget_step : (turns : ℕ → Turns) (book next : State) (m : ℕ) (d : MasterRec) (masters : List MasterRec) → next ≡ talked (forget_at (turns m) m) book → m < length masters
    → talked (forgets_from turns (m + 1) (drop (m + 1) masters)) next ≡ talked (forgets_from turns m (drop m masters)) book
forget_step turns book next m d masters is within =
    let rest : List MasterRec = drop (m + 1) masters in
    let left : drop m masters ≡ get_or masters m d ∷ rest = drop_more masters m d within in
    ap (talked (forgets_from turns (m + 1) rest)) is
    ∙ (sym (talked_append (forget_at (turns m) m) (forgets_from turns (m + 1) rest) book)
    ∙ ap (λ xs. talked (forgets_from turns m xs) book) (sym left))

pub map_append : {X Y : Type 0} (f : X → Y) (xs ys : List X) → map f (xs ++ ys) ≡ map f xs ++ map f ys
map_append f [] ys = refl
map_append f (x ∷ xs) ys = ap (λ zs. f x ∷ zs) (map_append f xs ys)

-- to make something of each part, or of all parts together
pub map_flat : {X Y Z : Type 0} (f : Y → Z) (parts : X → List Y) (xs : List X) → map f (flat_map parts xs) ≡ flat_map (λ x. map f (parts x)) xs
map_flat f parts [] = refl
map_flat f parts (x ∷ xs) =
    map_append f (parts x) (flat_map parts xs) ∙ ap (λ zs. map f (parts x) ++ zs) (map_flat f parts xs)

-- changes after changes
pub then_told : (first later : List Talk) (book mid new : State) → mid ≡ talked first book → new ≡ talked later mid → new ≡ talked (first ++ later) book
then_told first later book mid new mid_is new_is =
    new_is ∙ (ap (talked later) mid_is ∙ sym (talked_append first later book))

-- six lists of changes, one after another
pub opens : (r f a l e : List Talk) (book b0 b1 b2 b3 b4 : State) → b0 ≡ talked r book → b1 ≡ talked f b0 → b2 ≡ talked a b1 → b3 ≡ talked l b2 → b4 ≡ talked e b3
    → b4 ≡ talked (r ++ (f ++ (a ++ (l ++ e)))) book
opens r f a l e book b0 b1 b2 b3 b4 is0 is1 is2 is3 is4 =
    then_told r (f ++ (a ++ (l ++ e))) book b0 b4 is0
    (then_told f (a ++ (l ++ e)) b0 b1 b4 is1 (then_told a (l ++ e) b1 b2 b4 is2 (then_told l e b2 b3 b4 is3 is4)))
