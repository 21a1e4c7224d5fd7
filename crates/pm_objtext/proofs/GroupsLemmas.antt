-- The last of some groups.
use Rattle.std.proofs.Common.{◌≡◌, suc, ◌-◌, ◌<◌, List, [], ◌∷◌, ◌++◌, length, get_or, refl, ap, sym, ◌∙◌, arith}
use Rattle.pm_object.specs.declared.object.PreRec.{PreRec}
use Rattle.pm_object.specs.declared.object.PreGroup.{PreGroup}
use Rattle.pm_objtext.specs.Groups.{last_recs, with_preset}

pub last_recs-push : (groups : List PreGroup) (group : PreGroup) → last_recs (groups ++ group ∷ []) ≡ group.recs
last_recs-push [] group = refl
last_recs-push (first ∷ []) group = refl
last_recs-push (first ∷ next ∷ groups) group = last_recs-push (next ∷ groups) group

pub with_preset-push : (rec : PreRec) (groups : List PreGroup) (group : PreGroup) → with_preset rec (groups ++ group ∷ []) ≡ groups ++ record group { recs = group.recs ++ rec ∷ [] } ∷ []
with_preset-push rec [] group = refl
with_preset-push rec (first ∷ []) group = refl
with_preset-push rec (first ∷ next ∷ groups) group = ap (λ (more : List PreGroup). first ∷ more) (with_preset-push rec (next ∷ groups) group)

-- the last one by its place
pub last_recs_at : (groups : List PreGroup) (group : PreGroup) → 0 < length groups → group ≡ get_or groups (length groups - 1) group → last_recs groups ≡ group.recs
last_recs_at [] group some is = absurd (omega arith)
last_recs_at (first ∷ []) group some is = ap (λ (g : PreGroup). g.recs) (sym is)
last_recs_at (first ∷ next ∷ groups) group some is =
    let place : suc (suc (length groups)) - 1 ≡ suc (suc (length groups) - 1) = omega arith in
    last_recs_at (next ∷ groups) group (omega arith) (rw place at is)

-- a record is put at the end of the last group
pub preset_added : (rec : PreRec) (old front new : List PreGroup) (group after : PreGroup) → old ≡ front ++ group ∷ [] → after.mask ≡ group.mask → after.recs ≡ group.recs ++ rec ∷ [] → new ≡ front ++ after ∷ [] → new ≡ with_preset rec old
preset_added rec old front new group after was mask recs now =
    let is : after ≡ record group { recs = group.recs ++ rec ∷ [] } = λ i. record { mask = mask i; recs = recs i } in
    now ∙ ap (λ (g : PreGroup). front ++ g ∷ []) is ∙ sym (with_preset-push rec front group) ∙ ap (with_preset rec) (sym was)
