-- What a call of two stages writes down.
use Rattle.std.proofs.Common.{◌≡◌, List, [], ◌∷◌, ◌∙◌, ap}
use Rattle.pm_state.specs.Changes.{Written, written_along, written_by, written_stage}
use Rattle.pm_state.specs.Prims.{Prim, changed}
use Rattle.pm_state.specs.Stages.{after_stage, follow, followed}
use Rattle.pm_state.specs.State.{Fixed, State}

-- a stage writes down what its changes do, and then what the shifts that follow do
pub stage_writes : (stage : List Prim) (book between : State) (w one new : Written) → between ≡ changed stage book → one ≡ written_by stage book w
    → new ≡ written_by (follow between) between one → new ≡ written_stage stage book w
stage_writes stage book between w one new is wrote follows =
    follows
    ∙ (ap (λ (b : State). written_by (follow b) b one) is
    ∙ ap (written_by (follow (changed stage book)) (changed stage book)) wrote)

-- a first stage, and a later one by what is fixed
pub twice_written : (first : List Prim) (later : Fixed → List Prim) (book off mid last : State) (w one two three new : Written)
    → off ≡ changed first book → one ≡ written_by first book w → mid ≡ followed off → two ≡ written_by (follow off) off one
    → last ≡ changed (later mid.fixed) mid → three ≡ written_by (later mid.fixed) mid two → new ≡ written_by (follow last) last three
    → new ≡ written_along (first ∷ later book.fixed ∷ []) book w
twice_written first later book off mid last w one two three new off_is one_is mid_is two_is last_is three_is new_is =
    let begun : two ≡ written_stage first book w = stage_writes first book off w one two off_is one_is two_is in
    let ended : new ≡ written_stage (later mid.fixed) mid two = stage_writes (later mid.fixed) mid last two three new last_is three_is new_is in
    ended
    ∙ (ap (λ (b : State). written_stage (later b.fixed) b two) (mid_is ∙ ap followed off_is)
    ∙ ap (written_stage (later book.fixed) (after_stage first book)) begun)

-- one stage alone
pub once_written : (stage : List Prim) (book off : State) (w one new : Written) → off ≡ changed stage book → one ≡ written_by stage book w
    → new ≡ written_by (follow off) off one → new ≡ written_along (stage ∷ []) book w
once_written = stage_writes
