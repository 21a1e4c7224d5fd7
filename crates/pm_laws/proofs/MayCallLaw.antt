-- Two books that agree both hear a master beyond, or neither does; and if one is beyond, both or neither are halted.
use Rattle.std.proofs.Common.{◌≡◌, ℕ, not, ◌&&◌, ◌∙◌, ap}
use Rattle.pm_laws.proofs.Common.{BelowLaws, Border, Fixed, IsBeyond, Now, Same, is_awake, may_call, mode_of_master}
use Rattle.pm_laws.proofs.CallsAlike.{book_of}
use Rattle.pm_laws.proofs.FollowLaw.{mode_alike}

pub heard_same : BelowLaws → (fixed : Fixed) (border : Border) (m : ℕ) (a b : Now) → IsBeyond border m → Same fixed border a b → may_call m (book_of fixed a) ≡ may_call m (book_of fixed b)
heard_same laws fixed border m a b beyond same =
    ap (λ halted. not halted && is_awake (mode_of_master fixed a.core m)) (same.halted (same.some m beyond))
    ∙ ap (λ mode. not b.core.halted && is_awake mode) (mode_alike laws fixed border m a b beyond same)
