use Rattle.pm_laws.proofs.FollowLaw.{book_mode_alike, follow_alike, follow_rests, stage_agrees}
use Rattle.pm_laws.proofs.laws.rows_follow_alike.Goals as goal

pub returns : goal.returns
returns c = record { mode = book_mode_alike c.laws_below.ensures; follow = follow_alike c.laws_below.ensures; rest = follow_rests; stage = stage_agrees c.laws_below.ensures }
