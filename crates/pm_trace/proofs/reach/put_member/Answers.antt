use Rattle.pm_trace.proofs.ReachLemmas.{member_written}
use Rattle.pm_trace.proofs.reach.put_member.Goals as goal

pub returns : goal.returns
returns c =
    member_written c.args.member.now c.kind_word.result c.why_word.result c.as_slice.result.now _ _ _ _ _ _ c.put.result c.kind_word.ensures
    c.why_word.ensures c.as_slice.ensures c.in_ok-put_word.ensures c.in_ok-put_spaced.ensures c.in_ok-put_spaced-2.ensures
    c.in_ok-put_path.ensures c.put.ensures
