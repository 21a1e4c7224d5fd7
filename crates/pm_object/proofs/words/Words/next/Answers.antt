use Rattle.std.proofs.Common.{refl}
use Rattle.pm_object.proofs.Bytes.{words_short, words_next}
use Rattle.pm_object.proofs.words.Words.next.Goals as goal

pub returns-then-self-lt4 : goal.returns-then-self-lt4
returns-then-self-lt4 c = rw (c.fault.ensures, ← c.self.view_is, words_short c.self.inside.bytes.now c.if-self-lt4.true) refl

pub returns : goal.returns
returns c = rw (← c.self.view_is, words_next c.self.inside.bytes.now c.split_at.result.0.now c.split_at.result.1.now c.if-self-lt4.false c.split_at.ensures.front c.split_at.ensures.back, c.read_u32.ensures) refl
