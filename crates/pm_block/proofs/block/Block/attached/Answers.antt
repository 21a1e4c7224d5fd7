-- What is kept of the words spells the same objects as all words.
use Rattle.std.proofs.Common.{◌≡◌, ◌∙◌, List, map}
use Rattle.std.proofs.lemmas.Result.{IfOk-weaker}
use Rattle.pm_object.specs.declared.attached.Attached.{Attached}
use Rattle.pm_block.specs.declared.block.Piece.{Piece}
use Rattle.pm_block.specs.Pieces.{attached_in, kept}
use Rattle.pm_block.proofs.BlockLemmas.{attached_by_kept}
use Rattle.pm_block.proofs.block.Block.attached.Goals as goal

pub returns : goal.returns
returns c =
    let held : c.deref.result.now ≡ c.args.self.now = cc in
    IfOk-weaker c.list_attached.result (λ (attached : List Attached). attached ≡ map attached_in c.deref.result.now)
    (λ (attached : List Attached). (pieces : List Piece) → c.args.self.now ≡ map kept pieces → attached ≡ map attached_in pieces)
    (λ attached is pieces kept_is. is ∙ attached_by_kept pieces c.deref.result.now (held ∙ kept_is))
    c.list_attached.ensures
