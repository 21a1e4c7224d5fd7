-- Words are put behind those at their address, or in a place of their own.
use Rattle.std.proofs.Common.{◌≡◌, ◌∙◌, ◌++◌, ◌-◌, ◌∷◌, [], List, ap, length, map, position, sym, take, Some}
use Rattle.std.specs.Prelude.{slice_set}
use Rattle.std.proofs.lemmas.Result.{IfOk-weaker}
use Rattle.pm_block.specs.declared.block.Piece.{Piece}
use Rattle.pm_block.specs.Pieces.{is_at, kept, most_kept, with_words}
use Rattle.pm_block.proofs.BlockLemmas.{added_at, added_behind}
use Rattle.pm_block.proofs.block.Block.add.Goals as goal

pub returns-in-Some : goal.returns-in-Some
returns-in-Some c =
    let items = c.self.inside.pieces.items in
    let old = c.index_mut.result.now in
    let held : c.self.inside.pieces.items ≡ c.args.self.now = cc in
    let at : position (is_at c.args.address) c.self.inside.pieces.items ≡ Some c.in-Some.k =
    ap (λ (ps : List Piece). position (is_at c.args.address) ps) held ∙ (sym c.place.ensures ∙ c.in-Some.is)
    in
    IfOk-weaker c.extend.result
    (λ _. c.extend.new.self.words ≡ old.words ++ take (most_kept - length old.words) c.args.words.now)
    (λ _. (pieces : List Piece) → c.args.self.now ≡ map kept pieces → slice_set items c.in-Some.k c.extend.new.self ≡ map kept (with_words c.args.address c.args.words.now pieces))
    (λ _ more pieces is.
    added_at c.args.address c.args.words.now pieces items c.in-Some.k old c.extend.new.self (held ∙ is) at c.index_mut.ensures.value c.extend.ensures.address more)
    c.extend.ensures.words

pub returns-in_ok-extend-in-None : goal.returns-in_ok-extend-in-None
returns-in_ok-extend-in-None c =
    let piece = c.extend-in-None.new.self in
    IfOk-weaker c.push.result
    (λ _. c.push.new.self ≡ c.args.self.now ++ piece ∷ [])
    (λ _. (pieces : List Piece) → c.args.self.now ≡ map kept pieces → c.push.new.self ≡ map kept (with_words c.args.address c.args.words.now pieces))
    (λ _ pushed pieces is.
    pushed
    ∙ added_behind c.args.address c.args.words.now pieces c.args.self.now c.new.result piece is (sym c.place.ensures ∙ c.in-None.is) c.new.ensures
    c.extend-in-None.ensures.address c.in_ok-extend-in-None.ensures.words)
    c.push.ensures
