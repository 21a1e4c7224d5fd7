-- The header lines of more than 16 extra words.
use Rattle.std.proofs.Common.{◌≡◌, ℕ, suc, ◌-◌, ◌/◌, ◌<◌, List, ◌∷◌, ◌++◌, length, take, drop, length-drop, refl, ap, sym, ◌∙◌, append_assoc, arith}
use Rattle.pm_objtext.specs.declared.item.Item.TheVariants.{Header}
use Rattle.pm_objtext.specs.Printing.{ended_line, lines_text, header_items}

-- the first line has 16 of them, and the next ones are those of the words that are left
pub header_items_more : (extra left : List ℕ) → 16 < length extra → left ≡ drop 16 extra → header_items extra ≡ Header (record { items = take 16 extra }) ∷ header_items left
header_items_more extra left long is =
    let count : (length extra - 1) / 16 ≡ suc ((length left - 1) / 16) = omega (arith, ap length is, length-drop 16 extra) in
    rw (count, is) refl

-- a line is put, and the others are left
pub header_step : (text before more : List ℕ) (extra left : List ℕ) → 16 < length extra → left ≡ drop 16 extra → more ≡ before ++ ended_line (Header (record { items = take 16 extra })) → before ++ lines_text (header_items extra) ≡ text → more ++ lines_text (header_items left) ≡ text
header_step text before more extra left long is put so_far =
    rw (put, append_assoc) (ap (λ items. before ++ lines_text items) (sym (header_items_more extra left long is)) ∙ so_far)
