use Rattle.std.proofs.Common.{◌≡◌, ℕ, zero, suc, ◌+◌, ◌-◌, ◌≤◌, List, [], ◌∷◌, ◌++◌, length, take, drop, sym, refl, ◌∙◌, ap, arith}
use Rattle.std.specs.List.{copy_within}
use Rattle.std.proofs.Math.Seq.{take-add}
use Rattle.std.proofs.lemmas.List.{length-drop}
use Rattle.std.proofs.lemmas.List.Edits.{take-paste}
use Rattle.pm_reader.proofs.window.Window.fill.Goals as goal

moved : (buf : List ℕ) (start end : ℕ) → start ≤ end → end ≤ length buf
    → take (end - start) (copy_within buf start end 0) ≡ take (end - start) (drop start buf)
moved buf start end order within =
    let size : length (drop start buf) ≡ length buf - start = length-drop start buf in
    let same : 0 + (end - start) ≡ end - start = omega arith in
    ap (λ n. take n (copy_within buf start end 0)) (sym same) ∙ take-paste buf 0 (drop start buf) (end - start) (omega arith) (omega arith)

taken_len : (n : ℕ) (xs : List ℕ) → n ≤ length xs → length (take n xs) ≡ n
taken_len zero xs within = refl
taken_len (suc n) [] within = absurd (omega arith)
taken_len (suc n) (x ∷ xs) within = ap suc (taken_len n xs (omega arith))

put_behind : (now read : List ℕ) (held count : ℕ) → take held read ≡ now
    → take (held + count - 0) (drop 0 read) ≡ now ++ take count (drop held read)
put_behind now read held count front =
    let same : held + count - 0 ≡ held + count = omega arith in
    ap (λ n. take n read) same ∙ (take-add held count read ∙ ap (λ xs. xs ++ take count (drop held read)) front)

pub returns-clause-read : goal.returns-clause-read
returns-clause-read g c =
    let size : length c.self.inside.buf ≡ 4096 = omega (arith, c.self.told) in
    let front : take (c.self.inside.end - c.self.inside.start) c.read_between.new.buf ≡ c.args.self.now =
    c.in_ok-count.ensures.before
    ∙ (ap (take (c.self.inside.end - c.self.inside.start)) c.copy_within.ensures.after
    ∙ (moved c.self.inside.buf c.self.inside.start c.self.inside.end c.self.invariant.order (omega (arith, c.self.invariant.size, size)) ∙ c.self.view_is))
    in
    let whole : length c.read_between.new.buf ≡ 4096 = omega (arith, size, c.read_between.auto.buf, c.copy_within.auto.self, c.copy_within.ensures.len) in
    let rest : length (drop c.self.inside.start c.self.inside.buf) ≡ length c.self.inside.buf - c.self.inside.start = length-drop c.self.inside.start c.self.inside.buf in
    let held : length c.args.self.now ≡ c.self.inside.end - c.self.inside.start =
    ap (λ (xs : List ℕ). length xs) (sym c.self.view_is)
    ∙ taken_len (c.self.inside.end - c.self.inside.start) (drop c.self.inside.start c.self.inside.buf) (omega (arith, rest, size, c.self.invariant.order, c.self.invariant.size))
    in
    record {
      got = take c.in_ok-count.count (drop (c.self.inside.end - c.self.inside.start) c.read_between.new.buf);
      bytes = put_behind c.args.self.now c.read_between.new.buf (c.self.inside.end - c.self.inside.start) c.in_ok-count.count front;
      size = taken_len c.in_ok-count.count (drop (c.self.inside.end - c.self.inside.start) c.read_between.new.buf)
          (let left = length-drop (c.self.inside.end - c.self.inside.start) c.read_between.new.buf in
          omega (arith, left, whole, c.in_ok-count.ensures.bound, c.min.ensures, c.self.invariant.order, c.self.invariant.size));
      few = omega (arith, c.in_ok-count.ensures.bound, c.min.ensures);
      took = c.in_ok-count.ensures.taken;
      logged = c.in_ok-count.ensures.logged;
      end = λ seen some. c.in_ok-count.ensures.end seen (omega (arith, some, c.min.ensures, c.requires, held));
    }
