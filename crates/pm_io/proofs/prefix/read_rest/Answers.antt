use Rattle.std.proofs.Common.{◌≡◌, ◌≤◌, ◌<◌, ◌+◌, ◌-◌, ◌++◌, ℕ, zero, suc, List, [], ◌∷◌, false, length, take, Result, arith, refl, rules, subst, sym}
use Rattle.std.proofs.lemmas.Grind.{common_steps}
use Rattle.std.proofs.lemmas.List.{length-take-le}
use Rattle.std.proofs.lemmas.Result.{err_from_is_err_and}
use Rattle.pm_base.specs.declared.errors.NoMemory.{NoMemory}
use Rattle.pm_io.specs.Given.{Gave}
use Rattle.pm_io.specs.Prefix.{Prefix}
use Rattle.pm_io.specs.Readings.{LeftRead, Meanwhile}
use Rattle.pm_io.proofs.GivenLemmas.{ends_given, fault_given, gave_all, gave_more, gave_up, over_given}
use Rattle.pm_io.proofs.ReadingsLemmas.{comes_got, comes_to_fault, comes_took, comes_whole}
use Rattle.pm_io.proofs.prefix.read_rest.Goals as goal

-- a front is no longer than its length says
front_fits : (n : ℕ) (xs : List ℕ) → length (take n xs) ≤ n
front_fits zero xs = omega arith
front_fits (suc n) [] = omega arith
front_fits (suc n) (x ∷ xs) = let later = front_fits n xs in omega arith

pub loop-window-preserved : goal.loop-window-preserved
loop-window-preserved g c =
    let old = g.I.Inputs.state c.args.inputs.now in
    let mid = g.I.Inputs.state c.loop-window.inputs in
    let new = g.I.Inputs.state c.read.new.self in
    let before = c.loop-window.bytes.items in
    let after = c.extend_from_slice.new.self.items in
    let got = take c.in-Ok.count c.read.new.buf in
    let some : 0 < c.in-Ok.count = search rules in
    let size : length got ≡ c.in-Ok.count = length-take-le c.in-Ok.count c.read.new.buf c.in-Ok.ensures.bound in
    let room : length c.read.new.buf ≤ c.args.limit + 1 - length before = omega (arith, c.read.auto.buf, front_fits c.min-part.result c.loop-window.window, c.min-part.ensures, c.len-in-loop-window.ensures, c.len.ensures, c.loop-window.invariant.most, c.loop-window-test.true) in
    let grown : after ≡ before ++ got = grind (arith, common_steps) in
    let longer : length after ≡ length before + c.in-Ok.count = grind (arith, common_steps) in
    record {
      took = grind (arith, common_steps);
      within = omega (arith, longer, c.in-Ok.ensures.bound, room, c.loop-window-test.true, c.len.ensures, c.loop-window.invariant.most);
      calls = comes_took c.args.id (c.args.limit + 1) (c.args.limit + 1 - length before) (c.args.limit + 1 - length after) false got old mid new c.loop-window.invariant.calls c.in-Ok.ensures.logged (omega (arith, some, size))
          (omega (arith, size, longer, c.in-Ok.ensures.bound, room, c.loop-window-test.true, c.len.ensures, c.loop-window.invariant.most));
      gave = subst (λ (bytes : List ℕ). Meanwhile old new (Gave c.args.id bytes false)) (sym grown)
          (gave_more c.args.id before got old mid new c.loop-window.invariant.gave c.in-Ok.ensures.logged (omega (arith, some, size)));
      most = refl;
    }

pub returns-clause-calls : goal.returns-clause-calls
returns-clause-calls g c =
    comes_whole c.args.id (c.args.limit + 1) (c.args.limit + 1 - length c.loop-window.bytes.items) false false (g.I.Inputs.state c.args.inputs.now) (g.I.Inputs.state c.loop-window.inputs) c.loop-window.invariant.calls
    (omega (arith, c.loop-window-test.false, c.loop-window.invariant.most, c.len.ensures))

pub returns-clause-given : goal.returns-clause-given
returns-clause-given g c =
    over_given c.args.limit c.args.id c.loop-window.bytes.items (g.I.Inputs.state c.args.inputs.now) (g.I.Inputs.state c.loop-window.inputs)
    (omega (arith, c.loop-window-test.false, c.loop-window.invariant.most, c.len.ensures)) c.loop-window.invariant.gave

pub returns-in-Ok-eq0-clause-given : goal.returns-in-Ok-eq0-clause-given
returns-in-Ok-eq0-clause-given g c =
    let old = g.I.Inputs.state c.args.inputs.now in
    let new = g.I.Inputs.state c.read.new.self in
    ends_given c.args.limit c.args.id c.loop-window.bytes.items old new
    (omega (arith, c.loop-window-test.true, c.len.ensures, c.loop-window.invariant.most))
    (gave_all c.args.id c.loop-window.bytes.items old (g.I.Inputs.state c.loop-window.inputs) new c.loop-window.invariant.gave (search rules))

pub returns-in-Err-clause-calls : goal.returns-in-Err-clause-calls
returns-in-Err-clause-calls g c =
    comes_to_fault c.args.id (c.args.limit + 1) (c.args.limit + 1 - length c.loop-window.bytes.items) false (g.I.Inputs.state c.args.inputs.now) (g.I.Inputs.state c.loop-window.inputs) (g.I.Inputs.state c.read.new.self) c.loop-window.invariant.calls c.in-Err.ensures.logged
    (omega (arith, c.loop-window-test.true, c.len.ensures, c.loop-window.invariant.most))

pub returns-in-Err-clause-given : goal.returns-in-Err-clause-given
returns-in-Err-clause-given g c =
    let old = g.I.Inputs.state c.args.inputs.now in
    let new = g.I.Inputs.state c.read.new.self in
    fault_given c.args.limit c.args.id c.loop-window.bytes.items old new
    (omega (arith, c.loop-window-test.true, c.len.ensures, c.loop-window.invariant.most))
    (gave_up c.args.id c.loop-window.bytes.items old (g.I.Inputs.state c.loop-window.inputs) new c.loop-window.invariant.gave c.in-Err.ensures.logged)

pub returns-in_err-map_err-in-Ok-clause-calls : goal.returns-in_err-map_err-in-Ok-clause-calls
returns-in_err-map_err-in-Ok-clause-calls g c =
    let exit = err_from_is_err_and c.from_residual.result c.from_residual.ensures.1 in
    let old = g.I.Inputs.state c.args.inputs.now in
    let mid = g.I.Inputs.state c.loop-window.inputs in
    let new = g.I.Inputs.state c.read.new.self in
    let left = c.args.limit + 1 - length c.loop-window.bytes.items in
    let P : Result Prefix NoMemory → Type 0 = λ r. Meanwhile old new (LeftRead r c.args.id (c.args.limit + 1)) in
    let room : length c.read.new.buf ≤ left = omega (arith, c.read.auto.buf, front_fits c.min-part.result c.loop-window.window, c.min-part.ensures, c.len-in-loop-window.ensures, c.len.ensures, c.loop-window.invariant.most, c.loop-window-test.true) in
    subst P (sym exit.1)
    (comes_got c.args.id (c.args.limit + 1) left false c.in-Ok.count c.read.new.buf old mid new c.loop-window.invariant.calls c.in-Ok.ensures.logged c.in-Ok.ensures.bound room (omega (arith, c.loop-window-test.true, c.len.ensures, c.loop-window.invariant.most)))
