use Rattle.std.proofs.Common.{◌≡◌, ◌+◌, ◌<◌, ◌++◌, List, [], ◌∷◌, length, take, drop, ◌∙◌, ap, sym, subst, inl, inr, arith}
use Rattle.std.proofs.lemmas.List.{length-set}
use Rattle.std.proofs.lemmas.Option.{slice_get_cases}
use Rattle.pm_values.specs.declared.turns.Turns.{Turns}
use Rattle.pm_values.specs.Turns.{turns_of}
use Rattle.pm_state.specs.Values.{placed}
use Rattle.pm_state.specs.Members.{mode_of_master}
use Rattle.pm_values.specs.Along.{both_turns, mode_logged, no_turns, turns_after, turns_logged}
use Rattle.pm_state.proofs.PlacedLemmas.{placed_step, rest_after, same_at}
use Rattle.pm_values.proofs.along.log_turns.Goals as goal

pub loop-m-preserved : goal.loop-m-preserved
loop-m-preserved c =
    let book = c.args.tables.now in
    let masters = book.fixed.object.masters in
    let modes = c.args.modes.now in
    let turns = c.args.turns.now in
    let m = c.loop-m.m in
    let within : m < length masters = omega (arith, c.masters-m-end.ensures, c.loop-m-test.true) in
    let since = turns_of (mode_logged modes m) (mode_of_master book.fixed book.now.core m ∷ []) in
    let added : Turns = both_turns (turns_logged m c.loop-m.turns) since in
    let is : added ≡ both_turns (turns_logged m turns) since = ap (λ t. both_turns t since) (same_at c.loop-m.turns turns m no_turns c.loop-m.invariant.rest) in
    let Turned : List Turns → Type 0 = λ ts. take (m + 1) ts ++ placed (turns_after modes turns book) (m + 1) (drop (m + 1) masters) ≡ placed (turns_after modes turns book) 0 masters in
    record {
      places = ap length c.add_turns.ensures ∙ (length-set c.loop-m.turns m added ∙ c.loop-m.invariant.places);
      rest = ap (drop (m + 1)) c.add_turns.ensures ∙ rest_after c.loop-m.turns turns m added c.loop-m.invariant.rest;
      turns = elim ((slice_get_cases masters m).1) [
        | inl here ↦
            subst Turned (sym c.add_turns.ensures)
            (placed_step (turns_after modes turns book) masters c.loop-m.turns m here.0 added _ here.2 (omega arith) is c.loop-m.invariant.turns)
        | inr past ↦ absurd (omega (arith, past.0))
      ];
    }
