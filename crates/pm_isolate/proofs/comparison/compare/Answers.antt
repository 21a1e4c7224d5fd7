use Rattle.std.proofs.Common.{List}
use Rattle.pm_base.specs.declared.events.Event.{Event}
use Rattle.pm_block.specs.Block.{attached_by, passed}
use Rattle.pm_reach.specs.declared.members.Member.{Member}
use Rattle.pm_reach.specs.Membership.{IsReach}
use Rattle.pm_state.specs.State.{objects_in}
use Rattle.pm_run.specs.Run.{setup_for}
use Rattle.pm_run.proofs.FormedLemmas.{objects_formed}
use Rattle.pm_isolate.specs.Compared.{IsComparisonOf, TouchesNothing, comparison_report, script_of_job}
use Rattle.pm_trace.proofs.ScriptsLemmas as scripts
use Rattle.pm_isolate.proofs.ComparedLemmas.{compare_done, of_script, script_asked}
use Rattle.pm_isolate.proofs.GivenLemmas.{given_by}
use Rattle.pm_isolate.proofs.comparison.compare.Goals as goal

pub returns : goal.returns
returns g c =
    let object = c.args.object in
    let t = c.args.topology in
    let m = c.args.m in
    let name = c.args.script.now in
    let old = c.args.inputs.now in
    let new = c.compare_named.new.inputs in
    let sink = c.args.out.now in
    let sink' = c.compare_named.new.out in
    let result = c.compare_named.result in
    let ran = c.compare_named.ensures.ran in
    let Asks = IsComparisonOf g.I.Inputs object t m name old new result in
    let asks = script_asked g.I.Inputs g.O.Sink object t m name old new sink sink' result in
    let listed = λ (members : List Member) (events : List Event) (reach : IsReach (objects_in object (attached_by events)) t m members).
    c.what_differs_is_reached.ensures.all (setup_for object t events) m (passed events) members (objects_formed c.attached_objects_are_formed.ensures object t events c.requires.object) c.requires.formed reach
    in
    record {
      done = compare_done g.I.Inputs g.O.Sink object t m name old new sink sink' result ran listed;
      given = given_by g.O.Sink object t m name (g.I.Inputs.state old) (g.I.Inputs.state new) sink sink' result listed c.compare_named.ensures.given c.compare_named.ensures.begun;
      decided = scripts.did_decided g.I.Inputs g.O.Sink script_of_job (comparison_report object t m) (of_script object t m) name old new sink sink' result Asks asks TouchesNothing ran;
      ran = ran;
      begun = c.compare_named.ensures.begun;
      memory = scripts.did_memory g.I.Inputs g.O.Sink script_of_job (comparison_report object t m) (of_script object t m) name old new sink sink' result Asks asks TouchesNothing ran;
      read_fault = scripts.did_read_fault g.I.Inputs g.O.Sink script_of_job (comparison_report object t m) (of_script object t m) name old new sink sink' result Asks asks TouchesNothing ran;
      read_cause = scripts.did_read_cause g.I.Inputs g.O.Sink script_of_job (comparison_report object t m) (of_script object t m) name old new sink sink' result Asks asks TouchesNothing ran;
      write_fault = scripts.did_write_fault g.I.Inputs g.O.Sink script_of_job (comparison_report object t m) (of_script object t m) name old new sink sink' result Asks asks TouchesNothing ran;
      unfailed = scripts.did_unfailed g.I.Inputs g.O.Sink script_of_job (comparison_report object t m) (of_script object t m) name old new sink sink' result Asks asks TouchesNothing ran;
    }
