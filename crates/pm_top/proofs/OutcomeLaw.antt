-- What a run came to by what the calls of its inputs gave.
use Rattle.std.proofs.Common.{◌≡◌, ◌++◌, ℕ, List, Option, refl, subst}
use Rattle.pm_base.specs.declared.errors.Exit.{Exit}
use Rattle.pm_base.specs.declared.errors.Exit.TheVariants as exit
use Rattle.pm_io.specs.declared.sink.Sink as Sink
use Rattle.pm_io.specs.Calls.{Call}
use Rattle.pm_io.specs.Inputs.{Moment}
use Rattle.pm_io.specs.Readings.{Meanwhile}
use Rattle.pm_io.proofs.GivenLemmas.{meanwhile_same}
use Rattle.pm_object.specs.declared.object.Object.{Object}
use Rattle.pm_object.specs.Grammar.{Reads}
use Rattle.pm_object.specs.Reading.{reading}
use Rattle.pm_objtext.specs.Building.{building}
use Rattle.pm_objtext.specs.Meaning.{Means}
use Rattle.std.specs.Prelude.{Ok}
use Rattle.pm_board.specs.Board.{Standing}
use Rattle.pm_device.specs.declared.device.Device as Device
use Rattle.pm_top.specs.declared.works.Request.{Request}
use Rattle.pm_top.specs.declared.works.Work.TheVariants.{Replay}
use Rattle.pm_top.specs.Done.{DoneBy}
use Rattle.pm_top.specs.Form.{form, over, request_of}
use Rattle.pm_top.specs.Given.{GaveEach}
use Rattle.pm_top.specs.Headline.{Headline}
use Rattle.pm_top.specs.Outcome.{Outcome}
use Rattle.pm_top.specs.Ran.{DecidesGiven, RanGiven}
use Rattle.pm_top.specs.Reads.{FormReads}
use Rattle.pm_top.proofs.CompleteGiven.{complete_given}
use Rattle.pm_top.proofs.HeadlineLaw.{HeadlineLaws, replayed_headline}

-- what holds of the calls between two moments holds of these, if they are these
of_these : (before after : Moment) (Are : List Call → Type 0) (calls : List Call) → after.calls ≡ before.calls ++ calls → Meanwhile before after Are → Are calls
of_these before after Are calls logged made =
    let both = meanwhile_same before after (λ (others : List Call). others ≡ calls) Are (record { calls = calls; logged = logged; are = refl }) made in
    subst Are both.are.0 both.are.1

module _ {O D : Type 0} (o : Sink.Ghosts O) (d : Device.Ghosts D) (ws : List (List ℕ)) (board is : Standing) (before after : Moment) (sink sink' : O) (device device' : D) (result : Exit) where
  -- the parts of it, which speak of the same calls
  abbrev Parts : List Call → Type 0
  Parts calls = FormReads (form ws) ws result calls × RanGiven o d (form ws) ws board is calls sink sink' device device' result

  pub outcome : ((bytes : List ℕ) (object : Object) → Reads bytes object → reading bytes ≡ Ok object) → ((text : List ℕ) (object : Object) → Means text object → building text ≡ Ok object) → HeadlineLaws d
      → ((calls : List Call) → RanGiven o d (form ws) ws board is calls sink sink' device device' result → DecidesGiven o (form ws) ws calls sink sink' result)
      → Meanwhile before after (FormReads (form ws) ws result)
      → Meanwhile before after (λ calls. RanGiven o d (form ws) ws board is calls sink sink' device device' result)
      → (o.observable → result ≡ exit.Done → Meanwhile before after (λ calls. DoneBy o d (GaveEach calls) (request_of ws) ws board is sink sink' device device'))
      → Meanwhile before after (λ calls. Outcome o d ws board is calls sink sink' device device' result)
  outcome written built laws decides reads ran done = record {
    calls = both.calls;
    logged = both.logged;
    are = record {
      begun = both.are.0;
      ran = both.are.1;
      decided = decided;
      complete = complete_given written built o (form ws) ws both.calls sink sink' result decided;
      done = whole;
      headline = λ seen named ends asked.
          replayed_headline o d laws (GaveEach both.calls) named ws board is sink sink' device device'
          (subst (λ (request : Option Request). DoneBy o d (GaveEach both.calls) request ws board is sink sink' device device') asked (whole seen ends));
    };
  }
    where
      both : Meanwhile before after Parts
      both = meanwhile_same before after (FormReads (form ws) ws result) (λ calls. RanGiven o d (form ws) ws board is calls sink sink' device device' result) reads ran

      decided : DecidesGiven o (form ws) ws both.calls sink sink' result
      decided = decides both.calls both.are.1

      whole : o.observable → result ≡ exit.Done → DoneBy o d (GaveEach both.calls) (request_of ws) ws board is sink sink' device device'
      whole seen ends = of_these before after (λ calls. DoneBy o d (GaveEach calls) (request_of ws) ws board is sink sink' device device') both.calls both.logged (done seen ends)
