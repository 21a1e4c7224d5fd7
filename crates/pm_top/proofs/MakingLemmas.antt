-- The run of a script that is made, over an input and a sink in memory.
use Rattle.std.proofs.Common.{◌≡◌, ℕ, ◌+◌, ◌*◌, ◌≤◌, ◌⊎◌, true, nat_le, List, [], ◌∷◌, ◌++◌, length, map, Option, Some, Result, Ok, Err, refl, sym, ◌∙◌, ap, subst, arith, inl, inr}
use Rattle.std.specs.Prelude.{IfOk, IsSomeAnd, MatchResult}
use Rattle.std.proofs.lemmas.Bool.Decides.{nat_tests}
use Rattle.pm_base.specs.declared.errors.Exit.{Exit}
use Rattle.pm_base.specs.declared.errors.Exit.TheVariants as exit
use Rattle.pm_base.specs.declared.events.Event.{Event}
use Rattle.pm_io.specs.declared.inputs.Inputs as Inputs
use Rattle.pm_io.specs.declared.prefix.StopReason.TheVariants as reason
use Rattle.pm_io.specs.declared.sink.Sink as Sink
use Rattle.pm_io.specs.Inputs.{File}
use Rattle.pm_io.specs.Lines.{lines_of}
use Rattle.pm_io.specs.OneInput.{always_room, file_with}
use Rattle.pm_io.specs.Prefix.{Prefix, prefix_of, prefix_within}
use Rattle.pm_io.specs.World.{World}
use Rattle.pm_board.specs.Board.{Standing}
use Rattle.pm_device.specs.declared.device.Device as Device
use Rattle.pm_gen.specs.Script.{HasMeaning, made}
use Rattle.pm_gen.specs.Summary.{summary}
use Rattle.pm_object.specs.declared.object.Object.{Object}
use Rattle.pm_topology.specs.declared.topology.Topology.{Topology}
use Rattle.pm_script.specs.declared.meaning.LineFault.{LineFault}
use Rattle.pm_script.specs.Meaning.{meaning}
use Rattle.pm_script.specs.Named.{IsScript, script_in}
use Rattle.pm_script.specs.Script.{Script, before, script_from, script_limit, script_of}
use Rattle.pm_script.specs.Script.Stop.{End}
use Rattle.pm_trace.specs.declared.faults.Fault.{Fault}
use Rattle.pm_trace.specs.Report.{Reports}
use Rattle.pm_trace.specs.Scripts.{IsScriptOf, script_exit, script_or_fault}
use Rattle.pm_drive.specs.Scripts.{script_text}
use Rattle.pm_replay.specs.Replay.{Touched}
use Rattle.pm_replay.specs.Replayed.{IsRun, Replayed}
use Rattle.pm_top.specs.Asked.{line_limit}
use Rattle.pm_top.specs.Making.{IsSummary, Makes, MayBeDriven}
use Rattle.pm_top.specs.Within.{one_piece}
use Rattle.pm_top.proofs.SubjectLemmas.{ok_is, ok_is_err}

-- the script of lines of which each has a meaning
whole_script : (lines : List (List ℕ)) (events : List Event) → map meaning lines ≡ map (λ event. Ok event) events → script_from lines End ≡ record { events = events; stop = End }
unfolding script_from
whole_script [] [] means = refl
whole_script [] (event ∷ events) means = cc
whole_script (line ∷ lines) [] means = cc
whole_script (line ∷ lines) (event ∷ events) means =
    let first : meaning line ≡ Ok event = cc in
    let more : map meaning lines ≡ map (λ event. Ok event) events = cc in
    ap (λ (means : Result Event LineFault). before means (script_from lines End)) first
    ∙ ap (before (Ok event)) (whole_script lines events more)

-- a script that is short enough is read whole
read_whole : (bytes : List ℕ) → length bytes ≤ script_limit → prefix_within script_limit bytes ≡ record { bytes = bytes; stop = reason.End }
read_whole bytes short = let fits : nat_le (length bytes) script_limit ≡ true = grind (arith, nat_tests) in rw fits refl

made_fits : (n size : ℕ) → n ≤ line_limit → size ≤ 18 * (n + 1) → size ≤ script_limit
made_fits n size few short = omega arith

-- so each line of a script that is made is taken
taken : (n : ℕ) → n ≤ line_limit → length (made n) ≤ 18 * (n + 1) → (meant : HasMeaning (made n)) → script_or_fault (script_of (prefix_within script_limit (made n))) ≡ Ok (record { events = meant.0; stop = End })
taken n few short meant =
    ap (λ (p : Prefix). script_or_fault (script_of p)) (read_whole (made n) (made_fits n (length (made n)) few short))
    ∙ ap (λ (script : Script). Ok script) (whole_script (lines_of (made n)) meant.0 meant.1)

-- and no exit is left but Done, Memory, and that of a sink that failed
pub no_other : {Broken : Type 0} (n : ℕ) → n ≤ line_limit → length (made n) ≤ 18 * (n + 1) → HasMeaning (made n) → (bytes : List ℕ) → bytes ≡ made n → (result : Exit) → (result ≡ script_exit (script_or_fault (script_of (prefix_within script_limit bytes)))) ⊎ ((result ≡ exit.Memory) ⊎ ((result ≡ exit.WriteFault) × Broken)) → (result ≡ exit.Done → ⊥) → (result ≡ exit.Memory → ⊥) → (result ≡ exit.WriteFault → ⊥) → ⊥
no_other n few short meant bytes same result ends done memory failed = elim ends [
  | inl due ↦ done (due ∙ ap (λ (bytes : List ℕ). script_exit (script_or_fault (script_of (prefix_within script_limit bytes)))) same ∙ ap script_exit (taken n few short meant))
  | inr other ↦ elim other [
    | inl starved ↦ memory starved
    | inr broken ↦ failed broken.0
  ]
]

module _ {I O D : Type 0} {i : Inputs.Ghosts I} {o : Sink.Ghosts O} {d : Device.Ghosts D} {object : Object} {t : Topology} {board is : Standing} {name : List ℕ} {w w' : World I O D} (n : ℕ) (few : n ≤ line_limit) (short : length (made n) ≤ 18 * (n + 1)) (meant : HasMeaning (made n)) (held : (i.state w.inputs).file name ≡ Some (file_with (made n))) (room : (i.state w.inputs).room ≡ always_room) where
  -- on Done
  made_whole : (text : List ℕ) → IsRun i o d object t board is name w w' → (o.state w.sink).bytes ≡ [] → text ≡ summary n (o.state w'.sink).bytes → IsSummary d object t board is n w.device w'.device text
  made_whole text run empty said =
      let same : made n ≡ run.script_bytes = subst (λ (shown : Option File). IsSomeAnd shown (λ file. file.bytes ≡ run.script_bytes)) held run.held in
      record {
        events = run.events;
        answers = run.answers;
        means = subst (λ (bytes : List ℕ). IsScript bytes run.events) (sym same) run.means;
        said = said ∙ ap (summary n) (run.text ∙ ap (λ (bytes : List ℕ). bytes ++ script_text object t board run.answers run.events) empty);
        drove = run.drove;
        tasks_left = run.tasks_left;
      }

  -- on every exit
  pub made_driven : (result : Exit) → i.observable → Replayed i o d object t board is name w w' result → MayBeDriven d object t board is n w.device w'.device
  made_driven result seen did = by did.job did.asked did.touched
    where
      by : (job : Result Script Fault) → IsScriptOf i name w.inputs w'.inputs result job → Touched d object t board is w.device w'.device job did.answers did.cut → MayBeDriven d object t board is n w.device w'.device
      by (Err fault) asked touched = inl touched
      by (Ok s) asked touched = elim (asked.shown seen) [
        | inl memory ↦ absurd (ok_is_err memory)
        | inr read ↦
            let whole : script_or_fault (script_in (i.state w.inputs) name) ≡ script_or_fault (script_of (prefix_within script_limit (made n))) =
            ap (λ (shown : Option File). script_or_fault (script_of (prefix_of script_limit shown (i.state w.inputs).room))) held
            ∙ ap (λ (room : ℕ). script_or_fault (script_of (prefix_of script_limit (Some (file_with (made n))) room))) room
            in
            let same : record { events = meant.0; stop = End } ≡ s = ok_is (sym (taken n few short meant) ∙ sym whole ∙ sym read) in
            let events : meant.0 ≡ s.events = ap (λ (s : Script). s.events) same in
            inr (record { events = s.events; answers = did.answers; cut = did.cut; means = subst (IsScript (made n)) events meant.1; drove = touched.0; tasks_left = touched.1 })
      ]

  -- the summary of the run, or want of memory for it
  pub made_summary : {X E : Type 0} (items : X → List ℕ) (text : List ℕ) (found : Result X E) → IfOk found (λ lines. items lines ≡ summary n text) → text ≡ (o.state w'.sink).bytes → (o.state w.sink).bytes ≡ [] → IsRun i o d object t board is name w w' → MayBeDriven d object t board is n w.device w'.device → MatchResult found (λ lines. IsSummary d object t board is n w.device w'.device (items lines)) (λ error. MayBeDriven d object t board is n w.device w'.device)
  made_summary items text (Ok lines) said same empty run driven = made_whole (items lines) run empty (said ∙ ap (summary n) same)
  made_summary items text (Err error) said same empty run driven = driven

-- a summary that is spelled so was written
module _ {O D : Type 0} {o : Sink.Ghosts O} {d : Device.Ghosts D} {object : Object} {t : Topology} {board is : Standing} {n : ℕ} {sink sink' : O} {old new : D} {result : Exit} where
  pub summarized : (text spelled : List ℕ) → spelled ≡ text → IsSummary d object t board is n old new text → Reports o (one_piece spelled) sink sink' result → Makes o d object t board is n sink sink' old new result
  summarized text spelled same made reports = inr (record { text = spelled; made = subst (IsSummary d object t board is n old new) (sym same) made; reports = reports })
