-- A named script that was read.
use Rattle.std.proofs.Common.{◌≡◌, ℕ, List, [], ◌∷◌, Option, Some, None, Result, Ok, Err, refl, sym, ◌∙◌, ap, subst}
use Rattle.std.specs.Prelude.{map}
use Rattle.pm_base.specs.declared.events.Event.{Event}
use Rattle.pm_io.specs.declared.prefix.StopReason.{StopReason}
use Rattle.pm_io.specs.declared.prefix.StopReason.TheVariants as reason
use Rattle.pm_io.specs.Inputs.{MayFail, Moment}
use Rattle.pm_io.specs.Lines.{lines_of}
use Rattle.pm_io.specs.Prefix.{IsUnread, Prefix, prefix_of}
use Rattle.pm_io.proofs.PrefixEnds.{prefix_fails, prefix_whole}
use Rattle.pm_script.specs.declared.meaning.LineFault.{LineFault}
use Rattle.pm_script.specs.Meaning.{meaning}
use Rattle.pm_script.specs.Named.{IsHeldWhole, IsUnreadable, script_in}
use Rattle.pm_script.specs.Script.{Script, Stop, before, script_from, script_limit, script_lines, script_of, script_where, stop_of}
use Rattle.pm_script.specs.Script.Stop.{End, Bad, Failed}

end_is_bad : (fault : LineFault) → Bad fault ≡ End → ⊥
end_is_bad fault e = cc

failed_is_bad : (fault : LineFault) → Bad fault ≡ Failed → ⊥
failed_is_bad fault e = cc

pub script_none : (p : Prefix) → p.stop ≡ reason.Unbegun → script_of p ≡ None
script_none p is = ap (λ (r : StopReason). script_where r p) is

pub script_some : (p : Prefix) → (p.stop ≡ reason.Unbegun → ⊥) → script_of p ≡ Some (script_from (script_lines p) (stop_of p.stop))
script_some p begun = by p.stop refl
  where
    by : (r : StopReason) → p.stop ≡ r → script_where r p ≡ Some (script_from (script_lines p) (stop_of p.stop))
    by reason.End is = refl
    by reason.Limit is = refl
    by reason.Failure is = refl
    by reason.Unbegun is = absurd (begun is)

fails_by : (means : Result Event LineFault) (s : Script) (stop : Stop) → (s.stop ≡ Failed → stop ≡ Failed) → (before means s).stop ≡ Failed → stop ≡ Failed
fails_by (Ok event) s stop later fails = later fails
fails_by (Err fault) s stop later fails = absurd (failed_is_bad fault fails)

-- the script of lines can't be read on only where no more lines follow for that
pub stays_failed : (lines : List (List ℕ)) (stop : Stop) → (script_from lines stop).stop ≡ Failed → stop ≡ Failed
unfolding script_from
stays_failed [] stop fails = fails
stays_failed (line ∷ lines) stop fails = fails_by (meaning line) (script_from lines stop) stop (stays_failed lines stop) fails

pub unread : (r : StopReason) → stop_of r ≡ Failed → IsUnread r
unread reason.End is = cc
unread reason.Limit is = cc
unread reason.Failure is = tt
unread reason.Unbegun is = tt

-- the script of lines comes to its end only where the lines do and each of them has a meaning
pub record Whole (lines : List (List ℕ)) (stop : Stop) : Type 0 where
  pub ends : stop ≡ End
  pub means : map meaning lines ≡ map (λ event. Ok event) (script_from lines stop).events

whole_by : (line : List ℕ) (lines : List (List ℕ)) (stop : Stop) (means : Result Event LineFault) → meaning line ≡ means → ((script_from lines stop).stop ≡ End → Whole lines stop) → (before means (script_from lines stop)).stop ≡ End → (stop ≡ End) × (map meaning (line ∷ lines) ≡ map (λ event. Ok event) (before means (script_from lines stop)).events)
whole_by line lines stop (Ok event) is later ends =
    let rest = later ends in
    (rest.ends, ap (λ (first : Result Event LineFault). first ∷ map meaning lines) is ∙ ap (λ (more : List (Result Event LineFault)). Ok event ∷ more) rest.means)
whole_by line lines stop (Err fault) is later ends = absurd (end_is_bad fault ends)

script_whole : (lines : List (List ℕ)) (stop : Stop) → (script_from lines stop).stop ≡ End → Whole lines stop
unfolding script_from
script_whole [] stop ends = record { ends = ends; means = refl }
script_whole (line ∷ lines) stop ends =
    let both = whole_by line lines stop (meaning line) refl (script_whole lines stop) ends in
    record { ends = both.0; means = both.1 }

end_only : (r : StopReason) → stop_of r ≡ End → r ≡ reason.End
end_only reason.End is = refl
end_only reason.Limit is = cc
end_only reason.Failure is = cc
end_only reason.Unbegun is = cc

lines_whole : (p : Prefix) → p.stop ≡ reason.End → script_lines p ≡ lines_of p.bytes
lines_whole p ends = rw ends refl

-- a script that fails to be read was not read to its end or past its limit
pub script_unread : (p : Prefix) → IsUnreadable (script_of p) → IsUnread p.stop
script_unread p fails = by p.stop refl
  where
    begun : (p.stop ≡ reason.Unbegun → ⊥) → IsUnread p.stop
    begun can = unread p.stop (stays_failed (script_lines p) (stop_of p.stop) (subst IsUnreadable (script_some p can) fails))

    by : (r : StopReason) → p.stop ≡ r → IsUnread p.stop
    by reason.End at = begun (λ not. let clash : reason.End ≡ reason.Unbegun = sym at ∙ not in cc)
    by reason.Limit at = begun (λ not. let clash : reason.Limit ≡ reason.Unbegun = sym at ∙ not in cc)
    by reason.Failure at = subst IsUnread (sym at) tt
    by reason.Unbegun at = subst IsUnread (sym at) tt

some_is_none : {X : Type 0} {x : X} → Some x ≡ None → ⊥
some_is_none e = cc

same_in_some : {X : Type 0} {x y : X} → ◌≡◌ {A = Option X} (Some x) (Some y) → x ≡ y
same_in_some e = cc

-- a script that was read whole was held whole
pub read_whole : (m : Moment) (name : List ℕ) (s : Script) → Some s ≡ script_in m name → s.stop ≡ End → IsHeldWhole m name s.events
read_whole m name s is ends = by_prefix (prefix_of script_limit (m.file name) m.room) refl is
  where
    begun : (p : Prefix) → p ≡ prefix_of script_limit (m.file name) m.room → Some s ≡ script_of p → (p.stop ≡ reason.Unbegun → ⊥) → IsHeldWhole m name s.events
    begun p at is can =
        let same : s ≡ script_from (script_lines p) (stop_of p.stop) = same_in_some (is ∙ script_some p can) in
        let whole : Whole (script_lines p) (stop_of p.stop) = script_whole (script_lines p) (stop_of p.stop) (ap (λ (s : Script). s.stop) (sym same) ∙ ends) in
        let end : p.stop ≡ reason.End = end_only p.stop whole.ends in
        record {
          bytes = p.bytes;
          held = prefix_whole script_limit (m.file name) m.room p at end;
          means = ap (map meaning) (sym (lines_whole p end)) ∙ whole.means ∙ ap (λ (s : Script). map (λ event. Ok event) s.events) (sym same);
        }

    by : (p : Prefix) → p ≡ prefix_of script_limit (m.file name) m.room → Some s ≡ script_of p → (r : StopReason) → p.stop ≡ r → IsHeldWhole m name s.events
    by p of is reason.End at = begun p of is (λ not. let clash : reason.End ≡ reason.Unbegun = sym at ∙ not in cc)
    by p of is reason.Limit at = begun p of is (λ not. let clash : reason.Limit ≡ reason.Unbegun = sym at ∙ not in cc)
    by p of is reason.Failure at = begun p of is (λ not. let clash : reason.Failure ≡ reason.Unbegun = sym at ∙ not in cc)
    by p of is reason.Unbegun at = absurd (some_is_none (is ∙ script_none p at))

    by_prefix : (p : Prefix) → p ≡ prefix_of script_limit (m.file name) m.room → Some s ≡ script_of p → IsHeldWhole m name s.events
    by_prefix p of is = by p of is p.stop refl

-- a script that can't be read is one whose input can't be begun or has a failing byte within the limit
pub script_cause : (m : Moment) (name : List ℕ) → IsUnreadable (script_in m name) → MayFail name script_limit m
script_cause m name fails =
    let p : Prefix = prefix_of script_limit (m.file name) m.room in
    prefix_fails script_limit (m.file name) m.room p refl (script_unread p fails)
