-- What is read of a source that shows what its reads gave is what they gave.
use Rattle.std.proofs.Common.{◌≡◌, ℕ, ◌+◌, ◌-◌, ◌≤◌, ◌==◌, Bool, true, false, if◌then◌else◌, List, [], ◌∷◌, ◌++◌, length, Some, None, Result, Ok, Err, refl, sym, ◌∙◌, ap, subst, inl, inr, arith, take_all}
use Rattle.std.specs.Prelude.{nat_lt, ◌⊎◌}
use Rattle.std.proofs.lemmas.Bool.Decides.{Decides-eqb, nat_tests}
use Rattle.std.proofs.lemmas.List.{length-append, append-nil}
use Rattle.pm_base.specs.declared.errors.Failed.{Failed}
use Rattle.pm_base.specs.declared.events.Event.{Event}
use Rattle.pm_io.specs.declared.prefix.StopReason.{StopReason}
use Rattle.pm_io.specs.declared.prefix.StopReason.TheVariants.{End, Limit, Failure, Unbegun}
use Rattle.pm_io.specs.Calls.{Call, Begin, Read, GoesOn, GoesToFault, GoesUpTo, ReadsOut}
use Rattle.pm_io.specs.Given.{given, is_ended, prefix_given, stop_by}
use Rattle.pm_io.specs.Inputs.{Moment}
use Rattle.pm_io.specs.Prefix.{HasSize, Prefix, prefix_of}
use Rattle.pm_io.specs.Readings.{LeftReadBy, Meanwhile}
use Rattle.pm_io.proofs.GivenLemmas.{meanwhile_same}
use Rattle.pm_io.proofs.ReadingsLemmas.{meanwhile_map}
use Rattle.pm_script.specs.declared.meaning.LineFault.{LineFault}
use Rattle.pm_script.specs.Meaning.{meaning}
use Rattle.pm_script.specs.Named.{script_in}
use Rattle.pm_script.specs.Script.{Script, Stop, before, script_from, script_limit, script_lines, script_of, stop_of}
use Rattle.pm_script.specs.Script.Stop.{End as AtEnd, Bad}
use Rattle.pm_script.proofs.NamedLemmas.{script_some}
use Rattle.pm_block.specs.Block.{attached_by}
use Rattle.pm_reader.specs.declared.follow.Front.{Front}
use Rattle.pm_reader.specs.declared.follow.LineStop.{LineStop}
use Rattle.pm_reader.specs.declared.follow.LineStop.TheVariants as stops
use Rattle.pm_reader.specs.declared.follow.LinesEnd.{LinesEnd}
use Rattle.pm_reader.specs.Follow.{Followed, FollowedInput, Following, IsBrokenOff, ReadsLines, script_given}
use Rattle.pm_reader.specs.Front.{Ahead, Attaches, ran}
use Rattle.pm_reader.specs.Shown.{OfRead, file_by, giving}
use Rattle.pm_reader.proofs.AheadLemmas.{Idle, front_given, front_script}
use Rattle.pm_reader.proofs.Named.{of_more}
use Rattle.pm_reader.proofs.StandsLemmas.{front_calls}

read_back : (limit : ℕ) (stop : StopReason) (bytes : List ℕ) → HasSize limit stop (length bytes) → prefix_of limit (file_by stop bytes) 1 ≡ record { bytes = bytes; stop = stop }
read_back limit End bytes size = grind (arith, nat_tests)
read_back limit Limit bytes size = grind (arith, nat_tests, take_all)
read_back limit Failure bytes size = grind (arith, nat_tests, take_all)
read_back limit Unbegun [] size = refl
read_back limit Unbegun (byte ∷ bytes) size = cc

pub read_shown : (limit : ℕ) (prefix : Prefix) → HasSize limit prefix.stop (length prefix.bytes) → prefix_of limit (file_by prefix.stop prefix.bytes) 1 ≡ prefix
read_shown limit prefix size = read_back limit prefix.stop prefix.bytes size

-- ---- how many bytes are given

of_number : (other id : ℕ) (bytes : List ℕ) → other ≡ id → (if other == id then bytes else []) ≡ bytes
of_number other id bytes is = ap (λ (b : Bool). if b then bytes else []) ((Decides-eqb other id).1 is)

nothing : (b : Bool) → ◌≡◌ {A = List ℕ} ((if b then [] else []) ++ []) []
nothing true = refl
nothing false = refl

-- no more than may be taken
within : (id left : ℕ) (calls later : List Call) → ReadsOut id left (calls ++ later) → length (given id calls) ≤ left
within id left [] later reads = omega arith
within id left (Begin name answer ∷ calls) later reads = absurd reads
within id left (Read other None ∷ calls) later reads = absurd reads
within id left (Read other (Some []) ∷ []) later reads =
    let none : length (given id (Read other (Some []) ∷ [])) ≡ 0 = ap length (nothing (other == id)) in omega (arith, none)
within id left (Read other (Some []) ∷ (call ∷ calls)) later reads = cc
within id left (Read other (Some (byte ∷ bytes)) ∷ calls) later reads =
    let rest = within id (left - length (byte ∷ bytes)) calls later reads.2 in
    let all : length (given id (Read other (Some (byte ∷ bytes)) ∷ calls)) ≡ length (byte ∷ bytes) + length (given id calls) =
    ap (λ (got : List ℕ). length (got ++ given id calls)) (of_number other id (byte ∷ bytes) reads.0) ∙ length-append (byte ∷ bytes) (given id calls)
    in
    omega (arith, all, reads.1, rest)

-- so what was given has the size of a reading that ended so
size_by : (limit : ℕ) (told : Bool) (bytes : List ℕ) → length bytes ≤ limit + 1 → HasSize limit (stop_by told limit bytes) (length bytes)
size_by limit told bytes fits = by (nat_lt limit (length bytes)) refl
  where
    short : (told : Bool) → length bytes ≤ limit → HasSize limit (if told then End else Failure) (length bytes)
    short true fits = fits
    short false fits = fits

    by : (past : Bool) → nat_lt limit (length bytes) ≡ past → HasSize limit (if past then Limit else (if told then End else Failure)) (length bytes)
    by true is = grind (arith, nat_tests, fits)
    by false is = let fit : length bytes ≤ limit = grind (arith, nat_tests) in short told fit

-- a read that failed gave nothing
fault_gave : (id : ℕ) (front : List Call) → given id (front ++ Read id None ∷ []) ≡ given id front
fault_gave id [] = refl
fault_gave id (Begin name answer ∷ front) = fault_gave id front
fault_gave id (Read other None ∷ front) = fault_gave id front
fault_gave id (Read other (Some bytes) ∷ front) = ap (λ (later : List ℕ). (if other == id then bytes else []) ++ later) (fault_gave id front)

-- the calls of a reading up to somewhere, or up to a read that failed
given_size : (id limit : ℕ) (calls : List Call) → GoesUpTo id (limit + 1) false calls ⊎ GoesToFault id (limit + 1) false calls → HasSize limit (prefix_given limit id calls).stop (length (prefix_given limit id calls).bytes)
given_size id limit calls (inl on) = size_by limit (is_ended id calls) (given id calls) (within id (limit + 1) calls on.0 on.1)
given_size id limit calls (inr fault) =
    let front : length (given id fault.front) ≤ limit + 1 = within id (limit + 1) fault.front (Read id (Some []) ∷ []) fault.mends in
    let same : given id calls ≡ given id fault.front = ap (given id) fault.is ∙ fault_gave id fault.front in
    size_by limit (is_ended id calls) (given id calls) (subst (λ (bytes : List ℕ). length bytes ≤ limit + 1) (sym same) front)

-- ---- the script that was given

begun : (limit id : ℕ) (calls : List Call) → (prefix_given limit id calls).stop ≡ Unbegun → ⊥
begun limit id calls is = by (nat_lt limit (length (given id calls))) (is_ended id calls) is
  where
    by : (past told : Bool) → (if past then Limit else (if told then End else Failure)) ≡ Unbegun → ⊥
    by true told is = cc
    by false true is = cc
    by false false is = cc

-- is the one that a source holds which shows what its calls gave
pub script_shown : (id : ℕ) (name other : List ℕ) (calls : List Call) (m : Moment) → IsBrokenOff id calls
    → script_in (giving script_limit (Begin name (Some id) ∷ calls) m) other ≡ Some (script_given id calls)
script_shown id name other calls m reads =
    let prefix : Prefix = prefix_given script_limit id calls in
    ap script_of (read_shown script_limit prefix (given_size id script_limit calls reads))
    ∙ script_some prefix (begun script_limit id calls)

-- ---- a script that came to its end was given whole

bad_is_end : (fault : LineFault) → Bad fault ≡ AtEnd → ⊥
bad_is_end fault e = cc

ended_by : (means : Result Event LineFault) (s : Script) (stop : Stop) → (s.stop ≡ AtEnd → stop ≡ AtEnd) → (before means s).stop ≡ AtEnd → stop ≡ AtEnd
ended_by (Ok event) s stop later ends = later ends
ended_by (Err fault) s stop later ends = absurd (bad_is_end fault ends)

stays_ended : (lines : List (List ℕ)) (stop : Stop) → (script_from lines stop).stop ≡ AtEnd → stop ≡ AtEnd
unfolding script_from
stays_ended [] stop ends = ends
stays_ended (line ∷ lines) stop ends = ended_by (meaning line) (script_from lines stop) stop (stays_ended lines stop) ends

only_end : (r : StopReason) → stop_of r ≡ AtEnd → r ≡ End
only_end End is = refl
only_end Limit is = cc
only_end Failure is = cc
only_end Unbegun is = cc

pub given_whole : (id : ℕ) (calls : List Call) → (script_given id calls).stop ≡ AtEnd → (prefix_given script_limit id calls).stop ≡ End
given_whole id calls ends =
    only_end (prefix_given script_limit id calls).stop (stays_ended (script_lines (prefix_given script_limit id calls)) (stop_of (prefix_given script_limit id calls).stop) ends)

-- ---- what holds of the script of a begun input, by what it shows and by what its reads gave

-- something else that follows holds too
pub read_more : (observable : Type 0) (id : ℕ) (first after : Moment) (Holds Then : Script → Type 0) → ((s : Script) → Holds s → Then s) → OfRead observable id first after Holds → OfRead observable id first after Then
read_more observable id first after Holds Then step of = record {
  held = of_more observable id first Holds Then step of.held;
  given = meanwhile_map first after (λ (calls : List Call). IsBrokenOff id calls × Holds (script_given id calls)) (λ calls. IsBrokenOff id calls × Then (script_given id calls)) (λ calls holds. (holds.0, step (script_given id calls) holds.1)) of.given;
}

-- what was attached ahead is what its block attaches
pub front_read : (observable : Type 0) (id : ℕ) (ahead : Ahead) (now : Moment) (failed : Failed) (front : Front) → Attaches observable id ahead now front → OfRead observable id ahead.first now (λ s. attached_by s.events ≡ ahead.attached)
front_read observable id ahead now failed front a = record {
  held = front_script observable id ahead now failed front a;
  given = meanwhile_same ahead.first now (IsBrokenOff id) (λ calls. attached_by (script_given id calls).events ≡ ahead.attached) (front_calls Idle observable id ahead tt front now a) (front_given observable id ahead now failed front a);
}

-- a reading of lines goes up to somewhere, or up to a read that failed
ended_off : (id : ℕ) (stop : StopReason) (calls : List Call) → LeftReadBy stop id (script_limit + 1) calls → IsBrokenOff id calls
ended_off id End calls reads = inl ([], subst (λ (cs : List Call). GoesOn id (script_limit + 1) false cs) (sym (append-nil calls)) reads)
ended_off id Limit calls reads = inl ([], subst (λ (cs : List Call). GoesOn id (script_limit + 1) false cs) (sym (append-nil calls)) reads)
ended_off id Failure calls reads = inr reads
ended_off id Unbegun calls reads = absurd reads

lines_off : (id : ℕ) (result : Result LinesEnd LineStop) (calls : List Call) → ReadsLines id result calls → IsBrokenOff id calls
lines_off id (Ok end) calls reads = ended_off id end.stop calls reads
lines_off id (Err (stops.Bad m cause)) calls reads = inl reads
lines_off id (Err stops.Broken) calls reads = reads

-- the lines of an input were followed
pub followed_read : {F : Type 0} (Follows : Following F) (observable : Type 0) (id : ℕ) (ahead : Ahead) (after : Moment) (old new : F) (result : Result LinesEnd LineStop) → FollowedInput Follows observable id ahead after old new result
    → Meanwhile ahead.first after (ReadsLines id result)
    → OfRead observable id ahead.first after (λ s. (attached_by s.events ≡ ahead.attached) × Followed Follows 1 (ran s) old new result)
followed_read Follows observable id ahead after old new result did reads = record {
  held = did.followed;
  given = meanwhile_same ahead.first after (IsBrokenOff id) (λ calls. (attached_by (script_given id calls).events ≡ ahead.attached) × Followed Follows 1 (ran (script_given id calls)) old new result)
      (meanwhile_map ahead.first after (ReadsLines id result) (IsBrokenOff id) (lines_off id result) reads) did.given;
}
