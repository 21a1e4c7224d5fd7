-- Where the calls of one name end, and those of the next one begin.
use Rattle.std.proofs.Common.{◌≡◌, ◌<◌, ◌≤◌, ℕ, ◌+◌, ◌-◌, List, [], ◌∷◌, ◌++◌, length, Option, Some, None, refl, sym, ◌∙◌, ap, subst, inl, inr}
use Rattle.std.specs.Prelude.{⊤}
use Rattle.std.proofs.lemmas.List.{append-nil}
use Rattle.pm_base.specs.declared.errors.Exit.{Exit}
use Rattle.pm_base.specs.declared.errors.Exit.TheVariants as exit
use Rattle.pm_io.specs.Calls.{Begin, Call, IsFailure, Named, Read, ReadsEach, ReadsOn, ReadsOut, ReadsToFault, ReadsWhole, mended}
use Rattle.pm_io.specs.Readings.{NameReadBy}
use Rattle.pm_io.specs.declared.prefix.StopReason.{StopReason}
use Rattle.pm_io.specs.declared.prefix.StopReason.TheVariants.{End, Limit, Failure, Unbegun}
use Rattle.pm_reader.specs.Follow.{IsBrokenOff}
use Rattle.pm_script.specs.Script.{script_limit}
use Rattle.pm_trace.specs.Scripts.{ReadsScript, script_named}
use Rattle.pm_top.specs.Called.{behind_reads, first_calls, front_reads, later_calls}

-- ---- calls

-- each of them is a read
abbrev AreReads : List Call → Type 0
AreReads [] = ⊤
AreReads (Begin name answer ∷ calls) = ⊥
AreReads (Read id answer ∷ calls) = AreReads calls

-- the first one, if there is one, begins a name
abbrev pub Starts : List Call → Type 0
Starts [] = ⊤
Starts (Begin name answer ∷ calls) = ⊤
Starts (Read id answer ∷ calls) = ⊥

front_is : (reads later : List Call) → AreReads reads → Starts later → front_reads (reads ++ later) ≡ reads
front_is [] [] are starts = refl
front_is [] (Begin name answer ∷ later) are starts = refl
front_is [] (Read id answer ∷ later) are starts = absurd starts
front_is (Begin name answer ∷ reads) later are starts = absurd are
front_is (Read id answer ∷ reads) later are starts = ap (λ (calls : List Call). Read id answer ∷ calls) (front_is reads later are starts)

behind_is : (reads later : List Call) → AreReads reads → Starts later → behind_reads (reads ++ later) ≡ later
behind_is [] [] are starts = refl
behind_is [] (Begin name answer ∷ later) are starts = refl
behind_is [] (Read id answer ∷ later) are starts = absurd starts
behind_is (Begin name answer ∷ reads) later are starts = absurd are
behind_is (Read id answer ∷ reads) later are starts = behind_is reads later are starts

-- ---- the calls of one name

-- they stand apart from those of the names after it
pub record IsReading (calls : List Call) : Type 0 where
  pub first : (later : List Call) → Starts later → first_calls (calls ++ later) ≡ calls
  pub rest : (later : List Call) → Starts later → later_calls (calls ++ later) ≡ later
  pub starts : (later : List Call) → Starts (calls ++ later)

one_reading : (name : List ℕ) (answer : Option ℕ) (reads : List Call) → AreReads reads → IsReading (Begin name answer ∷ reads)
one_reading name answer reads are = record {
  first = λ later starts. ap (λ (calls : List Call). Begin name answer ∷ calls) (front_is reads later are starts);
  rest = λ later starts. behind_is reads later are starts;
  starts = λ later. tt;
}

out_reads : (id left : ℕ) (calls : List Call) → ReadsOut id left calls → AreReads calls
out_reads id left [] out = tt
out_reads id left (Begin name answer ∷ calls) out = absurd out
out_reads id left (Read other None ∷ calls) out = absurd out
out_reads id left (Read other (Some []) ∷ calls) out = subst AreReads (sym out.2) tt
out_reads id left (Read other (Some (byte ∷ bytes)) ∷ calls) out = out_reads id (left - length (byte ∷ bytes)) calls out.2

reads_before : (one two : List Call) → AreReads (one ++ two) → AreReads one
reads_before [] two are = tt
reads_before (Begin name answer ∷ one) two are = absurd are
reads_before (Read id answer ∷ one) two are = reads_before one two are

last_read : (last : Call) → AreReads (mended last ∷ []) → AreReads (last ∷ [])
last_read (Begin name None) are = absurd are
last_read (Begin name (Some id)) are = absurd are
last_read (Read id None) are = tt
last_read (Read id (Some bytes)) are = tt

fault_reads : (front : List Call) (last : Call) (left : List Call) → AreReads ((front ++ mended last ∷ []) ++ left) → AreReads (front ++ last ∷ [])
fault_reads [] last left are = last_read last (reads_before (mended last ∷ []) left are)
fault_reads (Begin name answer ∷ front) last left are = absurd are
fault_reads (Read id answer ∷ front) last left are = fault_reads front last left are

-- a reading of one name is a reading of names
pub whole_of_one : (n : Named) (calls : List Call) → ReadsEach (n ∷ []) calls → ReadsWhole n calls
whole_of_one n calls reads =
    let same : calls ≡ reads.0 = reads.2 ∙ (ap (λ (next : List Call). reads.0 ++ next) reads.4 ∙ append-nil reads.0) in
    subst (λ (cs : List Call). ReadsWhole n cs) (sym same) reads.3

-- a name that is read whole
pub whole_reading : (n : Named) (calls : List Call) → ReadsWhole n calls → IsReading calls
whole_reading n [] whole = absurd whole
whole_reading n (Begin name None ∷ calls) whole = absurd whole
whole_reading n (Begin name (Some id) ∷ calls) whole = one_reading name (Some id) calls (out_reads id (n.limit + 1) calls whole.1)
whole_reading n (Read id answer ∷ calls) whole = absurd whole

-- one up to a call that fails
fault_reading : (n : Named) (front : List Call) (last : Call) (left : List Call) → IsFailure last → ReadsWhole n ((front ++ mended last ∷ []) ++ left) → IsReading (front ++ last ∷ [])
fault_reading n [] (Begin name None) left failed whole = one_reading name None [] tt
fault_reading n [] (Begin name (Some id)) left failed whole = absurd failed
fault_reading n [] (Read id None) left failed whole = absurd whole
fault_reading n [] (Read id (Some bytes)) left failed whole = absurd failed
fault_reading n (Begin name None ∷ front) last left failed whole = absurd whole
fault_reading n (Begin name (Some id) ∷ front) last left failed whole =
    one_reading name (Some id) (front ++ last ∷ [])
    (fault_reads front last left (out_reads id (n.limit + 1) ((front ++ mended last ∷ []) ++ left) whole.1))
fault_reading n (Read id answer ∷ front) last left failed whole = absurd whole

broken_reading : (n : Named) (calls : List Call) → ReadsToFault (n ∷ []) calls → IsReading calls
broken_reading n calls reads =
    subst IsReading (sym reads.is)
    (fault_reading n reads.front reads.last reads.on.0 reads.failed (whole_of_one n ((reads.front ++ mended reads.last ∷ []) ++ reads.on.0) reads.on.1))

pub name_reading : (stop : StopReason) (n : Named) (calls : List Call) → NameReadBy stop n calls → IsReading calls
name_reading End n calls reads = whole_reading n calls (whole_of_one n calls reads)
name_reading Limit n calls reads = whole_reading n calls (whole_of_one n calls reads)
name_reading Failure n calls reads = broken_reading n calls reads
name_reading Unbegun n calls reads = broken_reading n calls reads

-- ---- the calls of a script

-- none, a call that could not begin it, or one that began it, and then reads up to somewhere or up to one that failed
abbrev pub AreOfScript : List Call → Type 0
AreOfScript [] = ⊤
AreOfScript (Begin name None ∷ calls) = ⊤
AreOfScript (Begin name (Some id) ∷ calls) = IsBrokenOff id calls
AreOfScript (Read id answer ∷ calls) = ⊥

pub script_starts : (calls : List Call) → AreOfScript calls → Starts calls
script_starts [] of = tt
script_starts (Begin name None ∷ calls) of = tt
script_starts (Begin name (Some id) ∷ calls) of = tt
script_starts (Read id answer ∷ calls) of = absurd of

on_of : (name : List ℕ) (calls : List Call) → ReadsOn (script_named name ∷ []) calls → AreOfScript calls
on_of name [] on = tt
on_of name (Begin given None ∷ calls) on = tt
on_of name (Begin given (Some id) ∷ calls) on = inl (on.0, (whole_of_one (script_named name) (Begin given (Some id) ∷ (calls ++ on.0)) on.1).1)
on_of name (Read id answer ∷ calls) on = absurd (whole_of_one (script_named name) (Read id answer ∷ (calls ++ on.0)) on.1)

not_none : (front : List Call) (last : Call) (left : List Call) → (front ++ last ∷ []) ++ left ≡ [] → ⊥
not_none [] last left is = cc
not_none (call ∷ front) last left is = cc

-- a read that fails is the last one
pub record LastFails (id left : ℕ) (front : List Call) (last : Call) : Type 0 where
  pub is : last ≡ Read id None
  pub mends : ReadsOut id left (front ++ Read id (Some []) ∷ [])

fault_out : (id left : ℕ) (front : List Call) (last : Call) (later : List Call) → IsFailure last → ReadsOut id left ((front ++ mended last ∷ []) ++ later) → LastFails id left front last
fault_out id left [] (Begin name None) later failed out = absurd out
fault_out id left [] (Begin name (Some other)) later failed out = absurd failed
fault_out id left [] (Read other None) later failed out = record { is = ap (λ (n : ℕ). Read n None) out.0; mends = (refl, out.1, refl) }
fault_out id left [] (Read other (Some bytes)) later failed out = absurd failed
fault_out id left (Begin name answer ∷ front) last later failed out = absurd out
fault_out id left (Read other None ∷ front) last later failed out = absurd out
fault_out id left (Read other (Some []) ∷ front) last later failed out = absurd (not_none front (mended last) later out.2)
fault_out id left (Read other (Some (byte ∷ bytes)) ∷ front) last later failed out =
    let rest = fault_out id (left - length (byte ∷ bytes)) front last later failed out.2 in
    record { is = rest.is; mends = (out.0, out.1, rest.mends) }

fault_of : (name : List ℕ) (front : List Call) (last : Call) (left : List Call) → IsFailure last → ReadsWhole (script_named name) ((front ++ mended last ∷ []) ++ left) → AreOfScript (front ++ last ∷ [])
fault_of name [] (Begin given None) left failed whole = tt
fault_of name [] (Begin given (Some id)) left failed whole = absurd failed
fault_of name [] (Read id None) left failed whole = absurd whole
fault_of name [] (Read id (Some bytes)) left failed whole = absurd failed
fault_of name (Begin given None ∷ front) last left failed whole = tt
fault_of name (Begin given (Some id) ∷ front) last left failed whole =
    let it = fault_out id (script_limit + 1) front last left failed whole.1 in
    inr (record { front = front; is = ap (λ (call : Call). front ++ call ∷ []) it.is; mends = it.mends })
fault_of name (Read id answer ∷ front) last left failed whole = absurd whole

broken_of : (name : List ℕ) (calls : List Call) → ReadsToFault (script_named name ∷ []) calls → AreOfScript calls
broken_of name calls reads =
    subst AreOfScript (sym reads.is)
    (fault_of name reads.front reads.last reads.on.0 reads.failed
    (whole_of_one (script_named name) ((reads.front ++ mended reads.last ∷ []) ++ reads.on.0) reads.on.1))

whole_of : (name : List ℕ) (calls : List Call) → ReadsEach (script_named name ∷ []) calls → AreOfScript calls
whole_of name calls reads = on_of name calls ([], subst (λ (cs : List Call). ReadsEach (script_named name ∷ []) cs) (sym (append-nil calls)) reads)

-- whatever the exit
pub script_calls : (due : Exit) (name : List ℕ) (calls : List Call) → ReadsScript due (script_named name) calls → AreOfScript calls
script_calls exit.Done name calls reads = whole_of name calls reads
script_calls exit.TooLarge name calls reads = whole_of name calls reads
script_calls exit.ReadFault name calls reads = broken_of name calls reads
script_calls exit.BadLine name calls reads = on_of name calls reads.0
script_calls exit.WriteFault name calls (inl reads) = on_of name calls reads.0
script_calls exit.WriteFault name calls (inr reads) = broken_of name calls reads
script_calls exit.Memory name calls (inl none) = subst AreOfScript (sym none) tt
script_calls exit.Memory name calls (inr (inl reads)) = on_of name calls reads.0
script_calls exit.Memory name calls (inr (inr reads)) = broken_of name calls reads
script_calls exit.Usage name calls reads = absurd reads
script_calls exit.BadObject name calls reads = absurd reads
script_calls exit.BadText name calls reads = absurd reads
