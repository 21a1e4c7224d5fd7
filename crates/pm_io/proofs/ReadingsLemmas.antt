-- How a reading between two moments goes on, ends and is broken off.
use Rattle.std.proofs.Common.{◌≡◌, ◌<◌, ◌+◌, ◌-◌, ◌≤◌, ℕ, List, [], ◌∷◌, ◌++◌, length, take, refl, sym, ◌∙◌, ap, arith, subst, Bool, true, false, Some, None, Ok, Err, Result, append_assoc}
use Rattle.std.proofs.lemmas.List.{append-nil, length-take-le}
use Rattle.pm_io.specs.Calls.{Call, Begin, Read, Comes, GoesOn, GoesToFault, GoesUpTo, Named, ReadsEach, ReadsOn, ReadsToFault, begun}
use Rattle.pm_io.specs.Inputs.{Moment}
use Rattle.pm_io.specs.Prefix.{Prefix}
use Rattle.pm_io.specs.Readings.{LeftRead, LeftReadBy, Meanwhile, NameRead, NameReadBy}
use Rattle.pm_base.specs.declared.errors.NoMemory.{NoMemory}
use Rattle.pm_io.specs.declared.prefix.StopReason.{StopReason}
use Rattle.pm_io.specs.declared.prefix.StopReason.TheVariants.{End, Limit, Failure, Unbegun}
use Rattle.pm_io.proofs.CallsLemmas.{begun_append, begun_out, can_end, took_none, took_on}

-- ---- calls between two moments

pub meanwhile_map : (before after : Moment) (Are Then : List Call → Type 0) → ((calls : List Call) → Are calls → Then calls) → Meanwhile before after Are → Meanwhile before after Then
meanwhile_map before after Are Then step made = record { calls = made.calls; logged = made.logged; are = step made.calls made.are }

pub meanwhile_none : (m : Moment) (Are : List Call → Type 0) → Are [] → Meanwhile m m Are
meanwhile_none m Are none = record { calls = []; logged = sym (append-nil m.calls); are = none }

pub meanwhile_both : (before mid after : Moment) (One Two Whole : List Call → Type 0) → ((one two : List Call) → One one → Two two → Whole (one ++ two)) → Meanwhile before mid One → Meanwhile mid after Two → Meanwhile before after Whole
meanwhile_both before mid after One Two Whole join one two = record {
  calls = one.calls ++ two.calls;
  logged = two.logged ∙ ap (λ (cs : List Call). cs ++ two.calls) one.logged ∙ append_assoc before.calls one.calls two.calls;
  are = join one.calls two.calls one.are two.are;
}

-- ---- a reading goes on

pub comes_start : (id left : ℕ) (ended : Bool) (m : Moment) → Meanwhile m m (Comes id left ended left ended)
comes_start id left ended m = record { calls = []; logged = sym (append-nil m.calls); are = λ rest on. on }

-- calls, and then one more
behind : (before mid after : Moment) (calls : List Call) (call : Call) → mid.calls ≡ before.calls ++ calls → after.calls ≡ mid.calls ++ call ∷ [] → after.calls ≡ before.calls ++ (calls ++ call ∷ [])
behind before mid after calls call one two = two ∙ ap (λ (cs : List Call). cs ++ call ∷ []) one ∙ append_assoc before.calls calls (call ∷ [])

comes_on : (id first left now : ℕ) (ended was is : Bool) (call : Call) (before mid after : Moment) → Meanwhile before mid (Comes id first ended left was) → after.calls ≡ mid.calls ++ call ∷ [] → ((rest : List Call) → GoesOn id now is rest → GoesOn id left was (call ∷ rest)) → Meanwhile before after (Comes id first ended now is)
comes_on id first left now ended was is call before mid after so_far logged goes = record {
  calls = so_far.calls ++ call ∷ [];
  logged = behind before mid after so_far.calls call so_far.logged logged;
  are = λ rest on. subst (λ (calls : List Call). GoesOn id first ended calls) (sym (append_assoc so_far.calls (call ∷ []) rest)) (so_far.are (call ∷ rest) (goes rest on));
}

-- a read took bytes
pub comes_took : (id first left now : ℕ) (ended : Bool) (got : List ℕ) (before mid after : Moment) → Meanwhile before mid (Comes id first ended left false) → after.calls ≡ mid.calls ++ Read id (Some got) ∷ [] → 0 < length got → now + length got ≡ left → Meanwhile before after (Comes id first ended now false)
comes_took id first left now ended got before mid after so_far logged some size =
    let few : length got ≤ left = omega (arith, size) in
    let same : now ≡ left - length got = omega (arith, size) in
    comes_on id first left now ended false false (Read id (Some got)) before mid after so_far logged
    (λ rest on. took_on id left got rest some few (subst (λ (n : ℕ). GoesOn id n false rest) same on))

-- a read took nothing: the end
pub comes_ended : (id first left : ℕ) (ended : Bool) (before mid after : Moment) → Meanwhile before mid (Comes id first ended left false) → after.calls ≡ mid.calls ++ Read id (Some []) ∷ [] → 0 < left → Meanwhile before after (Comes id first ended left true)
comes_ended id first left ended before mid after so_far logged some =
    comes_on id first left left ended false true (Read id (Some [])) before mid after so_far logged (λ rest over. took_none id left rest some over)

-- one stretch of a reading, and then another
pub comes_both : (id a b c : ℕ) (x y z : Bool) (before mid after : Moment) → Meanwhile before mid (Comes id a x b y) → Meanwhile mid after (Comes id b y c z) → Meanwhile before after (Comes id a x c z)
comes_both id a b c x y z before mid after one two =
    meanwhile_both before mid after (Comes id a x b y) (Comes id b y c z) (Comes id a x c z)
    (λ first second go on rest more. subst (λ (calls : List Call). GoesOn id a x calls) (sym (append_assoc first second rest)) (go (second ++ rest) (on rest more)))
    one two

-- ---- it ends, or is broken off

-- nothing more can be read
pub comes_whole : (id first left : ℕ) (ended is : Bool) (before after : Moment) → Meanwhile before after (Comes id first ended left is) → GoesOn id left is [] → Meanwhile before after (GoesOn id first ended)
comes_whole id first left ended is before after so_far over = record {
  calls = so_far.calls;
  logged = so_far.logged;
  are = subst (λ (calls : List Call). GoesOn id first ended calls) (append-nil so_far.calls) (so_far.are [] over);
}

pub comes_up_to : (id first left : ℕ) (ended is : Bool) (before after : Moment) → Meanwhile before after (Comes id first ended left is) → Meanwhile before after (GoesUpTo id first ended)
comes_up_to id first left ended is before after so_far =
    let end = can_end id left is in
    record { calls = so_far.calls; logged = so_far.logged; are = (end.0, so_far.are end.0 end.1) }

-- a read went well, and then the reading was broken off
pub comes_got : (id first left : ℕ) (ended : Bool) (count : ℕ) (buf : List ℕ) (before mid after : Moment) → Meanwhile before mid (Comes id first ended left false) → after.calls ≡ mid.calls ++ Read id (Some (take count buf)) ∷ [] → count ≤ length buf → length buf ≤ left → 0 < left → Meanwhile before after (GoesUpTo id first ended)
comes_got id first left ended count buf before mid after so_far logged fits room some = by (take count buf) size logged
  where
    size : length (take count buf) ≤ left
    size = (let same : length (take count buf) ≡ count = length-take-le count buf fits in omega (arith, same, fits, room))

    by : (got : List ℕ) → length got ≤ left → after.calls ≡ mid.calls ++ Read id (Some got) ∷ [] → Meanwhile before after (GoesUpTo id first ended)
    by [] few logged = comes_up_to id first left ended true before after (comes_ended id first left ended before mid after so_far logged some)
    by (x ∷ xs) few logged =
        comes_up_to id first (left - length (x ∷ xs)) ended false before after
        (comes_took id first left (left - length (x ∷ xs)) ended (x ∷ xs) before mid after so_far logged (omega arith) (omega (arith, few)))

-- a read failed
pub comes_to_fault : (id first left : ℕ) (ended : Bool) (before mid after : Moment) → Meanwhile before mid (Comes id first ended left false) → after.calls ≡ mid.calls ++ Read id None ∷ [] → 0 < left → Meanwhile before after (GoesToFault id first ended)
comes_to_fault id first left ended before mid after so_far logged some = record {
  calls = so_far.calls ++ Read id None ∷ [];
  logged = behind before mid after so_far.calls (Read id None) so_far.logged logged;
  are = record { front = so_far.calls; is = refl; mends = so_far.are (Read id (Some []) ∷ []) (took_none id left [] some refl) };
}

-- a reading came so far, and then a read of it failed
pub comes_then_fault : (id first left : ℕ) (ended is : Bool) (before mid after : Moment) → Meanwhile before mid (Comes id first ended left is) → Meanwhile mid after (GoesToFault id left is) → Meanwhile before after (GoesToFault id first ended)
comes_then_fault id first left ended is before mid after so_far reads = record {
  calls = so_far.calls ++ reads.calls;
  logged = reads.logged ∙ ap (λ (cs : List Call). cs ++ reads.calls) so_far.logged ∙ append_assoc before.calls so_far.calls reads.calls;
  are = record {
    front = so_far.calls ++ reads.are.front;
    is = ap (λ (cs : List Call). so_far.calls ++ cs) reads.are.is ∙ sym (append_assoc so_far.calls reads.are.front (Read id None ∷ []));
    mends = subst (λ (calls : List Call). GoesOn id first ended calls) (sym (append_assoc so_far.calls reads.are.front (Read id (Some []) ∷ []))) (so_far.are (reads.are.front ++ Read id (Some []) ∷ []) reads.are.mends);
  };
}

-- ---- a name is begun, and then read

pub one_name : (n : Named) (id : ℕ) (calls : List Call) → GoesOn id (n.limit + 1) false calls → ReadsEach (n ∷ []) (Begin n.name (Some id) ∷ calls)
one_name n id calls reads = (Begin n.name (Some id) ∷ calls, [], sym (append-nil (Begin n.name (Some id) ∷ calls)), (refl, reads), refl)

pub name_to_fault : (n : Named) (id : ℕ) (calls : List Call) → GoesToFault id (n.limit + 1) false calls → ReadsToFault (n ∷ []) (Begin n.name (Some id) ∷ calls)
name_to_fault n id calls reads =
    let mended_calls : List Call = Begin n.name (Some id) ∷ (reads.front ++ Read id (Some []) ∷ []) in
    record {
      front = Begin n.name (Some id) ∷ reads.front;
      last = Read id None;
      is = ap (λ (cs : List Call). Begin n.name (Some id) ∷ cs) reads.is;
      failed = tt;
      on = ([], subst (λ (cs : List Call). ReadsEach (n ∷ []) cs) (sym (append-nil mended_calls)) (one_name n id (reads.front ++ Read id (Some []) ∷ []) reads.mends));
    }

pub name_up_to : (n : Named) (id : ℕ) (calls : List Call) → GoesUpTo id (n.limit + 1) false calls → ReadsOn (n ∷ []) (Begin n.name (Some id) ∷ calls)
name_up_to n id calls reads = (reads.0, one_name n id (calls ++ reads.0) reads.1)

-- a name that could not be begun
unbegun_fault : (n : Named) → ReadsToFault (n ∷ []) (Begin n.name None ∷ [])
unbegun_fault n =
    let end = can_end 0 (n.limit + 1) false in
    record { front = []; last = Begin n.name None; is = refl; failed = tt; on = (end.0, one_name n 0 end.0 end.1) }

pub name_unbegun : (n : Named) (before after : Moment) → after.calls ≡ before.calls ++ Begin n.name None ∷ [] → Meanwhile before after (NameReadBy Unbegun n)
name_unbegun n before after logged = record { calls = Begin n.name None ∷ []; logged = logged; are = unbegun_fault n }

-- what was begun, and then read
pub then_read : (n : Named) (id : ℕ) (before mid after : Moment) (Are Whole : List Call → Type 0) → ((calls : List Call) → Are calls → Whole (Begin n.name (Some id) ∷ calls)) → mid.calls ≡ before.calls ++ Begin n.name (Some id) ∷ [] → Meanwhile mid after Are → Meanwhile before after Whole
then_read n id before mid after Are Whole means logged reads = record {
  calls = Begin n.name (Some id) ∷ reads.calls;
  logged = reads.logged ∙ ap (λ (cs : List Call). cs ++ reads.calls) logged ∙ append_assoc before.calls (Begin n.name (Some id) ∷ []) reads.calls;
  are = means reads.calls reads.are;
}

by_stop : (n : Named) (id : ℕ) (stop : StopReason) (calls : List Call) → LeftReadBy stop id (n.limit + 1) calls → NameReadBy stop n (Begin n.name (Some id) ∷ calls)
by_stop n id End calls reads = one_name n id calls reads
by_stop n id Limit calls reads = one_name n id calls reads
by_stop n id Failure calls reads = name_to_fault n id calls reads
by_stop n id Unbegun calls reads = absurd reads

by_result : (n : Named) (id : ℕ) (result : Result Prefix NoMemory) (calls : List Call) → LeftRead result id (n.limit + 1) calls → NameRead result n (Begin n.name (Some id) ∷ calls)
by_result n id (Ok prefix) calls reads = by_stop n id prefix.stop calls reads
by_result n id (Err starved) calls reads = name_up_to n id calls reads

pub name_read : (n : Named) (id : ℕ) (result : Result Prefix NoMemory) (before mid after : Moment) → mid.calls ≡ before.calls ++ Begin n.name (Some id) ∷ [] → Meanwhile mid after (LeftRead result id (n.limit + 1)) → Meanwhile before after (NameRead result n)
name_read n id result before mid after logged reads = then_read n id before mid after (LeftRead result id (n.limit + 1)) (NameRead result n) (by_result n id result) logged reads

-- ---- nothing is begun while a begun name is read

nil_front : (xs ys : List (List ℕ)) → xs ++ ys ≡ [] → xs ≡ []
nil_front [] ys none = refl
nil_front (x ∷ xs) ys none = cc

pub begun_up_to : (id left : ℕ) (calls : List Call) → GoesUpTo id left false calls → begun calls ≡ []
begun_up_to id left calls reads = nil_front (begun calls) (begun reads.0) (sym (begun_append calls reads.0) ∙ begun_out id left (calls ++ reads.0) reads.1)
