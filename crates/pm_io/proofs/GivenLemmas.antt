-- What calls gave under a number, and what more calls behind them give.
use Rattle.std.proofs.Common.{◌≡◌, ◌<◌, ◌≤◌, ℕ, List, [], ◌∷◌, ◌++◌, length, refl, sym, ◌∙◌, ap, arith, subst, Bool, true, false, ◌==◌, ◌||◌, nat_lt, Some, None, append_assoc}
use Rattle.std.specs.Prelude.{if◌then◌else◌}
use Rattle.std.proofs.lemmas.List.{append-nil}
use Rattle.std.proofs.lemmas.Bool.Decides.{Decides-eqb, nat_tests}
use Rattle.pm_io.specs.Calls.{Call, Begin, Read}
use Rattle.pm_io.specs.Given.{Gave, LeftGiven, NameGiven, given, is_ended, stop_by}
use Rattle.pm_io.specs.Inputs.{Moment}
use Rattle.pm_io.specs.Prefix.{Prefix, unbegun}
use Rattle.pm_io.specs.Readings.{Meanwhile}
use Rattle.pm_io.specs.declared.prefix.StopReason.{StopReason}
use Rattle.pm_io.specs.declared.prefix.StopReason.TheVariants.{End, Limit, Failure}
use Rattle.pm_io.proofs.ReadingsLemmas.{meanwhile_both, meanwhile_map, meanwhile_none}

-- ---- calls behind others

pub given_append : (id : ℕ) (one two : List Call) → given id (one ++ two) ≡ given id one ++ given id two
given_append id [] two = refl
given_append id (Begin name answer ∷ one) two = given_append id one two
given_append id (Read other None ∷ one) two = given_append id one two
given_append id (Read other (Some bytes) ∷ one) two =
    let first : List ℕ = if other == id then bytes else [] in
    ap (λ (more : List ℕ). first ++ more) (given_append id one two) ∙ sym (append_assoc first (given id one) (given id two))

or_assoc : (a b c : Bool) → (a || (b || c)) ≡ ((a || b) || c)
or_assoc true b c = refl
or_assoc false b c = refl

pub ended_append : (id : ℕ) (one two : List Call) → is_ended id (one ++ two) ≡ (is_ended id one || is_ended id two)
ended_append id [] two = refl
ended_append id (Begin name answer ∷ one) two = ended_append id one two
ended_append id (Read other None ∷ one) two = ended_append id one two
ended_append id (Read other (Some []) ∷ one) two =
    ap (λ (b : Bool). (other == id) || b) (ended_append id one two) ∙ or_assoc (other == id) (is_ended id one) (is_ended id two)
ended_append id (Read other (Some (byte ∷ bytes)) ∷ one) two = ended_append id one two

pub gave_both : (id : ℕ) (a b : List ℕ) (x y : Bool) (one two : List Call) → Gave id a x one → Gave id b y two → Gave id (a ++ b) (x || y) (one ++ two)
gave_both id a b x y one two first second = record {
  bytes = given_append id one two ∙ ap (λ (more : List ℕ). more ++ given id two) first.bytes ∙ ap (λ (more : List ℕ). a ++ more) second.bytes;
  ended = ended_append id one two ∙ ap (λ (e : Bool). e || is_ended id two) first.ended ∙ ap (λ (e : Bool). x || e) second.ended;
}

-- ---- one read

own : (id : ℕ) → (id == id) ≡ true
own id = (Decides-eqb id id).1 refl

own_bytes : (id : ℕ) (bytes : List ℕ) → given id (Read id (Some bytes) ∷ []) ≡ bytes
own_bytes id bytes = ap (λ (b : Bool). (if b then bytes else []) ++ []) (own id) ∙ append-nil bytes

pub gave_some : (id : ℕ) (bytes : List ℕ) → 0 < length bytes → Gave id bytes false (Read id (Some bytes) ∷ [])
gave_some id [] some = let clash : ⊥ = omega (arith, some) in absurd clash
gave_some id (byte ∷ bytes) some = record { bytes = own_bytes id (byte ∷ bytes); ended = refl }

pub gave_end : (id : ℕ) → Gave id [] true (Read id (Some []) ∷ [])
gave_end id = record { bytes = own_bytes id []; ended = ap (λ (b : Bool). b || false) (own id) }

pub gave_fault : (id : ℕ) → Gave id [] false (Read id None ∷ [])
gave_fault id = record { bytes = refl; ended = refl }

pub gave_none : (id : ℕ) → Gave id [] false []
gave_none id = record { bytes = refl; ended = refl }

-- ---- between two moments

pub meanwhile_gave_none : (id : ℕ) (m : Moment) → Meanwhile m m (Gave id [] false)
meanwhile_gave_none id m = meanwhile_none m (Gave id [] false) (gave_none id)

pub meanwhile_gave : (id : ℕ) (a b : List ℕ) (x y : Bool) (before mid after : Moment) → Meanwhile before mid (Gave id a x) → Meanwhile mid after (Gave id b y) → Meanwhile before after (Gave id (a ++ b) (x || y))
meanwhile_gave id a b x y before mid after one two =
    meanwhile_both before mid after (Gave id a x) (Gave id b y) (Gave id (a ++ b) (x || y)) (gave_both id a b x y) one two

pub one_call : (call : Call) (before after : Moment) (Are : List Call → Type 0) → after.calls ≡ before.calls ++ call ∷ [] → Are (call ∷ []) → Meanwhile before after Are
one_call call before after Are logged are = record { calls = call ∷ []; logged = logged; are = are }

-- a read gave bytes behind those that were given
pub gave_more : (id : ℕ) (so_far got : List ℕ) (before mid after : Moment) → Meanwhile before mid (Gave id so_far false) → after.calls ≡ mid.calls ++ Read id (Some got) ∷ [] → 0 < length got → Meanwhile before after (Gave id (so_far ++ got) false)
gave_more id so_far got before mid after reads logged some =
    meanwhile_gave id so_far got false false before mid after reads (one_call (Read id (Some got)) mid after (Gave id got false) logged (gave_some id got some))

-- the end was told behind them, or a read failed
behind_nothing : (id : ℕ) (so_far : List ℕ) (told : Bool) (before after : Moment) → Meanwhile before after (Gave id (so_far ++ []) told) → Meanwhile before after (Gave id so_far told)
behind_nothing id so_far told before after reads =
    subst (λ (bytes : List ℕ). Meanwhile before after (Gave id bytes told)) (append-nil so_far) reads

pub gave_all : (id : ℕ) (so_far : List ℕ) (before mid after : Moment) → Meanwhile before mid (Gave id so_far false) → after.calls ≡ mid.calls ++ Read id (Some []) ∷ [] → Meanwhile before after (Gave id so_far true)
gave_all id so_far before mid after reads logged =
    behind_nothing id so_far true before after
    (meanwhile_gave id so_far [] false true before mid after reads (one_call (Read id (Some [])) mid after (Gave id [] true) logged (gave_end id)))

pub gave_up : (id : ℕ) (so_far : List ℕ) (before mid after : Moment) → Meanwhile before mid (Gave id so_far false) → after.calls ≡ mid.calls ++ Read id None ∷ [] → Meanwhile before after (Gave id so_far false)
gave_up id so_far before mid after reads logged =
    behind_nothing id so_far false before after
    (meanwhile_gave id so_far [] false false before mid after reads (one_call (Read id None) mid after (Gave id [] false) logged (gave_fault id)))

-- ---- what was read is what was given

left_given : (limit id : ℕ) (bytes : List ℕ) (told : Bool) (stop : StopReason) (calls : List Call) → Gave id bytes told calls → stop ≡ stop_by told limit bytes → LeftGiven limit id (record { bytes = bytes; stop = stop }) calls
left_given limit id bytes told stop calls gave is =
    let P : List ℕ → Bool → Prefix = λ got ended. record { bytes = got; stop = stop_by ended limit got } in
    ap (λ (s : StopReason). record { bytes = bytes; stop = s }) is
    ∙ sym (ap (λ (got : List ℕ). P got told) gave.bytes) ∙ sym (ap (λ (ended : Bool). P (given id calls) ended) gave.ended)

pub ends_given : (limit id : ℕ) (bytes : List ℕ) (before after : Moment) → length bytes ≤ limit → Meanwhile before after (Gave id bytes true) → Meanwhile before after (LeftGiven limit id (record { bytes = bytes; stop = End }))
ends_given limit id bytes before after within reads =
    meanwhile_map before after (Gave id bytes true) (LeftGiven limit id (record { bytes = bytes; stop = End }))
    (λ calls gave. left_given limit id bytes true End calls gave is) reads
  where
    is : End ≡ stop_by true limit bytes
    is = grind (arith, nat_tests)

pub over_given : (limit id : ℕ) (bytes : List ℕ) (before after : Moment) → limit < length bytes → Meanwhile before after (Gave id bytes false) → Meanwhile before after (LeftGiven limit id (record { bytes = bytes; stop = Limit }))
over_given limit id bytes before after past reads =
    meanwhile_map before after (Gave id bytes false) (LeftGiven limit id (record { bytes = bytes; stop = Limit }))
    (λ calls gave. left_given limit id bytes false Limit calls gave is) reads
  where
    is : Limit ≡ stop_by false limit bytes
    is = grind (arith, nat_tests)

pub fault_given : (limit id : ℕ) (bytes : List ℕ) (before after : Moment) → length bytes ≤ limit → Meanwhile before after (Gave id bytes false) → Meanwhile before after (LeftGiven limit id (record { bytes = bytes; stop = Failure }))
fault_given limit id bytes before after within reads =
    meanwhile_map before after (Gave id bytes false) (LeftGiven limit id (record { bytes = bytes; stop = Failure }))
    (λ calls gave. left_given limit id bytes false Failure calls gave is) reads
  where
    is : Failure ≡ stop_by false limit bytes
    is = grind (arith, nat_tests)

-- ---- the calls between two moments are one list

same_behind : (front one two : List Call) → front ++ one ≡ front ++ two → one ≡ two
same_behind [] one two same = same
same_behind (call ∷ front) one two same = same_behind front one two (tail same)
  where
    tail : call ∷ (front ++ one) ≡ call ∷ (front ++ two) → front ++ one ≡ front ++ two
    tail same = cc

pub meanwhile_same : (before after : Moment) (P Q : List Call → Type 0) → Meanwhile before after P → Meanwhile before after Q → Meanwhile before after (λ calls. P calls × Q calls)
meanwhile_same before after P Q one two = record {
  calls = one.calls;
  logged = one.logged;
  are = (one.are, subst Q (sym (same_behind before.calls one.calls two.calls (sym one.logged ∙ two.logged))) two.are);
}

-- ---- a name is begun, and then read

pub name_given : (limit id : ℕ) (name : List ℕ) (prefix : Prefix) (before mid after : Moment) → mid.calls ≡ before.calls ++ Begin name (Some id) ∷ [] → Meanwhile mid after (LeftGiven limit id prefix) → Meanwhile before after (NameGiven limit prefix)
name_given limit id name prefix before mid after logged reads = record {
  calls = Begin name (Some id) ∷ reads.calls;
  logged = reads.logged ∙ ap (λ (cs : List Call). cs ++ reads.calls) logged ∙ append_assoc before.calls (Begin name (Some id) ∷ []) reads.calls;
  are = reads.are;
}

pub none_given : (limit : ℕ) (name : List ℕ) (before after : Moment) → after.calls ≡ before.calls ++ Begin name None ∷ [] → Meanwhile before after (NameGiven limit unbegun)
none_given limit name before after logged = record { calls = Begin name None ∷ []; logged = logged; are = refl }
