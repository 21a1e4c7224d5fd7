-- Turns one after another, and how many commands they have.
use Rattle.std.proofs.Common.{◌≡◌, ℕ, ◌+◌, ◌<◌, ◌≤◌, Bool, Option, Some, None, List, [], ◌∷◌, ◌++◌, length, take, slice_get, refl, sym, ap, subst, ◌∙◌, append_assoc, arith, length-append, zero, suc}
use Rattle.std.specs.Prelude.{IfSome, flat_map}
use Rattle.std.proofs.lemmas.Grind.{flat_map-append}
use Rattle.std.proofs.lemmas.List.{map-append, take_more, take_all}
use Rattle.std.proofs.lemmas.List.Sums.{sum_by-append, sum_by-cons}
use Rattle.std.proofs.lemmas.Option.{slice_get_within, get_or_from_slice_get}
use Rattle.pm_base.specs.declared.names.Unit.{Unit}
use Rattle.pm_base.specs.declared.names.Command.{Command}
use Rattle.pm_topology.specs.declared.topology.Topology.{Topology}
use Rattle.pm_device.specs.Act.{Act, Chain, Order}
use Rattle.pm_device.specs.Chains.{Chain-append}
use Rattle.pm_core.specs.declared.outbox.Done.{Done}
use Rattle.pm_core.specs.declared.outbox.Outbox.{Outbox}
use Rattle.pm_record.specs.Record.{Kept, after_answer}
use Rattle.pm_apply.specs.declared.turns.Turn.{Turn}
use Rattle.pm_apply.specs.Plan.{plan, due, take_turn, done_as, answers_of, Carried}
use Rattle.pm_apply.specs.Carried.{Takes, KeepsRest}
use Rattle.pm_apply.specs.Part.{order_of, orders_of}
use Rattle.pm_apply.specs.Room.{most, most_of}
use Rattle.pm_apply.proofs.CountLemmas.{due_most, plan-length}
use Rattle.pm_apply.proofs.PlanLemmas.{plan-append}

-- ---- the rest of an outbox

pub KeepsRest-trans : (before middle after : Outbox) → KeepsRest before middle → KeepsRest middle after → KeepsRest before after
KeepsRest-trans before middle after one two = record {
  room = two.room ∙ one.room;
  moved = two.moved ∙ one.moved;
  pulse = two.pulse ∙ one.pulse;
  starts = two.starts ∙ one.starts;
  late = two.late ∙ one.late;
  callbacks = two.callbacks ∙ one.callbacks;
  answer = two.answer ∙ one.answer;
}

-- ---- turns one after another

append-nil : {X : Type 0} (xs : List X) → xs ≡ xs ++ []
append-nil [] = refl
append-nil (x ∷ xs) = ap (λ ys. x ∷ ys) (append-nil xs)

module _ {D : Type 0} (Does : Act → D → D → Type 0) (t : Topology) (values : Unit → ℕ) where
  pub Takes-refl : (kept : Kept) (done : List Done) (now : D) → Takes Does t values [] kept kept done done now now
  Takes-refl kept done now = record {
    done = [];
    put = append-nil done;
    planned = refl;
    given = refl;
  }

  pub Takes-trans : (turns others : List Turn) (kept₀ kept₁ kept₂ : Kept) (done₀ done₁ done₂ : List Done) (m₀ m₁ m₂ : D)
      → Takes Does t values turns kept₀ kept₁ done₀ done₁ m₀ m₁
      → Takes Does t values others kept₁ kept₂ done₁ done₂ m₁ m₂
      → Takes Does t values (turns ++ others) kept₀ kept₂ done₀ done₂ m₀ m₂
  Takes-trans turns others kept₀ kept₁ kept₂ done₀ done₁ done₂ m₀ m₁ m₂ one two = record {
    done = one.done ++ two.done;
    put = two.put ∙ ap (λ done. done ++ two.done) one.put ∙ append_assoc done₀ one.done two.done;
    planned = plan-append t values turns others kept₀ kept₁ kept₂ one.done two.done one.planned two.planned;
    given =
        let P : List Act → Type 0 = λ acts. Chain Does acts m₀ m₂ in
        subst P (sym (map-append order_of one.done two.done)) (Chain-append Does (orders_of one.done) (orders_of two.done) m₀ m₁ m₂ one.given two.given);
  }

  -- a turn without a command
  pub Takes-none : (turn : Turn) (kept : Kept) (done : List Done) (now : D)
      → due t values kept turn ≡ None
      → Takes Does t values (turn ∷ []) kept kept done done now now
  Takes-none turn kept done now none = record {
    done = [];
    put = append-nil done;
    planned = ap (λ command. take_turn command kept [] (plan t values [])) none;
    given = refl;
  }

  -- a turn with one
  pub Takes-some : (turn : Turn) (c : Command) (ok : Bool) (kept kept₁ : Kept) (done done₁ : List Done) (m₀ m₁ : D)
      → due t values kept turn ≡ Some c
      → kept₁ ≡ after_answer c ok kept
      → done₁ ≡ done ++ done_as c kept ok ∷ []
      → Does (Order c ok) m₀ m₁
      → Takes Does t values (turn ∷ []) kept kept₁ done done₁ m₀ m₁
  Takes-some turn c ok kept kept₁ done done₁ m₀ m₁ is told put does = record {
    done = done_as c kept ok ∷ [];
    put = put;
    planned =
        ap (λ command. take_turn command kept (ok ∷ []) (plan t values [])) is
        ∙ ap (λ left. record { done = done_as c kept ok ∷ []; kept = left }) (sym told);
    given = (m₁, does, refl);
  }

  -- ---- how many commands there are

  pub Takes-length : (turns : List Turn) (kept kept₁ : Kept) (done done₁ : List Done) (m₀ m₁ : D)
      → Takes Does t values turns kept kept₁ done done₁ m₀ m₁
      → length done₁ ≤ length done + most_of t values turns
  Takes-length turns kept kept₁ done done₁ m₀ m₁ takes =
      let few : length (plan t values turns kept (answers_of takes.done)).done ≤ most_of t values turns = plan-length t values turns kept (answers_of takes.done) in
      let same : length (plan t values turns kept (answers_of takes.done)).done ≡ length takes.done = ap (λ (c : Carried). length c.done) takes.planned in
      let all : length done₁ ≡ length (done ++ takes.done) = ap length takes.put in
      omega (arith, length-append done takes.done)

  room_for : (command : Option Command) (n count room : ℕ) → ((c : Command) → command ≡ Some c → n ≡ 1) → count + n ≤ room → IfSome command (λ _. count < room)
  room_for None n count room one fits = tt
  room_for (Some c) n count room one fits = let is : n ≡ 1 = one c refl in omega arith

  -- turns that were taken leave room for one more, where that has room behind their most
  pub Takes-room : (turns : List Turn) (turn : Turn) (kept kept₁ : Kept) (done done₁ : List Done) (m₀ m₁ : D) (room : ℕ)
      → length done + most_of t values (turns ++ turn ∷ []) ≤ room
      → Takes Does t values turns kept kept₁ done done₁ m₀ m₁
      → IfSome (due t values kept₁ turn) (λ _. length done₁ < room)
  Takes-room turns turn kept kept₁ done done₁ m₀ m₁ room fits takes =
      let so_far : length done₁ ≤ length done + most_of t values turns = Takes-length turns kept kept₁ done done₁ m₀ m₁ takes in
      let parts = sum_by-append (most t values) turns (turn ∷ []) in
      let one = sum_by-cons (most t values) turn [] in
      room_for (due t values kept₁ turn) (most t values turn) (length done₁) room (due_most t values turn kept₁) (omega (arith, so_far, parts, one, fits))

  -- the turns that are made of one of these have their room beside those of the ones before it
  part_fits : (f : Turn → List Turn) (turns : List Turn) (i : ℕ) (turn : Turn) → slice_get turns i ≡ Some turn
      → most_of t values (flat_map f (take i turns)) + most_of t values (f turn) ≤ most_of t values (flat_map f turns)
  part_fits f [] i turn here = cc
  part_fits f (x ∷ turns) zero turn here =
      let same : x ≡ turn = cc in
      let first : most_of t values (f x) ≡ most_of t values (f turn) = ap (λ x. most_of t values (f x)) same in
      let all = sum_by-append (most t values) (f x) (flat_map f turns) in
      omega (arith, first, all)
  part_fits f (x ∷ turns) (suc i) turn here =
      let later = part_fits f turns i turn here in
      let all = sum_by-append (most t values) (f x) (flat_map f turns) in
      let front = sum_by-append (most t values) (f x) (flat_map f (take i turns)) in
      omega (arith, later, all, front)

  pub Takes-fits : (f : Turn → List Turn) (turns : List Turn) (i : ℕ) (turn : Turn) (kept kept₁ : Kept) (done done₁ : List Done) (m₀ m₁ : D) (room : ℕ)
      → slice_get turns i ≡ Some turn
      → length done + most_of t values (flat_map f turns) ≤ room
      → Takes Does t values (flat_map f (take i turns)) kept kept₁ done done₁ m₀ m₁
      → length done₁ + most_of t values (f turn) ≤ room
  Takes-fits f turns i turn kept kept₁ done done₁ m₀ m₁ room here fits takes =
      let so_far : length done₁ ≤ length done + most_of t values (flat_map f (take i turns)) = Takes-length (flat_map f (take i turns)) kept kept₁ done done₁ m₀ m₁ takes in
      let part = part_fits f turns i turn here in
      omega (arith, so_far, part, fits)

  -- the turns that are made of one behind those that are made of the ones before it
  pub Takes-next : (f : Turn → List Turn) (turns : List Turn) (i : ℕ) (turn : Turn) (kept₀ kept₁ kept₂ : Kept) (done₀ done₁ done₂ : List Done) (m₀ m₁ m₂ : D)
      → slice_get turns i ≡ Some turn
      → Takes Does t values (flat_map f (take i turns)) kept₀ kept₁ done₀ done₁ m₀ m₁
      → Takes Does t values (f turn) kept₁ kept₂ done₁ done₂ m₁ m₂
      → Takes Does t values (flat_map f (take (i + 1) turns)) kept₀ kept₂ done₀ done₂ m₀ m₂
  Takes-next f turns i turn kept₀ kept₁ kept₂ done₀ done₁ done₂ m₀ m₁ m₂ here one two =
      let more : take (i + 1) turns ≡ take i turns ++ turn ∷ [] =
      take_more turns i turn (slice_get_within turns i turn here)
      ∙ ap (λ turn. take i turns ++ turn ∷ []) (get_or_from_slice_get turns i turn turn here)
      in
      let made : flat_map f (take (i + 1) turns) ≡ flat_map f (take i turns) ++ f turn =
      ap (flat_map f) more
      ∙ (flat_map-append f (take i turns) (turn ∷ [])
      ∙ ap (λ ys. flat_map f (take i turns) ++ ys) (sym (append-nil (f turn))))
      in
      let P : List Turn → Type 0 = λ turns. Takes Does t values turns kept₀ kept₂ done₀ done₂ m₀ m₂ in
      subst P (sym made) (Takes-trans (flat_map f (take i turns)) (f turn) kept₀ kept₁ kept₂ done₀ done₁ done₂ m₀ m₁ m₂ one two)

  -- all of them at the end
  pub Takes-all : (f : Turn → List Turn) (turns : List Turn) (i : ℕ) (kept kept₁ : Kept) (done done₁ : List Done) (m₀ m₁ : D)
      → length turns ≤ i
      → Takes Does t values (flat_map f (take i turns)) kept kept₁ done done₁ m₀ m₁
      → Takes Does t values (flat_map f turns) kept kept₁ done done₁ m₀ m₁
  Takes-all f turns i kept kept₁ done done₁ m₀ m₁ end takes =
      let P : List Turn → Type 0 = λ turns. Takes Does t values (flat_map f turns) kept kept₁ done done₁ m₀ m₁ in
      subst P (take_all i turns end) takes
