-- The changes of what the masters are told keep what is pending sound: the node of each request names the master that is asked.
use Rattle.std.proofs.Common.{◌≡◌, ◌≢◌, ℕ, ◌<◌, List, [], ◌∷◌, length, Option, Some, None, refl, sym, ◌∙◌, ap, subst, arith, inl, inr, zero, suc}
use Rattle.std.specs.Prelude.{⊤, option_map, slice_get, unwrap_or}
use Rattle.std.specs.List.{AllByRecursion as Each}
use Rattle.std.proofs.lemmas.Bool.{cases_eq}
use Rattle.pm_procs.specs.declared.pending.Pending.{Pending}
use Rattle.pm_procs.specs.Pending.{all_ended, all_lowered, asked, ended, lowered, none_pending, pending_at}
use Rattle.pm_state.specs.Sound.{AreNamed}
use Rattle.pm_state.specs.State.{Fixed, TalkHalf}
use Rattle.pm_state.specs.Talk.{Talk, Ask, Lower, End, Forget, Notify, Take, Wait, Renew, Unwatch, apply_talk, talks}
use Rattle.pm_state.specs.Nodes.{named_master}

-- the laws of what is pending on the masters
pub record RequestLaws : Type 0 where
  pub asks : (m : ℕ) (request : Pending) (pending : List (Option Pending)) → m < length pending → pending_at m (asked m request pending) ≡ Some request
  pub asks_one : (m n : ℕ) (request : Pending) (pending : List (Option Pending)) → n ≢ m → pending_at n (asked m request pending) ≡ pending_at n pending
  pub ends : (m : ℕ) (pending : List (Option Pending)) → pending_at m (ended m pending) ≡ None
  pub ends_one : (m n : ℕ) (pending : List (Option Pending)) → n ≢ m → pending_at n (ended m pending) ≡ pending_at n pending
  pub passes : (m count : ℕ) (pending : List (Option Pending)) → pending_at m (all_lowered count pending) ≡ option_map (lowered count) (pending_at m pending)
  pub load : (m masters : ℕ) → pending_at m (none_pending masters) ≡ None
  pub renew : (pending : List (Option Pending)) → all_ended pending ≡ none_pending (length pending)
  pub length_asked : (m : ℕ) (request : Pending) (pending : List (Option Pending)) → length (asked m request pending) ≡ length pending
  pub length_ended : (m : ℕ) (pending : List (Option Pending)) → length (ended m pending) ≡ length pending
  pub length_lowered : (count : ℕ) (pending : List (Option Pending)) → length (all_lowered count pending) ≡ length pending
  pub length_load : (masters : ℕ) → length (none_pending masters) ≡ masters

nothing : {X Y : Type 0} (x : X) (o : Option X) → o ≡ None → o ≡ Some x → Y
nothing x None none some = cc
nothing x (Some y) none some = cc

-- nothing is pending at load
pub none_named : RequestLaws → (fixed : Fixed) → AreNamed fixed (none_pending (length fixed.object.masters))
none_named laws fixed =
    let count : ℕ = length fixed.object.masters in
    record {
      each = laws.length_load count;
      named = λ m request is. nothing request (pending_at m (none_pending count)) (laws.load m count) is;
    }

-- ---- what is told

-- a change of what is told asks only a master that the node of the request names, and that is there
abbrev pub NamesTarget : Fixed → Talk → Type 0
NamesTarget fixed (Ask m request) = named_master fixed request.node ≡ Some m
NamesTarget fixed (Lower count) = ⊤
NamesTarget fixed (End m) = ⊤
NamesTarget fixed (Forget m) = ⊤
NamesTarget fixed (Notify m node event on) = ⊤
NamesTarget fixed (Take m node note) = ⊤
NamesTarget fixed (Wait m node note) = ⊤
NamesTarget fixed Renew = ⊤
NamesTarget fixed Unwatch = ⊤

pub one_request : {X : Type 0} (x y : X) → Some x ≡ Some y → x ≡ y
one_request x y is = cc

past_end : {X : Type 0} (m : ℕ) (xs : List (Option X)) (x : X) → unwrap_or (slice_get xs m) None ≡ Some x → m < length xs
past_end m [] x is = cc
past_end zero (y ∷ ys) x is = omega arith
past_end (suc m) (y ∷ ys) x is = let rest : m < length ys = past_end m ys x is in omega (arith, rest)

ask_keeps : RequestLaws → (fixed : Fixed) (m : ℕ) (request : Pending) (pending : List (Option Pending)) → named_master fixed request.node ≡ Some m → AreNamed fixed pending → AreNamed fixed (asked m request pending)
ask_keeps laws fixed m request pending names named = record {
  each = laws.length_asked m request pending ∙ named.each;
  named = λ k other is. elim (cases_eq k m) [
    | inl own ↦
        let here : pending_at m (asked m request pending) ≡ Some other = ap (λ j. pending_at j (asked m request pending)) (sym own) ∙ is in
        let there : m < length (asked m request pending) = past_end m (asked m request pending) other here in
        let same : request ≡ other = one_request request other (sym (laws.asks m request pending (omega (arith, there, laws.length_asked m request pending))) ∙ here) in
        ap (λ (r : Pending). named_master fixed r.node) (sym same) ∙ (names ∙ ap Some (sym own))
    | inr apart ↦ named.named k other (sym (laws.asks_one m k request pending apart) ∙ is)
  ];
}

lowered_node : (fixed : Fixed) (count k : ℕ) (pending : Option Pending) (other : Pending) → ((r : Pending) → pending ≡ Some r → named_master fixed r.node ≡ Some k) → option_map (lowered count) pending ≡ Some other → named_master fixed other.node ≡ Some k
lowered_node fixed count k None other named is = cc
lowered_node fixed count k (Some r) other named is =
    ap (λ (p : Pending). named_master fixed p.node) (sym (one_request (lowered count r) other is)) ∙ named r refl

lower_keeps : RequestLaws → (fixed : Fixed) (count : ℕ) (pending : List (Option Pending)) → AreNamed fixed pending → AreNamed fixed (all_lowered count pending)
lower_keeps laws fixed count pending named = record {
  each = laws.length_lowered count pending ∙ named.each;
  named = λ k other is. lowered_node fixed count k (pending_at k pending) other (named.named k) (sym (laws.passes k count pending) ∙ is);
}

end_keeps : RequestLaws → (fixed : Fixed) (m : ℕ) (pending : List (Option Pending)) → AreNamed fixed pending → AreNamed fixed (ended m pending)
end_keeps laws fixed m pending named = record {
  each = laws.length_ended m pending ∙ named.each;
  named = λ k other is. elim (cases_eq k m) [
    | inl own ↦ nothing other (pending_at m (ended m pending)) (laws.ends m pending) (ap (λ j. pending_at j (ended m pending)) (sym own) ∙ is)
    | inr apart ↦ named.named k other (sym (laws.ends_one m k pending apart) ∙ is)
  ];
}

renew_keeps : RequestLaws → (fixed : Fixed) (pending : List (Option Pending)) → AreNamed fixed pending → AreNamed fixed (all_ended pending)
renew_keeps laws fixed pending named =
    subst (λ p. AreNamed fixed p) (sym (laws.renew pending ∙ ap none_pending named.each)) (none_named laws fixed)

-- what is told in a step keeps what is pending sound
pub talk_keeps : RequestLaws → (fixed : Fixed) (changes : List Talk) (half : TalkHalf) → Each (NamesTarget fixed) changes → AreNamed fixed half.pending → AreNamed fixed (talks changes half).pending
talk_keeps laws fixed [] half names named = named
talk_keeps laws fixed (Ask m request ∷ changes) half names named =
    talk_keeps laws fixed changes (record half { pending = asked m request half.pending }) names.1 (ask_keeps laws fixed m request half.pending names.0 named)
talk_keeps laws fixed (Lower count ∷ changes) half names named =
    talk_keeps laws fixed changes (record half { pending = all_lowered count half.pending }) names.1 (lower_keeps laws fixed count half.pending named)
talk_keeps laws fixed (End m ∷ changes) half names named =
    talk_keeps laws fixed changes (record half { pending = ended m half.pending }) names.1 (end_keeps laws fixed m half.pending named)
talk_keeps laws fixed (Forget m ∷ changes) half names named =
    talk_keeps laws fixed changes (apply_talk (Forget m) half) names.1 named
talk_keeps laws fixed (Notify m node event on ∷ changes) half names named =
    talk_keeps laws fixed changes (apply_talk (Notify m node event on) half) names.1 named
talk_keeps laws fixed (Take m node note ∷ changes) half names named =
    talk_keeps laws fixed changes (apply_talk (Take m node note) half) names.1 named
talk_keeps laws fixed (Wait m node note ∷ changes) half names named =
    talk_keeps laws fixed changes (apply_talk (Wait m node note) half) names.1 named
talk_keeps laws fixed (Renew ∷ changes) half names named =
    talk_keeps laws fixed changes (apply_talk Renew half) names.1 (renew_keeps laws fixed half.pending named)
talk_keeps laws fixed (Unwatch ∷ changes) half names named =
    talk_keeps laws fixed changes (apply_talk Unwatch half) names.1 named
