-- The search finds the least path to the end of each path.
use Rattle.std.proofs.Common.{◌≡◌, ◌≢◌, ℕ, ◌+◌, ◌<◌, ◌≤◌, ◌⊎◌, ◌==◌, inl, inr, Bool, true, false, cond, zero, suc, IsTrue, Option, Some, None, List, [], ◌∷◌, ◌++◌, length, slice_get, get_or, refl, ap, sym, ◌∙◌, arith, subst}
use Rattle.std.specs.List.{list_any}
use Rattle.std.specs.Option.{option_map}
use Rattle.std.proofs.lemmas.Bool.{eqb-true}
use Rattle.std.proofs.lemmas.List.{length-append}
use Rattle.std.proofs.lemmas.Option.{slice_get-get_or, slice_get_within}
use Rattle.pm_base.proofs.Booleans.{equal}
use Rattle.pm_base.proofs.ListLemmas.{slice_get-append_left}
use Rattle.pm_base.proofs.Tests.{present_at, absent_at}
use Rattle.pm_object.specs.declared.object.Object.{Object}
use Rattle.pm_topology.specs.declared.topology.Topology.{Topology}
use Rattle.pm_perms.specs.Several.{masters_of}
use Rattle.pm_reach.specs.declared.members.Why.{Why}
use Rattle.pm_reach.specs.declared.members.Why.TheVariants.{Myself}
use Rattle.pm_reach.specs.declared.routes.Route.{Route}
use Rattle.pm_reach.specs.Leads.{lead}
use Rattle.pm_reach.specs.Paths.{IsPath, AreLeast, comes_before, start, step}
use Rattle.pm_reach.specs.Search.{IsCovered, IsSearch, longer_if_new, unfound}
use Rattle.pm_reach.proofs.Found.{pushed, pushed_last, the_same, below_or_at, unfound-more, unfound-none}
use Rattle.pm_reach.proofs.PathOrder.{before-through, before-step, before-last}

-- ---- covered paths

module _ (routes : List Route) (path : List ℕ) (end : ℕ) (c : IsCovered routes path end) where
  covered-more : (r : Route) → IsCovered (routes ++ r ∷ []) path end
  covered-more r = record {
    at = c.at;
    route = c.route;
    is = slice_get-append_left routes (r ∷ []) c.at c.route c.is;
    ends = c.ends;
    first = c.first;
  }

  covered-later : (later : List ℕ) → (path ≡ later) ⊎ IsTrue (comes_before path later) → IsCovered routes later end
  covered-later later so = record {
    at = c.at;
    route = c.route;
    is = c.is;
    ends = c.ends;
    first = first c.first so;
  }
    where
      first : (path ≡ c.route.path) ⊎ IsTrue (comes_before c.route.path path)
          → (path ≡ later) ⊎ IsTrue (comes_before path later)
          → (later ≡ c.route.path) ⊎ IsTrue (comes_before c.route.path later)
      first (inl same) (inl e) = inl (sym e ∙ same)
      first (inl same) (inr less) = inr (let P : List ℕ → Type 0 = λ p. IsTrue (comes_before p later) in subst P same less)
      first (inr less) (inl e) = inr (let P : List ℕ → Type 0 = λ p. IsTrue (comes_before c.route.path p) in subst P e less)
      first (inr less) (inr more) = inr (before-through c.route.path path later less more)

-- ---- the search goes on

module _ (objects : List Object) (t : Topology) (from : ℕ) where
  -- the place was tried and no path was found: what it would give is covered
  pub passes_on : (routes : List Route) (next place : ℕ)
      → ((p : Route) (why : Why)
      → slice_get routes next ≡ Some p
      → lead objects t p.end place ≡ Some why
      → IsCovered routes (p.path ++ place ∷ []) place)
      → IsSearch objects t from routes next place
      → IsSearch objects t from routes next (place + 1)
  passes_on routes next place here s = record {
    paths = s.paths;
    start = s.start;
    once = s.once;
    rising = s.rising;
    ahead = λ p is k r at.
        before-through r.path (p.path ++ place ∷ []) (p.path ++ (place + 1) ∷ []) (s.ahead p is k r at) (before-last p.path place (place + 1) (omega arith));
    tried = tried;
    room = s.room;
  }
    where
      tried : (j : ℕ) (p : Route) (end : ℕ) (why : Why)
          → slice_get routes j ≡ Some p
          → lead objects t p.end end ≡ Some why
          → end < length (masters_of objects)
          → (j < next) ⊎ ((j ≡ next) × (end < place + 1))
          → IsCovered routes (p.path ++ end ∷ []) end
      tried j p end why is leads within (inl earlier) = s.tried j p end why is leads within (inl earlier)
      tried j p end why is leads within (inr now) =
          elim (below_or_at end place now.1) [
            | inl below ↦ s.tried j p end why is leads within (inr (now.0, below))
            | inr at ↦ (
                let there : slice_get routes next ≡ Some p = ap (λ n. slice_get routes n) (sym now.0) ∙ is in
                let P : ℕ → Type 0 = λ n. lead objects t p.end n ≡ Some why in
                let Q : ℕ → Type 0 = λ n. IsCovered routes (p.path ++ n ∷ []) n in
                subst Q (sym at) (here p why there (subst P at leads)))
          ]

  -- a path found before ends there
  pub already_found : (routes : List Route) (next place : ℕ)
      → list_any (λ (r : Route). r.end == place) routes ≡ true
      → IsSearch objects t from routes next place
      → IsSearch objects t from routes next (place + 1)
  already_found routes next place found s =
      let it = present_at (λ (r : Route). r.end == place) routes found in
      passes_on routes next place
      (λ p why is leads. record {
        at = it.0;
        route = it.1;
        is = it.2;
        ends = eqb-true it.1.end place it.3;
        first = inr (s.ahead p is it.0 it.1 it.2);
      })
      s

  -- the path doesn't lead there
  pub leads_nowhere : (routes : List Route) (next place : ℕ) (p : Route)
      → slice_get routes next ≡ Some p
      → lead objects t p.end place ≡ None
      → IsSearch objects t from routes next place
      → IsSearch objects t from routes next (place + 1)
  leads_nowhere routes next place p is none s =
      passes_on routes next place
      (λ q why there leads.
      let same = the_same routes next next p q is there refl in
      let P : Route → Type 0 = λ r. lead objects t r.end place ≡ None in
      let nothing = subst P same none in
      absurd cc)
      s

  -- a new path is found
  pub finds : (routes : List Route) (next place : ℕ) (p r : Route)
      → slice_get routes next ≡ Some p
      → list_any (λ (x : Route). x.end == place) routes ≡ false
      → place < length (masters_of objects)
      → lead objects t p.end place ≡ Some r.why
      → r.end ≡ place
      → r.path ≡ p.path ++ place ∷ []
      → IsSearch objects t from routes next place
      → IsSearch objects t from (routes ++ r ∷ []) next (place + 1)
  finds routes next place p r is new within leads ends path s = record {
    paths = λ k x at. paths k x (pushed routes r k x at);
    start = covered-more routes (from ∷ []) from s.start r;
    once = λ j k x y at there same. once j k x y (pushed routes r j x at) (pushed routes r k y there) same;
    rising = λ j k x y at there less. rising j k x y (pushed routes r j x at) (pushed routes r k y there) less;
    ahead = λ q there k x at. ahead q k x there (pushed routes r k x at);
    tried = λ j q end why at leads within when. tried j q end why (pushed routes r j q at) leads within when;
    room = room;
  }
    where
      inside : next < length routes
      inside = slice_get_within routes next p is

      paths : (k : ℕ) (x : Route) → (slice_get routes k ≡ Some x) ⊎ ((k ≡ length routes) × (x ≡ r)) → IsPath objects t from x.path x.end x.why
      paths k x (inl old) = s.paths k x old
      paths k x (inr now) =
          let P : Route → Type 0 = λ y. IsPath objects t from y.path y.end y.why in
          let Q : List ℕ → Type 0 = λ l. IsPath objects t from l r.end r.why in
          let R : ℕ → Type 0 = λ n. IsPath objects t from (p.path ++ place ∷ []) n r.why in
          let made : IsPath objects t from (p.path ++ place ∷ []) place r.why =
          step p.path p.end place p.why r.why (s.paths next p is) within leads in
          subst P (sym now.1) (subst Q (sym path) (subst R (sym ends) made))

      differ : (k : ℕ) (x : Route) → slice_get routes k ≡ Some x → x.end ≢ r.end
      differ k x old same =
          let off = absent_at (λ (y : Route). y.end == place) routes new k x old in
          let on = equal x.end place (same ∙ ends) in
          cc

      once : (j k : ℕ) (x y : Route)
          → (slice_get routes j ≡ Some x) ⊎ ((j ≡ length routes) × (x ≡ r))
          → (slice_get routes k ≡ Some y) ⊎ ((k ≡ length routes) × (y ≡ r))
          → x.end ≡ y.end
          → j ≡ k
      once j k x y (inl old) (inl too) same = s.once j k x y old too same
      once j k x y (inl old) (inr now) same = absurd (differ j x old (same ∙ ap (λ (z : Route). z.end) now.1))
      once j k x y (inr now) (inl old) same = absurd (differ k y old (sym same ∙ ap (λ (z : Route). z.end) now.1))
      once j k x y (inr now) (inr too) same = now.0 ∙ sym too.0

      before_new : (k : ℕ) (x : Route) → slice_get routes k ≡ Some x → IsTrue (comes_before x.path r.path)
      before_new k x old =
          let P : List ℕ → Type 0 = λ l. IsTrue (comes_before x.path l) in
          subst P (sym path) (s.ahead p is k x old)

      rising : (j k : ℕ) (x y : Route)
          → (slice_get routes j ≡ Some x) ⊎ ((j ≡ length routes) × (x ≡ r))
          → (slice_get routes k ≡ Some y) ⊎ ((k ≡ length routes) × (y ≡ r))
          → j < k
          → IsTrue (comes_before x.path y.path)
      rising j k x y (inl old) (inl too) less = s.rising j k x y old too less
      rising j k x y (inl old) (inr now) less =
          let P : Route → Type 0 = λ z. IsTrue (comes_before x.path z.path) in
          subst P (sym now.1) (before_new j x old)
      rising j k x y (inr now) (inl old) less = let h = slice_get_within routes k y old in absurd (omega arith)
      rising j k x y (inr now) (inr too) less = absurd (omega arith)

      ahead : (q : Route) (k : ℕ) (x : Route)
          → slice_get (routes ++ r ∷ []) next ≡ Some q
          → (slice_get routes k ≡ Some x) ⊎ ((k ≡ length routes) × (x ≡ r))
          → IsTrue (comes_before x.path (q.path ++ (place + 1) ∷ []))
      ahead q k x there when =
          let same = the_same (routes ++ r ∷ []) next next p q (slice_get-append_left routes (r ∷ []) next p is) there refl in
          let P : Route → Type 0 = λ z. IsTrue (comes_before x.path (z.path ++ (place + 1) ∷ [])) in
          let last = before-last p.path place (place + 1) (omega arith) in
          let Q : List ℕ → Type 0 = λ l. IsTrue (comes_before l (p.path ++ (place + 1) ∷ [])) in
          let R : Route → Type 0 = λ z. IsTrue (comes_before z.path (p.path ++ (place + 1) ∷ [])) in
          subst P same (elim when [
            | inl old ↦ before-through x.path (p.path ++ place ∷ []) (p.path ++ (place + 1) ∷ []) (s.ahead p is k x old) last
            | inr now ↦ subst R (sym now.1) (subst Q (sym path) last)
          ])

      tried : (j : ℕ) (q : Route) (end : ℕ) (why : Why)
          → (slice_get routes j ≡ Some q) ⊎ ((j ≡ length routes) × (q ≡ r))
          → lead objects t q.end end ≡ Some why
          → end < length (masters_of objects)
          → (j < next) ⊎ ((j ≡ next) × (end < place + 1))
          → IsCovered (routes ++ r ∷ []) (q.path ++ end ∷ []) end
      tried j q end why (inr now) leads within (inl earlier) = absurd (omega (arith, inside, now.0))
      tried j q end why (inr now) leads within (inr here) = absurd (omega (arith, inside, now.0, here.0))
      tried j q end why (inl old) leads within (inl earlier) =
          covered-more routes (q.path ++ end ∷ []) end (s.tried j q end why old leads within (inl earlier)) r
      tried j q end why (inl old) leads within (inr here) =
          elim (below_or_at end place here.1) [
            | inl below ↦ covered-more routes (q.path ++ end ∷ []) end (s.tried j q end why old leads within (inr (here.0, below))) r
            | inr at ↦ (
                let same = the_same routes j next q p old is here.0 in
                record {
                  at = length routes;
                  route = r;
                  is = pushed_last routes r;
                  ends = ends ∙ sym at;
                  first = inl (let e = ap (λ (z : Route). z.path) same in cc);
                })
          ]

      room : length (routes ++ r ∷ []) + unfound (routes ++ r ∷ []) (length (masters_of objects)) ≡ length (masters_of objects)
      room =
          let P : ℕ → Type 0 = λ n. list_any (λ (x : Route). x.end == n) routes ≡ false in
          let none = subst P (sym ends) new in
          let less : r.end < length (masters_of objects) = omega arith in
          let one = unfound-more routes r (length (masters_of objects)) less none in
          omega (arith, length-append routes (r ∷ []), s.room)

  -- the next path
  pub goes_on : (routes : List Route) (next : ℕ)
      → IsSearch objects t from routes next (length (masters_of objects))
      → IsSearch objects t from routes (next + 1) 0
  goes_on routes next s = record {
    paths = s.paths;
    start = s.start;
    once = s.once;
    rising = s.rising;
    ahead = λ q is k r at. ahead q is k r at;
    tried = tried;
    room = s.room;
  }
    where
      ahead : (q : Route) → slice_get routes (next + 1) ≡ Some q → (k : ℕ) (r : Route) → slice_get routes k ≡ Some r
          → IsTrue (comes_before r.path (q.path ++ 0 ∷ []))
      ahead q is k r at =
          let inside = slice_get_within routes (next + 1) q is in
          let p : Route = get_or routes next q in
          let there : slice_get routes next ≡ Some p = slice_get-get_or routes next q (omega arith) in
          let n = length (masters_of objects) in
          before-through r.path (p.path ++ n ∷ []) (q.path ++ 0 ∷ []) (s.ahead p there k r at)
          (before-step p.path q.path n 0 (s.rising next (next + 1) p q there is (omega arith)))

      tried : (j : ℕ) (p : Route) (end : ℕ) (why : Why)
          → slice_get routes j ≡ Some p
          → lead objects t p.end end ≡ Some why
          → end < length (masters_of objects)
          → (j < next + 1) ⊎ ((j ≡ next + 1) × (end < 0))
          → IsCovered routes (p.path ++ end ∷ []) end
      tried j p end why is leads within (inr none) = absurd (omega arith)
      tried j p end why is leads within (inl less) =
          elim (below_or_at j next less) [
            | inl below ↦ s.tried j p end why is leads within (inl below)
            | inr at ↦ s.tried j p end why is leads within (inr (at, within))
          ]

  -- ---- the search begins and ends

  pub begins : (r : Route) → r.end ≡ from → r.why ≡ Myself → r.path ≡ from ∷ [] → from < length (masters_of objects)
      → IsSearch objects t from (r ∷ []) 0 0
  begins r ends why path within = record {
    paths = λ k x at.
        let same = only k x at in
        let P : Route → Type 0 = λ y. IsPath objects t from y.path y.end y.why in
        let Q : List ℕ → Type 0 = λ l. IsPath objects t from l r.end r.why in
        let R : ℕ → Type 0 = λ n. IsPath objects t from (from ∷ []) n r.why in
        let W : Why → Type 0 = λ w. IsPath objects t from (from ∷ []) from w in
        subst P (sym same.1) (subst Q (sym path) (subst R (sym ends) (subst W (sym why) start)));
    start = record { at = 0; route = r; is = refl; ends = ends; first = inl (sym path) };
    once = λ j k x y at there same. (only j x at).0 ∙ sym (only k y there).0;
    rising = λ j k x y at there less.
        let a = (only j x at).0 in
        let b = (only k y there).0 in
        absurd (omega arith);
    ahead = λ p is k x at.
        let P : Route → Type 0 = λ y. IsTrue (comes_before y.path (p.path ++ 0 ∷ [])) in
        let Q : Route → Type 0 = λ y. IsTrue (comes_before r.path (y.path ++ 0 ∷ [])) in
        let R : List ℕ → Type 0 = λ l. IsTrue (comes_before l (l ++ 0 ∷ [])) in
        subst P (sym (only k x at).1) (subst Q (sym (only 0 p is).1) (subst R (sym path) refl));
    tried = λ j p end why is leads within when. elim when [ inl less ↦ absurd (omega arith) | inr now ↦ (let h = now.1 in absurd (omega arith)) ];
    room =
        let less : r.end < length (masters_of objects) = omega arith in
        let one = unfound-more [] r (length (masters_of objects)) less refl in
        omega (arith, unfound-none (length (masters_of objects)));
  }
    where
      only : (k : ℕ) (x : Route) → slice_get (r ∷ []) k ≡ Some x → (k ≡ 0) × (x ≡ r)
      only zero x at = (refl, cc)
      only (suc k) x at = cc

  covers : (routes : List Route) (next : ℕ)
      → length routes ≤ next
      → IsSearch objects t from routes next 0
      → (path : List ℕ) (end : ℕ) (why : Why)
      → IsPath objects t from path end why
      → IsCovered routes path end
  covers routes next done s _ _ _ start = s.start
  covers routes next done s _ _ _ (step path a b before why is within leads) =
      let c = covers routes next done s path a before is in
      let inside = slice_get_within routes c.at c.route c.is in
      let P : ℕ → Type 0 = λ n. lead objects t n b ≡ Some why in
      let further = s.tried c.at c.route b why c.is (subst P (sym c.ends) leads) within (inl (omega arith)) in
      covered-later routes (c.route.path ++ b ∷ []) b further (path ++ b ∷ []) (
      elim c.first [
        | inl same ↦ inl (ap (λ l. l ++ b ∷ []) (sym same))
        | inr less ↦ inr (before-step c.route.path path b b less)
      ]
      )

  -- where each path found was tried with each master, these are the least paths
  pub ends_least : (routes : List Route) (next : ℕ)
      → length routes ≤ next
      → IsSearch objects t from routes next 0
      → AreLeast objects t from routes
  ends_least routes next done s = record {
    least = λ k r at. record {
      path = s.paths k r at;
      least = λ path why is.
          let c = covers routes next done s path r.end why is in
          let same = the_same routes c.at k c.route r c.is at (s.once c.at k c.route r c.is at c.ends) in
          let P : Route → Type 0 = λ x. (path ≡ x.path) ⊎ IsTrue (comes_before x.path path) in
          subst P same c.first;
    };
    all = λ path end why is.
        let c = covers routes next done s path end why is in
        (c.at, c.route, c.is, c.ends);
    once = s.once;
    rising = s.rising;
  }

  -- the path at next was tried with the master at a place: a new path was found, or none
  pub tries_new : (routes : List Route) (next place : ℕ) (p r : Route)
      → slice_get routes next ≡ Some p
      → place < length (masters_of objects)
      → Some r ≡ longer_if_new objects t routes p place
      → IsSearch objects t from routes next place
      → IsSearch objects t from (routes ++ r ∷ []) next (place + 1)
  tries_new routes next place p r is within made s = new _ _ refl refl made
    where
      new : (found : Bool) (why : Option Why)
          → list_any (λ (x : Route). x.end == place) routes ≡ found
          → lead objects t p.end place ≡ why
          → Some r ≡ cond found None (option_map (λ why. record { end = place; why = why; path = p.path ++ place ∷ [] }) why)
          → IsSearch objects t from (routes ++ r ∷ []) next (place + 1)
      new true why any leads e = absurd cc
      new false None any leads e = absurd cc
      new false (Some why) any leads e =
          let same : r ≡ record { end = place; why = why; path = p.path ++ place ∷ [] } = cc in
          let reason = ap (λ (x : Route). x.why) same in
          finds routes next place p r is any within (leads ∙ ap Some (sym reason)) (ap (λ (x : Route). x.end) same) (ap (λ (x : Route). x.path) same) s

  pub tries_none : (routes : List Route) (next place : ℕ) (p : Route)
      → slice_get routes next ≡ Some p
      → None ≡ longer_if_new objects t routes p place
      → IsSearch objects t from routes next place
      → IsSearch objects t from routes next (place + 1)
  tries_none routes next place p is made s = none _ _ refl refl made
    where
      none : (found : Bool) (why : Option Why)
          → list_any (λ (x : Route). x.end == place) routes ≡ found
          → lead objects t p.end place ≡ why
          → ◌≡◌ {A = Option Route} None (cond found None (option_map (λ why. record { end = place; why = why; path = p.path ++ place ∷ [] }) why))
          → IsSearch objects t from routes next (place + 1)
      none true why any leads e = already_found routes next place any s
      none false None any leads e = leads_nowhere routes next place p is leads s
      none false (Some why) any leads e = absurd cc

-- what a path and one step more are
pub new_route : (objects : List Object) (t : Topology) (routes : List Route) (from : Route) (end : ℕ) (why : Why) (r : Route)
    → list_any (λ (x : Route). x.end == end) routes ≡ false
    → lead objects t from.end end ≡ Some why
    → r ≡ record { end = end; why = why; path = from.path ++ end ∷ [] }
    → Some r ≡ longer_if_new objects t routes from end
new_route objects t routes from end why r none leads is = rw (none, leads, is) refl
