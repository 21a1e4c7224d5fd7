-- What is within a reach is listed among its members.
use Rattle.std.proofs.Common.{◌≡◌, ℕ, ◌+◌, ◌<◌, ◌==◌, ◌||◌, Bool, true, false, List, [], ◌∷◌, ◌++◌, length, Option, Some, None, zero, suc, refl, sym, ◌∙◌, ap, arith}
use Rattle.std.specs.Prelude.{find, slice_get, cond}
use Rattle.std.specs.List.{cons_option, filter_map, list_any, range_with_len}
use Rattle.std.specs.Option.{option_map, option_or}
use Rattle.pm_base.specs.declared.names.Unit.{Unit}
use Rattle.pm_base.proofs.Booleans.{equal}
use Rattle.pm_base.proofs.ListLemmas.{slice_get-append_left, slice_get-append_right}
use Rattle.pm_object.specs.declared.object.Object.{Object}
use Rattle.pm_topology.specs.declared.topology.Topology.{Topology}
use Rattle.pm_topology.specs.Units.{UnitLaws, has_unit, same_unit, units_of}
use Rattle.pm_topology.specs.WellFormed.{HasNumber}
use Rattle.pm_reach.specs.declared.members.Member.{Member}
use Rattle.pm_reach.specs.declared.members.MemberKind.{MemberKind}
use Rattle.pm_reach.specs.declared.members.MemberKind.TheVariants as members
use Rattle.pm_reach.specs.declared.members.Why.{Why}
use Rattle.pm_reach.specs.declared.routes.Route.{Route}
use Rattle.pm_reach.specs.Border.{IsIn, Reaches}
use Rattle.pm_reach.specs.Brings.{brings}
use Rattle.pm_reach.specs.Leads.{node_at}
use Rattle.pm_base.specs.Names.{unit_number}
use Rattle.pm_reach.specs.Membership.{master_member, master_members, member_by, members_of, unit_member, unit_members}
use Rattle.pm_reach.specs.Paths.{AreLeast}
use Rattle.pm_isolate.specs.Listed.{HasMember}

-- ---- lists

-- what a map gives of an element is among what it gives of the list
made_at : {X Y : Type 0} (h : X → Option Y) (xs : List X) (k : ℕ) (x : X) (y : Y) → slice_get xs k ≡ Some x → h x ≡ Some y → (j : ℕ) × (slice_get (filter_map h xs) j ≡ Some y)
made_at h [] k x y is made = cc
made_at {X} {Y} h (z ∷ zs) zero x y is made =
    let same : z ≡ x = cc in
    (0, ap (λ (o : Option Y). slice_get (cons_option o (filter_map h zs)) 0) (ap h same ∙ made))
made_at {X} {Y} h (z ∷ zs) (suc k) x y is made =
    let rest = made_at h zs k x y is made in
    later (h z) (filter_map h zs) rest.0 y rest.1
  where
    later : (o : Option Y) (ys : List Y) (j : ℕ) (y : Y) → slice_get ys j ≡ Some y → (j : ℕ) × (slice_get (cons_option o ys) j ≡ Some y)
    later None ys j y is = (j, is)
    later (Some w) ys j y is = (suc j, is)

-- a place at which a test passes
any_at : {X : Type 0} (p : X → Bool) (xs : List X) → list_any p xs ≡ true → (k : ℕ) × (x : X) × (slice_get xs k ≡ Some x) × (p x ≡ true)
any_at p [] any = cc
any_at {X} p (x ∷ xs) any = by (p x) refl any (λ later. any_at p xs later)
  where
    by : (b : Bool) → p x ≡ b → (b || list_any p xs) ≡ true
        → (list_any p xs ≡ true → (k : ℕ) × (y : X) × (slice_get xs k ≡ Some y) × (p y ≡ true))
        → (k : ℕ) × (y : X) × (slice_get (x ∷ xs) k ≡ Some y) × (p y ≡ true)
    by true passes any rest = (0, x, refl, passes)
    by false fails any rest = let found = rest any in (suc found.0, found.1, found.2, found.3)

-- an element that passes is found, if not an earlier one
found_at : {X : Type 0} (p : X → Bool) (xs : List X) (k : ℕ) (x : X) → slice_get xs k ≡ Some x → p x ≡ true → (y : X) × (find p xs ≡ Some y)
found_at p [] k x is passes = cc
found_at {X} p (z ∷ zs) zero x is passes =
    let same : z ≡ x = cc in
    (z, ap (λ (b : Bool). cond b (Some z) (find p zs)) (ap p same ∙ passes))
found_at {X} p (z ∷ zs) (suc k) x is passes = by (p z) (found_at p zs k x is passes)
  where
    by : (b : Bool) → (y : X) × (find p zs ≡ Some y) → (y : X) × (cond b (Some z) (find p zs) ≡ Some y)
    by true rest = (z, refl)
    by false rest = rest

-- ---- members

-- a member of a part of a reach is one of the reach
in_front : (front back : List Member) (kind : MemberKind) (number : ℕ) → HasMember front kind number → HasMember (front ++ back) kind number
in_front front back kind number has = record {
  place = has.place;
  member = has.member;
  there = slice_get-append_left front back has.place has.member has.there;
  kind_is = has.kind_is;
  number_is = has.number_is;
}

in_back : (front back : List Member) (kind : MemberKind) (number : ℕ) → HasMember back kind number → HasMember (front ++ back) kind number
in_back front back kind number has = record {
  place = length front + has.place;
  member = has.member;
  there = slice_get-append_right front back has.place ∙ has.there;
  kind_is = has.kind_is;
  number_is = has.number_is;
}

module _ (object : Object) (others : List Object) (t : Topology) (routes : List Route) where
  -- a master to which one of the paths leads
  place_at : (n k a : ℕ) → k < n → slice_get (range_with_len a n) k ≡ Some (a + k)
  place_at zero k a within = absurd (omega arith)
  place_at (suc n) zero a within = let same : a ≡ a + 0 = omega arith in ap (λ (j : ℕ). Some j) same
  place_at (suc n) (suc k) a within =
      let same : a + 1 + k ≡ a + suc k = omega arith in
      place_at n k (a + 1) (omega arith) ∙ ap (λ (j : ℕ). Some j) same

  master_there : (end : ℕ) → end < length object.masters → HasNumber (λ (r : Route). r.end) routes end → HasMember (master_members (object ∷ others) routes) members.Master (node_at (object ∷ others) end).0
  master_there end within at =
      let found = found_at (λ (r : Route). r.end == end) routes at.0 at.1 at.2 (equal at.1.end end at.3) in
      let member : Member = member_by (object ∷ others) members.Master (node_at (object ∷ others) end).0 found.0.why found.0 in
      let made : master_member (object ∷ others) routes end ≡ Some member =
      ap (option_map (λ (r : Route). member_by (object ∷ others) members.Master (node_at (object ∷ others) end).0 r.why r)) found.1
      in
      let start : 0 + end ≡ end = omega arith in
      let here = place_at (length object.masters) end 0 within ∙ ap (λ (j : ℕ). Some j) start in
      let there = made_at (master_member (object ∷ others) routes) (range_with_len 0 (length object.masters)) end end member here made in
      record { place = there.0; member = member; there = there.1; kind_is = refl; number_is = refl }

  -- a unit that the end of one of them brings in
  unit_there : (kind : MemberKind) (unit : Unit) (routes : List Route) (k : ℕ) (r : Route) (why : Why) → slice_get routes k ≡ Some r → brings (object ∷ others) t kind unit r.end ≡ Some why
      → (member : Member) × (unit_member (object ∷ others) t kind unit routes ≡ Some member) × (member.kind ≡ kind) × (member.number ≡ unit_number unit)
  unit_there kind unit [] k r why is brought = cc
  unit_there kind unit (z ∷ zs) k r why is brought = by (brings (object ∷ others) t kind unit z.end) refl k is (λ j at. unit_there kind unit zs j r why at brought)
    where
      by : (o : Option Why) → brings (object ∷ others) t kind unit z.end ≡ o → (k : ℕ) → slice_get (z ∷ zs) k ≡ Some r
          → ((j : ℕ) → slice_get zs j ≡ Some r → (member : Member) × (unit_member (object ∷ others) t kind unit zs ≡ Some member) × (member.kind ≡ kind) × (member.number ≡ unit_number unit))
          → (member : Member) × (option_or (option_map (λ why. member_by (object ∷ others) kind (unit_number unit) why z) o) (unit_member (object ∷ others) t kind unit zs) ≡ Some member) × (member.kind ≡ kind) × (member.number ≡ unit_number unit)
      by (Some first) at k is later = (member_by (object ∷ others) kind (unit_number unit) first z, refl, refl, refl)
      by None at zero is later =
          let same : z ≡ r = cc in
          let clash : ◌≡◌ {A = Option Why} None (Some why) = sym at ∙ ap (λ (r : Route). brings (object ∷ others) t kind unit r.end) same ∙ brought in
          cc
      by None at (suc k) is later = later k is

module _ (units : UnitLaws) (object : Object) (others : List Object) (t : Topology) (from : ℕ) (routes : List Route) (least : AreLeast (object ∷ others) t from routes) where
  -- a master of the reach
  pub master_listed : (k : ℕ) → k < length object.masters → Reaches (object ∷ others) t from k → HasMember (members_of (object ∷ others) t routes) members.Master (node_at (object ∷ others) k).0
  master_listed k within path =
      in_front (master_members (object ∷ others) routes) _ members.Master (node_at (object ∷ others) k).0
      (master_there object others t routes k within (least.all path.0 k path.1 path.2))

  -- a unit of the chip that a master of the reach brings in
  unit_listed : (kind : MemberKind) (unit : Unit) → has_unit t unit ≡ true → IsIn (object ∷ others) t from kind unit → HasMember (unit_members (object ∷ others) t kind routes (units_of t)) kind (unit_number unit)
  unit_listed kind unit there within =
      let path = within.2 in
      let route = least.all path.0 within.0 path.1 path.2 in
      let brings_it : brings (object ∷ others) t kind unit route.1.end ≡ Some within.1 = ap (λ (n : ℕ). brings (object ∷ others) t kind unit n) route.3 ∙ within.3 in
      let made = unit_there object others t routes kind unit routes route.0 route.1 within.1 route.2 brings_it in
      let at = any_at (λ (u : Unit). same_unit u unit) (units_of t) (units.found t unit ∙ there) in
      let here : unit_member (object ∷ others) t kind at.1 routes ≡ Some made.0 =
      ap (λ (u : Unit). unit_member (object ∷ others) t kind u routes) (units.same at.1 unit at.3) ∙ made.1
      in
      let found = made_at (λ (u : Unit). unit_member (object ∷ others) t kind u routes) (units_of t) at.0 at.1 made.0 at.2 here in
      record { place = found.0; member = made.0; there = found.1; kind_is = made.2; number_is = made.3 }

  pub slave_listed : (unit : Unit) → has_unit t unit ≡ true → IsIn (object ∷ others) t from members.Slave unit → HasMember (members_of (object ∷ others) t routes) members.Slave (unit_number unit)
  slave_listed unit there within =
      in_back (master_members (object ∷ others) routes) _ members.Slave (unit_number unit)
      (in_front (unit_members (object ∷ others) t members.Slave routes (units_of t)) _ members.Slave (unit_number unit) (unit_listed members.Slave unit there within))

  pub power_listed : (unit : Unit) → has_unit t unit ≡ true → IsIn (object ∷ others) t from members.Power unit → HasMember (members_of (object ∷ others) t routes) members.Power (unit_number unit)
  power_listed unit there within =
      in_back (master_members (object ∷ others) routes) _ members.Power (unit_number unit)
      (in_back (unit_members (object ∷ others) t members.Slave routes (units_of t)) _ members.Power (unit_number unit)
      (in_front (unit_members (object ∷ others) t members.Power routes (units_of t)) _ members.Power (unit_number unit) (unit_listed members.Power unit there within)))

  pub line_listed : (unit : Unit) → has_unit t unit ≡ true → IsIn (object ∷ others) t from members.Line unit → HasMember (members_of (object ∷ others) t routes) members.Line (unit_number unit)
  line_listed unit there within =
      in_back (master_members (object ∷ others) routes) _ members.Line (unit_number unit)
      (in_back (unit_members (object ∷ others) t members.Slave routes (units_of t)) _ members.Line (unit_number unit)
      (in_back (unit_members (object ∷ others) t members.Power routes (units_of t)) _ members.Line (unit_number unit) (unit_listed members.Line unit there within)))
