-- What a master is told of a node, from what the book says by numbers.
use Rattle.std.proofs.Common.{◌≡◌, ℕ, Option, Some, None, refl, ap, sym, subst, ◌∙◌, [], ◌∷◌}
use Rattle.std.specs.Prelude.{IfSome, option_map}
use Rattle.pm_base.specs.declared.names.NodeId.{NodeId}
use Rattle.pm_ipi.specs.declared.calls.Call.TheVariants.{GetNodeStatus}
use Rattle.pm_rows.specs.declared.row.Entry.{Entry}
use Rattle.pm_rows.specs.Rows.{entry_at, now_of, usage_of}
use Rattle.pm_topology.specs.declared.places.Kind.{Kind}
use Rattle.pm_topology.specs.declared.places.Kind.TheVariants.{Proc, Slave, Power, Unknown}
use Rattle.pm_topology.specs.Places.{kind_at, kind_of}
use Rattle.pm_state.specs.Nodes.{row, row_at}
use Rattle.pm_state.specs.State.{State}
use Rattle.pm_state.specs.Values.{master_place, point, point_at, slave_place}
use Rattle.pm_calls.specs.declared.verdict.Verdict.TheVariants.{Accepted}
use Rattle.pm_calls.specs.declared.views.StatusView.{StatusView}
use Rattle.pm_calls.specs.Verdict.{told, verdict_of}
use Rattle.pm_calls.specs.Views.{status_view, status_view_at}
use Rattle.pm_calls.specs.calls.GetNodeStatus.{get_node_status}
use Rattle.pm_core.specs.Usage.{usage, usage_at}
use Rattle.pm_controller.specs.declared.status.NodeStatus.{NodeStatus}
use Rattle.pm_controller.specs.Status.{Tells, required_in, status_at, status_of, words_of}

-- a node of this kind stands at this place among the slaves
slave_where : (proc slave power : Option ℕ) (s : ℕ) → kind_at proc slave power ≡ Slave s → slave ≡ Some s
slave_where (Some p) slave power s is = cc
slave_where None slave (Some w) s is = cc
slave_where None (Some k) None s is = cc
slave_where None None None s is = cc

-- what a row requires, with its pair or without
required_same : (entry : Option Entry) → required_in (option_map (λ (entry : Entry). entry.row) entry) ≡ now_of entry
required_same None = refl
required_same (Some entry) = refl

module _ (master node : NodeId) (book : State) (m : ℕ) (placed : master_place master book ≡ Some m) where
  -- by the kind of the node
  pub status_by : (kind : Kind) → kind_of book.fixed.topology node ≡ kind
      → status_of master node book ≡ words_of (status_view_at m kind (point node book) book)
  status_by kind is =
      ap (λ place. status_at place node book) placed
      ∙ ap (λ (kind : Kind). words_of (status_view_at m kind (point node book) book)) is

  module _ (s : ℕ) (is : kind_of book.fixed.topology node ≡ Slave s) where
    there : slave_place node book ≡ Some s
    there = slave_where _ _ _ s is

    pub required : required_in (row master node book) ≡ now_of (entry_at m s book.now.core.rows)
    required =
        ap (λ place. required_in (row_at place (slave_place node book) book)) placed
        ∙ (ap (λ place. required_in (row_at (Some m) place book)) there ∙ required_same (entry_at m s book.now.core.rows))

    pub used : usage master node book ≡ Some (usage_of m s book.now.core.rows)
    used = ap (λ place. usage_at place (slave_place node book) book) placed ∙ ap (λ place. usage_at (Some m) place book) there

-- what is told by a view is what the call tells
words_told : (view : StatusView) (status : NodeStatus) → words_of view ≡ Some status
    → verdict_of (get_node_status view) ≡ Accepted (told (status.state ∷ status.requirement.0 ∷ status.usage ∷ []))
words_told view status is = at view.state refl is
  where
    at : (state : Option ℕ) → view.state ≡ state → words_of view ≡ Some status
        → verdict_of (get_node_status view) ≡ Accepted (told (status.state ∷ status.requirement.0 ∷ status.usage ∷ []))
    at None none is = cc
    at (Some state) some is = cc

-- what a master is told is what the call tells it
pub tells : (master node : NodeId) (book : State) → IfSome (status_of master node book) (Tells (master_place master book) node book)
tells master node book = at (master_place master book)
  where
    told_at : (m : ℕ) (got : Option NodeStatus) → words_of (status_view m node book) ≡ got → IfSome got (Tells (Some m) node book)
    told_at m None is = tt
    told_at m (Some status) is = words_told (status_view m node book) status is

    at : (place : Option ℕ) → IfSome (status_at place node book) (Tells place node book)
    at None = tt
    at (Some m) = told_at m _ refl
