use Rattle.std.specs.Prelude.{◌≡◌, ℕ, ◌-◌, ◌≤◌, List, map, slice_index, All}
use Rattle.std.specs.Prelude.{IsPermutation}
use Rattle.std.specs.List.Sorted.{IsNonDecreasing}
use Rattle.ats_network.specs.Network.{DeclaredNetwork}
use Rattle.ats_network.specs.Senders.{sender_at}
use Rattle.ats_network.specs.Class.{class_at}
use Rattle.ats_group.specs.Group.{State, first, verdicts_of, state_after}
use Rattle.ats_group.specs.GroupsState.{GroupsState, AreGroups, time_at, empty_at}
use Rattle.ats_schedulers.specs.Schedulers.{group_behind, residences_of, members_of, leg_ports, scheduler_of}
use Rattle.ats_schedulers.specs.Schedulers.{IsHop}
use Rattle.ats_trace.specs.Projections.{Handed}
use Rattle.ats_trace.specs.Eligibility.{IsPassed, offer_of, residence_of_groups, scheduled_by}
use Rattle.ats_engine_steps.specs.Course.{Course, handed_so_far}

-- the groups are those of the network
pub record AreGroupsOf (network : DeclaredNetwork) (groups : GroupsState) : Type 0 where
  pub lawful : AreGroups groups
  pub residences : groups.residences_ns ≡ residences_of network
  pub members : groups.members ≡ members_of network

-- what the group behind a port for a class keeps is what its fold leaves
pub record IsStateOf (network : DeclaredNetwork) (groups : GroupsState) (port class : ℕ) (state : State)
    : Type 0 where
  pub time : time_at groups.times (group_behind port class) ≡ state.time
  pub empties : (stream leg hop : ℕ) → IsHop network stream leg hop
      → slice_index (leg_ports network stream leg) (hop - 1) ≡ port → class_at (sender_at network stream) port ≡ class
      → empty_at groups.empties (scheduler_of network stream leg hop) ≡ state.empty stream

-- the frames that came behind a port in a class were judged by the group there, and it keeps what they left
pub record IsGroupOf {T : Type 0} (network : DeclaredNetwork) (course : Course T) (port class : ℕ) : Type 0 where
  pub arrivals : List Handed
  pub same : IsPermutation (handed_so_far network course port class) arrivals
  pub in_order : IsNonDecreasing (map (λ (h : Handed). h.crossing.arrival) arrivals)
  pub verdicts : map (λ (h : Handed). h.verdict) arrivals
      ≡ verdicts_of (scheduled_by network port) (residence_of_groups network port) (first (scheduled_by network port))
      (map offer_of arrivals)
  pub state : IsStateOf network course.groups port class
      (state_after (scheduled_by network port) (residence_of_groups network port) (first (scheduled_by network port))
      (map offer_of arrivals))
  pub reached : All (λ (h : Handed). h.crossing.arrival ≤ course.last.at.0) arrivals

-- and flows' frames by their size alone
abbrev pub ArePassed : {T : Type 0} → DeclaredNetwork → Course T → ℕ → Type 0
ArePassed network course port = All (IsPassed network) (handed_so_far network course port 0)
