use Rattle.std.specs.Prelude.{◌≡◌, ℕ, ◌+◌, ◌≤◌, Bool, false, ◌==◌, ◌++◌, ◌⊎◌, List, length, slice_index_or, Option}
use Rattle.std.specs.Prelude.{Some, None, is_none, count_by, All, Contains}
use Rattle.ats_topology.specs.Port.{port_at}
use Rattle.ats_topology.specs.Walks.{IsWalk}
use Rattle.ats_topology.specs.declared.port.Port.{Port}

-- the distance of a node, where it has one
abbrev pub distance : List (Option ℕ) → ℕ → Option ℕ
distance distances node = slice_index_or distances node None

-- a distance is this one
abbrev pub is_at : ℕ → Option ℕ → Bool
is_at far None = false
is_at far (Some e) = e == far

-- how many nodes have no distance
abbrev pub unreached : List (Option ℕ) → ℕ
unreached distances = count_by is_none distances

-- a walk of so many ports leads from one node to another
pub record HasWalk (ports : List Port) (a b n : ℕ) : Type 0 where
  pub walk : List ℕ
  pub is : IsWalk ports a b walk
  pub long : length walk ≡ n

-- the node has a distance, which is at most so many
pub record IsWithin (distances : List (Option ℕ)) (node most : ℕ) : Type 0 where
  pub far : ℕ
  pub is : distance distances node ≡ Some far
  pub within : far ≤ most

-- each node from which a walk leads to a node has the number of ports of a shortest one, and no other node has a number
pub record AreDistances (ports : List Port) (to : ℕ) (distances : List (Option ℕ)) : Type 0 where
  pub reached : (node far : ℕ) → distance distances node ≡ Some far → HasWalk ports node to far
  pub least : (node : ℕ) (walk : List ℕ) → IsWalk ports node to walk → IsWithin distances node (length walk)

-- a port of the list leads to this node, which was added
pub record IsAdded (ports : List Port) (list added : List ℕ) (node : ℕ) : Type 0 where
  pub port : ℕ
  pub listed : Contains list port
  pub to : (port_at ports port).to ≡ node
  pub there : Contains added node

-- each node to which a port of the list leads, and which had no distance, has this one and is added to the queue
pub record Spreads (ports : List Port) (list : List ℕ) (far : ℕ) (old new : List (Option ℕ))
    (queue longer : List ℕ) : Type 0 where
  pub long : length new ≡ length old
  pub added : List ℕ
  pub queued : longer ≡ queue ++ added
  pub kept : (node e : ℕ) → distance old node ≡ Some e → distance new node ≡ Some e
  pub alike : All (λ node. distance new node ≡ Some far) added
  pub others : (node e : ℕ) → distance new node ≡ Some e
      → (distance old node ≡ Some e) ⊎ ((e ≡ far) × IsAdded ports list added node)
  pub done : (p : ℕ) → Contains list p → (e : ℕ) × (distance new (port_at ports p).to ≡ Some e)
  pub count : unreached new + length longer ≡ unreached old + length queue
