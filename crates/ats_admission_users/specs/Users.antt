use Rattle.std.specs.Prelude.{◌≡◌, ℕ, ◌+◌, ◌<◌, Bool, ◌==◌, if◌then◌else◌, List, [], ◌∷◌, map, length, slice_index_or}
use Rattle.std.specs.List.{list_any}
use Rattle.ats_admission_users.specs.declared.entry.Entry.{Entry}

-- a path has the port
abbrev pub has_port : ℕ → List ℕ → Bool
has_port port path = list_any (λ p. p == port) path

-- the numbers of the paths that have a port, where the first path has this number
abbrev pub users_from : ℕ → ℕ → List (List ℕ) → List ℕ
users_from n port [] = []
users_from n port (path ∷ paths) =
    if has_port port path then n ∷ users_from (n + 1) port paths else users_from (n + 1) port paths

-- the numbers of the paths that have a port, in order
abbrev pub users_of : List (List ℕ) → ℕ → List ℕ
users_of paths port = users_from 0 port paths

-- the hop at which a path has a port first, counted from 0
abbrev pub hop_of : ℕ → List ℕ → ℕ
hop_of port [] = 0
hop_of port (p ∷ path) = if p == port then 0 else hop_of port path + 1

-- a path has the port at this hop
pub record IsHop (port : ℕ) (path : List ℕ) (hop : ℕ) : Type 0 where
  pub within : hop < length path
  pub stands : slice_index_or path hop 0 ≡ port

-- the entry of a path with this slot in the list of a port that it has
abbrev pub entry_at : ℕ → ℕ → List ℕ → Entry
entry_at port slot path = record { slot = slot; hop = hop_of port path }

-- the slots of paths, and for each port the entries of the paths that have it
pub record UsersState : Type 0 where
  pub slots : List ℕ
  pub lists : List (List Entry)

-- these are the users of so many ports by these paths
pub record ListsPaths (ports : ℕ) (paths : List (List ℕ)) (users : UsersState) : Type 0 where
  pub count : length users.slots ≡ length paths
  pub ports_are : length users.lists ≡ ports
  pub each : (port : ℕ) (d : List Entry) → port < ports → slice_index_or users.lists port d
      ≡ map (λ n. entry_at port (slice_index_or users.slots n 0) (slice_index_or paths n [])) (users_of paths port)
