use Rattle.std.specs.Prelude.{ℕ, Bool, ◌&&◌, ◌||◌, List, count_by, map}
use Rattle.std.specs.Str.{bytes_eq}
use Rattle.ats_topology.specs.declared.link.Link.{Link}

-- the link joins these two names, in this direction or the other
abbrev pub joins : List ℕ → List ℕ → Link → Bool
joins a b link = (bytes_eq link.a a && bytes_eq link.b b) || (bytes_eq link.a b && bytes_eq link.b a)

-- the link ends at this name, on one side or the other
abbrev pub ends_at : List ℕ → Link → Bool
ends_at name link = bytes_eq link.a name || bytes_eq link.b name

-- both ends of the link have one name
abbrev pub is_self_link : Link → Bool
is_self_link link = bytes_eq link.a link.b

-- for each name the number of links that end there
abbrev pub link_counts : List (List ℕ) → List Link → List ℕ
link_counts names links = map (λ name. count_by (ends_at name) links) names
