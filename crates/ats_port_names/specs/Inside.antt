use Rattle.std.specs.Prelude.{◌≡◌, ℕ, List, Option}
use Rattle.std.specs.Global.{Vec}
use Rattle.std.specs.Ordering.{nat_cmp}
use Rattle.std.specs.Cmp.Lexicographic.{slice_cmp}
use Rattle.std.specs.BTreeMap.{BTreeMap, get_by}
use Rattle.ats_topology.specs.Topology.{DeclaredTopology}
use Rattle.ats_port_names.specs.PortName.{port_named}

-- the number that a map has at a text
abbrev pub number_in : BTreeMap (Vec ℕ) ℕ → List ℕ → Option ℕ
number_in numbers text = get_by (λ key. slice_cmp nat_cmp text key.items) numbers

-- the map finds each port by its name
pub record IsNumbering (topology : DeclaredTopology) (numbers : BTreeMap (Vec ℕ) ℕ) : Type 0 where
  pub found : (text : List ℕ) → number_in numbers text ≡ port_named topology text
