-- A map that has the number of each port from some port on.
use Rattle.std.proofs.Common.{◌≡◌, ◌∙◌, ℕ, ◌+◌, ◌<◌, Option, List, ◌∷◌, drop, get_or, length, Some, refl, ap, drop-cons}
use Rattle.std.proofs.Common.{add-one}
use Rattle.std.specs.Global.{Vec}
use Rattle.std.specs.List.{position_from}
use Rattle.std.specs.Ordering.{nat_cmp}
use Rattle.std.specs.Str.{bytes_eq}
use Rattle.std.specs.Cmp.Lexicographic.{nat_list_eq_equiv, slice_cmp}
use Rattle.std.specs.BTreeMap.{BTreeMap, UpdatesBy}
use Rattle.ats_topology.specs.Port.{no_port}
use Rattle.ats_topology.specs.Topology.{DeclaredTopology}
use Rattle.ats_topology.specs.declared.port.Port.{Port}
use Rattle.ats_port_names.proofs.ByBytes.{number_after}
use Rattle.ats_port_names.specs.Inside.{IsNumbering, number_in}
use Rattle.ats_port_names.specs.PortName.{name_of, port_name}

-- the number of the first port with a name, from port i on
abbrev named_from : DeclaredTopology → ℕ → List ℕ → Option ℕ
named_from topology i text =
    position_from (λ (port : Port). bytes_eq text (name_of topology port)) i (drop i topology.ports)

-- the map finds each port from port i on by its name
pub record NumbersFrom (topology : DeclaredTopology) (i : ℕ) (numbers : BTreeMap (Vec ℕ) ℕ) : Type 0 where
  pub found : (text : List ℕ) → number_in numbers text ≡ named_from topology i text

-- one port more, before the others
pub numbers_more : (topology : DeclaredTopology) (i n : ℕ) (key : Vec ℕ) (old new : BTreeMap (Vec ℕ) ℕ)
    → i < length topology.ports → n ≡ i + 1
    → NumbersFrom topology n old → key.items ≡ port_name topology i
    → UpdatesBy (λ x y. slice_cmp nat_cmp x.items y.items) (λ k. slice_cmp nat_cmp key.items k.items) old new (Some i)
    → NumbersFrom topology i new
numbers_more topology i n key old new within next numbers name updates = record {
  found = λ text.
      let after = number_after key old new (Some i) updates text in
      let cut : drop i topology.ports ≡ get_or topology.ports i no_port ∷ drop n topology.ports =
      rw (next, add-one i) (drop-cons topology.ports i no_port within) in
      let test : bytes_eq key.items text ≡ bytes_eq text (port_name topology i) =
      ap (λ t. bytes_eq t text) name ∙ nat_list_eq_equiv.symm (port_name topology i) text in
      after ∙ rw (test, numbers.found text, cut, next) refl;
}

-- all of them
pub numbers_all : (topology : DeclaredTopology) (numbers : BTreeMap (Vec ℕ) ℕ) → NumbersFrom topology 0 numbers
    → IsNumbering topology numbers
numbers_all topology numbers from = record { found = λ text. from.found text }
