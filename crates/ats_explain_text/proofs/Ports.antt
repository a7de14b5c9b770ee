-- The lines of numbered ports.
use Rattle.std.proofs.Common.{◌≡◌, ℕ, ◌+◌, ◌<◌, List, [], ◌∷◌, ◌++◌, length, take, get_or, sym, ◌∙◌, ap, arith}
use Rattle.std.specs.List.{flat_map, enumerate_from}
use Rattle.std.proofs.lemmas.List.{flat_map_more, take_more, take_all}
use Rattle.std.proofs.lemmas.List.FromFn.{length-enumerate_from, get_or-enumerate_from}
use Rattle.ats_topology.specs.Port.{port_at, no_port}
use Rattle.ats_topology.specs.declared.port.Port.{Port}

-- the line of the next port
pub next_port : (line : ℕ × Port → List ℕ) (ports : List Port) (n : ℕ) (x before after : List ℕ) → n < length ports
    → before ≡ x ++ flat_map line (take n (enumerate_from 0 ports))
    → after ≡ before ++ line (n, port_at ports n)
    → after ≡ x ++ flat_map line (take (n + 1) (enumerate_from 0 ports))
next_port line ports n x before after within so_far written =
    let numbered : List (ℕ × Port) = enumerate_from 0 ports in
    let inside : n < length numbered = omega (arith, length-enumerate_from 0 ports) in
    let at_n : get_or numbered n (0, no_port) ≡ (n, port_at ports n) =
    get_or-enumerate_from 0 ports n (0, no_port) within ∙ ap (λ (k : ℕ). (k, port_at ports n)) (omega arith) in
    let more : take (n + 1) numbered ≡ take n numbered ++ (n, port_at ports n) ∷ [] =
    take_more numbered n (0, no_port) inside ∙ ap (λ (p : ℕ × Port). take n numbered ++ p ∷ []) at_n in
    written ∙ ap (λ (t : List ℕ). t ++ line (n, port_at ports n)) so_far
    ∙ flat_map_more line x (take n numbered) (n, port_at ports n)
    ∙ sym (ap (λ (l : List (ℕ × Port)). x ++ flat_map line l) more)

-- all ports are the first so many
pub all_ports : (line : ℕ × Port → List ℕ) (ports : List Port) (n : ℕ) (x text : List ℕ) → length ports < n + 1
    → text ≡ x ++ flat_map line (take n (enumerate_from 0 ports))
    → text ≡ x ++ flat_map line (enumerate_from 0 ports)
all_ports line ports n x text end written =
    written ∙ ap (λ (l : List (ℕ × Port)). x ++ flat_map line l)
    (take_all n (enumerate_from 0 ports) (omega (arith, length-enumerate_from 0 ports)))
