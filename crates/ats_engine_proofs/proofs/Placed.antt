use Rattle.std.proofs.Common.{◌≡◌, ℕ, zero, suc, ◌+◌, ◌-◌, ◌<◌, ◌≤◌, Bool, true, List, [], ◌∷◌, length, get_or}
use Rattle.std.proofs.Common.{map, filter, max, sym, ap, ◌∙◌, arith, All}
use Rattle.std.specs.Prelude.{◌==◌, fold, nat_lt}
use Rattle.std.specs.List.{list_any}
use Rattle.std.proofs.lemmas.Bool.{eq-eqb, and_from}
use Rattle.std.proofs.lemmas.List.Elements.{All-head, All-tail, All-filter, All-map}
use Rattle.std.proofs.lemmas.List.Folds.{list_any_at}
use Rattle.ats_network.specs.Class.{class_at}
use Rattle.ats_network.specs.Network.{DeclaredNetwork, IsNetwork, senders_of}
use Rattle.ats_network.proofs.SenderLemmas.{sender_keeps}
use Rattle.ats_trace.specs.Links.{in_order_from}
use Rattle.ats_trace.specs.Projections.{Crossing}
use Rattle.ats_trace.specs.HopRecord.{HopRecord}
use Rattle.ats_run_records.specs.Progress.{Progress, progress_at, last_hop, no_hop}
use Rattle.ats_engine_steps.specs.Conditions.{IsPlaced}
use Rattle.ats_engine_steps.specs.Course.{path_of, place_of, sender_of}
use Rattle.ats_engine_steps.specs.Frames.{Goes, Stands}
use Rattle.ats_engine_steps.specs.Ports.{passes}
use Rattle.ats_engine_proofs.proofs.LegPorts.{leg-all, leg-few}
use Rattle.ats_engine_proofs.proofs.Ways.{stands-some}

-- of the ports of a leg a frame has come to no more than there are
pub stands-at_most : (Last : HopRecord → Type 0) (path : List ℕ) (hops : List HopRecord) → Stands Last path hops
    → length hops ≤ length path
stands-at_most Last [] hops stands = absurd stands
stands-at_most Last (p ∷ path) [] stands = absurd stands
stands-at_most Last (p ∷ path) (hop ∷ []) stands = omega arith
stands-at_most Last (p ∷ path) (hop ∷ next ∷ hops) stands =
    let rest : length (next ∷ hops) ≤ length path = stands-at_most Last path (next ∷ hops) stands.1 in omega arith

-- and where more ports follow, to fewer
pub goes-fewer : (path : List ℕ) (hops : List HopRecord) → Goes path hops → length hops < length path
goes-fewer [] hops goes = absurd goes
goes-fewer (p ∷ path) [] goes = omega arith
goes-fewer (p ∷ path) (hop ∷ hops) goes =
    let rest : length hops < length path = goes-fewer path hops goes.1 in omega arith

-- the last record is as it has to be
pub stands-last : (Last : HopRecord → Type 0) (path : List ℕ) (hops : List HopRecord) (last : ℕ) (d : HopRecord)
    → length hops ≡ last + 1 → Stands Last path hops → Last (get_or hops last d)
stands-last Last [] hops last d many stands = absurd stands
stands-last Last (p ∷ path) [] last d many stands = absurd stands
stands-last Last (p ∷ path) (hop ∷ []) zero d many stands = stands
stands-last Last (p ∷ path) (hop ∷ []) (suc last) d many stands = absurd (omega arith)
stands-last Last (p ∷ path) (hop ∷ next ∷ hops) zero d many stands = absurd (omega arith)
stands-last Last (p ∷ path) (hop ∷ next ∷ hops) (suc last) d many stands =
    stands-last Last path (next ∷ hops) last d (omega arith) stands.1

-- a frame of a network that stands at a record
pub record IsStanding (network : DeclaredNetwork) (Last : HopRecord → Type 0) (progress : Progress) : Type 0 where
  pub rules : IsNetwork network
  pub sender : progress.release.sender < length (senders_of network)
  pub leg : progress.leg ≤ length (sender_of network progress).branches
  pub stands : Stands Last (path_of network progress) progress.hops

-- its last record is as it has to be
pub standing-last : {network : DeclaredNetwork} {Last : HopRecord → Type 0} {progress : Progress}
    → IsStanding network Last progress → Last (last_hop progress)
standing-last {network} {Last} {progress} at =
    let some : 0 < length progress.hops = stands-some Last (path_of network progress) progress.hops at.stands in
    stands-last Last (path_of network progress) progress.hops (length progress.hops - 1) no_hop (omega arith) at.stands

-- at a port of the leg
pub standing-on_path : {network : DeclaredNetwork} {Last : HopRecord → Type 0} {progress : Progress}
    → IsStanding network Last progress → length progress.hops - 1 < length (path_of network progress)
standing-on_path {network} {Last} {progress} at =
    let some : 0 < length progress.hops = stands-some Last (path_of network progress) progress.hops at.stands in
    let most = stands-at_most Last (path_of network progress) progress.hops at.stands in
    omega arith

-- which is one of its sender's
pub standing-at : {network : DeclaredNetwork} {Last : HopRecord → Type 0} {progress : Progress}
    → IsStanding network Last progress → (P : ℕ → Type 0) → All P (sender_of network progress).ports
    → P (place_of network progress)
standing-at {network} {Last} {progress} at P all =
    leg-all network progress.release.sender progress.leg at.rules at.sender at.leg P all
    (length progress.hops - 1) 0 (standing-on_path at)

-- and of the network
pub standing-place : {network : DeclaredNetwork} {Last : HopRecord → Type 0} {progress : Progress}
    → IsStanding network Last progress → place_of network progress < length network.topology.ports
standing-place {network} {Last} {progress} at =
    standing-at at (λ (p : ℕ). p < length network.topology.ports)
    (sender_keeps network progress.release.sender at.rules at.sender).ports

-- the frame passes that port, in its class there
pub standing-passes : {network : DeclaredNetwork} {Last : HopRecord → Type 0} {progress : Progress}
    → IsStanding network Last progress → (port class : ℕ) → place_of network progress ≡ port
    → class_at (sender_of network progress) (place_of network progress) ≡ class
    → passes network port class progress ≡ true
standing-passes {network} {Last} {progress} at port class here is =
    let ports : List ℕ = (sender_of network progress).ports in
    let test : ℕ → Bool = λ p. p == port in
    let has : list_any test ports ≡ true =
    standing-at at (λ (p : ℕ). p ≡ port → list_any test ports ≡ true)
    (λ k d within same. list_any_at test ports k d within (eq-eqb (get_or ports k d) port same)) here in
    and_from (list_any test ports) (class_at (sender_of network progress) port == class) has
    (eq-eqb (class_at (sender_of network progress) port) class
    (ap (class_at (sender_of network progress)) (sym here) ∙ is))

-- and it came to a port
pub standing-placed : {network : DeclaredNetwork} {Last : HopRecord → Type 0} (records : List Progress) (row : ℕ)
    → row < length records → IsStanding network Last (progress_at records row) → IsPlaced network records row
standing-placed {network} {Last} records row within at =
    let progress : Progress = progress_at records row in
    let on_path = stands-at_most Last (path_of network progress) progress.hops at.stands in
    let few = leg-few network progress.release.sender progress.leg at.rules at.sender at.leg in
    record {
      within = within;
      sender = at.sender;
      leg = at.leg;
      came = stands-some Last (path_of network progress) progress.hops at.stands;
      on_path = on_path;
      most = omega (arith, on_path, few);
    }

-- the greatest of numbers that are at most a bound is at most that
fold-max-le : (bound a : ℕ) (xs : List ℕ) → a ≤ bound → All (λ (x : ℕ). x ≤ bound) xs → fold max a xs ≤ bound
fold-max-le bound a [] le all = le
fold-max-le bound a (x ∷ xs) le all =
    let first : x ≤ bound = All-head (λ (x : ℕ). x ≤ bound) x xs all in
    fold-max-le bound (max a x) xs (omega arith) (All-tail (λ (x : ℕ). x ≤ bound) x xs all)

-- where each crossing arrived before a time, the next frame may arrive by then
pub in_order_from-le : (end bound : ℕ) (crossings : List Crossing)
    → All (λ (x : Crossing). x.arrival + 1 ≤ bound) crossings → in_order_from end crossings ≤ bound
in_order_from-le end bound crossings all =
    let earlier : List Crossing = filter (λ (x : Crossing). nat_lt x.sent.end end) crossings in
    fold-max-le bound 0 (map (λ (x : Crossing). x.arrival + 1) earlier) (omega arith)
    (All-map (λ (n : ℕ). n ≤ bound) (λ (x : Crossing). x.arrival + 1) earlier
    (All-filter (λ (x : Crossing). nat_lt x.sent.end end) (λ (x : Crossing). x.arrival + 1 ≤ bound) crossings all))
