-- Requests, one after the other.
use Rattle.std.proofs.Common.{◌≡◌, ℕ, List, ◌∷◌, ◌++◌, append_assoc, sym, ap, subst, ◌∙◌}
use Rattle.std.specs.Prelude.{OnOk, Result, Ok, Err}
use Rattle.std.specs.List.{All}
use Rattle.std.proofs.lemmas.List.Elements.{All-head, All-tail}
use Rattle.ats_topology.specs.Topology.{DeclaredTopology}
use Rattle.ats_network.specs.Network.{DeclaredNetwork}
use Rattle.ats_requests.specs.Laws.{IsCertified}
use Rattle.ats_requests.specs.Requests.{MayAsk, after, after_all, answer, answers}
use Rattle.ats_requests.specs.declared.request.Request.{Request}
use Rattle.ats_requests.proofs.Requests.{may_still, request_keeps}
use Rattle.ats_admission_text.specs.Text.{answer_text, answers_text, lines_of, name_asked}

-- a network that answered a request, over the same topology and with the same greatest number of ports of a route
pub record IsNext (network next : DeclaredNetwork) (request : Request) : Type 0 where
  pub is : next ≡ after network request
  pub topology : next.topology ≡ network.topology
  pub most_ports : next.most_ports ≡ network.most_ports

-- the text of the answers to the next request and to those behind it
next_answers : (network next : DeclaredNetwork) (request : Request) (requests : List Request)
    → IsNext network next request → answers_text network (request ∷ requests)
    ≡ answer_text network.topology (name_asked request) (answer network request) ++ answers_text next requests
next_answers network next request requests step =
    let line : List ℕ = answer_text network.topology (name_asked request) (answer network request) in
    ap (λ (n : DeclaredNetwork). line ++ lines_of network.topology requests (answers n requests)) (sym step.is)
    ∙ ap (λ (t : DeclaredTopology). line ++ lines_of t requests (answers next requests)) (sym step.topology)

-- so the whole text stays the same
pub text_stays : (network next : DeclaredNetwork) (request : Request) (requests rest : List Request)
    (before after whole : List ℕ) → IsNext network next request → rest ≡ request ∷ requests
    → after ≡ before ++ answer_text network.topology (name_asked request) (answer network request)
    → before ++ answers_text network rest ≡ whole → after ++ answers_text next requests ≡ whole
text_stays network next request requests rest before after whole step left written so_far =
    let line : List ℕ = answer_text network.topology (name_asked request) (answer network request) in
    ap (λ (t : List ℕ). t ++ answers_text next requests) written
    ∙ append_assoc before line (answers_text next requests)
    ∙ ap (λ (t : List ℕ). before ++ t) (sym (next_answers network next request requests step))
    ∙ ap (λ (rs : List Request). before ++ answers_text network rs) (sym left)
    ∙ so_far

-- so does the network at the end
pub end_stays : (network next whole : DeclaredNetwork) (request : Request) (requests rest : List Request)
    → IsNext network next request → rest ≡ request ∷ requests → after_all network rest ≡ whole
    → after_all next requests ≡ whole
end_stays network next whole request requests rest step left so_far =
    ap (λ (n : DeclaredNetwork). after_all n requests) step.is
    ∙ ap (λ (rs : List Request). after_all network rs) (sym left)
    ∙ so_far

-- the next request may be asked
pub may_first : (network : DeclaredNetwork) (request : Request) (requests rest : List Request)
    → rest ≡ request ∷ requests → All (MayAsk network) rest → MayAsk network request
may_first network request requests rest left all =
    All-head (MayAsk network) request requests
    (subst (λ (rs : List Request). All (MayAsk network) rs) left all)

-- so may those behind it, afterwards
pub may_rest : (network next : DeclaredNetwork) (request : Request) (requests rest : List Request)
    → IsNext network next request → rest ≡ request ∷ requests → All (MayAsk network) rest
    → All (MayAsk next) requests
may_rest network next request requests rest step left all =
    may_still network next requests step.topology step.most_ports
    (All-tail (MayAsk network) request requests
    (subst (λ (rs : List Request). All (MayAsk network) rs) left all))

-- the topology stays
pub after_topology : (network next : DeclaredNetwork) (request : Request) → IsCertified network
    → MayAsk network request → next ≡ after network request → next.topology ≡ network.topology
after_topology network next request is may step =
    ap (λ (n : DeclaredNetwork). n.topology) step ∙ (request_keeps network request is may).topology

-- and so does the greatest number of ports of a route
pub after_most_ports : (network next : DeclaredNetwork) (request : Request) → IsCertified network
    → MayAsk network request → next ≡ after network request → next.most_ports ≡ network.most_ports
after_most_ports network next request is may step =
    ap (λ (n : DeclaredNetwork). n.most_ports) step ∙ (request_keeps network request is may).most_ports

-- what holds at all events holds where a call went well
pub on_ok : {T E : Type 0} (result : Result T E) (P : Type 0) → P → OnOk result P
on_ok (Ok x) P h = h
on_ok (Err e) P h = tt
