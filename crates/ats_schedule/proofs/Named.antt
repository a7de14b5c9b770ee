-- A sender is named by its own name.
use Rattle.std.proofs.Common.{◌≡◌, ◌∙◌, ℕ, ◌<◌, Bool, cond, List, [], get_or, length, Option, None, Some}
use Rattle.std.proofs.Common.{sym, ap, subst, arith}
use Rattle.std.specs.Prelude.{IsTrue}
use Rattle.std.specs.Option.{option_and_then}
use Rattle.std.proofs.lemmas.List.{get_or-map, length-map}
use Rattle.ats_num.specs.Name.{is_name, name_of}
use Rattle.ats_num.specs.Places.{place_of}
use Rattle.ats_network.specs.Network.{DeclaredNetwork, IsNetwork, names_of, senders_of}
use Rattle.ats_network.specs.Sender.{Sender}
use Rattle.ats_network.specs.Senders.{no_sender, sender_at}
use Rattle.ats_schedule.specs.Reading.{sender_named}

-- the proper name of a sender names this one
pub named_itself : (network : DeclaredNetwork) → IsNetwork network → (k : ℕ) → k < length (senders_of network)
    → IsTrue (is_name (sender_at network k).name) → sender_named network (sender_at network k).name ≡ Some k
named_itself network is k within named =
    let senders : List Sender = senders_of network in
    let names : List (List ℕ) = names_of senders in
    let name : List ℕ = (sender_at network k).name in
    let here : get_or names k [] ≡ name = get_or-map (λ (s : Sender). s.name) senders k no_sender [] within in
    let long : length names ≡ length senders = simp length-map in
    let found : place_of name names ≡ Some k =
    ap (λ text. place_of text names) (sym here) ∙ is.names k (omega arith) in
    let read : name_of name ≡ Some name = ap (λ (b : Bool). cond b (Some name) None) named in
    ap (λ (o : Option (List ℕ)). option_and_then (λ text. place_of text names) o) read ∙ found

-- and so does a text that is the same
pub named_same : (network : DeclaredNetwork) → IsNetwork network → (k : ℕ) (name text : List ℕ)
    → k < length (senders_of network) → name ≡ (sender_at network k).name → IsTrue (is_name name) → name ≡ text
    → sender_named network text ≡ Some k
named_same network is k name text within e named same =
    subst (λ (t : List ℕ). sender_named network t ≡ Some k) (sym e ∙ same)
    (named_itself network is k within (subst (λ (t : List ℕ). IsTrue (is_name t)) e named))
