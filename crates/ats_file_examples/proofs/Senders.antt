use Rattle.std.proofs.Common.{◌≡◌, ℕ, List, [], ◌∷◌, ◌++◌, take, Ok, refl, ◌∙◌}
use Rattle.ats_network.specs.Network.{DeclaredNetwork, declared_network}
use Rattle.ats_network_table.specs.declared.format.Format.TheVariants.{Two}
use Rattle.ats_network_toml.specs.Document as file
use Rattle.ats_network_file.specs.Senders.{all_added, alone, flow_added, placed, stream_added}
use Rattle.ats_network_file.specs.declared.senders.Place.{Place}
use Rattle.ats_network_file.specs.declared.senders.SenderTable.TheVariants.{Flow, Stream}
use Rattle.ats_examples.proofs.NetworkTest.{valid_from_by}
use Rattle.ats_file_examples.specs.Network.{crowd, f, flows, g, h, p, q, r, streams, t}
use Rattle.ats_file_examples.proofs.Steps.{at_flow, at_stream, flow_is, legs_is, one_leg, one_more, path_is}
use Rattle.ats_file_examples.proofs.Steps.{stream_is}

-- The senders of the network file, one after another.

-- the network with so many of its streams and flows, the first
abbrev pub crowd_to : ℕ → ℕ → DeclaredNetwork
crowd_to m n = declared_network crowd.topology (take m crowd.streams) (take n crowd.flows)

p_added : stream_added Two (crowd_to 0 0) (at_stream 1) p ≡ Ok (crowd_to 1 0)
p_added = stream_is Two (crowd_to 0 0) (at_stream 1) p (one_leg (0 ∷ 6 ∷ 8 ∷ 4 ∷ [])) (Ok (crowd_to 1 0))
    (legs_is Two crowd.topology (at_stream 1) p.routes (0 ∷ 6 ∷ 8 ∷ 4 ∷ []) refl refl
    (valid_from_by crowd.topology 0 (0 ∷ 6 ∷ 8 ∷ 4 ∷ []) refl)) refl

q_added : stream_added Two (crowd_to 1 0) (at_stream 2) q ≡ Ok (crowd_to 2 0)
q_added = stream_is Two (crowd_to 1 0) (at_stream 2) q (one_leg (2 ∷ 7 ∷ 11 ∷ [])) (Ok (crowd_to 2 0))
    (legs_is Two crowd.topology (at_stream 2) q.routes (2 ∷ 7 ∷ 11 ∷ []) refl refl
    (valid_from_by crowd.topology 1 (2 ∷ 7 ∷ 11 ∷ []) refl)) refl

r_added : stream_added Two (crowd_to 2 0) (at_stream 3) r ≡ Ok (crowd_to 3 0)
r_added = stream_is Two (crowd_to 2 0) (at_stream 3) r (one_leg (5 ∷ 9 ∷ 3 ∷ [])) (Ok (crowd_to 3 0))
    (legs_is Two crowd.topology (at_stream 3) r.routes (5 ∷ 9 ∷ 3 ∷ []) refl refl
    (valid_from_by crowd.topology 2 (5 ∷ 9 ∷ 3 ∷ []) refl)) refl

t_added : stream_added Two (crowd_to 3 0) (at_stream 4) t ≡ Ok (crowd_to 4 0)
t_added = stream_is Two (crowd_to 3 0) (at_stream 4) t (one_leg (10 ∷ 6 ∷ 8 ∷ 4 ∷ [])) (Ok (crowd_to 4 0))
    (legs_is Two crowd.topology (at_stream 4) t.routes (10 ∷ 6 ∷ 8 ∷ 4 ∷ []) refl refl
    (valid_from_by crowd.topology 3 (10 ∷ 6 ∷ 8 ∷ 4 ∷ []) refl)) refl

f_added : flow_added Two (crowd_to 4 0) (at_flow 1) f ≡ Ok (crowd_to 4 1)
f_added = flow_is Two (crowd_to 4 0) (at_flow 1) f (0 ∷ 11 ∷ []) (Ok (crowd_to 4 1))
    (path_is Two crowd.topology (at_flow 1) f.route (0 ∷ 11 ∷ []) refl refl
    (valid_from_by crowd.topology 0 (0 ∷ 11 ∷ []) refl)) refl

g_added : flow_added Two (crowd_to 4 1) (at_flow 2) g ≡ Ok (crowd_to 4 2)
g_added = flow_is Two (crowd_to 4 1) (at_flow 2) g (5 ∷ 9 ∷ 3 ∷ []) (Ok (crowd_to 4 2))
    (path_is Two crowd.topology (at_flow 2) g.route (5 ∷ 9 ∷ 3 ∷ []) refl refl
    (valid_from_by crowd.topology 2 (5 ∷ 9 ∷ 3 ∷ []) refl)) refl

h_added : flow_added Two (crowd_to 4 2) (at_flow 3) h ≡ Ok (crowd_to 4 3)
h_added = flow_is Two (crowd_to 4 2) (at_flow 3) h (2 ∷ 7 ∷ 11 ∷ []) (Ok (crowd_to 4 3))
    (path_is Two crowd.topology (at_flow 3) h.route (2 ∷ 7 ∷ 11 ∷ []) refl refl
    (valid_from_by crowd.topology 1 (2 ∷ 7 ∷ 11 ∷ []) refl)) refl

-- and what follows
pub streams_added : (rest : List (Place × file.DeclaredStream))
    → all_added (stream_added Two) (crowd_to 0 0) (placed alone Stream 1 streams ++ rest)
    ≡ all_added (stream_added Two) (crowd_to 4 0) rest
streams_added rest =
    let last : List (Place × file.DeclaredStream) = (at_stream 4, t) ∷ rest in
    let later : List (Place × file.DeclaredStream) = (at_stream 3, r) ∷ last in
    one_more (stream_added Two) (crowd_to 0 0) (crowd_to 1 0) (at_stream 1) p ((at_stream 2, q) ∷ later) p_added
    ∙ one_more (stream_added Two) (crowd_to 1 0) (crowd_to 2 0) (at_stream 2) q later q_added
    ∙ one_more (stream_added Two) (crowd_to 2 0) (crowd_to 3 0) (at_stream 3) r last r_added
    ∙ one_more (stream_added Two) (crowd_to 3 0) (crowd_to 4 0) (at_stream 4) t rest t_added

pub flows_added : (rest : List (Place × file.DeclaredFlow))
    → all_added (flow_added Two) (crowd_to 4 0) (placed alone Flow 1 flows ++ rest)
    ≡ all_added (flow_added Two) (crowd_to 4 3) rest
flows_added rest =
    let last : List (Place × file.DeclaredFlow) = (at_flow 3, h) ∷ rest in
    one_more (flow_added Two) (crowd_to 4 0) (crowd_to 4 1) (at_flow 1) f ((at_flow 2, g) ∷ last) f_added
    ∙ one_more (flow_added Two) (crowd_to 4 1) (crowd_to 4 2) (at_flow 2) g last g_added
    ∙ one_more (flow_added Two) (crowd_to 4 2) (crowd_to 4 3) (at_flow 3) h rest h_added
