-- What words say that laws have as premises, on closed things.
use Rattle.std.proofs.Common.{◌≡◌, ℕ, zero, suc, ◌+◌, ◌*◌, ◌<◌, ◌≤◌, true, false, List, [], ◌∷◌, All, Some, None}
use Rattle.std.proofs.Common.{refl, subst, arith, lit<, lit≤}
use Rattle.std.specs.Prelude.{codes}
use Rattle.std.proofs.lemmas.List.Elements.{All-nil, All-cons}
use Rattle.std.proofs.lemmas.Option.{same_Some}
use Rattle.ats_streams.specs.Branches.{routes_of}
use Rattle.ats_streams.specs.Flow.{DeclaredFlow}
use Rattle.ats_streams.specs.Stream.{DeclaredStream}
use Rattle.ats_network_file.specs.Stations.{JoinsStations}
use Rattle.ats_trace.specs.Run.{releases_of}
use Rattle.ats_trace.specs.Talker.{talker_of, KeepsBuckets}
use Rattle.ats_buffer_law.specs.Laws.{BridgeKeeps, NodesKeepInTrueTime}
use Rattle.ats_buffer_law.specs.OwnFrames.{own_before, own_three}
use Rattle.ats_examples.specs.Networks.{flow, line, line_and_flow, stream}
use Rattle.ats_examples.specs.OwnFrames.{own_stream}
use Rattle.ats_examples.proofs.BucketTest.{keeps_by}
use Rattle.ats_examples.proofs.NetworkTest.{station_by}
use Rattle.ats_examples.proofs.StationTest.{begin_by}
use Rattle.ats_answer_examples.specs.Premises.{BothEndsAreStations, BridgesAreAsked, PremisesAreShown}
use Rattle.ats_answer_examples.specs.Premises.{TalkersAreStations, ending_at_bridge, with_flow_over}

-- a node of the three bridges and two stations keeps its buckets in the run
abbrev Keeps : ℕ → Type 0
Keeps node = KeepsBuckets own_three (releases_of own_before) node

first : NodesKeepInTrueTime own_three own_before 0 6
first zero h ranked = record {
  talker = keeps_by own_three (releases_of own_before) (talker_of own_three 0) refl refl;
  here = λ bridge. keeps_by own_three (releases_of own_before) 0 refl refl;
  before = λ q is. let none : None ≡ Some q = is in absurd (cc none);
}
first (suc zero) h ranked = absurd (let other : 0 ≡ 6 = ranked in omega (arith, other))
first (suc (suc i)) h ranked = absurd (let two : suc (suc i) < 2 = h in omega (arith, two))

last : NodesKeepInTrueTime own_three own_before 6 6
last zero h ranked = record {
  talker = keeps_by own_three (releases_of own_before) (talker_of own_three 0) refl refl;
  here = λ bridge. keeps_by own_three (releases_of own_before) 4 refl refl;
  before = λ q is.
      let same : Some 4 ≡ Some q = is in
      subst (BridgeKeeps Keeps own_three) (same_Some 4 q same)
      (λ bridge. keeps_by own_three (releases_of own_before) 3 refl refl);
}
last (suc zero) h ranked = absurd (let other : 0 ≡ 6 = ranked in omega (arith, other))
last (suc (suc i)) h ranked = absurd (let two : suc (suc i) < 2 = h in omega (arith, two))

-- three frames at once are more than the burst
babbles : ¬ Keeps 2
babbles keeps =
    let over : 1000000000000 * 2016 ≤ 10000000 * 0 + 1000000000000 * 672 =
    (keeps.streams 1 (lit< tt) refl).within 0 2 (lit≤ tt) (lit< tt) in
    absurd (omega (arith, over))

bridges : BridgesAreAsked
bridges = record {
  first = first;
  not_own = λ keep. babbles ((keep 0 (lit< tt) refl).here (record { within = lit< tt; bridge = refl }));
  not_next = λ keep. babbles ((keep 0 (lit< tt) refl).before 2 refl (record { within = lit< tt; bridge = refl }));
  last = last;
}

talkers : TalkersAreStations
talkers = record {
  joined = begin_by line_and_flow refl;
  ending = begin_by ending_at_bridge refl;
  flow_ending = begin_by (with_flow_over 0) refl;
  not_own = λ begin. let no : false ≡ true = (begin 1 (lit< tt)).station in absurd (cc no);
  not_flow = λ begin. let no : false ≡ true = (begin 1 (lit< tt)).station in absurd (cc no);
}

-- the way from s1 to s2
abbrev Joins : List ℕ → Type 0
Joins route = JoinsStations line.topology route

across : Joins (0 ∷ 2 ∷ [])
across = record { begins = station_by line.topology 0 refl; ends = station_by line.topology 1 refl }

streams : All (λ (s : DeclaredStream). All Joins (routes_of s.ports s.branches)) line.streams
streams = All-cons (λ (s : DeclaredStream). All Joins (routes_of s.ports s.branches))
    (stream (codes "a") (0 ∷ 2 ∷ [])) [] (All-cons Joins (0 ∷ 2 ∷ []) [] across (All-nil Joins))
    (All-nil (λ (s : DeclaredStream). All Joins (routes_of s.ports s.branches)))

ends : BothEndsAreStations
ends = record {
  joined = record { streams = streams; flows = All-nil (λ (f : DeclaredFlow). Joins f.path) };
  with_flow = record {
    streams = streams;
    flows = All-cons (λ (f : DeclaredFlow). Joins f.path) (flow (codes "f") (0 ∷ 2 ∷ [])) [] across
        (All-nil (λ (f : DeclaredFlow). Joins f.path));
  };
  not_ending = λ join.
      let no : false ≡ true =
      (join.streams 0 (own_stream (codes "h") (0 ∷ []) (7 ∷ [])) (lit< tt) 0 [] (lit< tt)).ends.station in
      absurd (cc no);
  not_flow_ending = λ join.
      let no : false ≡ true = (join.flows 0 (flow (codes "f") (0 ∷ [])) (lit< tt)).ends.station in
      absurd (cc no);
  not_own = λ join.
      let no : false ≡ true =
      (join.streams 1 (own_stream (codes "g") (2 ∷ []) (7 ∷ [])) (lit< tt) 0 [] (lit< tt)).begins.station in
      absurd (cc no);
  not_flow = λ join.
      let no : false ≡ true = (join.flows 0 (flow (codes "f") (2 ∷ [])) (lit< tt)).begins.station in
      absurd (cc no);
}

pub premises_are_shown : PremisesAreShown
premises_are_shown = record { bridges = bridges; talkers = talkers; ends = ends }
