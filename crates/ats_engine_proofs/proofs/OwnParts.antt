-- What one frame gives to the projections of a run, before and after each step.
use Rattle.std.proofs.Common.{◌≡◌, ◌≢◌, ℕ, Bool, true, false, cond, List, [], ◌∷◌, ◌++◌, map, filter, length, All}
use Rattle.std.proofs.Common.{IsPermutation, Some, None, refl, sym, ap, ◌∙◌, subst, arith}
use Rattle.std.specs.Prelude.{◌==◌, ◌&&◌, Option}
use Rattle.std.specs.List.{flat_map, zip}
use Rattle.std.proofs.lemmas.Bool.{cond-true, cond-false, eq-eqb, ne_eqb, eqb-true, and_from, and_parts}
use Rattle.std.proofs.lemmas.Bool.{false_from_ne_true}
use Rattle.std.proofs.lemmas.List.{append-nil, map-append}
use Rattle.std.proofs.lemmas.List.Elements.{All-nil, All-cons, All-head, All-append, filter-append}
use Rattle.std.proofs.lemmas.List.Sorted.{IsPermutation-sym, IsPermutation-to_front}
use Rattle.ats_facts.proofs.Lists.{all_left, all_right}
use Rattle.ats_num.specs.declared.time.Ps.{Ps}
use Rattle.ats_network.specs.Class.{class_at}
use Rattle.ats_network.specs.Sender.{Sender}
use Rattle.ats_network.specs.Network.{DeclaredNetwork}
use Rattle.ats_port_rule.specs.Transmission.{Transmission}
use Rattle.ats_trace.specs.Projections.{Hop, Crossing, Handed, transmission_of, hop_at, crossing_at}
use Rattle.ats_trace.specs.Projections.{crossing_of, hops_along, crossings_along, handed_along}
use Rattle.ats_trace.specs.declared.journey.Release.{Release}
use Rattle.ats_trace.specs.HopRecord.{HopRecord}
use Rattle.ats_trace.specs.declared.journey.Ending.{Ending}
use Rattle.ats_trace.specs.declared.journey.Ending.TheVariants.{Sink, Discard}
use Rattle.ats_run_records.specs.Progress.{Progress, with_hop}
use Rattle.ats_engine_steps.specs.Course.{ending_by, path_of, sender_of}
use Rattle.ats_engine_steps.specs.Frames.{Goes, IsSent, IsUnsent}
use Rattle.ats_engine_steps.specs.declared.stage.Stage.{Stage}
use Rattle.ats_engine_proofs.proofs.Gathered.{hops_at, crossings_at, handed_in, sent_part, crossings_part, handed_part}
use Rattle.ats_engine_proofs.proofs.Parts.{IsLast, transmitted, once-sent, no-hops, no-crossings, no-handed}
use Rattle.ats_engine_proofs.proofs.Parts.{unsent-hops, unsent-crossings, last-handed, handed-timeless, push-last}
use Rattle.ats_engine_proofs.proofs.Parts.{hops-waiting, hops-sent, crossings-waiting, crossings-sent, crossings-left}
use Rattle.ats_engine_proofs.proofs.Parts.{crossings-came, handed-here, handed-came}
use Rattle.ats_engine_proofs.proofs.Standing.{goes-split}

-- one element more at the end of a list of which some are kept is kept too, where it passes the test
pub kept-more : {X : Type 0} (test : X → Bool) (xs : List X) (x : X) → test x ≡ true
    → filter test (xs ++ x ∷ []) ≡ filter test xs ++ x ∷ []
kept-more {X} test xs x pass =
    filter-append test xs (x ∷ []) ∙ ap (λ (ys : List X). filter test xs ++ ys) (cond-true (test x) (x ∷ []) [] pass)

-- where it fails the test, nothing is changed
pub kept-same : {X : Type 0} (test : X → Bool) (xs : List X) (x : X) → test x ≡ false
    → filter test (xs ++ x ∷ []) ≡ filter test xs
kept-same {X} test xs x fails =
    filter-append test xs (x ∷ [])
    ∙ ap (λ (ys : List X). filter test xs ++ ys) (cond-false (test x) (x ∷ []) [] fails)
    ∙ append-nil (filter test xs)

-- the list with it at the end is that with it in front, in another order
pub pushed : {X : Type 0} (xs ys : List X) (x : X) → ys ≡ xs ++ x ∷ [] → IsPermutation (x ∷ xs) ys
pushed {X} xs ys x is =
    subst (IsPermutation (x ∷ xs)) (sym is)
    (IsPermutation-sym (xs ++ x ∷ []) (x ∷ xs) (IsPermutation-to_front xs x))

-- so a transmission at the end is one more of its port
pub hops_at-more : (port : ℕ) (hops : List Hop) (h : Hop) → h.port ≡ port
    → hops_at port (hops ++ h ∷ []) ≡ hops_at port hops ++ h.sent ∷ []
hops_at-more port hops h is =
    ap (map (λ (g : Hop). g.sent)) (kept-more (λ (g : Hop). g.port == port) hops h (eq-eqb h.port port is))
    ∙ map-append (λ (g : Hop). g.sent) (filter (λ (g : Hop). g.port == port) hops) (h ∷ [])

-- and none of another port
pub hops_at-same : (port : ℕ) (hops : List Hop) (h : Hop) → h.port ≢ port
    → hops_at port (hops ++ h ∷ []) ≡ hops_at port hops
hops_at-same port hops h apart =
    ap (map (λ (g : Hop). g.sent)) (kept-same (λ (g : Hop). g.port == port) hops h (ne_eqb h.port port apart))

-- a crossing at the end is one more of its port
pub crossings_at-more : (port : ℕ) (crossings : List Crossing) (x : Crossing) → x.port ≡ port
    → crossings_at port (crossings ++ x ∷ []) ≡ crossings_at port crossings ++ x ∷ []
crossings_at-more port crossings x is = kept-more (λ (c : Crossing). c.port == port) crossings x (eq-eqb x.port port is)

-- and none of another port
pub crossings_at-same : (port : ℕ) (crossings : List Crossing) (x : Crossing) → x.port ≢ port
    → crossings_at port (crossings ++ x ∷ []) ≡ crossings_at port crossings
crossings_at-same port crossings x apart =
    kept-same (λ (c : Crossing). c.port == port) crossings x (ne_eqb x.port port apart)

-- a frame handed on at the end is one more of its port and class
pub handed_in-more : (port class : ℕ) (handed : List Handed) (h : Handed)
    → h.crossing.port ≡ port → h.crossing.sent.class ≡ class
    → handed_in port class (handed ++ h ∷ []) ≡ handed_in port class handed ++ h ∷ []
handed_in-more port class handed h at ranked =
    kept-more (λ (g : Handed). g.crossing.port == port && g.crossing.sent.class == class) handed h
    (and_from (h.crossing.port == port) (h.crossing.sent.class == class) (eq-eqb h.crossing.port port at)
    (eq-eqb h.crossing.sent.class class ranked))

-- and none of another port, or of another class
pub handed_in-same : (port class : ℕ) (handed : List Handed) (h : Handed)
    → ¬ ((h.crossing.port ≡ port) × (h.crossing.sent.class ≡ class))
    → handed_in port class (handed ++ h ∷ []) ≡ handed_in port class handed
handed_in-same port class handed h apart =
    kept-same (λ (g : Handed). g.crossing.port == port && g.crossing.sent.class == class) handed h
    (false_from_ne_true (h.crossing.port == port && h.crossing.sent.class == class)
    (λ both_pass. let both = and_parts (h.crossing.port == port) (h.crossing.sent.class == class) both_pass in
    apart (eqb-true h.crossing.port port both.0, eqb-true h.crossing.sent.class class both.1)))

-- the transmission of a frame that was sent by the port where it stands
abbrev pub sent-there : ℕ → Release → Sender → ℕ → (last : HopRecord) → IsSent last → Transmission
sent-there frame release sender port last sent =
    transmitted frame release (class_at sender port) sent.eligible sent.times

module _ (frame : ℕ) (release : Release) (sender : Sender) (path : List ℕ) where
  -- is what its record tells of
  sent-is : (port : ℕ) (last : HopRecord) (sent : IsSent last)
      → transmission_of frame release (class_at sender port) last
      ≡ Some (sent-there frame release sender port last sent)
  sent-is port last sent =
      once-sent frame release (class_at sender port) last sent.eligible sent.times sent.verdict sent.sent

  -- a frame that comes to a port was sent by no other than before
  pub coming-hops : (hops : List HopRecord) (hop : HopRecord) → Goes path hops → hop.sent ≡ None
      → hops_along frame release sender path (hops ++ hop ∷ []) ≡ hops_along frame release sender path hops
  coming-hops [] hop goes none =
      unsent-hops frame release sender path hop none ∙ sym (no-hops frame release sender path)
  coming-hops (first ∷ rest) hop goes none =
      let hops : List HopRecord = first ∷ rest in
      let at : IsLast IsSent path hops = goes-split path hops goes (omega arith) in
      let t : Transmission = sent-there frame release sender at.port at.last at.here in
      let is = sent-is at.port at.last at.here in
      ap (hops_along frame release sender path) (push-last IsSent path hops at hop)
      ∙ hops-sent frame release sender IsSent path hops at at.last t (hop ∷ []) is
      (unsent-hops frame release sender at.ahead hop none)
      ∙ sym (ap (hops_along frame release sender path) at.recorded
      ∙ hops-sent frame release sender IsSent path hops at at.last t [] is (no-hops frame release sender at.ahead))

  -- and has crossed the same ports: behind the last it was on its way until then
  pub coming-crossings : (hops : List HopRecord) (hop : HopRecord) → Goes path hops → hop.sent ≡ None
      → crossings_along frame release sender path (hops ++ hop ∷ []) Discard
      ≡ crossings_along frame release sender path hops (Sink hop.arrival)
  coming-crossings [] hop goes none =
      unsent-crossings frame release sender path hop Discard none
      ∙ sym (no-crossings frame release sender path (Sink hop.arrival))
  coming-crossings (first ∷ rest) hop goes none =
      let hops : List HopRecord = first ∷ rest in
      let at : IsLast IsSent path hops = goes-split path hops goes (omega arith) in
      let t : Transmission = sent-there frame release sender at.port at.last at.here in
      let is = sent-is at.port at.last at.here in
      ap (λ (hs : List HopRecord). crossings_along frame release sender path hs Discard)
      (push-last IsSent path hops at hop)
      ∙ crossings-came frame release sender IsSent path hops at at.last hop t is none
      ∙ sym (ap (λ (hs : List HopRecord). crossings_along frame release sender path hs (Sink hop.arrival)) at.recorded
      ∙ crossings-left frame release sender IsSent path hops at at.last t hop.arrival is)

  -- where this is its first port, no port has handed it on
  pub coming-first : (hops : List HopRecord) (hop : HopRecord) → length hops ≡ 0
      → handed_along frame release sender path (hops ++ hop ∷ []) ≡ handed_along frame release sender path hops
  coming-first [] hop none =
      last-handed frame release sender path hop ∙ sym (no-handed frame release sender path)
  coming-first (first ∷ rest) hop none = absurd (omega arith)

  -- else the last one has, with this arrival and verdict
  pub coming-handed : (hops : List HopRecord) (hop : HopRecord) (at : IsLast IsSent path hops)
      → handed_along frame release sender path (hops ++ hop ∷ [])
      ≡ handed_along frame release sender path hops
      ++ record {
        crossing = crossing_of release.octets at.last.arrival.0 at.port
            (sent-there frame release sender at.port at.last at.here) hop.arrival.0;
        verdict = hop.verdict;
      } ∷ []
  coming-handed hops hop at =
      let t : Transmission = sent-there frame release sender at.port at.last at.here in
      let one : Handed = record {
        crossing = crossing_of release.octets at.last.arrival.0 at.port t hop.arrival.0;
        verdict = hop.verdict;
      } in
      ap (handed_along frame release sender path) (push-last IsSent path hops at hop)
      ∙ handed-came frame release sender IsSent path hops at at.last hop t (sent-is at.port at.last at.here)
      ∙ ap (λ (hs : List Handed). hs ++ one ∷ [])
      (sym (ap (handed_along frame release sender path) at.recorded
      ∙ handed-here frame release sender IsSent path hops at at.last))

  -- a frame that its port begins to send: the transmission is one more
  pub selected-hops : (hops : List HopRecord) (at : IsLast IsUnsent path hops) (times : Ps × Ps)
      → hops_along frame release sender path (at.before ++ record at.last { sent = Some times } ∷ [])
      ≡ hops_along frame release sender path hops
      ++ record {
        port = at.port;
        sent = transmitted frame release (class_at sender at.port) at.here.eligible times;
      } ∷ []
  selected-hops hops at times =
      let t : Transmission = transmitted frame release (class_at sender at.port) at.here.eligible times in
      let sent : HopRecord = record at.last { sent = Some times } in
      let one : Hop = record { port = at.port; sent = t } in
      hops-sent frame release sender IsUnsent path hops at sent t []
      (once-sent frame release (class_at sender at.port) sent at.here.eligible times at.here.verdict refl)
      (no-hops frame release sender at.ahead)
      ∙ ap (λ (hs : List Hop). hs ++ one ∷ [])
      (sym (ap (hops_along frame release sender path) at.recorded
      ∙ hops-waiting frame release sender IsUnsent path hops at at.last at.here.sent))

  -- it has crossed no other port than before
  pub selected-crossings : (hops : List HopRecord) (at : IsLast IsUnsent path hops) (times : Ps × Ps)
      → crossings_along frame release sender path (at.before ++ record at.last { sent = Some times } ∷ []) Discard
      ≡ crossings_along frame release sender path hops Discard
  selected-crossings hops at times =
      let t : Transmission = transmitted frame release (class_at sender at.port) at.here.eligible times in
      let sent : HopRecord = record at.last { sent = Some times } in
      crossings-sent frame release sender IsUnsent path hops at sent t
      (once-sent frame release (class_at sender at.port) sent at.here.eligible times at.here.verdict refl)
      ∙ sym (ap (λ (hs : List HopRecord). crossings_along frame release sender path hs Discard) at.recorded
      ∙ crossings-waiting frame release sender IsUnsent path hops at at.last at.here.sent)

  -- and was handed on by no other
  pub selected-handed : (hops : List HopRecord) (at : IsLast IsUnsent path hops) (times : Ps × Ps)
      → handed_along frame release sender path (at.before ++ record at.last { sent = Some times } ∷ [])
      ≡ handed_along frame release sender path hops
  selected-handed hops at times =
      let sent : HopRecord = record at.last { sent = Some times } in
      handed-here frame release sender IsUnsent path hops at sent
      ∙ handed-timeless frame release sender at.passed at.before at.last (Some times) at.same
      ∙ sym (ap (handed_along frame release sender path) at.recorded
      ∙ handed-here frame release sender IsUnsent path hops at at.last)

  -- a frame that was sent crosses its port when it arrives behind it
  pub sent-crossings : (hops : List HopRecord) (arrival : Ps) (at : IsLast IsSent path hops)
      → crossings_along frame release sender path hops (Sink arrival)
      ≡ crossings_along frame release sender path hops Discard
      ++ crossing_of release.octets at.last.arrival.0 at.port
      (sent-there frame release sender at.port at.last at.here) arrival.0 ∷ []
  sent-crossings hops arrival at =
      let t : Transmission = sent-there frame release sender at.port at.last at.here in
      let is = sent-is at.port at.last at.here in
      let one : Crossing = crossing_of release.octets at.last.arrival.0 at.port t arrival.0 in
      ap (λ (hs : List HopRecord). crossings_along frame release sender path hs (Sink arrival)) at.recorded
      ∙ crossings-left frame release sender IsSent path hops at at.last t arrival is
      ∙ ap (λ (xs : List Crossing). xs ++ one ∷ [])
      (sym (ap (λ (hs : List HopRecord). crossings_along frame release sender path hs Discard) at.recorded
      ∙ crossings-sent frame release sender IsSent path hops at at.last t is))

-- whatever one frame crossed of a port was sent by it
kept-crossing : (P : Transmission → Type 0) (kept : Bool) (port : ℕ) (x : Crossing)
    → All P (map (λ (h : Hop). h.sent) (cond kept (record { port = port; sent = x.sent } ∷ []) []))
    → All (λ (c : Crossing). P c.sent) (cond kept (x ∷ []) [])
kept-crossing P true port x all =
    All-cons (λ (c : Crossing). P c.sent) x [] (All-head P x.sent [] all) (All-nil (λ (c : Crossing). P c.sent))
kept-crossing P false port x all = All-nil (λ (c : Crossing). P c.sent)

-- at one port of its path
crossing-is-sent : (P : Transmission → Type 0) (port octets came p : ℕ) (t : Option Transmission)
    (hops : List HopRecord) (ending : Ending) → All P (hops_at port (hop_at p t))
    → All (λ (x : Crossing). P x.sent) (crossings_at port (crossing_at octets came p t hops ending))
crossing-is-sent P port octets came p None hops ending all = All-nil (λ (x : Crossing). P x.sent)
crossing-is-sent P port octets came p (Some t) [] (Sink at) all =
    kept-crossing P (p == port) p (crossing_of octets came p t at.0) all
crossing-is-sent P port octets came p (Some t) [] Discard all = All-nil (λ (x : Crossing). P x.sent)
crossing-is-sent P port octets came p (Some t) (next ∷ hops) ending all =
    kept-crossing P (p == port) p (crossing_of octets came p t next.arrival.0) all

-- the transmissions of a port in two lists are those in the first and those in the second
hops_at-append : (port : ℕ) (xs ys : List Hop) → hops_at port (xs ++ ys) ≡ hops_at port xs ++ hops_at port ys
hops_at-append port xs ys =
    ap (map (λ (h : Hop). h.sent)) (filter-append (λ (h : Hop). h.port == port) xs ys)
    ∙ map-append (λ (h : Hop). h.sent) (filter (λ (h : Hop). h.port == port) xs)
    (filter (λ (h : Hop). h.port == port) ys)

-- and along what is left of its path
crossings-are-of-hops : (P : Transmission → Type 0) (port frame : ℕ) (release : Release) (sender : Sender)
    (path : List ℕ) (hops : List HopRecord) (ending : Ending)
    → All P (hops_at port (hops_along frame release sender path hops))
    → All (λ (x : Crossing). P x.sent) (crossings_at port (crossings_along frame release sender path hops ending))
crossings-are-of-hops P port frame release sender [] hops ending all = All-nil (λ (x : Crossing). P x.sent)
crossings-are-of-hops P port frame release sender (p ∷ path) [] ending all = All-nil (λ (x : Crossing). P x.sent)
crossings-are-of-hops P port frame release sender (p ∷ path) (hop ∷ hops) ending all =
    let t : Option Transmission = transmission_of frame release (class_at sender p) hop in
    let here : List Crossing = crossing_at release.octets hop.arrival.0 p t hops ending in
    let rest : List Crossing = crossings_along frame release sender path hops ending in
    let sent : List Transmission = hops_at port (hop_at p t) in
    let later : List Transmission = hops_at port (hops_along frame release sender path hops) in
    let both : All P (sent ++ later) =
    subst (All P) (hops_at-append port (hop_at p t) (hops_along frame release sender path hops)) all in
    subst (All (λ (x : Crossing). P x.sent)) (sym (filter-append (λ (c : Crossing). c.port == port) here rest))
    (All-append (λ (x : Crossing). P x.sent) (crossings_at port here) (crossings_at port rest)
    (crossing-is-sent P port release.octets hop.arrival.0 p t hops ending (all_left P sent later both))
    (crossings-are-of-hops P port frame release sender path hops ending (all_right P sent later both)))

-- so of all legs
pub crossings-of-sent : (P : Transmission → Type 0) (network : DeclaredNetwork) (port : ℕ) (stages : List Stage)
    (records : List Progress) → All P (flat_map (sent_part network port) records)
    → All (λ (x : Crossing). P x.sent) (flat_map (crossings_part network port) (zip stages records))
crossings-of-sent P network port [] records all = All-nil (λ (x : Crossing). P x.sent)
crossings-of-sent P network port (s ∷ stages) [] all = All-nil (λ (x : Crossing). P x.sent)
crossings-of-sent P network port (s ∷ stages) (p ∷ records) all =
    let sent : List Transmission = sent_part network port p in
    let later : List Transmission = flat_map (sent_part network port) records in
    All-append (λ (x : Crossing). P x.sent) (crossings_part network port (s, p))
    (flat_map (crossings_part network port) (zip stages records))
    (crossings-are-of-hops P port p.frame p.release (sender_of network p) (path_of network p) p.hops
    (ending_by s p.ending) (all_left P sent later all))
    (crossings-of-sent P network port stages records (all_right P sent later all))

-- where nothing has happened along a leg, it gives no transmission, also not with a record of a frame that was not sent
pub unmoved-sent : (network : DeclaredNetwork) (port : ℕ) (p : Progress) (hop : HopRecord) → hop.sent ≡ None
    → p.hops ≡ [] → (sent_part network port (with_hop p hop) ≡ []) × (sent_part network port p ≡ [])
unmoved-sent network port p hop none empty =
    let given : List HopRecord → List Hop = hops_along p.frame p.release (sender_of network p) (path_of network p) in (
      ap (λ (hs : List HopRecord). hops_at port (given (hs ++ hop ∷ []))) empty
          ∙ ap (hops_at port) (unsent-hops p.frame p.release (sender_of network p) (path_of network p) hop none),
      ap (λ (hs : List HopRecord). hops_at port (given hs)) empty
          ∙ ap (hops_at port) (no-hops p.frame p.release (sender_of network p) (path_of network p)),
    )

-- no crossing
pub unmoved-crossings : (network : DeclaredNetwork) (port : ℕ) (stage next : Stage) (p : Progress) (hop : HopRecord)
    → hop.sent ≡ None → p.hops ≡ []
    → (crossings_part network port (next, with_hop p hop) ≡ []) × (crossings_part network port (stage, p) ≡ [])
unmoved-crossings network port stage next p hop none empty =
    let given : List HopRecord → Ending → List Crossing =
    crossings_along p.frame p.release (sender_of network p) (path_of network p) in (
      ap (λ (hs : List HopRecord). crossings_at port (given (hs ++ hop ∷ []) (ending_by next p.ending))) empty
          ∙ ap (crossings_at port)
          (unsent-crossings p.frame p.release (sender_of network p) (path_of network p) hop (ending_by next p.ending)
          none),
      ap (λ (hs : List HopRecord). crossings_at port (given hs (ending_by stage p.ending))) empty
          ∙ ap (crossings_at port)
          (no-crossings p.frame p.release (sender_of network p) (path_of network p) (ending_by stage p.ending)),
    )

-- and hands nothing on
pub unmoved-handed : (network : DeclaredNetwork) (port class : ℕ) (p : Progress) (hop : HopRecord) → p.hops ≡ []
    → (handed_part network port class (with_hop p hop) ≡ []) × (handed_part network port class p ≡ [])
unmoved-handed network port class p hop empty =
    let given : List HopRecord → List Handed =
    handed_along p.frame p.release (sender_of network p) (path_of network p) in (
      ap (λ (hs : List HopRecord). handed_in port class (given (hs ++ hop ∷ []))) empty
          ∙ ap (handed_in port class)
          (last-handed p.frame p.release (sender_of network p) (path_of network p) hop),
      ap (λ (hs : List HopRecord). handed_in port class (given hs)) empty
          ∙ ap (handed_in port class) (no-handed p.frame p.release (sender_of network p) (path_of network p)),
    )
