-- What a port sends of one frame, along the frame's path.
use Rattle.std.proofs.Common.{◌≡◌, ◌≢◌, ◌∙◌, ℕ, zero, suc, ◌<◌, Bool, true, false, List, [], ◌∷◌, ◌++◌, length}
use Rattle.std.proofs.Common.{get_or, map, refl, sym, ap, subst, eqb, cond, Option, Some, None, arith}
use Rattle.std.specs.Prelude.{slice_get}
use Rattle.std.specs.List.{All, AllPairs, filter}
use Rattle.std.proofs.lemmas.Bool.{eq-eqb, ne_eqb}
use Rattle.std.proofs.lemmas.List.{append-nil, map-append}
use Rattle.std.proofs.lemmas.List.Elements.{All-head, All-tail, All-nil, All-cons, filter-append}
use Rattle.ats_facts.proofs.Lists.{pairs_head, pairs_tail}
use Rattle.ats_num.specs.declared.time.Ps.{Ps}
use Rattle.ats_network.specs.Class.{class_at}
use Rattle.ats_network.specs.Sender.{Sender}
use Rattle.ats_group.specs.declared.verdict.Verdict.{Verdict}
use Rattle.ats_group.specs.declared.verdict.Verdict.TheVariants.{Eligible, Late, Size}
use Rattle.ats_port_rule.specs.Transmission.{Transmission}
use Rattle.ats_trace.specs.Journey.{Travel, IsSentOrEnds, IsWay}
use Rattle.ats_trace.specs.Projections.{Hop, hop_at, hops_along, transmission_by, transmission_of}
use Rattle.ats_trace.specs.declared.journey.Release.{Release}
use Rattle.ats_trace.specs.HopRecord.{HopRecord}
use Rattle.ats_trace.specs.declared.journey.Ending.{Ending}
use Rattle.ats_trace.specs.declared.journey.Ending.TheVariants.{Sink, Discard}
use Rattle.ats_port_capture.specs.Capture.{octets_of}
use Rattle.ats_port_capture.specs.Sightings.{listed, sighting_of}
use Rattle.ats_port_capture.specs.declared.sighting.Sighting.{Sighting}

-- the transmissions of a port among these
abbrev pub picked : ℕ → List Hop → List Transmission
picked port hops = map (λ (h : Hop). h.sent) (filter (λ (h : Hop). eqb h.port port) hops)

pub picked-append : (port : ℕ) (xs ys : List Hop) → picked port (xs ++ ys) ≡ picked port xs ++ picked port ys
picked-append port xs ys =
    ap (map (λ (h : Hop). h.sent)) (filter-append (λ (h : Hop). eqb h.port port) xs ys)
    ∙ map-append (λ (h : Hop). h.sent) (filter (λ (h : Hop). eqb h.port port) xs)
    (filter (λ (h : Hop). eqb h.port port) ys)

picked_here : (port p : ℕ) (o : Option Transmission) → eqb p port ≡ true → picked port (hop_at p o) ≡ listed o
picked_here port p None e = refl
picked_here port p (Some t) e =
    ap (λ (b : Bool). map (λ (h : Hop). h.sent) (cond b (record { port = p; sent = t } ∷ []) [])) e

picked_past : (port p : ℕ) (o : Option Transmission) → eqb p port ≡ false → picked port (hop_at p o) ≡ []
picked_past port p None e = refl
picked_past port p (Some t) e =
    ap (λ (b : Bool). map (λ (h : Hop). h.sent) (cond b (record { port = p; sent = t } ∷ []) [])) e

-- of a frame along what is left of its path
abbrev pub sent_along : ℕ → ℕ → Release → Sender → List ℕ → List HopRecord → List Transmission
sent_along port frame release s path hops = picked port (hops_along frame release s path hops)

-- a port that is not on the path sends nothing
pub none_along : (port frame : ℕ) (release : Release) (s : Sender) (path : List ℕ) (hops : List HopRecord)
    → All (λ p. eqb p port ≡ false) path → sent_along port frame release s path hops ≡ []
none_along port frame release s [] hops none = refl
none_along port frame release s (p ∷ path) [] none = refl
none_along port frame release s (p ∷ path) (hop ∷ hops) none =
    picked-append port (hop_at p (transmission_of frame release (class_at s p) hop))
    (hops_along frame release s path hops)
    ∙ ap (λ (l : List Transmission). l ++ sent_along port frame release s path hops)
    (picked_past port p (transmission_of frame release (class_at s p) hop)
    (All-head (λ q. eqb q port ≡ false) p path none))
    ∙ none_along port frame release s path hops (All-tail (λ q. eqb q port ≡ false) p path none)

-- the transmission that a record tells of, if there is one
abbrev pub sent_there : ℕ → Release → ℕ → Option HopRecord → List Transmission
sent_there frame release class None = []
sent_there frame release class (Some hop) = listed (transmission_of frame release class hop)

others : (p port : ℕ) (path : List ℕ) → p ≡ port → All (λ q. p ≢ q) path → All (λ q. eqb q port ≡ false) path
others p port path same apart k d h = ne_eqb (get_or path k d) port (λ e. apart k d h (same ∙ sym e))

-- a port that stands once on the path sends what the record there tells
pub at_place : (port frame : ℕ) (release : Release) (s : Sender) (path : List ℕ) (hops : List HopRecord) (n : ℕ)
    → AllPairs (λ p q. p ≢ q) path → n < length path → get_or path n 0 ≡ port
    → sent_along port frame release s path hops
    ≡ sent_there frame release (class_at s (get_or path n 0)) (slice_get hops n)
at_place port frame release s [] hops n apart within is = absurd (omega arith)
at_place port frame release s (p ∷ path) [] n apart within is = refl
at_place port frame release s (p ∷ path) (hop ∷ hops) zero apart within is =
    picked-append port (hop_at p (transmission_of frame release (class_at s p) hop))
    (hops_along frame release s path hops)
    ∙ ap (λ (l : List Transmission). l ++ sent_along port frame release s path hops)
    (picked_here port p (transmission_of frame release (class_at s p) hop) (eq-eqb p port is))
    ∙ ap (λ (l : List Transmission). listed (transmission_of frame release (class_at s p) hop) ++ l)
    (none_along port frame release s path hops (others p port path is (pairs_head (λ p q. p ≢ q) p path apart)))
    ∙ append-nil (listed (transmission_of frame release (class_at s p) hop))
at_place port frame release s (p ∷ path) (hop ∷ hops) (suc n) apart within is =
    picked-append port (hop_at p (transmission_of frame release (class_at s p) hop))
    (hops_along frame release s path hops)
    ∙ ap (λ (l : List Transmission). l ++ sent_along port frame release s path hops)
    (picked_past port p (transmission_of frame release (class_at s p) hop)
    (ne_eqb p port (λ e. pairs_head (λ p q. p ≢ q) p path apart n 0 (omega arith) (e ∙ sym is))))
    ∙ at_place port frame release s path hops n (pairs_tail (λ p q. p ≢ q) p path apart) (omega arith) is

-- a record has the times of a transmission where its frame was eligible, and none elsewhere
abbrev pub Agrees : Verdict → Option (Ps × Ps) → Type 0
Agrees (Eligible e) (Some times) = Unit {0}
Agrees (Eligible e) None = ⊥
Agrees (Late e) (Some times) = ⊥
Agrees (Late e) None = Unit {0}
Agrees Size (Some times) = ⊥
Agrees Size None = Unit {0}

abbrev pub AgreesAt : HopRecord → Type 0
AgreesAt hop = Agrees hop.verdict hop.sent

-- so does each record of a way
pub way_agrees : (path : List ℕ) (hops : List HopRecord) (ending : Ending) → IsWay path hops ending → All AgreesAt hops
way_agrees path [] ending way = All-nil AgreesAt
way_agrees [] (hop ∷ hops) (Sink at) way = absurd way
way_agrees [] (hop ∷ hops) Discard way = absurd way
way_agrees (p ∷ path) (hop ∷ hops) ending way =
    by hop.verdict hop.sent refl refl way (λ onward. way_agrees path hops ending onward)
  where
    both : (verdict : Verdict) (sent : Option (Ps × Ps)) → hop.verdict ≡ verdict → hop.sent ≡ sent
        → Agrees verdict sent → All AgreesAt hops → All AgreesAt (hop ∷ hops)
    both verdict sent v s agrees rest =
        All-cons AgreesAt hop hops
        (subst (λ (w : Verdict). Agrees w hop.sent) (sym v) (subst (Agrees verdict) (sym s) agrees)) rest

    last : hops ≡ [] → All AgreesAt hops
    last none = subst (All AgreesAt) (sym none) (All-nil AgreesAt)

    by : (verdict : Verdict) (sent : Option (Ps × Ps)) → hop.verdict ≡ verdict → hop.sent ≡ sent
        → IsSentOrEnds (IsWay path hops ending) verdict sent hops ending
        → (IsWay path hops ending → All AgreesAt hops) → All AgreesAt (hop ∷ hops)
    by (Eligible e) (Some times) v s onward further = both (Eligible e) (Some times) v s tt (further onward)
    by (Eligible e) None v s none further = absurd none
    by (Late e) (Some times) v s none further = absurd none
    by (Late e) None v s end further = both (Late e) None v s tt (last end.0)
    by Size (Some times) v s none further = absurd none
    by Size None v s end further = both Size None v s tt (last end.0)

-- what is kept of a transmission with these times
abbrev pub kept : ℕ → ℕ → ℕ → Option (Ps × Ps) → List Sighting
kept octets sender class None = []
kept octets sender class (Some times) =
    record { start = times.0; octets = octets; sender = sender; class = class } ∷ []

abbrev pub kept_there : ℕ → ℕ → ℕ → Option HopRecord → List Sighting
kept_there octets sender class None = []
kept_there octets sender class (Some hop) = kept octets sender class hop.sent

kept_by : (run : List Travel) (frame : ℕ) (release : Release) (class : ℕ) (verdict : Verdict) (sent : Option (Ps × Ps))
    → Agrees verdict sent → octets_of run frame ≡ release.octets
    → map (sighting_of run) (listed (transmission_by frame release class verdict sent))
    ≡ kept release.octets release.sender class sent
kept_by run frame release class (Eligible e) (Some times) agrees same =
    ap (λ (n : ℕ). record { start = times.0; octets = n; sender = release.sender; class = class } ∷ []) same
kept_by run frame release class (Eligible e) None agrees same = absurd agrees
kept_by run frame release class (Late e) (Some times) agrees same = absurd agrees
kept_by run frame release class (Late e) None agrees same = refl
kept_by run frame release class Size (Some times) agrees same = absurd agrees
kept_by run frame release class Size None agrees same = refl

-- what is kept of it by the record there
pub kept_at : (run : List Travel) (frame : ℕ) (release : Release) (class : ℕ) (hops : List HopRecord) (n : ℕ)
    → All AgreesAt hops → octets_of run frame ≡ release.octets
    → map (sighting_of run) (sent_there frame release class (slice_get hops n))
    ≡ kept_there release.octets release.sender class (slice_get hops n)
kept_at run frame release class [] n each same = refl
kept_at run frame release class (hop ∷ hops) zero each same =
    kept_by run frame release class hop.verdict hop.sent (All-head AgreesAt hop hops each) same
kept_at run frame release class (hop ∷ hops) (suc n) each same =
    kept_at run frame release class hops n (All-tail AgreesAt hop hops each) same
