-- What one frame gives to the projections of a run, by its path and its records: the last record is told apart.
use Rattle.std.proofs.Common.{◌≡◌, ℕ, ◌-◌, List, [], ◌∷◌, ◌++◌, length}
use Rattle.std.proofs.Common.{get_or, set, Some, None, refl, sym, ap, ◌∙◌, arith}
use Rattle.std.specs.Prelude.{Option}
use Rattle.std.proofs.lemmas.List.{append-nil, append_assoc, get_or_at, set_at, length-append}
use Rattle.ats_num.specs.declared.time.Ps.{Ps}
use Rattle.ats_num.specs.Wire.{bits_of}
use Rattle.ats_network.specs.Class.{class_at}
use Rattle.ats_network.specs.Sender.{Sender}
use Rattle.ats_group.specs.declared.verdict.Verdict.{Verdict}
use Rattle.ats_group.specs.declared.verdict.Verdict.TheVariants.{Eligible, Late, Size}
use Rattle.ats_port_rule.specs.Transmission.{Transmission}
use Rattle.ats_trace.specs.Projections.{Hop, Crossing, Handed, transmission_by, transmission_of, hop_at, crossing_at}
use Rattle.ats_trace.specs.Projections.{crossing_of, handed_at, hops_along, crossings_along, handed_along}
use Rattle.ats_trace.specs.declared.journey.Release.{Release}
use Rattle.ats_trace.specs.HopRecord.{HopRecord}
use Rattle.ats_trace.specs.declared.journey.Ending.{Ending}
use Rattle.ats_trace.specs.declared.journey.Ending.TheVariants.{Sink, Discard}

-- the transmission of a frame that became eligible and was sent at these times
abbrev pub transmitted : ℕ → Release → ℕ → Ps → Ps × Ps → Transmission
transmitted frame release class e times = record {
  frame = frame;
  sender = release.sender;
  class = class;
  bits = bits_of release.octets;
  eligible = e.0;
  start = times.0.0;
  end = times.1.0;
}

-- a record without times tells of no transmission
pub never-sent : (frame : ℕ) (release : Release) (class : ℕ) (hop : HopRecord) → hop.sent ≡ None
    → transmission_of frame release class hop ≡ None
never-sent frame release class hop none =
    by hop.verdict hop.sent none
  where
    by : (v : Verdict) (sent : Option (Ps × Ps)) → sent ≡ None → transmission_by frame release class v sent ≡ None
    by (Eligible e) sent h = ap (transmission_by frame release class (Eligible e)) h
    by (Late e) sent h = refl
    by Size sent h = refl

-- one of an eligible frame, with times, does
pub once-sent : (frame : ℕ) (release : Release) (class : ℕ) (hop : HopRecord) (e : Ps) (times : Ps × Ps)
    → hop.verdict ≡ Eligible e → hop.sent ≡ Some times
    → transmission_of frame release class hop ≡ Some (transmitted frame release class e times)
once-sent frame release class hop e times eligible sent =
    ap (λ (v : Verdict). transmission_by frame release class v hop.sent) eligible
    ∙ ap (transmission_by frame release class (Eligible e)) sent

module _ (frame : ℕ) (release : Release) (sender : Sender) where
  -- where a path and the records end together, more path behind them gives nothing
  pub no-hops : (path : List ℕ) → hops_along frame release sender path [] ≡ []
  no-hops [] = refl
  no-hops (p ∷ path) = refl

  -- no crossing
  pub no-crossings : (path : List ℕ) (ending : Ending) → crossings_along frame release sender path [] ending ≡ []
  no-crossings [] ending = refl
  no-crossings (p ∷ path) ending = refl

  -- and nothing that was handed on
  pub no-handed : (path : List ℕ) → handed_along frame release sender path [] ≡ []
  no-handed [] = refl
  no-handed (p ∷ path) = refl

  -- neither does one record of a frame that was not sent
  pub unsent-hops : (path : List ℕ) (hop : HopRecord) → hop.sent ≡ None
      → hops_along frame release sender path (hop ∷ []) ≡ []
  unsent-hops [] hop none = refl
  unsent-hops (p ∷ path) hop none =
      ap (λ (t : Option Transmission). hop_at p t ++ hops_along frame release sender path [])
      (never-sent frame release (class_at sender p) hop none)
      ∙ no-hops path

  -- neither has it crossed the port
  pub unsent-crossings : (path : List ℕ) (hop : HopRecord) (ending : Ending) → hop.sent ≡ None
      → crossings_along frame release sender path (hop ∷ []) ending ≡ []
  unsent-crossings [] hop ending none = refl
  unsent-crossings (p ∷ path) hop ending none =
      ap (λ (t : Option Transmission). crossing_at release.octets hop.arrival.0 p t [] ending
      ++ crossings_along frame release sender path [] ending)
      (never-sent frame release (class_at sender p) hop none)
      ∙ no-crossings path ending

  -- a frame that came to no port behind was handed on to none
  handed-none : (octets came p : ℕ) (t : Option Transmission) → handed_at octets came p t [] ≡ []
  handed-none octets came p None = refl
  handed-none octets came p (Some t) = refl

  -- and whatever one record tells, the frame was not handed on
  pub last-handed : (path : List ℕ) (hop : HopRecord) → handed_along frame release sender path (hop ∷ []) ≡ []
  last-handed [] hop = refl
  last-handed (p ∷ path) hop =
      ap (λ (hs : List Handed). hs ++ handed_along frame release sender path [])
      (handed-none release.octets hop.arrival.0 p (transmission_of frame release (class_at sender p) hop))
      ∙ no-handed path

  -- the transmissions along two paths are those along the first and those along the second
  pub hops-split : (passed ahead : List ℕ) (before more : List HopRecord) → length before ≡ length passed
      → hops_along frame release sender (passed ++ ahead) (before ++ more)
      ≡ hops_along frame release sender passed before ++ hops_along frame release sender ahead more
  hops-split [] ahead [] more same = refl
  hops-split [] ahead (hop ∷ before) more same = absurd (omega arith)
  hops-split (p ∷ passed) ahead [] more same = absurd (omega arith)
  hops-split (p ∷ passed) ahead (hop ∷ before) more same =
      let here : List Hop = hop_at p (transmission_of frame release (class_at sender p) hop) in
      ap (λ (hs : List Hop). here ++ hs) (hops-split passed ahead before more (omega arith))
      ∙ sym (append_assoc here (hops_along frame release sender passed before)
      (hops_along frame release sender ahead more))

  -- of what follows a record the next record alone tells when a frame crossed
  crossing-next : (octets came p : ℕ) (t : Option Transmission) (next : HopRecord) (hops more : List HopRecord)
      (ending other : Ending)
      → crossing_at octets came p t (next ∷ hops) ending ≡ crossing_at octets came p t (next ∷ more) other
  crossing-next octets came p None next hops more ending other = refl
  crossing-next octets came p (Some t) next hops more ending other = refl

  -- and it tells the same as an ending with that arrival
  crossing-last : (octets came p : ℕ) (t : Option Transmission) (next : HopRecord) (hops : List HopRecord)
      (ending : Ending)
      → crossing_at octets came p t (next ∷ hops) ending ≡ crossing_at octets came p t [] (Sink next.arrival)
  crossing-last octets came p None next hops ending = refl
  crossing-last octets came p (Some t) next hops ending = refl

  -- the crossings along the first end with the arrival by the first record of the second
  pub crossings-split : (passed ahead : List ℕ) (before : List HopRecord) (last : HopRecord) (more : List HopRecord)
      (ending : Ending) → length before ≡ length passed
      → crossings_along frame release sender (passed ++ ahead) (before ++ last ∷ more) ending
      ≡ crossings_along frame release sender passed before (Sink last.arrival)
      ++ crossings_along frame release sender ahead (last ∷ more) ending
  crossings-split [] ahead [] last more ending same = refl
  crossings-split [] ahead (hop ∷ before) last more ending same = absurd (omega arith)
  crossings-split (p ∷ passed) ahead [] last more ending same = absurd (omega arith)
  crossings-split (p ∷ []) ahead (hop ∷ []) last more ending same =
      let t : Option Transmission = transmission_of frame release (class_at sender p) hop in
      let rest : List Crossing = crossings_along frame release sender ahead (last ∷ more) ending in
      let end : List Crossing = crossing_at release.octets hop.arrival.0 p t [] (Sink last.arrival) in
      ap (λ (xs : List Crossing). xs ++ rest) (crossing-last release.octets hop.arrival.0 p t last more ending)
      ∙ ap (λ (xs : List Crossing). xs ++ rest) (sym (append-nil end))
  crossings-split (p ∷ q ∷ passed) ahead (hop ∷ []) last more ending same = absurd (omega arith)
  crossings-split (p ∷ passed) ahead (hop ∷ next ∷ before) last more ending same =
      let t : Option Transmission = transmission_of frame release (class_at sender p) hop in
      let here : List Crossing = crossing_at release.octets hop.arrival.0 p t (next ∷ before) (Sink last.arrival) in
      let rest : List Crossing = crossings_along frame release sender ahead (last ∷ more) ending in
      ap (λ (xs : List Crossing). xs
      ++ crossings_along frame release sender (passed ++ ahead) (next ∷ before ++ last ∷ more) ending)
      (crossing-next release.octets hop.arrival.0 p t next (before ++ last ∷ more) before ending (Sink last.arrival))
      ∙ ap (λ (xs : List Crossing). here ++ xs)
      (crossings-split passed ahead (next ∷ before) last more ending (omega arith))
      ∙ sym (append_assoc here (crossings_along frame release sender passed (next ∷ before) (Sink last.arrival)) rest)

  -- the same of what was handed on
  handed-next : (octets came p : ℕ) (t : Option Transmission) (next : HopRecord) (hops more : List HopRecord)
      → handed_at octets came p t (next ∷ hops) ≡ handed_at octets came p t (next ∷ more)
  handed-next octets came p None next hops more = refl
  handed-next octets came p (Some t) next hops more = refl

  -- and what was handed on along the first ends with that record
  pub handed-split : (passed ahead : List ℕ) (before : List HopRecord) (last : HopRecord) (more : List HopRecord)
      → length before ≡ length passed
      → handed_along frame release sender (passed ++ ahead) (before ++ last ∷ more)
      ≡ handed_along frame release sender passed (before ++ last ∷ [])
      ++ handed_along frame release sender ahead (last ∷ more)
  handed-split [] ahead [] last more same = refl
  handed-split [] ahead (hop ∷ before) last more same = absurd (omega arith)
  handed-split (p ∷ passed) ahead [] last more same = absurd (omega arith)
  handed-split (p ∷ []) ahead (hop ∷ []) last more same =
      let t : Option Transmission = transmission_of frame release (class_at sender p) hop in
      let rest : List Handed = handed_along frame release sender ahead (last ∷ more) in
      let end : List Handed = handed_at release.octets hop.arrival.0 p t (last ∷ []) in
      ap (λ (xs : List Handed). xs ++ rest) (handed-next release.octets hop.arrival.0 p t last more [])
      ∙ ap (λ (xs : List Handed). xs ++ rest) (sym (append-nil end))
  handed-split (p ∷ q ∷ passed) ahead (hop ∷ []) last more same = absurd (omega arith)
  handed-split (p ∷ passed) ahead (hop ∷ next ∷ before) last more same =
      let t : Option Transmission = transmission_of frame release (class_at sender p) hop in
      let here : List Handed = handed_at release.octets hop.arrival.0 p t (next ∷ before ++ last ∷ []) in
      let rest : List Handed = handed_along frame release sender ahead (last ∷ more) in
      ap (λ (xs : List Handed). xs
      ++ handed_along frame release sender (passed ++ ahead) (next ∷ before ++ last ∷ more))
      (handed-next release.octets hop.arrival.0 p t next (before ++ last ∷ more) (before ++ last ∷ []))
      ∙ ap (λ (xs : List Handed). here ++ xs) (handed-split passed ahead (next ∷ before) last more (omega arith))
      ∙ sym (append_assoc here (handed_along frame release sender passed (next ∷ before ++ last ∷ [])) rest)

  -- whatever times the next record has
  handed-by : (octets came p : ℕ) (t : Option Transmission) (last : HopRecord) (sent : Option (Ps × Ps))
      → handed_at octets came p t (record last { sent = sent } ∷ []) ≡ handed_at octets came p t (last ∷ [])
  handed-by octets came p None last sent = refl
  handed-by octets came p (Some t) last sent = refl

  -- of that record the times do not matter
  pub handed-timeless : (passed : List ℕ) (before : List HopRecord) (last : HopRecord) (sent : Option (Ps × Ps))
      → length before ≡ length passed
      → handed_along frame release sender passed (before ++ record last { sent = sent } ∷ [])
      ≡ handed_along frame release sender passed (before ++ last ∷ [])
  handed-timeless [] [] last sent same = refl
  handed-timeless [] (hop ∷ before) last sent same = absurd (omega arith)
  handed-timeless (p ∷ passed) [] last sent same = absurd (omega arith)
  handed-timeless (p ∷ []) (hop ∷ []) last sent same =
      ap (λ (xs : List Handed). xs ++ []) (handed-by release.octets hop.arrival.0 p
      (transmission_of frame release (class_at sender p) hop) last sent)
  handed-timeless (p ∷ q ∷ passed) (hop ∷ []) last sent same = absurd (omega arith)
  handed-timeless (p ∷ passed) (hop ∷ next ∷ before) last sent same =
      let t : Option Transmission = transmission_of frame release (class_at sender p) hop in
      let other : HopRecord = record last { sent = sent } in
      ap (λ (xs : List Handed). xs
      ++ handed_along frame release sender passed (next ∷ before ++ other ∷ []))
      (handed-next release.octets hop.arrival.0 p t next (before ++ other ∷ []) (before ++ last ∷ []))
      ∙ ap (λ (xs : List Handed). handed_at release.octets hop.arrival.0 p t (next ∷ before ++ last ∷ []) ++ xs)
      (handed-timeless passed (next ∷ before) last sent (omega arith))

-- a frame came to this port of its path last, and this is its record there; the records before are those of the ports
-- before
pub record IsLast (Here : HopRecord → Type 0) (path : List ℕ) (hops : List HopRecord) : Type 0 where
  pub passed : List ℕ
  pub port : ℕ
  pub ahead : List ℕ
  pub before : List HopRecord
  pub last : HopRecord
  pub along : path ≡ passed ++ port ∷ ahead
  pub recorded : hops ≡ before ++ last ∷ []
  pub same : length before ≡ length passed
  pub here : Here last

module _ (Here : HopRecord → Type 0) (path : List ℕ) (hops : List HopRecord) (at : IsLast Here path hops) where
  -- its last record stands where the records before it end, and so does the port
  pub place-of-last : length hops - 1 ≡ length at.before
  place-of-last = omega (
    arith,
    ap (λ (hs : List HopRecord). length hs) at.recorded,
    length-append at.before (at.last ∷ []),
  )

  -- at the port's place in the path
  pub port-of-last : (d : ℕ) → get_or path (length hops - 1) d ≡ at.port
  port-of-last d =
      ap (λ (ps : List ℕ). get_or ps (length hops - 1) d) at.along
      ∙ get_or_at at.passed at.port at.ahead d (length hops - 1) (omega (arith, place-of-last, at.same))

  -- and at its own among the records
  pub record-of-last : (d : HopRecord) → get_or hops (length hops - 1) d ≡ at.last
  record-of-last d =
      ap (λ (hs : List HopRecord). get_or hs (length hops - 1) d) at.recorded
      ∙ get_or_at at.before at.last [] d (length hops - 1) (omega (arith, place-of-last))

  -- another record in its place
  pub set-last : (hop : HopRecord) → set hops (length hops - 1) hop ≡ at.before ++ hop ∷ []
  set-last hop =
      ap (λ (hs : List HopRecord). set hs (length hops - 1) hop) at.recorded
      ∙ set_at at.before at.last [] hop (length hops - 1) (omega (arith, place-of-last))

  -- one more
  pub push-last : (hop : HopRecord) → hops ++ hop ∷ [] ≡ at.before ++ at.last ∷ hop ∷ []
  push-last hop =
      ap (λ (hs : List HopRecord). hs ++ hop ∷ []) at.recorded ∙ append_assoc at.before (at.last ∷ []) (hop ∷ [])

module _ (frame : ℕ) (release : Release) (sender : Sender) (Here : HopRecord → Type 0) (path : List ℕ)
    (hops : List HopRecord) (at : IsLast Here path hops) where
  -- what a frame gives, where its last record is this one, and more follow
  hops-to : (last : HopRecord) (more : List HopRecord)
      → hops_along frame release sender path (at.before ++ last ∷ more)
      ≡ hops_along frame release sender at.passed at.before
      ++ (hop_at at.port (transmission_of frame release (class_at sender at.port) last)
      ++ hops_along frame release sender at.ahead more)
  hops-to last more =
      ap (λ (ps : List ℕ). hops_along frame release sender ps (at.before ++ last ∷ more)) at.along
      ∙ hops-split frame release sender at.passed (at.port ∷ at.ahead) at.before (last ∷ more) at.same

  -- its crossings
  crossings-to : (last : HopRecord) (more : List HopRecord) (ending : Ending)
      → crossings_along frame release sender path (at.before ++ last ∷ more) ending
      ≡ crossings_along frame release sender at.passed at.before (Sink last.arrival)
      ++ (crossing_at release.octets last.arrival.0 at.port
      (transmission_of frame release (class_at sender at.port) last) more ending
      ++ crossings_along frame release sender at.ahead more ending)
  crossings-to last more ending =
      ap (λ (ps : List ℕ). crossings_along frame release sender ps (at.before ++ last ∷ more) ending) at.along
      ∙ crossings-split frame release sender at.passed (at.port ∷ at.ahead) at.before last more ending at.same

  -- and what was handed on of it
  handed-to : (last : HopRecord) (more : List HopRecord)
      → handed_along frame release sender path (at.before ++ last ∷ more)
      ≡ handed_along frame release sender at.passed (at.before ++ last ∷ [])
      ++ (handed_at release.octets last.arrival.0 at.port
      (transmission_of frame release (class_at sender at.port) last) more
      ++ handed_along frame release sender at.ahead more)
  handed-to last more =
      ap (λ (ps : List ℕ). handed_along frame release sender ps (at.before ++ last ∷ more)) at.along
      ∙ handed-split frame release sender at.passed (at.port ∷ at.ahead) at.before last more at.same

  -- as long as the last port has not sent the frame, it gives what it gave before it came there
  pub hops-waiting : (last : HopRecord) → last.sent ≡ None
      → hops_along frame release sender path (at.before ++ last ∷ [])
      ≡ hops_along frame release sender at.passed at.before
  hops-waiting last none =
      let first : List Hop = hops_along frame release sender at.passed at.before in
      hops-to last []
      ∙ ap (λ (t : Option Transmission). first ++ (hop_at at.port t ++ hops_along frame release sender at.ahead []))
      (never-sent frame release (class_at sender at.port) last none)
      ∙ ap (λ (hs : List Hop). first ++ hs) (no-hops frame release sender at.ahead)
      ∙ append-nil first

  -- and then the transmission too
  pub hops-sent : (last : HopRecord) (t : Transmission) (more : List HopRecord)
      → transmission_of frame release (class_at sender at.port) last ≡ Some t
      → hops_along frame release sender at.ahead more ≡ []
      → hops_along frame release sender path (at.before ++ last ∷ more)
      ≡ hops_along frame release sender at.passed at.before ++ record { port = at.port; sent = t } ∷ []
  hops-sent last t more is none =
      let first : List Hop = hops_along frame release sender at.passed at.before in
      hops-to last more
      ∙ ap (λ (o : Option Transmission). first
      ++ (hop_at at.port o ++ hops_along frame release sender at.ahead more)) is
      ∙ ap (λ (hs : List Hop). first ++ record { port = at.port; sent = t } ∷ hs) none

  -- a frame that has not arrived behind the last port has crossed those before alone
  pub crossings-waiting : (last : HopRecord) → last.sent ≡ None
      → crossings_along frame release sender path (at.before ++ last ∷ []) Discard
      ≡ crossings_along frame release sender at.passed at.before (Sink last.arrival)
  crossings-waiting last none =
      let first : List Crossing = crossings_along frame release sender at.passed at.before (Sink last.arrival) in
      crossings-to last [] Discard
      ∙ ap (λ (t : Option Transmission). first ++ (crossing_at release.octets last.arrival.0 at.port t [] Discard
      ++ crossings_along frame release sender at.ahead [] Discard))
      (never-sent frame release (class_at sender at.port) last none)
      ∙ ap (λ (xs : List Crossing). first ++ xs) (no-crossings frame release sender at.ahead Discard)
      ∙ append-nil first

  -- also while it is sent, and until it is known when it arrives
  pub crossings-sent : (last : HopRecord) (t : Transmission)
      → transmission_of frame release (class_at sender at.port) last ≡ Some t
      → crossings_along frame release sender path (at.before ++ last ∷ []) Discard
      ≡ crossings_along frame release sender at.passed at.before (Sink last.arrival)
  crossings-sent last t is =
      let first : List Crossing = crossings_along frame release sender at.passed at.before (Sink last.arrival) in
      crossings-to last [] Discard
      ∙ ap (λ (o : Option Transmission). first ++ (crossing_at release.octets last.arrival.0 at.port o [] Discard
      ++ crossings_along frame release sender at.ahead [] Discard)) is
      ∙ ap (λ (xs : List Crossing). first ++ xs) (no-crossings frame release sender at.ahead Discard)
      ∙ append-nil first

  -- and one that is on its way behind the last port has crossed it too, with this arrival
  pub crossings-left : (last : HopRecord) (t : Transmission) (arrival : Ps)
      → transmission_of frame release (class_at sender at.port) last ≡ Some t
      → crossings_along frame release sender path (at.before ++ last ∷ []) (Sink arrival)
      ≡ crossings_along frame release sender at.passed at.before (Sink last.arrival)
      ++ crossing_of release.octets last.arrival.0 at.port t arrival.0 ∷ []
  crossings-left last t arrival is =
      let first : List Crossing = crossings_along frame release sender at.passed at.before (Sink last.arrival) in
      crossings-to last [] (Sink arrival)
      ∙ ap (λ (o : Option Transmission). first ++ (crossing_at release.octets last.arrival.0 at.port o [] (Sink arrival)
      ++ crossings_along frame release sender at.ahead [] (Sink arrival))) is
      ∙ ap (λ (xs : List Crossing). first ++ crossing_of release.octets last.arrival.0 at.port t arrival.0 ∷ xs)
      (no-crossings frame release sender at.ahead (Sink arrival))

  -- as has one that came to the next port then
  pub crossings-came : (last next : HopRecord) (t : Transmission)
      → transmission_of frame release (class_at sender at.port) last ≡ Some t → next.sent ≡ None
      → crossings_along frame release sender path (at.before ++ last ∷ next ∷ []) Discard
      ≡ crossings_along frame release sender at.passed at.before (Sink last.arrival)
      ++ crossing_of release.octets last.arrival.0 at.port t next.arrival.0 ∷ []
  crossings-came last next t is none =
      let first : List Crossing = crossings_along frame release sender at.passed at.before (Sink last.arrival) in
      crossings-to last (next ∷ []) Discard
      ∙ ap (λ (o : Option Transmission). first
      ++ (crossing_at release.octets last.arrival.0 at.port o (next ∷ []) Discard
      ++ crossings_along frame release sender at.ahead (next ∷ []) Discard)) is
      ∙ ap (λ (xs : List Crossing). first ++ crossing_of release.octets last.arrival.0 at.port t next.arrival.0 ∷ xs)
      (unsent-crossings frame release sender at.ahead next Discard none)

  -- what was handed on is what the ports before the last have handed on
  pub handed-here : (last : HopRecord) → handed_along frame release sender path (at.before ++ last ∷ [])
      ≡ handed_along frame release sender at.passed (at.before ++ last ∷ [])
  handed-here last =
      let t : Option Transmission = transmission_of frame release (class_at sender at.port) last in
      let first : List Handed = handed_along frame release sender at.passed (at.before ++ last ∷ []) in
      handed-to last []
      ∙ ap (λ (xs : List Handed). first ++ (xs ++ handed_along frame release sender at.ahead []))
      (handed-none frame release sender release.octets last.arrival.0 at.port t)
      ∙ ap (λ (xs : List Handed). first ++ xs) (no-handed frame release sender at.ahead)
      ∙ append-nil first

  -- and once the frame came to the next port, what the last one has
  pub handed-came : (last next : HopRecord) (t : Transmission)
      → transmission_of frame release (class_at sender at.port) last ≡ Some t
      → handed_along frame release sender path (at.before ++ last ∷ next ∷ [])
      ≡ handed_along frame release sender at.passed (at.before ++ last ∷ [])
      ++ record {
        crossing = crossing_of release.octets last.arrival.0 at.port t next.arrival.0;
        verdict = next.verdict;
      } ∷ []
  handed-came last next t is =
      let first : List Handed = handed_along frame release sender at.passed (at.before ++ last ∷ []) in
      let one : Handed = record {
        crossing = crossing_of release.octets last.arrival.0 at.port t next.arrival.0;
        verdict = next.verdict;
      } in
      handed-to last (next ∷ [])
      ∙ ap (λ (o : Option Transmission). first ++ (handed_at release.octets last.arrival.0 at.port o (next ∷ [])
      ++ handed_along frame release sender at.ahead (next ∷ []))) is
      ∙ ap (λ (xs : List Handed). first ++ one ∷ xs) (last-handed frame release sender at.ahead next)
