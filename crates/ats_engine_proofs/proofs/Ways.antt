-- What a step does to the hop records of a frame along a leg.
use Rattle.std.proofs.Common.{◌≡◌, ◌≢◌, ℕ, zero, suc, ◌-◌, ◌<◌, ◌≤◌, List, [], ◌∷◌, ◌++◌, length, get_or, set}
use Rattle.std.proofs.Common.{Option, Some, None, refl, sym, ap, ◌∙◌, arith}
use Rattle.std.proofs.lemmas.Option.{none-some}
use Rattle.ats_num.specs.declared.time.Ps.{Ps}
use Rattle.ats_group.specs.declared.verdict.Verdict.{Verdict}
use Rattle.ats_group.specs.declared.verdict.Verdict.TheVariants.{Eligible}
use Rattle.ats_trace.specs.Journey.{IsSentOrEnds, IsWay}
use Rattle.ats_trace.specs.declared.journey.Ending.{Ending}
use Rattle.ats_trace.specs.declared.journey.Ending.TheVariants.{Sink, Discard}
use Rattle.ats_trace.specs.HopRecord.{HopRecord}
use Rattle.ats_trace.specs.declared.journey.Release.{Release}
use Rattle.ats_run_records.specs.Progress.{no_hop}
use Rattle.ats_engine_steps.specs.Frames.{IsUnsent, IsSent, Goes, Stands, HasBegun, BeginsBy}
use Rattle.ats_engine_steps.specs.Steps.{came}

-- a frame that was sent goes on
sent-onward : (onward : Type 0) (hop : HopRecord) (hops : List HopRecord) (ending : Ending) → IsSent hop → onward
    → IsSentOrEnds onward hop.verdict hop.sent hops ending
sent-onward onward hop hops ending sent on = rw (sent.verdict, sent.sent) on

-- a record of a frame that was sent, before those of the rest of the path
stands-more : (Last : HopRecord → Type 0) (p : ℕ) (path : List ℕ) (hop : HopRecord) (hops : List HopRecord)
    → IsSent hop → Stands Last path hops → Stands Last (p ∷ path) (hop ∷ hops)
stands-more Last p [] hop hops sent stands = absurd stands
stands-more Last p (q ∷ path) hop [] sent stands = absurd stands
stands-more Last p (q ∷ path) hop (next ∷ hops) sent stands = (sent, stands)

-- a frame that stands at a port has a hop record
pub stands-some : (Last : HopRecord → Type 0) (path : List ℕ) (hops : List HopRecord) → Stands Last path hops
    → 0 < length hops
stands-some Last [] hops stands = absurd stands
stands-some Last (p ∷ path) [] stands = absurd stands
stands-some Last (p ∷ path) (hop ∷ hops) stands = omega arith

-- and no more of them than its path has ports
pub stands-within : (Last : HopRecord → Type 0) (path : List ℕ) (hops : List HopRecord) → Stands Last path hops
    → length hops ≤ length path
stands-within Last [] hops stands = absurd stands
stands-within Last (p ∷ path) [] stands = absurd stands
stands-within Last (p ∷ path) (hop ∷ []) stands = omega arith
stands-within Last (p ∷ path) (hop ∷ next ∷ hops) stands =
    omega (arith, stands-within Last path (next ∷ hops) stands.1)

-- what the last record says may be weakened
pub stands-weaker : (Last Other : HopRecord → Type 0) → ((hop : HopRecord) → Last hop → Other hop) → (path : List ℕ)
    (hops : List HopRecord) → Stands Last path hops → Stands Other path hops
stands-weaker Last Other weaker [] hops stands = absurd stands
stands-weaker Last Other weaker (p ∷ path) [] stands = absurd stands
stands-weaker Last Other weaker (p ∷ path) (hop ∷ []) stands = weaker hop stands
stands-weaker Last Other weaker (p ∷ path) (hop ∷ next ∷ hops) stands =
    (stands.0, stands-weaker Last Other weaker path (next ∷ hops) stands.1)

-- a frame that was to come to the next port stands there once it has a record more
pub goes-stands : (Last : HopRecord → Type 0) (path : List ℕ) (hops : List HopRecord) (hop : HopRecord)
    → Goes path hops → Last hop → Stands Last path (hops ++ hop ∷ [])
goes-stands Last [] hops hop goes last = absurd goes
goes-stands Last (p ∷ path) [] hop goes last = last
goes-stands Last (p ∷ path) (h ∷ hops) hop goes last =
    stands-more Last p path h (hops ++ hop ∷ []) goes.0 (goes-stands Last path hops hop goes.1 last)

-- or its way ends there, if the record ends it
pub goes-discarded : (path : List ℕ) (hops : List HopRecord) (hop : HopRecord)
    → ((rest : List ℕ) → IsSentOrEnds (IsWay rest [] Discard) hop.verdict hop.sent [] Discard)
    → Goes path hops → IsWay path (hops ++ hop ∷ []) Discard
goes-discarded [] hops hop ends goes = absurd goes
goes-discarded (p ∷ path) [] hop ends goes = ends path
goes-discarded (p ∷ path) (h ∷ hops) hop ends goes =
    sent-onward (IsWay path (hops ++ hop ∷ []) Discard) h (hops ++ hop ∷ []) Discard goes.0
    (goes-discarded path hops hop ends goes.1)

-- a record more keeps the first one, or is the first of a trunk, whose frame is eligible at its release
pub begun-more : (leg : ℕ) (release : Release) (start : Option HopRecord) (hops : List HopRecord) (at : Ps)
    (verdict : Verdict) → BeginsBy leg release start hops at → (length hops ≡ 0 → verdict ≡ Eligible at)
    → HasBegun leg release start (hops ++ came at verdict ∷ [])
begun-more zero release start [] at verdict begins first =
    (begins, first refl ∙ ap (λ (e : Ps). Eligible e) begins)
begun-more zero release start (hop ∷ hops) at verdict begins first = begins
begun-more (suc copy) release (Some start) [] at verdict begins first = absurd begins
begun-more (suc copy) release (Some start) (hop ∷ hops) at verdict begins first = begins
begun-more (suc copy) release None [] at verdict begins first = absurd begins
begun-more (suc copy) release None (hop ∷ hops) at verdict begins first = absurd begins

-- the frame is sent
abbrev pub sent_hops : List HopRecord → ℕ → Ps → Ps → List HopRecord
sent_hops hops k start end = set hops k (record (get_or hops k no_hop) { sent = Some (start, end) })

-- where its last record has this place, it tells of that
stands-sent-at : (path : List ℕ) (hops : List HopRecord) (k : ℕ) (start end : Ps) → length hops ≡ suc k
    → Stands IsUnsent path hops → Stands IsSent path (sent_hops hops k start end)
stands-sent-at [] hops k start end long stands = absurd stands
stands-sent-at (p ∷ path) [] k start end long stands = absurd stands
stands-sent-at (p ∷ path) (hop ∷ []) zero start end long stands = record {
  eligible = stands.eligible;
  times = (start, end);
  verdict = stands.verdict;
  sent = refl;
}
stands-sent-at (p ∷ path) (hop ∷ []) (suc k) start end long stands = absurd (omega arith)
stands-sent-at (p ∷ path) (hop ∷ next ∷ hops) zero start end long stands = absurd (omega arith)
stands-sent-at (p ∷ path) (hop ∷ next ∷ hops) (suc k) start end long stands =
    stands-more IsSent p path hop (sent_hops (next ∷ hops) k start end) stands.0
    (stands-sent-at path (next ∷ hops) k start end (omega arith) stands.1)

-- so it is
pub stands-sent : (path : List ℕ) (hops : List HopRecord) (start end : Ps) → Stands IsUnsent path hops
    → Stands IsSent path (sent_hops hops (length hops - 1) start end)
stands-sent path hops start end stands =
    let some = stands-some IsUnsent path hops stands in
    stands-sent-at path hops (length hops - 1) start end (omega arith) stands

-- which leaves its arrivals and verdicts
pub begun-sent : (leg : ℕ) (release : Release) (start : Option HopRecord) (hops : List HopRecord) (k : ℕ)
    (begin end : Ps) → HasBegun leg release start hops → HasBegun leg release start (sent_hops hops k begin end)
begun-sent zero release start [] k begin end begun = absurd begun
begun-sent zero release start (hop ∷ hops) zero begin end begun = begun
begun-sent zero release start (hop ∷ hops) (suc k) begin end begun = begun
begun-sent (suc copy) release None hops k begin end begun = absurd begun
begun-sent (suc copy) release (Some start) [] k begin end begun = absurd begun
begun-sent (suc copy) release (Some start) (hop ∷ hops) zero begin end begun = begun
begun-sent (suc copy) release (Some start) (hop ∷ hops) (suc k) begin end begun = begun

-- once it was sent by a port that is not its path's last, more ports follow
pub sent-goes : (path : List ℕ) (hops : List HopRecord) → Stands IsSent path hops → length hops ≢ length path
    → Goes path hops
sent-goes [] hops stands more = absurd stands
sent-goes (p ∷ path) [] stands more = absurd stands
sent-goes (p ∷ []) (hop ∷ []) stands more = absurd (more refl)
sent-goes (p ∷ q ∷ path) (hop ∷ []) stands more = (stands, tt)
sent-goes (p ∷ path) (hop ∷ next ∷ hops) stands more =
    (stands.0, sent-goes path (next ∷ hops) stands.1 (λ same. more (omega arith)))

-- behind the last one its way is whole
pub sent-way : (path : List ℕ) (hops : List HopRecord) (at : Ps) → Stands IsSent path hops
    → length hops ≡ length path → IsWay path hops (Sink at)
sent-way [] hops at stands all = absurd stands
sent-way (p ∷ path) [] at stands all = absurd stands
sent-way (p ∷ []) (hop ∷ []) at stands all = sent-onward (Unit {0}) hop [] (Sink at) stands tt
sent-way (p ∷ q ∷ path) (hop ∷ []) at stands all = absurd (omega arith)
sent-way (p ∷ path) (hop ∷ next ∷ hops) at stands all =
    sent-onward (IsWay path (next ∷ hops) (Sink at)) hop (next ∷ hops) (Sink at) stands.0
    (sent-way path (next ∷ hops) at stands.1 (omega arith))

-- a frame that came to a port comes to the next one whenever it arrives there
pub begun-comes : (leg : ℕ) (release : Release) (start : Option HopRecord) (hops : List HopRecord) (at : Ps)
    → HasBegun leg release start hops → BeginsBy leg release start hops at
begun-comes zero release start [] at begun = absurd begun
begun-comes zero release start (hop ∷ hops) at begun = begun
begun-comes (suc copy) release start hops at begun = begun

-- two records of a frame at a hop have one arrival and one verdict, if there are any
abbrev pub AreLike : Option HopRecord → Option HopRecord → Type 0
AreLike None None = Unit {0}
AreLike (Some a) (Some b) = (a.arrival ≡ b.arrival) × (a.verdict ≡ b.verdict)
AreLike a b = ⊥

pub like-same : (start : Option HopRecord) → AreLike start start
like-same None = tt
like-same (Some a) = (refl, refl)

pub like-none : (start other : Option HopRecord) → AreLike start other → start ≡ None → other ≡ None
like-none None None like none = refl
like-none None (Some b) like none = absurd like
like-none (Some a) None like none = absurd like
like-none (Some a) (Some b) like none = absurd (none-some a (sym none))

-- a leg has begun by the one where it has by the other
pub begun-like : (leg : ℕ) (release : Release) (start other : Option HopRecord) (hops : List HopRecord)
    → AreLike start other → HasBegun leg release start hops → HasBegun leg release other hops
begun-like zero release start other hops like begun = begun
begun-like (suc copy) release None other hops like begun = absurd begun
begun-like (suc copy) release (Some a) None hops like begun = absurd like
begun-like (suc copy) release (Some a) (Some b) [] like begun = absurd begun
begun-like (suc copy) release (Some a) (Some b) (hop ∷ hops) like begun = (begun.0 ∙ like.0, begun.1 ∙ like.1)

pub begins-like : (leg : ℕ) (release : Release) (start other : Option HopRecord) (hops : List HopRecord) (at : Ps)
    → AreLike start other → BeginsBy leg release start hops at → BeginsBy leg release other hops at
begins-like zero release start other [] at like begins = begins
begins-like zero release start other (hop ∷ hops) at like begins = begins
begins-like (suc copy) release start other hops at like begins =
    begun-like (suc copy) release start other hops like begins
