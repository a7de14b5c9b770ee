use Rattle.std.proofs.Common.{◌≡◌, ℕ, ◌+◌, ◌<◌, List, [], ◌∷◌, ◌++◌, length, get_or, sym}
use Rattle.std.proofs.Common.{ap, ◌∙◌, subst, inl, inr, arith}
use Rattle.std.proofs.lemmas.Bool.{cases_lt}
use Rattle.std.proofs.lemmas.List.{get_or_append_left, get_or_push}
use Rattle.ats_streams.specs.Stream.{DeclaredStream}
use Rattle.ats_network.specs.Sender.{Sender}
use Rattle.ats_network.specs.Network.{DeclaredNetwork}
use Rattle.ats_trace.specs.declared.journey.Release.{Release}
use Rattle.ats_conform.specs.Metering.{Metering}
use Rattle.ats_conform.specs.Steps.{meter_after}
use Rattle.ats_conform.proofs.SenderParts.{stream-at}

-- the meter of a stream before any release
pub meter-first : (network : DeclaredNetwork) (releases : List Release) (i : ℕ) (stream : DeclaredStream)
    (rate burst : ℕ) → i < length network.streams → stream ≡ get_or network.streams i stream
    → rate ≡ stream.rate → burst ≡ stream.burst_bits
    → (let m : Metering = record { rate = rate; burst = burst; taken = [] } in m) ≡ meter_after network releases 0 i
meter-first network releases i stream rate burst h is r b =
    let sender = stream-at network i stream h in
    let one : rate ≡ (get_or network.streams i stream).rate = r ∙ ap (λ (s : DeclaredStream). s.rate) is in
    let two : burst ≡ (get_or network.streams i stream).burst_bits = b ∙ ap (λ (s : DeclaredStream). s.burst_bits) is in
    rw (one, two) (ap (λ (s : Sender). let m : Metering =
    record { rate = s.rate; burst = s.burst_bits; taken = [] } in m) (sym sender))

-- the meters of the first streams, and the next one
pub meters-more : (network : DeclaredNetwork) (releases : List Release) (n : ℕ) (meters new : List Metering)
    (meter : Metering) → new ≡ meters ++ meter ∷ [] → length meters ≡ n
    → ((i : ℕ) (d : Metering) → i < n → get_or meters i d ≡ meter_after network releases 0 i)
    → meter ≡ meter_after network releases 0 n
    → (i : ℕ) (d : Metering) → i < n + 1 → get_or new i d ≡ meter_after network releases 0 i
meters-more network releases n meters new meter is size each one i d h =
    ap (λ (l : List Metering). get_or l i d) is
    ∙ elim (cases_lt i n) as (λ _. get_or (meters ++ meter ∷ []) i d ≡ meter_after network releases 0 i) [
      | inl old ↦ (get_or_append_left meters (meter ∷ []) d i (omega arith) ∙ each i d old)
      | inr end ↦ (
          let last : n ≡ i = omega arith in
          subst (λ (k : ℕ). get_or (meters ++ meter ∷ []) k d ≡ meter_after network releases 0 k) last
          (get_or_push meters meter d n size ∙ one))
    ]
