-- The journeys of frames over a path of two ports.
use Rattle.std.proofs.Common.{◌≡◌, ℕ, ◌<◌, List, [], ◌∷◌, ◌++◌, ◌∙◌, length, All, Some, None}
use Rattle.std.proofs.Common.{ap, refl, sym, subst, arith}
use Rattle.std.proofs.lemmas.List.{nil_from_length}
use Rattle.std.proofs.lemmas.List.Elements.{All-cons}
use Rattle.ats_group.specs.declared.verdict.Verdict.TheVariants.{Eligible, Late, Size}
use Rattle.ats_streams.proofs.BranchLemmas.{legs-length}
use Rattle.ats_network.specs.Network.{DeclaredNetwork, senders_of}
use Rattle.ats_network.specs.Senders.{sender_at}
use Rattle.ats_trace.specs.Journey.{IsJourney, IsWay, Travel, legs_at}
use Rattle.ats_trace.specs.Stored.{travels_of}
use Rattle.ats_trace.specs.declared.journey.Journey.{Journey}
use Rattle.ats_trace.specs.declared.journey.Span.{Span}
use Rattle.ats_trace.specs.HopRecord.{HopRecord}
use Rattle.ats_trace.specs.declared.journey.Ending.{Ending}
use Rattle.ats_trace.specs.declared.journey.Ending.TheVariants.{Sink, Discard}
use Rattle.ats_trace.proofs.OneListener.{journey_alone}

-- a way over any two ports is one over a path of two
over_two : (path : List ℕ) (hops : List HopRecord) (ending : Ending) → length path ≡ 2
    → ((p q : ℕ) → IsWay (p ∷ q ∷ []) hops ending) → IsWay path hops ending
over_two [] hops ending long way = absurd (omega (arith, long))
over_two (p ∷ []) hops ending long way = absurd (omega (arith, long))
over_two (p ∷ q ∷ []) hops ending long way = way p q
over_two (p ∷ q ∷ r ∷ path) hops ending long way = absurd (omega (arith, long))

-- a sender with one leg has no branch
alone : (network : DeclaredNetwork) → length (legs_at network 0) ≡ 1 → (sender_at network 0).branches ≡ []
alone network one =
    let s = sender_at network 0 in nil_from_length s.branches (omega (arith, legs-length 0 s.ports s.branches, one))

none : (network : DeclaredNetwork) → All (IsJourney network) []
none network i d within = absurd (omega (arith, within))

-- a row of sender 0 with this size and ending, and a record with these parts
abbrev pub row : ℕ → Ending → Journey
row octets ending =
    record { release = record { at = record { 0 = 0 }; sender = 0; octets = octets }; ending = ending }

abbrev pub two : ℕ → Span
two first = record { first = first; leg = 0; count = 2; room = 2 }

-- the record of a frame that comes at this time and is sent, of one that is too long, and of one that is too late
abbrev pub passing : ℕ → ℕ → ℕ → HopRecord
passing arrival start end = record {
  arrival = record { 0 = arrival };
  verdict = Eligible (record { 0 = arrival });
  sent = Some (record { 0 = start }, record { 0 = end });
}

abbrev pub too_long : ℕ → HopRecord
too_long arrival = record { arrival = record { 0 = arrival }; verdict = Size; sent = None }

abbrev pub too_late : ℕ → ℕ → HopRecord
too_late arrival eligible =
    record { arrival = record { 0 = arrival }; verdict = Late (record { 0 = eligible }); sent = None }

-- a frame of 1522 octets that is sent at both ports and arrives
pub sent_goes : (network : DeclaredNetwork) (run : List Travel) (rows : List Journey) (spans : List Span)
    (firsts : List ℕ) (hops : List HopRecord) → run ≡ travels_of rows spans firsts hops
    → rows ≡ row 1522 (Sink (record { 0 = 26672000 })) ∷ [] → spans ≡ two 0 ∷ [] → firsts ≡ 1 ∷ []
    → hops ≡ passing 0 0 12336000 ∷ passing 13836000 13836000 26172000 ∷ [] → 0 < length (senders_of network)
    → length (legs_at network 0) ≡ 1 → length (sender_at network 0).ports ≡ 2 → All (IsJourney network) run
sent_goes network run rows spans firsts hops is e f b g sender one path =
    let row_there : Journey = row 1522 (Sink (record { 0 = 26672000 })) in
    let records : List HopRecord = passing 0 0 12336000 ∷ passing 13836000 13836000 26172000 ∷ [] in
    let all : run ≡ travels_of (row_there ∷ []) (two 0 ∷ []) (1 ∷ []) records =
    is ∙ ap (λ r. travels_of r spans firsts hops) e ∙ ap (λ s. travels_of (row_there ∷ []) s firsts hops) f
    ∙ ap (λ b. travels_of (row_there ∷ []) (two 0 ∷ []) b hops) b
    ∙ ap (λ h. travels_of (row_there ∷ []) (two 0 ∷ []) (1 ∷ []) h) g in
    let journey : Travel =
    record { release = row_there.release; hops = records; ending = row_there.ending; copies = [] } in
    subst (All (IsJourney network)) (sym all) (All-cons (IsJourney network) journey []
    (journey_alone network journey (alone network one) refl sender
    (record { least = omega arith; most = omega arith })
    (over_two (sender_at network 0).ports records row_there.ending path (λ p q. tt)) (refl, refl)) (none network))

-- a frame of 1523 octets that is too long for its stream, and one of 64 that would be eligible too late
pub discarded_go : (network : DeclaredNetwork) (run : List Travel) (rows : List Journey) (spans : List Span)
    (firsts : List ℕ) (hops : List HopRecord) → run ≡ travels_of rows spans firsts hops
    → rows ≡ row 1523 Discard ∷ row 64 Discard ∷ [] → spans ≡ two 0 ∷ two 2 ∷ [] → firsts ≡ 2 ∷ 2 ∷ []
    → hops ≡ passing 0 0 12344000 ∷ too_long 13844000 ∷ passing 0 12344000 13016000 ∷ too_late 14516000 33372000 ∷ []
    → 0 < length (senders_of network) → length (legs_at network 0) ≡ 1 → length (sender_at network 0).ports ≡ 2
    → All (IsJourney network) run
discarded_go network run rows spans firsts hops is e f b g sender one path =
    let both : List Journey = row 1523 Discard ∷ row 64 Discard ∷ [] in
    let long : List HopRecord = passing 0 0 12344000 ∷ too_long 13844000 ∷ [] in
    let late : List HopRecord = passing 0 12344000 13016000 ∷ too_late 14516000 33372000 ∷ [] in
    let all : run ≡ travels_of both (two 0 ∷ two 2 ∷ []) (2 ∷ 2 ∷ []) (long ++ late) =
    is ∙ ap (λ r. travels_of r spans firsts hops) e ∙ ap (λ s. travels_of both s firsts hops) f
    ∙ ap (λ b. travels_of both (two 0 ∷ two 2 ∷ []) b hops) b
    ∙ ap (λ h. travels_of both (two 0 ∷ two 2 ∷ []) (2 ∷ 2 ∷ []) h) g in
    let first : Travel = record { release = (row 1523 Discard).release; hops = long; ending = Discard; copies = [] } in
    let second : Travel = record { release = (row 64 Discard).release; hops = late; ending = Discard; copies = [] } in
    subst (All (IsJourney network)) (sym all) (All-cons (IsJourney network) first (second ∷ [])
    (journey_alone network first (alone network one) refl sender
    (record { least = omega arith; most = omega arith })
    (over_two (sender_at network 0).ports long Discard path (λ p q. (refl, refl))) (refl, refl))
    (All-cons (IsJourney network) second []
    (journey_alone network second (alone network one) refl sender
    (record { least = omega arith; most = omega arith })
    (over_two (sender_at network 0).ports late Discard path (λ p q. (refl, refl))) (refl, refl)) (none network)))
