use Rattle.std.proofs.Common.{◌≡◌, ℕ, List, false, length, Option, sym, ap, subst, ◌∙◌, arith, sum_by}
use Rattle.std.specs.Prelude.{MatchOption, slice_index_or}
use Rattle.ats_network.specs.Class.{class_at}
use Rattle.ats_network.specs.Rates.{ports_to}
use Rattle.ats_network.specs.Sender.{Sender}
use Rattle.ats_network.specs.Senders.{sender_at}
use Rattle.ats_certificate.specs.PortSums.{uses}
use Rattle.ats_tally.proofs.Network.{few_ports}
use Rattle.ats_witness.specs.Burst.{time_over}
use Rattle.ats_witness.specs.Made.{IsParticipant}
use Rattle.ats_witness.specs.declared.participant.Participant.{Participant}
use Rattle.ats_witness.proofs.TravelLemmas.{not_on, on_path}
use Rattle.ats_witness.proofs.participant.taking_part.Goals as goal

pub returns-in_err-place : goal.returns-in_err-place
returns-in_err-place c =
    let s = sender_at c.args.network.now c.args.sender in
    let none : uses c.args.port s ≡ false =
    ap (λ (ports : List ℕ). uses c.args.port (record s { ports = ports })) (sym c.sender_ports.ensures.value)
    ∙ not_on c.args.port c.sender_ports.result.now (sym c.place_of.ensures.place ∙ c.in_err-place.was) in
    subst (λ (o : Option Participant).
    MatchOption o (uses c.args.port s ≡ false) (IsParticipant c.args.network.now c.args.port s))
    (sym c.from_residual.ensures) none

pub overflow_cast-place : goal.overflow_cast-place
overflow_cast-place c =
    let few = few_ports c.args.network.now c.args.sender c.sender_ports.ensures.rules c.requires.sender in
    let on = on_path c.args.port c.sender_ports.result.now c.in_ok-place.place
    (sym c.place_of.ensures.place ∙ c.in_ok-place.was) in
    omega (arith, few, on.within, ap (λ (l : List ℕ). length l) c.sender_ports.ensures.value)

pub returns : goal.returns
returns c =
    let network = c.args.network.now in
    let s = sender_at network c.args.sender in
    let ports = c.sender_ports.result.now in
    let on = on_path c.args.port ports c.in_ok-place.place (sym c.place_of.ensures.place ∙ c.in_ok-place.was) in
    let same : ports ≡ s.ports = c.sender_ports.ensures.value in
    let port : slice_index_or s.ports c.in_ok-place.place 0 ≡ c.args.port =
    ap (λ (l : List ℕ). slice_index_or l c.in_ok-place.place 0) (sym same) ∙ on.there in
    let longest = c.burst_and_longest-burst_bits.ensures.longest
    ∙ ap (λ (x : Sender). x.max_octets) c.sender.ensures.value in
    record {
      used = ap (λ (l : List ℕ). uses c.args.port (record s { ports = l })) (sym same) ∙ on.has;
      class = c.sender_class.ensures.port ∙ ap (class_at s) port;
      burst = c.burst_and_longest-burst_bits.ensures.burst ∙ ap (λ (x : Sender). x.burst_bits) c.sender.ensures.value;
      longest = longest;
      size = c.burst_and_longest-burst_bits.ensures.size;
      travel = c.travel_to.ensures.value
          ∙ ap (λ (n : ℕ). sum_by (time_over network n) (ports_to s c.args.port)) longest;
      most = c.travel_to.ensures.most;
    }
