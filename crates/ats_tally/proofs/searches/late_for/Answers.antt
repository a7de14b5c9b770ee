use Rattle.std.proofs.Common.{◌≡◌, ℕ, List, get_or, Option, Some, ap, sym, ◌∙◌, arith}
use Rattle.std.proofs.lemmas.List.{get_or_default}
use Rattle.ats_streams.specs.Stream.{DeclaredStream}
use Rattle.ats_network.specs.Edits.{no_stream}
use Rattle.ats_network.specs.Network.{DeclaredNetwork}
use Rattle.ats_tally.specs.Listeners.{listener_at}
use Rattle.ats_tally.specs.declared.reason.Reason.TheVariants.{Deadline}
use Rattle.ats_tally.proofs.Reasons.{late_past, not_late}
use Rattle.ats_tally.proofs.searches.late_for.Goals.{After-index-streams-stream}
use Rattle.ats_tally.proofs.searches.late_for.Goals as goal

-- the stream that is looked at
one : (c : After-index-streams-stream) → c.index-streams-stream.result
    ≡ get_or c.args.delays.now.network.streams c.args.stream no_stream
one c =
    let d : DeclaredStream = c.index-streams-stream.result in
    let streams : c.streams.result.now ≡ c.args.delays.now.network.streams =
    c.streams.ensures.value ∙ ap (λ (n : DeclaredNetwork). n.streams) c.network.ensures.value in
    c.index-streams-stream.is
    ∙ ap (λ (streams : List DeclaredStream). get_or streams c.args.stream d) streams
    ∙ get_or_default c.args.delays.now.network.streams c.args.stream d no_stream c.requires.stream

pub returns-then-sum-from : goal.returns-then-sum-from
returns-then-sum-from c =
    let item = one (goal.at.returns-then-sum-from c).After-index-streams-stream in
    sym (not_late c.args.delays.now.network.topology c.args.delays.now.rows
    (get_or c.args.delays.now.network.streams c.args.stream no_stream) c.args.leg c.along-sum.result c.requires.leg
    c.along-sum.ensures.value
    (omega (
      arith,
      c.if-sum-from.true,
      c.from.ensures,
      c.deadline.ensures.value,
      ap (λ (s : DeclaredStream). s.deadline_ns) item,
    )))

pub returns : goal.returns
returns c =
    let item = one (goal.at.returns c).After-index-streams-stream in
    let network : DeclaredNetwork = c.args.delays.now.network in
    let s : DeclaredStream = get_or network.streams c.args.stream no_stream in
    let sum : ℕ = c.along-sum.result in
    let name : c.name.result ≡ s.name = c.name.ensures ∙ ap (λ (s : DeclaredStream). s.name) item in
    let listener : c.listener_name.result ≡ (listener_at network.topology s c.args.leg).name =
    c.listener_name.ensures ∙ ap (λ (n : DeclaredNetwork).
    (listener_at n.topology (get_or n.streams c.args.stream no_stream) c.args.leg).name) c.network-2.ensures.value in
    ap (λ (n : List ℕ). Some (Deadline n c.listener_name.result sum)) name
    ∙ ap (λ (l : Option (List ℕ)). Some (Deadline s.name l sum)) listener
    ∙ sym (late_past network.topology c.args.delays.now.rows s c.args.leg sum c.requires.leg c.along-sum.ensures.value
    (omega (
      arith,
      c.if-sum-from.false,
      c.from.ensures,
      c.deadline.ensures.value,
      ap (λ (s : DeclaredStream). s.deadline_ns) item,
    )))
