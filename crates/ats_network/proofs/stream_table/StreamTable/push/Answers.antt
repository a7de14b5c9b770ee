use Rattle.std.proofs.Common.{◌≡◌, ℕ, ◌<◌, false, None, List, length, ap, subst, ◌∙◌, arith}
use Rattle.std.specs.List.{All}
use Rattle.std.proofs.lemmas.List.Sums.{sum_by_push}
use Rattle.ats_num.specs.Places.{place_of}
use Rattle.ats_streams.specs.Stream.{DeclaredStream}
use Rattle.ats_network.specs.Pushes.{is_identity_taken}
use Rattle.ats_network.specs.Tables.{stream_names}
use Rattle.ats_network.specs.declared.network.TheConstants.{MAX_STREAMS}
use Rattle.ats_network.proofs.TableLemmas.{table_push, unidentified}
use Rattle.ats_network.proofs.stream_table.StreamTable.push.Goals as goal

pub number-requires : goal.number-requires
number-requires c =
    unidentified c.self.inside.streams.items c.self.inside.serials.items c.self.inside.names c.self.inside.identities
    c.args.stream.identity c.self.invariant.0
    (ap (λ (s : List DeclaredStream). is_identity_taken s c.args.stream.identity) c.self.view_is ∙ c.requires.other)

pub invariant_of-self-2 : goal.invariant_of-self-2
invariant_of-self-2 c =
    let streams : List DeclaredStream = c.self.inside.streams.items in
    let absent : place_of c.args.stream.name (stream_names streams) ≡ None =
    ap (λ (s : List DeclaredStream). place_of c.args.stream.name (stream_names s)) c.self.view_is ∙ c.requires.absent in
    let free : is_identity_taken streams c.args.stream.identity ≡ false =
    ap (λ (s : List DeclaredStream). is_identity_taken s c.args.stream.identity) c.self.view_is ∙ c.requires.other in
    let many : DeclaredStream → ℕ = λ s. length s.ports in
    let long : length streams ≡ length c.args.self.now = ap length c.self.view_is in
    let room : length streams < MAX_STREAMS = omega (arith, long, c.requires.room) in
    let above : All (λ s. s < c.in_ok-serial.serial) c.self.inside.serials.items =
    subst (All (λ s. s < c.in_ok-serial.serial)) c.deref.ensures.value c.in_ok-serial.ensures in
    rw (
      c.push_reserved-2.ensures.items,
      c.reserve.ensures.items,
      c.push_reserved.ensures.items,
      c.reserve-2.ensures.items,
    ) (
      table_push streams c.args.stream c.self.inside.serials.items c.in_ok-serial.serial c.self.inside.names
          c.number.new.names c.self.inside.identities c.number.new.identities c.self.invariant.0 absent free room above
          c.in_ok-number.ensures.names c.in_ok-number.ensures.identities,
      omega (
        arith,
        sum_by_push many streams c.args.stream,
        c.self.invariant.1,
        ap length c.ports.ensures.value,
      ),
    )
