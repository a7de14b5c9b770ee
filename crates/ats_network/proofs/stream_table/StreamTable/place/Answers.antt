use Rattle.std.proofs.Common.{List, length, ap, subst, ◌<◌, ◌∙◌}
use Rattle.std.specs.Prelude.{IfSome}
use Rattle.ats_num.specs.Places.{place_of}
use Rattle.ats_streams.specs.Stream.{DeclaredStream}
use Rattle.ats_network.specs.Tables.{stream_names}
use Rattle.ats_network.proofs.TableLemmas.{place_none, place_some, place_within}
use Rattle.ats_network.proofs.stream_table.StreamTable.place.Goals as goal

pub returns-in_err-serial-clause-place : goal.returns-in_err-serial-clause-place
returns-in_err-serial-clause-place c =
    c.from_residual.ensures
    ∙ place_none c.self.inside.streams.items c.self.inside.serials.items c.self.inside.names c.self.inside.identities
    c.args.name.now c.self.invariant.0 (c.in_err-serial.ensures ∙ c.get.ensures.value)
    ∙ ap (λ (s : List DeclaredStream). place_of c.args.name.now (stream_names s)) c.self.view_is

pub returns-clause-place : goal.returns-clause-place
returns-clause-place c =
    (place_some c.self.inside.streams.items c.self.inside.serials.items c.self.inside.names c.self.inside.identities
    c.args.name.now c.in_ok-serial.serial c.deref.result.now c.place_in.result c.self.invariant.0 c.deref.ensures.value
    (c.in_ok-serial.ensures ∙ c.get.ensures.value) c.place_in.ensures.place).1
    ∙ ap (λ (s : List DeclaredStream). place_of c.args.name.now (stream_names s)) c.self.view_is

pub returns-clause-within : goal.returns-clause-within
returns-clause-within c =
    subst (λ (s : List DeclaredStream). IfSome c.place_in.result (λ place. place < length s)) c.self.view_is
    (place_within c.self.inside.streams.items c.self.inside.serials.items c.self.inside.names c.self.inside.identities
    c.args.name.now c.in_ok-serial.serial c.deref.result.now c.place_in.result c.self.invariant.0 c.deref.ensures.value
    (c.in_ok-serial.ensures ∙ c.get.ensures.value) c.place_in.ensures.place)
