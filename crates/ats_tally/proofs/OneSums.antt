-- Of a stream with one listener, one sum is told.
use Rattle.std.proofs.Common.{◌≡◌, ℕ, List, [], ◌∷◌, ◌++◌, map, Option, Some, None, refl, sym, ap, ◌∙◌}
use Rattle.std.specs.List.{All, flat_map}
use Rattle.std.specs.Option.{option_or}
use Rattle.std.proofs.lemmas.List.Concat.{flat_map-cons}
use Rattle.std.proofs.lemmas.List.Elements.{All-head, All-tail}
use Rattle.ats_streams.specs.Stream.{DeclaredStream}
use Rattle.ats_certificate.specs.Certificate.{bound_along, bound_on, sums_of}
use Rattle.ats_certificate.specs.declared.row.Row.{Row}
use Rattle.ats_certificate.proofs.OneSum.{sum_alone, sums_alone}
use Rattle.ats_tally.specs.OneListener.{OneListenerIsLate, OneSumForEach}
use Rattle.ats_tally.specs.Reason.{first_some, late_by, late_for}
use Rattle.ats_tally.proofs.ListenerLemmas.{listeners_alone}

or_none : {X : Type 0} (o : Option X) → option_or o None ≡ o
or_none None = refl
or_none (Some x) = refl

pub one_listener_is_late : OneListenerIsLate
one_listener_is_late topology rows stream alone =
    ap (first_some (late_for rows stream)) (listeners_alone topology stream alone)
    ∙ or_none (late_by stream None (bound_on rows stream stream.ports))
    ∙ ap (late_by stream None) (sym (sum_alone rows stream alone))

sums_for_each : (rows : List Row) (streams : List DeclaredStream)
    → All (λ (s : DeclaredStream). s.branches ≡ []) streams
    → flat_map (sums_of rows) streams ≡ map (bound_along rows) streams
sums_for_each rows [] alone = refl
sums_for_each rows (s ∷ streams) alone =
    flat_map-cons (sums_of rows) s streams
    ∙ ap (λ (sums : List ℕ). sums ++ flat_map (sums_of rows) streams)
    (sums_alone rows s (All-head (λ (t : DeclaredStream). t.branches ≡ []) s streams alone))
    ∙ ap (λ (sums : List ℕ). bound_along rows s ∷ sums)
    (sums_for_each rows streams (All-tail (λ (t : DeclaredStream). t.branches ≡ []) s streams alone))

pub one_sum_for_each : OneSumForEach
one_sum_for_each network rows alone = sums_for_each rows network.streams alone
