-- What the limit on the rates and bursts of a stream is.
use Rattle.std.proofs.Common.{◌≡◌, ◌∙◌, Bool, true, false, cond, Option, None, Some, refl, sym, ap}
use Rattle.std.proofs.lemmas.Option.{none-some}
use Rattle.ats_streams.specs.declared.fault.StreamFault.{StreamFault}
use Rattle.ats_streams.specs.declared.fault.StreamFault.TheVariants.{Limit}
use Rattle.ats_network.specs.Rates.{HasRates, is_overrated}
use Rattle.ats_network.specs.Sender.{stream_sender}
use Rattle.ats_network.proofs.Rated.{has_rates, overrated}
use Rattle.ats_network_file_law.specs.Limits.{IsLimitedByRates, LimitsAreMeant}

-- the fault of a test that says so
abbrev limit_where : Bool → Option StreamFault
limit_where over = cond over (Some Limit) None

pub limits_are_meant : LimitsAreMeant
limits_are_meant topology stream is positive =
    by (is_overrated topology (stream_sender stream)) refl
  where
    by : (over : Bool) → is_overrated topology (stream_sender stream) ≡ over → IsLimitedByRates topology stream
    by true over =
        let denied : ¬ HasRates topology stream = overrated topology stream over in
        record {
          over = (λ h. denied, λ no. ap limit_where over);
          within = (
            λ h. absurd (none-some Limit (sym h ∙ ap limit_where over)),
            λ rates. absurd (denied rates),
          );
        }
    by false small =
        let rates : HasRates topology stream = has_rates topology stream is positive small in
        record {
          over = (
            λ h. absurd (none-some Limit (sym (ap limit_where small) ∙ h)),
            λ no. absurd (no rates),
          );
          within = (λ h. rates, λ r. ap limit_where small);
        }
