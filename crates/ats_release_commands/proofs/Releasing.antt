-- What two files declare of a capture, once the first declared a network and the station was named.
use Rattle.std.proofs.Common.{◌≡◌, ℕ, List, Result, Ok, Err, refl, sym, ap, subst, ◌∙◌}
use Rattle.ats_network.specs.Network.{DeclaredNetwork}
use Rattle.ats_capture.specs.Traffic.{Traffic}
use Rattle.ats_num.specs.Failure.{◌>>=◌}
use Rattle.ats_command_input.specs.Answer.{Answer}
use Rattle.ats_command_input.specs.Input.{network_in, traffic_in}
use Rattle.ats_command_input.specs.Outcome.{IsStopOf}
use Rattle.ats_command_input.specs.Station.{station_in}
use Rattle.ats_command_input.specs.declared.outcome.Stop.{Stop}
use Rattle.ats_command_input.proofs.Steps.{stops_all}
use Rattle.ats_command_due.specs.Captured.{Captured, captured_in}
use Rattle.ats_command_due.specs.Released.{released_at, released_in, released_text}

captured : DeclaredNetwork → Traffic → Captured
captured network traffic = record { network = network; traffic = traffic }

-- what is captured at a place
captured_at : DeclaredNetwork → ℕ → List ℕ → List ℕ → Result Captured Answer
captured_at network place file bytes = traffic_in network place file bytes >>= λ traffic. Ok (captured network traffic)

captured_there : (net station file net_bytes file_bytes : List ℕ) (network : DeclaredNetwork) (place : ℕ)
    → network_in net net_bytes ≡ Ok network → station_in network.topology station ≡ Ok place
    → captured_in net station file net_bytes file_bytes ≡ captured_at network place file file_bytes
unfolding captured_in captured_at captured
captured_there net station file net_bytes file_bytes network place declared named =
    ap (λ (d : Result DeclaredNetwork Answer). d >>= λ n. station_in n.topology station
    >>= λ p. captured_at n p file file_bytes) declared
    ∙ ap (λ (d : Result ℕ Answer). d >>= λ p. captured_at network p file file_bytes) named

-- its schedule is the same, one step or two
one_step : (network : DeclaredNetwork) (due : Result Traffic Answer)
    → ((due >>= λ traffic. Ok (captured network traffic)) >>= λ c. Ok (released_text c.network c.traffic))
    ≡ (due >>= λ traffic. Ok (released_text network traffic))
unfolding captured
one_step network (Ok traffic) = refl
one_step network (Err answer) = refl

-- the schedule of what is captured is that of what the file comes to there
pub released_there : (net station file net_bytes file_bytes : List ℕ) (network : DeclaredNetwork) (place : ℕ)
    → network_in net net_bytes ≡ Ok network → station_in network.topology station ≡ Ok place
    → released_in net station file net_bytes file_bytes ≡ released_at network place file file_bytes
unfolding released_in captured_at
released_there net station file net_bytes file_bytes network place declared named =
    ap (λ (d : Result Captured Answer). d >>= λ c. Ok (released_text c.network c.traffic))
    (captured_there net station file net_bytes file_bytes network place declared named)
    ∙ one_step network (traffic_in network place file file_bytes)

-- and what stops the naming of the station stops what goes on from it
pub unnamed_stops : (net station file net_bytes file_bytes : List ℕ) (network : DeclaredNetwork) (stop : Stop)
    → network_in net net_bytes ≡ Ok network → IsStopOf stop (station_in network.topology station)
    → IsStopOf stop (captured_in net station file net_bytes file_bytes)
unfolding captured_in captured_at captured
unnamed_stops net station file net_bytes file_bytes network stop declared stops =
    subst (λ (d : Result DeclaredNetwork Answer). IsStopOf stop (d >>= λ n. station_in n.topology station
    >>= λ p. captured_at n p file file_bytes)) (sym declared)
    (stops_all stop (station_in network.topology station) (λ p. captured_at network p file file_bytes) stops)
