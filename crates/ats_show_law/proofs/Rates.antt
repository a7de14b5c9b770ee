-- The line of a stream's rates: none where clocks are ideal, and else what bridges are told.
use Rattle.std.proofs.Common.{◌≡◌, ℕ, ◌<◌, ◌∙◌, List, [], ◌++◌, length, ap, sym, Bool, true, cond, Option, Some, None}
use Rattle.std.specs.Prelude.{codes, is_some, unwrap_or}
use Rattle.std.specs.List.{flat_map}
use Rattle.std.specs.Option.{option_map}
use Rattle.std.proofs.lemmas.Bool.{lt-ltb, true≢false}
use Rattle.std.proofs.lemmas.List.{append-nil}
use Rattle.ats_clock.specs.declared.committed.Committed.{Committed}
use Rattle.ats_topology.specs.Topology.{DeclaredTopology, HasIdealClocks}
use Rattle.ats_network.specs.Network.{DeclaredNetwork}
use Rattle.ats_network.specs.Rates.{committed_at, scheduled_at}
use Rattle.ats_network.specs.Sender.{Sender, stream_sender}
use Rattle.ats_network.specs.Senders.{sender_at}
use Rattle.ats_schedulers.specs.Schedulers.{member_behind}
use Rattle.ats_settings.specs.Settings.{port_at_place, port_behind, scheduler_behind, shaping_of}
use Rattle.ats_network_text.specs.Text.{committed_text, hop_text, rates_line, rates_text, stream_lines}
use Rattle.ats_network_text.proofs.Hops.{ideal_is_declared}
use Rattle.ats_show_law.specs.Laws.{IdealClocksShowNoRates, RatesTellSettings, ShowTellsRates, ShowTellsRatesBehind}
use Rattle.ats_show_law.specs.Laws.{shaping_text}
use Rattle.ats_show_law.proofs.Lines.{show_tells_each_listener}

no_rates : (topology : DeclaredTopology) (s : Sender) → HasIdealClocks topology → rates_line topology s ≡ []
unfolding rates_line
no_rates topology s each =
    ap (λ (t : Bool). cond t []
    (codes "rates " ++ s.name ++ flat_map (hop_text topology s) s.ports ++ codes "\n"))
    (ideal_is_declared topology s each)

ideal_clocks_show_no_rates : IdealClocksShowNoRates
ideal_clocks_show_no_rates topology s each =
    ap (λ (t : List ℕ). stream_lines topology s ++ t) (no_rates topology (stream_sender s) each)
    ∙ append-nil (stream_lines topology s)

show_tells_rates_behind : ShowTellsRatesBehind
show_tells_rates_behind topology s =
    ap (λ (t : List ℕ). t ++ rates_line topology (stream_sender s)) (show_tells_each_listener topology s)

-- what is told of the scheduler behind a port, where there is one before
told : (network : DeclaredNetwork) (stream : ℕ) (seen : Committed) (before : Option ℕ)
    → stream < length network.streams → is_some before ≡ true
    → rates_text (sender_at network stream)
    (option_map (λ b. scheduled_at network.topology b (sender_at network stream)) before) seen
    ≡ shaping_text (scheduler_behind network stream (unwrap_or before 0)) ++ committed_text seen
told network stream seen None within comes = absurd (true≢false (sym comes))
told network stream seen (Some before) within comes =
    sym (ap (λ (t : Bool). shaping_text
    (cond t (Some (shaping_of network (member_behind network.topology (sender_at network stream) before))) None)
    ++ committed_text seen)
    (lt-ltb stream (length network.streams) within))

rates_tell_settings : RatesTellSettings
rates_tell_settings network stream place within at =
    told network stream
    (committed_at network.topology (port_at_place network stream place) (sender_at network stream))
    (port_behind network stream place) within at.comes

pub show_tells_rates : ShowTellsRates
show_tells_rates = record {
  ideal = ideal_clocks_show_no_rates;
  behind = show_tells_rates_behind;
  settings = rates_tell_settings;
}
