use Rattle.std.proofs.Common.{◌≡◌, ◌<◌, ◌+◌, ℕ, List, length, get_or, Option, Some, None, ap, sym, subst, ◌∙◌, arith}
use Rattle.std.specs.List.{position_from}
use Rattle.std.specs.Option.{option_map}
use Rattle.std.proofs.lemmas.List.{get_or-map, length-map}
use Rattle.std.proofs.lemmas.Option.{get_or_from_slice_get}
use Rattle.ats_streams.specs.Stream.{DeclaredStream}
use Rattle.ats_network.specs.Edits.{no_stream}
use Rattle.ats_network.specs.Network.{DeclaredNetwork}
use Rattle.ats_tally.specs.Listeners.{listener_at}
use Rattle.ats_explain.specs.Margins.{StreamListener, all_listeners, is_tightest, margin_of, margins_of}
use Rattle.ats_explain.specs.Margins.{tightest_listener}
use Rattle.ats_explain.specs.Numbers.{IsNumbered}
use Rattle.ats_explain.specs.Totals.{tightest_with}
use Rattle.ats_explain.specs.declared.margin.Margin.{Margin}
use Rattle.ats_explain.specs.declared.totals.Tightest.{Tightest}
use Rattle.ats_explain.proofs.Numbered.{stream_read}
use Rattle.ats_explain.proofs.Tightness.{found_before, none_before}
use Rattle.ats_explain.proofs.explanation.Explanation.tightest.Goals as goal

pub returns-in_err-place : goal.returns-in_err-place
returns-in_err-place c =
    let network : DeclaredNetwork = c.args.self.now in
    let none : position_from (is_tightest (margins_of network)) 0 (margins_of network) ≡ None =
    sym (c.tightest.ensures.place
    ∙ ap (λ (m : List Margin). position_from (is_tightest m) 0 m) c.margins-margins.ensures)
    ∙ c.in_err-place.was in
    c.from_residual.ensures
    ∙ sym (ap (option_map (tightest_with network))
    (none_before (margin_of network) (is_tightest (margins_of network)) 0 (all_listeners network) none))

pub returns : goal.returns
returns c =
    let network : DeclaredNetwork = c.args.self.now in
    let place : ℕ = c.in_ok-place.place in
    let stream : ℕ = c.listener_of-stream.result.0 in
    let leg : ℕ = c.listener_of-stream.result.1 in
    let s : DeclaredStream = get_or network.streams stream no_stream in
    let one : StreamListener = (s, listener_at network.topology s leg) in
    let m : Margin = record { sum = 0; deadline = 0 } in
    let numbered : IsNumbered network place stream leg =
    subst (λ (n : DeclaredNetwork). IsNumbered n place stream leg) c.network-network.ensures.value
    c.listener_of-stream.ensures in
    let at : get_or (all_listeners network) place one ≡ one =
    get_or_from_slice_get (all_listeners network) place one one numbered.is in
    let found : position_from (is_tightest (margins_of network)) 0 (margins_of network) ≡ Some place =
    sym (c.tightest.ensures.place
    ∙ ap (λ (m : List Margin). position_from (is_tightest m) 0 m) c.margins-margins.ensures)
    ∙ c.in_ok-place.was in
    let same : place ≡ 0 + place = omega arith in
    let first : tightest_listener network ≡ Some one =
    found_before (margin_of network) (is_tightest (margins_of network)) 0 (all_listeners network) place one
    (found ∙ ap Some same) ∙ ap (λ (o : StreamListener). Some o) at in
    let long : length c.margins-margins.result.now ≡ length (all_listeners network) =
    ap (λ (m : List Margin). length m) c.margins-margins.ensures
    ∙ length-map (all_listeners network) (margin_of network) in
    let within : place < length (all_listeners network) = omega (arith, long, c.in_ok-place.ensures.within) in
    let margin : get_or c.margins-margins.result.now place m ≡ margin_of network one =
    ap (λ (l : List Margin). get_or l place m) c.margins-margins.ensures
    ∙ get_or-map (margin_of network) (all_listeners network) place one m within ∙ ap (margin_of network) at in
    let item : c.index-streams-stream.result ≡ s =
    stream_read c.streams.result.now network.streams stream c.index-streams-stream.result
    (c.streams.ensures.value ∙ ap (λ (n : DeclaredNetwork). n.streams) c.network-network.ensures.value)
    c.index-streams-stream.is numbered.stream_within in
    let name : c.name.result ≡ s.name = c.name.ensures ∙ ap (λ (s : DeclaredStream). s.name) item in
    let listener : c.listener_name.result ≡ (listener_at network.topology s leg).name =
    c.listener_name.ensures ∙ ap (λ (n : DeclaredNetwork).
    (listener_at n.topology (get_or n.streams stream no_stream) leg).name) c.network-network.ensures.value in
    let with : List ℕ → Option (List ℕ) → Margin → Tightest =
    λ n l k. record { name = n; listener = l; margin = k } in
    ap (λ (n : List ℕ). Some (with n c.listener_name.result (get_or c.margins-margins.result.now place m))) name
    ∙ ap (λ (l : Option (List ℕ)). Some (with s.name l (get_or c.margins-margins.result.now place m))) listener
    ∙ ap (λ (k : Margin). Some (with s.name (listener_at network.topology s leg).name k)) margin
    ∙ sym (ap (option_map (tightest_with network)) first)
