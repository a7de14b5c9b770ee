use Rattle.std.proofs.Common.{◌≡◌, ◌∙◌, ◌++◌, ℕ, List, ap, arith, length}
use Rattle.std.specs.List.{flat_map, range_with_len}
use Rattle.ats_network.specs.Senders.{sender_at}
use Rattle.ats_settings.specs.Settings.{settings_at}
use Rattle.ats_settings.proofs.BeforeLemmas.{few_ports}
use Rattle.ats_settings.proofs.Places.{place_more}
use Rattle.ats_settings.proofs.listing.push_settings.Goals as goal

pub overflow_cast-place-end : goal.overflow_cast-place-end
overflow_cast-place-end c = omega (
  arith,
  few_ports c.args.network.now c.args.sender c.sender_ports.ensures.rules c.requires.sender,
  ap (λ (l : List ℕ). length l) c.sender_ports.ensures.value,
)

pub push_setting-requires-clause-place : goal.push_setting-requires-clause-place
push_setting-requires-clause-place c = omega (
  arith,
  c.loop-place-test.true,
  ap (λ (l : List ℕ). length l) c.sender_ports.ensures.value,
)

pub loop-place-preserved : goal.loop-place-preserved
loop-place-preserved c =
    place_more c.args.made.now.items (settings_at c.args.network.now c.args.sender) c.loop-place.place
    c.loop-place.made.items c.push_setting.new.made.items c.loop-place.invariant c.in_ok-push_setting.ensures

pub returns : goal.returns
returns c =
    let many : c.loop-place.place ≡ length (sender_at c.args.network.now c.args.sender).ports = omega (
      arith,
      c.loop-place-test.false,
      c.loop-place.auto.place-end,
      ap (λ (l : List ℕ). length l) c.sender_ports.ensures.value,
    ) in
    c.loop-place.invariant ∙ ap (λ (n : ℕ). c.args.made.now.items
    ++ flat_map (settings_at c.args.network.now c.args.sender) (range_with_len 0 n)) many
