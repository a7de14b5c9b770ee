use Rattle.std.proofs.Common.{◌≡◌, ℕ, Bool, true, false, length, Option, Some, None, refl, ap, arith}
use Rattle.std.specs.Prelude.{nat_lt, if◌then◌else◌}
use Rattle.std.specs.Ordering.{nat_cmp, ordering_then}
use Rattle.std.specs.declared.cmp.Ordering.{Ordering}
use Rattle.std.specs.declared.cmp.Ordering.TheVariants.{Equal, Greater, Less}
use Rattle.std.proofs.lemmas.Bool.Decides.{nat_tests}
use Rattle.ats_network.specs.Network.{DeclaredNetwork}
use Rattle.ats_network.specs.Senders.{sender_at}
use Rattle.ats_schedulers.specs.Schedulers.{member_behind}
use Rattle.ats_settings.specs.Settings.{shaping_of}
use Rattle.ats_settings.specs.declared.setting.Shaping.{Shaping}
use Rattle.ats_plain_network_law.specs.Schedulers.{OrderIsKnown, ToldIsKnown, SchedulersAreKnown}

-- What is told of schedulers, and in which order settings come.

-- what is told by whether the sender is a stream
abbrev by_test : DeclaredNetwork → ℕ → ℕ → Bool → Option Shaping
by_test network s port test =
    if test then Some (shaping_of network (member_behind network.topology (sender_at network s) port)) else None

schedulers : ToldIsKnown
schedulers = record {
  stream = λ network s port within. (
      let passes : nat_lt s (length network.streams) ≡ true = grind (arith, nat_tests) in
      ap (by_test network s port) passes);
  flow = λ network s port past. (
      let fails : nat_lt s (length network.streams) ≡ false = grind (arith, nat_tests) in
      ap (by_test network s port) fails);
}

then_by : (a b c : Ordering)
    → ordering_then (ordering_then a b) c ≡ ordering_then a (ordering_then b (ordering_then c Equal))
then_by Less b c = refl
then_by Greater b c = refl
then_by Equal Less c = refl
then_by Equal Greater c = refl
then_by Equal Equal Less = refl
then_by Equal Equal Equal = refl
then_by Equal Equal Greater = refl

order : OrderIsKnown
order = record { by_place = λ x y. then_by (nat_cmp x.0 y.0) (nat_cmp x.1 y.1) (nat_cmp x.2 y.2) }

pub schedulers_are_known : SchedulersAreKnown
schedulers_are_known = record {
  schedulers = schedulers;
  order = order;
}
