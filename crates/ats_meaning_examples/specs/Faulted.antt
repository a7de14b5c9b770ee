use Rattle.std.specs.Prelude.{◌≡◌, ℕ, ◌+◌, ◌*◌, ◌==◌, ◌||◌, ◌&&◌, not, nat_lt, List, [], ◌∷◌, length}
use Rattle.std.specs.Prelude.{Some, None, if◌then◌else◌}
use Rattle.std.specs.List.{list_any}
use Rattle.std.specs.Option.{option_or}
use Rattle.ats_streams.specs.Branches.{is_bad_route, routes_of}
use Rattle.ats_streams.specs.Fault.{rules_fault}
use Rattle.ats_streams.specs.Flow.{DeclaredFlow, flow_fault, flow_fault_within}
use Rattle.ats_streams.specs.Stream.{DeclaredStream, are_bad_classes, limit_fault, route_fault, stream_fault}
use Rattle.ats_streams.specs.Stream.{stream_fault_within}
use Rattle.ats_streams.specs.declared.fault.StreamFault.TheVariants.{BadClass, BadRate, BadSizes, BurstBelowFrame}
use Rattle.ats_streams.specs.declared.fault.StreamFault.TheVariants.{Limit}

-- Which fault of a stream or a flow is told where several rules are broken, for all of them: the first in one order,
-- with each of its numbers.

-- rate, then sizes, then the burst, and last that it is too long
pub record RulesGoInOrder : Type 0 where
  pub rules : (rate burst least greatest : ℕ) → rules_fault rate burst least greatest
      ≡ (if nat_lt rate 1 || nat_lt 100000000000 rate then Some BadRate
      else if nat_lt least 64 || nat_lt greatest least || nat_lt 2000 greatest then Some BadSizes
      else if nat_lt burst (8 * (greatest + 20)) then Some BurstBelowFrame
      else if nat_lt 1000000000 burst then Some Limit
      else None)

-- of a stream the classes first, then its rules, then its routes and its deadline
pub record StreamsGoInOrder : Type 0 where
  pub classes : (ports : ℕ) (given : List ℕ) → are_bad_classes ports given
      ≡ (list_any (λ class. nat_lt class 1 || nat_lt 7 class) given
      || (not (length given == 1) && not (length given == ports)))
  pub stream : (given : List ℕ) (s : DeclaredStream) → stream_fault given s
      ≡ (if are_bad_classes (length s.ports) given then Some BadClass
      else option_or (rules_fault s.rate s.burst_bits s.min_octets s.max_octets)
      (limit_fault (routes_of s.ports s.branches) s.deadline_ns))
  pub limits : (routes : List (List ℕ)) (deadline : ℕ) → limit_fault routes deadline
      ≡ (if list_any (is_bad_route 64) routes then Some Limit
      else if nat_lt deadline 1 || nat_lt 1000000000 deadline then Some Limit
      else None)
  pub route : (most : ℕ) (route : List ℕ) → is_bad_route most route
      ≡ (nat_lt (length route) 1 || nat_lt most (length route))
  pub routes : (most : ℕ) (routes : List (List ℕ)) → route_fault most routes
      ≡ (if list_any (is_bad_route most) routes then Some Limit else None)
  pub within : (most : ℕ) (given : List ℕ) (s : DeclaredStream) → stream_fault_within most given s
      ≡ option_or (stream_fault given s) (route_fault most (routes_of s.ports s.branches))

-- of a flow its greatest size first, then its path
pub record FlowsGoInOrder : Type 0 where
  pub flow : (f : DeclaredFlow) → flow_fault f
      ≡ (if nat_lt f.max_octets 64 || nat_lt 2000 f.max_octets then Some BadSizes
      else if nat_lt (length f.path) 1 || nat_lt 64 (length f.path) then Some Limit
      else None)
  pub within : (most : ℕ) (f : DeclaredFlow) → flow_fault_within most f
      ≡ option_or (flow_fault f) (route_fault most (f.path ∷ []))

pub record SenderFaultsAreMeant : Type 0 where
  pub rules : RulesGoInOrder
  pub streams : StreamsGoInOrder
  pub flows : FlowsGoInOrder
