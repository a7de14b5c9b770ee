use Rattle.std.specs.Prelude.{◌≡◌, true, false}
use Rattle.ats_network_table.specs.Walk.{Entry, is_due}
use Rattle.ats_network_table.specs.declared.key.Key.TheVariants.{A, B, Bridge, BurstBits, Classes, ClockPpm}
use Rattle.ats_network_table.specs.declared.key.Key.TheVariants.{ClockStepPs, DeadlineNs, Flow, Format, Link, LinkLocal}
use Rattle.ats_network_table.specs.declared.key.Key.TheVariants.{LinkLocalFlow, MaxOctets, Mbps, MinOctets, Name, Paths}
use Rattle.ats_network_table.specs.declared.key.Key.TheVariants.{ProcessingMaxNs, ProcessingMinNs, ProcessingNs}
use Rattle.ats_network_table.specs.declared.key.Key.TheVariants.{PropagationNs, RateBps, ResidenceNs, Station, Stream}

-- keys that have to stand in each table that has them: the format, a name, the ends, rate and propagation of a link,
-- the times of a bridge, and the rate, the burst and both sizes of a sender
pub record KeysAreAlwaysDue (e : Entry) : Type 0 where
  pub format : is_due e Format ≡ true
  pub name : is_due e Name ≡ true
  pub a : is_due e A ≡ true
  pub b : is_due e B ≡ true
  pub mbps : is_due e Mbps ≡ true
  pub propagation : is_due e PropagationNs ≡ true
  pub processing : is_due e ProcessingNs ≡ true
  pub processing_min : is_due e ProcessingMinNs ≡ true
  pub processing_max : is_due e ProcessingMaxNs ≡ true
  pub residence : is_due e ResidenceNs ≡ true
  pub rate : is_due e RateBps ≡ true
  pub burst : is_due e BurstBits ≡ true
  pub min_octets : is_due e MinOctets ≡ true
  pub max_octets : is_due e MaxOctets ≡ true

-- and those that never have to: the arrays of tables, several paths, a list of classes, a deadline, and the two numbers
-- of a clock
pub record KeysAreNeverDue (e : Entry) : Type 0 where
  pub station : is_due e Station ≡ false
  pub bridge : is_due e Bridge ≡ false
  pub link : is_due e Link ≡ false
  pub stream : is_due e Stream ≡ false
  pub link_local : is_due e LinkLocal ≡ false
  pub flow : is_due e Flow ≡ false
  pub link_local_flow : is_due e LinkLocalFlow ≡ false
  pub paths : is_due e Paths ≡ false
  pub classes : is_due e Classes ≡ false
  pub deadline : is_due e DeadlineNs ≡ false
  pub clock_ppm : is_due e ClockPpm ≡ false
  pub clock_step : is_due e ClockStepPs ≡ false

pub record KeysAreDue : Type 0 where
  pub always : (e : Entry) → KeysAreAlwaysDue e
  pub never : (e : Entry) → KeysAreNeverDue e
