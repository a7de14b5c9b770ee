use Rattle.std.proofs.Common.{◌≡◌, ◌+◌, ◌-◌, ◌≤◌, length, drop}
use Rattle.std.specs.List.{All}
use Rattle.ats_io.specs.Text.{lines_of}
use Rattle.ats_topology.specs.KeptWalks.{AreKeptFor}
use Rattle.ats_requests.specs.Requests.{MayAsk}
use Rattle.ats_request_file.specs.Reading.{requests_from, requests_of}
use Rattle.ats_request_file.proofs.reading.read_requests.Given as goal

-- the lines left, after the requests so far, give what all lines give
abbrev pub invariant-loop-at : goal.invariant-loop-at
invariant-loop-at l = record {
  due : requests_from l.network l.requests.items l.number (lines_of (drop l.at l.bytes))
      ≡ requests_of l.network l.bytes;
  allowed : All (MayAsk l.network) l.requests.items;
  some : length l.requests.items ≤ 10000;
  kept : AreKeptFor l.network.topology l.walks;
  within : l.at ≤ length l.bytes;
  few : l.number ≤ l.at + 1;
}

abbrev pub decreases-loop-at : goal.decreases-loop-at
decreases-loop-at l = length l.bytes - l.at
