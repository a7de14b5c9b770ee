use Rattle.std.proofs.Common.{refl}
use Rattle.ats_plain_law.specs.Senders.{SendersArePlain}

-- What a stream and a flow are as senders.
pub senders_are_plain : SendersArePlain
senders_are_plain = record {
  stream = λ s. refl;
  flow = λ f. refl;
  all = λ network. refl;
  at = λ network n. refl;
}
