use Rattle.std.proofs.Common.{refl}
use Rattle.ats_network_table.specs.Walk.{Entry}
use Rattle.ats_plain_document_law.specs.Keys.{KeysAreAlwaysDue, KeysAreDue, KeysAreNeverDue}

-- Which keys have to stand in a table that has them.

always : (e : Entry) → KeysAreAlwaysDue e
always e = record {
  format = refl;
  name = refl;
  a = refl;
  b = refl;
  mbps = refl;
  propagation = refl;
  processing = refl;
  processing_min = refl;
  processing_max = refl;
  residence = refl;
  rate = refl;
  burst = refl;
  min_octets = refl;
  max_octets = refl;
}

never : (e : Entry) → KeysAreNeverDue e
never e = record {
  station = refl;
  bridge = refl;
  link = refl;
  stream = refl;
  link_local = refl;
  flow = refl;
  link_local_flow = refl;
  paths = refl;
  classes = refl;
  deadline = refl;
  clock_ppm = refl;
  clock_step = refl;
}

pub keys_are_due : KeysAreDue
keys_are_due = record { always = always; never = never }
