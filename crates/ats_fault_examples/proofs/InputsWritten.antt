use Rattle.std.proofs.Common.{◌≡◌, [], ◌∷◌, refl}
use Rattle.std.specs.Prelude.{◌++◌, codes, Err}
use Rattle.std.specs.Fmt.{digits}
use Rattle.std.specs.Str.{chars, is_utf8}
use Rattle.csv.specs.Machine.{next_record}
use Rattle.csv.specs.Reading.{records_from, strip_bom}
use Rattle.ats_csv.specs.Reading.{records_of, same_fields}
use Rattle.ats_capture.specs.Reading as capture
use Rattle.ats_certificate_file.specs.Reading.{header}
use Rattle.ats_command_due.specs.Generated.{made_for}
use Rattle.ats_command_input.specs.Input.{network_in, records_in, releases_in, requests_in, rows_in, shape_in}
use Rattle.ats_command_input.specs.Input.{traffic_in}
use Rattle.ats_pcap.specs.Capture.{form_of, is_whole, order_of, position_of, record_of}
use Rattle.ats_pcap.specs.Capture.{header_fault as of_header, record_fault as of_record}
use Rattle.ats_pcap.specs.Identity.{address_of, identity_of}
use Rattle.ats_pcap.specs.Numbers.{number16, number32}
use Rattle.ats_schedule.specs.Reading.{header as release_header, release_after}
use Rattle.ats_text_examples.specs.Captured.{low_header}
use Rattle.ats_text_examples.specs.Worked.{way}
use Rattle.ats_fault_examples.specs.Inputs.{InputsAreWritten, MakingIsRefused, far_apart, one_stream, told}

-- Lines of files with a fault by computation.

shape_is : shape_in (codes "a.txt") (codes "residence 20000\nframe 1001 a 880\n")
    ≡ Err (told (codes "input a.txt unknown-name 2\n"))
unfolding digits shape_in
shape_is = refl

network_is : network_in (codes "b/n.toml") (0xFF ∷ []) ≡ Err (told (codes "input b/n.toml not-toml\n"))
unfolding network_in is_utf8 chars
network_is = refl

certificate_is : rows_in way.topology (codes "c.csv") (codes "port,class\n")
    ≡ Err (told (codes "input c.csv bad-row 1\n"))
unfolding digits rows_in next_record records_from strip_bom records_of same_fields header
certificate_is = refl

schedule_is : releases_in way (codes "d.csv") (codes "at_ps,sender,octets\n1001,u,64\n2002,w,64\n")
    ≡ Err (told (codes "input d.csv unknown-name 3\n"))
unfolding digits releases_in next_record records_from strip_bom records_of same_fields release_header release_after
schedule_is = refl

requests_are : requests_in way (codes "e.txt") (codes "withdraw w\n\nwithdraw\n")
    ≡ Err (told (codes "input e.txt bad-line 3\n"))
unfolding digits requests_in
requests_are = refl

capture_is : records_in (codes "f.pcap") (low_header ++ 0x04 ∷ []) ≡ Err (told (codes "input f.pcap cut-short 1\n"))
unfolding
    digits records_in capture.records_in form_of of_header is_whole order_of position_of of_record record_of address_of
    identity_of number16 number32
capture_is = refl

traffic_is : traffic_in (one_stream 1000 672 64) 0 (codes "g.pcap") far_apart
    ≡ Err (told (codes "input g.pcap limit 2\n"))
unfolding
    digits traffic_in records_in capture.records_in form_of of_header is_whole order_of position_of of_record record_of
    address_of identity_of number16 number32
traffic_is = refl

pub inputs_are_written : InputsAreWritten
inputs_are_written = record {
  shape = shape_is;
  network = network_is;
  certificate = certificate_is;
  schedule = schedule_is;
  requests = requests_are;
  capture = capture_is;
  traffic = traffic_is;
}

pub making_is_refused : MakingIsRefused
unfolding made_for
making_is_refused = record {
  no_stream = refl;
  over = refl;
  within = refl;
  no_stream_told = refl;
  over_told = refl;
  made = refl;
}
