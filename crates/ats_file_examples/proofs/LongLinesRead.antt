use Rattle.std.proofs.Common.{◌≡◌, [], ◌∷◌, Result, Ok, Err, refl, ap}
use Rattle.std.specs.Prelude.{codes}
use Rattle.ats_num.specs.Failure.{◌>>=◌}
use Rattle.ats_streams.specs.declared.fault.StreamFault.TheVariants.{Limit}
use Rattle.ats_network.specs.Network.{DeclaredNetwork, declared_network, long_network}
use Rattle.ats_network.specs.Path.{IsValidPath}
use Rattle.ats_network_table.specs.declared.format.Format.{Format}
use Rattle.ats_network_table.specs.declared.format.Format.TheVariants.{One, Three, Two}
use Rattle.ats_network_toml.specs.Document as file
use Rattle.ats_network_toml.specs.Reading.{document_of}
use Rattle.ats_network_file.specs.Reading.{network_in}
use Rattle.ats_network_file.specs.Senders.{all_added, flow_added, stream_added}
use Rattle.ats_network_file.specs.declared.fault.NetFault.{NetFault}
use Rattle.ats_network_file.specs.declared.fault.NetFault.TheVariants as fault
use Rattle.ats_network_file.specs.declared.senders.SenderTable.TheVariants.{Stream}
use Rattle.ats_examples.proofs.NetworkTest.{valid_from_by}
use Rattle.ats_file_examples.specs.LongLines.{LinesAreLimited, along, along_all, line_of, line_text, line_topology}
use Rattle.ats_file_examples.specs.LongLines.{one_time, ports_from, two_times}
use Rattle.ats_file_examples.proofs.Parsing.{parsed}
use Rattle.ats_file_examples.proofs.Steps.{at_stream, document_is, legs_is, network_is, one_leg, one_more, stream_is}

-- Lines of 16 and of 17 links: their tables by computation, and then the stream along them.

one_is : document_of (line_text (codes "1") one_time 14) ≡ Ok (line_of One 14)
unfolding parsed
one_is = document_is (line_text (codes "1") one_time 14) (Ok (line_of One 14)) refl refl

one_over_is : document_of (line_text (codes "1") one_time 15) ≡ Ok (line_of One 15)
unfolding parsed
one_over_is = document_is (line_text (codes "1") one_time 15) (Ok (line_of One 15)) refl refl

two_is : document_of (line_text (codes "2") two_times 14) ≡ Ok (line_of Two 14)
unfolding parsed
two_is = document_is (line_text (codes "2") two_times 14) (Ok (line_of Two 14)) refl refl

two_over_is : document_of (line_text (codes "2") two_times 15) ≡ Ok (line_of Two 15)
unfolding parsed
two_over_is = document_is (line_text (codes "2") two_times 15) (Ok (line_of Two 15)) refl refl

three_is : document_of (line_text (codes "3") two_times 15) ≡ Ok (line_of Three 15)
unfolding parsed
three_is = document_is (line_text (codes "3") two_times 15) (Ok (line_of Three 15)) refl refl

sixteen_valid : IsValidPath (line_topology 14) (ports_from 0 16)
sixteen_valid = valid_from_by (line_topology 14) 0 (ports_from 0 16) refl

seventeen_valid : IsValidPath (line_topology 15) (ports_from 0 17)
seventeen_valid = valid_from_by (line_topology 15) 0 (ports_from 0 17) refl

-- the network of tables whose one stream comes to this
comes : (format : Format) (bare : DeclaredNetwork) (entry : file.DeclaredStream) (due : Result DeclaredNetwork NetFault)
    → stream_added format bare (at_stream 1) entry ≡ due
    → (all_added (stream_added format) bare ((at_stream 1, entry) ∷ [])
    >>= λ streamed. all_added (flow_added format) streamed []) ≡ due
comes format bare entry (Ok next) is =
    ap (λ (s : Result DeclaredNetwork NetFault). s >>= λ streamed. all_added (flow_added format) streamed [])
    (one_more (stream_added format) bare next (at_stream 1) entry [] is)
comes format bare entry (Err why) is =
    ap (λ (s : Result DeclaredNetwork NetFault). (s >>= λ next. all_added (stream_added format) next [])
    >>= λ streamed. all_added (flow_added format) streamed []) is

-- that of the lines
one_made : network_in (line_of One 14) ≡ Ok (declared_network (line_topology 14) (along 16 ∷ []) [])
one_made =
    let bare : DeclaredNetwork = declared_network (line_topology 14) [] [] in
    let due : Result DeclaredNetwork NetFault = Ok (declared_network (line_topology 14) (along 16 ∷ []) []) in
    comes One bare (along_all 14) due (stream_is One bare (at_stream 1) (along_all 14) (one_leg (ports_from 0 16)) due
    (legs_is One (line_topology 14) (at_stream 1) (along_all 14).routes (ports_from 0 16) refl refl sixteen_valid) refl)

two_made : network_in (line_of Two 14) ≡ Ok (declared_network (line_topology 14) (along 16 ∷ []) [])
two_made =
    let bare : DeclaredNetwork = declared_network (line_topology 14) [] [] in
    let due : Result DeclaredNetwork NetFault = Ok (declared_network (line_topology 14) (along 16 ∷ []) []) in
    comes Two bare (along_all 14) due (stream_is Two bare (at_stream 1) (along_all 14) (one_leg (ports_from 0 16)) due
    (legs_is Two (line_topology 14) (at_stream 1) (along_all 14).routes (ports_from 0 16) refl refl sixteen_valid) refl)

one_refused : network_in (line_of One 15) ≡ Err (fault.Sender Stream 1 Limit)
one_refused =
    let bare : DeclaredNetwork = declared_network (line_topology 15) [] [] in
    let due : Result DeclaredNetwork NetFault = Err (fault.Sender Stream 1 Limit) in
    comes One bare (along_all 15) due (stream_is One bare (at_stream 1) (along_all 15) (one_leg (ports_from 0 17)) due
    (legs_is One (line_topology 15) (at_stream 1) (along_all 15).routes
    (ports_from 0 17) refl refl seventeen_valid) refl)

two_refused : network_in (line_of Two 15) ≡ Err (fault.Sender Stream 1 Limit)
two_refused =
    let bare : DeclaredNetwork = declared_network (line_topology 15) [] [] in
    let due : Result DeclaredNetwork NetFault = Err (fault.Sender Stream 1 Limit) in
    comes Two bare (along_all 15) due (stream_is Two bare (at_stream 1) (along_all 15) (one_leg (ports_from 0 17)) due
    (legs_is Two (line_topology 15) (at_stream 1) (along_all 15).routes
    (ports_from 0 17) refl refl seventeen_valid) refl)

three_made : network_in (line_of Three 15) ≡ Ok (long_network (line_topology 15) (along 17 ∷ []) [])
three_made =
    let bare : DeclaredNetwork = long_network (line_topology 15) [] [] in
    let due : Result DeclaredNetwork NetFault = Ok (long_network (line_topology 15) (along 17 ∷ []) []) in
    comes Three bare (along_all 15) due (stream_is Three bare (at_stream 1) (along_all 15)
    (one_leg (ports_from 0 17)) due
    (legs_is Three (line_topology 15) (at_stream 1) (along_all 15).routes
    (ports_from 0 17) refl refl seventeen_valid) refl)

pub lines_are_limited : LinesAreLimited
lines_are_limited = record {
  one = network_is (line_text (codes "1") one_time 14) (line_of One 14)
      (Ok (declared_network (line_topology 14) (along 16 ∷ []) [])) one_is one_made;
  one_over = network_is (line_text (codes "1") one_time 15) (line_of One 15) (Err (fault.Sender Stream 1 Limit))
      one_over_is one_refused;
  two = network_is (line_text (codes "2") two_times 14) (line_of Two 14)
      (Ok (declared_network (line_topology 14) (along 16 ∷ []) [])) two_is two_made;
  two_over = network_is (line_text (codes "2") two_times 15) (line_of Two 15) (Err (fault.Sender Stream 1 Limit))
      two_over_is two_refused;
  three = network_is (line_text (codes "3") two_times 15) (line_of Three 15)
      (Ok (long_network (line_topology 15) (along 17 ∷ []) [])) three_is three_made;
}
