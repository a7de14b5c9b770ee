use Rattle.std.proofs.Common.{ap}
use Rattle.ats_num.specs.Failure.{or_fault}
use Rattle.ats_command_input.specs.Port.{port_answer, port_in}
use Rattle.ats_command_input.specs.Station.{station_answer, station_in}
use Rattle.ats_command_input.specs.Stream.{stream_answer, stream_in}
use Rattle.ats_plain_answer_law.specs.Named.{NamesAreAnswered}

-- What the words of a call stand for.

pub names_are_answered : NamesAreAnswered
unfolding station_in port_in stream_in
names_are_answered = record {
  station = λ topology word place is. ap (or_fault (station_answer word)) is;
  no_station = λ topology word is. ap (or_fault (station_answer word)) is;
  port = λ topology word place is. ap (or_fault (port_answer word)) is;
  no_port = λ topology word is. ap (or_fault (port_answer word)) is;
  stream = λ streams word place is. ap (or_fault (stream_answer word)) is;
  no_stream = λ streams word is. ap (or_fault (stream_answer word)) is;
}
