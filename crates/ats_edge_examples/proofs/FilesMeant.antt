use Rattle.std.proofs.Common.{refl}
use Rattle.ats_csv.specs.Reading.{records_of}
use Rattle.ats_edge_examples.specs.FileWords.{BytesAreCut, EntriesAreMeant, FilesAreMeant, RoutesAreWritten}
use Rattle.ats_edge_examples.specs.FileWords.{TwoFormatsAreMeant}

-- Each word and its parts, one way and the other.

bytes : BytesAreCut
unfolding records_of
bytes = record {
  records = λ bytes. refl;
  text = λ fields. refl;
  byte = λ b. (
    λ is. (is.ascii, is.no_comma, is.no_quote, is.no_return, is.no_feed),
    λ is. record { ascii = is.0; no_comma = is.1; no_quote = is.2; no_return = is.3; no_feed = is.4 },
  );
  plain = λ fields. (
    λ is. (is.bytes, is.some, is.visible),
    λ is. record { bytes = is.0; some = is.1; visible = is.2 },
  );
}

entries : EntriesAreMeant
entries = record {
  nodes = λ d. refl;
  links = λ d. refl;
  stream = λ topology e n port. refl;
  flow = λ topology e n port. refl;
  streams = λ topology e. refl;
  flows = λ topology e. refl;
}

formats : TwoFormatsAreMeant
formats = record {
  stream = λ ms. (λ is. (is.paths, is.to), λ is. record { paths = is.0; to = is.1 });
  bridge = λ ms. (λ is. (is.deviation, is.step), λ is. record { deviation = is.0; step = is.1 });
  no_key = λ n. refl;
  keys = λ n text d ms. refl;
  texts = λ three two. (
    λ is. (
      is.tree,
      is.in_three,
      is.in_two,
      is.format,
      is.nothing_new,
      is.no_clocks,
      is.no_streams_for_ports,
      is.no_flows_for_ports,
    ),
    λ is. record {
      tree = is.0;
      in_three = is.1;
      in_two = is.2;
      format = is.3;
      nothing_new = is.4;
      no_clocks = is.5;
      no_streams_for_ports = is.6;
      no_flows_for_ports = is.7;
    },
  );
  read = λ d. refl;
  fault = λ fault. refl;
}

routes : RoutesAreWritten
routes = record {
  stream = λ topology entry by. (
    λ is. (is.route, is.path, is.one, is.found, is.names, is.else_same),
    λ is. record { route = is.0; path = is.1; one = is.2; found = is.3; names = is.4; else_same = is.5 },
  );
  document = λ d by. (λ is. (is.streams, is.else_same), λ is. record { streams = is.0; else_same = is.1 });
  ports = λ topology ports. (λ is. (is.few, is.stations), λ is. record { few = is.0; stations = is.1 });
  route = λ topology route. (λ is. is, λ is. is);
  entries = λ d. (λ is. is, λ is. is);
  streams = λ topology d. refl;
  flows = λ topology d. refl;
  made = λ network. refl;
  fault = λ fault. refl;
}

pub files_are_meant : FilesAreMeant
files_are_meant = record { bytes = bytes; entries = entries; formats = formats; routes = routes }
