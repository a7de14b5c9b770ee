use Rattle.ats_meaning_examples.specs.Read.{ReadingIsMeant}

pub reading_is_meant : ReadingIsMeant
reading_is_meant file found reads = record {
  of_bytes = reads.bytes;
  of_pieces = reads.pieces;
  of_window = reads.window;
}
