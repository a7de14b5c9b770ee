-- Each word by its definition.
use Rattle.std.proofs.Common.{refl}
use Rattle.ats_first_examples.specs.Written.{ArraysAreMeant, KeysAreMeant, TablesAreMeant, TextsAreMeant}
use Rattle.ats_first_examples.specs.Written.{ValuesAreMeant, WordsAreWritten}

values_are_meant : ValuesAreMeant
values_are_meant = record {
  name = λ d. refl;
  short_name = λ d. refl;
  whole = λ least most d. refl;
  within = λ least most n. refl;
  below = λ least most n. refl;
  long = λ d. refl;
  digit = λ text k. refl;
  pair = λ text k. refl;
  joined = λ text k. refl;
  three = λ text k high. refl;
  six = λ text. refl;
  address = λ d. refl;
}

arrays_are_meant : ArraysAreMeant
arrays_are_meant = record {
  front = λ x xs. refl;
  no_front = λ xs. refl;
  no_rest = λ x. refl;
  none = λ kind. refl;
  more = λ kind d ds. refl;
  list = λ kind d. refl;
  names = λ least d. refl;
  paths = λ d. refl;
  listeners = λ several d. refl;
  tables = λ d. refl;
}

keys_are_meant : KeysAreMeant
keys_are_meant = record {
  top = refl;
  top_two = refl;
  top_three = refl;
  station = λ f. refl;
  bridge = refl;
  bridge_two = refl;
  bridge_three = refl;
  link = λ f. refl;
  stream = refl;
  stream_two = refl;
  stream_three = refl;
  link_local = λ f. refl;
  flow = λ f. refl;
  link_local_flow = λ f. refl;
  stands = λ e k. refl;
  known = λ ks text. refl;
  no_unknown = λ ks. refl;
  unknown = λ ks text d ms. refl;
}

tables_are_meant : TablesAreMeant
tables_are_meant = record {
  stands = λ e k kind. refl;
  name = λ e k. refl;
  short_name = λ e k. refl;
  whole = λ e k least most. refl;
  short = λ e k. refl;
  long = λ e k. refl;
  path = λ e. refl;
  paths = λ e. refl;
  listeners = λ e. refl;
  classes = λ e. refl;
  deadline = λ e. refl;
  clock = λ e k. refl;
  identity = λ e. refl;
  route = λ e. refl;
  routes = λ e. refl;
}

texts_are_meant : TextsAreMeant
texts_are_meant = record {
  no_entry = λ read f t n. refl;
  entry = λ read f t n ms rest. refl;
  within = λ read f t most many tables. refl;
  array = λ e k. refl;
  tree = λ text. refl;
  document = λ text. refl;
}

pub words_are_written : WordsAreWritten
words_are_written = record {
  values = values_are_meant;
  arrays = arrays_are_meant;
  keys = keys_are_meant;
  tables = tables_are_meant;
  texts = texts_are_meant;
}
