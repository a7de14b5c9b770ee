use Rattle.std.proofs.Common.{◌≡◌, ◌∙◌, ◌↔◌, ℕ, zero, suc, ◌≤◌, Bool, true, false, List, Option, Some, None, Result, Ok}
use Rattle.std.proofs.Common.{Err, refl, ap, ap₂, arith}
use Rattle.std.specs.Prelude.{IsTrue, find, not, option_and_then, ◌||◌}
use Rattle.std.specs.List.{list_any}
use Rattle.toml.specs.Data.{Data, Members, as_integer, get_member, member, no_members}
use Rattle.ats_num.specs.Failure.{◌>>=◌, ok_where}
use Rattle.ats_network_table.specs.Kinds.{whole_in}
use Rattle.ats_network_table.specs.Walk.{Entry, format_of, formed, has_unknown, is_known, is_missing, lists_classes}
use Rattle.ats_network_table.specs.Walk.{may_branch, may_have_clock, none_missing, whole_at, wrong_kind}
use Rattle.ats_network_table.specs.Words.{key_text, keys_of}
use Rattle.ats_network_table.specs.declared.fault.DocumentFault.{DocumentFault}
use Rattle.ats_network_table.specs.declared.fault.DocumentFault.TheVariants.{Unknown}
use Rattle.ats_network_table.specs.declared.format.Format.{Format}
use Rattle.ats_network_table.specs.declared.format.Format.TheVariants.{One, Three, Two}
use Rattle.ats_network_table.specs.declared.key.Key.{Key}
use Rattle.ats_network_table.specs.declared.key.Key.TheVariants as key
use Rattle.ats_network_table.specs.declared.table.Table.{Table}
use Rattle.ats_network_table.specs.declared.table.Table.TheVariants.{Bridge, Flow, Link, LinkLocal, LinkLocalFlow}
use Rattle.ats_network_table.specs.declared.table.Table.TheVariants.{Station, Stream, Top}
use Rattle.ats_network_file.proofs.Steps.{or_fault_ok}
use Rattle.ats_plain_document_law.specs.Tables.{FormsAreJudged, SomeMayHaveMore, TablesAreDeclared, TablesHaveKeys}
use Rattle.ats_plain_document_law.specs.Tables.{TopsAreRead, keys_told, number_of}
use Rattle.ats_plain_document_law.proofs.ValueProofs.{ranged_only}

-- What tables may have, and when they are well formed.

keys : TablesHaveKeys
keys = record {
  top_two = refl;
  stream_two = refl;
  least_one = refl;
  least_two = refl;
  least_three = refl;
  greatest_one = refl;
  greatest_two = refl;
  greatest_three = refl;
}

branches : (f : Format) (t : Table) → IsTrue (may_branch f t) → (f ≡ Three) × (t ≡ Stream)
branches One t is = cc is
branches Two t is = cc is
branches Three Top is = cc is
branches Three Station is = cc is
branches Three Bridge is = cc is
branches Three Link is = cc is
branches Three Stream is = (refl, refl)
branches Three LinkLocal is = cc is
branches Three Flow is = cc is
branches Three LinkLocalFlow is = cc is

lists : (t : Table) → IsTrue (lists_classes t) → t ≡ Stream
lists Top is = cc is
lists Station is = cc is
lists Bridge is = cc is
lists Link is = cc is
lists Stream is = refl
lists LinkLocal is = cc is
lists Flow is = cc is
lists LinkLocalFlow is = cc is

clocks : (f : Format) → IsTrue (may_have_clock f) → f ≡ Three
clocks One is = cc is
clocks Two is = cc is
clocks Three is = refl

more : SomeMayHaveMore
more = record {
  branch = λ f t. ((λ is. branches f t is), (λ is. ap₂ may_branch is.0 is.1));
  list = λ t. ((λ is. lists t is), (λ is. ap lists_classes is));
  clock = λ f. ((λ is. clocks f is), (λ is. ap may_have_clock is));
  paths = λ e. refl;
  classes = λ e. refl;
}

unknown : (ks : List Key) (ms : Members) → has_unknown ks ms ≡ list_any (λ text. not (is_known ks text)) (keys_told ms)
unknown ks no_members = refl
unknown ks (member text d ms) = ap (λ (b : Bool). not (is_known ks text) || b) (unknown ks ms)

missing_first : (e : Entry) (o : Option Key) → find (is_missing e) (keys_of e.format e.table) ≡ o
    → formed e ≡ (none_missing e o
    >>= λ complete. ok_where (not (has_unknown (keys_of e.format e.table) e.members)) (Unknown e.table e.number)
    complete)
missing_first e o is = ap (λ (o : Option Key). none_missing e o
    >>= λ complete. ok_where (not (has_unknown (keys_of e.format e.table) e.members)) (Unknown e.table e.number)
    complete) is

unknown_next : (e : Entry) (b : Bool) → find (is_missing e) (keys_of e.format e.table) ≡ None
    → has_unknown (keys_of e.format e.table) e.members ≡ b
    → formed e ≡ ok_where (not b) (Unknown e.table e.number) tt
unknown_next e b none is =
    missing_first e None none ∙ ap (λ (b : Bool). ok_where (not b) (Unknown e.table e.number) tt) is

forms : FormsAreJudged
forms = record {
  unknown = unknown;
  missing = λ e k is. missing_first e (Some k) is;
  not_its_own = λ e none is. unknown_next e true none is;
  well = λ e none is. unknown_next e false none is;
  wrong = λ e k. refl;
}

-- a number of a range
abbrev AreWithin : ℕ → ℕ → ℕ → Type 0
AreWithin least most n = (least ≤ n) × (n ≤ most)

whole_within : (least most n : ℕ) (o : Option Data) → option_and_then (whole_in least most) o ≡ Some n
    → AreWithin least most n
whole_within least most n None h = cc h
whole_within least most n (Some d) h =
    let is = ranged_only least most (as_integer d) n h in
    (is.1, is.2)

-- the number of a format, where it is 1 to 3
numbered : (n : ℕ) (f : Format) → AreWithin 1 3 n → format_of n ≡ f → n ≡ number_of f
numbered zero f within h =
    let low = within.0 in
    absurd (omega (arith, low))
numbered (suc zero) f within h = ap number_of h
numbered (suc (suc zero)) f within h = ap number_of h
numbered (suc (suc (suc zero))) f within h = ap number_of h
numbered (suc (suc (suc (suc n)))) f within h =
    let high = within.1 in
    absurd (omega (arith, high))

of_number : (f : Format) → format_of (number_of f) ≡ f
of_number One = refl
of_number Two = refl
of_number Three = refl

-- the format of the number that was read, or the fault
abbrev as_format : Result ℕ DocumentFault → Result Format DocumentFault
as_format read = read >>= λ n. Ok (format_of n)

format_read : (top : Entry) (f : Format) (r : Result ℕ DocumentFault) → whole_at top key.Format 1 3 ≡ r
    → as_format r ≡ Ok f → r ≡ Ok (number_of f)
format_read top f (Ok n) is h =
    let within = whole_within 1 3 n (get_member (key_text key.Format) top.members)
    (or_fault_ok (wrong_kind top key.Format) _ n is) in
    ap Ok (numbered n f within (cc h))
format_read top f (Err e) is h = cc h

fault_read : (fault : DocumentFault) (r : Result ℕ DocumentFault) → as_format r ≡ Err fault ↔ r ≡ Err fault
fault_read fault (Ok n) = ((λ h. cc h), (λ h. cc h))
fault_read fault (Err e) = ((λ h. cc h), (λ h. cc h))

tops : TopsAreRead
tops = record {
  format = λ tree. refl;
  table = λ tree. refl;
  number = λ tree. refl;
  members = λ tree. refl;
  of = λ n. refl;
  given = λ top f. (
    (λ h. format_read top f (whole_at top key.Format 1 3) refl h),
    (λ is. ap as_format is ∙ ap Ok (of_number f)),
  );
  not_given = λ top fault. fault_read fault (whole_at top key.Format 1 3);
}

pub tables_are_declared : TablesAreDeclared
tables_are_declared = record { keys = keys; more = more; forms = forms; tops = tops }
