-- The format of a document is the number in its text.
use Rattle.std.proofs.Common.{◌≡◌, ◌∙◌, ℕ, zero, suc, ◌≤◌, Bool, true, false, cond, List, Option, Some, None, refl, sym}
use Rattle.std.proofs.Common.{Result, Ok, ap, arith}
use Rattle.std.specs.Prelude.{ℤ, pos, negsuc, nat_le, ◌&&◌, option_and_then}
use Rattle.toml.specs.Data.{Data, Members, array, as_integer, boolean, datetime, float, get_member, integer, string}
use Rattle.toml.specs.Data.{table}
use Rattle.ats_num.specs.Failure.{◌>>=◌, or_fault}
use Rattle.ats_network_table.specs.Kinds.{ranged, whole_in}
use Rattle.ats_network_table.specs.Walk.{Entry, format_at, format_of, formed, whole_at}
use Rattle.ats_network_table.specs.Words.{key_text}
use Rattle.ats_network_table.specs.declared.format.Format.{Format}
use Rattle.ats_network_table.specs.declared.fault.DocumentFault.{DocumentFault}
use Rattle.ats_network_table.specs.declared.fault.DocumentFault.TheVariants as fault
use Rattle.ats_network_table.specs.declared.key.Key.TheVariants as key
use Rattle.ats_network_toml.specs.Reading.{Arrays, arrays_in, arrays_read, document_in, tables_at, tree_of}
use Rattle.ats_network_file.proofs.Documents.{document_kept, format_read}
use Rattle.ats_network_file.proofs.Identities.{whole_kept}
use Rattle.ats_network_file.proofs.Steps.{both, or_fault_ok}
use Rattle.ats_network_file_law.specs.FormatNumber.{EachHasItsNumber, number_in}
use Rattle.ats_network_file_law.specs.FormFaults.{top_of}

-- what stands where a whole number is read is this number
in_range : (m n : ℕ) (test : Bool) → (let o : Option ℕ = cond test (Some m) None in o) ≡ Some n → m ≡ n
in_range m n true h = cc h
in_range m n false h = cc h

whole_is : (d : Data) (n : ℕ) → whole_in 1 3 d ≡ Some n → as_integer d ≡ Some (pos n)
whole_is d n h = by (as_integer d) h
  where
    by : (o : Option ℤ) → option_and_then (ranged 1 3) o ≡ Some n → o ≡ Some (pos n)
    by None h = cc h
    by (Some (pos m)) h = ap (λ (k : ℕ). Some (pos k)) (in_range m n (nat_le 1 m && nat_le m 3) h)
    by (Some (negsuc m)) h = cc h

integer_is : (d : Data) (z : ℤ) → as_integer d ≡ Some z → d ≡ integer z
integer_is (string s) z h = cc h
integer_is (integer w) z h = ap integer (cc h)
integer_is (float x) z h = cc h
integer_is (boolean b) z h = cc h
integer_is (datetime t) z h = cc h
integer_is (array ds) z h = cc h
integer_is (table ms) z h = cc h

stands : (found : Option Data) (n : ℕ) → option_and_then (whole_in 1 3) found ≡ Some n
    → found ≡ Some (integer (pos n))
stands None n h = cc h
stands (Some d) n h = ap Some (integer_is d (pos n) (whole_is d n h))

-- each number of a format is that of the format
number_back : (n : ℕ) → 1 ≤ n → n ≤ 3 → number_in (format_of n) ≡ n
number_back zero least most = absurd (omega (arith, least))
number_back (suc zero) least most = refl
number_back (suc (suc zero)) least most = refl
number_back (suc (suc (suc zero))) least most = refl
number_back (suc (suc (suc (suc n)))) least most = absurd (omega (arith, most))

-- what is read in its place
same_format : (x y : Format) → (let r : Result Format DocumentFault = Ok x in r) ≡ Ok y → x ≡ y
same_format x y h = cc h

same_arrays : (x y : Arrays) → (let r : Result Arrays DocumentFault = Ok x in r) ≡ Ok y → x ≡ y
same_arrays x y h = cc h

abbrev Tables : Type 0
Tables = Result (List Members) DocumentFault

format_from : (well : Result (Unit {0}) DocumentFault) (format : Result Format DocumentFault)
    (stations bridges links streams locals flows local_flows : Tables) (arrays : Arrays)
    → (well >>= λ u. format >>= λ f. stations >>= λ a. bridges >>= λ b. links >>= λ c. streams >>= λ d. locals
    >>= λ p. flows >>= λ e. local_flows >>= λ q.
    Ok (record {
      format = f;
      stations = a;
      bridges = b;
      links = c;
      streams = d;
      link_locals = p;
      flows = e;
      link_local_flows = q;
    })) ≡ Ok arrays
    → format ≡ Ok arrays.format
format_from well format stations bridges links streams locals flows local_flows arrays h =
    let w = both well _ arrays h in
    let f = both format _ arrays w.then in
    let a = both stations _ arrays f.then in
    let b = both bridges _ arrays a.then in
    let c = both links _ arrays b.then in
    let d = both streams _ arrays c.then in
    let p = both locals _ arrays d.then in
    let e = both flows _ arrays p.then in
    let q = both local_flows _ arrays e.then in
    f.is ∙ ap (λ (x : Arrays). let r : Result Format DocumentFault = Ok x.format in r) (same_arrays _ arrays q.then)

-- the format that the top table gives, by its number
given_number : (top : Entry) (arrays : Arrays) → arrays_in top ≡ Ok arrays
    → get_member (key_text key.Format) top.members ≡ Some (integer (pos (number_in arrays.format)))
given_number top arrays h =
    let read : format_at top ≡ Ok arrays.format =
    format_from (formed top) (format_at top) (tables_at top key.Station) (tables_at top key.Bridge)
    (tables_at top key.Link) (tables_at top key.Stream) (tables_at top key.LinkLocal) (tables_at top key.Flow)
    (tables_at top key.LinkLocalFlow) arrays h in
    let n = both (whole_at top key.Format 1 3) (λ n. Ok (format_of n)) arrays.format read in
    let value : option_and_then (whole_in 1 3) (get_member (key_text key.Format) top.members) ≡ Some n.first =
    or_fault_ok (fault.WrongKind top.table top.number key.Format) _ n.first n.is in
    let range : (1 ≤ n.first) × (n.first ≤ 3) =
    whole_kept 1 3 (get_member (key_text key.Format) top.members) n.first value in
    stands (get_member (key_text key.Format) top.members) n.first value
    ∙ ap (λ (k : ℕ). Some (integer (pos k))) (sym (number_back n.first range.0 range.1)
    ∙ ap number_in (same_format (format_of n.first) arrays.format n.then))

pub each_has_its_number : EachHasItsNumber
each_has_its_number text d h =
    let tree = both (or_fault fault.NotToml (tree_of text)) document_in d h in
    let arrays = both (arrays_in (top_of tree.first)) arrays_read d tree.then in
    record {
      tree = tree.first;
      toml = or_fault_ok fault.NotToml (tree_of text) tree.first tree.is;
      number = given_number (top_of tree.first) arrays.first arrays.is
          ∙ ap (λ f. Some (integer (pos (number_in f)))) (format_read arrays.first d arrays.then);
      given = (document_kept text d h).format;
    }
