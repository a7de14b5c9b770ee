-- What is read from the text of a certificate are its rows.
use Rattle.std.proofs.Common.{◌≡◌, ◌∙◌, ℕ, ◌+◌, ◌-◌, ◌<◌, ◌≤◌, ◌^◌, Bool, true, cond, ◌&&◌, List, [], ◌∷◌, ◌++◌, get_or}
use Rattle.std.proofs.Common.{length, map, Option, None, Some, Ok, Err, Result, refl, sym, ap, subst, append_assoc}
use Rattle.std.proofs.Common.{append-nil, length-append, arith, inl, inr}
use Rattle.std.specs.Prelude.{decimal, nat_le}
use Rattle.std.specs.List.{All, AllPairs}
use Rattle.std.proofs.lemmas.Bool.Decides.{nat_tests}
use Rattle.std.proofs.lemmas.List.{get_or_append_left}
use Rattle.std.proofs.Math.Seq.{get_or-append_seam}
use Rattle.std.proofs.lemmas.List.Elements.{All-cons, All-head, All-nil, All-tail}
use Rattle.std.proofs.lemmas.Option.{get_or_from_slice_get, slice_get_within}
use Rattle.ats_num.specs.declared.wire.TheConstants.{MAX_WIRE_BITS}
use Rattle.ats_num.proofs.Decimal.{reads_back}
use Rattle.ats_topology.specs.Topology.{ports_of, topology_of}
use Rattle.ats_topology.specs.declared.node.Node.{Node}
use Rattle.ats_topology.specs.declared.link.Link.{Link}
use Rattle.ats_port_names.specs.Laws.{AreSound}
use Rattle.ats_port_names.proofs.ReadsBack.{port_reads_back}
use Rattle.ats_csv.specs.Plain.{IsPlain}
use Rattle.ats_csv.specs.Reading.{same_fields}
use Rattle.ats_csv.proofs.ReadsBack.{plain_reads_back}
use Rattle.ats_certificate.specs.Certificate.{IsBefore}
use Rattle.ats_certificate.specs.Form.{ComesAfter, IsRow, last_of}
use Rattle.ats_certificate.specs.declared.row.Row.{Row}
use Rattle.ats_certificate_file.specs.Laws.{CertificateReadsBack}
use Rattle.ats_certificate_file.specs.Reading.{comes_after, header, is_before, number_in, number_within, row_after}
use Rattle.ats_certificate_file.specs.Reading.{row_in, rows_from, rows_under}
use Rattle.ats_num.specs.Failure.{◌>>=◌, ok_where, or_fault}
use Rattle.ats_certificate_file.specs.Text.{fields_of}
use Rattle.ats_certificate_file.specs.declared.fault.CertFault.{CertFault}
use Rattle.ats_certificate_file.specs.declared.fault.CertFault.TheVariants.{BadNumber, BadRow, RowOrder, UnknownPort}
use Rattle.ats_certificate_file.proofs.PlainRows.{plain_header, plain_row}

-- a number that was written is read
number_read : (n x : ℕ) → x < 10 ^ 36 → number_in n (decimal x) ≡ Ok x
number_read n x few = ap (or_fault (BadNumber n)) (reads_back x few)

number_read_within : (n x least most : ℕ) → x < 10 ^ 36 → least ≤ x → x ≤ most
    → number_within n least most (decimal x) ≡ Ok x
number_read_within n x least most few low high =
    let fits : (nat_le least x && nat_le x most) ≡ true = grind (arith, nat_tests) in
    ap (λ (r : Result ℕ CertFault). r
    >>= λ number. ok_where (nat_le least number && nat_le number most) (BadNumber n) number) (number_read n x few)
    ∙ ap (λ (b : Bool). ok_where b (BadNumber n) x) fits

-- one step that gives its value
step : {A B : Type 0} (r : Result A CertFault) (x : A) (next : A → Result B CertFault) (due : Result B CertFault)
    → r ≡ Ok x → next x ≡ due → (r >>= next) ≡ due
step r x next due e f = rw e f

-- the row that was written is read
row_read : (nodes : List Node) (links : List Link) → AreSound nodes links → (n : ℕ) (row : Row) → IsRow row
    → row.port < length (ports_of nodes links)
    → row_in (topology_of nodes links) n (fields_of (topology_of nodes links) row) ≡ Ok row
unfolding row_in
row_read nodes links sound n row is within =
    let port = ap (or_fault (UnknownPort n)) (port_reads_back nodes links sound row.port within) in
    let class = number_read_within n row.class 1 7 (omega arith) is.class_least is.class_most in
    let higher = number_read n row.higher is.higher in
    let equal = number_read n row.equal is.equal in
    let bursts = number_read n row.bursts is.bursts in
    let lower = number_read_within n row.lower 0 MAX_WIRE_BITS (omega arith) (omega arith) is.lower in
    let least = number_read_within n row.least 0 MAX_WIRE_BITS (omega arith) (omega arith) is.least in
    let wait = number_read n row.wait is.wait in
    let bound = number_read n row.bound is.bound in
    step _ _ _ _ port (step _ _ _ _ class
    (step _ _ _ _ higher (step _ _ _ _ equal (step _ _ _ _ bursts (step _ _ _ _ lower (step _ _ _ _ least
    (step _ _ _ _ wait (step _ _ _ _ bound refl))))))))

-- a row that comes before another passes the test
passes : (a b : Row) → IsBefore a b → is_before a b ≡ true
passes a b (inl low) = grind (arith, nat_tests)
passes a b (inr (same, class)) = grind (arith, nat_tests)

comes : (o : Option Row) (row : Row) → ((last : Row) → o ≡ Some last → IsBefore last row) → comes_after o row ≡ true
comes None row after = refl
comes (Some last) row after = passes last row (after last refl)

-- in an ascending list each row comes after those before it
after_last : (before : List Row) (row : Row) (rest : List Row) → AllPairs IsBefore (before ++ row ∷ rest)
    → ComesAfter before row
after_last before row rest ordered last is =
    let within = slice_get_within before (length before - 1) last is in
    let here : get_or (before ++ row ∷ rest) (length before - 1) row ≡ last =
    get_or_append_left before (row ∷ rest) row (length before - 1) within
    ∙ get_or_from_slice_get before (length before - 1) last row is in
    let there : get_or (before ++ row ∷ rest) (length before) row ≡ row = get_or-append_seam before row rest row in
    let pair = ordered (length before - 1) (length before) row (omega arith)
    (omega (arith, length-append before (row ∷ rest))) in
    subst (λ (r : Row). IsBefore last r) there
    (subst (λ (l : Row). IsBefore l (get_or (before ++ row ∷ rest) (length before) row)) here pair)

-- the rows that were written are read
rows_read : (nodes : List Node) (links : List Link) → AreSound nodes links → (before rows : List Row) (n : ℕ)
    → All IsRow rows → All (λ (row : Row). row.port < length (ports_of nodes links)) rows
    → AllPairs IsBefore (before ++ rows)
    → rows_from (topology_of nodes links) before n (map (fields_of (topology_of nodes links)) rows)
    ≡ Ok (before ++ rows)
unfolding row_after
rows_read nodes links sound before [] n each ports ordered = ap Ok (sym (append-nil before))
rows_read nodes links sound before (row ∷ rows) n each ports ordered =
    let topology = topology_of nodes links in
    let is = All-head IsRow row rows each in
    let within = All-head (λ (r : Row). r.port < length (ports_of nodes links)) row rows ports in
    let read = row_read nodes links sound n row is within in
    let after = comes (last_of before) row (after_last before row rows ordered) in
    let one : row_after topology before n (fields_of topology row) ≡ Ok row =
    step _ _ _ _ read (ap (λ (b : Bool). ok_where b (RowOrder n) row) after) in
    let joined : (before ++ row ∷ []) ++ rows ≡ before ++ row ∷ rows = append_assoc before (row ∷ []) rows in
    let rest = rows_read nodes links sound (before ++ row ∷ []) rows (n + 1) (All-tail IsRow row rows each)
    (All-tail (λ (r : Row). r.port < length (ports_of nodes links)) row rows ports)
    (subst (AllPairs IsBefore) (sym joined) ordered) in
    step _ _ _ _ one (rest ∙ ap Ok joined)

-- each record that is written is plain
all_plain : (nodes : List Node) (links : List Link) → AreSound nodes links → (rows : List Row)
    → All IsRow rows → All (λ (row : Row). row.port < length (ports_of nodes links)) rows
    → All IsPlain (map (fields_of (topology_of nodes links)) rows)
all_plain nodes links sound [] each ports = All-nil IsPlain
all_plain nodes links sound (row ∷ rows) each ports =
    All-cons IsPlain (fields_of (topology_of nodes links) row) (map (fields_of (topology_of nodes links)) rows)
    (plain_row nodes links sound row (All-head IsRow row rows each)
    (All-head (λ (r : Row). r.port < length (ports_of nodes links)) row rows ports))
    (all_plain nodes links sound rows (All-tail IsRow row rows each)
    (All-tail (λ (r : Row). r.port < length (ports_of nodes links)) row rows ports))

header_is : same_fields header header ≡ true
unfolding header same_fields
header_is = refl

pub certificate_reads_back : CertificateReadsBack
certificate_reads_back nodes links sound rows form ports =
    let topology = topology_of nodes links in
    let records = header ∷ map (fields_of topology) rows in
    let plain = All-cons IsPlain header (map (fields_of topology) rows) plain_header
    (all_plain nodes links sound rows form.each ports) in
    ap (rows_under topology) (plain_reads_back records plain)
    ∙ ap (λ (b : Bool). cond b (rows_from topology [] 2 (map (fields_of topology) rows)) (Err (BadRow 1))) header_is
    ∙ rows_read nodes links sound [] rows 2 form.each ports form.ordered
