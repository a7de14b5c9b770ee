use Rattle.std.proofs.Common.{◌≡◌, ◌∙◌, ℕ, ◌+◌, List, [], ◌∷◌, ◌++◌, Option, Some, ap, arith, refl, subst}
use Rattle.ats_io.specs.Reads.{IsReading, Read}
use Rattle.ats_plain_file_law.specs.Reads.{BytesAreAsked, FilesAreRead, bytes_of}

-- What is asked of bytes that are told, and of reads.

told_ones : (bytes held : List ℕ) → (let o : Option (List ℕ) = Some bytes in o) ≡ Some held → held ≡ bytes
told_ones bytes held same = cc same

asked : BytesAreAsked
asked = record {
  told = λ bytes test. ((λ is. is bytes refl), (λ is held same. ap test (told_ones bytes held same) ∙ is));
  found = λ bytes test. (
    (λ is. is bytes refl),
    (λ is held same. (is.0, ap (λ (b : List ℕ). test b is.0) (told_ones bytes held same) ∙ is.1)),
  );
  none = λ test. ((λ is. tt), (λ is held same. cc same));
}

-- a read is of the file, and begins where those before it end
abbrev Begins : List ℕ → ℕ → List Read → Read → Type 0
Begins name from before read = (read.name ≡ name) × (read.at ≡ from + bytes_of before)

abbrev EachBegins : List ℕ → ℕ → List Read → Type 0
EachBegins name from reads = (before : List Read) (read : Read) (behind : List Read) → reads ≡ before ++ read ∷ behind
    → Begins name from before read

begins : (name : List ℕ) (from : ℕ) (before : List Read) (read : Read) (behind : List Read)
    → IsReading name from (before ++ read ∷ behind) → Begins name from before read
begins name from [] read behind is =
    let at = is.1 in
    (is.0, omega (arith, at))
begins name from (one ∷ before) read behind is =
    let next = begins name (from + one.count) before read behind is.2 in
    let at = next.1 in
    (next.0, omega (arith, at))

each_begins : (name : List ℕ) (from : ℕ) (reads : List Read) → EachBegins name from reads → IsReading name from reads
each_begins name from [] each = tt
each_begins name from (one ∷ reads) each =
    let first = each [] one reads refl in
    let at = first.1 in (
      first.0,
      omega (arith, at),
      each_begins name (from + one.count) reads (λ before read behind same.
          let next = each (one ∷ before) read behind (ap (λ (rs : List Read). one ∷ rs) same) in
          let later = next.1 in
          (next.0, omega (arith, later))),
    )

pub files_are_read : FilesAreRead
files_are_read = record {
  asked = asked;
  last_place = refl;
  reading = λ name from reads. (
    (λ is before read behind same. begins name from before read behind (subst (IsReading name from) same is)),
    (λ each. each_begins name from reads each),
  );
}
