use Rattle.std.proofs.Common.{◌≡◌, ℕ, Bool, true, false, ◌&&◌, List, length, Option, None, Some, Result, refl, ap, ◌∙◌}
use Rattle.std.specs.Prelude.{◌==◌, is_ok, codes, unwrap_or, nat_le, if◌then◌else◌}
use Rattle.std.specs.Str.{bytes_eq}
use Rattle.std.proofs.lemmas.Slice.Eq.{bytes_eq-Decides}
use Rattle.ats_num.specs.Name.{is_name}
use Rattle.ats_num.specs.Number.{number_of}
use Rattle.ats_num.specs.Failure.{◌>>=◌, or_fault, ok_where}
use Rattle.ats_words.specs.Words.{word}
use Rattle.ats_shape.specs.Reading.{residence_in, stream_in, frame_in}
use Rattle.ats_shape.specs.FaultLaw.{number_in}
use Rattle.ats_shape.specs.declared.fault.ShapeFault.{ShapeFault}
use Rattle.ats_shape.specs.declared.fault.ShapeFault.TheVariants.{BadLine}
use Rattle.ats_shape.specs.declared.line.StreamWords.{StreamWords}
use Rattle.ats_shape.specs.declared.line.FrameWords.{FrameWords}

-- a word that is this one is no other
pub other_word : (w a b : List ℕ) → bytes_eq w a ≡ true → bytes_eq a b ≡ false → bytes_eq w b ≡ false
other_word w a b is other = ap (λ (v : List ℕ). bytes_eq v b) ((bytes_eq-Decides w a).0 is) ∙ other

ok_again : {A : Type 0} (b : Bool) (fault : ShapeFault) (x : A)
    → ok_where b fault x ≡ ok_where (is_ok (ok_where b fault x)) fault x
ok_again true fault x = refl
ok_again false fault x = refl

residence_steps : (n : ℕ) (ns : Option ℕ) (rest : ℕ → Bool)
    → (or_fault (BadLine n) ns >>= λ x. ok_where (rest x) (BadLine n) x)
    ≡ ok_where (is_ok (or_fault (BadLine n) ns >>= λ x. ok_where (rest x) (BadLine n) x)) (BadLine n) (unwrap_or ns 0)
residence_steps n None rest = refl
residence_steps n (Some x) rest = ok_again (rest x) (BadLine n) x

-- a residence line that has its form says its number
pub residence_form : (n : ℕ) (words : List (List ℕ))
    → residence_in n words ≡ ok_where (is_ok (residence_in n words)) (BadLine n) (number_in words 1)
residence_form n words = residence_steps n (number_of (word words 1))
    (λ ns. length words == 2 && bytes_eq (word words 0) (codes "residence") && nat_le ns 1000000000)

-- its first word
residence_tests : (n : ℕ) (ns : Option ℕ) (two starts : Bool) (rest : ℕ → Bool)
    → is_ok (or_fault (BadLine n) ns >>= λ x. ok_where (two && starts && rest x) (BadLine n) x) ≡ true → starts ≡ true
residence_tests n None two starts rest h = cc
residence_tests n (Some x) true true rest h = refl
residence_tests n (Some x) true false rest h = cc
residence_tests n (Some x) false true rest h = refl
residence_tests n (Some x) false false rest h = cc

pub residence_starts : (n : ℕ) (words : List (List ℕ)) → is_ok (residence_in n words) ≡ true
    → bytes_eq (word words 0) (codes "residence") ≡ true
residence_starts n words = residence_tests n (number_of (word words 1)) (length words == 2)
    (bytes_eq (word words 0) (codes "residence")) (λ ns. nat_le ns 1000000000)

-- what a stream line says, and a frame line
abbrev pub stream_said : List (List ℕ) → StreamWords
stream_said words = record {
  name = word words 1;
  rate_bps = number_in words 2;
  burst_bits = number_in words 3;
  min_octets = number_in words 4;
  max_octets = number_in words 5;
}

abbrev pub frame_said : List (List ℕ) → FrameWords
frame_said words = record { at = number_in words 1; name = word words 2; octets = number_in words 3 }

abbrev stream_read : ℕ → Bool → List ℕ → Option ℕ → Option ℕ → Option ℕ → Option ℕ → Bool
    → Result StreamWords ShapeFault
stream_read n named name rate burst least most six =
    or_fault (BadLine n) (if named then Some name else None) >>= λ name. or_fault (BadLine n) rate >>= λ rate. or_fault
    (BadLine n) burst >>= λ burst. or_fault (BadLine n) least >>= λ least. or_fault (BadLine n) most >>= λ most.
    ok_where six (BadLine n)
    (record { name = name; rate_bps = rate; burst_bits = burst; min_octets = least; max_octets = most })

stream_steps : (n : ℕ) (named : Bool) (name : List ℕ) (rate burst least most : Option ℕ) (six : Bool)
    → stream_read n named name rate burst least most six
    ≡ ok_where (is_ok (stream_read n named name rate burst least most six)) (BadLine n) (record {
      name = name;
      rate_bps = unwrap_or rate 0;
      burst_bits = unwrap_or burst 0;
      min_octets = unwrap_or least 0;
      max_octets = unwrap_or most 0;
    })
stream_steps n false name rate burst least most six = refl
stream_steps n true name None burst least most six = refl
stream_steps n true name (Some a) None least most six = refl
stream_steps n true name (Some a) (Some b) None most six = refl
stream_steps n true name (Some a) (Some b) (Some c) None six = refl
stream_steps n true name (Some a) (Some b) (Some c) (Some d) six = ok_again six (BadLine n) _

pub stream_form : (n : ℕ) (words : List (List ℕ))
    → stream_in n words ≡ ok_where (is_ok (stream_in n words)) (BadLine n) (stream_said words)
stream_form n words = stream_steps n (is_name (word words 1)) (word words 1) (number_of (word words 2))
    (number_of (word words 3)) (number_of (word words 4)) (number_of (word words 5)) (length words == 6)

abbrev frame_read : ℕ → Option ℕ → Bool → List ℕ → Option ℕ → (ℕ → ℕ → Bool) → Result FrameWords ShapeFault
frame_read n at named name octets tests =
    or_fault (BadLine n) at >>= λ at. or_fault (BadLine n) (if named then Some name else None)
    >>= λ name. or_fault (BadLine n) octets >>= λ octets.
    ok_where (tests at octets) (BadLine n) (record { at = at; name = name; octets = octets })

frame_steps : (n : ℕ) (at : Option ℕ) (named : Bool) (name : List ℕ) (octets : Option ℕ) (tests : ℕ → ℕ → Bool)
    → frame_read n at named name octets tests
    ≡ ok_where (is_ok (frame_read n at named name octets tests)) (BadLine n)
    (record { at = unwrap_or at 0; name = name; octets = unwrap_or octets 0 })
frame_steps n None named name octets tests = refl
frame_steps n (Some a) false name octets tests = refl
frame_steps n (Some a) true name None tests = refl
frame_steps n (Some a) true name (Some c) tests = ok_again (tests a c) (BadLine n) _

pub frame_form : (n : ℕ) (words : List (List ℕ))
    → frame_in n words ≡ ok_where (is_ok (frame_in n words)) (BadLine n) (frame_said words)
frame_form n words =
    frame_steps n (number_of (word words 1)) (is_name (word words 2)) (word words 2) (number_of (word words 3))
    (λ at octets. length words == 4 && nat_le at 100000000000000000 && nat_le 64 octets && nat_le octets 2000)
