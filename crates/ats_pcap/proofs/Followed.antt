use Rattle.std.proofs.Common.{◌≡◌, ℕ, ◌<◌, ◌≤◌, List, [], ◌++◌, length, Ok, Err, refl, sym, subst, ap, ◌∙◌}
use Rattle.std.proofs.Common.{append_assoc, append-nil}
use Rattle.std.proofs.lemmas.List.{nil_from_length}
use Rattle.ats_num.specs.Failure.{Fails}
use Rattle.ats_num.specs.declared.failure.Failure.{Failure}
use Rattle.ats_num.specs.declared.failure.Failure.TheVariants.{Fault, NoMemory}
use Rattle.ats_pcap.specs.Capture.{Position, position_of}
use Rattle.ats_pcap.specs.Inside.{IsOpen, room_at, taken}
use Rattle.ats_pcap.specs.Seen.{Follows}
use Rattle.ats_pcap.specs.declared.fault.CaptureFault.{CaptureFault}
use Rattle.ats_pcap.proofs.Taken.{position_of-fault, position_of-taken, taken-open}
use Rattle.ats_pcap.proofs.Whole.{Passes, passed, passed-open, position_of-passed}

-- nothing of a piece was read
pub follows_start : (old : Position) (piece : List ℕ) → IsOpen old → Follows old old piece piece
follows_start old piece is_open = record {
  between = is_open;
  done = [];
  whole = refl;
  reads = λ bytes h. subst (λ (bs : List ℕ). position_of bs ≡ Ok old) (sym (append-nil bytes)) h;
}

-- a further part was read
pub follows_further : (old p q : Position) (piece rest part after : List ℕ) → Follows old p piece rest
    → 0 < length part → length part ≤ room_at p → part ++ after ≡ rest → taken p part ≡ Ok q
    → Follows old q piece after
follows_further old p q piece rest part after f some fits split h = record {
  between = taken-open p q part f.between some fits h;
  done = f.done ++ part;
  whole = append_assoc f.done part after ∙ ap (λ (r : List ℕ). f.done ++ r) split ∙ f.whole;
  reads = λ bytes g. ap position_of (sym (append_assoc bytes f.done part))
      ∙ position_of-taken (bytes ++ f.done) part p (f.reads bytes g) f.between some fits ∙ h;
}

-- a whole record was read
pub follows_passed : (old p : Position) (piece rest part after : List ℕ) → Follows old p piece rest → Passes p part
    → part ++ after ≡ rest → Follows old (passed p part) piece after
follows_passed old p piece rest part after f s split = record {
  between = passed-open p part s;
  done = f.done ++ part;
  whole = append_assoc f.done part after ∙ ap (λ (r : List ℕ). f.done ++ r) split ∙ f.whole;
  reads = λ bytes g. ap position_of (sym (append_assoc bytes f.done part))
      ∙ position_of-passed (bytes ++ f.done) part p (f.reads bytes g) s;
}

-- a part was read, and then more of it
pub follows_on : (old p q : Position) (piece rest after : List ℕ) → Follows old p piece rest → Follows p q rest after
    → Follows old q piece after
follows_on old p q piece rest after f g = record {
  between = g.between;
  done = f.done ++ g.done;
  whole = append_assoc f.done g.done after ∙ ap (λ (r : List ℕ). f.done ++ r) g.whole ∙ f.whole;
  reads = λ bytes h. ap position_of (sym (append_assoc bytes f.done g.done))
      ∙ g.reads (bytes ++ f.done) (f.reads bytes h);
}

-- all of it was read
pub follows_end : (old p : Position) (piece rest : List ℕ) → Follows old p piece rest → length rest ≡ 0
    → (bytes : List ℕ) → position_of bytes ≡ Ok old → position_of (bytes ++ piece) ≡ Ok p
follows_end old p piece rest f none bytes h =
    let all : f.done ≡ piece = sym (append-nil f.done)
    ∙ ap (λ (r : List ℕ). f.done ++ r) (sym (nil_from_length rest none)) ∙ f.whole in
    subst (λ (bs : List ℕ). position_of (bytes ++ bs) ≡ Ok p) all (f.reads bytes h)

-- a part of it showed a fault
pub follows_fault : (old p : Position) (piece rest part after : List ℕ) (e : Failure CaptureFault)
    → Follows old p piece rest → 0 < length part → length part ≤ room_at p → part ++ after ≡ rest
    → Fails e (taken p part) → (bytes : List ℕ) → position_of bytes ≡ Ok old → Fails e (position_of (bytes ++ piece))
follows_fault old p piece rest part after NoMemory f some fits split h bytes g = tt
follows_fault old p piece rest part after (Fault fault) f some fits split h bytes g =
    let shown : position_of ((bytes ++ f.done) ++ part) ≡ Err fault =
    position_of-taken (bytes ++ f.done) part p (f.reads bytes g) f.between some fits ∙ h in
    let joined : ((bytes ++ f.done) ++ part) ++ after ≡ bytes ++ piece =
    append_assoc (bytes ++ f.done) part after ∙ ap (λ (r : List ℕ). (bytes ++ f.done) ++ r) split
    ∙ append_assoc bytes f.done rest ∙ ap (λ (r : List ℕ). bytes ++ r) f.whole in
    sym (ap position_of joined) ∙ position_of-fault ((bytes ++ f.done) ++ part) after fault shown
