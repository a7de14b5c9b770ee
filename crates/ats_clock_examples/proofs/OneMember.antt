use Rattle.std.proofs.Common.{◌≡◌, ℕ, Bool, true, false, List, [], ◌∷◌, map, refl}
use Rattle.std.specs.Prelude.{ℤ, ◌==◌, if◌then◌else◌}
use Rattle.std.proofs.lemmas.Bool.{false≢true}
use Rattle.ats_streams.specs.declared.traffic.Declared.{Declared}
use Rattle.ats_group.specs.Group.{Offer, State, after, empty_once, verdict_on, verdicts_of}
use Rattle.ats_group.specs.declared.verdict.Verdict.{Verdict}
use Rattle.ats_group.specs.declared.verdict.Verdict.TheVariants.{Eligible, Late, Size}

-- The verdicts on frames of one member do not depend on its number.

-- frames of a member, by their arrivals and octets
abbrev pub frame_of : ℕ → ℕ × ℕ → Offer
frame_of member frame = record { member = member; arrival = frame.0; octets = frame.1 }

-- two groups are as much to two members
pub record AreAlike (m n : ℕ) (s t : State) : Type 0 where
  pub time : s.time ≡ t.time
  pub empty : s.empty m ≡ t.empty n

taken : (b : Bool) (x y : ℤ) → b ≡ true → (if b then x else y) ≡ x
taken true x y h = refl
taken false x y h = absurd (false≢true h)

after_alike : (declared other : ℕ → Declared) (m n : ℕ) → (m == m) ≡ true → (n == n) ≡ true → declared m ≡ other n
    → (frame : ℕ × ℕ) (s t : State) → AreAlike m n s t → (v : Verdict)
    → AreAlike m n (after declared s (frame_of m frame) v) (after other t (frame_of n frame) v)
after_alike declared other m n first second same frame s t alike (Eligible e) = record {
  time = refl;
  empty = (
      let mine = taken (m == m) (empty_once (declared m) (s.empty m) e.0 frame.1) (s.empty m) first in
      let its = taken (n == n) (empty_once (other n) (t.empty n) e.0 frame.1) (t.empty n) second in
      let bucket : s.empty m ≡ t.empty n = alike.empty in
      let both : empty_once (declared m) (s.empty m) e.0 frame.1 ≡ empty_once (other n) (t.empty n) e.0 frame.1 = cc in
      cc);
}
after_alike declared other m n first second same frame s t alike (Late e) = alike
after_alike declared other m n first second same frame s t alike Size = alike

-- so they have the same verdicts on the same frames
pub verdicts_alike : (declared other : ℕ → Declared) (residence m n : ℕ) → (m == m) ≡ true → (n == n) ≡ true
    → declared m ≡ other n → (frames : List (ℕ × ℕ)) (s t : State) → AreAlike m n s t
    → verdicts_of declared residence s (map (frame_of m) frames)
    ≡ verdicts_of other residence t (map (frame_of n) frames)
verdicts_alike declared other residence m n first second same [] s t alike = refl
verdicts_alike declared other residence m n first second same (frame ∷ frames) s t alike =
    let time : s.time ≡ t.time = alike.time in
    let bucket : s.empty m ≡ t.empty n = alike.empty in
    let v : Verdict = verdict_on (declared m) residence s.time (s.empty m) frame.0 frame.1 in
    let w : Verdict = verdict_on (other n) residence t.time (t.empty n) frame.0 frame.1 in
    let head : v ≡ w = cc in
    let rest : verdicts_of declared residence (after declared s (frame_of m frame) v) (map (frame_of m) frames)
    ≡ verdicts_of other residence (after other t (frame_of n frame) v) (map (frame_of n) frames) =
    verdicts_alike declared other residence m n first second same frames (after declared s (frame_of m frame) v)
    (after other t (frame_of n frame) v) (after_alike declared other m n first second same frame s t alike v) in
    cc
