use Rattle.std.specs.Prelude.{◌≡◌, ◌↔◌, ℕ, ◌+◌, ◌<◌, ◌≤◌, ◌==◌, List, length, All, Some, None, if◌then◌else◌}
use Rattle.std.specs.Prelude.{slice_index_or}
use Rattle.ats_num.specs.Wire.{bits_of}
use Rattle.ats_num.specs.declared.time.Ps.{Ps}
use Rattle.ats_bucket.specs.Conforming.{Frame}
use Rattle.ats_streams.specs.declared.traffic.Declared.{Declared}
use Rattle.ats_group.specs.Group.{Offer}
use Rattle.ats_group.specs.declared.verdict.Verdict.TheVariants.{Eligible}
use Rattle.ats_lrq.specs.Fold.{State, after, first}
use Rattle.ats_lrq.specs.Judge.{spacing_rule}
use Rattle.ats_lrq.specs.Spacing.{IsSpaced, free_from}

-- at first the group's time is 0 and no frame was accepted, and a member of which none was waits for none; an accepted
-- frame moves the group's time to its own eligibility time and is then the one from which its member's next frame keeps
-- its distance
pub record LastFramesAreKnown : Type 0 where
  pub first : first ≡ record { time = 0; last = λ member. None }
  pub at_first : (rate : ℕ) → free_from rate None ≡ 0
  pub accepts : (state : State) (offer : Offer) (e : Ps) → after state offer (Eligible e) ≡ record {
    time = e.0;
    last = λ member. if member == offer.member
        then Some (record { eligible = e; bits = bits_of offer.octets }) else state.last member;
  }

-- a talker is spaced where its frames have bits, and each comes at its distance behind the one before it
pub record TalkersAreKnown : Type 0 where
  pub rule : (declared : Declared) (frames : List Frame) → spacing_rule declared frames
      ↔ (All (λ (f : Frame). 1 ≤ f.bits) frames × ((k : ℕ) (d : Frame) → k + 1 < length frames
      → IsSpaced declared.rate (slice_index_or frames k d).bits (slice_index_or frames k d).at
      (slice_index_or frames (k + 1) d).at))

pub record RegulatorsAreKnown : Type 0 where
  pub last_frames : LastFramesAreKnown
  pub talkers : TalkersAreKnown
