use Rattle.std.proofs.Common.{◌≡◌, ℕ, ◌+◌, ◌*◌, ◌≤◌, List, [], ◌∷◌, ◌++◌, All, refl, sym, ap, ◌∙◌, arith}
use Rattle.std.proofs.lemmas.List.Elements.{All-push, All-nil}
use Rattle.ats_num.specs.declared.time.TheConstants.{PS_PER_SECOND}
use Rattle.ats_bucket.specs.Conforming.{Frame}
use Rattle.ats_group_law.specs.Windows.{ConformsByWindows}
use Rattle.ats_group_law.specs.Full.{IsFullEligibility, full_after, full_time}
use Rattle.ats_group_law.specs.Laws.{IsLeastConforming}
use Rattle.ats_group_law.proofs.WindowPlaces.{windows_from_places, places_from_windows}
use Rattle.ats_group_law.proofs.Push.{conforms_push, push_parts, full_time-push}

-- what a member's scheduler keeps of the frames that it accepted
pub record Tracks (rate burst time full : ℕ) (frames : List Frame) : Type 0 where
  pub conforms : ConformsByWindows rate burst frames
  pub filled : full ≡ full_time rate 0 frames
  pub past : All (λ (f : Frame). f.at ≤ time) frames

-- before the first frame
pub tracks-none : (rate burst time : ℕ) → Tracks rate burst time 0 []
tracks-none rate burst time = record {
  conforms = record {
    in_order = λ i j d h k. absurd (omega arith);
    windows = record { within = λ from to h. omega arith };
  };
  filled = refl;
  past = All-nil (λ (f : Frame). f.at ≤ time);
}

-- as the group eligibility time goes on
pub tracks-later : (rate burst time later full : ℕ) (frames : List Frame) → time ≤ later
    → Tracks rate burst time full frames → Tracks rate burst later full frames
tracks-later rate burst time later full frames h t = record {
  conforms = t.conforms;
  filled = t.filled;
  past = λ i d k. (let p = t.past i d k in omega arith);
}

-- what the bucket-full time asks of a frame at this time
pub allowed : (rate burst time full at bits : ℕ) (frames : List Frame) → Tracks rate burst time full frames
    → time ≤ at → bits ≤ burst → full + PS_PER_SECOND * bits ≤ at * rate + PS_PER_SECOND * burst
    → ConformsByWindows rate burst (frames ++ record { at = at; bits = bits } ∷ [])
allowed rate burst time full at bits frames t h b f =
    conforms_push rate burst frames (record { at = at; bits = bits }) t.conforms
    (tracks-later rate burst time at full frames h t).past b (let e = t.filled in omega arith)

pub needed : (rate burst time full at bits : ℕ) (frames : List Frame) → Tracks rate burst time full frames
    → ConformsByWindows rate burst (frames ++ record { at = at; bits = bits } ∷ [])
    → full + PS_PER_SECOND * bits ≤ at * rate + PS_PER_SECOND * burst
needed rate burst time full at bits frames t c =
    let f = (push_parts rate burst frames (record { at = at; bits = bits }) c).full in
    let e = t.filled in
    omega arith

-- one more accepted frame
pub tracks-push : (rate burst group full arrival bits eligible : ℕ) (frames : List Frame)
    → Tracks rate burst group full frames → bits ≤ burst → IsFullEligibility rate burst full group arrival bits eligible
    → Tracks rate burst eligible (full_after rate full eligible bits)
    (frames ++ record { at = eligible; bits = bits } ∷ [])
tracks-push rate burst group full arrival bits eligible frames t b e = record {
  conforms = allowed rate burst group full eligible bits frames t e.after_group b e.bucket;
  filled =
      ap (λ (n : ℕ). full_after rate n eligible bits) t.filled
      ∙ sym (full_time-push rate 0 frames (record { at = eligible; bits = bits }));
  past = All-push (λ (f : Frame). f.at ≤ eligible) frames (record { at = eligible; bits = bits })
      (tracks-later rate burst group eligible full frames e.after_group t).past (omega arith);
}

-- its eligibility time is the least with which the frames conform
pub tracks-least : (rate burst group full arrival bits eligible : ℕ) (frames : List Frame)
    → Tracks rate burst group full frames → bits ≤ burst → IsFullEligibility rate burst full group arrival bits eligible
    → IsLeastConforming rate burst frames group arrival bits eligible
tracks-least rate burst group full arrival bits eligible frames t b e = record {
  arrived = e.arrived;
  after_group = e.after_group;
  conforms =
      places_from_windows rate burst _ (allowed rate burst group full eligible bits frames t e.after_group b e.bucket);
  least = λ k a g c. e.least k a g (needed rate burst group full k bits frames t (windows_from_places rate burst _ c));
}
