use Rattle.std.proofs.Common.{◌≡◌, ℕ, ◌+◌, ◌*◌, ◌≤◌, ◌%◌, List, [], ◌∷◌, ◌++◌, length, All, sym, ap, ◌∙◌, subst}
use Rattle.std.proofs.Common.{add-one, arith}
use Rattle.std.proofs.lemmas.List.Elements.{All-push}
use Rattle.std.proofs.lemmas.List.Sums.{sum_by-append, sum_by-cons}
use Rattle.ats_network.specs.Network.{DeclaredNetwork}
use Rattle.ats_network.specs.Senders.{sender_at}
use Rattle.ats_trace.specs.Eligibility.{declared_by}
use Rattle.ats_trace.specs.Releases.{ports_of_frames}
use Rattle.ats_trace.specs.declared.journey.Release.{Release}
use Rattle.ats_trace.specs.declared.run.TheConstants.{MAX_RELEASE_PS}
use Rattle.ats_gen.specs.declared.generator.TheConstants.{MAX_PAUSE_PS}
use Rattle.ats_gen.specs.Draw.{next_state, drawn, state_after, draw}
use Rattle.ats_gen.specs.Made.{stream_of, octets_by, clock_of, release_by, made, AreByTime, AreMade}
use Rattle.ats_gen.proofs.MadeParts.{next_release}

-- the state after one draw more
pub state-next : (seed n state new : ℕ) → state ≡ state_after seed n → new ≡ next_state state
    → new ≡ state_after seed (n + 1)
state-next seed n state new is one = one ∙ ap next_state is ∙ sym (ap (state_after seed) (add-one n))

-- and what it gives
pub draw-is : (seed n state new x : ℕ) → state ≡ state_after seed n → new ≡ next_state state → x ≡ drawn new
    → x ≡ draw seed n
draw-is seed n state new x is one given = given ∙ ap drawn (state-next seed n state new is one)

-- the release that is made of a frame
pub release-is : (network : DeclaredNetwork) (seed k : ℕ) (earlier : List Release) (stream octets x clock : ℕ)
    → earlier ≡ made network seed k → stream ≡ stream_of network k → octets ≡ octets_by (declared_by network stream) x
    → x ≡ draw seed (2 * k) → clock ≡ clock_of seed k
    → release_by network earlier stream octets clock ≡ next_release network seed k
release-is network seed k earlier stream octets x clock l s o d c =
    ap (λ (rs : List Release). release_by network rs stream octets clock) l
    ∙ ap (λ (n : ℕ). release_by network (made network seed k) stream n clock) o
    ∙ ap (λ (i : ℕ). release_by network (made network seed k) i (octets_by (declared_by network i) x) clock) s
    ∙ ap (λ (n : ℕ). release_by network (made network seed k) (stream_of network k)
    (octets_by (declared_by network (stream_of network k)) n) clock) d
    ∙ ap (release_by network (made network seed k) (stream_of network k)
    (octets_by (declared_by network (stream_of network k)) (draw seed (2 * k)))) c

-- the releases with one frame more
pub made-next : (network : DeclaredNetwork) (seed k : ℕ) (earlier new : List Release) (r : Release)
    → earlier ≡ made network seed k → r ≡ next_release network seed k → new ≡ earlier ++ r ∷ []
    → new ≡ made network seed (k + 1)
made-next network seed k earlier new r l is more =
    more ∙ ap (λ (rs : List Release). rs ++ r ∷ []) l
    ∙ ap (λ (x : Release). made network seed k ++ x ∷ []) is ∙ sym (ap (made network seed) (add-one k))

-- none of which is past the limit
pub within-next : (earlier new : List Release) (r : Release) → new ≡ earlier ++ r ∷ []
    → All (λ (x : Release). x.at.0 ≤ MAX_RELEASE_PS) earlier → r.at.0 ≤ MAX_RELEASE_PS
    → All (λ (x : Release). x.at.0 ≤ MAX_RELEASE_PS) new
within-next earlier new r more within one =
    subst (All (λ (x : Release). x.at.0 ≤ MAX_RELEASE_PS)) (sym more)
    (All-push (λ (x : Release). x.at.0 ≤ MAX_RELEASE_PS) earlier r within one)

-- the clock at the next frame
pub clock-next : (seed k clock x : ℕ) → clock ≡ clock_of seed k → x ≡ draw seed (2 * k + 1)
    → clock + x % MAX_PAUSE_PS ≡ clock_of seed (k + 1)
clock-next seed k clock x c d =
    ap (λ (t : ℕ). t + x % MAX_PAUSE_PS) c ∙ ap (λ (n : ℕ). clock_of seed k + n % MAX_PAUSE_PS) d
    ∙ sym (ap (clock_of seed) (add-one k))

-- after the last frame none is past the limit
pub within-end : (network : DeclaredNetwork) (seed k count : ℕ) (earlier : List Release) → k ≡ count
    → earlier ≡ made network seed k → All (λ (x : Release). x.at.0 ≤ MAX_RELEASE_PS) earlier
    → All (λ (x : Release). x.at.0 ≤ MAX_RELEASE_PS) (made network seed count)
within-end network seed k count earlier end is within =
    subst (All (λ (x : Release). x.at.0 ≤ MAX_RELEASE_PS)) (is ∙ ap (made network seed) end) within

-- and by time they are the made releases
pub at_end : (network : DeclaredNetwork) (seed k count : ℕ) (earlier releases : List Release) → k ≡ count
    → earlier ≡ made network seed k → AreByTime earlier releases → AreMade network seed count releases
at_end network seed k count earlier releases end is sorted =
    subst (λ (l : List Release). AreByTime l releases) (is ∙ ap (made network seed) end) sorted

-- the ports of the frames with one frame more
pub ports-next : (network : DeclaredNetwork) (seed k ports more : ℕ)
    → ports ≡ ports_of_frames network (made network seed k)
    → more ≡ length (sender_at network (stream_of network k)).ports
    → ports + more ≡ ports_of_frames network (made network seed (k + 1))
ports-next network seed k ports more so_far is =
    let ports_of : Release → ℕ = λ r. length (sender_at network r.sender).ports in
    let r : Release = next_release network seed k in
    omega (
      arith,
      so_far,
      is,
      ap (λ (n : ℕ). ports_of_frames network (made network seed n)) (add-one k),
      sum_by-append ports_of (made network seed k) (r ∷ []),
      sum_by-cons ports_of r [],
    )
