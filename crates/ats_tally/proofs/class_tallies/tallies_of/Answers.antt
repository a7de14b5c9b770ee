use Rattle.std.proofs.Common.{◌≡◌, ◌+◌, ◌-◌, ◌≢◌, ◌<◌, ◌≤◌, ◌⊎◌, inl, inr, ℕ, max, List, [], ◌∷◌, length, get_or, set}
use Rattle.std.proofs.Common.{map, take, drop, sym, ap, subst, ◌∙◌, arith}
use Rattle.std.specs.Prelude.{fold, slice_get}
use Rattle.std.specs.List.{All, sum_by}
use Rattle.std.proofs.lemmas.Bool.{cases_eq}
use Rattle.std.proofs.lemmas.List.{drop_more, length-set, map-append, take_more}
use Rattle.std.proofs.lemmas.List.Sums.{fold-append, sum_by-cons}
use Rattle.ats_network.specs.Class.{PortSender}
use Rattle.ats_tally.specs.Tally.{IsTally}
use Rattle.ats_tally.specs.declared.tally.Tally.{Tally}
use Rattle.ats_tally.specs.Shares.{no_share, AreShares}
use Rattle.ats_tally.specs.declared.share.Share.{Share}
use Rattle.ats_tally.specs.Tallies.{IsTallied}
use Rattle.ats_tally.proofs.Eight.{got_else, got_here}
use Rattle.ats_tally.proofs.ShareLemmas.{tally_is}
use Rattle.ats_tally.proofs.class_tallies.tallies_of.Goals as goal

-- a tally more, at its class
tally_set : (senders : List PortSender) (tallies : List Tally) (next class : ℕ) (tally : Tally)
    → next < length tallies → IsTally next senders tally → class < next + 1
    → (class < next → IsTallied class senders (slice_get tallies class))
    → IsTallied class senders (slice_get (set tallies next tally) class)
tally_set senders tallies next class tally within is below before = by (cases_eq class next)
  where
    by : (class ≡ next) ⊎ (class ≡ next → ⊥) → IsTallied class senders (slice_get (set tallies next tally) class)
    by (inl e) = record {
      tally = tally;
      there = got_here tallies next class tally within e;
      is = subst (λ (n : ℕ). IsTally n senders tally) (sym e) is;
    }
    by (inr other) =
        let differ : class ≢ next = other in
        subst (IsTallied class senders)
        (sym (got_else tallies next class tally (omega (arith, below, within)) differ))
        (before (omega (arith, below, differ)))

-- the sum over a share and those behind it
sum_behind : (amount : Share → ℕ) (shares : List Share) (i : ℕ) → i < length shares
    → sum_by amount (drop i shares) ≡ amount (get_or shares i no_share) + sum_by amount (drop (i + 1) shares)
sum_behind amount shares i within =
    ap (sum_by amount) (drop_more shares i no_share within)
    ∙ sum_by-cons amount (get_or shares i no_share) (drop (i + 1) shares)

-- the longest frame with a share more
longest_more : (shares : List Share) (i : ℕ) → i < length shares
    → max (fold max 0 (map (λ (s : Share). s.longest) (take i shares))) (get_or shares i no_share).longest
    ≡ fold max 0 (map (λ (s : Share). s.longest) (take (i + 1) shares))
longest_more shares i within =
    sym (ap (λ (l : List Share). fold max 0 (map of l)) (take_more shares i no_share within)
    ∙ ap (fold max 0) (map-append of (take i shares) (get_or shares i no_share ∷ []))
    ∙ fold-append max 0 (map of (take i shares)) ((get_or shares i no_share).longest ∷ []))
  where
    of : Share → ℕ
    of s = s.longest

-- the tally of a class, from the sums of the classes from it on and the longest frame of those below it
tally_next : (senders : List PortSender) (shares : List Share) (class above bursts lower : ℕ) → class < 8
    → length shares ≡ 8 → All (λ (s : PortSender). s.class ≤ 7) senders → AreShares senders shares
    → above ≡ sum_by (λ (s : Share). s.rate) (drop class shares)
    → bursts ≡ sum_by (λ (s : Share). s.bursts) (drop class shares)
    → lower ≡ fold max 0 (map (λ (s : Share). s.longest) (take class shares)) → IsTally class senders (record {
      above = above - (get_or shares class no_share).rate;
      equal = (get_or shares class no_share).rate;
      bursts = bursts;
      lower = lower;
      least = (get_or shares class no_share).shortest;
    })
tally_next senders shares class above bursts lower below long most are above_is bursts_are lower_is =
    let own : Share = get_or shares class no_share in
    let within : class < length shares = omega (arith, below, long) in
    let is = tally_is senders shares class (let le : class ≤ 7 = omega (arith, below) in le) long most are in
    let higher : above - own.rate ≡ sum_by (λ (s : Share). s.rate) (drop (class + 1) shares) =
    omega (arith, above_is, sum_behind (λ (s : Share). s.rate) shares class within) in
    let upward : bursts ≡ own.bursts + sum_by (λ (s : Share). s.bursts) (drop (class + 1) shares) =
    bursts_are ∙ sum_behind (λ (s : Share). s.bursts) shares class within in
    record {
      above = higher ∙ is.above;
      equal = is.equal;
      bursts = upward ∙ is.bursts;
      lower = lower_is ∙ is.lower;
      least = is.least;
    }

pub loop-class-preserved : goal.loop-class-preserved
loop-class-preserved c =
    let shares : List Share = c.args.shares.now in
    let class : ℕ = c.loop-class.class in
    let own : Share = get_or shares class no_share in
    let tally : Tally = record {
      above = c.loop-class.above - own.rate;
      equal = own.rate;
      bursts = c.loop-class.bursts;
      lower = c.loop-class.lower;
      least = own.shortest;
    } in
    let below : class < 8 = omega (arith, c.loop-class-test.true) in
    let within : class < length shares = omega (arith, below, c.requires.eight) in
    record {
      long = length-set c.loop-class.tallies class tally ∙ c.loop-class.invariant.long;
      above = omega (arith, c.loop-class.invariant.above, sum_behind (λ (s : Share). s.rate) shares class within);
      bursts = omega (arith, c.loop-class.invariant.bursts, sum_behind (λ (s : Share). s.bursts) shares class within);
      lower = c.max-lower.ensures ∙ ap (λ (n : ℕ). max n own.longest) c.loop-class.invariant.lower
          ∙ longest_more shares class within;
      made = λ senders are most at least under.
          tally_set senders c.loop-class.tallies class at tally
          (omega (arith, below, c.loop-class.invariant.long))
          (tally_next senders shares class c.loop-class.above c.loop-class.bursts c.loop-class.lower below
          c.requires.eight most are c.loop-class.invariant.above c.loop-class.invariant.bursts
          c.loop-class.invariant.lower) under
          (λ before. c.loop-class.invariant.made senders are most at least before);
    }

pub returns : goal.returns
returns c senders are seen class least most =
    c.loop-class.invariant.made senders are seen class least (omega (arith, c.loop-class-test.false, most))
