-- The frames that are left when a sender leaves.
use Rattle.std.proofs.Common.{◌≡◌, ℕ, ◌+◌, ◌<◌, ◌≤◌, min, max, Bool, true, false, cond, eqb, ltb, List, [], ◌∷◌, ◌++◌}
use Rattle.std.proofs.Common.{length, get_or, map, filter, take, drop, Option, Some, None, refl, sym, ap, ◌∙◌, arith}
use Rattle.std.specs.Prelude.{fold, ◌&&◌}
use Rattle.std.specs.Option.{option_eq}
use Rattle.std.proofs.lemmas.Bool.{and_parts, eqb-true, ltb-true, true≢false}
use Rattle.std.proofs.lemmas.List.{append-nil, map-append, take_more, take-append-drop}
use Rattle.std.proofs.lemmas.List.Elements.{filter-append}
use Rattle.std.proofs.lemmas.List.Sums.{fold-append}
use Rattle.ats_network.specs.Class.{PortSender}
use Rattle.ats_network.specs.Network.{DeclaredNetwork, senders_of}
use Rattle.ats_network.specs.Sender.{stream_sender, flow_sender}
use Rattle.ats_certificate.specs.PortSums.{is_of, longest, shortest, senders_at}
use Rattle.ats_tally.specs.Tally.{least_with, least_known}
use Rattle.ats_tally.proofs.SeenLemmas.{flows_class, senders_at-append}
use Rattle.ats_admission_shares.specs.Frames.{exceeds, frames_in, frames_of, frames_with, is_inside, without_rate}
use Rattle.ats_tally.specs.Shares.{share_of, share_with}
use Rattle.ats_admission_shares.specs.declared.frames.Frames.{Frames}
use Rattle.ats_tally.proofs.Inserted.{made, share_in}
use Rattle.ats_tally.proofs.ShareLemmas.{none_kept}

-- frames with the same parts are the same
same_frames : (a b : Frames) → a.longest ≡ b.longest → a.shortest ≡ b.shortest → a ≡ b
same_frames a b long short =
    ap (λ (n : ℕ). frames n a.shortest) long ∙ ap (λ (o : Option ℕ). frames b.longest o) short
  where
    frames : ℕ → Option ℕ → Frames
    frames longest shortest = record { longest = longest; shortest = shortest }

-- so a test of both parts says
pub frames_equal : (a b : Frames) → (eqb a.longest b.longest && option_eq eqb a.shortest b.shortest) ≡ true → a ≡ b
frames_equal a b h =
    same_frames a b (eqb-true a.longest b.longest (parts.0)) (options a.shortest b.shortest (parts.1))
  where
    parts : (eqb a.longest b.longest ≡ true) × (option_eq eqb a.shortest b.shortest ≡ true)
    parts = and_parts (eqb a.longest b.longest) (option_eq eqb a.shortest b.shortest) h

    options : (o p : Option ℕ) → option_eq eqb o p ≡ true → o ≡ p
    options None None h = refl
    options None (Some n) h = absurd (true≢false (sym h))
    options (Some m) None h = absurd (true≢false (sym h))
    options (Some m) (Some n) h = ap Some (eqb-true m n h)

-- one sender more is counted, where it is of the class
pub frames_more : (class : ℕ) (senders : List PortSender) (i : ℕ) (s : PortSender) → i < length senders
    → ((d : PortSender) → s ≡ without_rate (get_or senders i d))
    → cond (is_of class s) (frames_with s (frames_of class (take i senders))) (frames_of class (take i senders))
    ≡ frames_of class (take (i + 1) senders)
frames_more class senders i s within is =
    ap (λ (u : PortSender). cond (is_of class u) (frames_with u first) first) (is s)
    ∙ by (is_of class t)
    ∙ sym (ap frames_in (ap (share_of class) (take_more senders i s within)
    ∙ share_in class (take i senders) t [] (is_of class t) refl
    ∙ ap (λ (l : List PortSender). cond (is_of class t) (share_with t (share_of class l)) (share_of class l))
    (append-nil (take i senders))))
  where
    t : PortSender
    t = get_or senders i s

    first : Frames
    first = frames_of class (take i senders)

    by : (b : Bool) → cond b (frames_with t first) first
        ≡ frames_in (cond b (share_with t (share_of class (take i senders))) (share_of class (take i senders)))
    by true = refl
    by false = refl

-- flows are of no class of streams
pub streams_alone : (network : DeclaredNetwork) (port class : ℕ) → 1 ≤ class
    → share_of class (senders_at network.topology port (map stream_sender network.streams))
    ≡ share_of class (senders_at network.topology port (senders_of network))
streams_alone network port class some =
    sym (ap made (ap (filter (is_of class)) (senders_at-append network.topology port (map stream_sender network.streams)
    (map flow_sender network.flows))
    ∙ filter-append (is_of class) streams flows
    ∙ ap (λ (l : List PortSender). filter (is_of class) streams ++ l)
    (none_kept (is_of class) flows (flows_class network.topology port class network.flows some))
    ∙ append-nil (filter (is_of class) streams)))
  where
    streams : List PortSender
    streams = senders_at network.topology port (map stream_sender network.streams)

    flows : List PortSender
    flows = senders_at network.topology port (map flow_sender network.flows)

-- a greatest number that is no less than all numbers is the greatest of all; so it is with a least one
from_start : (a : ℕ) (ns : List ℕ) → a ≤ fold max a ns
from_start a [] = omega arith
from_start a (n ∷ ns) = let rest = from_start (max a n) ns in omega (arith, rest)

to_start : (a : ℕ) (ns : List ℕ) → fold min a ns ≤ a
to_start a [] = omega arith
to_start a (n ∷ ns) = let rest = to_start (min a n) ns in omega (arith, rest)

longest_found : (ms ns : List ℕ) (x : ℕ) → fold max 0 ms ≡ max (fold max 0 (ms ++ ns)) x
    → fold max 0 ms ≡ fold max 0 (ms ++ ns)
longest_found ms ns x is = omega (arith, is, fold-append max 0 ms ns, from_start (fold max 0 ms) ns)

shortest_found : (ms ns : List ℕ) (x : ℕ) → least_known ms ≡ Some (least_with (least_known (ms ++ ns)) x)
    → least_known ms ≡ least_known (ms ++ ns)
shortest_found [] ns x is = absurd (let no : None ≡ Some (least_with (least_known ns) x) = is in cc)
shortest_found (m ∷ ms) ns x is =
    let same : fold min m ms ≡ min (fold min m (ms ++ ns)) x = cc is in
    let least : fold min m ms ≡ fold min m (ms ++ ns) =
    omega (arith, same, fold-append min m ms ns, to_start (fold min m ms) ns) in
    ap Some least

-- the frames of the first senders are those of all, where they are those with one sender more
pub frames_found : (class : ℕ) (senders : List PortSender) (i : ℕ) (s : PortSender)
    → frames_of class (take i senders) ≡ frames_with s (frames_of class senders)
    → frames_of class (take i senders) ≡ frames_of class senders
frames_found class senders i s is =
    same_frames (frames_of class first) (frames_of class senders)
    (longest_found (map longest (filter (is_of class) first)) (map longest (filter (is_of class) rest)) (longest s)
    (ap (λ (f : Frames). f.longest) is
    ∙ ap (λ (l : List ℕ). max (fold max 0 l) (longest s)) (parts longest))
    ∙ sym (ap (fold max 0) (parts longest)))
    (shortest_found (map shortest (filter (is_of class) first)) (map shortest (filter (is_of class) rest)) (shortest s)
    (ap (λ (f : Frames). f.shortest) is
    ∙ ap (λ (l : List ℕ). Some (least_with (least_known l) (shortest s))) (parts shortest))
    ∙ sym (ap least_known (parts shortest)))
  where
    first : List PortSender
    first = take i senders

    rest : List PortSender
    rest = drop i senders

    parts : (amount : PortSender → ℕ) → map amount (filter (is_of class) senders)
        ≡ map amount (filter (is_of class) (take i senders)) ++ map amount (filter (is_of class) (drop i senders))
    parts amount =
        ap (λ (l : List PortSender). map amount (filter (is_of class) l)) (sym (take-append-drop i senders))
        ∙ ap (map amount) (filter-append (is_of class) (take i senders) (drop i senders))
        ∙ map-append amount (filter (is_of class) (take i senders)) (filter (is_of class) (drop i senders))

-- a sender that has neither the longest nor the shortest leaves both
pub frames_inside : (s : PortSender) (frames before : Frames) → before ≡ frames_with s frames
    → is_inside s before ≡ true → before ≡ frames
frames_inside s frames before is inside =
    same_frames before frames
    (omega (arith, ap (λ (f : Frames). f.longest) is, ltb-true (longest s) before.longest (parts.0)))
    (ap (λ (f : Frames). f.shortest) is ∙ short frames.shortest
    (sym (ap (λ (f : Frames). exceeds (shortest s) f.shortest) is) ∙ parts.1))
  where
    parts : (ltb (longest s) before.longest ≡ true) × (exceeds (shortest s) before.shortest ≡ true)
    parts = and_parts (ltb (longest s) before.longest) (exceeds (shortest s) before.shortest) inside

    short : (o : Option ℕ) → ltb (least_with o (shortest s)) (shortest s) ≡ true
        → Some (least_with o (shortest s)) ≡ o
    short None h = absurd (let lt = ltb-true (shortest s) (shortest s) h in omega (arith, lt))
    short (Some m) h =
        let lt = ltb-true (min m (shortest s)) (shortest s) h in
        let least : min m (shortest s) ≡ m = omega (arith, lt) in
        ap Some least
