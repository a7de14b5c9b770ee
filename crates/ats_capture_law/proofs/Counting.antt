-- The records of a capture, one after another and all at once.
use Rattle.std.proofs.Common.{◌≡◌, ℕ, suc, ◌+◌, ◌-◌, ◌*◌, max, Bool, true, false, cond, ◌&&◌, List, [], ◌∷◌, ◌++◌}
use Rattle.std.proofs.Common.{length, map, take, Option, Some, None, Result, Ok, Err, refl, sym, ap, ◌∙◌, arith}
use Rattle.std.specs.Prelude.{filter, filter_map, find, fold, is_none, is_some, nat_lt, not}
use Rattle.std.specs.Option.{option_and_then}
use Rattle.std.specs.List.{enumerate_from}
use Rattle.std.proofs.lemmas.List.{append-nil, append_assoc, map-append, length_push}
use Rattle.std.proofs.lemmas.List.Elements.{filter-append, filter_map-append}
use Rattle.std.proofs.lemmas.List.Sums.{fold-append}
use Rattle.ats_num.specs.Failure.{◌>>=◌, unless}
use Rattle.ats_num.specs.declared.time.TheConstants.{PS_PER_NS}
use Rattle.ats_num.specs.declared.wire.TheConstants.{MAX_OCTETS}
use Rattle.ats_pcap.specs.declared.record.Record.{Record}
use Rattle.ats_network.specs.Network.{DeclaredNetwork}
use Rattle.ats_trace.specs.Releases.{ports_of_frames}
use Rattle.ats_trace.specs.declared.journey.Release.{Release}
use Rattle.ats_capture.specs.Traffic.{Traffic, first_time, ports_with, stream_of, traffic_from, with_record}
use Rattle.ats_capture.specs.Traffic.{with_stream}
use Rattle.ats_capture.specs.declared.fault.JoinFault.{JoinFault}
use Rattle.ats_capture.specs.declared.fault.JoinFault.TheVariants.{Limit}
use Rattle.ats_capture.proofs.Traffics.{ports_more}
use Rattle.ats_capture_law.specs.Counted.{frame_of, is_over, is_oversize, is_unidentified}
use Rattle.ats_capture_law.specs.Counted.{may_be_run, nanos_at, release_of}
use Rattle.ats_capture_law.specs.Laws.{TrafficIsCounted}

-- a release in a list, or none
abbrev listed : Option Release → List Release
listed None = []
listed (Some release) = release ∷ []

-- one more where a test passed
abbrev one_where : Bool → ℕ → ℕ
one_where true n = n + 1
one_where false n = n

-- with a record more, which has a release or none, and belongs to no stream or is too long
abbrev pushed : Traffic → Option Release → Bool → Bool → Traffic
pushed traffic release unidentified oversize = record {
  releases = traffic.releases ++ listed release;
  records = traffic.records + 1;
  unidentified = one_where unidentified traffic.unidentified;
  oversize = one_where oversize traffic.oversize;
}

-- the release of a record of this stream, so many nanoseconds after the first
abbrev release_in : ℕ → ℕ → Option ℕ → Option Release
release_in nanos octets stream = option_and_then (frame_of nanos octets) stream

abbrev over_in : DeclaredNetwork → Traffic → ℕ → Option Release → Bool
over_in network traffic nanos release =
    is_some release && not (may_be_run nanos (length traffic.releases)
    (ports_of_frames network (traffic.releases ++ listed release)))

-- the same, or the fault
abbrev pushed_unless : Bool → Traffic → Option Release → Bool → Bool → Result Traffic JoinFault
pushed_unless true traffic release unidentified oversize = Err (Limit (traffic.records + 1))
pushed_unless false traffic release unidentified oversize = Ok (pushed traffic release unidentified oversize)

-- no release more
none_more : (traffic : Traffic) (unidentified oversize : ℕ)
    → (◌≡◌ {A = Traffic} (record traffic {
      records = traffic.records + 1;
      unidentified = unidentified;
      oversize = oversize;
    }) (record {
      releases = traffic.releases ++ [];
      records = traffic.records + 1;
      unidentified = unidentified;
      oversize = oversize;
    }))
none_more traffic unidentified oversize =
    ap (λ (rs : List Release). let t : Traffic = record {
      releases = rs;
      records = traffic.records + 1;
      unidentified = unidentified;
      oversize = oversize;
    } in t) (sym (append-nil traffic.releases))

-- one record more comes to that
step : (network : DeclaredNetwork) (nanos octets : ℕ) (traffic : Traffic) (stream : Option ℕ)
    → with_stream network nanos traffic octets stream
    ≡ pushed_unless (over_in network traffic nanos (release_in nanos octets stream)) traffic
    (release_in nanos octets stream) (is_none stream) (is_some stream && nat_lt MAX_OCTETS octets)
step network nanos octets traffic None =
    ap (λ (t : Traffic). let r : Result Traffic JoinFault = Ok t in r)
    (none_more traffic (traffic.unidentified + 1) traffic.oversize)
step network nanos octets traffic (Some sender) = by_length (nat_lt MAX_OCTETS octets)
  where
    at : Release
    at = record { at = record { 0 = nanos * PS_PER_NS }; sender = sender; octets = octets }

    by_limit : (may : Bool)
        → (cond may (Ok at) (Err (Limit (traffic.records + 1)))
        >>= λ release. Ok (record traffic {
          releases = traffic.releases ++ release ∷ [];
          records = traffic.records + 1;
        })) ≡ pushed_unless (not may) traffic (Some at) false false
    by_limit true = refl
    by_limit false = refl

    by_length : (long : Bool)
        → cond long (Ok (record traffic { records = traffic.records + 1; oversize = traffic.oversize + 1 }))
        (cond (may_be_run nanos (length traffic.releases) (ports_with network traffic.releases sender)) (Ok at)
        (Err (Limit (traffic.records + 1)))
        >>= λ release. Ok (record traffic {
          releases = traffic.releases ++ release ∷ [];
          records = traffic.records + 1;
        })) ≡ pushed_unless (over_in network traffic nanos (cond long None (Some at))) traffic
        (cond long None (Some at)) false long
    by_length true =
        ap (λ (t : Traffic). let r : Result Traffic JoinFault = Ok t in r)
        (none_more traffic traffic.unidentified (traffic.oversize + 1))
    by_length false =
        by_limit (may_be_run nanos (length traffic.releases) (ports_with network traffic.releases sender))
        ∙ ap (λ (ports : ℕ). pushed_unless (not (may_be_run nanos (length traffic.releases) ports)) traffic (Some at)
        false false) (sym (ports_more network traffic.releases (traffic.releases ++ at ∷ []) at refl))

-- numbers go on behind a list
numbered_push : (n : ℕ) (xs : List Record) (r : Record)
    → enumerate_from n (xs ++ r ∷ []) ≡ enumerate_from n xs ++ (n + length xs, r) ∷ []
numbered_push n [] r = ap (λ (k : ℕ). (k, r) ∷ []) (let e : n ≡ n + 0 = omega arith in e)
numbered_push n (x ∷ xs) r =
    ap (λ (ps : List (ℕ × Record)). (n, x) ∷ ps) (numbered_push (n + 1) xs r
    ∙ ap (λ (k : ℕ). enumerate_from (n + 1) xs ++ (k, r) ∷ []) (omega arith))

front_of : (front rest : List Record) → take (length front) (front ++ rest) ≡ front
front_of [] rest = refl
front_of (x ∷ front) rest = ap (λ (xs : List Record). x ∷ xs) (front_of front rest)

front_next : (front : List Record) (r : Record) (rest : List Record)
    → take (length front + 1) (front ++ r ∷ rest) ≡ front ++ r ∷ []
front_next [] r rest = refl
front_next (x ∷ front) r rest =
    ap (λ (n : ℕ). take n (x ∷ front ++ r ∷ rest))
    (let e : suc (length front) + 1 ≡ suc (length front + 1) = omega arith in e)
    ∙ ap (λ (xs : List Record). x ∷ xs) (front_next front r rest)

-- what the records of a front come to, as part of all records
abbrev front_counted : DeclaredNetwork → ℕ → List Record → List Record → Traffic
front_counted network station records front = record {
  releases = filter_map (release_of network station records) (enumerate_from 0 front);
  records = length front;
  unidentified = length (filter (is_unidentified network station) front);
  oversize = length (filter (is_oversize network station) front);
}

filter_one : (p : Record → Bool) (xs : List Record) (r : Record)
    → length (filter p (xs ++ r ∷ [])) ≡ one_where (p r) (length (filter p xs))
filter_one p xs r = ap length (filter-append p xs (r ∷ [])) ∙ by (p r)
  where
    by : (b : Bool) → length (filter p xs ++ cond b (r ∷ []) []) ≡ one_where b (length (filter p xs))
    by true = length_push (filter p xs) r
    by false = ap length (append-nil (filter p xs))

map_one : (f : ℕ × Record → Option Release) (xs : List (ℕ × Record)) (x : ℕ × Record)
    → filter_map f (xs ++ x ∷ []) ≡ filter_map f xs ++ listed (f x)
map_one f xs x = filter_map-append f xs (x ∷ []) ∙ ap (λ (rs : List Release). filter_map f xs ++ rs) (by (f x) refl)
  where
    by : (o : Option Release) → f x ≡ o → filter_map f (x ∷ []) ≡ listed (f x)
    by None e = rw e refl
    by (Some release) e = rw e refl

-- behind the releases of a front comes that of the next record, if it has one
releases_next : (network : DeclaredNetwork) (station : ℕ) (records front : List Record) (r : Record)
    → filter_map (release_of network station records) (enumerate_from 0 (front ++ r ∷ []))
    ≡ filter_map (release_of network station records) (enumerate_from 0 front)
    ++ listed (release_of network station records (length front, r))
releases_next network station records front r =
    ap (filter_map (release_of network station records)) (numbered_push 0 front r
    ∙ ap (λ (k : ℕ). enumerate_from 0 front ++ (k, r) ∷ [])
    (let e : 0 + length front ≡ length front = omega arith in e))
    ∙ map_one (release_of network station records) (enumerate_from 0 front) (length front, r)

-- with one record more it is the front that ends there
pushed_front : (network : DeclaredNetwork) (station : ℕ) (records front : List Record) (r : Record)
    → pushed (front_counted network station records front) (release_of network station records (length front, r))
    (is_unidentified network station r) (is_oversize network station r)
    ≡ front_counted network station records (front ++ r ∷ [])
pushed_front network station records front r =
    same (sym (releases_next network station records front r)) (sym (length_push front r))
    (sym (filter_one (is_unidentified network station) front r))
    (sym (filter_one (is_oversize network station) front r))
  where
    same : {ls ks : List Release} {n m u v o w : ℕ} → ls ≡ ks → n ≡ m → u ≡ v → o ≡ w
        → (◌≡◌ {A = Traffic} (record { releases = ls; records = n; unidentified = u; oversize = o })
        (record { releases = ks; records = m; unidentified = v; oversize = w }))
    same a b c d = cc

-- the record behind a front comes to that
one_record : (network : DeclaredNetwork) (station : ℕ) (records front rest : List Record) (r : Record) (nanos : ℕ)
    → records ≡ front ++ r ∷ rest → nanos ≡ nanos_at records (length front)
    → with_record network station nanos (front_counted network station records front) r
    ≡ pushed_unless (is_over network station records (length front, r))
    (front_counted network station records front) (release_of network station records (length front, r))
    (is_unidentified network station r) (is_oversize network station r)
one_record network station records front rest r nanos e time =
    ap (λ (n : ℕ). with_record network station n (front_counted network station records front) r) time
    ∙ step network (nanos_at records (length front)) r.octets (front_counted network station records front)
    (stream_of network station r.identity)
    ∙ ap (λ (rs : List Release). told (released front) rs) (sym (releases_next network station records front r))
    ∙ ap (λ (xs : List Record). told (released xs) (released (front ++ r ∷ [])))
    (sym (ap (take (length front)) e ∙ front_of front (r ∷ rest)))
    ∙ ap (λ (xs : List Record). told (released (take (length front) records)) (released xs))
    (sym (ap (take (length front + 1)) e ∙ front_next front r rest))
  where
    released : List Record → List Release
    released xs = filter_map (release_of network station records) (enumerate_from 0 xs)

    -- by the releases before this record, and those up to it
    told : List Release → List Release → Result Traffic JoinFault
    told before now =
        pushed_unless (is_some (release_of network station records (length front, r))
        && not (may_be_run (nanos_at records (length front)) (length before) (ports_of_frames network now)))
        (front_counted network station records front) (release_of network station records (length front, r))
        (is_unidentified network station r) (is_oversize network station r)

-- the greatest time of a front
abbrev latest_in : List Record → List Record → ℕ
latest_in records front = fold max (first_time records) (map (λ (r : Record). r.nanos) front)

latest_next : (records front : List Record) (r : Record)
    → latest_in records (front ++ r ∷ []) ≡ max (latest_in records front) r.nanos
latest_next records front r =
    ap (fold max (first_time records)) (map-append (λ (x : Record). x.nanos) front (r ∷ []))
    ∙ fold-append max (first_time records) (map (λ (x : Record). x.nanos) front) (r.nanos ∷ [])

nanos_next : (records front rest : List Record) (r : Record) (latest : ℕ) → records ≡ front ++ r ∷ rest
    → latest ≡ latest_in records front
    → max latest r.nanos - first_time records ≡ nanos_at records (length front)
nanos_next records front rest r latest e time =
    ap (λ (n : ℕ). max n r.nanos - first_time records) time
    ∙ ap (λ (n : ℕ). n - first_time records) (sym (latest_next records front r))
    ∙ ap (λ (xs : List Record). latest_in records xs - first_time records)
    (sym (ap (take (length front + 1)) e ∙ front_next front r rest))

-- the first record over a limit among those behind a front, or what all come to
abbrev due_from : DeclaredNetwork → ℕ → List Record → ℕ → List Record → Result Traffic JoinFault
due_from network station records n rest =
    unless (λ (numbered : ℕ × Record). Limit (numbered.0 + 1))
    (find (is_over network station records) (enumerate_from n rest)) (front_counted network station records records)

-- with one record more, where those behind it come to what is due
one_on : (network : DeclaredNetwork) (station : ℕ) (records front rest : List Record) (r : Record) (latest : ℕ)
    → records ≡ front ++ r ∷ rest → latest ≡ latest_in records front
    → traffic_from network station (first_time records) (max latest r.nanos)
    (front_counted network station records (front ++ r ∷ [])) rest
    ≡ due_from network station records (length front + 1) rest
    → traffic_from network station (first_time records) latest (front_counted network station records front) (r ∷ rest)
    ≡ due_from network station records (length front) (r ∷ rest)
one_on network station records front rest r latest e time behind =
    ap on (one_record network station records front rest r (max latest r.nanos - first_time records) e
    (nanos_next records front rest r latest e time))
    ∙ by (is_over network station records (length front, r))
  where
    on : Result Traffic JoinFault → Result Traffic JoinFault
    on result =
        result >>= λ more. traffic_from network station (first_time records) (max latest r.nanos) more rest

    by : (over : Bool)
        → on (pushed_unless over (front_counted network station records front)
        (release_of network station records (length front, r)) (is_unidentified network station r)
        (is_oversize network station r))
        ≡ unless (λ (numbered : ℕ × Record). Limit (numbered.0 + 1))
        (cond over (Some (length front, r))
        (find (is_over network station records) (enumerate_from (length front + 1) rest)))
        (front_counted network station records records)
    by true = refl
    by false =
        ap (λ (t : Traffic). traffic_from network station (first_time records) (max latest r.nanos) t rest)
        (pushed_front network station records front r) ∙ behind

from_front : (network : DeclaredNetwork) (station : ℕ) (records front rest : List Record) (latest : ℕ)
    → records ≡ front ++ rest → latest ≡ latest_in records front
    → traffic_from network station (first_time records) latest (front_counted network station records front) rest
    ≡ due_from network station records (length front) rest
from_front network station records front [] latest e time =
    ap (λ (xs : List Record). let r : Result Traffic JoinFault = Ok (front_counted network station records xs) in r)
    (sym (e ∙ append-nil front))
from_front network station records front (r ∷ rest) latest e time =
    one_on network station records front rest r latest e time
    (from_front network station records (front ++ r ∷ []) rest (max latest r.nanos)
    (e ∙ sym (append_assoc front (r ∷ []) rest))
    (ap (λ (n : ℕ). max n r.nanos) time ∙ sym (latest_next records front r))
    ∙ ap (λ (n : ℕ). due_from network station records n rest) (length_push front r))

pub traffic_is_counted : TrafficIsCounted
traffic_is_counted network station records =
    from_front network station records [] records (first_time records) refl refl
