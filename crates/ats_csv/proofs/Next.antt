-- How a read of csv's changes the records that are left.
use Rattle.std.proofs.Common.{◌≤◌, ◌+◌, length, ◌≡◌, ℕ, List, [], ◌∷◌, Option, Some, None, Bool, true, false, refl, inl}
use Rattle.std.proofs.Common.{◌∙◌}
use Rattle.std.specs.Prelude.{IsSome, MatchBool}
use Rattle.csv.specs.Machine.{Read, next_record}
use Rattle.csv.specs.Reading.{NextIs, ReadRecord, ReadsNext, default_config, is_flexible, pending_of, reader_state}
use Rattle.csv.specs.Reading.{strip_bom, took_first}
use Rattle.csv.specs.declared.parser.State.{State}
use Rattle.csv.specs.declared.parser.State.TheVariants as st
use Rattle.ats_csv.specs.Reading.{records_of}
use Rattle.ats_csv.proofs.Counted.{counted-first, counted-none, few_records}
use Rattle.ats_csv.specs.Inside.{ReadsOnward, ReadsRecord, SliceReader, records_in, records_left, unread_bytes}

-- a read that found a record took the first one that was left
pub record KnowsMore (left : List (List (List ℕ))) (fields : List (List ℕ)) (state : State)
    (bytes : Option (List ℕ)) : Type 0 where
  pub next : left ≡ fields ∷ records_in state bytes
  pub known : IsSome bytes

found-next : (s s2 : State) (bytes rest : List ℕ) (fields : List (List ℕ)) (o : Option Read)
    → next_record default_config s [] [] bytes ≡ o
    → NextIs o true fields s2 rest → records_in s (Some bytes) ≡ fields ∷ records_in s2 (Some rest)
unfolding records_in
found-next s s2 bytes rest fields None e n = cc n
found-next s s2 bytes rest fields (Some read) e n = rw (n.1, n.2, n.3) (counted-first default_config s bytes read e)

pub reads-record : (s s2 : State) (before after : Option (List ℕ)) (fields : List (List ℕ)) → IsSome before
    → ReadsNext default_config s before after true fields s2 → KnowsMore (records_in s before) fields s2 after
reads-record s s2 None after fields known r = search
reads-record s s2 (Some bytes) None fields known r = absurd r
reads-record s s2 (Some bytes) (Some rest) fields known r =
    record { next = found-next s s2 bytes rest fields _ refl r; known = search }

-- a read that found none ends the records
end-next : (s s2 : State) (bytes rest : List ℕ) (fields : List (List ℕ)) (o : Option Read)
    → next_record default_config s [] [] bytes ≡ o
    → NextIs o false fields s2 rest → records_in s (Some bytes) ≡ []
unfolding records_in
end-next s s2 bytes rest fields None e n = counted-none default_config s bytes e
end-next s s2 bytes rest fields (Some read) e n = cc n.0

pub reads-end : (s s2 : State) (before after : Option (List ℕ)) (fields : List (List ℕ))
    → ReadsNext default_config s before after false fields s2 → records_in s before ≡ []
unfolding records_in
reads-end s s2 None after fields r = refl
reads-end s s2 (Some bytes) None fields r = absurd r
reads-end s s2 (Some bytes) (Some rest) fields r = end-next s s2 bytes rest fields _ refl r

-- after a read the bytes that are left are those in the buffer and behind it
unread_is : (new : SliceReader) → new.bom_checked ≡ true → unread_bytes new ≡ pending_of (Some new.rdr.now) new
unread_is new checked = rw checked refl

-- what csv's read of a record does to a reader that reads on
pub read_found : (old new : SliceReader) (found : Bool) (fields : List (List ℕ)) → ReadsOnward old
    → ReadRecord (λ s. Some s.now) old new found fields
    → took_first new ≡ true → is_flexible new ≡ is_flexible old
    → MatchBool found (ReadsRecord old new fields) (records_left old ≡ [])
read_found old new true fields onward r first flexible =
    let before : ReadsNext default_config old.state (unread_bytes old) (pending_of (Some new.rdr.now) new)
    true fields new.state = rw onward.config at r.0 in
    let more = reads-record old.state new.state (unread_bytes old) (pending_of (Some new.rdr.now) new)
    fields onward.known before in
    let same = unread_is new r.1 in
    record {
      next = rw same more.next;
      onward = record {
        config = r.2 ∙ onward.config;
        trim = r.3 ∙ onward.trim;
        flexible = flexible ∙ onward.flexible;
        ready = inl first;
        known = rw same more.known;
      };
    }
read_found old new false fields onward r first flexible =
    let before : ReadsNext default_config old.state (unread_bytes old) (pending_of (Some new.rdr.now) new)
    false fields new.state = rw onward.config at r.0 in
    reads-end old.state new.state (unread_bytes old) (pending_of (Some new.rdr.now) new) fields before

-- at its start a reader has all records left
pub opened : (reader : SliceReader) (bytes : List ℕ) → reader_state reader ≡ st.StartRecord
    → unread_bytes reader ≡ Some (strip_bom bytes)
    → records_left reader ≡ records_of bytes
unfolding records_in records_of
opened reader bytes start source = rw (start, source) refl

pub opened_few : (reader : SliceReader) (bytes : List ℕ) → reader_state reader ≡ st.StartRecord
    → unread_bytes reader ≡ Some (strip_bom bytes)
    → length (records_left reader) ≤ length bytes + 1
opened_few reader bytes start source = rw (opened reader bytes start source) (few_records bytes)
