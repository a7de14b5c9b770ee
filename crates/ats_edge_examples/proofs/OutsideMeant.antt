use Rattle.std.proofs.Common.{ℕ, ◌-◌, ◌^◌, ◌<◌, ◌≤◌, ◌⊎◌, refl, inl, inr, arith}
use Rattle.std.proofs.lemmas.Bool.{cases_lt}
use Rattle.ats_io.specs.Outside.{Rose}
use Rattle.ats_edge_examples.specs.OutsideWords.{CountsAreMeant, OutsideIsMeant, PiecesAreMeant, ReadsAreMeant}
use Rattle.ats_edge_examples.specs.OutsideWords.{SinksAreMeant}

-- Each word and its parts, one way and the other.

rises : (before now : ℕ) → Rose before now → (before < now) ⊎ (2 ^ 64 - 1 ≤ now)
rises before now h = by (cases_lt before now)
  where
    by : (before < now) ⊎ (now ≤ before) → (before < now) ⊎ (2 ^ 64 - 1 ≤ now)
    by (inl grew) = inl grew
    by (inr stood) = inr (omega (arith, h, stood))

risen : (before now : ℕ) → (before < now) ⊎ (2 ^ 64 - 1 ≤ now) → Rose before now
risen before now (inl grew) = omega (arith, grew)
risen before now (inr last) = omega (arith, last)

counts : CountsAreMeant
counts = record { rose = λ before now. (rises before now, risen before now) }

pieces : PiecesAreMeant
pieces = record {
  told = λ bytes other. (λ is. is bytes refl, λ is held e. cc (is, e));
  not_told = λ other held e. cc e;
  piece = λ bytes buffer at count. (
    λ is. (is.piece, is.within, is.ends),
    λ is. record { piece = is.0; within = is.1; ends = is.2 },
  );
  whole = λ held before after limit result. (λ is. is, λ is. is);
  too_long = λ held before after limit result. (λ is. is, λ is. is);
}

sinks : SinksAreMeant
sinks = record {
  held = λ bytes piece. refl;
  not_told = λ piece. refl;
  taken = λ text old new. (
    λ is. (is.front, is.rest, is.parts, is.taken),
    λ is. record { front = is.0; rest = is.1; parts = is.2; taken = is.3 },
  );
}

reads : ReadsAreMeant
reads = record {
  given = λ count. refl;
  failed = λ fault. refl;
  listed = λ reads name at result. refl;
  unread = λ name from. tt;
  reading = λ name from read reads. (λ is. is, λ is. is);
  no_file = λ reads. (λ is. is, λ is. is);
  files = λ name names reads. (λ is. is, λ is. is);
  made = λ names old new. (λ is. is, λ is. is);
}

pub outside_is_meant : OutsideIsMeant
outside_is_meant = record { counts = counts; pieces = pieces; sinks = sinks; reads = reads }
