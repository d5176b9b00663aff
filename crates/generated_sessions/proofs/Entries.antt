-- The entries of a round are few, and each is short.
use Rattle.std.proofs.Common.{◌≡◌, ◌+◌, ◌*◌, ◌≤◌, ℕ, zero, suc, List, [], ◌∷◌, ◌++◌, length, Bool, true, false, lit≤, arith, length-append}
use Rattle.std.specs.Prelude.{flat_map, nat_le, ◌==◌, ◌%◌, ◌/◌, ◌&&◌, ◌||◌, if◌then◌else◌}
use Rattle.std.specs.List.{AllByRecursion}
use Rattle.hk_base.specs.declared.types.Place.{Place}
use Rattle.hk_base.specs.declared.types.RequestId.{RequestId}
use Rattle.hk_base.specs.declared.types.Definition.{Definition}
use Rattle.hk_base.specs.Payload.{places}
use Rattle.st01_reports.specs.declared.verification.Verification.{Verification}
use Rattle.st01_reports.specs.declared.verification.Verification.TheVariants as verify
use Rattle.pus_messages.specs.declared.message.ReportBody.TheVariants as tell
use Rattle.pus_packet.specs.Joining.{most_octets, id_of_packet}
use Rattle.session_record.specs.declared.entry.Entry.{Entry}
use Rattle.session_record.specs.declared.entry.Entry.TheVariants.{Sent}
use Rattle.generated_sessions.specs.Generated.{numbers_from, made_simple, sample_octets, made_payload, made_report, made_request, structure_entry, round_tag, verified, verified_entries, request_entries, delivered, round_reports, late_entries, round_entries, is_lost, interval_after}
use Rattle.generated_sessions.specs.Entries.{IsShortEntry}
use Rattle.generated_sessions.specs.Parts.{IsPlain}
use Rattle.generated_sessions.proofs.Messages.{values_size, verification_size, request_size, name_fits}

-- a definition with or without its array
abbrev definition_by : Bool → ℕ → ℕ → Definition
definition_by b s interval =
    record { interval = interval; simple = made_simple s; arrays = if b then record { repetition = 2; params = (36 + s) ∷ [] } ∷ [] else [] }

few_by : (b : Bool) (s interval last : ℕ) → length (places (definition_by b s interval) last) ≤ 8
few_by true s interval last = lit≤ tt
few_by false s interval last = lit≤ tt

two_each : (seed : ℕ) (ps : List Place) → length (flat_map (sample_octets seed) ps) ≡ 2 * length ps
two_each seed [] = omega arith
two_each seed (p ∷ ps) = omega (arith, two_each seed ps)

short_payload : (seed s round : ℕ) → length (made_payload seed s round) ≤ 16
unfolding made_payload
short_payload seed s round =
    let interval : ℕ = interval_after s ((round + 15) / 16) in
    let ps : List Place = places (definition_by (nat_le s 4) s interval) (4 * round + 3) in
    omega (arith, two_each seed ps, few_by (nat_le s 4) s interval (4 * round + 3))

report_short : (tag : ℕ) (v : Verification) → IsPlain v → length (made_report tag (tell.Verify v)) ≤ most_octets
unfolding made_report
report_short tag v plain = verification_size tag v plain

structure_short : (seed round s : ℕ) → IsShortEntry (structure_entry seed round s)
unfolding made_report
structure_short seed round s = values_size (round_tag round + s) s (made_payload seed s round) (short_payload seed s round)

request_short : (q : ℕ) → IsShortEntry (Sent (made_request q))
unfolding made_request
request_short q = request_size q

-- each of entries is short, and they are so many at most
abbrev AreShort : ℕ → List Entry → Type 0
AreShort most es = AllByRecursion IsShortEntry es × (length es ≤ most)

all_append : (xs ys : List Entry) → AllByRecursion IsShortEntry xs → AllByRecursion IsShortEntry ys → AllByRecursion IsShortEntry (xs ++ ys)
all_append [] ys a b = b
all_append (x ∷ xs) ys a b = (a.0, all_append xs ys a.1 b)

both_short : (m n : ℕ) (xs ys : List Entry) → AreShort m xs → AreShort n ys → AreShort (m + n) (xs ++ ys)
both_short m n xs ys a b = (all_append xs ys a.0 b.0, omega (arith, length-append xs ys, a.1, b.1))

either_short : (n : ℕ) (b : Bool) (xs ys : List Entry) → AreShort n xs → AreShort n ys → AreShort n (if b then xs else ys)
either_short n true xs ys a b = a
either_short n false xs ys a b = b

none_short : (n : ℕ) → AreShort n []
none_short n = (tt, omega arith)

delivered_short : (seed round s : ℕ) → AreShort 2 (delivered seed round s)
delivered_short seed round s =
    let e : Entry = structure_entry seed round s in
    let short : IsShortEntry e = structure_short seed round s in
    either_short 2 ((s == 2) && (round % 16 == 8)) [] (if (s == 3) && (round % 40 == 20) then e ∷ e ∷ [] else e ∷ []) (none_short 2)
    (either_short 2 ((s == 3) && (round % 40 == 20)) (e ∷ e ∷ []) (e ∷ []) ((short, (short, tt)), lit≤ tt) ((short, tt), lit≤ tt))

structures_short : (seed round first count : ℕ) → AreShort (2 * count) (flat_map (delivered seed round) (numbers_from first count))
structures_short seed round first zero = none_short 0
structures_short seed round first (suc count) =
    let all = both_short 2 (2 * count) (delivered seed round first) (flat_map (delivered seed round) (numbers_from (suc first) count)) (delivered_short seed round first)
    (structures_short seed round (suc first) count) in
    (all.0, omega (arith, all.1))

reports_short : (seed round : ℕ) → AreShort 12 (round_reports seed round)
reports_short seed round =
    either_short 12 (round % 20 == 10) [] (flat_map (delivered seed round) (numbers_from 1 6)) (none_short 12) (structures_short seed round 1 6)

pub late_short : (seed count : ℕ) → AreShort 1 (late_entries seed count)
late_short seed zero = none_short 1
late_short seed (suc round) =
    either_short 1 (round % 16 == 8) (structure_entry seed round 2 ∷ []) [] ((structure_short seed round 2, tt), lit≤ tt) (none_short 1)

verified_short : (q : ℕ) → AreShort 3 (verified_entries q)
verified_short q =
    let id : RequestId = id_of_packet (made_request q) in
    let accepted : IsShortEntry (verified q 7 verify.Accepted) = report_short (round_tag (16 * q) + 7) (verify.Accepted id) (name_fits q) in
    let started : IsShortEntry (verified q 8 verify.Started) = report_short (round_tag (16 * q) + 8) (verify.Started id) (name_fits q) in
    let completed : IsShortEntry (verified q 10 verify.Completed) = report_short (round_tag (16 * q) + 10) (verify.Completed id) (name_fits q) in
    let last : AreShort 1 (if q % 10 == 6 then [] else verified q 10 verify.Completed ∷ []) =
    either_short 1 (q % 10 == 6) [] (verified q 10 verify.Completed ∷ []) (none_short 1) ((completed, tt), lit≤ tt) in
    either_short 3 (is_lost q || (q % 10 == 4)) []
    (verified q 7 verify.Accepted ∷ verified q 8 verify.Started ∷ (if q % 10 == 6 then [] else verified q 10 verify.Completed ∷ []))
    (none_short 3) ((accepted, (started, last.0)), omega (arith, last.1))

request_entries_short : (round : ℕ) → AreShort 4 (request_entries round)
request_entries_short round =
    let q : ℕ = round / 16 in
    let rest = verified_short q in
    either_short 4 (round % 16 == 0) (Sent (made_request q) ∷ verified_entries q) [] ((request_short q, rest.0), omega (arith, rest.1)) (none_short 4)

pub round_short : (seed round : ℕ) → AreShort 17 (round_entries seed round)
round_short seed round =
    both_short 12 5 (round_reports seed round) (late_entries seed round ++ request_entries round) (reports_short seed round)
    (both_short 1 4 (late_entries seed round) (request_entries round) (late_short seed round) (request_entries_short round))
