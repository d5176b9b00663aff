-- One moment more in a draft, and its packet.
use Rattle.std.proofs.Common.{arith, ◌≡◌, ℕ, ◌+◌, ◌^◌, ◌<◌, ◌≤◌, max, refl, sym, ◌∙◌, ap, subst, List, [], ◌∷◌, ◌++◌, length, drop, Bool, true, false, Option, Some, None, Result, Ok, Err, OnOk, length-append, nat_lt, if◌then◌else◌}
use Rattle.std.proofs.lemmas.Bool.{eq-eqb}
use Rattle.std.proofs.lemmas.Bool.Decides.{nat_tests}
use Rattle.hk_base.specs.Fit.{IsFit, greatest_tag}
use Rattle.hk_base.specs.TailoringParts.{TailoringParts}
use Rattle.body_fields.specs.Spelling.{AreOctets}
use Rattle.body_fields.specs.declared.fault.BodyFault.{BodyFault}
use Rattle.pus_packet.specs.Packets.{packet_fault, unless_fault, report_headers, time_octets, checked_part, checksum_octets, process}
use Rattle.pus_packet.specs.Joining.{with_checksum, report_packet}
use Rattle.hk_base.specs.Fields.{octets_of}
use Rattle.hk_base.proofs.FieldLemmas.{length-digits, pow_pos}
use Rattle.std.proofs.lemmas.List.{reverse-append}
use Rattle.std.proofs.Math.Nat.{pow-le-pow_right}
use Rattle.pus_packet.specs.declared.header.PacketFault.{PacketFault}
use Rattle.pus_packet.specs.declared.header.TmHeader.{TmHeader}
use Rattle.st01_reports.specs.declared.verification.Verification.TheVariants as verify
use Rattle.st03_grammar.specs.declared.bodies.Report03.TheVariants as hk
use Rattle.st04_grammar.specs.declared.bodies.Report04.TheVariants as stat
use Rattle.pus_messages.specs.Messages.{protocol, message, report_body, report_in, report_of, reception_by, reception_from}
use Rattle.pus_messages.specs.Protocol.{foreign, readable}
use Rattle.pus_messages.specs.Spelling.{IsReport, report_type, report_octets, report_body_octets}
use Rattle.pus_messages.specs.declared.message.Report.{Report}
use Rattle.pus_messages.specs.declared.message.ReportBody.{ReportBody}
use Rattle.pus_messages.specs.declared.message.ReportBody.TheVariants.{Verify, Hk, Stat, Par}
use Rattle.pus_messages.proofs.Lawful.{nothing}
use Rattle.hk_world.specs.declared.moment.Moment.{Moment}
use Rattle.hk_world.specs.declared.moment.Act.{Act}
use Rattle.board_steps.specs.Cores.{header_of}
use Rattle.board_core.specs.Counts.{AreCounts, counted, type_place}
use Rattle.board_core.specs.Logs.{LogParts, IsKept, IsDraft, IsDrafted, IsWritable, drafted}
use Rattle.board_core.specs.declared.log.Draft.{Draft}
use Rattle.board_core.proofs.CountLemmas.{counts-more, counts-same, kind-type}

with_checksum_length : (checksum : Bool) (octets : List ℕ) (n : ℕ) → length octets ≡ n → length (with_checksum checksum octets) ≡ n + checksum_octets checksum
with_checksum_length false octets n e = omega (arith, e)
with_checksum_length true octets n e = omega (arith, e, length-append {A = ℕ})

-- how many octets a report has
pub report_length : (checksum : Bool) (time : ℕ) (h : TmHeader) (body : List ℕ) → length (report_packet checksum time h body) ≡ 13 + time + length body + checksum_octets checksum
report_length checksum time h body = with_checksum_length checksum _ (13 + time + length body) (omega (arith, length-append (octets_of time h.tag) body, length-digits 256 time h.tag))

-- the greatest tag is small
pub greatest-small : (t : TailoringParts) → IsFit t → greatest_tag t < 2 ^ 60
greatest-small t fit =
    let most : 256 ^ (t.widths.coarse + t.widths.fine) ≤ 256 ^ 7 = let few : t.widths.coarse + t.widths.fine ≤ 7 = omega (arith, fit.widths.coarse.1, fit.widths.fine) in let some : 0 < 256 = omega arith in pow-le-pow_right some few in
    omega (arith, most)

-- what follows from an Ok
pub on-ok : {T E : Type 0} (A B : Type 0) (r : Result T E) → (A → B) → OnOk r A → OnOk r B
on-ok A B (Ok x) f h = f h
on-ok A B (Err e) f h = tt

-- the message types are small numbers
type-small : (body : ReportBody) → ((report_type body).0 < 2 ^ 8) × ((report_type body).1 < 2 ^ 8)
type-small (Verify (verify.Accepted id)) = (omega arith, omega arith)
type-small (Verify (verify.Refused id cause)) = (omega arith, omega arith)
type-small (Verify (verify.Started id)) = (omega arith, omega arith)
type-small (Verify (verify.NotStarted id cause)) = (omega arith, omega arith)
type-small (Verify (verify.Step id step)) = (omega arith, omega arith)
type-small (Verify (verify.StepFailed id step cause)) = (omega arith, omega arith)
type-small (Verify (verify.Completed id)) = (omega arith, omega arith)
type-small (Verify (verify.Incomplete id code steps)) = (omega arith, omega arith)
type-small (Verify (verify.NotRouted id cause)) = (omega arith, omega arith)
type-small (Hk (hk.Structure key x)) =
    kind-type key.kind (λ k. ((report_type (Hk (hk.Structure (record { kind = k; id = key.id }) x))).0 < 2 ^ 8) × ((report_type (Hk (hk.Structure (record { kind = k; id = key.id }) x))).1 < 2 ^ 8))
    (omega arith, omega arith) (omega arith, omega arith)
type-small (Hk (hk.Values key payload)) =
    kind-type key.kind (λ k. ((report_type (Hk (hk.Values (record { kind = k; id = key.id }) payload))).0 < 2 ^ 8) × ((report_type (Hk (hk.Values (record { kind = k; id = key.id }) payload))).1 < 2 ^ 8))
    (omega arith, omega arith) (omega arith, omega arith)
type-small (Hk (hk.Periodic kind rows)) =
    kind-type kind (λ k. ((report_type (Hk (hk.Periodic k rows))).0 < 2 ^ 8) × ((report_type (Hk (hk.Periodic k rows))).1 < 2 ^ 8))
    (omega arith, omega arith) (omega arith, omega arith)
type-small (Stat (stat.Statistics r)) = (omega arith, omega arith)
type-small (Stat (stat.Definitions enabled interval params)) = (omega arith, omega arith)
type-small (Par r) = (omega arith, omega arith)

-- a report with the next header is of the grammar where its body is
pub header-stands : (t : TailoringParts) (moments : List Moment) (tag : ℕ) (body : ReportBody) (h : TmHeader) → h ≡ header_of (protocol t) moments tag body → IsFit t → IsWritable t body
    → tag ≤ greatest_tag t → IsReport t (record { header = h; body = body })
header-stands t moments tag body h e fit writable early =
    subst (λ x. IsReport t (record { header = x; body = body })) (sym e)
    (record {
      headers = record {
        apid = omega (arith, fit.widths.apid);
        count = omega arith;
        status = omega arith;
        service = (type-small body).0;
        subtype = (type-small body).1;
        counter = omega arith;
        destination = fit.widths.address;
        tag = let some : 0 < 256 ^ (t.widths.coarse + t.widths.fine) = pow_pos 256 (t.widths.coarse + t.widths.fine) (omega arith) in omega (arith, early, some);
      };
      service = refl;
      subtype = refl;
      body = writable.grammar;
    })

-- the process that a report's octets name
report-process : (t : TailoringParts) (octets : List ℕ) (r : Report) → report_of t octets ≡ Ok r → r.header.apid ≡ process octets
report-process t octets r e = go (packet_fault 0 (13 + time_octets t) t.widths.tm_checksum octets) e
  where
    by_body : (h : TmHeader) (service subtype : ℕ) (b : Option (Result ReportBody BodyFault))
        → message (λ (x : TmHeader) (y : ReportBody). record { header = x; body = y }) h service subtype b ≡ Ok r → r.header ≡ h
    by_body h service subtype None e = cc
    by_body h service subtype (Some (Err fault)) e = cc
    by_body h service subtype (Some (Ok b)) e = let same : record { header = h; body = b } ≡ r = cc in sym (ap (λ (x : Report). x.header) same)

    go : (f : Option PacketFault)
        → report_in t (unless_fault f (report_headers t octets, drop (13 + time_octets t) (checked_part t.widths.tm_checksum octets))) ≡ Ok r → r.header.apid ≡ process octets
    go None e =
        let h : TmHeader = report_headers t octets in
        ap (λ (x : TmHeader). x.apid) (by_body h h.service h.subtype (report_body t h.service h.subtype (drop (13 + time_octets t) (checked_part t.widths.tm_checksum octets))) e)
    go (Some f) e = cc

pub read-back : (t : TailoringParts) (r : Report) (octets : List ℕ) → octets ≡ report_octets t r → r.header.apid ≡ t.widths.apid → report_of t octets ≡ Ok r
    → (protocol t).reception octets ≡ readable r
read-back t r octets spelled own e =
    let long : length octets ≡ 13 + time_octets t + length (report_body_octets t r.body) + checksum_octets t.widths.tm_checksum =
    ap length spelled ∙ report_length t.widths.tm_checksum (time_octets t) r.header (report_body_octets t r.body) in
    let enough : nat_lt (length octets) 6 ≡ false = grind (arith, nat_tests) in
    let same : process octets ≡ t.widths.apid = sym (report-process t octets r e) ∙ own in
    ap (λ b. reception_from t octets (if b then None else Some (process octets))) enough
    ∙ ap (λ b. if b then reception_by (report_of t octets) else foreign (process octets)) (eq-eqb (process octets) t.widths.apid same)
    ∙ ap reception_by e

-- the moments of a draft with one more
drafted-more : (l : LogParts) (new : List Moment) (m : Moment) → drafted l (new ++ m ∷ []) ≡ m ∷ drafted l new
drafted-more l new m = ap (λ xs. xs ++ l.moments) (reverse-append new (m ∷ []))

-- a moment with no packet
pub silent-drafted : (l : LogParts) (act : Act) (tag : ℕ) (old new : Draft) → IsDraft l old → tag ≡ max old.clock (old.last_tag + 1) → tag ≤ greatest_tag l.tailoring
    → new.clock ≡ old.clock → new.counters ≡ old.counters → new.last_tag ≡ tag → new.moments.items ≡ old.moments.items ++ record { tag = tag; act = act; packet = [] } ∷ []
    → IsDrafted l old.clock act None old new
silent-drafted l act tag old new d is early clock counters last pushed =
    let m : Moment = record { tag = tag; act = act; packet = [] } in
    let more = ap (drafted l) pushed ∙ drafted-more l old.moments.items m in
    record {
      moment = m;
      added = record { tag = is ∙ ap (λ n. max old.clock (n + 1)) d.last_is; act_is = refl; packet = refl; octets = tt };
      moments = pushed;
      draft = subst (λ ms. IsKept l.tailoring ms new.last_tag new.counters) (sym more)
          (record {
            last_is = last;
            fit = subst (λ n. n ≤ greatest_tag l.tailoring) (sym last) early;
            counts = subst (AreCounts (protocol l.tailoring) (m ∷ drafted l old.moments.items)) (sym counters)
                (counts-same (protocol l.tailoring) (drafted l old.moments.items) old.counters d.counts m (nothing l.tailoring));
          });
      clock_is = clock;
    }

-- a moment with a report
pub told-drafted : (l : LogParts) (act : Act) (body : ReportBody) (tag : ℕ) (packet : List ℕ) (h : TmHeader) (old new : Draft) → IsDraft l old → tag ≡ max old.clock (old.last_tag + 1)
    → tag ≤ greatest_tag l.tailoring → h ≡ header_of (protocol l.tailoring) (drafted l old.moments.items) tag body → (protocol l.tailoring).reception packet ≡ readable (record { header = h; body = body })
    → AreOctets packet → new.clock ≡ old.clock → new.counters ≡ counted (type_place body) old.counters → new.last_tag ≡ tag → new.moments.items ≡ old.moments.items ++ record { tag = tag; act = act; packet = packet } ∷ []
    → IsDrafted l old.clock act (Some body) old new
told-drafted l act body tag packet h old new d is early header told octets clock counters last pushed =
    let m : Moment = record { tag = tag; act = act; packet = packet } in
    let more = ap (drafted l) pushed ∙ drafted-more l old.moments.items m in
    let read : (protocol l.tailoring).reception packet ≡ readable (record { header = header_of (protocol l.tailoring) (drafted l old.moments.items) tag body; body = body }) =
    told ∙ ap (λ x. readable (record { header = x; body = body })) header in
    record {
      moment = m;
      added = record { tag = is ∙ ap (λ n. max old.clock (n + 1)) d.last_is; act_is = refl; packet = read; octets = octets };
      moments = pushed;
      draft = subst (λ ms. IsKept l.tailoring ms new.last_tag new.counters) (sym more)
          (record {
            last_is = last;
            fit = subst (λ n. n ≤ greatest_tag l.tailoring) (sym last) early;
            counts = subst (AreCounts (protocol l.tailoring) (m ∷ drafted l old.moments.items)) (sym counters)
                (counts-more (protocol l.tailoring) (drafted l old.moments.items) old.counters d.counts m body read);
          });
      clock_is = clock;
    }

-- a report with a short body isn't too long
pub not-long : (t : TailoringParts) (r : Report) → length (report_body_octets t r.body) ≤ 65000 → IsFit t → 65542 < length (report_octets t r) → ⊥
not-long t r short fit long =
    let checksum : checksum_octets t.widths.tm_checksum ≤ 2 = few t.widths.tm_checksum in
    absurd (omega (arith, short, long, checksum, fit.widths.coarse.1, fit.widths.fine, report_length t.widths.tm_checksum (time_octets t) r.header (report_body_octets t r.body)))
  where
    few : (b : Bool) → checksum_octets b ≤ 2
    few true = omega arith
    few false = omega arith
