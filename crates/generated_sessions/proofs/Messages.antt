-- The messages of a session are of the grammar, and none is too long for a packet.
use Rattle.std.proofs.Common.{◌≡◌, ◌+◌, ◌<◌, ◌≤◌, ◌^◌, ◌⊎◌, inl, inr, ℕ, List, length, Result, Ok, Err, lit≤, lit<, refl, sym, ap, subst, ◌∙◌, arith}
use Rattle.std.specs.Prelude.{◌/◌, ◌%◌, ◌==◌, Bool, true, false, if◌then◌else◌}
use Rattle.hk_base.specs.TailoringParts.{TailoringParts}
use Rattle.hk_base.specs.declared.types.RequestId.{RequestId}
use Rattle.st01_reports.specs.Spelling.{IsVerification, IsRequestId}
use Rattle.st01_reports.specs.declared.verification.Verification.{Verification}
use Rattle.st01_reports.specs.declared.verification.Verification.TheVariants.{Accepted, Refused, Started, NotStarted, Step, StepFailed, Completed, Incomplete, NotRouted}
use Rattle.pus_packet.specs.Packets.{time_octets}
use Rattle.pus_packet.specs.Joining.{most_octets, id_of_packet, command_octets}
use Rattle.pus_packet.specs.declared.header.TcHeader.{TcHeader}
use Rattle.pus_packet.specs.declared.header.TmHeader.{TmHeader}
use Rattle.pus_packet.specs.declared.header.JoinFault.{JoinFault}
use Rattle.pus_packet.specs.declared.header.JoinFault.TheVariants.{TooLong, Memory}
use Rattle.pus_messages.specs.Outcomes.{Writes}
use Rattle.pus_messages.specs.Spelling.{IsRequest, IsReport, report_type, request_octets, report_octets, request_body_octets}
use Rattle.pus_messages.specs.declared.message.Request.{Request}
use Rattle.pus_messages.specs.declared.message.Report.{Report}
use Rattle.pus_messages.specs.declared.message.ReportBody.{ReportBody}
use Rattle.pus_messages.specs.declared.message.ReportBody.TheVariants as tell
use Rattle.session_record.specs.declared.entry.Entry.TheVariants.{Got}
use Rattle.generated_sessions.specs.Generated.{made_tailoring, made_payload, made_report, made_request, report_of, request_of, values_body, structure_entry, round_tag, set_interval}
use Rattle.generated_sessions.specs.Parts.{IsPlain, IsNotTooLong, header_with}

-- a message that has room in a packet isn't too long
pub not_too_long : (octets : List ℕ) (r : Result (List ℕ) JoinFault) → Writes octets r → length octets ≤ most_octets → IsNotTooLong r
not_too_long octets (Ok packet) w h = tt
not_too_long octets (Err (TooLong size)) w h = absurd (omega (arith, w.1))
not_too_long octets (Err Memory) w h = tt

-- a report with these headers and this body
abbrev with_header : TmHeader → ReportBody → Report
with_header header body = record { header = header; body = body }

-- Headers of a report of the session, as they were made.
pub record AreHeaders (header : TmHeader) (tag : ℕ) (body : ReportBody) : Type 0 where
  pub service : ℕ
  pub subtype : ℕ
  pub is : header ≡ header_with tag service subtype
  pub service_is : service ≡ (report_type body).0
  pub subtype_is : subtype ≡ (report_type body).1

report_is : (header : TmHeader) (tag : ℕ) (body : ReportBody) → AreHeaders header tag body → with_header header body ≡ report_of tag body
report_is header tag body h =
    ap (λ x. with_header x body) (h.is ∙ (ap (λ n. header_with tag n h.subtype) h.service_is ∙ ap (λ n. header_with tag (report_type body).0 n) h.subtype_is))

-- what holds of a report of the session holds of these parts
pub of_report : (P : TailoringParts → Report → Type 0) (t : TailoringParts) (header : TmHeader) (tag : ℕ) (body : ReportBody) → t ≡ made_tailoring
    → AreHeaders header tag body
    → P made_tailoring (report_of tag body) → P t (with_header header body)
of_report P t header tag body made h p =
    subst (λ x. P x (with_header header body)) (sym made) (subst (λ (r : Report). P made_tailoring r) (sym (report_is header tag body h)) p)

-- the packet of these parts is that of the report
pub packet_is : (t : TailoringParts) (header : TmHeader) (tag wanted : ℕ) (body : ReportBody) (packet : List ℕ) → t ≡ made_tailoring
    → AreHeaders header tag body → tag ≡ wanted
    → packet ≡ report_octets t (with_header header body) → packet ≡ made_report wanted body
unfolding made_report
packet_is t header tag wanted body packet made h same e =
    e
    ∙ (ap (λ x. report_octets x (with_header header body)) made
    ∙ (ap (λ r. report_octets made_tailoring r) (report_is header tag body h) ∙ ap (λ n. report_octets made_tailoring (report_of n body)) same))

-- the report of a structure
pub values_stand : (tag s : ℕ) (payload : List ℕ) → tag < 2 ^ 33 → s ≤ 6 → IsReport made_tailoring (report_of tag (values_body s payload))
unfolding made_tailoring
values_stand tag s payload early small = record {
  headers = record {
    apid = lit< tt;
    count = lit< tt;
    status = lit< tt;
    service = lit< tt;
    subtype = lit< tt;
    counter = lit< tt;
    destination = lit< tt;
    tag = omega (arith, early);
  };
  service = refl;
  subtype = refl;
  body = omega (arith, small);
}

pub values_size : (tag s : ℕ) (payload : List ℕ) → length payload ≤ 16
    → length (report_octets made_tailoring (report_of tag (values_body s payload))) ≤ most_octets
unfolding made_tailoring
values_size tag s payload short = omega (arith, short)

plain_stands : (v : Verification) → IsPlain v → IsVerification made_tailoring v
plain_stands (Accepted id) h = h
plain_stands (Started id) h = h
plain_stands (Completed id) h = h
plain_stands (Refused id cause) h = absurd h
plain_stands (NotStarted id cause) h = absurd h
plain_stands (Step id step) h = absurd h
plain_stands (StepFailed id step cause) h = absurd h
plain_stands (Incomplete id code steps) h = absurd h
plain_stands (NotRouted id cause) h = absurd h

small_subtype : (v : Verification) → IsPlain v → (report_type (tell.Verify v)).1 < 2 ^ 8
small_subtype (Accepted id) h = lit< tt
small_subtype (Started id) h = lit< tt
small_subtype (Completed id) h = lit< tt
small_subtype (Refused id cause) h = absurd h
small_subtype (NotStarted id cause) h = absurd h
small_subtype (Step id step) h = absurd h
small_subtype (StepFailed id step cause) h = absurd h
small_subtype (Incomplete id code steps) h = absurd h
small_subtype (NotRouted id cause) h = absurd h

early_tag : (tag : ℕ) → tag < 2 ^ 33 → tag < 256 ^ time_octets made_tailoring
unfolding made_tailoring
early_tag tag early = omega (arith, early)

-- a verification report
pub verification_stands : (tag : ℕ) (v : Verification) → tag < 2 ^ 33 → IsPlain v → IsReport made_tailoring (report_of tag (tell.Verify v))
verification_stands tag v early plain = record {
  headers = record {
    apid = lit< tt;
    count = lit< tt;
    status = lit< tt;
    service = lit< tt;
    subtype = small_subtype v plain;
    counter = lit< tt;
    destination = lit< tt;
    tag = early_tag tag early;
  };
  service = refl;
  subtype = refl;
  body = plain_stands v plain;
}

pub verification_size : (tag : ℕ) (v : Verification) → IsPlain v → length (report_octets made_tailoring (report_of tag (tell.Verify v))) ≤ most_octets
unfolding made_tailoring
verification_size tag (Accepted id) h = lit≤ tt
verification_size tag (Started id) h = lit≤ tt
verification_size tag (Completed id) h = lit≤ tt
verification_size tag (Refused id cause) h = absurd h
verification_size tag (NotStarted id cause) h = absurd h
verification_size tag (Step id step) h = absurd h
verification_size tag (StepFailed id step cause) h = absurd h
verification_size tag (Incomplete id code steps) h = absurd h
verification_size tag (NotRouted id cause) h = absurd h

abbrev interval_by : Bool → ℕ
interval_by b = if b then 2 else 4

either_by : (b : Bool) → (interval_by b ≡ 2) ⊎ (interval_by b ≡ 4)
either_by true = inl refl
either_by false = inr refl

either_interval : (q : ℕ) → (set_interval q ≡ 2) ⊎ (set_interval q ≡ 4)
either_interval q = either_by ((q / 6) % 2 == 0)

-- a request
pub request_stands : (q : ℕ) → q < 6250 → IsRequest made_tailoring (request_of q)
unfolding made_tailoring
request_stands q few =
    let either : (set_interval q ≡ 2) ⊎ (set_interval q ≡ 4) = either_interval q in
    record {
      headers = record {
        apid = lit< tt;
        count = omega (arith, few);
        flags = lit< tt;
        service = lit< tt;
        subtype = lit< tt;
        source = lit< tt;
      };
      service = refl;
      subtype = refl;
      body = (
        (lit≤ tt, lit≤ tt, lit< tt),
        ((refl, tt), (omega arith, tt)),
        (((omega (arith, either), omega (arith, either)), omega (arith, either)), tt),
      );
    }

pub request_size : (q : ℕ) → length (request_octets made_tailoring (request_of q)) ≤ most_octets
unfolding made_tailoring
request_size q = lit≤ tt

-- what holds of a request of the session holds of these parts
pub of_request : (P : TailoringParts → Request → Type 0) (t : TailoringParts) (r : Request) (q : ℕ) → t ≡ made_tailoring → r ≡ request_of q
    → P made_tailoring (request_of q) → P t r
of_request P t r q made is p = subst (λ x. P x r) (sym made) (subst (λ (x : Request). P made_tailoring x) (sym is) p)

-- what was written is the request's packet
pub request_written : (t : TailoringParts) (r : Request) (q : ℕ) (packet : List ℕ) (written : Result (List ℕ) JoinFault) → t ≡ made_tailoring → r ≡ request_of q
    → Writes (request_octets t r) written → written ≡ Ok packet → packet ≡ made_request q
unfolding made_request
request_written t r q packet written made is w e =
    (subst (λ x. Writes (request_octets t r) x) e w).0
    ∙ (ap (λ x. request_octets x r) made ∙ ap (λ (x : Request). request_octets made_tailoring x) is)

-- what names a request has four octets
pub name_fits : (q : ℕ) → IsRequestId (id_of_packet (made_request q))
unfolding made_tailoring made_request
name_fits q = omega arith

-- what names the request of these headers
pub name_is : (q : ℕ) (header : TcHeader) (id : RequestId) → header ≡ (request_of q).header
    → ((t : TailoringParts) (body : List ℕ) → id ≡ id_of_packet (command_octets t header body))
    → id ≡ id_of_packet (made_request q)
unfolding made_request
name_is q header id h named =
    named made_tailoring (request_body_octets made_tailoring (request_of q).body)
    ∙ ap (λ x. id_of_packet (command_octets made_tailoring x (request_body_octets made_tailoring (request_of q).body))) h

-- the packet that holds the payload of a structure in a round is its report
pub entry_is : (seed round s tag : ℕ) (packet payload : List ℕ) → tag ≡ round_tag round + s → payload ≡ made_payload seed s round
    → packet ≡ made_report tag (values_body s payload)
    → Got packet ≡ structure_entry seed round s
entry_is seed round s tag packet payload same e h =
    ap Got
    (h ∙ (ap (λ n. made_report n (values_body s payload)) same ∙ ap (λ p. made_report (round_tag round + s) (values_body s p)) e))
