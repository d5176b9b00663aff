-- A session that is made from two numbers, a seed and how many rounds.
use Rattle.std.specs.Prelude.{ℕ, zero, suc, ◌+◌, ◌-◌, ◌*◌, ◌/◌, ◌%◌, List, [], ◌∷◌, ◌++◌, map, flat_map, Bool, true, not, ◌&&◌, ◌||◌, ◌==◌, nat_le, if◌then◌else◌}
use Rattle.hk_base.specs.TailoringParts.{TailoringParts}
use Rattle.hk_base.specs.Builtin.{sensed, boot, builtin_widths}
use Rattle.hk_base.specs.Fields.{octets_of}
use Rattle.hk_base.specs.Payload.{places}
use Rattle.hk_base.specs.declared.types.Form.TheVariants.{Unsigned}
use Rattle.hk_base.specs.declared.types.Kind.TheVariants.{Housekeeping}
use Rattle.hk_base.specs.declared.types.RequestId.{RequestId}
use Rattle.hk_base.specs.declared.types.Place.{Place}
use Rattle.hk_base.specs.declared.types.SuperList.{SuperList}
use Rattle.hk_base.specs.declared.types.Definition.{Definition}
use Rattle.hk_base.specs.declared.types.Boot.{Boot}
use Rattle.pus_packet.specs.Joining.{id_of_packet}
use Rattle.st01_reports.specs.declared.verification.Verification.{Verification}
use Rattle.st01_reports.specs.declared.verification.Verification.TheVariants as verify
use Rattle.st03_grammar.specs.Instructions.{key_of}
use Rattle.st03_grammar.specs.declared.bodies.Request03.TheVariants.{Intervals}
use Rattle.st03_grammar.specs.declared.bodies.Report03.TheVariants.{Values}
use Rattle.pus_messages.specs.Spelling.{request_octets, report_octets, report_type}
use Rattle.pus_messages.specs.declared.message.Request.{Request}
use Rattle.pus_messages.specs.declared.message.RequestBody.TheVariants as ask
use Rattle.pus_messages.specs.declared.message.Report.{Report}
use Rattle.pus_messages.specs.declared.message.ReportBody.{ReportBody}
use Rattle.pus_messages.specs.declared.message.ReportBody.TheVariants as tell
use Rattle.session_record.specs.declared.entry.Entry.{Entry}
use Rattle.session_record.specs.declared.entry.Entry.TheVariants.{Sent, Got}

-- so many numbers, from this one
abbrev pub numbers_from : ℕ → ℕ → List ℕ
numbers_from first zero = []
numbers_from first (suc count) = first ∷ numbers_from (suc first) count

-- the arrays of a structure: the first four have one
abbrev pub made_arrays : ℕ → List SuperList
made_arrays s = if nat_le s 4 then record { repetition = 2; params = (36 + s) ∷ [] } ∷ [] else []

-- the simple parameters of a structure
abbrev pub made_simple : ℕ → List ℕ
made_simple s = numbers_from (6 * (s - 1) + 1) 6

-- a structure of the session
abbrev pub made_boot : ℕ → Boot
made_boot s = boot Housekeeping s 4 true (made_simple s) (made_arrays s)

-- the tailoring of the session
unfoldable pub made_tailoring : TailoringParts
made_tailoring =
    record {
      widths = builtin_widths;
      params = map (λ id. sensed id Unsigned 2) (numbers_from 1 40);
      boots = map made_boot (numbers_from 1 6);
    }

-- the sample of a parameter at a slot
abbrev pub made_sample : ℕ → ℕ → ℕ → ℕ
made_sample seed param slot = (seed + 31 * param + 7 * slot) % 65536

-- the tag from which a round counts
abbrev pub round_tag : ℕ → ℕ
round_tag round = (4 * round + 4) * 4096

-- the structure and the interval of a request
abbrev pub changed_structure : ℕ → ℕ
changed_structure q = 1 + q % 6

-- the interval that it sets
abbrev pub set_interval : ℕ → ℕ
set_interval q = if (q / 6) % 2 == 0 then 2 else 4

-- whether a request is lost on the way up
abbrev pub is_lost : ℕ → Bool
is_lost q = q % 10 == 9

-- the interval of a structure after so many requests
abbrev pub interval_after : ℕ → ℕ → ℕ
interval_after s zero = 4
interval_after s (suc q) = if (changed_structure q == s) && not (is_lost q) then set_interval q else interval_after s q

-- the definition of a structure in a round: the requests of earlier rounds were executed
abbrev pub made_definition : ℕ → ℕ → Definition
made_definition s round = record (made_boot s).structure.def { interval = interval_after s ((round + 15) / 16) }

-- a report with a tag
abbrev pub report_of : ℕ → ReportBody → Report
report_of tag body =
    record {
      header =
          record {
            apid = 100;
            count = 0;
            status = 0;
            service = (report_type body).0;
            subtype = (report_type body).1;
            counter = 0;
            destination = 1;
            tag = tag;
          };
      body = body;
    }

-- the packet of a report with a tag
unfoldable pub made_report : ℕ → ReportBody → List ℕ
made_report tag body = report_octets made_tailoring (report_of tag body)

-- the octets of the sample that is taken at a place
abbrev pub sample_octets : ℕ → Place → List ℕ
sample_octets seed p = octets_of 2 (made_sample seed p.param p.slot)

-- the payload of a structure's report in a round
unfoldable pub made_payload : ℕ → ℕ → ℕ → List ℕ
made_payload seed s round = flat_map (sample_octets seed) (places (made_definition s round) (4 * round + 3))

-- the report of a structure with this payload
abbrev pub values_body : ℕ → List ℕ → ReportBody
values_body s payload = tell.Hk (Values (key_of Housekeeping s) payload)

-- the report of a structure in a round
abbrev pub structure_entry : ℕ → ℕ → ℕ → Entry
structure_entry seed round s = Got (made_report (round_tag round + s) (values_body s (made_payload seed s round)))

-- a request
abbrev pub request_of : ℕ → Request
request_of q =
    record {
      header = record { apid = 100; count = q; flags = 15; service = 3; subtype = 31; source = 1 };
      body = ask.Hk (Intervals Housekeeping (record { id = changed_structure q; interval = set_interval q } ∷ []));
    }

-- the packet of a request
unfoldable pub made_request : ℕ → List ℕ
made_request q = request_octets made_tailoring (request_of q)

-- a verification report of a request so many ticks into its round
abbrev pub verified : ℕ → ℕ → (RequestId → Verification) → Entry
verified q ticks make = Got (made_report (round_tag (16 * q) + ticks) (tell.Verify (make (id_of_packet (made_request q)))))

-- what is received of a request's verification
abbrev pub verified_entries : ℕ → List Entry
verified_entries q =
    if is_lost q || q % 10 == 4 then []
    else verified q 7 verify.Accepted
    ∷ verified q 8 verify.Started
    ∷ (if q % 10 == 6 then [] else verified q 10 verify.Completed ∷ [])

-- the request of a round, if it has one, and what is received of it
abbrev pub request_entries : ℕ → List Entry
request_entries round = if round % 16 == 0 then Sent (made_request (round / 16)) ∷ verified_entries (round / 16) else []

-- the reports of a structure that are received in their round
abbrev pub delivered : ℕ → ℕ → ℕ → List Entry
delivered seed round s =
    let e = structure_entry seed round s in
    if (s == 2) && (round % 16 == 8) then []
    else if (s == 3) && (round % 40 == 20) then e ∷ e ∷ []
    else e ∷ []

-- the reports of a round that are received in it
abbrev pub round_reports : ℕ → ℕ → List Entry
round_reports seed round = if round % 20 == 10 then [] else flat_map (delivered seed round) (numbers_from 1 6)

-- a report of the round before that is received late
abbrev pub late_entries : ℕ → ℕ → List Entry
late_entries seed zero = []
late_entries seed (suc round) = if round % 16 == 8 then structure_entry seed round 2 ∷ [] else []

-- the entries that come in a round
abbrev pub round_entries : ℕ → ℕ → List Entry
round_entries seed round = round_reports seed round ++ (late_entries seed round ++ request_entries round)

-- the entries of so many rounds
abbrev pub rounds : ℕ → ℕ → List Entry
rounds seed zero = []
rounds seed (suc round) = rounds seed round ++ round_entries seed round

-- the entries of the session
abbrev pub generated : ℕ → ℕ → List Entry
generated seed count = rounds seed count ++ late_entries seed count
