-- A message that was read is of the grammar.
use Rattle.std.proofs.Common.{◌≡◌, ap, ℕ, ◌≤◌, List, [], ◌∷◌, length, arith, Result, Ok, Err}
use Rattle.std.specs.Prelude.{IfOk}
use Rattle.std.specs.Result.{result_map_both}
use Rattle.std.proofs.lemmas.List.{length-map}
use Rattle.hk_base.specs.TailoringParts.{TailoringParts}
use Rattle.body_fields.specs.Spelling.{AreOctets}
use Rattle.hk_base.specs.declared.types.Key.{Key}
use Rattle.st03_grammar.specs.Instructions.{StructureChange, plain, set_interval, key_of, structure_changes}
use Rattle.st03_grammar.specs.declared.bodies.Pair.{Pair}
use Rattle.st03_grammar.specs.Spelling.{IsRequest03}
use Rattle.st03_grammar.specs.declared.bodies.Request03.{Request03}
use Rattle.st03_grammar.specs.declared.bodies.Request03.TheVariants.{Create, Append, OnEach, Intervals}
use Rattle.st04_grammar.specs.Instructions.{add, delete, statistics_changes}
use Rattle.st04_grammar.specs.Spelling as st04
use Rattle.st04_grammar.specs.declared.bodies.Request04.{Request04}
use Rattle.st04_grammar.specs.declared.bodies.Request04.TheVariants as ask04
use Rattle.pus_messages.specs.Instructions.{Instruction, on_structure, on_statistics, instructions, body_instructions}
use Rattle.pus_messages.specs.Messages.{protocol, request_of, report_of, cause_of_fault}
use Rattle.pus_messages.specs.Names.{NamesApart, NoneTwice}
use Rattle.pus_messages.specs.Outcomes.{Gives}
use Rattle.pus_messages.specs.Spelling.{IsRequestBody, IsRequestPacket, IsReportPacket}
use Rattle.pus_messages.specs.declared.message.Request.{Request}
use Rattle.pus_messages.specs.declared.message.RequestBody.{RequestBody}
use Rattle.pus_messages.specs.declared.message.RequestBody.TheVariants as ask
use Rattle.pus_messages.specs.declared.message.Report.{Report}
use Rattle.pus_messages.specs.declared.message.MessageFault.{MessageFault}

-- what is read from octets alone
abbrev pub RequestsOnlySo : TailoringParts → Type 0
RequestsOnlySo t = (r : Request) (octets : List ℕ) → AreOctets octets → request_of t octets ≡ Ok r → IsRequestPacket t r octets

abbrev pub ReportsOnlySo : TailoringParts → Type 0
ReportsOnlySo t = (r : Report) (octets : List ℕ) → AreOctets octets → report_of t octets ≡ Ok r → IsReportPacket t r octets

pub request-found : (t : TailoringParts) (octets : List ℕ) (result : Result Request MessageFault) → AreOctets octets → RequestsOnlySo t → Gives (λ r. r) result (request_of t octets)
    → IfOk result (λ r. IsRequestPacket t r octets)
request-found t octets (Ok r) are only given = only r octets are given
request-found t octets (Err fault) are only given = tt

pub report-found : (t : TailoringParts) (octets : List ℕ) (result : Result Report MessageFault) → AreOctets octets → ReportsOnlySo t → Gives (λ r. r) result (report_of t octets)
    → IfOk result (λ r. IsReportPacket t r octets)
report-found t octets (Ok r) are only given = only r octets are given
report-found t octets (Err fault) are only given = tt

few_structures : (t : TailoringParts) (r : Request03) → IsRequest03 t r → length (structure_changes r) ≤ 255
few_structures t (Create key d) is = omega arith
few_structures t (Append key a) is = omega arith
few_structures t (OnEach each kind ids) is =
    let change : ℕ → Key × StructureChange = λ id. (key_of kind id, plain each) in
    omega (arith, is.0.1, length-map ids change)
few_structures t (Intervals kind pairs) is =
    let change : Pair → Key × StructureChange = λ p. (key_of kind p.id, set_interval p.interval) in
    omega (arith, is.0.1, length-map pairs change)

few_statistics : (t : TailoringParts) (r : Request04) → st04.IsRequest t r → length (statistics_changes r) ≤ 255
few_statistics t (ask04.Report resets) is = omega arith
few_statistics t ask04.Reset is = omega arith
few_statistics t (ask04.Enable n) is = omega arith
few_statistics t ask04.Disable is = omega arith
few_statistics t (ask04.Add ids) is = omega (arith, is.count.1, length-map ids add)
few_statistics t (ask04.Delete []) is = omega arith
few_statistics t (ask04.Delete (id ∷ ids)) is = omega (arith, is.count.1, length-map ids delete)
few_statistics t ask04.ShowDefinitions is = omega arith

-- a request of the grammar has at most 255 instructions
few_instructions : (t : TailoringParts) (b : RequestBody) → IsRequestBody t b → length (body_instructions b) ≤ 255
few_instructions t (ask.Hk r) is =
    let on : Key × StructureChange → Instruction = λ c. on_structure c.0 c.1 in
    omega (arith, few_structures t r is, length-map (structure_changes r) on)
few_instructions t (ask.Stat r) is = omega (arith, few_statistics t r is, length-map (statistics_changes r) on_statistics)
few_instructions t (ask.Par r) is = omega arith

pub request-few : (t : TailoringParts) (octets : List ℕ) (result : Result Request MessageFault) → AreOctets octets → RequestsOnlySo t → Gives (λ r. r) result (request_of t octets)
    → IfOk result (λ r. length (instructions r) ≤ 255)
request-few t octets (Ok r) are only given = few_instructions t r.body (only r octets are given).message.body
request-few t octets (Err fault) are only given = tt

pub request-apart : (t : TailoringParts) (octets : List ℕ) (result : Result Request MessageFault) → NoneTwice (protocol t) → Gives (λ r. r) result (request_of t octets)
    → IfOk result (λ r. NamesApart r.body)
request-apart t octets (Ok r) names given = names octets r (ap (λ (x : Result Request MessageFault). result_map_both (λ q. q) cause_of_fault x) given)
request-apart t octets (Err fault) names given = tt
