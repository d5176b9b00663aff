-- What contracts see of a history, and how its calls answer.
use Rattle.std.specs.Prelude.{◌≡◌, ℕ, ◌+◌, ◌-◌, ◌%◌, ◌^◌, ◌<◌, ◌≤◌, List, [], ◌∷◌, ◌++◌, filter, take, drop, length, map, ⊤, Bool, true, false, not, ◌&&◌, ◌||◌, ◌==◌, nat_lt, Option, Some, None, IfSome, Result, Ok, Err, if◌then◌else◌}
use Rattle.std.specs.List.{AllByRecursion}
use Rattle.hk_base.specs.Fields.{number_of}
use Rattle.hk_base.specs.declared.types.RequestId.{RequestId}
use Rattle.hk_base.specs.TailoringParts.{TailoringParts}
use Rattle.pus_packet.specs.declared.header.TcHeader.{TcHeader}
use Rattle.pus_messages.specs.Messages.{protocol}
use Rattle.pus_messages.specs.Instructions.{instructions}
use Rattle.pus_messages.specs.Spelling.{IsRequest, IsReport, HasRoom}
use Rattle.ground_history.specs.Histories.{Sent, Kept, History, greatest, is_own, is_known_begun, sent_short, sent_long, tag_of, newest_tag, history_with_got, history_with_report, number_of_body, stray_id}
use Rattle.hk_base.specs.declared.types.Memory.{Memory}
use Rattle.st03_grammar.specs.declared.bodies.Report03.TheVariants as told
use Rattle.pus_messages.specs.declared.message.Report.{Report}
use Rattle.pus_messages.specs.declared.message.ReportBody.{ReportBody}
use Rattle.pus_messages.specs.declared.message.ReportBody.TheVariants as tell
use Rattle.ground_history.specs.declared.answer.GotKind.{GotKind}
use Rattle.pus_messages.specs.Protocol.{Protocol}
use Rattle.ground_history.specs.declared.answer.SentFault.{SentFault}
use Rattle.ground_history.specs.declared.answer.SentFault.TheVariants as fault

-- a tailoring, and what is known under it
pub record Ground : Type 0 where
  pub tailoring : TailoringParts
  pub history : History

-- a tailoring, and what is known under it: whether the start is, whether the session is a long one, what was sent and what was kept
abbrev pub ground_with : TailoringParts → Bool → Bool → List Sent → List Kept → Ground
ground_with t known long requests kept = record { tailoring = t; history = record { known = known; long = long; requests = requests; kept = kept } }

-- a request that was sent is of the grammar where it is known what it asks, and has at most 255 instructions
abbrev pub IsGrammarSent : TailoringParts → Sent → Type 0
IsGrammarSent t s = IfSome s.request (λ r. IsRequest t r × (length (instructions r) ≤ 255))

-- a report that was kept is of the grammar
abbrev pub IsGrammarKept : TailoringParts → Kept → Type 0
IsGrammarKept t k = IsReport t k.report

-- no request has a floor above that of a later one
abbrev pub HaveRisingFloors : List Sent → Type 0
HaveRisingFloors [] = Unit {0}
HaveRisingFloors (request ∷ requests) = AllByRecursion (λ later. request.floor ≤ later.floor) requests × HaveRisingFloors requests

-- each packet's tag is below those of the packets behind it
abbrev pub HaveRisingTags : List Kept → Type 0
HaveRisingTags [] = Unit {0}
HaveRisingTags (k ∷ ks) = AllByRecursion (λ later. tag_of k < tag_of later) ks × HaveRisingTags ks

-- what is known is of requests and reports of the grammar with payloads that are short enough, in the order of floors and of tags, and no floor is above the tags that were kept
pub record IsGrounded (g : Ground) : Type 0 where
  pub requests : AllByRecursion (IsGrammarSent g.tailoring) g.history.requests
  pub reports : AllByRecursion (IsGrammarKept g.tailoring) g.history.kept
  pub floors : HaveRisingFloors g.history.requests
  pub reached : AllByRecursion (λ request. request.floor ≤ newest_tag g.history) g.history.requests
  pub tags : HaveRisingTags g.history.kept
  pub short : AllByRecursion (λ k. HasRoom k.report.body) g.history.kept

-- what is known is the first, and the tailoring that of the second
abbrev pub with_history : Ground → History → Ground
with_history g h = record g { history = h }

-- want of memory alone is free
abbrev pub IsAnswer : {X : Type 0} → Result X SentFault → Result X SentFault → Type 0
IsAnswer wanted (Ok x) = wanted ≡ Ok x
IsAnswer wanted (Err fault.Memory) = ⊤
IsAnswer wanted (Err given) = wanted ≡ Err given

-- what is known after octets were received and so answered
abbrev pub got_result : Protocol → History → List ℕ → Result GotKind Memory → History
got_result p h packet (Ok kind) = history_with_got h packet (p.reception packet)
got_result p h packet (Err m) = h

-- what is known after a report was read and so answered
abbrev pub report_result : History → List ℕ → Report → Result GotKind Memory → History
report_result h packet r (Ok kind) = history_with_report h packet r kind
report_result h packet r (Err m) = h

-- a report that isn't stray has this number of the request that it verifies
pub record HasNumber (h : History) (r : Report) (number : Option ℕ) : Type 0 where
  pub found : number ≡ number_of_body h r.header.tag r.body
  pub sent : stray_id h r.header.tag r.body ≡ None
  pub near : IfSome number (λ k. k < 2 ^ 63)

-- the count of a request packet with these headers, if it is of the tailoring's process and source
abbrev pub own_count : TailoringParts → Option TcHeader → Result ℕ SentFault
own_count t None = Err fault.BadRequest
own_count t (Some header) = if is_own (protocol t) header then Ok header.count else Err fault.BadRequest

-- whether a packet with this count is a new request
abbrev pub answer_by_count : History → List ℕ → Result ℕ SentFault → Result Bool SentFault
answer_by_count h packet (Err given) = Err given
answer_by_count h packet (Ok count) = if h.long then sent_long h count packet else sent_short h count packet

-- whether there is room for the new request with a number
abbrev pub is_room_for : History → ℕ → Bool
is_room_for h number = if h.long then nat_lt number 8191 || is_known_begun h (number - 8191) else nat_lt number 16384

-- the count in the first four octets of a packet is its number, as far as 14 bits tell it
abbrev pub IsCounted : ℕ → Sent → Type 0
IsCounted number request = number_of (take 4 request.packet) % 16384 ≡ number % 16384

-- a packet has this count in its first four octets
abbrev pub IsCountOf : ℕ → List ℕ → Type 0
IsCountOf count packet = (4 ≤ length packet) × (number_of (take 4 packet) % 16384 ≡ count)

-- each request, from this number on, has its number's count
abbrev pub AreCounted : ℕ → List Sent → Type 0
AreCounted number [] = Unit {0}
AreCounted number (request ∷ requests) = IsCounted number request × AreCounted (number + 1) requests

-- whether a verification report with this request ID and tag can be on a request
abbrev pub is_verified_by : Bool → RequestId → ℕ → Sent → Bool
is_verified_by long id tag request = (number_of (take 4 request.packet) == id.word) && (not long || nat_lt request.floor tag)

-- each packet stands under its tag
abbrev pub IsByTag : List (ℕ × Kept) → Type 0
IsByTag entries = AllByRecursion (λ e. e.0 ≡ tag_of e.1) entries

-- the packets of entries
abbrev pub packets_of : List (ℕ × Kept) → List Kept
packets_of entries = map (λ e. e.1) entries

-- the payload of a parameter report; nothing of another body
abbrev pub payload_of : ReportBody → List ℕ
payload_of (tell.Hk (told.Values key payload)) = payload
payload_of _ = []

-- octets with those of a payload at a place
abbrev pub with_payload : List ℕ → ℕ → List ℕ → List ℕ
with_payload around place payload = take place around ++ (payload ++ drop place around)

-- octets have a payload with so many octets behind it
abbrev pub HasPayload : ℕ → List ℕ → List ℕ → Type 0
HasPayload behind payload octets = (front : List ℕ) × (check : List ℕ) × (octets ≡ front ++ (payload ++ check)) × (length check ≡ behind)

-- whether a body is that of a report of a structure
abbrev pub tells_structure : ReportBody → Bool
tells_structure (tell.Hk (told.Structure key structure)) = true
tells_structure _ = false

-- the greatest tag of a report of a structure, or 0
abbrev pub newest_told : List Kept → ℕ
newest_told ks = greatest (map tag_of (filter (λ k. tells_structure k.report.body) ks))
