-- What the ground knows after a list of entries, the newest first.
use Rattle.std.specs.Prelude.{ℕ, suc, ◌+◌, ◌-◌, ◌%◌, List, [], ◌∷◌, ◌++◌, length, map, max, slice_get, Bool, true, false, not, ◌&&◌, ◌||◌, ◌==◌, nat_lt, nat_le, Option, Some, None, Result, Ok, Err, find, bytes_eq, IsOk, ⊤, if◌then◌else◌}
use Rattle.std.specs.List.{list_any}
use Rattle.std.specs.Option.{option_or, option_map_or}
use Rattle.std.specs.Result.{result_ok}
use Rattle.hk_base.specs.declared.types.RequestId.{RequestId}
use Rattle.pus_packet.specs.declared.header.TcHeader.{TcHeader}
use Rattle.st01_reports.specs.declared.verification.Verification.TheVariants.{Started, NotStarted, Step, StepFailed, Completed, Incomplete}
use Rattle.pus_messages.specs.Instructions.{subject}
use Rattle.pus_messages.specs.Protocol.{Protocol, Reception, foreign, skipped, unread, readable}
use Rattle.pus_messages.specs.declared.message.Request.{Request}
use Rattle.pus_messages.specs.declared.message.Report.{Report}
use Rattle.pus_messages.specs.declared.message.ReportBody.{ReportBody}
use Rattle.pus_messages.specs.declared.message.ReportBody.TheVariants.{Verify}
use Rattle.hk_world.specs.Honest.{id_of_packet}
use Rattle.hk_world.specs.Timelines.{EachAfter}
use Rattle.hk_world.specs.Worlds.{Entry, sent, got}
use Rattle.ground_history.specs.declared.answer.SentFault.{SentFault}
use Rattle.ground_history.specs.declared.answer.SentFault.TheVariants.{BadRequest, WrongCount, Reused, SessionFull, WindowFull}
use Rattle.ground_history.specs.declared.answer.GotKind.{GotKind}
use Rattle.ground_history.specs.declared.answer.GotKind.TheVariants as became

-- a request that was sent: its packet, what it asks if that is known, and the greatest tag that was kept before
pub record Sent : Type 0 where
  pub packet : List ℕ
  pub request : Option Request
  pub floor : ℕ

-- a packet that was kept: a report, and the number of the request that it verifies, if it is a verification report
pub record Kept : Type 0 where
  pub packet : List ℕ
  pub report : Report
  pub number : Option ℕ

-- what the ground knows: requests by number, and kept packets in the order of tags
pub record History : Type 0 where
  pub known : Bool
  pub long : Bool
  pub requests : List Sent
  pub kept : List Kept

-- the tag of a kept packet
abbrev pub tag_of : Kept → ℕ
tag_of k = k.report.header.tag

-- the greatest number, or 0
abbrev pub greatest : List ℕ → ℕ
greatest [] = 0
greatest (n ∷ ns) = max n (greatest ns)

-- the greatest tag that was kept
abbrev pub newest_tag : History → ℕ
newest_tag h = greatest (map tag_of h.kept)

-- the greatest number of a member that passes, counted from this one
abbrev pub last_number : {X : Type 0} → (X → Bool) → ℕ → List X → Option ℕ
last_number test n [] = None
last_number test n (x ∷ xs) = option_or (last_number test (suc n) xs) (if test x then Some n else None)

-- the request that a verification report with a tag is on: the last one with this ID, in a long session the last one that was sent when no such tag had been kept
abbrev pub verified_number : History → RequestId → ℕ → Option ℕ
verified_number h id tag =
    last_number (λ r. ((id_of_packet r.packet).word == id.word) && (not h.long || nat_lt r.floor tag)) 0 h.requests

-- whether a kept report shows that its request was begun
abbrev pub is_begun_report : ReportBody → Bool
is_begun_report (Verify (Started id)) = true
is_begun_report (Verify (NotStarted id cause)) = true
is_begun_report (Verify (Step id step)) = true
is_begun_report (Verify (StepFailed id step cause)) = true
is_begun_report (Verify (Completed id)) = true
is_begun_report (Verify (Incomplete id code steps)) = true
is_begun_report _ = false

-- whether request k or a later one is known to have begun
abbrev pub is_known_begun : History → ℕ → Bool
is_known_begun h k = list_any (λ r. is_begun_report r.report.body && option_map_or (λ j. nat_le k j) r.number false) h.kept

-- whether a request that was sent has this packet
abbrev pub is_packet_of : List ℕ → Option Sent → Bool
is_packet_of packet request = option_map_or (λ r. bytes_eq r.packet packet) request false

-- what becomes of a packet with this count that is sent in a short session: whether it is a new request, or a fault
abbrev pub sent_short : History → ℕ → List ℕ → Result Bool SentFault
sent_short h count packet =
    let n = length h.requests in
    if is_packet_of packet (slice_get h.requests count) then Ok false
    else if nat_le 16384 n then Err SessionFull
    else if nat_lt count n then Err (Reused count)
    else if nat_lt n count then Err (WrongCount n count)
    else Ok true

-- the same in a long session: behind is how many requests ago the count was new, modulo 16,384
abbrev pub sent_long : History → ℕ → List ℕ → Result Bool SentFault
sent_long h count packet =
    let n = length h.requests in
    let behind = (n + 16384 - count) % 16384 in
    if behind == 0
    then (if nat_le 8191 n && not (is_known_begun h (n - 8191)) then Err (WindowFull (n - 8191)) else Ok true)
    else if nat_le behind 8192 && nat_le behind n
    then (if is_packet_of packet (slice_get h.requests (n - behind)) then Ok false else Err (Reused count))
    else Err (WrongCount (n % 16384) count)

-- whether headers have the process and the source of the tailoring
abbrev pub is_own : Protocol → TcHeader → Bool
is_own p header = (header.apid == p.tailoring.widths.apid) && (header.source == p.tailoring.widths.ground)

-- whether a packet with these headers, if it is a request packet, is a new request, or why it can't be sent
abbrev pub answer_by_header : Protocol → History → List ℕ → Option TcHeader → Result Bool SentFault
answer_by_header p h packet None = Err BadRequest
answer_by_header p h packet (Some header) =
    if not (is_own p header) then Err BadRequest
    else if h.long then sent_long h header.count packet
    else sent_short h header.count packet

-- whether a packet that is sent is a new request, or why it can't be sent
abbrev pub sent_answer : Protocol → History → List ℕ → Result Bool SentFault
sent_answer p h packet = answer_by_header p h packet (p.command packet)

-- a history with one more request
abbrev pub with_sent : Protocol → History → List ℕ → History
with_sent p h packet =
    record h {
      requests = h.requests ++ record { packet = packet; request = result_ok (p.request packet); floor = newest_tag h } ∷ [];
    }

-- kept packets with one more, in the order of tags
abbrev pub insert_kept : Kept → List Kept → List Kept
insert_kept k [] = k ∷ []
insert_kept k (j ∷ js) = if nat_lt (tag_of k) (tag_of j) then k ∷ j ∷ js else j ∷ insert_kept k js

-- the packet that was kept with a tag
abbrev pub kept_at : History → ℕ → Option Kept
kept_at h tag = find (λ k. tag_of k == tag) h.kept

-- a report becomes evidence where no packet with its tag was kept
abbrev pub kind_by_tag : ℕ → List ℕ → Option Kept → GotKind
kind_by_tag tag packet None = became.Kept tag
kind_by_tag tag packet (Some k) = if bytes_eq k.packet packet then became.Repeat tag else became.Conflict tag

-- the number of the request that a report with a tag is on, if it is a verification report
abbrev pub number_of_body : History → ℕ → ReportBody → Option ℕ
number_of_body h tag (Verify v) = verified_number h (subject v) tag
number_of_body h tag _ = None

-- the request ID of a verification report that is on no request that was sent, as one number
abbrev pub stray_id : History → ℕ → ReportBody → Option ℕ
stray_id h tag (Verify v) = option_map_or (λ k. None) (verified_number h (subject v) tag) (Some (subject v).word)
stray_id h tag _ = None

-- what becomes of a packet that is received
abbrev pub kind_by_reception : History → List ℕ → Reception → GotKind
kind_by_reception h packet (foreign apid) = became.Foreign apid
kind_by_reception h packet unread = became.Unread
kind_by_reception h packet (skipped service subtype) = became.Skipped service subtype
kind_by_reception h packet (readable r) =
    option_map_or became.Stray (stray_id h r.header.tag r.body) (kind_by_tag r.header.tag packet (kept_at h r.header.tag))

-- what becomes of octets that are received
abbrev pub got_kind : Protocol → History → List ℕ → GotKind
got_kind p h packet = kind_by_reception h packet (p.reception packet)

-- a history with one more kept packet
abbrev pub with_kept : History → List ℕ → Report → History
with_kept h packet r =
    record h { kept = insert_kept (record { packet = packet; report = r; number = number_of_body h r.header.tag r.body }) h.kept }

-- what is known after one more entry: a new request, or a packet that is kept
abbrev pub history_with_sent : Protocol → History → List ℕ → Result Bool SentFault → History
history_with_sent p h packet (Ok true) = with_sent p h packet
history_with_sent p h packet _ = h

-- what is known after a report, by what becomes of it
abbrev pub history_with_report : History → List ℕ → Report → GotKind → History
history_with_report h packet r (became.Kept tag) = with_kept h packet r
history_with_report h packet r _ = h

-- what is known after octets are received
abbrev pub history_with_got : History → List ℕ → Reception → History
history_with_got h packet (readable r) = history_with_report h packet r (kind_by_reception h packet (readable r))
history_with_got h packet _ = h

-- what is known after one more entry
abbrev pub history_with : Protocol → History → Entry → History
history_with p h (sent packet) = history_with_sent p h packet (sent_answer p h packet)
history_with p h (got packet) = history_with_got h packet (p.reception packet)

-- what is known before any entry
abbrev pub new_history : Bool → Bool → History
new_history known long = record { known = known; long = long; requests = []; kept = [] }

-- what is known after some entries
abbrev pub history_of : Protocol → Bool → Bool → List Entry → History
history_of p known long [] = new_history known long
history_of p known long (entry ∷ earlier) = history_with p (history_of p known long earlier) entry

-- an entry that has no fault after what is known
abbrev pub IsTaken : Protocol → History → Entry → Type 0
IsTaken p h (sent packet) = IsOk (sent_answer p h packet)
IsTaken p h (got packet) = ⊤

-- no entry has a fault
abbrev pub AreTaken : Protocol → Bool → Bool → List Entry → Type 0
AreTaken p known long entries = EachAfter (λ earlier entry. IsTaken p (history_of p known long earlier) entry) entries
