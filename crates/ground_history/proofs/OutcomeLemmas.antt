-- Outcomes and room by the indexes, and the count of a request packet.
use Rattle.std.proofs.Common.{arith, ◌≡◌, ℕ, ◌+◌, ◌-◌, refl, sym, ◌∙◌, ap, List, [], ◌∷◌, ◌++◌, length, map, Bool, true, false, nat_lt, Option, Some, None, Result, Ok, Err}
use Rattle.std.proofs.lemmas.Bool.Decides.{nat_tests}
use Rattle.std.specs.Prelude.{◌&&◌, ◌||◌, ◌==◌, not, if◌then◌else◌}
use Rattle.std.specs.List.{list_any}
use Rattle.std.specs.Option.{option_map_or}
use Rattle.std.specs.Result.{result_ok, result_map_both}
use Rattle.hk_base.specs.TailoringParts.{TailoringParts}
use Rattle.pus_packet.specs.declared.header.TcHeader.{TcHeader}
use Rattle.st01_reports.specs.declared.verification.Verification.{Verification}
use Rattle.st01_reports.specs.declared.verification.Verification.TheVariants as v
use Rattle.pus_messages.specs.declared.message.MessageFault.{MessageFault}
use Rattle.pus_messages.specs.declared.message.Request.{Request}
use Rattle.pus_messages.specs.declared.message.ReportBody.{ReportBody}
use Rattle.pus_messages.specs.declared.message.ReportBody.TheVariants.{Verify, Hk, Stat, Par}
use Rattle.pus_messages.specs.Messages.{protocol, request_of, cause_of_fault}
use Rattle.ground_history.specs.Histories.{Kept, Sent, History, tag_of, greatest, is_own, is_known_begun, answer_by_header, sent_long, sent_short, with_sent}
use Rattle.ground_history.specs.Evidence.{passes, has_report, shows_refused, shows_executed, shows_unstarted, is_completion}
use Rattle.ground_history.specs.Indexes.{Says, is_on, is_started, done_steps, refused_steps, shown_at, is_marked}
use Rattle.ground_history.specs.Ground.{Ground, IsAnswer, own_count, answer_by_count, is_room_for, with_history}
use Rattle.ground_history.specs.declared.evidence.Evidence.{Evidence}
use Rattle.ground_history.specs.declared.answer.SentFault.{SentFault}
use Rattle.ground_history.specs.declared.answer.SentFault.TheVariants as fault

or_false : (b : Bool) → b ≡ (b || false)
or_false true = refl
or_false false = refl

refused-by : (number : ℕ) (report : Verification) → shows_refused number report ≡ (shows_unstarted report || list_any (λ s. s == number) (refused_steps report))
refused-by number (v.Accepted id) = refl
refused-by number (v.Refused id cause) = refl
refused-by number (v.Started id) = refl
refused-by number (v.NotStarted id cause) = refl
refused-by number (v.Step id step) = refl
refused-by number (v.StepFailed id step cause) = or_false (step == number)
refused-by number (v.Completed id) = refl
refused-by number (v.Incomplete id code steps) = refl
refused-by number (v.NotRouted id cause) = refl

executed-by : (number : ℕ) (report : Verification) → shows_executed false number report ≡ (is_completion report || list_any (λ s. s == number) (done_steps report))
executed-by number (v.Accepted id) = refl
executed-by number (v.Refused id cause) = refl
executed-by number (v.Started id) = refl
executed-by number (v.NotStarted id cause) = refl
executed-by number (v.Step id step) = or_false (step == number)
executed-by number (v.StepFailed id step cause) = refl
executed-by number (v.Completed id) = refl
executed-by number (v.Incomplete id code steps) = refl
executed-by number (v.NotRouted id cause) = refl

executed-alone : (number : ℕ) (report : Verification) → shows_executed true number report ≡ (shows_executed false number report || is_started report)
executed-alone number (v.Accepted id) = refl
executed-alone number (v.Refused id cause) = refl
executed-alone number (v.Started id) = refl
executed-alone number (v.NotStarted id cause) = refl
executed-alone number (v.Step id step) = or_false (step == number)
executed-alone number (v.StepFailed id step cause) = refl
executed-alone number (v.Completed id) = refl
executed-alone number (v.Incomplete id code steps) = refl
executed-alone number (v.NotRouted id cause) = refl

passes-split : (p q r : Verification → Bool) → ((x : Verification) → p x ≡ (q x || r x)) → (body : ReportBody) → passes p body ≡ (passes q body || passes r body)
passes-split p q r same (Verify report) = same report
passes-split p q r same (Hk report) = refl
passes-split p q r same (Stat report) = refl
passes-split p q r same (Par report) = refl

and-or : (a b c : Bool) → (a && (b || c)) ≡ ((a && b) || (a && c))
and-or true b c = refl
and-or false b c = refl

or-apart : (a b c d : Bool) → ((a || b) || (c || d)) ≡ ((a || c) || (b || d))
or-apart true b c d = refl
or-apart false true true d = refl
or-apart false true false d = refl
or-apart false false true d = refl
or-apart false false false d = refl

-- where a test is one of two, some packet passes it where some packet passes one of the two
any-split : (p q r : Verification → Bool) → ((x : Verification) → p x ≡ (q x || r x)) → (k : ℕ) (kept : List Kept)
    → list_any (is_on p k) kept ≡ (list_any (is_on q k) kept || list_any (is_on r k) kept)
any-split p q r same k [] = refl
any-split p q r same k (x ∷ kept) =
    let on : Bool = option_map_or (λ j. j == k) x.number false in
    let one : is_on p k x ≡ (is_on q k x || is_on r k x) = ap (λ b. on && b) (passes-split p q r same x.report.body) ∙ and-or on (passes q x.report.body) (passes r x.report.body) in
    ap (λ b. b || list_any (is_on p k) kept) one
    ∙ (ap (λ b. (is_on q k x || is_on r k x) || b) (any-split p q r same k kept)
    ∙ or-apart (is_on q k x) (is_on r k x) (list_any (is_on q k) kept) (list_any (is_on r k) kept))

pub refused-is : (e : Evidence) (h : History) (k number : ℕ) → Says e h.kept → ((shown_at e.shown k).unstarted || is_marked e.refused k number) ≡ has_report (shows_refused number) h k
refused-is e h k number says =
    ap (λ s. s.unstarted || is_marked e.refused k number) (says.shown k)
    ∙ (ap (λ b. list_any (is_on shows_unstarted k) h.kept || b) (says.refused k number)
    ∙ sym (any-split (shows_refused number) shows_unstarted (λ r. list_any (λ s. s == number) (refused_steps r)) (refused-by number) k h.kept))

executed-plain : (e : Evidence) (h : History) (k number : ℕ) → Says e h.kept → ((shown_at e.shown k).completed || is_marked e.done k number) ≡ has_report (shows_executed false number) h k
executed-plain e h k number says =
    ap (λ s. s.completed || is_marked e.done k number) (says.shown k)
    ∙ (ap (λ b. list_any (is_on is_completion k) h.kept || b) (says.done k number)
    ∙ sym (any-split (shows_executed false number) is_completion (λ r. list_any (λ s. s == number) (done_steps r)) (executed-by number) k h.kept))

pub executed-is : (e : Evidence) (h : History) (k number : ℕ) (alone : Bool) → Says e h.kept
    → (((shown_at e.shown k).completed || is_marked e.done k number) || (alone && (shown_at e.shown k).started)) ≡ has_report (shows_executed alone number) h k
executed-is e h k number true says =
    ap (λ b. b || (shown_at e.shown k).started) (executed-plain e h k number says)
    ∙ (ap (λ s. has_report (shows_executed false number) h k || s.started) (says.shown k)
    ∙ sym (any-split (shows_executed true number) (shows_executed false number) is_started (executed-alone number) k h.kept))
executed-is e h k number false says = sym (or_false _) ∙ executed-plain e h k number says

-- ---- room

room-long : (n j begun : ℕ) → (nat_lt (n + j) 8191 || nat_lt (n + j - 8191) begun) ≡ nat_lt j (8191 + begun - n)
room-long n j begun = grind (arith, nat_tests)

room-short : (n j : ℕ) → nat_lt (n + j) 16384 ≡ nat_lt j (16384 - n)
room-short n j = grind (arith, nat_tests)

pub room-is : (e : Evidence) (h : History) → Says e h.kept → (j : ℕ) → is_room_for h (length h.requests + j) ≡ nat_lt j (if h.long then 8191 + e.begun - length h.requests else 16384 - length h.requests)
room-is e h says j = go h.long
  where
    go : (b : Bool) → (if b then nat_lt (length h.requests + j) 8191 || is_known_begun h (length h.requests + j - 8191) else nat_lt (length h.requests + j) 16384)
        ≡ nat_lt j (if b then 8191 + e.begun - length h.requests else 16384 - length h.requests)
    go true = ap (λ b. nat_lt (length h.requests + j) 8191 || b) (sym (says.begun (length h.requests + j - 8191))) ∙ room-long (length h.requests) j e.begun
    go false = room-short (length h.requests) j

-- ---- answers

pub answer-is : (t : TailoringParts) (h : History) (packet : List ℕ) (header : Option TcHeader) → answer_by_header (protocol t) h packet header ≡ answer_by_count h packet (own_count t header)
answer-is t h packet None = refl
answer-is t h packet (Some header) = go (is_own (protocol t) header)
  where
    go : (b : Bool)
        → (if not b then Err fault.BadRequest else (if h.long then sent_long h header.count packet else sent_short h header.count packet))
        ≡ answer_by_count h packet (if b then Ok header.count else Err fault.BadRequest)
    go true = refl
    go false = refl

pub is-answer : (wanted result : Result Bool SentFault) → wanted ≡ result → IsAnswer wanted result
is-answer wanted (Ok b) e = e
is-answer wanted (Err fault.BadRequest) e = e
is-answer wanted (Err (fault.WrongCount a b)) e = e
is-answer wanted (Err (fault.Reused a)) e = e
is-answer wanted (Err fault.SessionFull) e = e
is-answer wanted (Err (fault.WindowFull k)) e = e
is-answer wanted (Err fault.Memory) e = tt

-- what a request packet asks
asked-is : (x : Result Request MessageFault) → result_ok x ≡ result_ok (result_map_both (λ r. r) cause_of_fault x)
asked-is (Ok r) = refl
asked-is (Err fault) = refl

pub appended : (g : Ground) (requests : List Sent) (packet bytes : List ℕ) (request : Option Request) (floor : ℕ)
    → requests ≡ g.history.requests ++ record { packet = packet; request = request; floor = floor } ∷ [] → packet ≡ bytes → request ≡ result_ok (request_of g.tailoring bytes)
    → floor ≡ greatest (map tag_of g.history.kept) → with_history g (record g.history { requests = requests }) ≡ with_history g (with_sent (protocol g.tailoring) g.history bytes)
appended g requests packet bytes request floor e p r f =
    let asks : request ≡ result_ok ((protocol g.tailoring).request bytes) = r ∙ asked-is (request_of g.tailoring bytes) in
    ap (λ rs. with_history g (record g.history { requests = rs })) e
    ∙ (ap (λ x. with_history g (record g.history { requests = g.history.requests ++ record { packet = x; request = request; floor = floor } ∷ [] })) p
    ∙ (ap (λ x. with_history g (record g.history { requests = g.history.requests ++ record { packet = bytes; request = x; floor = floor } ∷ [] })) asks
    ∙ ap (λ x. with_history g (record g.history { requests = g.history.requests ++ record { packet = bytes; request = result_ok ((protocol g.tailoring).request bytes); floor = x } ∷ [] })) f))
