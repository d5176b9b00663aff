-- What a script sends are requests: each is one that was sent before, or the next.
use Rattle.std.proofs.Common.{arith, ◌≡◌, ℕ, zero, suc, ◌+◌, ◌<◌, ◌≤◌, max, refl, sym, ap, ap₂, subst, ◌∙◌, List, [], ◌∷◌, ◌++◌, length, map, length-append, Bool, true, false, Option, Some, None, Result, Ok, Err, ◌⊎◌, inl, inr, append_assoc, append-nil}
use Rattle.std.specs.Prelude.{⊤, is_ok, nat_lt, nat_le, not, slice_get, ◌&&◌, ◌==◌, if◌then◌else◌}
use Rattle.std.specs.Option.{option_map_or}
use Rattle.std.specs.Result.{result_ok}
use Rattle.std.proofs.lemmas.List.{map-append, length-map}
use Rattle.std.proofs.lemmas.Bool.{eqb-true}
use Rattle.std.proofs.lemmas.Bool.Decides.{nat_tests}
use Rattle.std.proofs.lemmas.Option.{none-some}
use Rattle.std.proofs.lemmas.Slice.Eq.{bytes_eq-Decides}
use Rattle.hk_base.specs.TailoringParts.{TailoringParts}
use Rattle.pus_packet.specs.declared.header.TcHeader.{TcHeader}
use Rattle.pus_messages.specs.Messages.{protocol}
use Rattle.pus_messages.specs.Protocol.{Protocol}
use Rattle.hk_world.specs.States.{boot_state}
use Rattle.hk_world.specs.Timelines.{EachAfter, Session}
use Rattle.hk_world.specs.Worlds.{Step, send, sent, MayStep, MaySend, IsRequest, sent_count, moments_of}
use Rattle.hk_world.proofs.OrderLemmas.{true_is_not_false}
use Rattle.ground_history.specs.Histories.{Sent, History, newest_tag, is_own, is_packet_of, sent_short, sent_long, answer_by_header, sent_answer, with_sent, history_with_sent, history_with}
use Rattle.ground_history.specs.declared.answer.SentFault.{SentFault}
use Rattle.ground_history.specs.declared.answer.SentFault.TheVariants.{BadRequest, WrongCount, Reused, SessionFull}
use Rattle.board_scripts.specs.Scripts.{history_behind, may_follow, latest_slot}
use Rattle.board_scripts.specs.Spelling.{AreSent}
use Rattle.board_scripts.specs.declared.script.Sending.{Sending}
use Rattle.board_runs.specs.Requests.{number_in, requests_behind, session_with}
use Rattle.board_runs.proofs.ListLemmas.{onto, slice_get-front, slice_get-last, slice_get-map, slice_get-within, le-cases}

-- the packets of the requests that are known
abbrev pub packets_of : History → List (List ℕ)
packets_of h = map (λ r. r.packet) h.requests

-- A packet may be sent after what is known: it is that of a request, one that was sent before or the next one.
pub record IsNumbered (t : TailoringParts) (h : History) (packet : List ℕ) (after : History) : Type 0 where
  pub header : TcHeader
  pub command : (protocol t).command packet ≡ Some header
  pub apid : header.apid ≡ t.widths.apid
  pub source : header.source ≡ t.widths.ground
  pub near : header.count ≤ length (packets_of h)
  pub listed : slice_get (packets_of after) header.count ≡ Some packet
  pub more : List (List ℕ)
  pub fresh : (more ≡ []) ⊎ (more ≡ packet ∷ [])
  pub grown : packets_of after ≡ packets_of h ++ more
  pub next : length (packets_of after) ≡ max (length (packets_of h)) (suc header.count)

pub left-true : (a b : Bool) → (a && b) ≡ true → a ≡ true
left-true true b e = refl
left-true false b e = absurd (true_is_not_false (sym e))

right-true : (a b : Bool) → (a && b) ≡ true → b ≡ true
right-true true b e = e
right-true false b e = absurd (true_is_not_false (sym e))

-- what is answered in a short session, by the tests
abbrev pub answer_by : Bool → Bool → Bool → Bool → ℕ → ℕ → Result Bool SentFault
answer_by again full below above n k =
    if again then Ok false else if full then Err SessionFull else if below then Err (Reused k) else if above then Err (WrongCount n k) else Ok true

by-tests : (again full below above : Bool) (n k : ℕ) → nat_lt k n ≡ below → nat_lt n k ≡ above → is_ok (answer_by again full below above n k) ≡ true
    → ((answer_by again full below above n k ≡ Ok false) × (again ≡ true)) ⊎ ((answer_by again full below above n k ≡ Ok true) × (k ≡ n))
by-tests true full below above n k b a ok = inl (refl, refl)
by-tests false true below above n k b a ok = absurd (true_is_not_false (sym ok))
by-tests false false true above n k b a ok = absurd (true_is_not_false (sym ok))
by-tests false false false true n k b a ok = absurd (true_is_not_false (sym ok))
by-tests false false false false n k b a ok = inr (refl, grind (arith, nat_tests))

short-sent : (h : History) (k : ℕ) (packet : List ℕ) → is_ok (sent_short h k packet) ≡ true
    → ((sent_short h k packet ≡ Ok false) × (is_packet_of packet (slice_get h.requests k) ≡ true)) ⊎ ((sent_short h k packet ≡ Ok true) × (k ≡ length h.requests))
short-sent h k packet ok =
    by-tests (is_packet_of packet (slice_get h.requests k)) (nat_le 16384 (length h.requests)) (nat_lt k (length h.requests)) (nat_lt (length h.requests) k) (length h.requests) k refl refl ok

packet-is : (packet : List ℕ) (o : Option Sent) → is_packet_of packet o ≡ true → (r : Sent) × (o ≡ Some r) × (r.packet ≡ packet)
packet-is packet None e = absurd (true_is_not_false (sym e))
packet-is packet (Some r) e = (r, refl, (bytes_eq-Decides r.packet packet).0 e)

-- a request that was sent before
again-numbered : (t : TailoringParts) (h : History) (packet : List ℕ) (header : TcHeader) → (protocol t).command packet ≡ Some header
    → is_own (protocol t) header ≡ true → is_packet_of packet (slice_get h.requests header.count) ≡ true → IsNumbered t h packet h
again-numbered t h packet header command own e =
    let r = packet-is packet (slice_get h.requests header.count) e in
    let within = slice_get-within h.requests header.count r.0 r.1 in
    let size = length-map h.requests (λ (x : Sent). x.packet) in
    record {
      header = header;
      command = command;
      apid = eqb-true header.apid t.widths.apid (left-true (header.apid == t.widths.apid) (header.source == t.widths.ground) own);
      source = eqb-true header.source t.widths.ground (right-true (header.apid == t.widths.apid) (header.source == t.widths.ground) own);
      near = omega (arith, within, size);
      listed = slice_get-map (λ (x : Sent). x.packet) h.requests header.count r.0 r.1 ∙ ap Some r.2;
      more = [];
      fresh = inl refl;
      grown = sym (append-nil (packets_of h));
      next = omega (arith, within, size);
    }

-- the next request
next-numbered : (t : TailoringParts) (h : History) (packet : List ℕ) (header : TcHeader) → (protocol t).command packet ≡ Some header
    → is_own (protocol t) header ≡ true → header.count ≡ length h.requests → IsNumbered t h packet (with_sent (protocol t) h packet)
next-numbered t h packet header command own e =
    let size = length-map h.requests (λ (x : Sent). x.packet) in
    let new : Sent = record { packet = packet; request = result_ok ((protocol t).request packet); floor = newest_tag h } in
    let grown : packets_of (with_sent (protocol t) h packet) ≡ packets_of h ++ packet ∷ [] = map-append (λ (x : Sent). x.packet) h.requests (new ∷ []) in
    let count : header.count ≡ length (packets_of h) = e ∙ sym size in
    let long = ap length grown ∙ length-append (packets_of h) (packet ∷ []) in
    record {
      header = header;
      command = command;
      apid = eqb-true header.apid t.widths.apid (left-true (header.apid == t.widths.apid) (header.source == t.widths.ground) own);
      source = eqb-true header.source t.widths.ground (right-true (header.apid == t.widths.apid) (header.source == t.widths.ground) own);
      near = omega (arith, count);
      listed = ap (λ xs. slice_get xs header.count) grown ∙ (ap (slice_get (packets_of h ++ packet ∷ [])) count ∙ slice_get-last (packets_of h) packet);
      more = packet ∷ [];
      fresh = inr refl;
      grown = grown;
      next = omega (arith, long, count);
    }

-- a packet that may be sent is that of a request
pub numbered : (t : TailoringParts) (h : History) (packet : List ℕ) → h.long ≡ false → is_ok (sent_answer (protocol t) h packet) ≡ true
    → IsNumbered t h packet (history_with (protocol t) h (sent packet))
numbered t h packet short ok = by_header ((protocol t).command packet) refl
  where
    by_answer : (header : TcHeader) → (protocol t).command packet ≡ Some header → is_own (protocol t) header ≡ true
        → sent_answer (protocol t) h packet ≡ sent_short h header.count packet
        → ((sent_short h header.count packet ≡ Ok false) × (is_packet_of packet (slice_get h.requests header.count) ≡ true)) ⊎ ((sent_short h header.count packet ≡ Ok true) × (header.count ≡ length h.requests))
        → IsNumbered t h packet (history_with (protocol t) h (sent packet))
    by_answer header command own is (inl again) =
        subst (IsNumbered t h packet) (sym (ap (history_with_sent (protocol t) h packet) (is ∙ again.0))) (again-numbered t h packet header command own again.1)
    by_answer header command own is (inr next) =
        subst (IsNumbered t h packet) (sym (ap (history_with_sent (protocol t) h packet) (is ∙ next.0))) (next-numbered t h packet header command own next.1)

    by_own : (header : TcHeader) → (protocol t).command packet ≡ Some header → (b : Bool) → is_own (protocol t) header ≡ b → IsNumbered t h packet (history_with (protocol t) h (sent packet))
    by_own header command false own =
        let answer = ap (answer_by_header (protocol t) h packet) command ∙ ap (λ b. if not b then Err BadRequest else if h.long then sent_long h header.count packet else sent_short h header.count packet) own in
        absurd (true_is_not_false (sym ok ∙ ap is_ok answer))
    by_own header command true own =
        let answer = ap (answer_by_header (protocol t) h packet) command
        ∙ (ap (λ b. if not b then Err BadRequest else if h.long then sent_long h header.count packet else sent_short h header.count packet) own
        ∙ ap (λ b. if b then sent_long h header.count packet else sent_short h header.count packet) short) in
        by_answer header command own answer (short-sent h header.count packet (sym (ap is_ok answer) ∙ ok))

    by_header : (o : Option TcHeader) → (protocol t).command packet ≡ o → IsNumbered t h packet (history_with (protocol t) h (sent packet))
    by_header None command = absurd (true_is_not_false (sym ok ∙ ap (λ o. is_ok (answer_by_header (protocol t) h packet o)) command))
    by_header (Some header) command = by_own header command (is_own (protocol t) header) refl

-- what is known is of a short session
pub long-false : (t : TailoringParts) (earlier : List Sending) → (history_behind t earlier).long ≡ false
long-false t [] = refl
long-false t (x ∷ earlier) = by_answer (sent_answer (protocol t) (history_behind t earlier) x.packet) (long-false t earlier)
  where
    by_answer : (r : Result Bool SentFault) → (history_behind t earlier).long ≡ false → (history_with_sent (protocol t) (history_behind t earlier) x.packet r).long ≡ false
    by_answer (Ok true) same = same
    by_answer (Ok false) same = same
    by_answer (Err fault) same = same

-- a line that may stand behind some is that of a request
pub line-numbered : (t : TailoringParts) (earlier : List Sending) (x : Sending) → may_follow t earlier x ≡ true
    → IsNumbered t (history_behind t earlier) x.packet (history_behind t (x ∷ earlier))
line-numbered t earlier x ok =
    numbered t (history_behind t earlier) x.packet (long-false t earlier)
    (right-true (nat_le (latest_slot earlier) x.slot) (is_ok (sent_answer (protocol t) (history_behind t earlier) x.packet)) ok)

-- more lines are more requests
pub requests-grow : (t : TailoringParts) (xs earlier : List Sending) → AreSent t earlier xs
    → (more : List (List ℕ)) × (requests_behind t (onto xs earlier) ≡ requests_behind t earlier ++ more)
requests-grow t [] earlier h = ([], sym (append-nil (requests_behind t earlier)))
requests-grow t (x ∷ xs) earlier h =
    let n = line-numbered t earlier x h.1 in
    let later = requests-grow t xs (x ∷ earlier) h.2 in
    (n.more ++ later.0, later.1 ∙ (ap (λ ys. ys ++ later.0) n.grown ∙ append_assoc (requests_behind t earlier) n.more later.0))

-- the steps of lines that are sent
abbrev pub sends_of : TailoringParts → List Sending → List Step
sends_of t xs = map (λ x. send (number_in t x.packet)) xs

pub number-is : (t : TailoringParts) (packet : List ℕ) (header : TcHeader) → (protocol t).command packet ≡ Some header → number_in t packet ≡ header.count
number-is t packet header e = ap (λ o. option_map_or (λ (h : TcHeader). h.count) o 0) e

-- a line may be sent
may-send : (t : TailoringParts) (known : Bool) (requests : List (List ℕ)) (earlier : List Sending) (x : Sending) (steps : List Step)
    → (n : IsNumbered t (history_behind t earlier) x.packet (history_behind t (x ∷ earlier)))
    → ((more : List (List ℕ)) × (requests ≡ requests_behind t (x ∷ earlier) ++ more))
    → sent_count steps ≡ length (requests_behind t earlier) → MayStep (session_with t known requests) steps (send (number_in t x.packet))
may-send t known requests earlier x steps n all count =
    let same = number-is t x.packet n.header n.command in
    let S : Session = session_with t known requests in
    subst (λ k. MayStep S steps (send k)) (sym same)
    ((
      record {
        packet = x.packet;
        header = n.header;
        listed = ap (λ rs. slice_get rs n.header.count) all.1 ∙ slice_get-front (requests_behind t (x ∷ earlier)) all.0 n.header.count x.packet n.listed;
        command = n.command;
        apid = n.apid;
        source = n.source;
        count = refl;
      },
      sending (le-cases n.header.count (length (requests_behind t earlier)) n.near),
    ))
  where
    sending : (n.header.count < length (requests_behind t earlier)) ⊎ (n.header.count ≡ length (requests_behind t earlier)) → MaySend false steps n.header.count
    sending (inl lt) = inl (omega (arith, lt, count), tt)
    sending (inr e) = inr (e ∙ sym count, tt)

-- some steps are those of a world in which these lines were sent
pub record HasSent (t : TailoringParts) (known : Bool) (requests : List (List ℕ)) (earlier : List Sending) (steps : List Step) : Type 0 where
  pub each : EachAfter (MayStep (session_with t known requests)) steps
  pub count : sent_count steps ≡ length (requests_behind t earlier)

-- lines are sent one after the other
pub send-lines : (t : TailoringParts) (known : Bool) (requests : List (List ℕ)) (xs earlier : List Sending) (steps : List Step) → AreSent t earlier xs
    → ((more : List (List ℕ)) × (requests ≡ requests_behind t (onto xs earlier) ++ more))
    → HasSent t known requests earlier steps → HasSent t known requests (onto xs earlier) (onto (sends_of t xs) steps)
send-lines t known requests [] earlier steps h all was = was
send-lines t known requests (x ∷ xs) earlier steps h all was =
    let n = line-numbered t earlier x h.1 in
    let later = requests-grow t xs (x ∷ earlier) h.2 in
    let here : requests ≡ requests_behind t (x ∷ earlier) ++ (later.0 ++ all.0) =
    all.1 ∙ (ap (λ ys. ys ++ all.0) later.1 ∙ append_assoc (requests_behind t (x ∷ earlier)) later.0 all.0) in
    send-lines t known requests xs (x ∷ earlier) (send (number_in t x.packet) ∷ steps) h.2 all
    (record {
      each = (may-send t known requests earlier x steps n (later.0 ++ all.0, here) was.count, was.each);
      count = ap₂ (λ a b. max a (suc b)) was.count (number-is t x.packet n.header n.command) ∙ sym n.next;
    })

-- sending leaves the moments as they were
pub sends-moments : (t : TailoringParts) (xs : List Sending) (steps : List Step) → moments_of (onto (sends_of t xs) steps) ≡ moments_of steps
sends-moments t [] steps = refl
sends-moments t (x ∷ xs) steps = sends-moments t xs (send (number_in t x.packet) ∷ steps)
