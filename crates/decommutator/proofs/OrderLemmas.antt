-- Each entry is at most one request, kept packet or counted packet.
use Rattle.std.proofs.Common.{arith, ◌≡◌, ℕ, ◌+◌, ◌≤◌, refl, List, [], ◌∷◌, length, Bool, true, false, Result, Ok, Err, if◌then◌else◌}
use Rattle.std.specs.Prelude.{nat_lt}
use Rattle.std.specs.Result.{result_ok}
use Rattle.std.proofs.lemmas.List.{length_push}
use Rattle.pus_messages.specs.Messages.{protocol}
use Rattle.pus_messages.specs.Protocol.{Protocol, Reception, foreign, skipped, unread, readable}
use Rattle.pus_messages.specs.declared.message.Report.{Report}
use Rattle.ground_history.specs.Histories.{Sent, Kept, History, newest_tag, tag_of, insert_kept, number_of_body, sent_answer, kind_by_reception, history_with_sent, history_with_report, history_with_got}
use Rattle.ground_history.specs.Ground.{Ground, with_history}
use Rattle.ground_history.specs.declared.answer.GotKind.{GotKind}
use Rattle.ground_history.specs.declared.answer.GotKind.TheVariants as became
use Rattle.ground_history.specs.declared.answer.SentFault.{SentFault}
use Rattle.session_record.specs.declared.entry.Entry.{Entry}
use Rattle.session_record.specs.declared.entry.Entry.TheVariants as entry
use Rattle.session_texts.specs.Sessions.{known_with}
use Rattle.block_lines.specs.declared.counts.Counts.{Counts}
use Rattle.decommutator.specs.Standing.{total, with_kind, counts_with}

-- how many requests, kept packets and counted packets there are
abbrev held : History → Counts → ℕ
held h c = length h.requests + (length h.kept + total c)

length-insert : (k : Kept) (ks : List Kept) → length (insert_kept k ks) ≡ length ks + 1
length-insert k [] = refl
length-insert k (j ∷ js) =
    elim (nat_lt (tag_of k) (tag_of j)) as (λ b. length (if b then k ∷ j ∷ js else j ∷ insert_kept k js) ≡ length (j ∷ js) + 1) [
      | true ↦ omega arith
      | false ↦ omega (arith, length-insert k js)
    ]

held-sent : (p : Protocol) (h : History) (c : Counts) (packet : List ℕ) (answer : Result Bool SentFault) → held (history_with_sent p h packet answer) c ≤ held h c + 1
held-sent p h c packet (Ok true) =
    let one : Sent = record { packet = packet; request = result_ok (p.request packet); floor = newest_tag h } in
    omega (arith, length_push h.requests one)
held-sent p h c packet (Ok false) = omega arith
held-sent p h c packet (Err fault) = omega arith

held-report : (h : History) (c : Counts) (packet : List ℕ) (r : Report) (kind : GotKind)
    → held (history_with_report h packet r kind) (with_kind c kind) ≤ held h c + 1
held-report h c packet r (became.Kept tag) =
    let one : Kept = record { packet = packet; report = r; number = number_of_body h r.header.tag r.body } in
    omega (arith, length-insert one h.kept)
held-report h c packet r (became.Repeat tag) = omega arith
held-report h c packet r (became.Conflict tag) = omega arith
held-report h c packet r (became.Foreign apid) = omega arith
held-report h c packet r (became.Skipped service subtype) = omega arith
held-report h c packet r became.Unread = omega arith
held-report h c packet r (became.Stray id) = omega arith

held-got : (h : History) (c : Counts) (packet : List ℕ) (x : Reception) → held (history_with_got h packet x) (with_kind c (kind_by_reception h packet x)) ≤ held h c + 1
held-got h c packet (foreign apid) = omega arith
held-got h c packet (skipped service subtype) = omega arith
held-got h c packet unread = omega arith
held-got h c packet (readable r) = held-report h c packet r (kind_by_reception h packet (readable r))

held-with : (g : Ground) (c : Counts) (e : Entry) → held (known_with (protocol g.tailoring) g.history e) (counts_with g c e) ≤ held g.history c + 1
held-with g c (entry.Sent packet) = held-sent (protocol g.tailoring) g.history c packet (sent_answer (protocol g.tailoring) g.history packet)
held-with g c (entry.Got packet) = held-got g.history c packet ((protocol g.tailoring).reception packet)
held-with g c (entry.Line text) = omega arith

-- one more entry keeps the order
pub orderly-next : (g : Ground) (c : Counts) (e : Entry) (n : ℕ) (next : Ground) (counts : Counts)
    → next ≡ with_history g (known_with (protocol g.tailoring) g.history e) → counts ≡ counts_with g c e → held g.history c ≤ n → held next.history counts ≤ n + 1
orderly-next g c e n next counts p q most =
    let step : held (known_with (protocol g.tailoring) g.history e) (counts_with g c e) ≤ held g.history c + 1 = held-with g c e in
    rw (p, q) (omega (arith, step, most))
