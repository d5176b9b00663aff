-- What is known by what an entry brought.
use Rattle.std.proofs.Common.{◌≡◌, ℕ, refl, sym, ◌∙◌, ap, List, Bool, true, false, Some, None, Result, Ok, Err}
use Rattle.std.proofs.lemmas.Bool.{true≢false}
use Rattle.std.proofs.lemmas.Option.{none-some, same_Some}
use Rattle.pus_messages.specs.Messages.{protocol}
use Rattle.pus_messages.specs.Protocol.{Reception, foreign, skipped, unread, readable}
use Rattle.pus_messages.specs.declared.message.Report.{Report}
use Rattle.ground_history.specs.Histories.{sent_answer, got_kind, kind_by_reception, with_sent, history_with_sent, history_with_report, history_with_got}
use Rattle.ground_history.specs.Ground.{Ground, with_history}
use Rattle.ground_history.specs.declared.answer.GotKind.{GotKind}
use Rattle.ground_history.specs.declared.answer.GotKind.TheVariants as became
use Rattle.ground_history.specs.declared.answer.SentFault.{SentFault}
use Rattle.session_record.specs.declared.entry.Entry.{Entry}
use Rattle.session_record.specs.declared.entry.Entry.TheVariants.{Sent, Got, Line}
use Rattle.session_texts.specs.Sessions.{known_with}
use Rattle.decommutator.specs.Standing.{ground_after}
use Rattle.decommutator.specs.Due.{came_sent, came_got, came_of, new_tag}
use Rattle.decommutator.specs.declared.changed.Came.{Came}
use Rattle.decommutator.specs.declared.changed.Came.TheVariants as came

abbrev is_request : Came → Bool
is_request came.Request = true
is_request _ = false

-- what brings nothing leaves what is known as it was
nothing-known : (g : Ground) (e : Entry) → new_tag (came_of g e) ≡ None → is_request (came_of g e) ≡ false → known_with (protocol g.tailoring) g.history e ≡ g.history
nothing-known g (Sent packet) one two = go (sent_answer (protocol g.tailoring) g.history packet) two
  where
    go : (r : Result Bool SentFault) → is_request (came_sent r) ≡ false → history_with_sent (protocol g.tailoring) g.history packet r ≡ g.history
    go (Ok true) e = absurd (true≢false e)
    go (Ok false) e = refl
    go (Err fault) e = refl
nothing-known g (Got packet) one two = go ((protocol g.tailoring).reception packet) one
  where
    report : (r : Report) (kind : GotKind) → new_tag (came_got kind) ≡ None → history_with_report g.history packet r kind ≡ g.history
    report r (became.Kept tag) e = absurd (none-some tag (sym e))
    report r (became.Repeat tag) e = refl
    report r (became.Conflict tag) e = refl
    report r (became.Foreign apid) e = refl
    report r (became.Skipped service subtype) e = refl
    report r became.Unread e = refl
    report r (became.Stray id) e = refl

    go : (x : Reception) → new_tag (came_got (kind_by_reception g.history packet x)) ≡ None → history_with_got g.history packet x ≡ g.history
    go (foreign apid) e = refl
    go (skipped service subtype) e = refl
    go unread e = refl
    go (readable r) e = report r (kind_by_reception g.history packet (readable r)) e
nothing-known g (Line text) one two = refl

-- Nothing came.
pub nothing-came : (g now : Ground) (e : Entry) → came.Nothing ≡ came_of g e → now ≡ ground_after g e (Ok tt) → now ≡ g
nothing-came g now e came known = known ∙ ap (with_history g) (nothing-known g e (ap new_tag (sym came)) (ap is_request (sym came)))

-- A request was sent.
pub request-came : (g now : Ground) (e : Entry) → came.Request ≡ came_of g e → now ≡ ground_after g e (Ok tt)
    → (packet : List ℕ) × (now ≡ with_history g (with_sent (protocol g.tailoring) g.history packet))
request-came g now (Sent packet) came known = (packet, go (sent_answer (protocol g.tailoring) g.history packet) (ap is_request came) known)
  where
    go : (r : Result Bool SentFault) → true ≡ is_request (came_sent r) → now ≡ with_history g (history_with_sent (protocol g.tailoring) g.history packet r)
        → now ≡ with_history g (with_sent (protocol g.tailoring) g.history packet)
    go (Ok true) e is = is
    go (Ok false) e is = absurd (true≢false e)
    go (Err fault) e is = absurd (true≢false e)
request-came g now (Got packet) came known = absurd (go (got_kind (protocol g.tailoring) g.history packet) (ap is_request came))
  where
    go : (kind : GotKind) → true ≡ is_request (came_got kind) → ⊥
    go (became.Kept tag) e = true≢false e
    go (became.Repeat tag) e = true≢false e
    go (became.Conflict tag) e = true≢false e
    go (became.Foreign apid) e = true≢false e
    go (became.Skipped service subtype) e = true≢false e
    go became.Unread e = true≢false e
    go (became.Stray id) e = true≢false e
request-came g now (Line text) came known = absurd (true≢false (ap is_request came))

-- A packet was kept.
pub kept-came : (g now : Ground) (tag : ℕ) (e : Entry) → came.Kept tag ≡ came_of g e → now ≡ ground_after g e (Ok tt)
    → (packet : List ℕ) × (got_kind (protocol g.tailoring) g.history packet ≡ became.Kept tag)
    × (now ≡ with_history g (history_with_got g.history packet ((protocol g.tailoring).reception packet)))
kept-came g now tag (Sent packet) came known = absurd (go (sent_answer (protocol g.tailoring) g.history packet) (ap new_tag came))
  where
    go : (r : Result Bool SentFault) → Some tag ≡ new_tag (came_sent r) → ⊥
    go (Ok true) e = none-some tag (sym e)
    go (Ok false) e = none-some tag (sym e)
    go (Err fault) e = none-some tag (sym e)
kept-came g now tag (Got packet) came known = (packet, go (got_kind (protocol g.tailoring) g.history packet) (ap new_tag came), known)
  where
    go : (kind : GotKind) → Some tag ≡ new_tag (came_got kind) → kind ≡ became.Kept tag
    go (became.Kept other) e = ap (λ n. became.Kept n) (same_Some other tag (sym e))
    go (became.Repeat other) e = absurd (none-some tag (sym e))
    go (became.Conflict other) e = absurd (none-some tag (sym e))
    go (became.Foreign apid) e = absurd (none-some tag (sym e))
    go (became.Skipped service subtype) e = absurd (none-some tag (sym e))
    go became.Unread e = absurd (none-some tag (sym e))
    go (became.Stray id) e = absurd (none-some tag (sym e))
kept-came g now tag (Line text) came known = absurd (none-some tag (sym (ap new_tag came)))
