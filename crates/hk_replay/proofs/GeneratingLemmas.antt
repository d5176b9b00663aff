-- What stands for the entries of a generated session.
use Rattle.std.proofs.Common.{◌≡◌, ◌≤◌, ℕ, List, [], ◌∷◌, ◌++◌, length, take, Bool, true, false, Result, Ok, Err, refl, sym, ap, subst, ◌∙◌, append_assoc, append-nil}
use Rattle.std.specs.Prelude.{OnOk}
use Rattle.std.proofs.lemmas.List.{take_all}
use Rattle.hk_base.specs.declared.types.Memory.{Memory}
use Rattle.hk_base.specs.TailoringParts.{TailoringParts}
use Rattle.pus_messages.specs.Messages.{protocol}
use Rattle.ground_history.specs.Histories.{sent_answer, history_with_sent}
use Rattle.ground_history.specs.Ground.{IsAnswer}
use Rattle.ground_history.specs.declared.answer.SentFault.{SentFault}
use Rattle.ground_history.specs.declared.answer.SentFault.TheVariants as fault
use Rattle.session_record.specs.Records.{header_of}
use Rattle.session_record.specs.declared.header.Header.{Header}
use Rattle.session_record.specs.declared.entry.Entry.{Entry}
use Rattle.session_record.specs.declared.entry.Entry.TheVariants.{Sent, Got, Line}
use Rattle.session_texts.specs.Tallies.{tally, summary}
use Rattle.block_lines.specs.declared.counts.Counts.{Counts}
use Rattle.decommutator.specs.Standing.{Standing, new_standing, with_entry, entry_answer, taken, standing_tally}
use Rattle.generated_sessions.specs.Generated.{made_tailoring, rounds, late_entries, generated}
use Rattle.decommutator.specs.Entries.{standing_of}
use Rattle.hk_replay.specs.Generating.{numbers_text, Alike, Follows}
use Rattle.hk_replay.proofs.SessionLemmas.{Stands}

-- what stands for one entry more depends on what is known and what became of packets alone
alike_after : (s u : Standing) (e : Entry) → Alike s u → Alike (with_entry s e) (with_entry u e)
alike_after s u (Sent packet) a =
    let t = a.tailoring in
    let h = a.history in
    record { tailoring = t; history = cc; counts = a.counts }
alike_after s u (Got packet) a =
    let t = a.tailoring in
    let h = a.history in
    let k = a.counts in
    record { tailoring = t; history = cc; counts = cc }
alike_after s u (Line text) a = record { tailoring = a.tailoring; history = a.history; counts = a.counts }

alike_then : (s u v : Standing) → Alike s u → u ≡ v → Alike s v
alike_then s u v a e = subst (λ (x : Standing). Alike s x) e a

-- a refused entry leaves what is known
refused_sent : (s : Standing) (packet : List ℕ) (f : SentFault) (answer : Result Bool SentFault) → taken answer ≡ Err f → history_with_sent (protocol s.tailoring) s.history packet answer ≡ s.history
refused_sent s packet f (Ok new) e = absurd (cc e)
refused_sent s packet f (Err g) e = refl

alike_refused : (s : Standing) (e : Entry) (f : SentFault) → entry_answer s e ≡ Err f → Alike s (with_entry s e)
alike_refused s (Sent packet) f is = record { tailoring = refl; history = sym (refused_sent s packet f (sent_answer (protocol s.tailoring) s.history packet) is); counts = refl }
alike_refused s (Got packet) f is = absurd (cc is)
alike_refused s (Line text) f is = absurd (cc is)

one_more : Stands → (t : TailoringParts) (earlier : List Entry) (s : Standing) (e : Entry) → Alike s (standing_of t (header_of true false) earlier)
    → Alike (with_entry s e) (standing_of t (header_of true false) (earlier ++ e ∷ []))
one_more stands t earlier s e a = alike_then (with_entry s e) _ _ (alike_after s (standing_of t (header_of true false) earlier) e a) (stands.next t (header_of true false) earlier e)

alike_both : (s u v : Standing) → Alike s u → Alike u v → Alike s v
alike_both s u v a b = record { tailoring = a.tailoring ∙ b.tailoring; history = a.history ∙ b.history; counts = a.counts ∙ b.counts }

-- an entry that was taken
pub follows_taken : Stands → (s after : Standing) (e : Entry) → after ≡ with_entry s e → Follows (e ∷ []) s after
follows_taken stands s after e is = λ t earlier a. subst (λ (x : Standing). Alike x (standing_of t (header_of true false) (earlier ++ e ∷ []))) (sym is) (one_more stands t earlier s e a)

refusal : (wanted : Result Unit SentFault) (f : SentFault) → ¬ (f ≡ fault.Memory) → IsAnswer wanted (Err f) → wanted ≡ Err f
refusal wanted fault.Memory other answer = absurd (other refl)
refusal wanted fault.BadRequest other answer = answer
refusal wanted (fault.WrongCount a b) other answer = answer
refusal wanted (fault.Reused a) other answer = answer
refusal wanted fault.SessionFull other answer = answer
refusal wanted (fault.WindowFull k) other answer = answer

-- an entry that was refused
pub follows_refused : Stands → (s after : Standing) (e : Entry) (f : SentFault) → ¬ (f ≡ fault.Memory) → IsAnswer (entry_answer s e) (Err f) → after ≡ s → Follows (e ∷ []) s after
follows_refused stands s after e f other answer is =
    λ t earlier a. subst (λ (x : Standing). Alike x (standing_of t (header_of true false) (earlier ++ e ∷ []))) (sym is)
    (alike_both s (with_entry s e) _ (alike_refused s e f (refusal (entry_answer s e) f other answer)) (one_more stands t earlier s e a))

-- no entries
pub follows_none : (s : Standing) → Follows [] s s
follows_none s = λ t earlier a. subst (λ (es : List Entry). Alike s (standing_of t (header_of true false) es)) (sym (append-nil earlier)) a

-- entries and then others
pub follows_then : (xs ys : List Entry) (s mid after : Standing) → Follows xs s mid → Follows ys mid after → Follows (xs ++ ys) s after
follows_then xs ys s mid after f g =
    λ t earlier a. subst (λ (es : List Entry). Alike after (standing_of t (header_of true false) es)) (append_assoc earlier xs ys) (g t (earlier ++ xs) (f t earlier a))

alike_tally : (s u : Standing) → Alike s u → standing_tally s ≡ standing_tally u
alike_tally s u a =
    let t = a.tailoring in
    let h = a.history in
    let k = ap (λ (x : Counts). x.repeats) a.counts in
    cc

-- the numbers of a session whose entries were taken
pub numbers_are : Stands → ((t : TailoringParts) (h : Header) (entries : List Entry) → standing_tally (standing_of t h entries) ≡ tally (protocol t) h entries)
    → (seed count : ℕ) (start mid after : Standing) → start ≡ new_standing made_tailoring true false → Follows (rounds seed count) start mid → Follows (late_entries seed count) mid after
    → generated seed count ≡ rounds seed count ++ late_entries seed count → summary (standing_tally after) ≡ numbers_text seed count
unfolding numbers_text
numbers_are stands tallies seed count start mid after new reports late whole =
    let h = header_of true false in
    let first : Alike start (standing_of made_tailoring h []) = alike_then start start (standing_of made_tailoring h []) (record { tailoring = refl; history = refl; counts = refl }) (new ∙ sym (stands.first made_tailoring h)) in
    let all : Alike after (standing_of made_tailoring h (rounds seed count ++ late_entries seed count)) = late made_tailoring (rounds seed count) (reports made_tailoring [] first) in
    ap summary
    (alike_tally after (standing_of made_tailoring h (rounds seed count ++ late_entries seed count)) all
    ∙ (tallies made_tailoring h (rounds seed count ++ late_entries seed count) ∙ ap (tally (protocol made_tailoring) h) (sym whole)))

-- what follows from a fact of an Ok holds of it too
pub on_ok : (r : Result Unit Memory) (P Q : Type 0) → (P → Q) → OnOk r P → OnOk r Q
on_ok (Ok done) P Q f is = f is
on_ok (Err m) P Q f is = tt

-- all entries came
pub all_taken : (es : List Entry) (n : ℕ) (s after : Standing) → length es ≤ n → Follows (take n es) s after → Follows es s after
all_taken es n s after past follows = subst (λ (xs : List Entry). Follows xs s after) (take_all n es past) follows
