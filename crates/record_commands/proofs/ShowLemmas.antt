-- The lines that were written, with those still to come, stay the lines of the record.
use Rattle.std.proofs.Common.{arith, ◌≡◌, ◌+◌, ◌-◌, ◌≤◌, zero-le, ℕ, zero, suc, true, false, List, [], ◌∷◌, ◌++◌, length, take, drop, Option, Some, None, Result, Ok, Err, refl, sym, ap, subst, ◌∙◌, append_assoc, append-nil, length-append}
use Rattle.std.specs.Prelude.{IfSome, IsOk, IsSome, MatchResult, is_err}
use Rattle.std.proofs.lemmas.List.{take-append-le}
use Rattle.std.proofs.Math.Seq.{take-append_seam, take-append-add}
use Rattle.hk_base.specs.TailoringParts.{TailoringParts}
use Rattle.session_record.specs.Records.{Entries, entries_by, entries_from, after_header, header_in, next_entry, fault_in, record_fault}
use Rattle.session_record.specs.Reading.{Reading, Answers, GoesOn, is_final, is_settled, is_settled_at, is_settled_header, no_entries, read_on, reading_at_start, to_come}
use Rattle.session_record.specs.Writing.{Writes, WritesWithin}
use Rattle.session_record.specs.declared.header.Header.{Header}
use Rattle.session_record.specs.declared.entry.Entry.{Entry}
use Rattle.session_record.specs.declared.entry.WriteFault.{WriteFault}
use Rattle.session_record.specs.declared.entry.RecordFault.{RecordFault}
use Rattle.session_record.specs.declared.entry.RecordFault.TheVariants.{BadMagic, BadKind, Cut, TooLong, TooManyEntries, ReadFault, Memory}
use Rattle.record_commands.specs.Lines.{entry_line}
use Rattle.session_record.specs.Written.{IsWritten, IsPrefixWritten}
use Rattle.record_commands.specs.Showing.{lines_of, lines_to_come, show_text, Shows, IsFirstLine, TakesLine}
use Rattle.program_edge.specs.Faults.{fault_of_record}
use Rattle.program_edge.specs.declared.fault.RunFault.TheVariants as run
use Rattle.record_commands.proofs.ToComeLemmas.{none_told}

-- octets without an entry in full have no line
entries_unfinished : (offset : ℕ) (next : Result (Option Entry) RecordFault) (rest : Entry → Entries) → is_final next ≡ false → (entries_by offset next rest).list ≡ []
entries_unfinished offset (Ok None) rest partly = refl
entries_unfinished offset (Ok (Some e)) rest partly = absurd (cc partly)
entries_unfinished offset (Err fault) rest partly = refl

unfinished : (room offset : ℕ) (octets : List ℕ) → is_final (next_entry room offset octets) ≡ false → (entries_from room offset octets).list ≡ []
unfinished zero offset octets partly = entries_unfinished offset (next_entry zero offset octets) _ partly
unfinished (suc room) offset octets partly = entries_unfinished offset (next_entry (suc room) offset octets) _ partly

no_lines_of : (t : TailoringParts) (h : Header) (es : Entries) → es.list ≡ [] → lines_to_come t (Ok (h, es)) ≡ []
no_lines_of t h es none = ap (lines_of t) none

unsettled_header : (t : TailoringParts) (room offset : ℕ) (octets : List ℕ) (found : Option Header) → is_settled_header room offset octets found ≡ false
    → lines_to_come t (after_header room offset octets found) ≡ []
unsettled_header t room offset octets None partly = refl
unsettled_header t room offset octets (Some h) partly = no_lines_of t h (entries_from room offset (drop 8 octets)) (unfinished room offset (drop 8 octets) partly)

unsettled_at : (t : TailoringParts) (header : Option Header) (room offset : ℕ) (octets : List ℕ) → is_settled_at header None room offset octets ≡ false
    → lines_to_come t (read_on header None room offset octets) ≡ []
unsettled_at t None room offset octets partly = unsettled_header t room offset octets (header_in octets) partly
unsettled_at t (Some h) room offset octets partly = no_lines_of t h (entries_from room offset octets) (unfinished room offset octets partly)

unsettled : (t : TailoringParts) (r : Reading) → r.fault ≡ None → is_settled r ≡ false → lines_to_come t (to_come r []) ≡ []
unsettled t r fine partly =
    ap (λ f. lines_to_come t (read_on r.header f r.room r.offset (r.held ++ []))) fine
    ∙ ap (λ octets. lines_to_come t (read_on r.header None r.room r.offset octets)) (append-nil r.held)
    ∙ unsettled_at t r.header r.room r.offset r.held (sym (ap (λ f. is_settled_at r.header f r.room r.offset r.held) fine) ∙ partly)

-- an answer of the reader as one of the lines
no_entry_lines : (t : TailoringParts) (fault : Option RecordFault) (x : Result (Header × Entries) RecordFault) → MatchResult x (λ b. b.1 ≡ no_entries fault) (λ f. ⊥)
    → (lines_to_come t x ≡ []) × (fault_in x ≡ fault)
no_entry_lines t fault (Ok b) h = (ap (λ (es : Entries). lines_of t es.list) h, ap (λ (es : Entries). es.fault) h)
no_entry_lines t fault (Err f) h = absurd h

bad_magic_lines : (t : TailoringParts) (x : Result (Header × Entries) RecordFault) → x ≡ Err BadMagic → (lines_to_come t x ≡ []) × (fault_in x ≡ Some BadMagic)
bad_magic_lines t x is = (ap (lines_to_come t) is, ap fault_in is)

entry_first : (t : TailoringParts) (x : ℕ × Entry) (before after : Result (Header × Entries) RecordFault)
    → MatchResult after (λ left. before ≡ Ok (left.0, record { list = x ∷ left.1.list; fault = left.1.fault })) (λ f. ⊥)
    → (lines_to_come t before ≡ entry_line t x.1 ++ lines_to_come t after) × (fault_in after ≡ fault_in before)
entry_first t x before (Ok left) h = (ap (lines_to_come t) h, sym (ap fault_in h))
entry_first t x before (Err f) h = absurd h

pub takes_line : (t : TailoringParts) (r s : Reading) (rest left : Option (List ℕ)) (x : ℕ × Entry) (line : List ℕ) → line ≡ entry_line t x.1
    → Answers (Ok (Some x)) r rest s left → GoesOn (Ok (Some x)) r rest s left → TakesLine (Ok (Some line)) t r rest s left
takes_line t r s None left x line is answers onward = tt
takes_line t r s (Some was) None x line is answers onward = absurd (none_told answers.1)
takes_line t r s (Some was) (Some now) x line is answers onward =
    let given = onward.0.0 in
    let step : (more : List ℕ) → lines_to_come t (to_come r (given ++ more)) ≡ line ++ lines_to_come t (to_come s more) =
    λ more. (entry_first t x (to_come r (given ++ more)) (to_come s more) (onward.0.2 more)).0 ∙ ap (λ xs. xs ++ lines_to_come t (to_come s more)) (sym is) in
    ((given, onward.0.1, step, (entry_first t x (to_come r was) (to_come s now) answers.0).1), refl)

pub takes_end : (t : TailoringParts) (r s : Reading) (rest left : Option (List ℕ)) → Answers (Ok None) r rest s left → TakesLine (Ok None) t r rest s left
takes_end t r s None left answers = tt
takes_end t r s (Some was) None answers = absurd (none_told answers.1)
takes_end t r s (Some was) (Some now) answers = (no_entry_lines t None (to_come r was) answers.0.1, refl)

-- reading ends by a fault
pub takes_fault : (t : TailoringParts) (r s : Reading) (rest left : Option (List ℕ)) (fault : RecordFault) → (fault ≡ ReadFault → s.fault ≡ None) → (fault ≡ ReadFault → is_settled s ≡ false)
    → Answers (Err fault) r rest s left → GoesOn (Err fault) r rest s left → TakesLine (Err fault) t r rest s left
takes_fault t r s None left fault fine partly answers onward = tt
takes_fault t r s (Some was) None fault fine partly answers onward = absurd (none_told answers.1)
takes_fault t r s (Some was) (Some now) ReadFault fine partly answers onward =
    let given = onward.0.0 in
    let same : to_come s [] ≡ to_come r given = onward.0.2 [] ∙ ap (to_come r) (append-nil given) in
    ((given, onward.0.1, sym (ap (lines_to_come t) same) ∙ unsettled t s (fine refl) (partly refl)), refl)
takes_fault t r s (Some was) (Some now) Memory fine partly answers onward = (tt, refl)
takes_fault t r s (Some was) (Some now) BadMagic fine partly answers onward = (bad_magic_lines t (to_come r was) answers.0.1, refl)
takes_fault t r s (Some was) (Some now) (BadKind kind offset) fine partly answers onward = (no_entry_lines t (Some (BadKind kind offset)) (to_come r was) answers.0.1, refl)
takes_fault t r s (Some was) (Some now) (Cut offset) fine partly answers onward = (no_entry_lines t (Some (Cut offset)) (to_come r was) answers.0.1, refl)
takes_fault t r s (Some was) (Some now) (TooLong offset) fine partly answers onward = (no_entry_lines t (Some (TooLong offset)) (to_come r was) answers.0.1, refl)
takes_fault t r s (Some was) (Some now) (TooManyEntries offset) fine partly answers onward = (no_entry_lines t (Some (TooManyEntries offset)) (to_come r was) answers.0.1, refl)

pub takes_nothing : (t : TailoringParts) (r s : Reading) (rest left : Option (List ℕ)) (x : ℕ × Entry) → Answers (Ok (Some x)) r rest s left → TakesLine (Err Memory) t r rest s left
takes_nothing t r s None left x answers = tt
takes_nothing t r s (Some was) None x answers = absurd (none_told answers.1)
takes_nothing t r s (Some was) (Some now) x answers = (tt, refl)

-- what stands on the sink
written_none : (before : Option (List ℕ)) → IsWritten before [] before
written_none None = tt
written_none (Some b) = ap Some (sym (append-nil b))

written_then : (before now after : Option (List ℕ)) (done line : List ℕ) → IsWritten before done now → IsWritten now line after → IsWritten before (done ++ line) after
written_then None now after done line one two = tt
written_then (Some b) None after done line one two = absurd (cc one)
written_then (Some b) (Some n) after done line one two =
    let is : n ≡ b ++ done = cc in
    two ∙ ap Some (ap (λ xs. xs ++ line) is ∙ append_assoc b done line)

written_as : (before now : Option (List ℕ)) (done text : List ℕ) → text ≡ done → IsWritten before done now → IsWritten before text now
written_as before now done text is written = subst (λ xs. IsWritten before xs now) (sym is) written

whole_within : (done rest text : List ℕ) → text ≡ done ++ rest → length done ≤ length text
whole_within done rest text is = let size = ap length is ∙ length-append done rest in omega (arith, size)

prefix_whole : (before now : Option (List ℕ)) (done rest text : List ℕ) → text ≡ done ++ rest → IsWritten before done now → IsPrefixWritten before text now
prefix_whole None now done rest text is written = (length done, whole_within done rest text is, tt)
prefix_whole (Some b) now done rest text is written =
    (length done, whole_within done rest text is, written ∙ ap (λ xs. Some (b ++ xs)) (sym (ap (take (length done)) is ∙ take-append_seam done rest)))

-- so much of a line behind what was written is a first part of the text
prefix_more : (before now after : Option (List ℕ)) (done line rest text : List ℕ) → text ≡ done ++ (line ++ rest) → IsWritten before done now → IsPrefixWritten now line after
    → IsPrefixWritten before text after
prefix_more None now after done line rest text is written part = (0, zero-le, tt)
prefix_more (Some b) None after done line rest text is written part = absurd (cc written)
prefix_more (Some b) (Some n) after done line rest text is written part =
    let count = part.0 in
    let at : n ≡ b ++ done = cc in
    let size = ap length is ∙ length-append done (line ++ rest) in
    let sizes = length-append line rest in
    let front : take (length done + count) text ≡ done ++ take count line =
    ap (take (length done + count)) is ∙ take-append-add done (line ++ rest) count ∙ ap (λ xs. done ++ xs) (take_line count line rest part.1) in (
      length done + count,
      omega (arith, size, sizes, part.1),
      part.2 ∙ ap Some (ap (λ xs. xs ++ take count line) at ∙ append_assoc b done (take count line) ∙ ap (λ xs. b ++ xs) (sym front)),
    )
  where
    take_line : (count : ℕ) (line rest : List ℕ) → count ≤ length line → take count (line ++ rest) ≡ take count line
    take_line count line rest within = take-append-le count line rest within

-- What was written of a record's octets, where the shelf has `left` of them: the octets that it gave, the lines so far, and the fault that is still to come.
pub record ShowsOn (t : TailoringParts) (octets : List ℕ) (r : Reading) (left : List ℕ) (before now : Option (List ℕ)) : Type 0 where
  pub given : List ℕ
  pub split : octets ≡ given ++ left
  pub done : List ℕ
  pub written : IsWritten before done now
  pub onward : (more : List ℕ) → show_text t (given ++ more) ≡ done ++ lines_to_come t (to_come r more)
  pub fault : record_fault octets ≡ fault_in (to_come r left)

-- the same where the shelf tells its octets
abbrev pub KeepsShown : TailoringParts → Option (List ℕ) → Reading → Option (List ℕ) → Option (List ℕ) → Option (List ℕ) → Type 0
KeepsShown t was r rest before now = IfSome was (λ octets. IfSome rest (λ left. ShowsOn t octets r left before now) × IsSome rest)

pub shows_start : (t : TailoringParts) (was before : Option (List ℕ)) → KeepsShown t was reading_at_start was before before
unfolding show_text
shows_start t None before = tt
shows_start t (Some octets) before =
    (record { given = []; split = refl; done = []; written = written_none before; onward = λ more. refl; fault = refl }, refl)

pub still_read : (t : TailoringParts) (was : Option (List ℕ)) (r : Reading) (rest before now : Option (List ℕ)) → KeepsShown t was r rest before now → IsSome was → IsSome rest
still_read t None r rest before now keeps some = absurd (none_told some)
still_read t (Some octets) r rest before now keeps some = keeps.1

-- a line more
pub shows_next : (t : TailoringParts) (was : Option (List ℕ)) (r s : Reading) (rest left before now after : Option (List ℕ)) (line : List ℕ)
    → KeepsShown t was r rest before now → TakesLine (Ok (Some line)) t r rest s left → IsWritten now line after → KeepsShown t was s left before after
shows_next t None r s rest left before now after line keeps takes writes = tt
shows_next t (Some octets) r s None left before now after line keeps takes writes = absurd (none_told keeps.1)
shows_next t (Some octets) r s (Some m) None before now after line keeps takes writes = absurd (none_told takes.1)
shows_next t (Some octets) r s (Some m) (Some a) before now after line keeps takes writes =
    let k = keeps.0 in
    let more_given = takes.0.0 in
    let step : (more : List ℕ) → show_text t ((k.given ++ more_given) ++ more) ≡ (k.done ++ line) ++ lines_to_come t (to_come s more) =
    λ more. ap (show_text t) (append_assoc k.given more_given more) ∙ k.onward (more_given ++ more)
    ∙ ap (λ xs. k.done ++ xs) (takes.0.2 more) ∙ sym (append_assoc k.done line (lines_to_come t (to_come s more))) in (
      record {
        given = k.given ++ more_given;
        split = k.split ∙ ap (λ xs. k.given ++ xs) takes.0.1 ∙ sym (append_assoc k.given more_given a);
        done = k.done ++ line;
        written = written_then before now after k.done line k.written writes;
        onward = step;
        fault = k.fault ∙ sym takes.0.3;
      },
      refl,
    )

whole : (t : TailoringParts) (octets : List ℕ) (r : Reading) (left : List ℕ) (before now : Option (List ℕ)) (k : ShowsOn t octets r left before now)
    → show_text t octets ≡ k.done ++ lines_to_come t (to_come r left)
whole t octets r left before now k = ap (show_text t) k.split ∙ k.onward left

all_done : (t : TailoringParts) (octets : List ℕ) (r : Reading) (left : List ℕ) (before now : Option (List ℕ)) → ShowsOn t octets r left before now
    → lines_to_come t (to_come r left) ≡ [] → IsWritten before (show_text t octets) now
all_done t octets r left before now k none =
    written_as before now k.done (show_text t octets) (whole t octets r left before now k ∙ ap (λ xs. k.done ++ xs) none ∙ append-nil k.done) k.written

-- the end of the record
pub shows_end : (t : TailoringParts) (was : Option (List ℕ)) (r s : Reading) (rest left before now : Option (List ℕ)) → KeepsShown t was r rest before now
    → TakesLine (Ok None) t r rest s left → IfSome was (λ octets. Shows (Ok tt) t octets left before now)
shows_end t None r s rest left before now keeps takes = tt
shows_end t (Some octets) r s None left before now keeps takes = absurd (none_told keeps.1)
shows_end t (Some octets) r s (Some m) None before now keeps takes = absurd (none_told takes.1)
shows_end t (Some octets) r s (Some m) (Some a) before now keeps takes =
    (keeps.0.fault ∙ takes.0.1, all_done t octets r m before now keeps.0 takes.0.0)

-- a fault
pub shows_fault : (t : TailoringParts) (was : Option (List ℕ)) (r s : Reading) (rest left before now : Option (List ℕ)) (fault : RecordFault) → KeepsShown t was r rest before now
    → TakesLine (Err fault) t r rest s left → IfSome was (λ octets. Shows (Err (fault_of_record fault)) t octets left before now)
shows_fault t None r s rest left before now fault keeps takes = tt
shows_fault t (Some octets) r s None left before now fault keeps takes = absurd (none_told keeps.1)
shows_fault t (Some octets) r s (Some m) None before now fault keeps takes = absurd (none_told takes.1)
shows_fault t (Some octets) r s (Some m) (Some a) before now ReadFault keeps takes =
    let k = keeps.0 in
    let more_given = takes.0.0 in
    let text : show_text t (k.given ++ more_given) ≡ k.done = k.onward more_given ∙ ap (λ xs. k.done ++ xs) takes.0.2 ∙ append-nil k.done in (
      (
        (
          k.given ++ more_given,
          k.split ∙ ap (λ xs. k.given ++ xs) takes.0.1 ∙ sym (append_assoc k.given more_given a),
          written_as before now k.done (show_text t (k.given ++ more_given)) text k.written,
        ),
        refl,
      ),
      prefix_whole before now k.done (lines_to_come t (to_come r m)) (show_text t octets) (whole t octets r m before now k) k.written,
    )
shows_fault t (Some octets) r s (Some m) (Some a) before now Memory keeps takes =
    prefix_whole before now keeps.0.done (lines_to_come t (to_come r m)) (show_text t octets) (whole t octets r m before now keeps.0) keeps.0.written
shows_fault t (Some octets) r s (Some m) (Some a) before now BadMagic keeps takes = (keeps.0.fault ∙ takes.0.1, all_done t octets r m before now keeps.0 takes.0.0)
shows_fault t (Some octets) r s (Some m) (Some a) before now (BadKind kind offset) keeps takes = (keeps.0.fault ∙ takes.0.1, all_done t octets r m before now keeps.0 takes.0.0)
shows_fault t (Some octets) r s (Some m) (Some a) before now (Cut offset) keeps takes = (keeps.0.fault ∙ takes.0.1, all_done t octets r m before now keeps.0 takes.0.0)
shows_fault t (Some octets) r s (Some m) (Some a) before now (TooLong offset) keeps takes = (keeps.0.fault ∙ takes.0.1, all_done t octets r m before now keeps.0 takes.0.0)
shows_fault t (Some octets) r s (Some m) (Some a) before now (TooManyEntries offset) keeps takes = (keeps.0.fault ∙ takes.0.1, all_done t octets r m before now keeps.0 takes.0.0)

part_of : (line : List ℕ) (written : Result Unit WriteFault) (now after : Option (List ℕ)) → is_err written ≡ true → Writes line written now after → IsPrefixWritten now line after
part_of line (Ok done) now after is writes = absurd (cc is)
part_of line (Err fault) now after is writes = writes

pub all_of : (line : List ℕ) (written : Result Unit WriteFault) (now after : Option (List ℕ)) → is_err written ≡ false → Writes line written now after → IsWritten now line after
all_of line (Ok done) now after is writes = writes
all_of line (Err fault) now after is writes = absurd (cc is)

-- a line that wasn't written whole
pub shows_part : (t : TailoringParts) (was : Option (List ℕ)) (r s : Reading) (rest left before now after : Option (List ℕ)) (line : List ℕ) (written : Result Unit WriteFault)
    → KeepsShown t was r rest before now → TakesLine (Ok (Some line)) t r rest s left → is_err written ≡ true → Writes line written now after
    → IfSome was (λ octets. Shows (Err run.WriteFault) t octets left before after)
shows_part t None r s rest left before now after line written keeps takes is writes = tt
shows_part t (Some octets) r s None left before now after line written keeps takes is writes = absurd (none_told keeps.1)
shows_part t (Some octets) r s (Some m) None before now after line written keeps takes is writes = absurd (none_told takes.1)
shows_part t (Some octets) r s (Some m) (Some a) before now after line written keeps takes is writes =
    let k = keeps.0 in
    let text : show_text t octets ≡ k.done ++ (line ++ lines_to_come t (to_come s a)) =
    whole t octets r m before now k ∙ ap (λ xs. k.done ++ lines_to_come t (to_come r xs)) takes.0.1 ∙ ap (λ xs. k.done ++ xs) (takes.0.2 a) in
    prefix_more before now after k.done line (lines_to_come t (to_come s a)) (show_text t octets) text k.written (part_of line written now after is writes)

-- where the room is told and enough for the whole text, it is enough for the lines that are still to come
abbrev pub KeepsRoom : TailoringParts → Option (List ℕ) → Option ℕ → Reading → Option (List ℕ) → Option ℕ → Type 0
KeepsRoom t was room r rest now =
    IfSome was (λ octets. IfSome room (λ whole. length (show_text t octets) ≤ whole → IfSome rest (λ left. IfSome now (λ free. length (lines_to_come t (to_come r left)) ≤ free) × IsSome now) × IsSome rest))

pub room_start : (t : TailoringParts) (was : Option (List ℕ)) (room : Option ℕ) → KeepsRoom t was room reading_at_start was room
unfolding show_text
room_start t None room = tt
room_start t (Some octets) None = tt
room_start t (Some octets) (Some free) = λ enough. ((enough, refl), refl)

no_room : IsSome {T = ℕ} None → ⊥
no_room e = cc

line_fits : (t : TailoringParts) (r s : Reading) (m a : List ℕ) (line : List ℕ) (free : ℕ) → IsFirstLine (Ok (Some line)) t r m s a → length (lines_to_come t (to_come r m)) ≤ free
    → length line + length (lines_to_come t (to_come s a)) ≤ free
line_fits t r s m a line free first enough =
    let is : lines_to_come t (to_come r m) ≡ line ++ lines_to_come t (to_come s a) = ap (λ xs. lines_to_come t (to_come r xs)) first.1 ∙ first.2 a in
    let size = ap length is ∙ length-append line (lines_to_come t (to_come s a)) in
    omega (arith, size, enough)

-- the room is less by a line that was written
abbrev LessBy : List ℕ → Option ℕ → Option ℕ → Type 0
LessBy line before after = IfSome before (λ room. length line ≤ room → after ≡ Some (room - length line))

less_by : (line : List ℕ) (written : Result Unit WriteFault) (before after : Option ℕ) → WritesWithin line written before after → LessBy line before after
less_by line written None after within = tt
less_by line written (Some room) after within = λ fits. (within fits).1

room_left : (line rest : List ℕ) (free : ℕ) (after : Option ℕ) → length line + length rest ≤ free → LessBy line (Some free) after
    → IfSome after (λ now. length rest ≤ now) × IsSome after
room_left line rest free None fits within = absurd (cc (within (omega arith)))
room_left line rest free (Some now) fits within =
    let is : now ≡ free - length line = same now (free - length line) (within (omega arith)) in
    (omega (arith, is, fits), refl)
  where
    same : (x y : ℕ) → Some x ≡ Some y → x ≡ y
    same x y e = cc

pub room_next : (t : TailoringParts) (was : Option (List ℕ)) (room : Option ℕ) (r s : Reading) (rest left : Option (List ℕ)) (now after : Option ℕ) (line : List ℕ) (written : Result Unit WriteFault)
    → KeepsRoom t was room r rest now → TakesLine (Ok (Some line)) t r rest s left → WritesWithin line written now after → KeepsRoom t was room s left after
room_next t None room r s rest left now after line written keeps takes within = tt
room_next t (Some octets) None r s rest left now after line written keeps takes within = tt
room_next t (Some octets) (Some free) r s None left now after line written keeps takes within = λ enough. absurd (none_told (keeps enough).1)
room_next t (Some octets) (Some free) r s (Some m) None now after line written keeps takes within = λ enough. absurd (none_told takes.1)
room_next t (Some octets) (Some free) r s (Some m) (Some a) None after line written keeps takes within = λ enough. absurd (no_room (keeps enough).0.1)
room_next t (Some octets) (Some free) r s (Some m) (Some a) (Some n) after line written keeps takes within =
    λ enough. (room_left line (lines_to_come t (to_come s a)) n after (line_fits t r s m a line n takes.0 (keeps enough).0.0) (less_by line written (Some n) after within), refl)

not_written : (written : Result Unit WriteFault) (line : List ℕ) (free : ℕ) (after : Option ℕ) (P : Type 0) → is_err written ≡ true → length line ≤ free → WritesWithin line written (Some free) after → P
not_written (Ok done) line free after P is fits within = absurd (cc is)
not_written (Err fault) line free after P is fits within = absurd (failing fault (within fits).0)
  where
    failing : (f : WriteFault) → IsOk {T = Unit} (Err f) → ⊥
    failing f ok = cc ok

-- with enough room a line is written
pub room_fails : (t : TailoringParts) (was : Option (List ℕ)) (room : Option ℕ) (r s : Reading) (rest left : Option (List ℕ)) (now after : Option ℕ) (line : List ℕ)
    (written : Result Unit WriteFault) (P : Type 0) → KeepsRoom t was room r rest now → TakesLine (Ok (Some line)) t r rest s left → is_err written ≡ true
    → WritesWithin line written now after → IfSome was (λ octets. IfSome room (λ whole. length (show_text t octets) ≤ whole → P))
room_fails t None room r s rest left now after line written P keeps takes is within = tt
room_fails t (Some octets) None r s rest left now after line written P keeps takes is within = tt
room_fails t (Some octets) (Some free) r s None left now after line written P keeps takes is within = λ enough. absurd (none_told (keeps enough).1)
room_fails t (Some octets) (Some free) r s (Some m) None now after line written P keeps takes is within = λ enough. absurd (none_told takes.1)
room_fails t (Some octets) (Some free) r s (Some m) (Some a) None after line written P keeps takes is within = λ enough. absurd (no_room (keeps enough).0.1)
room_fails t (Some octets) (Some free) r s (Some m) (Some a) (Some n) after line written P keeps takes is within =
    λ enough.
    let fits = line_fits t r s m a line n takes.0 (keeps enough).0.0 in
    not_written written line n after P is (omega (arith, fits)) within
