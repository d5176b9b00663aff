use Rattle.std.proofs.Common.{rules, ◌≡◌, ◌+◌, ◌≤◌, List, ℕ, Some, Result, Ok, Err, length, drop, subst, sym, ap}
use Rattle.std.specs.Prelude.{slice_get}
use Rattle.std.proofs.lemmas.Result.{err_from_is_err_and}
use Rattle.journal_texts.specs.JournalTexts.{journal_text}
use Rattle.session_record.specs.Records.{entry_octets}
use Rattle.session_record.specs.declared.entry.Entry.TheVariants.{Line}
use Rattle.session_record.specs.declared.entry.WriteFault.{WriteFault}
use Rattle.run_records.specs.Putting.{Puts, as_seen, lines_of}
use Rattle.run_records.proofs.PuttingLemmas.{puts-then, puts-front, puts-nothing, lines-from, drop-none}
use Rattle.run_records.proofs.putting.put_moments.Goals as goal

pub returns-in_err-put_moment : goal.returns-in_err-put_moment
returns-in_err-put_moment g c =
    let now = as_seen g.K.Sink c.loop-number.sink in
    let after = as_seen g.K.Sink c.put_moment.new.sink in
    let text = entry_octets (Line (journal_text c.in-Some.moment.now)) in
    let rest = lines_of (drop (c.loop-number.number + 1) c.args.journal.now) in
    let there : slice_get c.args.journal.now c.loop-number.number ≡ Some c.in-Some.moment.now = search rules in
    let fault = c.in_err-put_moment.field-0.0 in
    let p = err_from_is_err_and c.from_residual.result c.from_residual.ensures.1 in
    let P : List ℕ → Type 0 = λ octets. Puts octets (Err fault) now after in
    let Q : Result Unit WriteFault → Type 0 = λ result. Puts (lines_of (drop c.args.from c.args.journal.now)) result (as_seen g.K.Sink c.args.sink.now) after in
    let R : WriteFault → Type 0 = λ f. Q (Err f) in
    subst Q (sym p.1) (subst R (sym p.2) (c.loop-number.invariant (Err fault) after
    (subst P (sym (lines-from c.args.journal.now c.loop-number.number c.in-Some.moment.now there)) (puts-front text rest fault now after c.in_err-put_moment.ensures))))

pub loop-number-preserved : goal.loop-number-preserved
loop-number-preserved g c = λ result after later.
    let now = as_seen g.K.Sink c.loop-number.sink in
    let mid = as_seen g.K.Sink c.put_moment.new.sink in
    let text = entry_octets (Line (journal_text c.in-Some.moment.now)) in
    let rest = lines_of (drop (c.loop-number.number + 1) c.args.journal.now) in
    let there : slice_get c.args.journal.now c.loop-number.number ≡ Some c.in-Some.moment.now = search rules in
    let P : List ℕ → Type 0 = λ octets. Puts octets result now after in
    c.loop-number.invariant result after
    (subst P (sym (lines-from c.args.journal.now c.loop-number.number c.in-Some.moment.now there)) (puts-then text rest result now mid after c.in_ok-put_moment.ensures later))

pub returns : goal.returns
returns g c =
    let now = as_seen g.K.Sink c.loop-number.sink in
    let past : length c.args.journal.now ≤ c.loop-number.number = search rules in
    let P : List ℕ → Type 0 = λ octets. Puts octets (Ok tt) now now in
    c.loop-number.invariant (Ok tt) now (subst P (ap lines_of (sym (drop-none c.args.journal.now c.loop-number.number past))) (puts-nothing now))
