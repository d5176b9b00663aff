-- The steps follow one another: gathering, taking the header off, gathering, taking the entry off.
use Rattle.std.proofs.Common.{◌∙◌, ℕ, Option, Result, Err, ap, sym, subst}
use Rattle.std.proofs.lemmas.Result.{err_from_is_err_and}
use Rattle.session_record.proofs.ReadingLemmas.{gathered, bad-magic, read-failed, prepared, read-answers, read-moves, settled-ready, settled-on, kept, header-missing}
use Rattle.session_record.proofs.WithinLemmas.{gathered-taken, taken-then, taken-same, few-then, entry-has-header, header-stays, unready-unsettled}
use Rattle.session_record.specs.Reading.{Reading, HoldsLess, HasHeader}
use Rattle.session_record.specs.declared.entry.Entry.{Entry}
use Rattle.session_record.specs.declared.entry.RecordFault.{RecordFault}
use Rattle.session_record.proofs.OnwardLemmas.{failed-onward, missing-onward, failed-behind, read-onward}
use Rattle.session_record.proofs.reader.RecordReader.read_next.Goals as goal

pub returns-in_err-take_header-clause-answer : goal.returns-in_err-take_header-clause-answer
returns-in_err-take_header-clause-answer g c =
    let rest = g.F.Shelf.rest in
    let from = c.from_residual-in_err-take_header in
    let p = err_from_is_err_and from.result from.ensures.1 in
    rw (p.1, p.2) (bad-magic c.args.self.now c.gather.new.self c.take_header.new.self (rest c.args.shelf.now) (rest c.gather.new.shelf) c.in_err-take_header.field-0.0
    c.requires c.in_ok-gather.ensures.held
    (gathered c.args.self.now c.gather.new.self (rest c.args.shelf.now) (rest c.gather.new.shelf) c.in_ok-gather.ensures.held c.in_ok-gather.ensures.ahead)
    c.in_ok-gather.ensures.enough c.in_err-take_header.ensures.header)

pub returns-in_err-take_header-clause-settled : goal.returns-in_err-take_header-clause-settled
returns-in_err-take_header-clause-settled g c = λ settled. (c.in_ok-gather.ensures.ready (settled-ready c.args.self.now c.requires settled)).1

pub returns-in_err-gather-2-clause-answer : goal.returns-in_err-gather-2-clause-answer
returns-in_err-gather-2-clause-answer g c =
    let rest = g.F.Shelf.rest in
    let from = c.from_residual-in_err-gather-2 in
    let p = err_from_is_err_and from.result from.ensures.1 in
    rw (p.1, p.2) (read-failed c.args.self.now c.gather-2.new.self (rest c.args.shelf.now) (rest c.gather-2.new.shelf) c.in_err-gather-2.field-0.0
    c.in_err-gather-2.ensures.err.0
    (prepared c.args.self.now c.gather.new.self c.take_header.new.self c.gather-2.new.self (rest c.args.shelf.now) (rest c.gather.new.shelf) (rest c.gather-2.new.shelf)
    c.requires c.in_ok-gather.ensures.held c.in_ok-gather.ensures.ahead c.in_ok-take_header.ensures.header c.in_err-gather-2.ensures.held c.in_err-gather-2.ensures.ahead))

pub returns-in_err-gather-2-clause-settled : goal.returns-in_err-gather-2-clause-settled
returns-in_err-gather-2-clause-settled g c = λ settled.
    let first = c.in_ok-gather.ensures.ready (settled-ready c.args.self.now c.requires settled) in
    (c.in_err-gather-2.ensures.ready (settled-on c.args.self.now c.gather.new.self c.take_header.new.self c.requires settled first.0 c.in_ok-take_header.ensures.header)).1 ∙ first.1

pub returns-clause-answer : goal.returns-clause-answer
returns-clause-answer g c =
    let rest = g.F.Shelf.rest in
    read-answers c.args.self.now c.gather.new.self c.take_header.new.self c.gather-2.new.self c.take_entry.new.self
    (rest c.args.shelf.now) (rest c.gather.new.shelf) (rest c.gather-2.new.shelf) c.take_entry.result c.requires
    c.in_ok-gather.ensures.held c.in_ok-gather.ensures.ahead c.in_ok-take_header.ensures.header
    c.in_ok-gather-2.ensures.held c.in_ok-gather-2.ensures.ahead c.in_ok-gather-2.ensures.enough c.take_entry.ensures.taken

pub returns-clause-moves : goal.returns-clause-moves
returns-clause-moves g c =
    (read-moves c.args.self.now c.gather.new.self c.take_header.new.self c.gather-2.new.self c.take_entry.new.self c.take_entry.result
    c.in_ok-gather.ensures.held c.in_ok-take_header.ensures.header c.in_ok-gather-2.ensures.held c.take_entry.ensures.taken).0

pub returns-clause-fault : goal.returns-clause-fault
returns-clause-fault g c =
    (read-moves c.args.self.now c.gather.new.self c.take_header.new.self c.gather-2.new.self c.take_entry.new.self c.take_entry.result
    c.in_ok-gather.ensures.held c.in_ok-take_header.ensures.header c.in_ok-gather-2.ensures.held c.take_entry.ensures.taken).1 ∙ c.requires

pub returns-clause-settled : goal.returns-clause-settled
returns-clause-settled g c = λ settled.
    let first = c.in_ok-gather.ensures.ready (settled-ready c.args.self.now c.requires settled) in
    (c.in_ok-gather-2.ensures.ready (settled-on c.args.self.now c.gather.new.self c.take_header.new.self c.requires settled first.0 c.in_ok-take_header.ensures.header)).1 ∙ first.1

pub returns-in_err-gather-clause-goes_on : goal.returns-in_err-gather-clause-goes_on
returns-in_err-gather-clause-goes_on g c =
    let rest = g.F.Shelf.rest in
    let from = c.from_residual in
    let p = err_from_is_err_and from.result from.ensures.1 in
    rw (p.1, p.2) (failed-onward c.args.self.now c.gather.new.self (rest c.args.shelf.now) (rest c.gather.new.shelf) c.in_err-gather.field-0.0
    c.in_err-gather.ensures.err.0 c.in_err-gather.ensures.held c.in_err-gather.ensures.gains)

pub returns-in_err-take_header-clause-goes_on : goal.returns-in_err-take_header-clause-goes_on
returns-in_err-take_header-clause-goes_on g c =
    let rest = g.F.Shelf.rest in
    let from = c.from_residual-in_err-take_header in
    let p = err_from_is_err_and from.result from.ensures.1 in
    rw (p.1, p.2) (missing-onward c.args.self.now c.gather.new.self c.take_header.new.self (rest c.args.shelf.now) (rest c.gather.new.shelf) c.in_err-take_header.field-0.0
    c.in_ok-gather.ensures.gains c.in_err-take_header.ensures.header)

pub returns-in_err-gather-2-clause-goes_on : goal.returns-in_err-gather-2-clause-goes_on
returns-in_err-gather-2-clause-goes_on g c =
    let rest = g.F.Shelf.rest in
    let from = c.from_residual-in_err-gather-2 in
    let p = err_from_is_err_and from.result from.ensures.1 in
    rw (p.1, p.2) (failed-behind c.args.self.now c.gather.new.self c.take_header.new.self c.gather-2.new.self (rest c.args.shelf.now) (rest c.gather.new.shelf) (rest c.gather-2.new.shelf)
    c.in_err-gather-2.field-0.0 c.in_err-gather-2.ensures.err.0 c.requires c.in_ok-gather.ensures.held c.in_ok-gather.ensures.gains c.in_ok-take_header.ensures.header
    c.in_err-gather-2.ensures.held c.in_err-gather-2.ensures.gains)

pub returns-clause-goes_on : goal.returns-clause-goes_on
returns-clause-goes_on g c =
    let rest = g.F.Shelf.rest in
    read-onward c.args.self.now c.gather.new.self c.take_header.new.self c.gather-2.new.self c.take_entry.new.self
    (rest c.args.shelf.now) (rest c.gather.new.shelf) (rest c.gather-2.new.shelf) c.take_entry.result c.requires
    c.in_ok-gather.ensures.held c.in_ok-gather.ensures.gains c.in_ok-take_header.ensures.header
    c.in_ok-gather-2.ensures.held c.in_ok-gather-2.ensures.gains c.take_entry.ensures.taken

pub returns-in_err-gather-clause-taken : goal.returns-in_err-gather-clause-taken
returns-in_err-gather-clause-taken g c =
    gathered-taken c.args.self.now c.gather.new.self (g.F.Shelf.rest c.args.shelf.now) (g.F.Shelf.rest c.gather.new.shelf) c.in_err-gather.ensures.held c.in_err-gather.ensures.ahead

pub returns-in_err-gather-clause-few : goal.returns-in_err-gather-clause-few
returns-in_err-gather-clause-few g c = c.in_err-gather.ensures.few

pub returns-in_err-gather-clause-ahead : goal.returns-in_err-gather-clause-ahead
returns-in_err-gather-clause-ahead g c =
    let p = err_from_is_err_and c.from_residual.result c.from_residual.ensures.1 in
    let P : Result (Option (ℕ × Entry)) RecordFault → Type 0 = λ r. HoldsLess r c.gather.new.self in
    subst P (sym p.1) tt

pub returns-in_err-take_header-clause-taken : goal.returns-in_err-take_header-clause-taken
returns-in_err-take_header-clause-taken g c =
    let rest = g.F.Shelf.rest in
    taken-then c.args.self.now c.gather.new.self c.take_header.new.self (rest c.args.shelf.now) (rest c.gather.new.shelf) (rest c.gather.new.shelf)
    (gathered-taken c.args.self.now c.gather.new.self (rest c.args.shelf.now) (rest c.gather.new.shelf) c.in_ok-gather.ensures.held c.in_ok-gather.ensures.ahead)
    (taken-same c.gather.new.self c.take_header.new.self (rest c.gather.new.shelf) c.in_err-take_header.ensures.same)

pub returns-in_err-take_header-clause-few : goal.returns-in_err-take_header-clause-few
returns-in_err-take_header-clause-few g c =
    few-then c.args.self.now c.gather.new.self c.take_header.new.self c.in_ok-gather.ensures.few c.in_err-take_header.ensures.few

pub returns-in_err-take_header-clause-ahead : goal.returns-in_err-take_header-clause-ahead
returns-in_err-take_header-clause-ahead g c =
    let p = err_from_is_err_and c.from_residual-in_err-take_header.result c.from_residual-in_err-take_header.ensures.1 in
    let P : Result (Option (ℕ × Entry)) RecordFault → Type 0 = λ r. HoldsLess r c.take_header.new.self in
    subst P (sym p.1) tt

pub returns-in_err-gather-2-clause-taken : goal.returns-in_err-gather-2-clause-taken
returns-in_err-gather-2-clause-taken g c =
    let rest = g.F.Shelf.rest in
    taken-then c.args.self.now c.take_header.new.self c.gather-2.new.self (rest c.args.shelf.now) (rest c.gather.new.shelf) (rest c.gather-2.new.shelf)
    (taken-then c.args.self.now c.gather.new.self c.take_header.new.self (rest c.args.shelf.now) (rest c.gather.new.shelf) (rest c.gather.new.shelf)
    (gathered-taken c.args.self.now c.gather.new.self (rest c.args.shelf.now) (rest c.gather.new.shelf) c.in_ok-gather.ensures.held c.in_ok-gather.ensures.ahead)
    (taken-same c.gather.new.self c.take_header.new.self (rest c.gather.new.shelf) c.in_ok-take_header.ensures.same))
    (gathered-taken c.take_header.new.self c.gather-2.new.self (rest c.gather.new.shelf) (rest c.gather-2.new.shelf) c.in_err-gather-2.ensures.held c.in_err-gather-2.ensures.ahead)

pub returns-in_err-gather-2-clause-few : goal.returns-in_err-gather-2-clause-few
returns-in_err-gather-2-clause-few g c =
    few-then c.args.self.now c.take_header.new.self c.gather-2.new.self
    (few-then c.args.self.now c.gather.new.self c.take_header.new.self c.in_ok-gather.ensures.few c.in_ok-take_header.ensures.few) c.in_err-gather-2.ensures.few

pub returns-in_err-gather-2-clause-ahead : goal.returns-in_err-gather-2-clause-ahead
returns-in_err-gather-2-clause-ahead g c =
    let p = err_from_is_err_and c.from_residual-in_err-gather-2.result c.from_residual-in_err-gather-2.ensures.1 in
    let P : Result (Option (ℕ × Entry)) RecordFault → Type 0 = λ r. HoldsLess r c.gather-2.new.self in
    subst P (sym p.1) tt

pub returns-in_err-gather-2-clause-fault : goal.returns-in_err-gather-2-clause-fault
returns-in_err-gather-2-clause-fault g c =
    (kept c.args.self.now c.gather.new.self c.take_header.new.self c.gather-2.new.self c.in_ok-gather.ensures.held c.in_ok-take_header.ensures.header c.in_err-gather-2.ensures.held).2 ∙ c.requires

pub returns-in_err-gather-2-clause-unsettled : goal.returns-in_err-gather-2-clause-unsettled
returns-in_err-gather-2-clause-unsettled g c = λ _.
    unready-unsettled c.gather-2.new.self
    ((kept c.args.self.now c.gather.new.self c.take_header.new.self c.gather-2.new.self c.in_ok-gather.ensures.held c.in_ok-take_header.ensures.header c.in_err-gather-2.ensures.held).2 ∙ c.requires)
    c.in_err-gather-2.ensures.err.1

pub take_entry-requires : goal.take_entry-requires
take_entry-requires g c =
    (kept c.args.self.now c.gather.new.self c.take_header.new.self c.gather-2.new.self c.in_ok-gather.ensures.held c.in_ok-take_header.ensures.header c.in_ok-gather-2.ensures.held).3

pub returns-clause-taken : goal.returns-clause-taken
returns-clause-taken g c =
    let rest = g.F.Shelf.rest in
    taken-then c.args.self.now c.gather-2.new.self c.take_entry.new.self (rest c.args.shelf.now) (rest c.gather-2.new.shelf) (rest c.gather-2.new.shelf)
    (taken-then c.args.self.now c.take_header.new.self c.gather-2.new.self (rest c.args.shelf.now) (rest c.gather.new.shelf) (rest c.gather-2.new.shelf)
    (taken-then c.args.self.now c.gather.new.self c.take_header.new.self (rest c.args.shelf.now) (rest c.gather.new.shelf) (rest c.gather.new.shelf)
    (gathered-taken c.args.self.now c.gather.new.self (rest c.args.shelf.now) (rest c.gather.new.shelf) c.in_ok-gather.ensures.held c.in_ok-gather.ensures.ahead)
    (taken-same c.gather.new.self c.take_header.new.self (rest c.gather.new.shelf) c.in_ok-take_header.ensures.same))
    (gathered-taken c.take_header.new.self c.gather-2.new.self (rest c.gather.new.shelf) (rest c.gather-2.new.shelf) c.in_ok-gather-2.ensures.held c.in_ok-gather-2.ensures.ahead))
    (taken-same c.gather-2.new.self c.take_entry.new.self (rest c.gather-2.new.shelf) c.take_entry.ensures.same)

pub returns-clause-few : goal.returns-clause-few
returns-clause-few g c =
    few-then c.args.self.now c.gather-2.new.self c.take_entry.new.self
    (few-then c.args.self.now c.take_header.new.self c.gather-2.new.self
    (few-then c.args.self.now c.gather.new.self c.take_header.new.self c.in_ok-gather.ensures.few c.in_ok-take_header.ensures.few) c.in_ok-gather-2.ensures.few)
    c.take_entry.ensures.few

pub returns-clause-ahead : goal.returns-clause-ahead
returns-clause-ahead g c = c.take_entry.ensures.ahead

pub returns-clause-header : goal.returns-clause-header
returns-clause-header g c =
    entry-has-header c.gather-2.new.self c.take_entry.new.self _ c.take_entry.result c.take_entry.ensures.taken
    (kept c.args.self.now c.gather.new.self c.take_header.new.self c.gather-2.new.self c.in_ok-gather.ensures.held c.in_ok-take_header.ensures.header c.in_ok-gather-2.ensures.held).3

pub returns-clause-same_header : goal.returns-clause-same_header
returns-clause-same_header g c =
    header-stays c.args.self.now c.gather.new.self c.take_header.new.self c.gather-2.new.self c.take_entry.new.self _ c.take_entry.result
    c.in_ok-gather.ensures.held c.in_ok-take_header.ensures.header c.in_ok-gather-2.ensures.held c.take_entry.ensures.taken

pub returns-in_err-take_header-clause-header : goal.returns-in_err-take_header-clause-header
returns-in_err-take_header-clause-header g c =
    let m = header-missing c.gather.new.self c.take_header.new.self c.in_err-take_header.field-0.0 c.in_err-take_header.ensures.header in
    let p = err_from_is_err_and c.from_residual-in_err-take_header.result c.from_residual-in_err-take_header.ensures.1 in
    let P : RecordFault → Type 0 = λ f. HasHeader (Err f) c.take_header.new.self.header in
    rw (p.1, p.2) (subst P (sym m.0) (ap (λ (s : Reading). s.header) m.1 ∙ m.2))
