use Rattle.std.proofs.Common.{◌∙◌, Err, refl, ap, sym, subst}
use Rattle.std.specs.Prelude.{◌≡◌, List, Option, ℕ}
use Rattle.session_record.specs.Reading.{Reading, AreTaken, HasHeader, IsWithin, TakesFew, HoldsLess, octets_taken}
use Rattle.session_record.specs.declared.entry.RecordFault.{RecordFault}
use Rattle.session_record.proofs.WithinLemmas.{taken-then, taken-same, few-self}
use Rattle.session_record.proofs.ReadingLemmas.{again-answers, faulted-answers, lasting-counts, lasting-apart}
use Rattle.session_record.proofs.OnwardLemmas.{again-onward, faulted-onward}
use Rattle.session_record.proofs.reader.RecordReader.next.Goals as goal

pub returns-in-Some-clause-answer : goal.returns-in-Some-clause-answer
returns-in-Some-clause-answer g c =
    let kept = c.self.invariant.1 c.in-Some.fault c.in-Some.is in
    let P : Reading → Type 0 = λ s. HasHeader (Err c.in-Some.fault) s.header in
    again-answers c.args.self.now (g.F.Shelf.rest c.args.shelf.now) c.in-Some.fault (ap (λ (s : Reading). s.fault) (sym c.self.view_is) ∙ c.in-Some.is) kept.0
    (subst P c.self.view_is kept.1)

pub returns-in-Some-clause-unsettled : goal.returns-in-Some-clause-unsettled
returns-in-Some-clause-unsettled g c = λ is. absurd (lasting-apart c.in-Some.fault (c.self.invariant.1 c.in-Some.fault c.in-Some.is).0 (cc is))

pub returns-in-Some-clause-count : goal.returns-in-Some-clause-count
returns-in-Some-clause-count g c = lasting-counts c.in-Some.fault (g.F.Shelf.faults c.args.shelf.now) (c.self.invariant.1 c.in-Some.fault c.in-Some.is).0

pub returns-in-Some-clause-sound : goal.returns-in-Some-clause-sound
returns-in-Some-clause-sound g c = λ _ _ is. lasting-apart c.in-Some.fault (c.self.invariant.1 c.in-Some.fault c.in-Some.is).0 (cc is)

pub returns-clause-answer : goal.returns-clause-answer
returns-clause-answer g c =
    let result = c.read_next-answer.result in
    let after = ap (λ (s : Reading). record s { fault = c.lasting_fault-self-inside.result }) c.self-2.view_is
    ∙ ap (λ f. record c.read_next-answer.new.self { fault = f }) c.lasting_fault-self-inside.ensures in
    faulted-answers c.args.self.now c.read_next-answer.new.self _ (g.F.Shelf.rest c.args.shelf.now) (g.F.Shelf.rest c.read_next-answer.new.shelf) result after
    c.read_next-answer.ensures.fault c.read_next-answer.ensures.header c.read_next-answer.ensures.answer

pub returns-in-Some-clause-goes_on : goal.returns-in-Some-clause-goes_on
returns-in-Some-clause-goes_on g c = again-onward c.args.self.now (g.F.Shelf.rest c.args.shelf.now) c.in-Some.fault

pub returns-clause-goes_on : goal.returns-clause-goes_on
returns-clause-goes_on g c =
    let result = c.read_next-answer.result in
    let after = ap (λ (s : Reading). record s { fault = c.lasting_fault-self-inside.result }) c.self-2.view_is
    ∙ ap (λ f. record c.read_next-answer.new.self { fault = f }) c.lasting_fault-self-inside.ensures in
    faulted-onward c.args.self.now c.read_next-answer.new.self _ (g.F.Shelf.rest c.args.shelf.now) (g.F.Shelf.rest c.read_next-answer.new.shelf) result after
    c.read_next-answer.ensures.fault c.read_next-answer.ensures.goes_on

-- keeping a fault takes nothing
faulted-taken : (s0 s1 s2 : Reading) (fault : Option RecordFault) (r0 r1 : Option (List ℕ)) → s2 ≡ record s1 { fault = fault } → AreTaken s0 r0 s1 r1 → AreTaken s0 r0 s2 r1
faulted-taken s0 s1 s2 fault r0 r1 is taken = taken-then s0 s1 s2 r0 r1 r1 taken (taken-same s1 s2 r1 (ap octets_taken is))

pub returns-in-Some-clause-taken : goal.returns-in-Some-clause-taken
returns-in-Some-clause-taken g c = taken-same c.args.self.now c.args.self.now (g.F.Shelf.rest c.args.shelf.now) refl

pub returns-in-Some-clause-few : goal.returns-in-Some-clause-few
returns-in-Some-clause-few g c = few-self c.args.self.now (subst (λ (r : Reading). IsWithin r) c.self.view_is c.self.invariant.3)

pub returns-clause-taken : goal.returns-clause-taken
returns-clause-taken g c =
    let rest = g.F.Shelf.rest in
    let after = ap (λ (s : Reading). record s { fault = c.lasting_fault-self-inside.result }) c.self-2.view_is in
    faulted-taken c.args.self.now c.read_next-answer.new.self _ c.lasting_fault-self-inside.result (rest c.args.shelf.now) (rest c.read_next-answer.new.shelf) after
    c.read_next-answer.ensures.taken

pub returns-clause-few : goal.returns-clause-few
returns-clause-few g c =
    let after = ap (λ (s : Reading). record s { fault = c.lasting_fault-self-inside.result }) c.self-2.view_is in
    subst (TakesFew c.args.self.now) (sym after) c.read_next-answer.ensures.few

pub returns-clause-ahead : goal.returns-clause-ahead
returns-clause-ahead g c =
    let after = ap (λ (s : Reading). record s { fault = c.lasting_fault-self-inside.result }) c.self-2.view_is in
    subst (HoldsLess c.read_next-answer.result) (sym after) c.read_next-answer.ensures.ahead
