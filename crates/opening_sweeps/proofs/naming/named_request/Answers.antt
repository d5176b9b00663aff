use Rattle.std.proofs.Common.{arith, ◌≡◌, ◌∙◌, ◌+◌, ◌<◌, ◌≤◌, length, sym, ap, Option, Some, None, ℕ, List, take, drop}
use Rattle.std.specs.Prelude.{unwrap_or}
use Rattle.definition_intervals.specs.Openings.{Candidate, is_open}
use Rattle.definition_intervals.specs.Founds.{first_after_all}
use Rattle.opening_sweeps.specs.Requests.{Bounded}
use Rattle.opening_sweeps.specs.Groups.{unsure}
use Rattle.opening_sweeps.proofs.FoldLemmas.{first-kept, first-open, first-closed, tail-split}
use Rattle.opening_sweeps.proofs.naming.named_request.Goals as goal

pub returns-in-Some : goal.returns-in-Some
returns-in-Some c =
    let tail = drop c.args.settled (take c.args.listed c.args.requests.now) in
    sym (ap (λ (f : Option ℕ). unwrap_or (first_after_all (unsure tail) f) 0) c.in-Some.is ∙ ap (λ (f : Option ℕ). unwrap_or f 0) (first-kept tail c.in-Some.first))

pub loop-place-preserved : goal.loop-place-preserved
loop-place-preserved c =
    let rs = c.args.requests.now in
    let i = c.loop-place.place in
    let to = c.args.listed in
    let r = c.index-requests-place.result in
    let low : i < to = omega arith in
    let closed = ap (λ (x : Candidate). is_open x) (sym c.as_request-request.ensures) ∙ (sym c.is_open.ensures ∙ c.if-is_open.false) in
    let split = tail-split rs i to r low c.requires.within c.index-requests-place.is in
    sym (first-closed r (drop (i + 1) (take to rs)) closed) ∙ (ap (λ (xs : List Bounded). first_after_all (unsure xs) None) (sym split) ∙ c.loop-place.invariant)

pub returns-then-is_open : goal.returns-then-is_open
returns-then-is_open c =
    let rs = c.args.requests.now in
    let i = c.loop-place.place in
    let to = c.args.listed in
    let r = c.index-requests-place.result in
    let low : i < to = omega arith in
    let opens = ap (λ (x : Candidate). is_open x) (sym c.as_request-request.ensures) ∙ (sym c.is_open.ensures ∙ c.if-is_open.true) in
    let split = tail-split rs i to r low c.requires.within c.index-requests-place.is in
    let whole = sym c.loop-place.invariant ∙ (ap (λ (xs : List Bounded). first_after_all (unsure xs) None) split ∙ first-open r (drop (i + 1) (take to rs)) opens) in
    let number = ap (λ (x : Candidate). x.number) c.request.view_is ∙ ap (λ (x : Candidate). x.number) c.as_request-request.ensures in
    number ∙ sym (ap (λ (f : Option ℕ). unwrap_or (first_after_all (unsure (drop c.args.settled (take to rs))) f) 0) c.in_default.is ∙ ap (λ (f : Option ℕ). unwrap_or f 0) whole)
