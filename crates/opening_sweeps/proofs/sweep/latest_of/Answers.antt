use Rattle.std.proofs.Common.{arith, ◌≡◌, ◌∙◌, ◌+◌, ◌<◌, ◌≤◌, ◌++◌, ◌∷◌, [], List, length, sym, ap, take, drop}
use Rattle.opening_sweeps.specs.Requests.{Start}
use Rattle.opening_sweeps.specs.Sweeps.{last_tag}
use Rattle.opening_sweeps.proofs.StartLemmas.{part-more, part-none, last-append}
use Rattle.opening_sweeps.proofs.sweep.latest_of.Goals as goal

pub loop-place-init : goal.loop-place-init
loop-place-init c =
    let within : c.args.from ≤ length c.args.starts.now = omega arith in
    sym (ap (λ (xs : List Start). last_tag c.args.latest xs) (part-none c.args.starts.now c.args.from within))

pub loop-place-preserved : goal.loop-place-preserved
loop-place-preserved c =
    let ss = c.args.starts.now in
    let from = c.args.from in
    let i = c.loop-place.place in
    let s = c.index-starts-place.result in
    let order : from ≤ i = omega arith in
    let within : i < length ss = omega arith in
    ap (λ (x : Start). x.tag) c.start.view_is
    ∙ sym (ap (λ (xs : List Start). last_tag c.args.latest xs) (part-more ss from i s order within c.index-starts-place.is) ∙ last-append c.args.latest (drop from (take i ss)) (s ∷ []))
