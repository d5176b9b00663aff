use Rattle.std.proofs.Common.{◌≡◌, ◌++◌, length, take, drop, rules, sym, ◌∙◌, ap, subst}
use Rattle.std.proofs.Math.Seq.{take-append_seam}
use Rattle.sampler_threads.specs.Rings.{Received, TookKnown, TookInTurn}
use Rattle.sampler_threads.proofs.executor.Executor.drain.Goals as goal

pub returns-in-Ok-clause-taken : goal.returns-in-Ok-clause-taken
returns-in-Ok-clause-taken c =
    let d = c.in-Ok.ensures.taken in
    let old = c.args.self.now.rings.items in
    let new = c.drain_rings.new.rings in
    let value = c.as_mut_slice-rings.ensures.value in
    let len : c.args.self.now.rings.len ≡ length new = search rules in
    let back : take c.args.self.now.rings.len (new ++ drop (length new) old) ≡ new =
    ap (λ n. take n (new ++ drop (length new) old)) len ∙ take-append_seam new (drop (length new) old) in (
      d.0,
      d.1,
      subst (λ w. Received old d.0 w) (sym back) (subst (λ w. Received w d.0 new) value d.2),
      subst (λ w. TookInTurn w d.0) value d.3,
      subst (λ w. TookKnown w d.0) value d.4,
    )
