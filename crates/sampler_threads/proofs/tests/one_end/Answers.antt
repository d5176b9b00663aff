use Rattle.std.proofs.Common.{List, sym, subst}
use Rattle.sampler_threads.specs.Executors.{rings_of}
use Rattle.sampler_threads.specs.Slots.{WithEach, IsEndOf}
use Rattle.sampler_threads.specs.declared.end.SamplerEnd.{SamplerEnd}
use Rattle.sampler_threads.proofs.tests.one_end.Goals as goal

-- new ends are those of their rings
pub returns : goal.returns
returns c =
    let made = c.in_ok-executor in
    let fresh = made.ensures.fresh in
    subst (λ (ends : List SamplerEnd). WithEach IsEndOf (rings_of made.executor) ends) (sym c.into_vec.ensures)
    (record { count = fresh.count; each = λ k r end below. (fresh.each k r end below).0 })
