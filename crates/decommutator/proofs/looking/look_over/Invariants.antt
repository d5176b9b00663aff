use Rattle.std.proofs.Common.{◌≡◌, ◌++◌, Ok, filter, flat_map, drop, true}
use Rattle.std.specs.List.{AllByRecursion}
use Rattle.live_verdicts.specs.Marks.{StandsFor}
use Rattle.decommutator.specs.Due.{due_text, waits, is_same}
use Rattle.decommutator.specs.Output.{Proceeds, as_seen}
use Rattle.decommutator.proofs.looking.look_over.Given as goal

abbrev pub invariant-loop-tag : goal.invariant-loop-tag
invariant-loop-tag g l =
    record {
      ahead : Proceeds
          (l.fn.out.items ++ flat_map (due_text l.history) l.tags)
          (as_seen g.K.Sink l.fn.sink)
          (Ok tt)
          (l.out.items ++ flat_map (due_text l.history) (drop l.tag-index l.tags))
          (as_seen g.K.Sink l.sink);
      waiting : l.waiting.items ++ filter (waits l.history) (drop l.tag-index l.tags) ≡ l.fn.waiting.items ++ filter (waits l.history) l.tags;
      stands : StandsFor l.live l.history;
      same : AllByRecursion (λ tag. is_same l.changed tag ≡ true → waits l.history tag ≡ true) (drop l.tag-index l.tags);
    }
