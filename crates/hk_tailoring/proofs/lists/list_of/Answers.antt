use Rattle.std.proofs.Common.{refl, map}
use Rattle.toml.specs.View.{view}
use Rattle.hk_tailoring.proofs.ListLemmas.{values_of-items_of}
use Rattle.hk_tailoring.proofs.lists.list_of.Goals as goal

pub returns-in-Some : goal.returns-in-Some
returns-in-Some c = rw (← c.in-Some.ensures, values_of-items_of (map view c.in-Some.array.now.items), c.as_slice.ensures.value) refl
