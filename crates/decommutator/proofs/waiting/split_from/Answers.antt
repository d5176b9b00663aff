use Rattle.std.proofs.Common.{rules, nat_lt, sym, subst, ◌≡◌, ◌<◌, ◌≤◌, take, drop, List, ℕ, true, false}
use Rattle.std.specs.List.{AllByRecursion}
use Rattle.std.specs.List.Sorted.{IsPartitionPoint}
use Rattle.std.proofs.lemmas.List.Sorted.{IsPartitionPoint-from_clause}
use Rattle.decommutator.specs.Due.{AreRising}
use Rattle.decommutator.proofs.TagLemmas.{rising-parted, front-below, behind-later}
use Rattle.decommutator.proofs.waiting.split_from.Goals as goal

pub returns-clause-below : goal.returns-clause-below
returns-clause-below c =
    let from = c.args.from in
    let seen = c.deref.result.now in
    let is = c.deref.ensures.value in
    let place = c.partition_point-place.result in
    let rising = subst AreRising (sym is) c.requires in
    let point : IsPartitionPoint (λ x. nat_lt x from ≡ true) (λ x. nat_lt x from ≡ false) seen place =
    IsPartitionPoint-from_clause (λ x. nat_lt x from) _ _ c.partition_point-place.ensures.partitioned (rising-parted seen from rising) (λ a r q k. search rules) in
    let front = front-below seen from place c.partition_point-place.ensures.bound point in
    let P : List ℕ → Type 0 = λ l. AllByRecursion (λ tag. tag < from) (take place l) in
    subst (AllByRecursion (λ tag. tag < from)) (sym c.in_ok-split_off.ensures.items) (subst P is front)

pub returns-clause-later : goal.returns-clause-later
returns-clause-later c =
    let from = c.args.from in
    let seen = c.deref.result.now in
    let is = c.deref.ensures.value in
    let place = c.partition_point-place.result in
    let rising = subst AreRising (sym is) c.requires in
    let point : IsPartitionPoint (λ x. nat_lt x from ≡ true) (λ x. nat_lt x from ≡ false) seen place =
    IsPartitionPoint-from_clause (λ x. nat_lt x from) _ _ c.partition_point-place.ensures.partitioned (rising-parted seen from rising) (λ a r q k. search rules) in
    let behind = behind-later seen from place c.partition_point-place.ensures.bound point in
    let P : List ℕ → Type 0 = λ l. AllByRecursion (λ tag. from ≤ tag) (drop place l) in
    subst (AllByRecursion (λ tag. from ≤ tag)) (sym c.in_ok-split_off.ensures.tail) (subst P is behind)
