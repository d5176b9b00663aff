use Rattle.std.proofs.Common.{◌∙◌, ◌++◌, ◌∷◌, [], List, ℕ, ap}
use Rattle.std.proofs.lemmas.List.Filters.{dedup_is}
use Rattle.std.proofs.lemmas.Map.Keys.{IsStrictlyIncreasing-dedup}
use Rattle.verdict_tables.proofs.MemberLemmas.{among-sorted}
use Rattle.verdict_tables.proofs.building.firsts_from.Goals as goal

pub returns-clause-rising : goal.returns-clause-rising
returns-clause-rising c =
    let is = dedup_is _ _ _ c.dedup.ensures.filtered in
    rw is (IsStrictlyIncreasing-dedup _ c.in_ok-sort.ensures.sorted)

pub returns-clause-members : goal.returns-clause-members
returns-clause-members c =
    among-sorted c.args.tags c.push.new.self.items c.sort.new.self.items c.dedup.new.self.items
    (c.in_ok-push.ensures.items ∙ ap (λ (l : List ℕ). l ++ 0 ∷ []) c.into_vec-firsts.ensures) c.in_ok-sort.ensures.permutation (dedup_is _ _ _ c.dedup.ensures.filtered)
