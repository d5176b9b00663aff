use Rattle.std.proofs.Common.{rules, ◌≡◌, Option, subst, sym}
use Rattle.std.specs.Option.{option_copied}
use Rattle.verdict_tables.specs.Tables.{RangeParts, HasRanges, ranges_of}
use Rattle.verdict_tables.proofs.tables.Tables.ranges.Goals as goal

pub returns-clause-known : goal.returns-clause-known
returns-clause-known c =
    let found : option_copied c.get.result ≡ ranges_of c.args.self.now c.args.key = search rules in
    λ ground stands. subst (λ (o : Option RangeParts). HasRanges ground.history c.args.key o) (sym found) (stands.ranges c.args.key)
