use Rattle.std.proofs.Common.{◌≡◌, ◌∙◌, ◌++◌, ap, subst, rules, ℕ, ℤ, FitsSigned}
use Rattle.std.specs.Prelude.{OnOk}
use Rattle.std.specs.Int.{w128}
use Rattle.std.proofs.lemmas.Int.{to_z-of_z}
use Rattle.hk_base.specs.Fields.{octets_of}
use Rattle.body_fields.specs.Spelling.{param_octets, time_octets, value_octets, mean_octets}
use Rattle.st04_grammar.proofs.WritingLemmas.{last_part, earlier_part}
use Rattle.st04_grammar.proofs.rows.RowsWriteMember.write_member.Goals as goal

pub returns : goal.returns
returns c =
    let t = c.args.self.now.tailoring.now in
    let row = c.args.member.now in
    let mean = mean_octets t row.param row.mean in
    let min_time = time_octets t row.min_time ++ mean in
    let min = value_octets t row.param row.min ++ min_time in
    let max_time = time_octets t row.max_time ++ min in
    let max = value_octets t row.param row.max ++ max_time in
    let count = octets_of 4 row.count ++ max in
    let end = c.write_mean.new.out.items in
    let result = c.write_mean.result in
    let counted : c.put_uint.new.out.items ≡ c.write_known_id.new.out.items ++ octets_of 4 row.count =
    c.in_ok-put_uint.ensures.ok ∙ ap (λ (n : ℕ). c.write_known_id.new.out.items ++ octets_of 4 n) c.from.ensures in
    let max_range : FitsSigned w128 row.max = search rules in
    let min_range : FitsSigned w128 row.min = search rules in
    let mean_range : FitsSigned w128 row.mean = search rules in
    let greatest : c.write_value_of.new.out.items ≡ c.put_uint.new.out.items ++ value_octets t row.param row.max =
    c.in_ok-write_value_of.ensures.ok ∙ ap (λ (z : ℤ). c.put_uint.new.out.items ++ value_octets t row.param z) (to_z-of_z w128 row.max max_range) in
    let least : c.write_value_of-2.new.out.items ≡ c.write_time.new.out.items ++ value_octets t row.param row.min =
    c.in_ok-write_value_of-2.ensures.ok ∙ ap (λ (z : ℤ). c.write_time.new.out.items ++ value_octets t row.param z) (to_z-of_z w128 row.min min_range) in
    let average : OnOk result (end ≡ c.write_time-2.new.out.items ++ mean) =
    subst (λ (z : ℤ). OnOk result (end ≡ c.write_time-2.new.out.items ++ mean_octets t row.param z)) (to_z-of_z w128 row.mean mean_range) c.write_mean.ensures.ok in
    earlier_part c.args.out.now.items (param_octets t row.param) c.write_known_id.new.out.items count end result c.in_ok-write_known_id.ensures.ok
    (earlier_part c.write_known_id.new.out.items (octets_of 4 row.count) c.put_uint.new.out.items max end result counted
    (earlier_part c.put_uint.new.out.items (value_octets t row.param row.max) c.write_value_of.new.out.items max_time end result greatest
    (earlier_part c.write_value_of.new.out.items (time_octets t row.max_time) c.write_time.new.out.items min end result c.in_ok-write_time.ensures.ok
    (earlier_part c.write_time.new.out.items (value_octets t row.param row.min) c.write_value_of-2.new.out.items min_time end result least
    (last_part c.write_value_of-2.new.out.items (time_octets t row.min_time) c.write_time-2.new.out.items mean end result c.in_ok-write_time-2.ensures.ok
    average c.write_mean.ensures.err)))))
