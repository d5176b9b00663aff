use Rattle.std.proofs.Common.{◌≡◌, ◌++◌, ℕ, List, ap, ◌∙◌}
use Rattle.hk_base.specs.Payload.{groups, payload_bits, IsPayload}
use Rattle.sample_slots.proofs.WritingLemmas.{appended}
use Rattle.sample_slots.proofs.PayloadLaws.{payload-read}
use Rattle.sample_slots.proofs.writing.write_payload.Goals as goal

-- the octets that were appended, which are the payload
payload_written : (c : goal.In_default) → (octets : List ℕ) × (c.write_groups.new.out.items ≡ c.args.out.now.items ++ octets) × IsPayload c.args.tailoring.now c.args.def.now c.args.values.now octets
payload_written c =
    let kept = c.write_groups.ensures.kept in
    let bits = payload_bits c.args.tailoring.now (groups c.args.def.now) c.args.values.now in (
      kept.0,
      kept.1 ∙ ap (λ (xs : List ℕ). xs ++ kept.0) c.reserve.ensures.items,
      record {
        fit = c.requires.fit;
        bits = appended c.reserve.new.self.items kept.0 c.write_groups.new.out.items bits kept.1 c.in_default.ensures.bits;
      },
    )

pub returns-clause-ok : goal.returns-clause-ok
returns-clause-ok c = payload_written c

pub returns-clause-again : goal.returns-clause-again
returns-clause-again c =
    let written = payload_written c in
    (written.0, written.1, payload-read c.args.tailoring.now c.args.def.now c.args.values.now written.0 c.payload_size.ensures.fit written.2)
