use Rattle.std.proofs.Common.{◌≡◌, sym, ◌∙◌, ap, subst, None}
use Rattle.std.specs.Prelude.{find, ◌==◌}
use Rattle.ground_history.specs.Histories.{tag_of, insert_kept}
use Rattle.pus_messages.specs.declared.message.Report.{Report}
use Rattle.ground_history.specs.Ground.{IsByTag, packets_of, tells_structure}
use Rattle.ground_history.proofs.KeptMapLemmas.{by-tag-insert, packets-insert, newest-is, told-is}
use Rattle.ground_history.proofs.kept.KeptPackets.keep.Goals as goal

pub invariant_of-self-2 : goal.invariant_of-self-2
invariant_of-self-2 c =
    let none = subst (λ ks. find (λ k. tag_of k == tag_of c.args.kept) ks ≡ None) (sym c.self.view_is) c.requires in (
      subst IsByTag (sym c.in_ok-insert.ensures.entries) (by-tag-insert c.tag-tag.result c.args.kept c.self.inside.packets.entries c.tag-tag.ensures c.self.invariant.0),
      newest-is c.tag-tag.result c.args.kept c.self.inside.packets.entries c.insert.new.self.entries c.self.inside.newest c.max-self-inside.result c.tag-tag.ensures c.self.invariant.0 none
          c.in_ok-insert.ensures.entries c.self.invariant.1 c.max-self-inside.ensures,
      told-is c.tag-tag.result c.args.kept c.self.inside.packets.entries c.insert.new.self.entries c.self.inside.told c.newer-self-inside.result c.tells-tells.result c.tag-tag.ensures c.self.invariant.0 none
          c.in_ok-insert.ensures.entries c.self.invariant.2 (c.tells-tells.ensures ∙ ap (λ (r : Report). tells_structure r.body) c.report.ensures) c.newer-self-inside.ensures,
    )

pub returns-clause-kept : goal.returns-clause-kept
returns-clause-kept c =
    let none = subst (λ ks. find (λ k. tag_of k == tag_of c.args.kept) ks ≡ None) (sym c.self.view_is) c.requires in
    ap packets_of c.in_ok-insert.ensures.entries
    ∙ (packets-insert c.tag-tag.result c.args.kept c.self.inside.packets.entries c.tag-tag.ensures c.self.invariant.0 none ∙ ap (insert_kept c.args.kept) c.self.view_is)
