use Rattle.std.proofs.Common.{arith, ◌<◌, ◌≡◌, ◌∙◌, ◌++◌, ◌∷◌, [], List, length, take, get_or, refl, sym, subst, ap}
use Rattle.std.proofs.lemmas.List.{take_more}
use Rattle.board_state.specs.Statistics.{AreRowsOf, IsRowIfAny}
use Rattle.board_state.specs.declared.members.Member.{Member}
use Rattle.board_state.proofs.StatisticsLemmas.{statistics-left}
use Rattle.board_state.proofs.RowLemmas.{row-more, row-none}
use Rattle.board_state.proofs.members.rows_of.Goals.{in-Some+in_ok-push, in_default}
use Rattle.board_state.proofs.members.rows_of.Goals as goal

pub loop-member-preserved : goal.loop-member-preserved
loop-member-preserved c =
    let lt : c.loop-member.member-index < length c.args.members.now = omega arith in
    let t = c.args.tailoring.now in
    let before = take c.loop-member.member-index c.args.members.now in
    let m = c.member-item.result in
    let members = take_more c.args.members.now c.loop-member.member-index m lt ∙ ap (λ x. before ++ x ∷ []) (sym c.member-item.is) in
    elim c.match-row.branch [
      | in-Some+in_ok-push w ↦
          (let e : c.match-row.rows.items ≡ c.loop-member.rows.items ++ w.in-Some.row ∷ [] = ap (λ v. v.items) w.rows-is ∙ w.in_ok-push.ensures.items in
          subst (λ l. AreRowsOf t l c.match-row.rows.items) (sym members)
          (subst (AreRowsOf t (before ++ m ∷ [])) (sym e) (row-more t before m c.loop-member.rows.items w.in-Some.row c.loop-member.invariant w.in-Some.ensures)))
      | in_default w ↦
          (subst (λ l. AreRowsOf t l c.match-row.rows.items) (sym members)
          (subst (AreRowsOf t (before ++ m ∷ [])) (sym (ap (λ v. v.items) w.rows-is))
          (row-none t before m c.loop-member.rows.items c.loop-member.invariant (subst (IsRowIfAny t m) w.in_default.is c.row.ensures))))
    ]
