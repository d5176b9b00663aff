use Rattle.std.proofs.Common.{◌≡◌, ℕ, List, ap, sym, ◌∙◌, true}
use Rattle.std.specs.Prelude.{is_some}
use Rattle.std.specs.Str.{bytes_eq}
use Rattle.hk_base.proofs.FileLemmas.{file_at-of, file_at-some}
use Rattle.hk_base.proofs.mem_shelf.position_of.Goals as goal

pub returns-then-eq-clause-place : goal.returns-then-eq-clause-place
returns-then-eq-clause-place c =
    let same : bytes_eq c.index-files-at.result.0 c.args.name.now ≡ true = ap (λ (xs : List ℕ). bytes_eq xs c.args.name.now) (sym c.as_slice.ensures) ∙ (sym c.eq.ensures ∙ c.if-eq.true) in
    sym (file_at-of c.args.files.now c.args.name.now c.loop-at.at c.index-files-at.result c.loop-at-test.true c.index-files-at.is same) ∙ c.loop-at.invariant

pub returns-then-eq-clause-known : goal.returns-then-eq-clause-known
returns-then-eq-clause-known c =
    let same : bytes_eq c.index-files-at.result.0 c.args.name.now ≡ true = ap (λ (xs : List ℕ). bytes_eq xs c.args.name.now) (sym c.as_slice.ensures) ∙ (sym c.eq.ensures ∙ c.if-eq.true) in
    sym (ap is_some (sym c.loop-at.invariant ∙ (file_at-of c.args.files.now c.args.name.now c.loop-at.at c.index-files-at.result c.loop-at-test.true c.index-files-at.is same ∙ file_at-some c.args.files.now c.loop-at.at c.index-files-at.result c.loop-at-test.true c.index-files-at.is)))
