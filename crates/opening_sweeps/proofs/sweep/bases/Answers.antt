use Rattle.std.proofs.Common.{arith, ◌≡◌, ℕ, ◌∙◌, ◌+◌, ◌<◌, ◌≤◌, ◌++◌, ◌∷◌, [], List, Option, length, take, drop, get_or, option_to_list, sym, ap, subst}
use Rattle.std.specs.Prelude.{IfSome, unwrap_or}
use Rattle.std.specs.List.{All}
use Rattle.std.proofs.lemmas.List.{take_more}
use Rattle.std.proofs.lemmas.List.Elements.{All-nil, All-push}
use Rattle.hk_base.specs.TailoringParts.{TailoringParts}
use Rattle.definition_intervals.specs.Openings.{openings}
use Rattle.definition_intervals.specs.Bases.{IsBasis, AreBases, IsFormedBasis}
use Rattle.definition_intervals.specs.declared.answer.Basis.{Basis}
use Rattle.opening_sweeps.specs.Requests.{Bounded, Start, HaveRisingStarts, bounded_requests, boot_starts, told_starts}
use Rattle.definition_intervals.specs.Founds.{IsBasisOf, first_after_all}
use Rattle.opening_sweeps.specs.Groups.{unsure, finds}
use Rattle.opening_sweeps.specs.Sweeps.{IsSwept}
use Rattle.opening_sweeps.proofs.SweepLemmas.{all-finds}
use Rattle.opening_sweeps.proofs.BasisLemmas.{swept-basis, swept-on, bases-more}
use Rattle.opening_sweeps.proofs.sweep.bases.Goals as goal

pub loop-tag-init : goal.loop-tag-init
loop-tag-init c =
    let g = c.args.history.now in
    let t = g.tailoring in
    let h = g.history in
    let key = c.args.key in
    let none = sym c.new-bases.ensures in
    record {
      swept = subst (λ (boot : List Start). IsSwept t (bounded_requests h key) boot (told_starts h key) c.in_ok-sweep.sweep) c.boot_start.ensures.start
          (c.in_ok-sweep.ensures.swept t (bounded_requests h key) (told_starts h key) c.boot_start.ensures.formed);
      bases = subst (λ (bs : List Basis). AreBases t h key [] bs) none tt;
      formed = subst (λ (bs : List Basis). All (IsFormedBasis t) bs) none (All-nil (IsFormedBasis t));
      tag = λ l. omega (arith, c.in_ok-sweep.ensures.tag);
    }

pub loop-tag-preserved : goal.loop-tag-preserved
loop-tag-preserved c =
    let g = c.args.history.now in
    let t = g.tailoring in
    let h = g.history in
    let key = c.args.key in
    let firsts = c.args.firsts.now in
    let i = c.loop-tag.tag-index in
    let s = c.loop-tag.sweep in
    let later = c.in_ok-sweep-2.sweep in
    let basis = c.in_ok-basis.field-0 in
    let rs = bounded_requests h key in
    let told = told_starts h key in
    let boot = boot_starts t h key in
    let within : i < length firsts = omega arith in
    let starts = c.starts_rise.ensures.rising g key c.tailoring-tailoring.ensures.grounded in
    let same_requests = c.deref.ensures.value ∙ c.in_ok-requests.ensures in
    let same_starts = c.deref-in-loop-tag.ensures.value ∙ c.in_ok-starts.ensures in
    let rising = subst (λ (xs : List Start). HaveRisingStarts xs) (sym same_starts) starts in
    let swept = swept-on t c.tailoring-tailoring.result.now rs c.deref.result.now boot told c.deref-in-loop-tag.result.now s later
    c.tailoring-tailoring.ensures.tailoring same_requests same_starts
    (c.in_ok-sweep-2.ensures.swept boot (c.loop-tag.invariant.tag within) rising) c.loop-tag.invariant.swept in
    let found = subst (λ (xs : List Bounded). IsBasisOf (finds later.groups.items) (unwrap_or (first_after_all (unsure (drop later.settled (take later.listed xs))) later.first) 0) basis)
    (c.deref-in-loop-tag-2.ensures.value ∙ c.in_ok-requests.ensures) c.in_ok-basis.ensures.basis in
    let at = swept-basis c.openings_are_found.ensures c.same_is_found.ensures c.finds_give_bases.ensures t h key later basis starts swept found in
    let here : IsBasis t (openings t h key (get_or firsts i 0)) basis = subst (λ (n : ℕ). IsBasis t (openings t h key n) basis) c.in_ok-sweep-2.ensures.tag at in
    let pushed = sym c.in_ok-push.ensures.pushed in
    record {
      swept = swept;
      bases = subst (λ (ns : List ℕ). AreBases t h key ns c.push.new.self) (sym (take_more firsts i 0 within))
          (subst (λ (bs : List Basis). AreBases t h key (take i firsts ++ get_or firsts i 0 ∷ []) bs) pushed
          (bases-more t h key (take i firsts) c.loop-tag.bases (get_or firsts i 0) basis c.loop-tag.invariant.bases here));
      formed = subst (λ (bs : List Basis). All (IsFormedBasis t) bs) pushed
          (All-push (IsFormedBasis t) c.loop-tag.bases basis c.loop-tag.invariant.formed
          (c.in_ok-basis.ensures.formed t (all-finds t rs later.settled later.listed later.groups.items swept.reached)));
      tag = λ l. omega (arith, c.in_ok-sweep-2.ensures.tag, c.requires.rising i l);
    }
