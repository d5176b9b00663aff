use Rattle.std.proofs.Common.{rules, ◌≡◌, ◌∙◌, List, sym, subst, map-id}
use Rattle.std.specs.List.{All}
use Rattle.std.proofs.lemmas.List.Elements.{All-push}
use Rattle.std.proofs.lemmas.Iterator.Adapters.{YieldsList-from_vec}
use Rattle.std.proofs.lemmas.Iterator.Consumers.{YieldsList-end}
use Rattle.opening_sweeps.specs.Groups.{IsReached}
use Rattle.opening_sweeps.specs.declared.group.Group.{Group}
use Rattle.opening_sweeps.proofs.SettleLemmas.{courses-same, all-last}
use Rattle.opening_sweeps.proofs.tail.reach.Goals as goal

pub loop-group-preserved : goal.loop-group-preserved
loop-group-preserved c =
    let t = c.args.tailoring.now in
    let rs = c.args.requests.now in
    let to = c.args.to in
    let g = c.in-Some.group in
    let h = c.in_ok-reach_one.field-0 in
    let earlier = c.loop-group.later.items in
    let is = c.in_ok-push.ensures.items in
    record {
      courses = courses-same c.loop-group.yielded g h earlier c.push.new.self.items c.in_ok-reach_one.ensures.tags c.in_ok-reach_one.ensures.base c.loop-group.invariant.courses is;
      reached = λ settled all.
          let parts = all-last (IsReached t rs settled to) c.loop-group.yielded g all in
          subst (λ (xs : List Group). All (IsReached t rs settled to) xs) (sym is)
          (All-push (IsReached t rs settled to) earlier h (c.loop-group.invariant.reached settled parts.0) (c.in_ok-reach_one.ensures.found settled parts.1));
      ends = subst (λ (xs : List Group). All (λ (x : Group). x.reached ≡ to) xs) (sym is)
          (All-push (λ (x : Group). x.reached ≡ to) earlier h c.loop-group.invariant.ends c.in_ok-reach_one.ensures.reached);
    }

pub returns-clause-reached : goal.returns-clause-reached
returns-clause-reached c =
    let t = c.args.tailoring.now in
    let rs = c.args.requests.now in
    let to = c.args.to in
    let end = YieldsList-end (YieldsList-from_vec {s = c.into_iter-group-iterator.result} c.args.groups.items (search rules) (search rules))
    c.loop-group.yielded c.loop-group.group-iterator c.loop-group.yielded_by c.next.result c.next.new.self c.in-None.is c.next.ensures.steps in
    λ settled all. c.loop-group.invariant.reached settled (subst (λ (xs : List Group). All (IsReached t rs settled to) xs) (sym end.0 ∙ map-id c.loop-group.yielded) all)
