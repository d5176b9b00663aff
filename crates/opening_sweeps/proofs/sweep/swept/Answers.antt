use Rattle.std.proofs.Common.{arith, ◌≡◌, ◌≤◌, ◌∙◌, List, sym, ap, subst, take, drop, map}
use Rattle.std.specs.List.{All}
use Rattle.opening_sweeps.specs.Courses.{Course, AreAlike, course_of, course_after_all}
use Rattle.opening_sweeps.specs.Groups.{courses, IsReached}
use Rattle.opening_sweeps.specs.Sweeps.{opened_starts}
use Rattle.opening_sweeps.specs.declared.group.Group.{Group}
use Rattle.opening_sweeps.specs.declared.sweep.Sweep.{Sweep}
use Rattle.opening_sweeps.proofs.SettleLemmas.{all-limit, all-bases}
use Rattle.opening_sweeps.proofs.SweepLemmas.{GoesOn, swept-later, carried-first, alike-newly, all-finds, all-limited}
use Rattle.opening_sweeps.proofs.sweep.swept.Goals as goal

pub settle-requires-clause-bases : goal.settle-requires-clause-bases
settle-requires-clause-bases c =
    let t = c.args.tailoring.now in
    let rs = c.args.requests.now in
    let s = c.args.sweep in
    let opened = c.in_ok-groups.ensures.reached t rs s.listed c.requires.order c.requires.starts c.requires.reached in
    all-bases t rs s.settled s.listed c.in_ok-groups.groups.items opened

pub reach-requires-clause-found : goal.reach-requires-clause-found
reach-requires-clause-found c =
    let t = c.args.tailoring.now in
    let rs = c.args.requests.now in
    let s = c.args.sweep in
    let settled = c.settled_before-settled.result in
    let listed = c.listed_below-listed.result in
    let opened = c.in_ok-groups.ensures.reached t rs s.listed c.requires.order c.requires.starts c.requires.reached in
    let more = all-limit t rs s.settled s.listed listed c.in_ok-groups.groups.items c.listed_below-listed.ensures.from opened in
    all-finds t rs settled listed c.in_ok-groups-2.groups.items (c.in_ok-groups-2.ensures.reached listed c.settled_before-settled.ensures.to more)

pub reach-requires-clause-limited : goal.reach-requires-clause-limited
reach-requires-clause-limited c =
    let t = c.args.tailoring.now in
    let rs = c.args.requests.now in
    let s = c.args.sweep in
    let settled = c.settled_before-settled.result in
    let listed = c.listed_below-listed.result in
    let opened = c.in_ok-groups.ensures.reached t rs s.listed c.requires.order c.requires.starts c.requires.reached in
    let more = all-limit t rs s.settled s.listed listed c.in_ok-groups.groups.items c.listed_below-listed.ensures.from opened in
    all-limited t rs settled listed c.in_ok-groups-2.groups.items (c.in_ok-groups-2.ensures.reached listed c.settled_before-settled.ensures.to more)

pub returns-clause-swept : goal.returns-clause-swept
returns-clause-swept c =
    let t = c.args.tailoring.now in
    let rs = c.args.requests.now in
    let told = c.args.starts.now in
    let s = c.args.sweep in
    let settled = c.settled_before-settled.result in
    let listed = c.listed_below-listed.result in
    let latest = c.latest_of-latest.result in
    let g1 = c.in_ok-groups.groups.items in
    let g2 = c.in_ok-groups-2.groups.items in
    let g3 = c.in_ok-groups-3.groups in
    let later : Sweep = record { tag = c.args.tag; groups = g3; opened = c.told_below-opened.result; settled = settled; listed = listed; latest = latest; first = c.first_settled-first.result } in
    λ boot up starts swept.
    let on : GoesOn rs told s later =
    record {
      order = up;
      opened = c.told_below-opened.ensures.from;
      opened_to = c.told_below-opened.ensures.to;
      told = c.told_below-opened.ensures.passed;
      untold = c.told_below-opened.ensures.next;
      listed = c.listed_below-listed.ensures.from;
      listed_to = c.listed_below-listed.ensures.to;
      low = c.listed_below-listed.ensures.passed;
      unlisted = c.listed_below-listed.ensures.next;
      settled = c.settled_before-settled.ensures.from;
      settled_to = c.settled_before-settled.ensures.to;
      high = c.settled_before-settled.ensures.passed;
      unsettled = c.settled_before-settled.ensures.next;
    } in
    let first = c.first_settled-first.ensures (carried-first t rs boot told s later latest c.first_of-first.result on.opened_to on.opened swept c.latest_of-latest.ensures c.first_of-first.ensures) in
    let ks = map course_of (opened_starts boot told later) in
    let newly = alike-newly t rs boot told s later g1 on.opened_to on.opened swept c.in_ok-groups.ensures.alike in
    let alike = subst (λ (cs : List Course). AreAlike (drop settled rs) (map (course_after_all t (take settled rs)) ks) cs) (sym c.in_ok-groups-3.ensures.courses)
    (c.in_ok-groups-2.ensures.alike ks newly) in
    let opened = c.in_ok-groups.ensures.reached t rs s.listed c.requires.order c.requires.starts c.requires.reached in
    let more = all-limit t rs s.settled s.listed listed g1 on.listed opened in
    let reached = c.in_ok-groups-3.ensures.reached settled (c.in_ok-groups-2.ensures.reached listed on.settled_to more) in
    swept-later t rs boot told s later c.requires.rising starts on swept c.latest_of-latest.ensures first alike reached c.in_ok-groups-3.ensures.ends
