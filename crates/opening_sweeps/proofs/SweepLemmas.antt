-- What a sweep holds at its tag.
use Rattle.std.proofs.Common.{arith, ◌≡◌, ℕ, zero, suc, ◌+◌, ◌-◌, ◌<◌, ◌≤◌, refl, sym, ◌∙◌, ap, subst, List, [], ◌∷◌, ◌++◌, Bool, true, false, Option, Some, None, IfSome, length, map, take, drop, get_or, append-nil, append_assoc, option_to_list, Vec, Global}
use Rattle.std.specs.Prelude.{filter_map, nat_lt, if◌then◌else◌}
use Rattle.std.specs.List.{All, AllByRecursion, AllWithin, HoldsAt}
use Rattle.std.proofs.lemmas.Bool.{ltb-true, ltb-false}
use Rattle.std.proofs.lemmas.List.{length-take-le, length-drop, drop-take}
use Rattle.std.proofs.lemmas.List.Elements.{All-nil, All-weaker, recursion_from_All}
use Rattle.hk_base.specs.TailoringParts.{TailoringParts}
use Rattle.hk_base.specs.declared.types.Structure.{Structure}
use Rattle.definition_intervals.specs.Openings.{is_at_most}
use Rattle.definition_intervals.specs.Founds.{first_after_all, IsFormedFound}
use Rattle.opening_sweeps.specs.Requests.{Bounded, Start, settled, AreRising, HaveRisingStarts}
use Rattle.opening_sweeps.specs.Courses.{Course, course_of, course_after_all, AreAlike}
use Rattle.opening_sweeps.specs.Groups.{courses, IsReached}
use Rattle.opening_sweeps.specs.Sweeps.{IsSwept, opened_starts, last_tag}
use Rattle.opening_sweeps.specs.declared.group.Group.{Group}
use Rattle.opening_sweeps.specs.declared.sweep.Sweep.{Sweep}
use Rattle.opening_sweeps.proofs.StartLemmas.{take-parts, take-within, last-append, last-above, starts-above, lows-above, highs-above, at_most-more, none-settled, alike-opened, part-none}

-- courses before any request is settled
pub none-after : (t : TailoringParts) (ss : List Start) → map (course_after_all t []) (map course_of ss) ≡ map course_of ss
none-after t [] = refl
none-after t (s ∷ ss) = ap (λ ks. course_of s ∷ ks) (none-after t ss)

reached-zero : (t : TailoringParts) (rs : List Bounded) (gs : List Group) → All (IsReached t rs 0 0) gs → All (λ (g : Group). g.reached ≡ 0) gs
reached-zero t rs gs all = All-weaker (IsReached t rs 0 0) (λ (g : Group). g.reached ≡ 0) (λ g h. omega (arith, h.limited)) gs all

pub swept-first : (t : TailoringParts) (rs : List Bounded) (boot told : List Start) (gs : Vec Group Global) (latest : ℕ) → latest ≡ last_tag 0 boot
    → ((rest : List Bounded) → AreAlike rest (map course_of boot) (courses gs.items)) → All (IsReached t rs 0 0) gs.items
    → IsSwept t rs boot told (record { tag = 0; groups = gs; opened = 0; settled = 0; listed = 0; latest = latest; first = None })
swept-first t rs boot told gs latest last alike reached =
    let begun : boot ++ [] ≡ boot = append-nil boot in
    record {
      opened = omega arith;
      below = All-nil (λ (x : Start). x.tag < 0);
      above = λ k d l. omega arith;
      order = omega arith;
      listed = omega arith;
      lows = All-nil (λ (r : Bounded). r.low < 0);
      later_lows = λ k d l. omega arith;
      highs = All-nil (λ (r : Bounded). is_at_most r.high 0 ≡ true);
      later_highs = All-nil (λ (r : Bounded). is_at_most r.high 0 ≡ false);
      alike = subst (λ ks. AreAlike rs ks (courses gs.items)) (sym (none-after t (boot ++ []) ∙ ap (λ (xs : List Start). map course_of xs) begun)) (alike rs);
      reached = reached;
      ends = reached-zero t rs gs.items reached;
      latest = last ∙ ap (λ (xs : List Start). last_tag 0 xs) (sym begun);
      first = refl;
    }

-- what is passed below a tag is passed below a higher one
raised-starts : (m n : ℕ) (xs : List Start) → m ≤ n → All (λ x. x.tag < m) xs → All (λ x. x.tag < n) xs
raised-starts m n xs le all = All-weaker (λ x. x.tag < m) (λ x. x.tag < n) (λ x h. omega arith) xs all

raised-lows : (m n : ℕ) (xs : List Bounded) → m ≤ n → All (λ r. r.low < m) xs → All (λ r. r.low < n) xs
raised-lows m n xs le all = All-weaker (λ r. r.low < m) (λ r. r.low < n) (λ r h. omega arith) xs all

raised-highs : (m n : ℕ) (xs : List Bounded) → m ≤ n → All (λ r. is_at_most r.high m ≡ true) xs → All (λ r. is_at_most r.high n ≡ true) xs
raised-highs m n xs le all = All-weaker (λ r. is_at_most r.high m ≡ true) (λ r. is_at_most r.high n ≡ true) (λ r h. at_most-more r.high m n le h) xs all

-- how far the sweep goes on
pub record GoesOn (rs : List Bounded) (ss : List Start) (s later : Sweep) : Type 0 where
  pub order : s.tag ≤ later.tag
  pub opened : s.opened ≤ later.opened
  pub opened_to : later.opened ≤ length ss
  pub told : AllWithin (λ x. x.tag < later.tag) ss s.opened later.opened
  pub untold : later.opened < length ss → HoldsAt (λ x. later.tag ≤ x.tag) ss later.opened
  pub listed : s.listed ≤ later.listed
  pub listed_to : later.listed ≤ length rs
  pub low : AllWithin (λ r. r.low < later.tag) rs s.listed later.listed
  pub unlisted : later.listed < length rs → HoldsAt (λ r. later.tag ≤ r.low) rs later.listed
  pub settled : s.settled ≤ later.settled
  pub settled_to : later.settled ≤ later.listed
  pub high : AllWithin (λ r. is_at_most r.high later.tag ≡ true) rs s.settled later.settled
  pub unsettled : later.settled < later.listed → HoldsAt (λ r. is_at_most r.high later.tag ≡ false) rs later.settled

-- the states that open
abbrev pub newly : List Start → Sweep → Sweep → List Start
newly told s later = drop s.opened (take later.opened told)

pub opened-more : (boot told : List Start) (s later : Sweep) → s.opened ≤ later.opened → opened_starts boot told later ≡ opened_starts boot told s ++ newly told s later
opened-more boot told s later le = ap (λ xs. boot ++ xs) (take-parts told s.opened later.opened le) ∙ sym (append_assoc boot (take s.opened told) (newly told s later))

-- states that open aren't below the sweep's tag
newly-above : (told : List Start) (s later : Sweep) → later.opened ≤ length told → s.opened ≤ later.opened → All (λ x. s.tag ≤ x.tag) (drop s.opened told) → AllByRecursion (λ x. s.tag ≤ x.tag) (newly told s later)
newly-above told s later le order all = front (drop s.opened told) (newly told s later) (later.opened - s.opened) (shorter told s.opened later.opened order) (recursion_from_All (λ x. s.tag ≤ x.tag) (drop s.opened told) all)
  where
    shorter : (xs : List Start) (n m : ℕ) → n ≤ m → drop n (take m xs) ≡ take (m - n) (drop n xs)
    shorter xs n m h = ap (λ k. drop n (take k xs)) (let e : m ≡ n + (m - n) = omega arith in e) ∙ drop-take n (m - n) xs

    part : (xs : List Start) (k : ℕ) → AllByRecursion (λ x. s.tag ≤ x.tag) xs → AllByRecursion (λ x. s.tag ≤ x.tag) (take k xs)
    part [] zero h = tt
    part [] (suc k) h = tt
    part (x ∷ xs) zero h = tt
    part (x ∷ xs) (suc k) h = (h.0, part xs k h.1)

    front : (xs ys : List Start) (k : ℕ) → ys ≡ take k xs → AllByRecursion (λ x. s.tag ≤ x.tag) xs → AllByRecursion (λ x. s.tag ≤ x.tag) ys
    front xs ys k e h = subst (λ zs. AllByRecursion (λ x. s.tag ≤ x.tag) zs) (sym e) (part xs k h)

-- the first open change that is carried on is that of the latest opening
pub carried-first : (t : TailoringParts) (rs : List Bounded) (boot told : List Start) (s later : Sweep) (latest : ℕ) (first : Option ℕ) → later.opened ≤ length told → s.opened ≤ later.opened
    → IsSwept t rs boot told s → latest ≡ last_tag s.latest (newly told s later) → first ≡ (if nat_lt s.opened later.opened then None else s.first)
    → first ≡ first_after_all (filter_map (settled latest) (take s.settled rs)) None
carried-first t rs boot told s later latest first le order swept is carried = go (nat_lt s.opened later.opened) refl
  where
    go : (b : Bool) → nat_lt s.opened later.opened ≡ b → first ≡ first_after_all (filter_map (settled latest) (take s.settled rs)) None
    go true e =
        let more : s.opened < later.opened = ltb-true s.opened later.opened e in
        let some : 1 ≤ length (newly told s later) = omega (arith, length-drop s.opened (take later.opened told), length-take-le later.opened told le) in
        let high : s.tag ≤ latest = subst (λ n. s.tag ≤ n) (sym is) (last-above s.latest s.tag (newly told s later) (newly-above told s later le order swept.above) some) in
        carried ∙ (ap (λ (b : Bool). if b then None else s.first) e
        ∙ ap (λ cs. first_after_all cs None) (sym (none-settled s.tag latest (take s.settled rs) high (recursion_from_All (λ r. is_at_most r.high s.tag ≡ true) (take s.settled rs) swept.highs))))
    go false e =
        let same : later.opened ≤ s.opened = ltb-false s.opened later.opened e in
        let equal : later.opened ≡ s.opened = omega arith in
        let none : newly told s later ≡ [] = ap (λ n. drop s.opened (take n told)) equal ∙ part-none told s.opened swept.opened in
        let tag : latest ≡ s.latest = is ∙ ap (λ xs. last_tag s.latest xs) none in
        carried ∙ (ap (λ (b : Bool). if b then None else s.first) e ∙ (swept.first ∙ ap (λ n. first_after_all (filter_map (settled n) (take s.settled rs)) None) (sym tag)))

-- openings that are new, before more requests are settled
pub alike-newly : (t : TailoringParts) (rs : List Bounded) (boot told : List Start) (s later : Sweep) (g1 : List Group) → later.opened ≤ length told → s.opened ≤ later.opened → IsSwept t rs boot told s
    → ((rest : List Bounded) → AreAlike rest (courses s.groups.items ++ map course_of (newly told s later)) (courses g1))
    → AreAlike (drop s.settled rs) (map (course_after_all t (take s.settled rs)) (map course_of (opened_starts boot told later))) (courses g1)
alike-newly t rs boot told s later g1 le order swept h =
    subst (λ xs. AreAlike (drop s.settled rs) (map (course_after_all t (take s.settled rs)) (map course_of xs)) (courses g1)) (sym (opened-more boot told s later order))
    (alike-opened t s.tag (take s.settled rs) (drop s.settled rs) (opened_starts boot told s) (newly told s later) s.groups.items g1
    (recursion_from_All (λ r. is_at_most r.high s.tag ≡ true) (take s.settled rs) swept.highs) (newly-above told s later le order swept.above) swept.alike (h (drop s.settled rs)))

-- the sweep at a later tag
pub swept-later : (t : TailoringParts) (rs : List Bounded) (boot told : List Start) (s later : Sweep) → AreRising rs → HaveRisingStarts told → GoesOn rs told s later → IsSwept t rs boot told s
    → later.latest ≡ last_tag s.latest (newly told s later)
    → later.first ≡ first_after_all (filter_map (settled later.latest) (take later.settled rs)) None
    → AreAlike (drop later.settled rs) (map (course_after_all t (take later.settled rs)) (map course_of (opened_starts boot told later))) (courses later.groups.items)
    → All (IsReached t rs later.settled later.listed) later.groups.items → All (λ (g : Group). g.reached ≡ later.listed) later.groups.items
    → IsSwept t rs boot told later
swept-later t rs boot told s later rising starts on swept latest first alike reached ends =
    let up = on.order in
    record {
      opened = on.opened_to;
      below = take-within (λ x. x.tag < later.tag) told s.opened later.opened on.opened_to (raised-starts s.tag later.tag (take s.opened told) up swept.below) on.told on.opened;
      above = starts-above told later.opened later.tag starts on.untold;
      order = on.settled_to;
      listed = on.listed_to;
      lows = take-within (λ r. r.low < later.tag) rs s.listed later.listed on.listed_to (raised-lows s.tag later.tag (take s.listed rs) up swept.lows) on.low on.listed;
      later_lows = lows-above rs later.listed later.tag rising on.unlisted;
      highs = take-within (λ r. is_at_most r.high later.tag ≡ true) rs s.settled later.settled (omega (arith, on.settled_to, on.listed_to))
          (raised-highs s.tag later.tag (take s.settled rs) up swept.highs) on.high on.settled;
      later_highs = highs-above rs later.settled later.listed later.tag rising on.listed_to on.unsettled;
      alike = alike;
      reached = reached;
      ends = ends;
      latest = latest ∙ (ap (λ n. last_tag n (newly told s later)) swept.latest
          ∙ (sym (last-append 0 (opened_starts boot told s) (newly told s later)) ∙ ap (λ xs. last_tag 0 xs) (sym (opened-more boot told s later on.opened))));
      first = first;
    }

pub all-finds : (t : TailoringParts) (rs : List Bounded) (settled limit : ℕ) (gs : List Group) → All (IsReached t rs settled limit) gs → All (λ (g : Group). IsFormedFound t g.found) gs
all-finds t rs settled limit gs all = All-weaker (IsReached t rs settled limit) (λ (g : Group). IsFormedFound t g.found) (λ g h. h.found) gs all

pub all-limited : (t : TailoringParts) (rs : List Bounded) (settled limit : ℕ) (gs : List Group) → All (IsReached t rs settled limit) gs → All (λ (g : Group). g.reached ≤ limit) gs
all-limited t rs settled limit gs all = All-weaker (IsReached t rs settled limit) (λ (g : Group). g.reached ≤ limit) (λ g h. h.limited) gs all
