-- What the groups of a sweep leave is what the openings at its tag leave.
use Rattle.std.proofs.Common.{arith, ◌≡◌, ℕ, ◌+◌, ◌<◌, ◌≤◌, refl, sym, ◌∙◌, ap, subst, List, [], ◌∷◌, ◌++◌, Bool, true, false, ◌&&◌, ◌⊎◌, inl, inr, Option, Some, None, IfSome, length, map, take, drop, append-nil, flat_map}
use Rattle.std.specs.Prelude.{filter_map, unwrap_or}
use Rattle.std.specs.List.{All, AllByRecursion, IsDistinct, list_any, list_all}
use Rattle.std.proofs.lemmas.Bool.{both_ways, and_parts, and_from}
use Rattle.std.proofs.lemmas.List.{take-append-drop, take-take}
use Rattle.std.proofs.lemmas.List.Elements.{recursion_from_All, All-weaker}
use Rattle.hk_base.specs.TailoringParts.{TailoringParts}
use Rattle.hk_base.specs.declared.types.Key.{Key}
use Rattle.hk_base.specs.declared.types.Structure.{Structure}
use Rattle.hk_base.proofs.Membership.{IsIn, IsIn-flat_map, flat_map-IsIn, AllByRecursion-IsIn, AllByRecursion-parts, list_all-IsIn, IsIn-list_all}
use Rattle.ground_history.specs.Histories.{History}
use Rattle.definition_intervals.specs.Openings.{Candidate, candidates, openings, is_at_most}
use Rattle.definition_intervals.specs.States.{state_eq}
use Rattle.definition_intervals.specs.Verdicts.{named_request}
use Rattle.definition_intervals.specs.Bases.{IsBasis, AreBases}
use Rattle.definition_intervals.specs.Founds.{found_after_all, first_after_all, AreSameFound, OpeningsAreFound, SameIsFound, FindsGiveBases, IsFormedFound, IsBasisOf, is_left, is_crowd}
use Rattle.definition_intervals.specs.declared.answer.Basis.{Basis}
use Rattle.definition_intervals.specs.declared.answer.Basis.TheVariants.{NoOpening, Crowded, Open}
use Rattle.opening_sweeps.specs.Requests.{Bounded, Start, bounded_requests, settled, told_starts, boot_starts, HaveRisingStarts}
use Rattle.opening_sweeps.specs.Courses.{Course, course_of, course_after_all, IsLike, HasLike, AreAlike}
use Rattle.opening_sweeps.specs.Groups.{courses_at, courses_of, courses, unsure, finds, IsReached}
use Rattle.opening_sweeps.specs.Sweeps.{IsSwept, opened_starts, last_tag}
use Rattle.opening_sweeps.specs.declared.group.Group.{Group}
use Rattle.opening_sweeps.specs.declared.sweep.Sweep.{Sweep}
use Rattle.opening_sweeps.proofs.FoldLemmas.{same-sym, same-trans, after_all-append, after_all-same, first_all-append}
use Rattle.opening_sweeps.proofs.CourseLemmas.{like-in}
use Rattle.opening_sweeps.proofs.SettleLemmas.{at-in, in-at}
use Rattle.opening_sweeps.proofs.ListLemmas.{candidates-bounded, list-parts, opening_of, found_of, all-found, openings-opened, last_start, last-tag, AreInOrder, named-last, opened-order, opened-below}

-- each find of one list is that of some of another
abbrev pub AreCovered : List (Option (List (Option Structure))) → List (Option (List (Option Structure))) → Type 0
AreCovered fs gs = (f : Option (List (Option Structure))) → IsIn f fs → (g : Option (List (Option Structure))) × IsIn g gs × AreSameFound f g

crowd-same : (f g : Option (List (Option Structure))) → AreSameFound f g → is_crowd f ≡ is_crowd g
crowd-same None None h = refl
crowd-same None (Some b) h = absurd h
crowd-same (Some a) None h = absurd h
crowd-same (Some a) (Some b) h = refl

left-same : (s : Option Structure) (f g : Option (List (Option Structure))) → AreSameFound f g → is_left s f ≡ is_left s g
left-same s None None h = refl
left-same s None (Some b) h = absurd h
left-same s (Some a) None h = absurd h
left-same s (Some a) (Some b) h = h s

all-covered : (test : Option (List (Option Structure)) → Bool) → ((f g : Option (List (Option Structure))) → AreSameFound f g → test f ≡ test g) → (fs gs : List (Option (List (Option Structure))))
    → AreCovered gs fs → list_all test fs ≡ true → list_all test gs ≡ true
all-covered test same fs gs cover e =
    IsIn-list_all test gs (λ g i. let f = cover g i in same g f.0 f.2 ∙ list_all-IsIn test f.0 fs e f.1)

all-same : (test : Option (List (Option Structure)) → Bool) → ((f g : Option (List (Option Structure))) → AreSameFound f g → test f ≡ test g) → (fs gs : List (Option (List (Option Structure))))
    → AreCovered fs gs → AreCovered gs fs → list_all test fs ≡ list_all test gs
all-same test same fs gs there back = go (list_all test fs) (list_all test gs) refl refl
  where
    go : (x y : Bool) → list_all test fs ≡ x → list_all test gs ≡ y → x ≡ y
    go true true p q = refl
    go false false p q = refl
    go true false p q = absurd (both_ways false refl (sym q ∙ all-covered test same fs gs back p))
    go false true p q = absurd (both_ways false refl (sym p ∙ all-covered test same gs fs there q))

none-covered : (fs gs : List (Option (List (Option Structure)))) → AreCovered fs gs → gs ≡ [] → fs ≡ []
none-covered [] gs cover e = refl
none-covered (f ∷ fs) gs cover e = let g = cover f (inl refl) in absurd (subst (λ l. IsIn g.0 l) e g.1)

some-covered : (fs gs : List (Option (List (Option Structure)))) → AreCovered fs gs → 1 ≤ length fs → 1 ≤ length gs
some-covered [] gs cover l = absurd (omega arith)
some-covered (f ∷ fs) [] cover l = absurd (cover f (inl refl)).1
some-covered (f ∷ fs) (g ∷ gs) cover l = omega arith

pub basis-covered : (fs gs : List (Option (List (Option Structure)))) (n named : ℕ) (basis : Basis) → AreCovered fs gs → AreCovered gs fs → (1 ≤ length gs → named ≡ n)
    → IsBasisOf fs n basis → IsBasisOf gs named basis
basis-covered fs gs n named NoOpening there back name is = none-covered gs fs back is
basis-covered fs gs n named (Crowded k) there back name is =
    let some = some-covered fs gs there is.0 in
    (some, all-covered is_crowd crowd-same fs gs back is.1, name some ∙ is.2)
basis-covered fs gs n named (Open states k) there back name is =
    let crowds = sym (all-same is_crowd crowd-same fs gs there back) ∙ is.0 in
    (crowds, is.1, λ s. is.2 s ∙ all-same (is_left s) (left-same s) fs gs there back, name (not_empty gs crowds) ∙ is.3)
  where
    not_empty : (xs : List (Option (List (Option Structure)))) → list_all is_crowd xs ≡ false → 1 ≤ length xs
    not_empty [] e = absurd (both_ways true e refl)
    not_empty (x ∷ xs) e = omega arith

-- what is found of an opening goes on from what is found after the settled requests
found-split : (t : TailoringParts) (h : History) (key : Key) (tag : ℕ) (rs : List Bounded) (m b : ℕ) (x : Start)
    → candidates h key x.tag tag ≡ filter_map (settled x.tag) (take m rs) ++ unsure (drop m (take b rs))
    → found_of t h key tag x ≡ found_after_all t (unsure (drop m (take b rs))) (course_after_all t (take m rs) (course_of x)).found
found-split t h key tag rs m b x e =
    ap (λ cs. found_after_all t cs (Some (x.state ∷ []))) e ∙ after_all-append t (filter_map (settled x.tag) (take m rs)) (unsure (drop m (take b rs))) (Some (x.state ∷ []))

-- members of mapped lists
pub in-map : {X Y : Type 0} (f : X → Y) (y : Y) (xs : List X) → IsIn y (map f xs) → (x : X) × IsIn x xs × (y ≡ f x)
in-map f y [] i = absurd i
in-map f y (x ∷ xs) (inl e) = (x, inl refl, e)
in-map f y (x ∷ xs) (inr i) = let r = in-map f y xs i in (r.0, inr r.1, r.2)

pub map-in : {X Y : Type 0} (f : X → Y) (x : X) (xs : List X) → IsIn x xs → IsIn (f x) (map f xs)
map-in f x [] i = absurd i
map-in f x (y ∷ xs) (inl e) = inl (ap f e)
map-in f x (y ∷ xs) (inr i) = inr (map-in f x xs i)

-- what a group has reached
group-found : (t : TailoringParts) (rs : List Bounded) (m b : ℕ) (g : Group) → IsReached t rs m b g → g.reached ≡ b → AreSameFound g.found (found_after_all t (unsure (drop m (take b rs))) g.base)
group-found t rs m b g h e = subst (λ n. AreSameFound g.found (found_after_all t (unsure (drop m (take n rs))) g.base)) e h.same

first-of : (tags : List ℕ) → 1 ≤ length tags → (q : ℕ) × IsIn q tags
first-of [] l = absurd (omega arith)
first-of (q ∷ tags) l = (q, inl refl)

-- openings and groups find the same
finds-there : SameIsFound → (t : TailoringParts) (h : History) (key : Key) (tag : ℕ) (rs : List Bounded) (m b : ℕ) (ss : List Start) (gs : List Group)
    → ((x : Start) → IsIn x ss → candidates h key x.tag tag ≡ filter_map (settled x.tag) (take m rs) ++ unsure (drop m (take b rs)))
    → AllByRecursion (IsReached t rs m b) gs → AllByRecursion (λ (g : Group). g.reached ≡ b) gs
    → AreAlike (drop m rs) (map (course_after_all t (take m rs)) (map course_of ss)) (courses gs) → AreCovered (map (found_of t h key tag) ss) (finds gs)
finds-there law t h key tag rs m b ss gs lists reached ends alike f i =
    let x = in-map (found_of t h key tag) f ss i in
    let k = course_after_all t (take m rs) (course_of x.0) in
    let member = map-in (course_after_all t (take m rs)) (course_of x.0) (map course_of ss) (map-in course_of x.0 ss x.1) in
    let l = like-in (drop m rs) k (courses gs) (AllByRecursion-IsIn (HasLike (drop m rs) (courses gs)) k (map (course_after_all t (take m rs)) (map course_of ss)) alike.left member) in
    let g = IsIn-flat_map courses_of l.0 gs l.1 in
    let q = in-at g.0.base l.0 g.0.tags g.2 in
    let tail = unsure (drop m (take b rs)) in
    let base : AreSameFound k.found g.0.base = subst (λ (c : Course). AreSameFound k.found c.found) q.2 l.2.0 in
    let same = group-found t rs m b g.0 (AllByRecursion-IsIn (IsReached t rs m b) g.0 gs reached g.1) (AllByRecursion-IsIn (λ (z : Group). z.reached ≡ b) g.0 gs ends g.1) in
    let is = x.2 ∙ found-split t h key tag rs m b x.0 (lists x.0 x.1) in (
      g.0.found,
      map-in (λ (z : Group). z.found) g.0 gs g.1,
      subst (λ z. AreSameFound z g.0.found) (sym is)
          (same-trans (found_after_all t tail k.found) (found_after_all t tail g.0.base) g.0.found (after_all-same law t tail k.found g.0.base base)
          (same-sym g.0.found (found_after_all t tail g.0.base) same)),
    )

finds-back : SameIsFound → (t : TailoringParts) (h : History) (key : Key) (tag : ℕ) (rs : List Bounded) (m b : ℕ) (ss : List Start) (gs : List Group)
    → ((x : Start) → IsIn x ss → candidates h key x.tag tag ≡ filter_map (settled x.tag) (take m rs) ++ unsure (drop m (take b rs)))
    → AllByRecursion (IsReached t rs m b) gs → AllByRecursion (λ (g : Group). g.reached ≡ b) gs
    → AreAlike (drop m rs) (map (course_after_all t (take m rs)) (map course_of ss)) (courses gs) → AreCovered (finds gs) (map (found_of t h key tag) ss)
finds-back law t h key tag rs m b ss gs lists reached ends alike f i =
    let g = in-map (λ (z : Group). z.found) f gs i in
    let ok = AllByRecursion-IsIn (IsReached t rs m b) g.0 gs reached g.1 in
    let q = first-of g.0.tags ok.some in
    let k : Course = record { tag = q.0; found = g.0.base } in
    let member = flat_map-IsIn courses_of g.0 k gs g.1 (at-in g.0.base q.0 g.0.tags q.1) in
    let ks = map (course_after_all t (take m rs)) (map course_of ss) in
    let l = like-in (drop m rs) k ks (AllByRecursion-IsIn (HasLike (drop m rs) ks) k (courses gs) alike.right member) in
    let c = in-map (course_after_all t (take m rs)) l.0 (map course_of ss) l.1 in
    let x = in-map course_of c.0 ss c.1 in
    let after = (course_after_all t (take m rs) (course_of x.0)).found in
    let tail = unsure (drop m (take b rs)) in
    let base : AreSameFound g.0.base after = subst (λ (z : Course). AreSameFound g.0.base z.found) (c.2 ∙ ap (λ (z : Course). course_after_all t (take m rs) z) x.2) l.2.0 in
    let same = group-found t rs m b g.0 ok (AllByRecursion-IsIn (λ (z : Group). z.reached ≡ b) g.0 gs ends g.1) in
    let is = found-split t h key tag rs m b x.0 (lists x.0 x.1) in (
      found_of t h key tag x.0,
      map-in (found_of t h key tag) x.0 ss x.1,
      subst (λ z. AreSameFound z (found_of t h key tag x.0)) (sym g.2)
          (subst (λ z. AreSameFound g.0.found z) (sym is)
          (same-trans g.0.found (found_after_all t tail g.0.base) (found_after_all t tail after) same (after_all-same law t tail g.0.base after base))),
    )

-- the list of an opening at the tag of a sweep
swept-list : (t : TailoringParts) (h : History) (key : Key) (s : Sweep) (x : Start) → IsSwept t (bounded_requests h key) (boot_starts t h key) (told_starts h key) s → x.tag ≤ s.tag
    → candidates h key x.tag s.tag ≡ filter_map (settled x.tag) (take s.settled (bounded_requests h key)) ++ unsure (drop s.settled (take s.listed (bounded_requests h key)))
swept-list t h key s x swept le =
    let rs = bounded_requests h key in
    let lows = recursion_from_All (λ r. r.low < s.tag) (take s.listed rs) swept.lows in
    let split : take s.listed rs ≡ take s.settled rs ++ drop s.settled (take s.listed rs) =
    sym (take-append-drop s.settled (take s.listed rs)) ∙ ap (λ (xs : List Bounded). xs ++ drop s.settled (take s.listed rs)) (take-take s.settled s.listed rs swept.order) in
    let parts = AllByRecursion-parts (λ (r : Bounded). r.low < s.tag) (take s.settled rs) (drop s.settled (take s.listed rs)) (subst (λ (xs : List Bounded). AllByRecursion (λ r. r.low < s.tag) xs) split lows) in
    candidates-bounded h key x.tag s.tag
    ∙ list-parts x.tag s.tag s.settled s.listed rs le swept.order parts.0 (recursion_from_All (λ r. is_at_most r.high s.tag ≡ true) (take s.settled rs) swept.highs) parts.1
    (recursion_from_All (λ r. is_at_most r.high s.tag ≡ false) (drop s.settled (take s.listed rs)) swept.later_highs) (recursion_from_All (λ r. s.tag ≤ r.low) (drop s.listed rs) swept.later_lows)

-- the request to name at the tag of a sweep
swept-named : OpeningsAreFound → (t : TailoringParts) (h : History) (key : Key) (s : Sweep) (ss : List Start) → IsSwept t (bounded_requests h key) (boot_starts t h key) (told_starts h key) s
    → ss ≡ opened_starts (boot_starts t h key) (told_starts h key) s → AreInOrder ss → AllByRecursion (λ x. x.tag ≤ s.tag) ss → 1 ≤ length ss
    → named_request (map (opening_of h key s.tag) ss) ≡ unwrap_or (first_after_all (unsure (drop s.settled (take s.listed (bounded_requests h key)))) s.first) 0
swept-named law t h key s [] swept is order below l = absurd (omega arith)
swept-named law t h key s (x ∷ xs) swept is order below l =
    let rs = bounded_requests h key in
    let y = last_start x xs in
    let tail = unsure (drop s.settled (take s.listed rs)) in
    let tag : y.tag ≡ s.latest = sym (last-tag 0 x xs) ∙ (ap (λ zs. last_tag 0 zs) is ∙ sym swept.latest) in
    let low : y.tag ≤ s.tag = last-low s.tag x xs below.0 below.1 in
    let list = swept-list t h key s y swept low in
    let first : first_after_all (filter_map (settled y.tag) (take s.settled rs)) None ≡ s.first =
    ap (λ n. first_after_all (filter_map (settled n) (take s.settled rs)) None) tag ∙ sym swept.first in
    named-last law t h key s.tag x xs order
    ∙ ap (λ f. unwrap_or f 0)
    (ap (λ cs. first_after_all cs None) list ∙ (first_all-append (filter_map (settled y.tag) (take s.settled rs)) tail None ∙ ap (λ f. first_after_all tail f) first))
  where
    last-low : (n : ℕ) (z : Start) (zs : List Start) → z.tag ≤ n → AllByRecursion (λ v. v.tag ≤ n) zs → (last_start z zs).tag ≤ n
    last-low n z [] le all = le
    last-low n z (v ∷ zs) le all = last-low n v zs all.0 all.1

as-many : {X Y : Type 0} (f : X → Y) (xs : List X) → 1 ≤ length (map f xs) → 1 ≤ length xs
as-many f [] l = l
as-many f (x ∷ xs) l = omega arith

pub swept-basis : OpeningsAreFound → SameIsFound → FindsGiveBases → (t : TailoringParts) (h : History) (key : Key) (s : Sweep) (basis : Basis) → HaveRisingStarts (told_starts h key)
    → IsSwept t (bounded_requests h key) (boot_starts t h key) (told_starts h key) s
    → IsBasisOf (finds s.groups.items) (unwrap_or (first_after_all (unsure (drop s.settled (take s.listed (bounded_requests h key)))) s.first) 0) basis
    → IsBasis t (openings t h key s.tag) basis
swept-basis found same give t h key s basis rising swept is =
    let rs = bounded_requests h key in
    let told = told_starts h key in
    let ss = opened_starts (boot_starts t h key) told s in
    let gs = s.groups.items in
    let below = recursion_from_All (λ x. x.tag < s.tag) (take s.opened told) swept.below in
    let low = opened-below t h key s.tag s.opened below in
    let os : openings t h key s.tag ≡ map (opening_of h key s.tag) ss = openings-opened t h key s.tag s.opened below (recursion_from_All (λ x. s.tag ≤ x.tag) (drop s.opened told) swept.above) in
    let lists = λ (x : Start) (i : IsIn x ss). swept-list t h key s x swept (AllByRecursion-IsIn (λ y. y.tag ≤ s.tag) x ss low i) in
    let reached = recursion_from_All (IsReached t rs s.settled s.listed) gs swept.reached in
    let ends = recursion_from_All (λ (g : Group). g.reached ≡ s.listed) gs swept.ends in
    let there = finds-back same t h key s.tag rs s.settled s.listed ss gs lists reached ends swept.alike in
    let back = finds-there same t h key s.tag rs s.settled s.listed ss gs lists reached ends swept.alike in
    let named = λ (l : 1 ≤ length (map (found_of t h key s.tag) ss)).
    swept-named found t h key s ss swept refl (opened-order t h key s.opened rising) low (as-many (found_of t h key s.tag) ss l) in
    subst (λ xs. IsBasis t xs basis) (sym os)
    (give t (map (opening_of h key s.tag) ss) (map (found_of t h key s.tag) ss) basis (all-found found t h key s.tag ss)
    (basis-covered (finds gs) (map (found_of t h key s.tag) ss) (unwrap_or (first_after_all (unsure (drop s.settled (take s.listed rs))) s.first) 0) (named_request (map (opening_of h key s.tag) ss)) basis there back named is))

-- the basis at one more tag
pub bases-more : (t : TailoringParts) (h : History) (key : Key) (tags : List ℕ) (bases : List Basis) (tag : ℕ) (basis : Basis) → AreBases t h key tags bases → IsBasis t (openings t h key tag) basis
    → AreBases t h key (tags ++ tag ∷ []) (bases ++ basis ∷ [])
bases-more t h key [] [] tag basis all is = (is, tt)
bases-more t h key [] (b ∷ bs) tag basis all is = absurd all
bases-more t h key (x ∷ xs) [] tag basis all is = absurd all
bases-more t h key (x ∷ xs) (b ∷ bs) tag basis all is = (all.0, bases-more t h key xs bs tag basis all.1 is)

-- the sweep at one more tag
pub swept-on : (t u : TailoringParts) (rs rs2 : List Bounded) (boot told told2 : List Start) (s later : Sweep) → u ≡ t → rs2 ≡ rs → told2 ≡ told
    → (IsSwept u rs2 boot told2 s → IsSwept u rs2 boot told2 later) → IsSwept t rs boot told s → IsSwept t rs boot told later
swept-on t u rs rs2 boot told told2 s later et er es step swept =
    subst (λ x. IsSwept x rs boot told later) et (subst (λ xs. IsSwept u xs boot told later) er (subst (λ ss. IsSwept u rs2 boot ss later) es
    (step (subst (λ ss. IsSwept u rs2 boot ss s) (sym es) (subst (λ xs. IsSwept u xs boot told s) (sym er) (subst (λ x. IsSwept x rs boot told s) (sym et) swept))))))

-- finds of groups have each state once
pub finds-once : (t : TailoringParts) (rs : List Bounded) (settled_ listed : ℕ) (gs : List Group) → All (IsReached t rs settled_ listed) gs → All (λ (g : Group). IfSome g.found (IsDistinct state_eq)) gs
finds-once t rs settled_ listed gs all = All-weaker (IsReached t rs settled_ listed) (λ (g : Group). IfSome g.found (IsDistinct state_eq)) (λ g h. once t g.found h.found) gs all
  where
    once : (u : TailoringParts) (f : Option (List (Option Structure))) → IsFormedFound u f → IfSome f (IsDistinct state_eq)
    once u None h = tt
    once u (Some ss) h = h.1
