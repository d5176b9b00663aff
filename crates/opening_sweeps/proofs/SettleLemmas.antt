-- A request is settled for the openings of a group.
use Rattle.std.proofs.Common.{arith, ◌≡◌, ℕ, zero, suc, ◌+◌, ◌<◌, ◌≤◌, refl, sym, ◌∙◌, ap, subst, List, [], ◌∷◌, ◌++◌, Bool, true, false, ◌⊎◌, inl, inr, Option, Some, None, IfSome, map, length, take, drop, get_or, append-nil, append_assoc, cond, flat_map, option_to_list}
use Rattle.std.specs.Prelude.{filter, filter_map, find, nat_le, not, ◌&&◌, if◌then◌else◌, IsSomeAnd}
use Rattle.std.specs.List.{AllByRecursion, All, cons_option}
use Rattle.std.proofs.lemmas.Bool.{both_ways, and_parts, leb-true, le-leb, not-true}
use Rattle.std.proofs.lemmas.List.Elements.{All-weaker, All-from_recursion, recursion_from_All}
use Rattle.std.proofs.lemmas.List.{map-append, drop_more, take_more, map_push}
use Rattle.hk_base.specs.TailoringParts.{TailoringParts}
use Rattle.hk_base.specs.declared.types.Structure.{Structure}
use Rattle.hk_base.proofs.Membership.{IsIn, IsIn-left, IsIn-right, IsIn-append, IsIn-filter, filter-IsIn, some_value, AllByRecursion-parts}
use Rattle.definition_intervals.specs.Openings.{Candidate, is_at_most}
use Rattle.definition_intervals.specs.Founds.{found_after, found_after_all, AreSameFound, SameIsFound, IsFormedFound}
use Rattle.opening_sweeps.specs.Requests.{Bounded, as_request, settled, IsBelow, AreRising}
use Rattle.opening_sweeps.specs.Courses.{Course, found_by_one, course_after, course_after_all, StandsTheSame, IsLike, HasLike, AreAlike}
use Rattle.opening_sweeps.specs.Groups.{courses_at, courses_of, courses, is_past, is_sure, is_unsure, IsReached}
use Rattle.opening_sweeps.specs.declared.group.Group.{Group}
use Rattle.opening_sweeps.proofs.FoldLemmas.{same-refl, after_all-append, settled-more}
use Rattle.opening_sweeps.proofs.CourseLemmas.{like-refl, has-like, alike-from, alike-refl, alike-trans, alike-append, alike-after, courses-push}

-- courses at tags
pub at-in : (f : Option (List (Option Structure))) (q : ℕ) (tags : List ℕ) → IsIn q tags → IsIn (record { tag = q; found = f }) (courses_at f tags)
at-in f q [] i = absurd i
at-in f q (x ∷ tags) (inl e) = inl (ap (λ n. record { tag = n; found = f }) e)
at-in f q (x ∷ tags) (inr i) = inr (at-in f q tags i)

pub in-at : (f : Option (List (Option Structure))) (k : Course) (tags : List ℕ) → IsIn k (courses_at f tags) → (q : ℕ) × IsIn q tags × (k ≡ record { tag = q; found = f })
in-at f k [] i = absurd i
in-at f k (x ∷ tags) (inl e) = (x, inl refl, e)
in-at f k (x ∷ tags) (inr i) = let r = in-at f k tags i in (r.0, inr r.1, r.2)

-- courses after one more request
after-in : (t : TailoringParts) (r : Bounded) (k : Course) (ks : List Course) → IsIn k ks → IsIn (course_after t r k) (map (course_after t r) ks)
after-in t r k [] i = absurd i
after-in t r k (x ∷ ks) (inl e) = inl (ap (λ c. course_after t r c) e)
after-in t r k (x ∷ ks) (inr i) = inr (after-in t r k ks i)

in-after : (t : TailoringParts) (r : Bounded) (k : Course) (ks : List Course) → IsIn k (map (course_after t r) ks) → (c : Course) × IsIn c ks × (k ≡ course_after t r c)
in-after t r k [] i = absurd i
in-after t r k (x ∷ ks) (inl e) = (x, inl refl, e)
in-after t r k (x ∷ ks) (inr i) = let p = in-after t r k ks i in (p.0, inr p.1, p.2)

-- where a request that isn't past is settled, no later one is past
pub not_past : (r later : Bounded) (q : ℕ) → IsBelow r later → is_at_most r.high q ≡ false → is_at_most later.high q ≡ false
not_past r later q below e = go later.high r.high below.high e
  where
    go : (top low : Option ℕ) → IfSome top (λ n. IsSomeAnd low (λ m. m ≤ n)) → is_at_most low q ≡ false → is_at_most top q ≡ false
    go None low h p = refl
    go (Some n) None h p = absurd h
    go (Some n) (Some m) h p = ltest n (nat_le n q) refl
      where
        ltest : (k : ℕ) (b : Bool) → nat_le n q ≡ b → nat_le n q ≡ false
        ltest k false x = x
        ltest k true x = let low : n ≤ q = leb-true n q x in let m_low : m ≤ q = omega (arith, h) in absurd (both_ways (nat_le m q) p (le-leb m q m_low))

-- where openings are surely below a request, each later one stands the same to them
sure-same : (r : Bounded) (rest : List Bounded) (a b : ℕ) → AllByRecursion (IsBelow r) rest → is_at_most r.high a ≡ false → is_at_most r.high b ≡ false → a ≤ r.low → b ≤ r.low
    → AllByRecursion (StandsTheSame a b) rest
sure-same r [] a b all p q le me = tt
sure-same r (x ∷ rest) a b all p q le me =
    let low : r.low ≤ x.low = all.0.low in
    ((not_past r x a all.0 p ∙ sym (not_past r x b all.0 q), le-leb a x.low (omega arith) ∙ sym (le-leb b x.low (omega arith))), sure-same r rest a b all.1 p q le me)

-- what a tag's flags say
sure-parts : (r : Bounded) (q : ℕ) → is_sure r q ≡ true → (is_at_most r.high q ≡ false) × (nat_le q r.low ≡ true)
sure-parts r q e = let p = and_parts (not (is_at_most r.high q)) (nat_le q r.low) e in (not-true (is_at_most r.high q) p.0, p.1)

unsure-parts : (r : Bounded) (q : ℕ) → is_unsure r q ≡ true → (is_at_most r.high q ≡ false) × (nat_le q r.low ≡ false)
unsure-parts r q e =
    let p = and_parts (not (is_at_most r.high q)) (not (nat_le q r.low)) e in
    (not-true (is_at_most r.high q) p.0, not-true (nat_le q r.low) p.1)

-- what becomes of a course by its flags
settled_as : Bool → Bool → Bounded → Option Candidate
settled_as past below r = if past then None else Some (as_request (below && r.accepted) r)

after-flags : (t : TailoringParts) (r : Bounded) (q : ℕ) (f : Option (List (Option Structure))) (past below : Bool) → is_at_most r.high q ≡ past → nat_le q r.low ≡ below
    → course_after t r (record { tag = q; found = f }) ≡ record { tag = q; found = found_by_one t (settled_as past below r) f }
unfolding settled_as
after-flags t r q f past below e g =
    ap (λ o. record { tag = q; found = found_by_one t o f }) (ap (λ p. settled_as p (nat_le q r.low) r) e ∙ ap (λ p. settled_as past p r) g)

-- the first that passes
found-first : (test : ℕ → Bool) (q : ℕ) (tags : List ℕ) → IsIn q tags → test q ≡ true → (p : ℕ) × IsIn p (option_to_list (find test tags)) × (test p ≡ true)
found-first test q [] i e = absurd i
found-first test q (x ∷ tags) i e = go (test x) refl i (λ j. found-first test q tags j e)
  where
    go : (b : Bool) → test x ≡ b → IsIn q (x ∷ tags) → (IsIn q tags → (p : ℕ) × IsIn p (option_to_list (find test tags)) × (test p ≡ true))
        → (p : ℕ) × IsIn p (option_to_list (if b then Some x else find test tags)) × (test p ≡ true)
    go true g j later = (x, inl refl, g)
    go false g (inl j) later = absurd (both_ways (test x) g (subst (λ z. test z ≡ true) j e))
    go false g (inr j) later = later j

first-found : (test : ℕ → Bool) (q : ℕ) (tags : List ℕ) → IsIn q (option_to_list (find test tags)) → IsIn q tags × (test q ≡ true)
first-found test q [] i = absurd i
first-found test q (x ∷ tags) i = go (test x) refl i (λ j. first-found test q tags j)
  where
    go : (b : Bool) → test x ≡ b → IsIn q (option_to_list (if b then Some x else find test tags)) → (IsIn q (option_to_list (find test tags)) → IsIn q tags × (test q ≡ true)) → IsIn q (x ∷ tags) × (test q ≡ true)
    go true g (inl j) rest = (inl j, subst (λ z. test z ≡ true) (sym j) g)
    go true g (inr j) rest = absurd j
    go false g j rest = let r = rest j in (inr r.0, r.1)

-- the parts of a group's courses after one more request
abbrev pub parts_of : TailoringParts → Bounded → Option (List (Option Structure)) → List ℕ → List Course
parts_of t r f tags =
    (courses_at f (filter (is_past r) tags) ++ courses_at (found_by_one t (Some (as_request false r)) f) (filter (is_unsure r) tags))
    ++ courses_at (found_by_one t (Some (as_request r.accepted r)) f) (option_to_list (find (is_sure r) tags))

pub alike-parts : (t : TailoringParts) (r : Bounded) (rest : List Bounded) (f : Option (List (Option Structure))) (tags : List ℕ) → AreRising (r ∷ rest)
    → AreAlike rest (map (course_after t r) (courses_at f tags)) (parts_of t r f tags)
unfolding settled_as
alike-parts t r rest f tags rising =
    alike-from rest (map (course_after t r) (courses_at f tags)) (parts_of t r f tags) left (λ k i. right k (IsIn-append k (past_part ++ unsure_part) sure_part i))
  where
    past_part : List Course
    past_part = courses_at f (filter (is_past r) tags)

    unsure_part : List Course
    unsure_part = courses_at (found_by_one t (Some (as_request false r)) f) (filter (is_unsure r) tags)

    sure_part : List Course
    sure_part = courses_at (found_by_one t (Some (as_request r.accepted r)) f) (option_to_list (find (is_sure r) tags))

    by-tag : (q : ℕ) → IsIn q tags → (past below : Bool) → is_at_most r.high q ≡ past → nat_le q r.low ≡ below
        → HasLike rest (parts_of t r f tags) (record { tag = q; found = found_by_one t (settled_as past below r) f })
    by-tag q i true below e g =
        let k : Course = record { tag = q; found = f } in
        has-like rest k k (parts_of t r f tags)
        (IsIn-left k (past_part ++ unsure_part) sure_part (IsIn-left k past_part unsure_part (at-in f q (filter (is_past r) tags) (filter-IsIn (is_past r) q tags i e))))
        (like-refl rest k)
    by-tag q i false false e g =
        let k : Course = record { tag = q; found = found_by_one t (Some (as_request false r)) f } in
        let passes : is_unsure r q ≡ true = ap (λ b. not b && not (nat_le q r.low)) e ∙ ap (λ b. true && not b) g in
        has-like rest k k (parts_of t r f tags)
        (IsIn-left k (past_part ++ unsure_part) sure_part
        (IsIn-right k past_part unsure_part (at-in (found_by_one t (Some (as_request false r)) f) q (filter (is_unsure r) tags) (filter-IsIn (is_unsure r) q tags i passes))))
        (like-refl rest k)
    by-tag q i false true e g =
        let found = found_by_one t (Some (as_request r.accepted r)) f in
        let k : Course = record { tag = q; found = found } in
        let passes : is_sure r q ≡ true = ap (λ b. not b && nat_le q r.low) e ∙ ap (λ b. true && b) g in
        let first = found-first (is_sure r) q tags i passes in
        let l : Course = record { tag = first.0; found = found } in
        let flags = sure-parts r first.0 first.2 in
        has-like rest k l (parts_of t r f tags)
        (IsIn-right l (past_part ++ unsure_part) sure_part (at-in found first.0 (option_to_list (find (is_sure r) tags)) first.1))
        (same-refl found, sure-same r rest q first.0 rising.0 e flags.0 (leb-true q r.low g) (leb-true first.0 r.low flags.1))

    left : (k : Course) → IsIn k (map (course_after t r) (courses_at f tags)) → HasLike rest (parts_of t r f tags) k
    left k i =
        let c = in-after t r k (courses_at f tags) i in
        let q = in-at f c.0 tags c.1 in
        let same = c.2 ∙ (ap (λ x. course_after t r x) q.2 ∙ after-flags t r q.0 f (is_at_most r.high q.0) (nat_le q.0 r.low) refl refl) in
        subst (λ x. HasLike rest (parts_of t r f tags) x) (sym same) (by-tag q.0 q.1 (is_at_most r.high q.0) (nat_le q.0 r.low) refl refl)

    whole : (q : ℕ) (k : Course) (past below : Bool) → IsIn q tags → is_at_most r.high q ≡ past → nat_le q r.low ≡ below
        → k ≡ record { tag = q; found = found_by_one t (settled_as past below r) f } → HasLike rest (map (course_after t r) (courses_at f tags)) k
    whole q k past below i e g is =
        let c : Course = record { tag = q; found = f } in
        let same = is ∙ sym (after-flags t r q f past below e g) in
        has-like rest k (course_after t r c) (map (course_after t r) (courses_at f tags)) (after-in t r c (courses_at f tags) (at-in f q tags i))
        (subst (λ x. IsLike rest k x) same (like-refl rest k))

    middle : (k : Course) → IsIn k past_part ⊎ IsIn k unsure_part → HasLike rest (map (course_after t r) (courses_at f tags)) k
    middle k (inl i) =
        let q = in-at f k (filter (is_past r) tags) i in
        let p = IsIn-filter (is_past r) q.0 tags q.1 in
        whole q.0 k true (nat_le q.0 r.low) p.0 p.1 refl q.2
    middle k (inr i) =
        let q = in-at (found_by_one t (Some (as_request false r)) f) k (filter (is_unsure r) tags) i in
        let p = IsIn-filter (is_unsure r) q.0 tags q.1 in
        let flags = unsure-parts r q.0 p.1 in
        whole q.0 k false false p.0 flags.0 flags.1 q.2

    right : (k : Course) → IsIn k (past_part ++ unsure_part) ⊎ IsIn k sure_part → HasLike rest (map (course_after t r) (courses_at f tags)) k
    right k (inl i) = middle k (IsIn-append k past_part unsure_part i)
    right k (inr i) =
        let q = in-at (found_by_one t (Some (as_request r.accepted r)) f) k (option_to_list (find (is_sure r) tags)) i in
        let p = first-found (is_sure r) q.0 tags q.1 in
        let flags = sure-parts r q.0 p.1 in
        whole q.0 k false true p.0 flags.0 flags.1 q.2

-- three parts are added one after the other
pub alike-three : (rest : List Bounded) (old p u s g1 g2 g3 : List Course) → AreAlike rest (old ++ p) g1 → AreAlike rest (g1 ++ u) g2 → AreAlike rest (g2 ++ s) g3
    → AreAlike rest (old ++ ((p ++ u) ++ s)) g3
alike-three rest old p u s g1 g2 g3 h1 h2 h3 =
    let two = alike-trans rest ((old ++ p) ++ u) (g1 ++ u) g2 (alike-append rest (old ++ p) g1 u u h1 (alike-refl rest u)) h2 in
    let three = alike-trans rest (((old ++ p) ++ u) ++ s) (g2 ++ s) g3 (alike-append rest ((old ++ p) ++ u) g2 s s two (alike-refl rest s)) h3 in
    subst (λ xs. AreAlike rest xs g3) (append_assoc (old ++ p) u s ∙ (append_assoc old p (u ++ s) ∙ ap (λ l. old ++ l) (sym (append_assoc p u s)))) three

pub alike-group : (t : TailoringParts) (r : Bounded) (rest : List Bounded) (old new : List Course) (f : Option (List (Option Structure))) (tags : List ℕ) → AreRising (r ∷ rest)
    → AreAlike rest (old ++ parts_of t r f tags) new → AreAlike rest (old ++ map (course_after t r) (courses_at f tags)) new
alike-group t r rest old new f tags rising h =
    alike-trans rest (old ++ map (course_after t r) (courses_at f tags)) (old ++ parts_of t r f tags) new
    (alike-append rest old old (map (course_after t r) (courses_at f tags)) (parts_of t r f tags) (alike-refl rest old) (alike-parts t r rest f tags rising)) h

-- a request is settled for a group, part by part
pub alike-settled : (t : TailoringParts) (r : Bounded) (rest : List Bounded) (gs g1 g2 g3 : List Group) (f : Option (List (Option Structure))) (tags past unsure sure : List ℕ) (cu cs : Candidate)
    → AreRising (r ∷ rest) → past ≡ filter (is_past r) tags → unsure ≡ filter (is_unsure r) tags → sure ≡ option_to_list (find (is_sure r) tags)
    → cu ≡ as_request false r → cs ≡ as_request r.accepted r
    → AreAlike rest (courses gs ++ courses_at f past) (courses g1) → AreAlike rest (courses g1 ++ courses_at (found_after t cu f) unsure) (courses g2)
    → AreAlike rest (courses g2 ++ courses_at (found_after t cs f) sure) (courses g3)
    → AreAlike rest (courses gs ++ map (course_after t r) (courses_at f tags)) (courses g3)
alike-settled t r rest gs g1 g2 g3 f tags past unsure sure cu cs rising p u s eu es h1 h2 h3 =
    alike-group t r rest (courses gs) (courses g3) f tags rising
    (alike-three rest (courses gs) (courses_at f (filter (is_past r) tags)) (courses_at (found_after t (as_request false r) f) (filter (is_unsure r) tags))
    (courses_at (found_after t (as_request r.accepted r) f) (option_to_list (find (is_sure r) tags))) (courses g1) (courses g2) (courses g3)
    (subst (λ (q : List ℕ). AreAlike rest (courses gs ++ courses_at f q) (courses g1)) p h1)
    (subst (λ (q : List ℕ). AreAlike rest (courses g1 ++ courses_at (found_after t (as_request false r) f) q) (courses g2)) u
    (subst (λ (c : Candidate). AreAlike rest (courses g1 ++ courses_at (found_after t c f) unsure) (courses g2)) eu h2))
    (subst (λ (q : List ℕ). AreAlike rest (courses g2 ++ courses_at (found_after t (as_request r.accepted r) f) q) (courses g3)) s
    (subst (λ (c : Candidate). AreAlike rest (courses g2 ++ courses_at (found_after t c f) sure) (courses g3)) es h3)))

-- and for one more group
pub alike-more : (t : TailoringParts) (r : Bounded) (rest : List Bounded) (gs : List Group) (i : ℕ) (g : Group) (later new : List Group) → i < length gs → g ≡ get_or gs i g
    → AreAlike rest (map (course_after t r) (courses (take i gs))) (courses later) → AreAlike rest (courses later ++ map (course_after t r) (courses_of g)) (courses new)
    → AreAlike rest (map (course_after t r) (courses (take (i + 1) gs))) (courses new)
alike-more t r rest gs i g later new l e h n =
    let after = course_after t r in
    let same : map after (courses (take (i + 1) gs)) ≡ map after (courses (take i gs)) ++ map after (courses_of g) =
    ap (λ (xs : List Group). map after (courses xs)) (take_more gs i g l ∙ ap (λ (x : Group). take i gs ++ x ∷ []) (sym e))
    ∙ (ap (λ ks. map after ks) (courses-push (take i gs) g) ∙ map-append after (courses (take i gs)) (courses_of g)) in
    subst (λ ks. AreAlike rest ks (courses new)) (sym same)
    (alike-trans rest (map after (courses (take i gs)) ++ map after (courses_of g)) (courses later ++ map after (courses_of g)) (courses new)
    (alike-append rest (map after (courses (take i gs))) (courses later) (map after (courses_of g)) (map after (courses_of g)) h (alike-refl rest (map after (courses_of g)))) n)

-- requests from one place on rise
pub rising-from : (rs : List Bounded) (i : ℕ) → AreRising rs → AreRising (drop i rs)
rising-from [] zero h = h
rising-from [] (suc i) h = h
rising-from (r ∷ rs) zero h = h
rising-from (r ∷ rs) (suc i) h = rising-from rs i h.1

-- a course after one more of the settled requests
course-more : (t : TailoringParts) (rs : List Bounded) (i : ℕ) (r : Bounded) (k : Course) → i < length rs → r ≡ get_or rs i r
    → course_after_all t (take (i + 1) rs) k ≡ course_after t r (course_after_all t (take i rs) k)
course-more t rs i r k l e =
    ap (λ (f : Option (List (Option Structure))). record { tag = k.tag; found = f })
    (ap (λ cs. found_after_all t cs k.found) (settled-more k.tag rs i r l e)
    ∙ (after_all-append t (filter_map (settled k.tag) (take i rs)) (cons_option (settled k.tag r) []) k.found ∙ go (settled k.tag r)))
  where
    go : (o : Option Candidate) → found_after_all t (cons_option o []) (found_after_all t (filter_map (settled k.tag) (take i rs)) k.found)
        ≡ found_by_one t o (found_after_all t (filter_map (settled k.tag) (take i rs)) k.found)
    go None = refl
    go (Some c) = refl

courses-more : (t : TailoringParts) (rs : List Bounded) (i : ℕ) (r : Bounded) (ks : List Course) → i < length rs → r ≡ get_or rs i r
    → map (course_after_all t (take (i + 1) rs)) ks ≡ map (course_after t r) (map (course_after_all t (take i rs)) ks)
courses-more t rs i r [] l e = refl
courses-more t rs i r (k ∷ ks) l e =
    ap (λ c. c ∷ map (course_after_all t (take (i + 1) rs)) ks) (course-more t rs i r k l e)
    ∙ ap (λ cs. course_after t r (course_after_all t (take i rs) k) ∷ cs) (courses-more t rs i r ks l e)

-- one more request is settled
pub alike-place : SameIsFound → (t : TailoringParts) (rs : List Bounded) (i : ℕ) (r : Bounded) (ks : List Course) (gs new : List Group) → i < length rs → r ≡ get_or rs i r → AreRising rs
    → AreAlike (drop i rs) (map (course_after_all t (take i rs)) ks) (courses gs)
    → ((rest : List Bounded) → AreRising (r ∷ rest) → AreAlike rest (map (course_after t r) (courses gs)) (courses new))
    → AreAlike (drop (i + 1) rs) (map (course_after_all t (take (i + 1) rs)) ks) (courses new)
alike-place law t rs i r ks gs new l e rising h step =
    let rest = drop (i + 1) rs in
    let split : drop i rs ≡ r ∷ rest = drop_more rs i r l ∙ ap (λ x. x ∷ rest) (sym e) in
    let now = map (course_after_all t (take i rs)) ks in
    subst (λ cs. AreAlike rest cs (courses new)) (sym (courses-more t rs i r ks l e))
    (alike-trans rest (map (course_after t r) now) (map (course_after t r) (courses gs)) (courses new)
    (alike-after law t r rest now (courses gs) (subst (λ xs. AreAlike xs now (courses gs)) split h))
    (step rest (subst (λ xs. AreRising xs) split (rising-from rs i rising))))

reached-limit : (t : TailoringParts) (rs : List Bounded) (settled limit more : ℕ) (g : Group) → limit ≤ more → IsReached t rs settled limit g → IsReached t rs settled more g
reached-limit t rs settled limit more g le h =
    record { some = h.some; base = h.base; found = h.found; within = h.within; limited = omega (arith, h.limited); same = h.same }

pub all-limit : (t : TailoringParts) (rs : List Bounded) (settled limit more : ℕ) (gs : List Group) → limit ≤ more → All (IsReached t rs settled limit) gs → All (IsReached t rs settled more) gs
all-limit t rs settled limit more gs le all = All-weaker (IsReached t rs settled limit) (IsReached t rs settled more) (λ g h. reached-limit t rs settled limit more g le h) gs all

pub all-bases : (t : TailoringParts) (rs : List Bounded) (settled limit : ℕ) (gs : List Group) → All (IsReached t rs settled limit) gs → All (λ (g : Group). IsFormedFound t g.base) gs
all-bases t rs settled limit gs all = All-weaker (IsReached t rs settled limit) (λ (g : Group). IsFormedFound t g.base) (λ g h. h.base) gs all

-- a group with other finds
pub courses-same : (gs : List Group) (g h : Group) (earlier later : List Group) → h.tags ≡ g.tags → h.base ≡ g.base → courses earlier ≡ courses gs → later ≡ earlier ++ h ∷ []
    → courses later ≡ courses (gs ++ g ∷ [])
courses-same gs g h earlier later tags base same is =
    ap (λ (xs : List Group). courses xs) is
    ∙ (courses-push earlier h ∙ (ap (λ ks. ks ++ courses_of h) same
    ∙ (ap (λ (ts : List ℕ). courses gs ++ courses_at h.base ts) tags ∙ (ap (λ (f : Option (List (Option Structure))). courses gs ++ courses_at f g.tags) base ∙ sym (courses-push gs g)))))

pub all-last : (P : Group → Type 0) (gs : List Group) (g : Group) → All P (gs ++ g ∷ []) → All P gs × P g
all-last P gs g h =
    let parts = AllByRecursion-parts P gs (g ∷ []) (recursion_from_All P (gs ++ g ∷ []) h) in
    (All-from_recursion P gs parts.0, parts.1.0)
