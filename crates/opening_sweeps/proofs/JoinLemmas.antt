-- Openings that join a group, or make one.
use Rattle.std.proofs.Common.{arith, ◌≡◌, ℕ, ◌+◌, ◌<◌, ◌≤◌, refl, sym, ◌∙◌, ap, subst, List, [], ◌∷◌, ◌++◌, ◌⊎◌, inl, inr, Option, Some, None, map, length, length-append, length-drop, length-take, take, drop, get_or, append-nil, append_assoc, flat_map}
use Rattle.std.specs.List.{All, AllByRecursion, HoldsAt, IsDistinct}
use Rattle.std.proofs.lemmas.List.{map-append, take-append-drop, drop_more, get_or_default}
use Rattle.std.proofs.lemmas.List.Concat.{flat_map-append}
use Rattle.std.proofs.lemmas.List.Elements.{All-append, All-take, All-drop, All-push, All-get_or, All-from_recursion}
use Rattle.hk_base.specs.TailoringParts.{TailoringParts}
use Rattle.hk_base.specs.declared.types.Structure.{Structure}
use Rattle.hk_base.proofs.Membership.{IsIn, IsIn-left, IsIn-right, IsIn-append}
use Rattle.report_structures.specs.Changes.{IsFormedState}
use Rattle.definition_intervals.specs.Founds.{found_after_all, AreSameFound, IsFormedFound}
use Rattle.opening_sweeps.specs.Requests.{Bounded}
use Rattle.opening_sweeps.specs.Courses.{Course, IsLike, HasLike, AreAlike}
use Rattle.opening_sweeps.specs.Groups.{courses_at, courses_of, courses, joined, with_tags, unsure, IsReached}
use Rattle.opening_sweeps.specs.declared.group.Group.{Group}
use Rattle.opening_sweeps.proofs.FoldLemmas.{same-refl, same-sym}
use Rattle.opening_sweeps.proofs.CourseLemmas.{like-found, like-refl, has-like, alike-from, alike-refl, alike-members, alike-trans, alike-append, courses-push}

-- the same is found at some tags
pub alike-found : (rest : List Bounded) (tags : List ℕ) (f g : Option (List (Option Structure))) → AreSameFound f g → AreAlike rest (courses_at f tags) (courses_at g tags)
alike-found rest tags f g h = record { left = go tags f g h; right = go tags g f (same-sym f g h) }
  where
    more : (xs : List ℕ) (tag : ℕ) (a b : Option (List (Option Structure))) → AllByRecursion (HasLike rest (courses_at b xs)) (courses_at a xs) → AllByRecursion (HasLike rest (courses_at b (tag ∷ xs))) (courses_at a xs)
    more xs tag a b all = weaker (courses_at a xs) all
      where
        weaker : (ks : List Course) → AllByRecursion (HasLike rest (courses_at b xs)) ks → AllByRecursion (HasLike rest (courses_at b (tag ∷ xs))) ks
        weaker [] k = tt
        weaker (c ∷ ks) k = (inr k.0, weaker ks k.1)

    go : (xs : List ℕ) (a b : Option (List (Option Structure))) → AreSameFound a b → AllByRecursion (HasLike rest (courses_at b xs)) (courses_at a xs)
    go [] a b s = tt
    go (x ∷ xs) a b s = (inl (like-found rest x a b s), more xs x a b (go xs a b s))

-- a part of a list put behind the others
moved-in : (k : Course) (a b c d : List Course) → IsIn k ((a ++ (b ++ c)) ++ d) → IsIn k ((a ++ c) ++ (b ++ d))
moved-in k a b c d i = go (IsIn-append k (a ++ (b ++ c)) d i)
  where
    inner : IsIn k b ⊎ IsIn k c → IsIn k ((a ++ c) ++ (b ++ d))
    inner (inl j) = IsIn-right k (a ++ c) (b ++ d) (IsIn-left k b d j)
    inner (inr j) = IsIn-left k (a ++ c) (b ++ d) (IsIn-right k a c j)

    front : IsIn k a ⊎ IsIn k (b ++ c) → IsIn k ((a ++ c) ++ (b ++ d))
    front (inl j) = IsIn-left k (a ++ c) (b ++ d) (IsIn-left k a c j)
    front (inr j) = inner (IsIn-append k b c j)

    go : IsIn k (a ++ (b ++ c)) ⊎ IsIn k d → IsIn k ((a ++ c) ++ (b ++ d))
    go (inl j) = front (IsIn-append k a (b ++ c) j)
    go (inr j) = IsIn-right k (a ++ c) (b ++ d) (IsIn-right k b d j)

moved-back : (k : Course) (a b c d : List Course) → IsIn k ((a ++ c) ++ (b ++ d)) → IsIn k ((a ++ (b ++ c)) ++ d)
moved-back k a b c d i = go (IsIn-append k (a ++ c) (b ++ d) i)
  where
    front : IsIn k a ⊎ IsIn k c → IsIn k ((a ++ (b ++ c)) ++ d)
    front (inl j) = IsIn-left k (a ++ (b ++ c)) d (IsIn-left k a (b ++ c) j)
    front (inr j) = IsIn-left k (a ++ (b ++ c)) d (IsIn-right k a (b ++ c) (IsIn-right k b c j))

    behind : IsIn k b ⊎ IsIn k d → IsIn k ((a ++ (b ++ c)) ++ d)
    behind (inl j) = IsIn-left k (a ++ (b ++ c)) d (IsIn-right k a (b ++ c) (IsIn-left k b c j))
    behind (inr j) = IsIn-right k (a ++ (b ++ c)) d j

    go : IsIn k (a ++ c) ⊎ IsIn k (b ++ d) → IsIn k ((a ++ (b ++ c)) ++ d)
    go (inl j) = front (IsIn-append k a c j)
    go (inr j) = behind (IsIn-append k b d j)

courses-split : (gs : List Group) (i : ℕ) (g : Group) → i < length gs → g ≡ get_or gs i g
    → courses gs ≡ courses (take i gs) ++ (courses_of g ++ courses (drop (i + 1) gs))
courses-split gs i g l e =
    ap (λ xs. courses xs) (sym (take-append-drop i gs)) ∙ (flat_map-append courses_of (take i gs) (drop i gs)
    ∙ ap (λ xs. courses (take i gs) ++ courses xs) (drop_more gs i g l ∙ ap (λ x. x ∷ drop (i + 1) gs) (sym e)))

courses-joined : (gs : List Group) (i : ℕ) (g : Group) (tags : List ℕ)
    → courses (joined gs i g tags) ≡ (courses (take i gs) ++ courses (drop (i + 1) gs)) ++ (courses_of g ++ courses_at g.base tags)
courses-joined gs i g tags =
    courses-push (take i gs ++ drop (i + 1) gs) (with_tags g tags)
    ∙ (ap (λ l. l ++ courses_of (with_tags g tags)) (flat_map-append courses_of (take i gs) (drop (i + 1) gs))
    ∙ ap (λ l. (courses (take i gs) ++ courses (drop (i + 1) gs)) ++ l) (map-append (λ tag. record { tag = tag; found = g.base }) g.tags tags))

pub alike-joined : (rest : List Bounded) (gs : List Group) (i : ℕ) (g : Group) (base : Option (List (Option Structure))) (tags : List ℕ) → i < length gs → g ≡ get_or gs i g
    → AreSameFound g.base base → AreAlike rest (courses gs ++ courses_at base tags) (courses (joined gs i g tags))
alike-joined rest gs i g base tags l e same =
    let a = courses (take i gs) in
    let b = courses_of g in
    let c = courses (drop (i + 1) gs) in
    let first : AreAlike rest ((a ++ (b ++ c)) ++ courses_at base tags) ((a ++ (b ++ c)) ++ courses_at g.base tags) =
    alike-append rest (a ++ (b ++ c)) (a ++ (b ++ c)) (courses_at base tags) (courses_at g.base tags) (alike-refl rest (a ++ (b ++ c)))
    (alike-found rest tags base g.base (same-sym g.base base same)) in
    let second : AreAlike rest ((a ++ (b ++ c)) ++ courses_at g.base tags) ((a ++ c) ++ (b ++ courses_at g.base tags)) =
    alike-members rest ((a ++ (b ++ c)) ++ courses_at g.base tags) ((a ++ c) ++ (b ++ courses_at g.base tags))
    (λ k i. moved-in k a b c (courses_at g.base tags) i) (λ k i. moved-back k a b c (courses_at g.base tags) i) in
    subst (λ xs. AreAlike rest (xs ++ courses_at base tags) (courses (joined gs i g tags))) (sym (courses-split gs i g l e))
    (subst (λ xs. AreAlike rest ((a ++ (b ++ c)) ++ courses_at base tags) xs) (sym (courses-joined gs i g tags))
    (alike-trans rest ((a ++ (b ++ c)) ++ courses_at base tags) ((a ++ (b ++ c)) ++ courses_at g.base tags) ((a ++ c) ++ (b ++ courses_at g.base tags)) first second))

reached-tags : (t : TailoringParts) (rs : List Bounded) (settled limit : ℕ) (g : Group) (tags : List ℕ) → IsReached t rs settled limit g → IsReached t rs settled limit (with_tags g tags)
reached-tags t rs settled limit g tags h =
    record { some = omega (arith, h.some, length-append g.tags tags); base = h.base; found = h.found; within = h.within; limited = h.limited; same = h.same }

pub reached-joined : (t : TailoringParts) (rs : List Bounded) (settled limit : ℕ) (gs : List Group) (i : ℕ) (g : Group) (tags : List ℕ) → i < length gs → g ≡ get_or gs i g
    → All (IsReached t rs settled limit) gs → All (IsReached t rs settled limit) (joined gs i g tags)
reached-joined t rs settled limit gs i g tags l e all =
    let P = IsReached t rs settled limit in
    All-push P (take i gs ++ drop (i + 1) gs) (with_tags g tags)
    (All-append P (take i gs) (drop (i + 1) gs) (All-take P i gs all) (All-drop P (i + 1) gs all))
    (reached-tags t rs settled limit g tags (subst P (sym e) (All-get_or P gs i g l all)))

-- a group of its own
abbrev pub made : List ℕ → Option (List (Option Structure)) → ℕ → Group
made tags base place = record { tags = tags; base = base; found = base; reached = place }

pub alike-made : (rest : List Bounded) (gs : List Group) (tags : List ℕ) (base : Option (List (Option Structure))) (place : ℕ)
    → AreAlike rest (courses gs ++ courses_at base tags) (courses (gs ++ made tags base place ∷ []))
alike-made rest gs tags base place =
    subst (λ xs. AreAlike rest (courses gs ++ courses_at base tags) xs) (sym (courses-push gs (made tags base place))) (alike-refl rest (courses gs ++ courses_at base tags))

drop-take_none : (rs : List Bounded) (n : ℕ) → drop n (take n rs) ≡ []
drop-take_none rs n = go rs n
  where
    nothing : (ys : List Bounded) → length ys ≡ 0 → ys ≡ []
    nothing [] h = refl
    nothing (y ∷ ys) h = absurd (omega arith)

    go : (xs : List Bounded) (k : ℕ) → drop k (take k xs) ≡ []
    go xs k = nothing (drop k (take k xs)) (omega (arith, length-drop k (take k xs), length-take k xs))

pub reached-made : (t : TailoringParts) (rs : List Bounded) (place limit : ℕ) (gs : List Group) (tags : List ℕ) (base : Option (List (Option Structure))) → place ≤ limit → 1 ≤ length tags
    → IsFormedFound t base → All (IsReached t rs place limit) gs → All (IsReached t rs place limit) (gs ++ made tags base place ∷ [])
reached-made t rs place limit gs tags base le some formed all =
    All-push (IsReached t rs place limit) gs (made tags base place) all
    (record {
      some = some;
      base = formed;
      found = formed;
      within = omega arith;
      limited = le;
      same = subst (λ xs. AreSameFound base (found_after_all t (unsure xs) base)) (sym (drop-take_none rs place)) (same-refl base);
    })

-- the group at a place
group_at : (gs : List Group) (i : ℕ) → i < length gs → (g : Group) × (g ≡ get_or gs i g)
group_at gs i l =
    let none : Group = made [] None 0 in
    (get_or gs i none, get_or_default gs i none (get_or gs i none) l)

at-place : (gs : List Group) (i : ℕ) (g : Group) (P : Group → Type 0) → g ≡ get_or gs i g → HoldsAt P gs i → P g
at-place gs i g P e h = subst P (sym e) (h g)

pub alike-at : (rest : List Bounded) (gs new : List Group) (i : ℕ) (base : Option (List (Option Structure))) (tags : List ℕ) → i < length gs
    → HoldsAt (λ g. AreSameFound g.base base) gs i → HoldsAt (λ g. new ≡ joined gs i g tags) gs i → AreAlike rest (courses gs ++ courses_at base tags) (courses new)
alike-at rest gs new i base tags l same is =
    let g = group_at gs i l in
    subst (λ xs. AreAlike rest (courses gs ++ courses_at base tags) (courses xs)) (sym (at-place gs i g.0 (λ x. new ≡ joined gs i x tags) g.1 is))
    (alike-joined rest gs i g.0 base tags l g.1 (at-place gs i g.0 (λ x. AreSameFound x.base base) g.1 same))

pub reached-at : (t : TailoringParts) (rs : List Bounded) (settled limit : ℕ) (gs new : List Group) (i : ℕ) (tags : List ℕ) → i < length gs
    → HoldsAt (λ g. new ≡ joined gs i g tags) gs i → All (IsReached t rs settled limit) gs → All (IsReached t rs settled limit) new
reached-at t rs settled limit gs new i tags l is all =
    let g = group_at gs i l in
    subst (λ (xs : List Group). All (IsReached t rs settled limit) xs) (sym (at-place gs i g.0 (λ x. new ≡ joined gs i x tags) g.1 is))
    (reached-joined t rs settled limit gs i g.0 tags l g.1 all)

-- no openings
pub alike-none : (rest : List Bounded) (gs : List Group) (base : Option (List (Option Structure))) (tags : List ℕ) → length tags ≡ 0 → AreAlike rest (courses gs ++ courses_at base tags) (courses gs)
alike-none rest gs base [] e = subst (λ xs. AreAlike rest (courses gs ++ []) xs) (append-nil (courses gs)) (alike-refl rest (courses gs ++ []))
alike-none rest gs base (x ∷ tags) e = absurd (omega arith)

-- one valid state
pub formed-one : (t : TailoringParts) (s : Option Structure) → IsFormedState t s → IsFormedFound t (Some (s ∷ []))
unfolding IsDistinct
formed-one t s h = (All-from_recursion (IsFormedState t) (s ∷ []) (h, tt), (tt, tt))

-- openings of which the same is found
pub alike-instead : (rest : List Bounded) (gs new : List Group) (f g : Option (List (Option Structure))) (tags : List ℕ) → AreSameFound f g
    → AreAlike rest (courses gs ++ courses_at f tags) (courses new) → AreAlike rest (courses gs ++ courses_at g tags) (courses new)
alike-instead rest gs new f g tags same h =
    alike-trans rest (courses gs ++ courses_at g tags) (courses gs ++ courses_at f tags) (courses new)
    (alike-append rest (courses gs) (courses gs) (courses_at g tags) (courses_at f tags) (alike-refl rest (courses gs)) (alike-found rest tags g f (same-sym f g same))) h
