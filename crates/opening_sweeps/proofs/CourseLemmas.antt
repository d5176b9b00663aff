-- Courses that go on alike.
use Rattle.std.proofs.Common.{◌≡◌, ℕ, refl, sym, ◌∙◌, ap, subst, List, [], ◌∷◌, ◌++◌, Bool, true, false, ◌⊎◌, inl, inr, Option, Some, None, map, flat_map, append-nil, append_assoc}
use Rattle.std.specs.Prelude.{nat_le, ◌&&◌, if◌then◌else◌}
use Rattle.std.specs.List.{AllByRecursion}
use Rattle.std.proofs.lemmas.List.{map_push, map-append}
use Rattle.std.proofs.lemmas.List.Concat.{flat_map-append}
use Rattle.hk_base.specs.TailoringParts.{TailoringParts}
use Rattle.hk_base.specs.declared.types.Structure.{Structure}
use Rattle.hk_base.proofs.Membership.{IsIn, IsIn-left, IsIn-right, IsIn-append, AllByRecursion-IsIn, IsIn-AllByRecursion}
use Rattle.definition_intervals.specs.Openings.{Candidate, is_at_most}
use Rattle.definition_intervals.specs.Founds.{found_after, AreSameFound, SameIsFound}
use Rattle.opening_sweeps.specs.Requests.{Bounded, as_request, settled}
use Rattle.opening_sweeps.specs.Courses.{Course, found_by_one, course_after, StandsTheSame, IsLike, HasLike, AreAlike}
use Rattle.opening_sweeps.specs.Groups.{courses_of, courses}
use Rattle.opening_sweeps.specs.declared.group.Group.{Group}
use Rattle.opening_sweeps.proofs.FoldLemmas.{same-refl, same-sym, same-trans}

-- a request stands the same
stands-refl : (rest : List Bounded) (a : ℕ) → AllByRecursion (StandsTheSame a a) rest
stands-refl [] a = tt
stands-refl (r ∷ rest) a = ((refl, refl), stands-refl rest a)

stands-sym : (rest : List Bounded) (a b : ℕ) → AllByRecursion (StandsTheSame a b) rest → AllByRecursion (StandsTheSame b a) rest
stands-sym [] a b h = tt
stands-sym (r ∷ rest) a b h = ((sym h.0.0, sym h.0.1), stands-sym rest a b h.1)

stands-trans : (rest : List Bounded) (a b c : ℕ) → AllByRecursion (StandsTheSame a b) rest → AllByRecursion (StandsTheSame b c) rest → AllByRecursion (StandsTheSame a c) rest
stands-trans [] a b c h g = tt
stands-trans (r ∷ rest) a b c h g = ((h.0.0 ∙ g.0.0, h.0.1 ∙ g.0.1), stands-trans rest a b c h.1 g.1)

pub like-refl : (rest : List Bounded) (a : Course) → IsLike rest a a
like-refl rest a = (same-refl a.found, stands-refl rest a.tag)

pub like-sym : (rest : List Bounded) (a b : Course) → IsLike rest a b → IsLike rest b a
like-sym rest a b h = (same-sym a.found b.found h.0, stands-sym rest a.tag b.tag h.1)

pub like-trans : (rest : List Bounded) (a b c : Course) → IsLike rest a b → IsLike rest b c → IsLike rest a c
like-trans rest a b c h g = (same-trans a.found b.found c.found h.0 g.0, stands-trans rest a.tag b.tag c.tag h.1 g.1)

-- courses of one tag of which the same is found
pub like-found : (rest : List Bounded) (tag : ℕ) (f g : Option (List (Option Structure))) → AreSameFound f g → IsLike rest (record { tag = tag; found = f }) (record { tag = tag; found = g })
like-found rest tag f g h = (h, stands-refl rest tag)

-- some course of a list
pub has-like : (rest : List Bounded) (k l : Course) (ls : List Course) → IsIn l ls → IsLike rest k l → HasLike rest ls k
has-like rest k l [] i h = absurd i
has-like rest k l (m ∷ ls) (inl e) h = inl (subst (λ x. IsLike rest k x) e h)
has-like rest k l (m ∷ ls) (inr i) h = inr (has-like rest k l ls i h)

pub like-in : (rest : List Bounded) (k : Course) (ls : List Course) → HasLike rest ls k → (l : Course) × IsIn l ls × IsLike rest k l
like-in rest k [] h = absurd h
like-in rest k (l ∷ ls) (inl h) = (l, inl refl, h)
like-in rest k (l ∷ ls) (inr h) = let r = like-in rest k ls h in (r.0, inr r.1, r.2)

pub alike-from : (rest : List Bounded) (ks ls : List Course) → ((k : Course) → IsIn k ks → HasLike rest ls k) → ((l : Course) → IsIn l ls → HasLike rest ks l) → AreAlike rest ks ls
alike-from rest ks ls f g = record { left = IsIn-AllByRecursion (HasLike rest ls) ks f; right = IsIn-AllByRecursion (HasLike rest ks) ls g }

pub alike-refl : (rest : List Bounded) (ks : List Course) → AreAlike rest ks ks
alike-refl rest ks = alike-from rest ks ks (λ k i. has-like rest k k ks i (like-refl rest k)) (λ k i. has-like rest k k ks i (like-refl rest k))

-- lists with the same members
pub alike-members : (rest : List Bounded) (ks ls : List Course) → ((k : Course) → IsIn k ks → IsIn k ls) → ((k : Course) → IsIn k ls → IsIn k ks) → AreAlike rest ks ls
alike-members rest ks ls f g =
    alike-from rest ks ls (λ k i. has-like rest k k ls (f k i) (like-refl rest k)) (λ k i. has-like rest k k ks (g k i) (like-refl rest k))

has-trans : (rest : List Bounded) (k : Course) (ls ms : List Course) → HasLike rest ls k → AllByRecursion (HasLike rest ms) ls → HasLike rest ms k
has-trans rest k ls ms h all =
    let l = like-in rest k ls h in
    let m = like-in rest l.0 ms (AllByRecursion-IsIn (HasLike rest ms) l.0 ls all l.1) in
    has-like rest k m.0 ms m.1 (like-trans rest k l.0 m.0 l.2 m.2)

pub alike-trans : (rest : List Bounded) (ks ls ms : List Course) → AreAlike rest ks ls → AreAlike rest ls ms → AreAlike rest ks ms
alike-trans rest ks ls ms h g =
    alike-from rest ks ms (λ k i. has-trans rest k ls ms (AllByRecursion-IsIn (HasLike rest ls) k ks h.left i) g.left)
    (λ m i. has-trans rest m ls ks (AllByRecursion-IsIn (HasLike rest ls) m ms g.right i) h.right)

has-left : (rest : List Bounded) (k : Course) (ls ms : List Course) → HasLike rest ls k → HasLike rest (ls ++ ms) k
has-left rest k [] ms h = absurd h
has-left rest k (l ∷ ls) ms (inl h) = inl h
has-left rest k (l ∷ ls) ms (inr h) = inr (has-left rest k ls ms h)

has-right : (rest : List Bounded) (k : Course) (ls ms : List Course) → HasLike rest ms k → HasLike rest (ls ++ ms) k
has-right rest k [] ms h = h
has-right rest k (l ∷ ls) ms h = inr (has-right rest k ls ms h)

pub alike-append : (rest : List Bounded) (ks ls ms ns : List Course) → AreAlike rest ks ls → AreAlike rest ms ns → AreAlike rest (ks ++ ms) (ls ++ ns)
alike-append rest ks ls ms ns h g = alike-from rest (ks ++ ms) (ls ++ ns) (λ k i. left k (IsIn-append k ks ms i)) (λ l i. right l (IsIn-append l ls ns i))
  where
    left : (k : Course) → IsIn k ks ⊎ IsIn k ms → HasLike rest (ls ++ ns) k
    left k (inl i) = has-left rest k ls ns (AllByRecursion-IsIn (HasLike rest ls) k ks h.left i)
    left k (inr i) = has-right rest k ls ns (AllByRecursion-IsIn (HasLike rest ns) k ms g.left i)

    right : (l : Course) → IsIn l ls ⊎ IsIn l ns → HasLike rest (ks ++ ms) l
    right l (inl i) = has-left rest l ks ms (AllByRecursion-IsIn (HasLike rest ks) l ls h.right i)
    right l (inr i) = has-right rest l ks ms (AllByRecursion-IsIn (HasLike rest ms) l ns g.right i)

-- one more request is settled
settled_by : Bool → Bool → Bounded → Option Candidate
settled_by past below r = if past then None else Some (as_request (below && r.accepted) r)

one-same : SameIsFound → (t : TailoringParts) (o : Option Candidate) (f g : Option (List (Option Structure))) → AreSameFound f g → AreSameFound (found_by_one t o f) (found_by_one t o g)
one-same law t None f g h = h
one-same law t (Some c) f g h = law t c f g h

pub like-after : SameIsFound → (t : TailoringParts) (r : Bounded) (rest : List Bounded) (a b : Course) → IsLike (r ∷ rest) a b → IsLike rest (course_after t r a) (course_after t r b)
unfolding settled_by
like-after law t r rest a b h =
    let candidate : settled a.tag r ≡ settled b.tag r = ap (λ p. settled_by p (nat_le a.tag r.low) r) h.1.0.0 ∙ ap (λ p. settled_by (is_at_most r.high b.tag) p r) h.1.0.1 in
    (subst (λ o. AreSameFound (found_by_one t (settled a.tag r) a.found) (found_by_one t o b.found)) candidate (one-same law t (settled a.tag r) a.found b.found h.0), h.1.1)

has-after : SameIsFound → (t : TailoringParts) (r : Bounded) (rest : List Bounded) (k : Course) (ls : List Course) → HasLike (r ∷ rest) ls k → HasLike rest (map (course_after t r) ls) (course_after t r k)
has-after law t r rest k [] h = absurd h
has-after law t r rest k (l ∷ ls) (inl h) = inl (like-after law t r rest k l h)
has-after law t r rest k (l ∷ ls) (inr h) = inr (has-after law t r rest k ls h)

all-after : SameIsFound → (t : TailoringParts) (r : Bounded) (rest : List Bounded) (ks ls : List Course) → AllByRecursion (HasLike (r ∷ rest) ls) ks
    → AllByRecursion (HasLike rest (map (course_after t r) ls)) (map (course_after t r) ks)
all-after law t r rest [] ls h = tt
all-after law t r rest (k ∷ ks) ls h = (has-after law t r rest k ls h.0, all-after law t r rest ks ls h.1)

pub alike-after : SameIsFound → (t : TailoringParts) (r : Bounded) (rest : List Bounded) (ks ls : List Course) → AreAlike (r ∷ rest) ks ls
    → AreAlike rest (map (course_after t r) ks) (map (course_after t r) ls)
alike-after law t r rest ks ls h = record { left = all-after law t r rest ks ls h.left; right = all-after law t r rest ls ks h.right }

-- the courses of one more group
pub courses-push : (gs : List Group) (g : Group) → courses (gs ++ g ∷ []) ≡ courses gs ++ courses_of g
courses-push gs g = flat_map-append courses_of gs (g ∷ []) ∙ ap (λ l. courses gs ++ l) (append-nil (courses_of g))
