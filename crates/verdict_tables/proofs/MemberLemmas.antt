-- Members of lists of tags.
use Rattle.std.proofs.Common.{arith, ◌≡◌, ℕ, suc, ◌<◌, ◌≤◌, refl, sym, ◌∙◌, ap, subst, List, [], ◌∷◌, ◌++◌, Bool, true, false, ◌==◌, inl, inr, ◌⊎◌, Some, length}
use lib.Dec.{eqb}
use Rattle.std.specs.List.Sorted.{IsPermutation}
use Rattle.std.proofs.lemmas.Option.{slice_get_within, slice_get-get_or, get_or_from_slice_get}
use Rattle.std.proofs.lemmas.List.Kept.{Contains-dedup_nat, Contains-from_dedup}
use Rattle.std.proofs.lemmas.List.Sorted.{list_any-IsPermutation}
use Rattle.std.specs.List.{Contains, dedup}
use Rattle.std.proofs.lemmas.Bool.{both_ways, eqb-true, eq-eqb}
use Rattle.hk_base.proofs.Membership.{IsIn, IsIn-left, IsIn-right, IsIn-append, IsIn-index, slice_get-IsIn, IsIn-list_any, list_any-IsIn, AllByRecursion-IsIn}
use Rattle.verdict_tables.specs.Places.{is_among}
use Rattle.verdict_tables.proofs.RisingLemmas.{Rises}

pub among-IsIn : (n : ℕ) (xs : List ℕ) → is_among n xs ≡ true → IsIn n xs
among-IsIn n xs e =
    let p = IsIn-list_any (λ other. other == n) xs e in
    subst (λ m. IsIn m xs) (eqb-true p.0 n p.2) p.1

pub IsIn-among : (n : ℕ) (xs : List ℕ) → IsIn n xs → is_among n xs ≡ true
IsIn-among n xs i = list_any-IsIn (λ other. other == n) n xs i (eq-eqb n n refl)

-- a list without one of its members
record IsWithout (n : ℕ) (ys zs : List ℕ) : Type 0 where
  shorter : length ys ≡ suc (length zs)
  others : (m : ℕ) → IsIn m ys → (m ≡ n → ⊥) → IsIn m zs

without : (n : ℕ) (ys : List ℕ) → IsIn n ys → (zs : List ℕ) × IsWithout n ys zs
without n [] i = absurd i
without n (y ∷ ys) (inl e) = (ys, record { shorter = refl; others = others })
  where
    others : (m : ℕ) → IsIn m (y ∷ ys) → (m ≡ n → ⊥) → IsIn m ys
    others m (inl p) differs = absurd (differs (p ∙ sym e))
    others m (inr i) differs = i
without n (y ∷ ys) (inr i) =
    let p = without n ys i in
    (y ∷ p.0, record { shorter = ap suc p.1.shorter; others = others p.0 p.1 })
  where
    others : (zs : List ℕ) → IsWithout n ys zs → (m : ℕ) → IsIn m (y ∷ ys) → (m ≡ n → ⊥) → IsIn m (y ∷ zs)
    others zs w m (inl p) differs = inl p
    others zs w m (inr j) differs = inr (w.others m j differs)

-- rising tags that are among others are no more than these
pub rising-few : (xs ys : List ℕ) → Rises xs → ((n : ℕ) → IsIn n xs → IsIn n ys) → length xs ≤ length ys
rising-few [] ys r h = omega arith
rising-few (x ∷ xs) ys r h =
    let p = without x ys (h x (inl refl)) in
    let rest = rising-few xs p.0 r.1 (λ n i. p.1.others n (h n (inr i)) (λ e. omega (arith, e, AllByRecursion-IsIn (λ y. x < y) n xs r.0 i))) in
    omega (arith, rest, p.1.shorter)

IsIn-Contains : (n : ℕ) (xs : List ℕ) → IsIn n xs → Contains xs n
IsIn-Contains n xs i =
    let p = IsIn-index n xs i in
    (p.0, slice_get_within xs p.0 n p.1, get_or_from_slice_get xs p.0 n n p.1)

Contains-IsIn : (n : ℕ) (xs : List ℕ) → Contains xs n → IsIn n xs
Contains-IsIn n xs c = slice_get-IsIn n xs c.0 (slice_get-get_or xs c.0 n c.1 ∙ ap Some c.2)

same_tests : (a b : Bool) → (a ≡ true → b ≡ true) → (b ≡ true → a ≡ true) → a ≡ b
same_tests true b f g = sym (f refl)
same_tests false true f g = absurd (both_ways false refl (g refl))
same_tests false false f g = refl

-- two lists with the same members
pub among-same : (xs ys : List ℕ) → ((n : ℕ) → IsIn n xs → IsIn n ys) → ((n : ℕ) → IsIn n ys → IsIn n xs) → (n : ℕ) → is_among n xs ≡ is_among n ys
among-same xs ys f g n =
    same_tests (is_among n xs) (is_among n ys) (λ e. IsIn-among n ys (f n (among-IsIn n xs e))) (λ e. IsIn-among n xs (g n (among-IsIn n ys e)))

among-dedup : (xs : List ℕ) (n : ℕ) → is_among n (dedup eqb xs) ≡ is_among n xs
among-dedup xs n =
    among-same (dedup eqb xs) xs (λ m i. Contains-IsIn m xs (Contains-from_dedup eqb xs m (IsIn-Contains m (dedup eqb xs) i)))
    (λ m i. Contains-IsIn m (dedup eqb xs) (Contains-dedup_nat xs m (IsIn-Contains m xs i))) n

-- tags with 0, sorted, each once
pub among-sorted : (tags pushed sorted found : List ℕ) → pushed ≡ tags ++ 0 ∷ [] → IsPermutation pushed sorted → found ≡ dedup eqb sorted → (n : ℕ) → is_among n found ≡ is_among n (0 ∷ tags)
among-sorted tags pushed sorted found p moved is n =
    ap (λ (l : List ℕ). is_among n l) is
    ∙ (among-dedup sorted n
    ∙ (sym (list_any-IsPermutation (λ other. other == n) pushed sorted moved)
    ∙ (ap (λ (l : List ℕ). is_among n l) p ∙ among-same (tags ++ 0 ∷ []) (0 ∷ tags) forth back n)))
  where
    from : (m : ℕ) → IsIn m tags ⊎ IsIn m (0 ∷ []) → IsIn m (0 ∷ tags)
    from m (inl i) = inr i
    from m (inr (inl e)) = inl e
    from m (inr (inr i)) = absurd i

    forth : (m : ℕ) → IsIn m (tags ++ 0 ∷ []) → IsIn m (0 ∷ tags)
    forth m i = from m (IsIn-append m tags (0 ∷ []) i)

    back : (m : ℕ) → IsIn m (0 ∷ tags) → IsIn m (tags ++ 0 ∷ [])
    back m (inl e) = IsIn-right m tags (0 ∷ []) (inl e)
    back m (inr i) = IsIn-left m tags (0 ∷ []) i
