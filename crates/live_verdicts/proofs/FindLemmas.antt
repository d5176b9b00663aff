-- What is found of openings, each find once.
use Rattle.std.proofs.Common.{arith, ◌≡◌, ℕ, zero, suc, ◌<◌, refl, sym, subst, List, [], ◌∷◌, ◌++◌, length, map, inl, inr, ◌⊎◌, Option, get_or}
use Rattle.hk_base.specs.TailoringParts.{TailoringParts}
use Rattle.hk_base.specs.declared.types.Structure.{Structure}
use Rattle.hk_base.proofs.Membership.{IsIn, IsIn-left, IsIn-right, IsIn-append, AllByRecursion-IsIn, IsIn-AllByRecursion}
use Rattle.definition_intervals.specs.Openings.{Candidate}
use Rattle.definition_intervals.specs.Founds.{found_after_all, AreSameFound, SameIsFound}
use Rattle.opening_sweeps.proofs.FoldLemmas.{same-refl, same-sym, same-trans, after_all-same}
use Rattle.opening_sweeps.proofs.BasisLemmas.{AreCovered, in-map, map-in}
use Rattle.live_verdicts.specs.Marks.{HasSame, AreAlike, AreKnown}

abbrev Find : Type 0
Find = Option (List (Option Structure))

pub has-in : (gs : List Find) (f : Find) → HasSame gs f → (g : Find) × IsIn g gs × AreSameFound f g
has-in [] f h = absurd h
has-in (g ∷ gs) f (inl e) = (g, inl refl, e)
has-in (g ∷ gs) f (inr h) = let r = has-in gs f h in (r.0, inr r.1, r.2)

pub in-has : (gs : List Find) (f g : Find) → IsIn g gs → AreSameFound f g → HasSame gs f
in-has [] f g i e = absurd i
in-has (x ∷ gs) f g (inl same) e = inl (subst (λ (y : Find). AreSameFound f y) same e)
in-has (x ∷ gs) f g (inr i) e = inr (in-has gs f g i e)

pub has-item : (gs : List Find) (f g : Find) (i : ℕ) → i < length gs → g ≡ get_or gs i g → AreSameFound f g → HasSame gs f
has-item [] f g i l e same = absurd (omega (arith, l))
has-item (x ∷ gs) f g zero l e same = inl (subst (λ (y : Find). AreSameFound f y) e same)
has-item (x ∷ gs) f g (suc i) l e same = inr (has-item gs f g i (omega (arith, l)) e same)

pub alike-covered : (fs gs : List Find) → AreAlike fs gs → AreCovered fs gs × AreCovered gs fs
alike-covered fs gs alike =
    (λ f i. has-in gs f (AllByRecursion-IsIn (HasSame gs) f fs alike.there i), λ g i. has-in fs g (AllByRecursion-IsIn (HasSame fs) g gs alike.back i))

pub covered-alike : (fs gs : List Find) → AreCovered fs gs → AreCovered gs fs → AreAlike fs gs
covered-alike fs gs there back =
    record {
      there = IsIn-AllByRecursion (HasSame gs) fs (λ f i. let g = there f i in in-has gs f g.0 g.1 g.2);
      back = IsIn-AllByRecursion (HasSame fs) gs (λ g i. let f = back g i in in-has fs g f.0 f.1 f.2);
    }

pub alike-none : AreAlike [] []
alike-none = record { there = tt; back = tt }

pub alike-refl : (fs : List Find) → AreAlike fs fs
alike-refl fs = covered-alike fs fs (λ f i. (f, i, same-refl f)) (λ f i. (f, i, same-refl f))

-- the same with what is equal
pub early-from : (t t2 : TailoringParts) (cs cs2 : List Candidate) (fs fs2 gs : List Find) → t ≡ t2 → cs ≡ cs2 → fs ≡ fs2 → AreAlike (map (found_after_all t cs) fs) gs
    → AreAlike (map (found_after_all t2 cs2) fs2) gs
early-from t t2 cs cs2 fs fs2 gs et ec ef h =
    subst (λ x. AreAlike (map (found_after_all x cs2) fs2) gs) et
    (subst (λ x. AreAlike (map (found_after_all t x) fs2) gs) ec (subst (λ x. AreAlike (map (found_after_all t cs) x) gs) ef h))

covered-trans : (fs gs hs : List Find) → AreCovered fs gs → AreCovered gs hs → AreCovered fs hs
covered-trans fs gs hs a b f i = let g = a f i in let h = b g.0 g.1 in (h.0, h.1, same-trans f g.0 h.0 g.2 h.2)

pub alike-trans : (fs gs hs : List Find) → AreAlike fs gs → AreAlike gs hs → AreAlike fs hs
alike-trans fs gs hs a b =
    let p = alike-covered fs gs a in
    let q = alike-covered gs hs b in
    covered-alike fs hs (covered-trans fs gs hs p.0 q.0) (covered-trans hs gs fs q.1 p.1)

covered-after : SameIsFound → (t : TailoringParts) (cs : List Candidate) (fs gs : List Find) → AreCovered fs gs → AreCovered (map (found_after_all t cs) fs) (map (found_after_all t cs) gs)
covered-after law t cs fs gs cover f i =
    let x = in-map (found_after_all t cs) f fs i in
    let g = cover x.0 x.1 in
    (found_after_all t cs g.0, map-in (found_after_all t cs) g.0 gs g.1, subst (λ (y : Find). AreSameFound y (found_after_all t cs g.0)) (sym x.2) (after_all-same law t cs x.0 g.0 g.2))

-- finds that are alike are so after more requests
pub alike-after : SameIsFound → (t : TailoringParts) (cs : List Candidate) (fs gs : List Find) → AreAlike fs gs → AreAlike (map (found_after_all t cs) fs) (map (found_after_all t cs) gs)
alike-after law t cs fs gs alike = let p = alike-covered fs gs alike in covered-alike _ _ (covered-after law t cs fs gs p.0) (covered-after law t cs gs fs p.1)

-- one more find that was there already
pub alike-there : (fs gs : List Find) (found f : Find) → HasSame gs found → AreSameFound found f → AreAlike fs gs → AreAlike (fs ++ f ∷ []) gs
alike-there fs gs found f has same alike = covered-alike (fs ++ f ∷ []) gs there back
  where
    p : AreCovered fs gs × AreCovered gs fs
    p = alike-covered fs gs alike

    there : AreCovered (fs ++ f ∷ []) gs
    there x i = go (IsIn-append x fs (f ∷ []) i)
      where
        go : IsIn x fs ⊎ IsIn x (f ∷ []) → (g : Find) × IsIn g gs × AreSameFound x g
        go (inl j) = p.0 x j
        go (inr (inl e)) =
            let g = has-in gs found has in
            (g.0, g.1, subst (λ (y : Find). AreSameFound y g.0) (sym e) (same-trans f found g.0 (same-sym found f same) g.2))
        go (inr (inr j)) = absurd j

    back : AreCovered gs (fs ++ f ∷ [])
    back g i = let x = p.1 g i in (x.0, IsIn-left x.0 fs (f ∷ []) x.1, x.2)

-- one more find that is added
pub alike-added : (fs gs : List Find) (found f : Find) → AreSameFound found f → AreAlike fs gs → AreAlike (fs ++ f ∷ []) (gs ++ found ∷ [])
alike-added fs gs found f same alike = covered-alike (fs ++ f ∷ []) (gs ++ found ∷ []) there back
  where
    p : AreCovered fs gs × AreCovered gs fs
    p = alike-covered fs gs alike

    there : AreCovered (fs ++ f ∷ []) (gs ++ found ∷ [])
    there x i = go (IsIn-append x fs (f ∷ []) i)
      where
        go : IsIn x fs ⊎ IsIn x (f ∷ []) → (g : Find) × IsIn g (gs ++ found ∷ []) × AreSameFound x g
        go (inl j) = let g = p.0 x j in (g.0, IsIn-left g.0 gs (found ∷ []) g.1, g.2)
        go (inr (inl e)) = (found, IsIn-right found gs (found ∷ []) (inl refl), subst (λ (y : Find). AreSameFound y found) (sym e) (same-sym found f same))
        go (inr (inr j)) = absurd j

    back : AreCovered (gs ++ found ∷ []) (fs ++ f ∷ [])
    back x i = go (IsIn-append x gs (found ∷ []) i)
      where
        go : IsIn x gs ⊎ IsIn x (found ∷ []) → (g : Find) × IsIn g (fs ++ f ∷ []) × AreSameFound x g
        go (inl j) = let g = p.1 x j in (g.0, IsIn-left g.0 fs (f ∷ []) g.1, g.2)
        go (inr (inl e)) = (f, IsIn-right f fs (f ∷ []) (inl refl), subst (λ (y : Find). AreSameFound y f) (sym e) same)
        go (inr (inr j)) = absurd j

-- what is the same as what is found after a request leaves it as it was
pub same-after : (f after found : Find) → AreSameFound f after → AreSameFound after found → AreSameFound f found
same-after f after found a b = same-trans f after found a b

-- ---- what is known of finds

-- what requests make of a find that is the same as a known one is among those that were found
pub told-again : SameIsFound → (t : TailoringParts) (us : List Candidate) (origins fs : List Find) (o : Find) → HasSame origins o → AreKnown t us origins fs → HasSame fs (found_after_all t us o)
told-again law t us origins fs o has known =
    let p = has-in origins o has in
    let g = has-in fs (found_after_all t us p.0) (AllByRecursion-IsIn (λ x. HasSame fs (found_after_all t us x)) p.0 origins known p.1) in
    in-has fs (found_after_all t us o) g.0 g.1 (same-trans (found_after_all t us o) (found_after_all t us p.0) g.0 (after_all-same law t us o p.0 p.2) g.2)

has-wider : (fs gs : List Find) (f x : Find) → AreAlike (fs ++ f ∷ []) gs → HasSame fs x → HasSame gs x
has-wider fs gs f x alike has =
    let p = has-in fs x has in
    let g = (alike-covered (fs ++ f ∷ []) gs alike).0 p.0 (IsIn-left p.0 fs (f ∷ []) p.1) in
    in-has gs x g.0 g.1 (same-trans x p.0 g.0 p.2 g.2)

-- one more find, and what requests make of it
pub known-added : (t : TailoringParts) (us : List Candidate) (origins fs gs : List Find) (o : Find) → AreAlike (fs ++ found_after_all t us o ∷ []) gs → AreKnown t us origins fs → AreKnown t us (origins ++ o ∷ []) gs
known-added t us [] fs gs o alike known =
    (let g = (alike-covered (fs ++ found_after_all t us o ∷ []) gs alike).0 (found_after_all t us o) (IsIn-right (found_after_all t us o) fs (found_after_all t us o ∷ []) (inl refl)) in in-has gs (found_after_all t us o) g.0 g.1 g.2, tt)
known-added t us (x ∷ xs) fs gs o alike known = (has-wider fs gs (found_after_all t us o) (found_after_all t us x) alike known.0, known-added t us xs fs gs o alike known.1)
