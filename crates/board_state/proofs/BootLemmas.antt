-- The structures that are there from the start, one after the other.
use Rattle.std.proofs.Common.{arith, ◌≡◌, ℕ, zero, suc, ◌+◌, ◌<◌, ◌^◌, refl, sym, ◌∙◌, ap, ap₂, subst, List, [], ◌∷◌, ◌++◌, map, take, length, Bool, true, false, get_or, Option, Some, None}
use Rattle.std.specs.Prelude.{cond, find, slice_get, IfSome, option_map, if◌then◌else◌}
use Rattle.std.specs.List.{AllByRecursion, IsDistinct}
use Rattle.std.specs.Option.{option_or}
use Rattle.std.proofs.lemmas.List.Folds.{find-append}
use Rattle.std.proofs.lemmas.Option.{none-some, same_Some}
use Rattle.hk_base.specs.Fit.{IsFit, IsFitBoot}
use Rattle.hk_base.specs.Parameters.{key_eq, boot_structure}
use Rattle.hk_base.specs.TailoringParts.{TailoringParts}
use Rattle.hk_base.specs.declared.types.Boot.{Boot}
use Rattle.hk_base.specs.declared.types.Key.{Key}
use Rattle.board_state.specs.Holdings.{held_at, ChangesAt, new_held, boot_held, one_shots_of, AreBoots, AreRisingKeys, IsHeld, AreStructures}
use Rattle.board_state.specs.declared.structures.Held.{Held}
use Rattle.board_state.proofs.HoldingLemmas.{keys-one}

-- no boot before this one has its key
before-apart : (boots : List Boot) (i : ℕ) (b : Boot) → IsDistinct key_eq (map (λ x. x.key) boots) → slice_get boots i ≡ Some b → find (λ x. key_eq x.key b.key) (take i boots) ≡ None
unfolding IsDistinct
before-apart [] i b d e = absurd (none-some b e)
before-apart (x ∷ xs) zero b d e = refl
before-apart (x ∷ xs) (suc i) b d e = ap (λ c. cond c (Some x) (find (λ y. key_eq y.key b.key) (take i xs))) (other xs i d.0 e) ∙ before-apart xs i b d.1 e
  where
    other : (ys : List Boot) (j : ℕ) → AllByRecursion (λ k. key_eq x.key k ≡ false) (map (λ y. y.key) ys) → slice_get ys j ≡ Some b → key_eq x.key b.key ≡ false
    other [] j all f = absurd (none-some b f)
    other (y ∷ ys) zero all f = ap (λ (z : Boot). key_eq x.key z.key) (sym (same_Some y b f)) ∙ all.0
    other (y ∷ ys) (suc j) all f = other ys j all.1 f

take-more : {X : Type 0} (xs : List X) (i : ℕ) (x : X) → slice_get xs i ≡ Some x → take (suc i) xs ≡ take i xs ++ x ∷ []
take-more [] i x e = absurd (none-some x e)
take-more (y ∷ ys) zero x e = ap (λ z. z ∷ []) (same_Some y x e)
take-more (y ∷ ys) (suc i) x e = ap (λ l. y ∷ l) (take-more ys i x e)

-- one boot more
pub boots-more : (boots : List Boot) (i : ℕ) (b : Boot) (old new : List (Key × Held)) → IsDistinct key_eq (map (λ x. x.key) boots) → slice_get boots i ≡ Some b
    → ChangesAt b.key (Some (boot_held b)) old new → (held_at old b.key ≡ None → one_shots_of new ≡ one_shots_of old) → AreRisingKeys new
    → AreBoots (take i boots) old → AreBoots (take (i + 1) boots) new
boots-more boots i b old new d e changes shots rising h =
    let none : find (λ x. key_eq x.key b.key) (take i boots) ≡ None = before-apart boots i b d e in
    let absent : held_at old b.key ≡ None = h.each b.key ∙ ap (option_map boot_held) none in
    record {
      each = λ key. changes key ∙ go key (key_eq b.key key) refl none ∙ sym (ap (option_map boot_held) (ap (find (λ x. key_eq x.key key)) more ∙ find-append (λ x. key_eq x.key key) (take i boots) (b ∷ [])));
      none = shots absent ∙ h.none;
      rising = rising;
    }
  where
    more : take (i + 1) boots ≡ take i boots ++ b ∷ []
    more = let n : i + 1 ≡ suc i = omega arith in ap (λ k. take k boots) n ∙ take-more boots i b e

    last : (key : Key) (c : Bool) → key_eq b.key key ≡ c → find (λ x. key_eq x.key key) (b ∷ []) ≡ cond c (Some b) None
    last key c q = ap (λ v. cond v (Some b) None) q

    go : (key : Key) (c : Bool) → key_eq b.key key ≡ c → find (λ x. key_eq x.key b.key) (take i boots) ≡ None
        → (if key_eq b.key key then Some (boot_held b) else held_at old key) ≡ option_map boot_held (option_or (find (λ x. key_eq x.key key) (take i boots)) (find (λ x. key_eq x.key key) (b ∷ [])))
    go key true q none =
        let gone : find (λ x. key_eq x.key key) (take i boots) ≡ None = ap (λ k. find (λ x. key_eq x.key k) (take i boots)) (sym (keys-one b.key key q)) ∙ none in
        ap (λ v. if v then Some (boot_held b) else held_at old key) q
        ∙ sym (ap₂ (λ o p. option_map boot_held (option_or o p)) gone (last key true q))
    go key false q none =
        ap (λ v. if v then Some (boot_held b) else held_at old key) q ∙ h.each key
        ∙ sym (ap (λ p. option_map boot_held (option_or (find (λ x. key_eq x.key key) (take i boots)) p)) (last key false q) ∙ ap (option_map boot_held) (or-none (find (λ x. key_eq x.key key) (take i boots))))
      where
        or-none : {X : Type 0} (o : Option X) → option_or o None ≡ o
        or-none None = refl
        or-none (Some x) = refl

-- a boot that is found under a key is fit, and has that key
found-fit : (t : TailoringParts) (boots : List Boot) (key : Key) → AllByRecursion (IsFitBoot t) boots → IfSome (find (λ b. key_eq b.key key) boots) (λ b. IsFitBoot t b × (b.key ≡ key))
found-fit t [] key h = tt
found-fit t (b ∷ boots) key h = go (key_eq b.key key) refl (found-fit t boots key h.1)
  where
    go : (c : Bool) → key_eq b.key key ≡ c → IfSome (find (λ x. key_eq x.key key) boots) (λ x. IsFitBoot t x × (x.key ≡ key))
        → IfSome (cond c (Some b) (find (λ x. key_eq x.key key) boots)) (λ x. IsFitBoot t x × (x.key ≡ key))
    go true q ih = (h.0, keys-one b.key key q)
    go false q ih = ih

-- the structures of all boots are those of a board that has done nothing
pub boots-held : (t : TailoringParts) (held : List (Key × Held)) → IsFit t → AreBoots t.boots held → AreStructures t [] held
boots-held t held fit h =
    record {
      each = λ key. subst (λ o. IfSome o (IsHeld t [] key)) (sym (h.each key)) (each key (find (λ b. key_eq b.key key) t.boots) (found-fit t t.boots key fit.boots));
      same = λ key. ap (option_map (λ x. x.structure)) (h.each key) ∙ same (find (λ b. key_eq b.key key) t.boots);
      rising = h.rising;
    }
  where
    each : (key : Key) (o : Option Boot) → IfSome o (λ b. IsFitBoot t b × (b.key ≡ key)) → IfSome (option_map boot_held o) (IsHeld t [] key)
    each key None k = tt
    each key (Some b) k = record { valid = k.0.valid; id = subst (λ (x : Key). x.id < 256 ^ t.widths.structure_octets) k.1 k.0.id; first = refl }

    same : (o : Option Boot) → option_map (λ x. x.structure) (option_map boot_held o) ≡ option_map (λ b. b.structure) o
    same None = refl
    same (Some b) = refl

-- a member that is looked at stands at its place
pub item-there : {X : Type 0} (xs : List X) (i : ℕ) (x : X) → i < length xs → x ≡ get_or xs i x → slice_get xs i ≡ Some x
item-there [] i x lt e = absurd (omega (arith, lt))
item-there (y ∷ ys) zero x lt e = ap Some (sym e)
item-there (y ∷ ys) (suc i) x lt e = item-there ys i x (omega (arith, lt)) e
