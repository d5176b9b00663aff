-- Octets that are appended part by part.
use Rattle.std.proofs.Common.{◌≡◌, ◌∙◌, sym, ap, ℕ, ◌+◌, ◌<◌, List, [], ◌∷◌, ◌++◌, length, take, drop, get_or, append_assoc, arith}
use Rattle.std.specs.Prelude.{flat_map}
use Rattle.std.specs.List.{AllByRecursion}
use Rattle.std.proofs.Math.Seq.{take-append_seam}
use Rattle.std.proofs.lemmas.List.{append-nil, take-append-drop, take_more, take_all}
use Rattle.std.proofs.lemmas.List.Elements.{All-from_recursion, All-get_or}
use Rattle.std.proofs.lemmas.Grind.{flat_map-append}

-- what keeps all so far keeps what came before a part of it
pub kept_before : (old part mid new : List ℕ) → mid ≡ old ++ part → take (length mid) new ≡ mid → take (length old) new ≡ old
kept_before old part mid new e kept =
    let more = drop (length mid) new in
    let whole : new ≡ old ++ (part ++ more) = sym (take-append-drop (length mid) new) ∙ (ap (λ xs. xs ++ more) (kept ∙ e) ∙ append_assoc old part more) in
    ap (take (length old)) whole ∙ take-append_seam old (part ++ more)

-- what was left as it is keeps what came before
pub kept_same : (old new : List ℕ) → new ≡ old → take (length old) new ≡ old
kept_same old new e = ap (take (length old)) e ∙ take_all (length old) old (omega arith)

-- one part after another
pub parts : (old first second mid new : List ℕ) → mid ≡ old ++ first → new ≡ mid ++ second → new ≡ old ++ (first ++ second)
parts old first second mid new e f = f ∙ (ap (λ xs. xs ++ second) e ∙ append_assoc old first second)

one_alone : {A : Type 0} (spell : A → List ℕ) (x : A) → flat_map spell (x ∷ []) ≡ spell x
one_alone spell x = append-nil (spell x)

-- one more member
pub one_more : {A : Type 0} (spell : A → List ℕ) (xs : List A) (i : ℕ) (x : A) → i < length xs → flat_map spell (take (i + 1) xs) ≡ flat_map spell (take i xs) ++ spell (get_or xs i x)
one_more spell xs i x lt =
    ap (flat_map spell) (take_more xs i x lt)
    ∙ (flat_map-append spell (take i xs) (get_or xs i x ∷ []) ∙ ap (λ ys. flat_map spell (take i xs) ++ ys) (one_alone spell (get_or xs i x)))

-- what holds of each member holds of the one at a place
pub each_at : {A : Type 0} (P : A → Type 0) (xs : List A) (i : ℕ) (x : A) → i < length xs → AllByRecursion P xs → P (get_or xs i x)
each_at P xs i x lt all = All-get_or P xs i x lt (All-from_recursion P xs all)
