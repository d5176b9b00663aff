-- The states that were told before a tag, and from it on.
use Rattle.std.proofs.Common.{arith, ◌≡◌, ℕ, ◌<◌, ◌≤◌, refl, sym, ◌∙◌, ap, List, [], ◌∷◌, ◌++◌, Bool, true, false, Option, Some, None}
use Rattle.std.specs.Prelude.{filter, filter_map, nat_lt, nat_le, if◌then◌else◌}
use Rattle.std.specs.List.{cons_option, AllByRecursion}
use Rattle.std.proofs.lemmas.Bool.{leb-true, leb-false, lt-ltb, le-ltb}
use Rattle.hk_base.specs.declared.types.Key.{Key}
use Rattle.hk_base.proofs.Membership.{IsIn, IsIn-filter, AllByRecursion-IsIn}
use Rattle.ground_history.specs.Histories.{Kept, History, tag_of}
use Rattle.ground_history.specs.Ground.{HaveRisingTags, newest_told, tells_structure}
use Rattle.opening_sweeps.specs.Requests.{Start, told_start}
use Rattle.definition_intervals.proofs.KeptLemmas.{all-kept, newest-above}
use Rattle.opening_sweeps.proofs.GatherLemmas.{untold}
use Rattle.entry_changes.specs.Changes.{told_start_below, told_below}
use Rattle.live_verdicts.specs.Marks.{told_between}
use Rattle.entry_changes.proofs.SameLemmas.{filter_map-none}

cons-append : {X : Type 0} (o : Option X) (xs ys : List X) → cons_option o (xs ++ ys) ≡ cons_option o xs ++ ys
cons-append None xs ys = refl
cons-append (Some x) xs ys = refl

below-none : (key : Key) (tag : ℕ) (k : Kept) → tag ≤ tag_of k → told_start_below key tag k ≡ None
below-none key tag k le = ap (λ (b : Bool). if b then told_start key k else None) (le-ltb (tag_of k) tag le)

below-told : (key : Key) (tag : ℕ) (k : Kept) → tag_of k < tag → told_start_below key tag k ≡ told_start key k
below-told key tag k lt = ap (λ (b : Bool). if b then told_start key k else None) (lt-ltb (tag_of k) tag lt)

later-all : (m : ℕ) (k : Kept) (ks : List Kept) → m ≤ tag_of k → AllByRecursion (λ x. tag_of k < tag_of x) ks → AllByRecursion (λ x. m ≤ tag_of x) ks
later-all m k [] le h = tt
later-all m k (x ∷ xs) le h = (omega (arith, le, h.0), later-all m k xs le h.1)

abbrev pub from_tag : ℕ → List Kept → List Kept
from_tag from ks = filter (λ k. nat_le from (tag_of k)) ks

-- The states that were told below a tag are those below an earlier one, and those from it on.
split-kept : (key : Key) (from tag : ℕ) (ks : List Kept) → HaveRisingTags ks → from ≤ tag
    → filter_map (told_start_below key tag) ks ≡ filter_map (told_start_below key from) ks ++ filter_map (told_start_below key tag) (from_tag from ks)
split-kept key from tag [] rising le = refl
split-kept key from tag (k ∷ ks) rising le = go (nat_le from (tag_of k)) refl (split-kept key from tag ks rising.1 le)
  where
    go : (b : Bool) → nat_le from (tag_of k) ≡ b
        → filter_map (told_start_below key tag) ks ≡ filter_map (told_start_below key from) ks ++ filter_map (told_start_below key tag) (from_tag from ks)
        → filter_map (told_start_below key tag) (k ∷ ks) ≡ filter_map (told_start_below key from) (k ∷ ks) ++ filter_map (told_start_below key tag) (from_tag from (k ∷ ks))
    go true e ih =
        let at : from ≤ tag_of k = leb-true from (tag_of k) e in
        let all : from_tag from (k ∷ ks) ≡ k ∷ ks = all-kept from (k ∷ ks) (at, later-all from k ks at rising.0) in
        let none : filter_map (told_start_below key from) (k ∷ ks) ≡ [] =
        filter_map-none (told_start_below key from) (k ∷ ks)
        (λ x i. below-none key from x (AllByRecursion-IsIn (λ y. from ≤ tag_of y) x (k ∷ ks) (at, later-all from k ks at rising.0) i)) in
        sym (ap (λ l. l ++ filter_map (told_start_below key tag) (from_tag from (k ∷ ks))) none ∙ ap (λ l. filter_map (told_start_below key tag) l) all)
    go false e ih =
        let lt : tag_of k < from = leb-false from (tag_of k) e in
        let first = below-told key tag k (omega (arith, lt, le)) ∙ sym (below-told key from k lt) in
        let rest : from_tag from (k ∷ ks) ≡ from_tag from ks = ap (λ (b : Bool). if b then k ∷ from_tag from ks else from_tag from ks) e in
        ap (λ (o : Option Start). cons_option o (filter_map (told_start_below key tag) ks)) first
        ∙ (ap (λ l. cons_option (told_start_below key from k) l) ih
        ∙ (cons-append (told_start_below key from k) (filter_map (told_start_below key from) ks) (filter_map (told_start_below key tag) (from_tag from ks))
        ∙ ap (λ l. filter_map (told_start_below key from) (k ∷ ks) ++ filter_map (told_start_below key tag) l) (sym rest)))

pub told-split : (h : History) (key : Key) (from tag : ℕ) → HaveRisingTags h.kept → from ≤ tag → told_below h key tag ≡ told_below h key from ++ told_between h key from tag
told-split h key from tag rising le = split-kept key from tag h.kept rising le

-- ---- where nothing more is told

-- nothing is told from the later tag on
pub told-end : (key : Key) (from tag : ℕ) (ks : List Kept) → tag ≤ from → filter_map (told_start_below key tag) (from_tag from ks) ≡ []
told-end key from tag ks le =
    filter_map-none (told_start_below key tag) (from_tag from ks)
    (λ x i. let member = IsIn-filter (λ k. nat_le from (tag_of k)) x ks i in let at = leb-true from (tag_of x) member.1 in below-none key tag x (omega (arith, le, at)))

-- nor behind the last report of a structure
pub told-after : (key : Key) (from tag : ℕ) (ks : List Kept) → newest_told ks < from → filter_map (told_start_below key tag) (from_tag from ks) ≡ []
told-after key from tag ks lt =
    filter_map-none (told_start_below key tag) (from_tag from ks)
    (λ x i. let member = IsIn-filter (λ k. nat_le from (tag_of k)) x ks i in go x member.0 (leb-true from (tag_of x) member.1) (tells_structure x.report.body) refl)
  where
    go : (x : Kept) → IsIn x ks → from ≤ tag_of x → (b : Bool) → tells_structure x.report.body ≡ b → told_start_below key tag x ≡ None
    go x i at true e = let high = newest-above x ks i e in absurd (omega (arith, at, lt, high))
    go x i at false e = ap (λ (o : Option Start). if nat_lt (tag_of x) tag then o else None) (untold key x e) ∙ none (nat_lt (tag_of x) tag)
      where
        none : (b : Bool) → if◌then◌else◌ {A = Option Start} b None None ≡ None
        none true = refl
        none false = refl
