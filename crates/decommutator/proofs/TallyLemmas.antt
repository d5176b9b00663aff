-- Verdicts that are counted one by one.
use Rattle.std.proofs.Common.{arith, ◌≡◌, ◌≤◌, ℕ, ◌+◌, ◌*◌, refl, sym, ◌∙◌, ap, subst, List, [], ◌∷◌, length, cond, Option, Some}
use Rattle.std.specs.Prelude.{option_map}
use Rattle.std.specs.List.{count_by, sum_by, cons_option}
use Rattle.std.proofs.lemmas.List.Sums.{sum_by-cons}
use Rattle.hk_base.specs.TailoringParts.{TailoringParts}
use Rattle.ground_history.specs.Histories.{Kept, History, tag_of}
use Rattle.ground_history.specs.Ground.{Ground}
use Rattle.definition_intervals.specs.declared.answer.Verdict.{Verdict}
use Rattle.definition_intervals.specs.declared.answer.Verdict.TheVariants.{Decided, Undecidable, Crowded, NoOpening, Impossible}
use Rattle.session_texts.specs.Follow.{is_decision}
use Rattle.session_texts.specs.Tallies.{body_verdict, verdicts, is_undecidable, is_other, value_count}
use Rattle.session_texts.specs.declared.problem.Tally.{Tally}
use Rattle.block_lines.specs.declared.counts.Counts.{Counts}
use Rattle.decommutator.specs.Standing.{with_verdicts, tally_by}
use Rattle.decommutator.specs.Tallying.{with_tag, verdicts_on}

-- numbers by their fields
abbrev numbers : ℕ → ℕ → ℕ → ℕ → ℕ → ℕ → ℕ → Tally
numbers a b c d e f g = record { sent = a; received = b; repeats = c; decided = d; undecidable = e; other = f; values = g }

numbers-eq : {a b c d e f g a' b' c' d' e' f' g' : ℕ} → a' ≡ a → b' ≡ b → c' ≡ c → d' ≡ d → e' ≡ e → f' ≡ f → g' ≡ g
    → numbers a' b' c' d' e' f' g' ≡ numbers a b c d e f g
numbers-eq p q r s t u v = rw (p, q, r, s, t, u, v) refl

no-more : (n : ℕ) → 0 + n ≡ n
no-more n = omega arith

-- before any verdict is counted
pub none-counted : (g : Ground) (c : Counts) (sent received : ℕ) → sent ≡ length g.history.requests → received ≡ length g.history.kept
    → with_verdicts g.tailoring (numbers sent received c.repeats 0 0 0 0) (verdicts_on g.tailoring g.history g.history.kept) ≡ tally_by g c
none-counted g c sent received p q =
    let all : List (ℕ × Verdict) = verdicts g.tailoring g.history in
    numbers-eq p q refl
    (no-more (count_by (λ v. is_decision v.1) all))
    (no-more (count_by (λ v. is_undecidable v.1) all))
    (no-more (count_by (λ v. is_other v.1) all))
    (no-more (sum_by (value_count g.tailoring) all))

sum-more : {X : Type 0} (f : X → ℕ) (n : ℕ) (x : X) (xs : List X) → (n + sum_by f (x ∷ [])) + sum_by f xs ≡ n + sum_by f (x ∷ xs)
sum-more f n x xs = let one = sum_by-cons f x [] in let all = sum_by-cons f x xs in omega (arith, one, all)

with-more : (t : TailoringParts) (x : Tally) (v : ℕ × Verdict) (vs : List (ℕ × Verdict)) → with_verdicts t (with_verdicts t x (v ∷ [])) vs ≡ with_verdicts t x (v ∷ vs)
with-more t x v vs =
    numbers-eq refl refl refl
    (sum-more (λ w. cond (is_decision w.1) 1 0) x.decided v vs)
    (sum-more (λ w. cond (is_undecidable w.1) 1 0) x.undecidable v vs)
    (sum-more (λ w. cond (is_other w.1) 1 0) x.other v vs)
    (sum-more (value_count t) x.values v vs)

-- the numbers with all verdicts are the same after one of them was counted
pub one-counted : (t : TailoringParts) (h : History) (x new whole : Tally) (k : Kept) (tag : ℕ) (v : Verdict) (found : Option Verdict) (rest all : List Kept)
    → all ≡ k ∷ rest → option_map (with_tag (tag_of k)) found ≡ body_verdict t h (tag_of k) k.report.body → found ≡ Some v → tag ≡ tag_of k
    → new ≡ with_verdicts t x ((tag, v) ∷ []) → with_verdicts t x (verdicts_on t h all) ≡ whole → with_verdicts t new (verdicts_on t h rest) ≡ whole
one-counted t h x new whole k tag v found rest all steps told is at counted ahead =
    let body : body_verdict t h (tag_of k) k.report.body ≡ Some (tag, v) =
    sym told ∙ ap (option_map (with_tag (tag_of k))) is ∙ ap (λ n. Some (n, v)) (sym at) in
    let list : verdicts_on t h all ≡ (tag, v) ∷ verdicts_on t h rest =
    ap (verdicts_on t h) steps ∙ ap (λ o. cons_option o (verdicts_on t h rest)) body in
    ap (λ y. with_verdicts t y (verdicts_on t h rest)) counted ∙ with-more t x (tag, v) (verdicts_on t h rest) ∙ ap (with_verdicts t x) (sym list) ∙ ahead

-- a verdict is counted in one place
one-place : (t : TailoringParts) (x : Tally) (tag : ℕ) (v : Verdict)
    → (let y = with_verdicts t x ((tag, v) ∷ []) in y.decided + (y.undecidable + y.other) ≡ x.decided + (x.undecidable + x.other) + 1)
one-place t x tag (Decided d) = omega arith
one-place t x tag (Undecidable k) = omega arith
one-place t x tag (Crowded k) = omega arith
one-place t x tag NoOpening = omega arith
one-place t x tag Impossible = omega arith

-- the verdicts that were counted and the packets that are left are no more than all
pub few-left : (t : TailoringParts) (x new : Tally) (k : Kept) (tag : ℕ) (v : Verdict) (rest all : List Kept) (most : ℕ) → all ≡ k ∷ rest
    → new ≡ with_verdicts t x ((tag, v) ∷ []) → x.decided + (x.undecidable + (x.other + length all)) ≤ most
    → new.decided + (new.undecidable + (new.other + length rest)) ≤ most
few-left t x new k tag v rest all most steps counted few =
    let one = one-place t x tag v in
    let size : length all ≡ length (k ∷ rest) = ap length steps in
    subst (λ y. y.decided + (y.undecidable + (y.other + length rest)) ≤ most) (sym counted) (omega (arith, one, size, few))

-- the values that were counted and those that can still come are no more than can come
pub values-left : (x y : ℕ) (k : Kept) (rest all : List Kept) (most : ℕ) → all ≡ k ∷ rest → y ≤ x + 4294967295 → x + 4294967296 * length all ≤ most
    → y + 4294967296 * length rest ≤ most
values-left x y k rest all most steps more few = let size : length all ≡ length (k ∷ rest) = ap length steps in omega (arith, size, more, few)
