-- Rows one by one, and parameter reports one by one.
use Rattle.std.proofs.Common.{arith, ◌≡◌, ◌≤◌, ◌<◌, ℕ, ℤ, pos, ◌+◌, sym, ◌∙◌, ap, subst, List, [], ◌∷◌, ◌++◌, length, drop, map, get_or, true, cond, Some, append_assoc}
use Rattle.std.specs.Prelude.{zip, filter, slice_get}
use Rattle.std.proofs.lemmas.List.{drop_more, get_or_default}
use Rattle.std.proofs.lemmas.List.Sums.{length-filter, count_by-le-length}
use Rattle.std.proofs.lemmas.Option.{slice_get_within, get_or_from_slice_get}
use Rattle.hk_base.specs.declared.types.Place.{Place}
use Rattle.ground_history.specs.Histories.{Kept}
use Rattle.decommutator.specs.declared.row.ValueRow.{ValueRow}
use Rattle.decommutator.specs.Rows.{row_of, is_parameter_report}

-- one row more: the rows so far with those that are still to come
pub rows-more : (ps : List Place) (vs : List ℤ) (i : ℕ) (p : Place) (v : ℤ) (now new whole : List ValueRow) → slice_get ps i ≡ Some p → i < length vs
    → v ≡ get_or vs i (pos 0) → new ≡ now ++ row_of (p, v) ∷ [] → now ++ map row_of (zip (drop i ps) (drop i vs)) ≡ whole
    → new ++ map row_of (zip (drop (i + 1) ps) (drop (i + 1) vs)) ≡ whole
rows-more ps vs i p v now new whole here h is e ahead =
    let rest : List ValueRow = map row_of (zip (drop (i + 1) ps) (drop (i + 1) vs)) in
    let places : drop i ps ≡ p ∷ drop (i + 1) ps =
    drop_more ps i p (slice_get_within ps i p here) ∙ ap (λ q. q ∷ drop (i + 1) ps) (get_or_from_slice_get ps i p p here) in
    let values : drop i vs ≡ v ∷ drop (i + 1) vs =
    drop_more vs i v h ∙ ap (λ w. w ∷ drop (i + 1) vs) (sym (is ∙ get_or_default vs i (pos 0) v h)) in
    ap (λ l. l ++ rest) e
    ∙ (append_assoc now (row_of (p, v) ∷ []) rest
    ∙ (ap (λ l. now ++ map row_of (zip l (v ∷ drop (i + 1) vs))) (sym places) ∙ ap (λ l. now ++ map row_of (zip (drop i ps) l)) (sym values) ∙ ahead))

-- a parameter report that is counted is one of few
pub count-fits : (count : ℕ) (k : Kept) (rest all kept : List Kept) → all ≡ k ∷ rest → is_parameter_report k ≡ true
    → count + length (filter is_parameter_report all) ≡ length (filter is_parameter_report kept) → length kept < 4294967296 → count + 1 < 4294967296
count-fits count k rest all kept steps is counted few =
    let more : length (filter is_parameter_report all) ≡ length (k ∷ filter is_parameter_report rest) =
    ap (λ ks. length (filter is_parameter_report ks)) steps ∙ ap (λ b. length (cond b (k ∷ filter is_parameter_report rest) (filter is_parameter_report rest))) is in
    let filtered : length (filter is_parameter_report kept) ≤ length kept =
    subst (λ n. n ≤ length kept) (sym (length-filter is_parameter_report kept)) (count_by-le-length is_parameter_report kept) in
    omega (arith, more, counted, filtered, few)
