-- One value's line more.
use Rattle.std.proofs.Common.{◌≡◌, ◌+◌, ◌<◌, ℕ, ℤ, pos, List, ◌∷◌, ◌++◌, length, drop, get_or, Some, Ok, sym, ap, ◌∙◌}
use Rattle.std.specs.List.{slice_get}
use Rattle.std.proofs.lemmas.List.{drop_more, append_assoc, get_or_default}
use Rattle.std.proofs.lemmas.Option.{slice_get_within, get_or_from_slice_get}
use Rattle.hk_base.specs.declared.types.Place.{Place}
use Rattle.session_texts.specs.Blocks.{value_line, value_lines}

-- The lines of a loop over places and values: what was written with what is still to come is the whole, and only lines were put behind.
pub record AreLinesSoFar (ps : List Place) (vs : List ℤ) (front : List ℕ) (i : ℕ) (now : List ℕ) : Type 0 where
  pub whole : now ++ value_lines (drop i ps) (Ok (drop i vs)) ≡ front ++ value_lines ps (Ok vs)
  pub behind : List ℕ
  pub kept : now ≡ front ++ behind

lines_more : (ps : List Place) (vs : List ℤ) (i : ℕ) (p : Place) (v : ℤ) (front new : List ℕ) → slice_get ps i ≡ Some p → i < length vs
    → v ≡ get_or vs i (pos 0) → new ≡ front ++ value_line (p, v)
    → new ++ value_lines (drop (i + 1) ps) (Ok (drop (i + 1) vs)) ≡ front ++ value_lines (drop i ps) (Ok (drop i vs))
lines_more ps vs i p v front new here h is e =
    ap (λ xs. xs ++ value_lines (drop (i + 1) ps) (Ok (drop (i + 1) vs))) e
    ∙ (append_assoc front (value_line (p, v)) (value_lines (drop (i + 1) ps) (Ok (drop (i + 1) vs)))
    ∙ ap (λ xs. front ++ xs)
    (ap (λ xs. value_lines (p ∷ drop (i + 1) ps) (Ok xs)) (ap (λ w. w ∷ drop (i + 1) vs) (is ∙ get_or_default vs i (pos 0) v h) ∙ sym (drop_more vs i v h))
    ∙ ap (λ xs. value_lines xs (Ok (drop i vs)))
    (ap (λ q. q ∷ drop (i + 1) ps) (sym (get_or_from_slice_get ps i p p here)) ∙ sym (drop_more ps i p (slice_get_within ps i p here)))))

pub one_more_line : (ps : List Place) (vs : List ℤ) (front : List ℕ) (i : ℕ) (now new : List ℕ) (p : Place) (v : ℤ) → slice_get ps i ≡ Some p
    → i < length vs → v ≡ get_or vs i (pos 0)
    → new ≡ now ++ value_line (p, v) → AreLinesSoFar ps vs front i now → AreLinesSoFar ps vs front (i + 1) new
one_more_line ps vs front i now new p v here h is e lines =
    record {
      whole = lines_more ps vs i p v now new here h is e ∙ lines.whole;
      behind = lines.behind ++ value_line (p, v);
      kept = e ∙ ap (λ xs. xs ++ value_line (p, v)) lines.kept ∙ append_assoc front lines.behind (value_line (p, v));
    }
