-- Rows of a statistics report: their times, and rows one by one.
use Rattle.std.proofs.Common.{arith, ◌≡◌, ◌∙◌, ℕ, zero, suc, ◌<◌, ◌^◌, ◌*◌, refl, sym, ap, subst, List, [], ◌∷◌, ◌++◌, length, filter, Bool, true, false, Option, Some, None, nat_lt}
use Rattle.std.specs.Prelude.{if◌then◌else◌}
use Rattle.std.proofs.lemmas.List.{append-nil}
use Rattle.std.proofs.lemmas.List.Elements.{filter-append}
use Rattle.std.proofs.lemmas.Bool.Decides.{nat_tests}
use Rattle.std.specs.List.{AllByRecursion, AllZip}
use Rattle.hk_base.specs.TailoringParts.{TailoringParts}
use Rattle.statistics.specs.Summaries.{Sample, IsFirstGreatest, IsFirstLeast}
use Rattle.st04_grammar.specs.declared.bodies.StatRow.{StatRow}
use Rattle.board_state.specs.Statistics.{is_sampled, IsRowOf, IsRowIfAny, AreRowsOf}
use Rattle.board_state.specs.declared.members.Member.{Member}

-- what is so of all is so of one among them
pub all-among : (P : Sample → Type 0) (before after : List Sample) (x : Sample) → AllByRecursion P (before ++ x ∷ after) → P x
all-among P [] after x h = h.0
all-among P (y ∷ before) after x h = all-among P before after x h.1

pub greatest-among : (P : Sample → Type 0) (samples : List Sample) (x : Sample) → IsFirstGreatest samples x → AllByRecursion P samples → P x
greatest-among P samples x g h = all-among P g.before g.after x (subst (AllByRecursion P) g.among h)

pub least-among : (P : Sample → Type 0) (samples : List Sample) (x : Sample) → IsFirstLeast samples x → AllByRecursion P samples → P x
least-among P samples x g h = all-among P g.before g.after x (subst (AllByRecursion P) g.among h)

zip-last : (P : Member → StatRow → Type 0) (xs : List Member) (ys : List StatRow) (x : Member) (y : StatRow) → AllZip P xs ys → P x y → AllZip P (xs ++ x ∷ []) (ys ++ y ∷ [])
zip-last P [] [] x y h r = (r, tt)
zip-last P [] (b ∷ ys) x y h r = absurd h
zip-last P (a ∷ xs) [] x y h r = absurd h
zip-last P (a ∷ xs) (b ∷ ys) x y h r = (h.0, zip-last P xs ys x y h.1 r)

-- one more member, which has samples, with its row
pub row-more : (t : TailoringParts) (members : List Member) (m : Member) (rows : List StatRow) (row : StatRow) → AreRowsOf t members rows → IsRowIfAny t m (Some row)
    → AreRowsOf t (members ++ m ∷ []) (rows ++ row ∷ [])
row-more t members m rows row h k =
    subst (λ l. AllZip (IsRowOf t) l (rows ++ row ∷ [])) (sym (filter-append is_sampled members (m ∷ []) ∙ ap (λ b. filter is_sampled members ++ (if b then m ∷ [] else [])) (some m.stat.count k.0)))
    (zip-last (IsRowOf t) (filter is_sampled members) rows m row h k.1)
  where
    some : (n : ℕ) → 0 < n → nat_lt 0 n ≡ true
    some n lt = grind (arith, nat_tests)

-- one more member, which has none
pub row-none : (t : TailoringParts) (members : List Member) (m : Member) (rows : List StatRow) → AreRowsOf t members rows → IsRowIfAny t m None → AreRowsOf t (members ++ m ∷ []) rows
row-none t members m rows h k =
    subst (λ l. AllZip (IsRowOf t) l rows) (sym (filter-append is_sampled members (m ∷ []) ∙ ap (λ n. filter is_sampled members ++ (if nat_lt 0 n then m ∷ [] else [])) k ∙ append-nil (filter is_sampled members))) h
