-- How many ranges a structure can have.
use Rattle.std.proofs.Common.{arith, ◌≡◌, ℕ, suc, ◌+◌, ◌*◌, ◌≤◌, refl, sym, ◌∙◌, ap, subst, List, [], ◌∷◌, ◌++◌, Bool, true, false, Option, Some, None, length, length-append, flat_map}
use Rattle.std.specs.Prelude.{filter, option_to_list, if◌then◌else◌}
use Rattle.std.specs.List.{enumerate_from}
use Rattle.hk_base.specs.declared.types.Key.{Key}
use Rattle.ground_history.specs.Histories.{Sent, Kept, History, tag_of}
use Rattle.ground_history.specs.Evidence.{low, high}
use Rattle.verdict_tables.specs.Places.{reports, can_change, report_places, bound_places, request_places, places, AreFirsts, most_ranges}
use Rattle.verdict_tables.specs.Tables.{RangeParts, HasRanges}
use Rattle.verdict_tables.proofs.MemberLemmas.{among-IsIn, IsIn-among, rising-few}
use Rattle.verdict_tables.proofs.RisingLemmas.{rises}

report-count : (key : Key) (ks : List Kept) → length (flat_map (report_places key) ks) ≡ length (filter (reports key) ks)
report-count key [] = refl
report-count key (k ∷ ks) = go (reports key k) (report-count key ks)
  where
    go : (b : Bool) → length (flat_map (report_places key) ks) ≡ length (filter (reports key) ks)
        → length ((if b then (tag_of k + 1) ∷ [] else []) ++ flat_map (report_places key) ks) ≡ length (if b then k ∷ filter (reports key) ks else filter (reports key) ks)
    go true e = ap suc e
    go false e = e

bounds-few : (h : History) (k : ℕ) → length (bound_places h k) ≤ 2
bounds-few h k = go (high h k)
  where
    go : (top : Option ℕ) → length ((low h k + 1) ∷ option_to_list top) ≤ 2
    go None = omega arith
    go (Some n) = omega arith

request-count : (h : History) (key : Key) (n : ℕ) (ss : List Sent) → length (flat_map (request_places h key) (enumerate_from n ss)) ≤ 2 * length (filter (can_change key) ss)
request-count h key n [] = omega arith
request-count h key n (s ∷ ss) = go (can_change key s) (request-count h key (n + 1) ss)
  where
    go : (b : Bool) → length (flat_map (request_places h key) (enumerate_from (n + 1) ss)) ≤ 2 * length (filter (can_change key) ss)
        → length ((if b then bound_places h n else []) ++ flat_map (request_places h key) (enumerate_from (n + 1) ss)) ≤ 2 * length (if b then s ∷ filter (can_change key) ss else filter (can_change key) ss)
    go true e = omega (arith, e, bounds-few h n, length-append (bound_places h n) (flat_map (request_places h key) (enumerate_from (n + 1) ss)))
    go false e = e

pub firsts-few : (h : History) (key : Key) (firsts : List ℕ) → AreFirsts h key firsts → length firsts ≤ most_ranges h key
firsts-few h key firsts are =
    let few = rising-few firsts (0 ∷ places h key) (rises firsts are.rising)
    (λ n i. among-IsIn n (0 ∷ places h key) (sym (are.members n) ∙ IsIn-among n firsts i)) in
    omega (
      arith,
      few,
      report-count key h.kept,
      request-count h key 0 h.requests,
      length-append (flat_map (report_places key) h.kept) (flat_map (request_places h key) (enumerate_from 0 h.requests)),
    )

-- tables that stand for a history have no more ranges
pub ranges-few : (h : History) (key : Key) (found : Option RangeParts) (ranges : RangeParts) → HasRanges h key found → found ≡ Some ranges → length ranges.firsts ≤ most_ranges h key
ranges-few h key found ranges has e =
    firsts-few h key ranges.firsts (subst (λ (o : Option RangeParts). HasRanges h key o) e has).1
