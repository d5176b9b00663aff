-- The calls that draft the end of a slot, one after the other.
use Rattle.std.proofs.Common.{arith, ◌≡◌, ℕ, ◌+◌, ◌<◌, ◌≤◌, max, refl, sym, ◌∙◌, ap, subst, List, [], ◌∷◌, ◌++◌, length, length-append, map, take, get_or, true, None, Ok}
use Rattle.std.specs.Prelude.{if◌then◌else◌}
use Rattle.std.proofs.lemmas.List.{length-map, length-take, take_more, take_all}
use Rattle.hk_base.specs.Fit.{greatest_tag}
use Rattle.hk_base.specs.declared.types.Key.{Key}
use Rattle.st20_grammar.specs.declared.bodies.Setting.{Setting}
use Rattle.hk_world.specs.declared.moment.Act.TheVariants.{Filed}
use Rattle.board_steps.specs.Cores.{Core}
use Rattle.board_steps.specs.Plans.{samples_of, statistics, settables, due_topics, tags_left, prepared, planned}
use Rattle.board_steps.specs.declared.event.Event.TheVariants.{CloseSlot}
use Rattle.board_core.specs.Closing.{end_settings, filing_of, due_told, IsDraftedTo, IsTelling, IsToTell, HasTime, AnswersOpening}
use Rattle.board_core.specs.Logs.{IsDrafted}
use Rattle.board_core.specs.Planned.{log_of, AnswersPlan}
use Rattle.board_core.specs.declared.closing.Due.{Due}
use Rattle.board_core.specs.declared.log.Draft.{Draft}
use Rattle.board_core.proofs.EndLemmas.{is-early, drafted-filing, filings-are, none-told}
use Rattle.board_core.proofs.EndDueLemmas.{closing-count, has-time, time-for, closing-drafted}
use Rattle.board_core.proofs.EndHoldsLemmas.{settings-length}

map-push : {X Y : Type 0} (f : X → Y) (xs : List X) (x : X) → map f (xs ++ x ∷ []) ≡ map f xs ++ f x ∷ []
map-push f [] x = refl
map-push f (y ∷ xs) x = ap (λ ys. f y ∷ ys) (map-push f xs x)

-- the next filing has a tag
pub filing-early : (c : Core) (xs : List Setting) (i : ℕ) (d : Draft) → i < length xs → IsDraftedTo c (map (filing_of c.slot_now) (take i xs)) d → HasTime c (length xs)
    → max d.clock (d.last_tag + 1) ≤ greatest_tag c.tailoring
filing-early c xs i d lt h left =
    let n = length-map (take i xs) (filing_of c.slot_now) in
    let m = length-take i xs in
    let time = left.time in
    is-early c (map (filing_of c.slot_now) (take i xs)) d h (omega (arith, n, m, lt, time))

-- one filing more
pub filing-more : (c : Core) (xs : List Setting) (i : ℕ) (e x : Setting) (old new : Draft) → i < length xs → x ≡ get_or xs i e → IsDraftedTo c (map (filing_of c.slot_now) (take i xs)) old
    → IsDrafted (log_of c) old.clock (Filed x.param c.slot_now x.value) None old new → IsDraftedTo c (map (filing_of c.slot_now) (take (i + 1) xs)) new
filing-more c xs i e x old new lt is h g =
    let all : map (filing_of c.slot_now) (take (i + 1) xs) ≡ map (filing_of c.slot_now) (take i xs) ++ filing_of c.slot_now x ∷ [] =
    ap (map (filing_of c.slot_now)) (take_more xs i e lt ∙ ap (λ (y : Setting). take i xs ++ y ∷ []) (sym is)) ∙ map-push (filing_of c.slot_now) (take i xs) x in
    subst (λ ps. IsDraftedTo c ps new) (sym all) (drafted-filing c (map (filing_of c.slot_now) (take i xs)) x old new h g)

-- all filings
pub filings-all : (c : Core) (xs : List Setting) (i : ℕ) (d : Draft) → length xs ≤ i → xs ≡ end_settings c → IsDraftedTo c (map (filing_of c.slot_now) (take i xs)) d → IsTelling c [] d
filings-all c xs i d le e h =
    none-told c d (subst (λ ps. IsDraftedTo c ps d) (ap (map (filing_of c.slot_now)) (take_all i xs le ∙ e) ∙ filings-are c) h)

-- the next report of a structure has a tag
pub value-left : (c : Core) (keys : List Key) (i : ℕ) (d : Draft) → i < length keys → IsTelling c (map samples_of (take i keys)) d → HasTime c (length (settables c.tailoring) + length keys) → IsToTell c 1 d
value-left c keys i d lt h left =
    let n = length-map (take i keys) samples_of in
    let m = length-take i keys in
    record {
      topics = map samples_of (take i keys);
      telling = h;
      left = time-for c (length (settables c.tailoring) + length keys) (length (settables c.tailoring) + length (map samples_of (take i keys)) + 1) (omega (arith, n, m, lt)) left;
    }

-- one report more
pub value-more : (c : Core) (keys : List Key) (i : ℕ) (e key : Key) (new : Draft) → i < length keys → key ≡ get_or keys i e → IsTelling c (map samples_of (take i keys) ++ samples_of key ∷ []) new
    → IsTelling c (map samples_of (take (i + 1) keys)) new
value-more c keys i e key new lt is h =
    let all : map samples_of (take (i + 1) keys) ≡ map samples_of (take i keys) ++ samples_of key ∷ [] =
    ap (map samples_of) (take_more keys i e lt ∙ ap (λ (y : Key). take i keys ++ y ∷ []) (sym is)) ∙ map-push samples_of (take i keys) key in
    subst (λ ts. IsTelling c ts new) (sym all) h

pub values-all : (c : Core) (keys : List Key) (i : ℕ) (d : Draft) → length keys ≤ i → IsTelling c (map samples_of (take i keys)) d → IsTelling c (map samples_of keys) d
values-all c keys i d le h = subst (λ ts. IsTelling c ts d) (ap (map samples_of) (take_all i keys le)) h

-- the whole draft
module _ (c : Core) (due : Due) (xs : List Setting) (is : xs ≡ end_settings c) (told : due_told due ≡ take (tags_left (prepared c CloseSlot)) (due_topics c)) where
  settings-are : length xs ≡ length (settables c.tailoring)
  settings-are = ap length is ∙ settings-length c

  pub all-count : length xs + length (due_told due) ≡ length (planned c CloseSlot)
  all-count =
      let a = closing-count c in
      let b = ap length told in
      let e = settings-are in
      omega (arith, a, b, e)

  told-parts : length (due_told due) ≡ length due.keys.items + length (if due.has_statistics then statistics ∷ [] else [])
  told-parts =
      let a = length-append (map samples_of due.keys.items) (if due.has_statistics then statistics ∷ [] else []) in
      let b = length-map due.keys.items samples_of in
      omega (arith, a, b)

  module _ (d : Draft) (h : AnswersOpening c (Ok d)) where
    all-time : HasTime c (length xs + length (due_told due))
    all-time = subst (HasTime c) (sym all-count) (has-time c d h.2 h.0 h.1)

    pub settings-time : HasTime c (length xs)
    settings-time = time-for c (length xs + length (due_told due)) (length xs) (omega arith) all-time

    pub keys-time : HasTime c (length (settables c.tailoring) + length due.keys.items)
    keys-time =
        let a = told-parts in
        let e = settings-are in
        time-for c (length xs + length (due_told due)) (length (settables c.tailoring) + length due.keys.items) (omega (arith, a, e)) all-time

    pub statistics-left : (new : Draft) → IsTelling c (map samples_of due.keys.items) new → due.has_statistics ≡ true → IsToTell c 1 new
    statistics-left new t b =
        let a = told-parts ∙ ap (λ x. length due.keys.items + length (if x then statistics ∷ [] else [])) b in
        let e = settings-are in
        let n = length-map due.keys.items samples_of in
        record {
          topics = map samples_of due.keys.items;
          telling = t;
          left = time-for c (length xs + length (due_told due)) (length (settables c.tailoring) + length (map samples_of due.keys.items) + 1) (omega (arith, a, e, n)) all-time;
        }

    pub all-drafted : (new : Draft) → IsTelling c (due_told due) new → AnswersPlan c CloseSlot (Ok new)
    all-drafted new t = closing-drafted c new h.0 h.1 (subst (λ ts. IsTelling c ts new) told t)
