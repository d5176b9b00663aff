-- The latest samples of a parameter: what a window has of a slot is what was filed for it.
use Rattle.std.proofs.Common.{arith, ◌≡◌, ℕ, zero, suc, ◌+◌, ◌-◌, ◌<◌, ◌≤◌, ℤ, refl, sym, ◌∙◌, ap, ap₂, subst, List, [], ◌∷◌, ◌++◌, length, drop, map, cond, Bool, true, false, ◌==◌, ◌&&◌, ◌||◌, Option, Some, None, ◌⊎◌, inl, inr}
use Rattle.std.specs.Prelude.{⊤, IfSome, find, is_some, option_map, if◌then◌else◌}
use Rattle.std.specs.List.{AllByRecursion, list_any}
use Rattle.std.specs.Option.{option_or, option_map_or}
use Rattle.std.proofs.lemmas.Bool.{cases_lt, eq-eqb, ne_eqb}
use Rattle.std.proofs.lemmas.Bool.Decides.{Decides-eqb}
use Rattle.std.proofs.lemmas.Option.{same_Some, none-some}
use Rattle.circular_buffer.specs.Buffer.{keep_last}
use Rattle.hk_base.specs.TailoringParts.{TailoringParts}
use Rattle.hk_base.specs.declared.types.Place.{Place}
use Rattle.sample_slots.specs.Windows.{AreRising}
use Rattle.sample_slots.specs.Windows as windows
use Rattle.hk_world.specs.Legal.{is_filing}
use Rattle.hk_world.specs.declared.moment.Moment.{Moment}
use Rattle.hk_world.specs.declared.moment.Act.{Act}
use Rattle.hk_world.specs.declared.moment.Act.TheVariants.{Accepted, TurnedAway, Started, NotStarted, Executed, Completed, Emitted, Filed}
use Rattle.board_steps.specs.Slots.{filed_at, sample_at}
use Rattle.board_steps.specs.Timeline.{IsFiledBy, AreFiledBy}
use Rattle.board_state.specs.Values.{slot_filed, filed_samples}
use Rattle.board_state.proofs.ChannelLemmas.{samples-more, samples-still}

-- samples up to a slot
abbrev pub AreUpTo : ℕ → List (ℕ × ℤ) → Type 0
AreUpTo slot xs = AllByRecursion (λ x. x.0 ≤ slot) xs

-- there are no more samples after one than slots
room-after : (x : ℕ × ℤ) (xs : List (ℕ × ℤ)) (slot : ℕ) → AreRising (x ∷ xs) → AreUpTo slot (x ∷ xs) → x.0 + length xs ≤ slot
room-after x [] slot rising up = omega (arith, up.0)
room-after x (y ∷ ys) slot rising up = let rest = room-after y ys slot rising.1 up.1 in omega (arith, rest, rising.0.0)

found-cons : (x : ℕ × ℤ) (xs : List (ℕ × ℤ)) (y : ℕ) → (x.0 == y) ≡ false → windows.sample_at (x ∷ xs) y ≡ windows.sample_at xs y
found-cons x xs y e = ap (λ b. option_map (λ (s : ℕ × ℤ). s.1) (cond b (Some x) (find (λ (s : ℕ × ℤ). s.0 == y) xs))) e

-- samples that are left out are of earlier slots
left-out : (k : ℕ) (xs : List (ℕ × ℤ)) (slot y : ℕ) → AreRising xs → AreUpTo slot xs → slot < y + (length xs - k)
    → windows.sample_at (drop k xs) y ≡ windows.sample_at xs y
left-out zero xs slot y rising up h = refl
left-out (suc k) [] slot y rising up h = refl
left-out (suc k) (x ∷ xs) slot y rising up h =
    let few = room-after x xs slot rising up in
    let other : (x.0 == y) ≡ false = ne_eqb x.0 y (λ e. absurd (omega (arith, few, h, e))) in
    left-out k xs slot y rising.1 up.1 (omega (arith, h)) ∙ sym (found-cons x xs y other)

-- the latest n samples have all of the last n slots
pub sample-kept : (n : ℕ) (xs : List (ℕ × ℤ)) (slot y : ℕ) → AreRising xs → AreUpTo slot xs → slot < y + n
    → windows.sample_at (keep_last n xs) y ≡ windows.sample_at xs y
sample-kept n xs slot y rising up h = go (cases_lt (length xs) n)
  where
    go : (length xs < n) ⊎ (n ≤ length xs) → windows.sample_at (keep_last n xs) y ≡ windows.sample_at xs y
    go (inl few) =
        let none : length xs - n ≡ 0 = omega (arith, few) in
        ap (λ k. windows.sample_at (drop k xs) y) none
    go (inr many) = left-out (length xs - n) xs slot y rising up (omega (arith, many, h))

-- samples that rise with one more at the end
rising-front : (xs : List (ℕ × ℤ)) (x : ℕ × ℤ) → AreRising (xs ++ x ∷ []) → AreRising xs × AllByRecursion (λ (y : ℕ × ℤ). y.0 < x.0) xs
rising-front [] x h = (tt, tt)
rising-front (a ∷ xs) x h =
    let rest = rising-front xs x h.1 in
    let own = parts xs h.0 in
    ((own.0, rest.0), (own.1, rest.1))
  where
    parts : (ys : List (ℕ × ℤ)) → AllByRecursion (λ (later : ℕ × ℤ). a.0 < later.0) (ys ++ x ∷ []) → AllByRecursion (λ (later : ℕ × ℤ). a.0 < later.0) ys × (a.0 < x.0)
    parts [] k = (tt, k.0)
    parts (y ∷ ys) k = let rest = parts ys k.1 in ((k.0, rest.0), rest.1)

-- the samples of a moment's parameter rise before it too
pub rising-before : (id : ℕ) (m : Moment) (earlier : List Moment) → AreRising (filed_samples id (m ∷ earlier)) → AreRising (filed_samples id earlier)
rising-before id m earlier h = go (slot_filed id m.act) refl
  where
    go : (o : Option (ℕ × ℤ)) → slot_filed id m.act ≡ o → AreRising (filed_samples id earlier)
    go None e = subst AreRising (samples-still id m earlier e) h
    go (Some x) e = (rising-front (filed_samples id earlier) x (subst AreRising (samples-more id m earlier x e) h)).0

found-pushed : (xs : List (ℕ × ℤ)) (x : ℕ × ℤ) (y : ℕ)
    → windows.sample_at (xs ++ x ∷ []) y ≡ option_or (windows.sample_at xs y) (if x.0 == y then Some x.1 else None)
found-pushed [] x y = go (x.0 == y)
  where
    go : (b : Bool) → option_map (λ (s : ℕ × ℤ). s.1) (cond b (Some x) None) ≡ (if b then Some x.1 else None)
    go true = refl
    go false = refl
found-pushed (a ∷ xs) x y = go (a.0 == y) (found-pushed xs x y)
  where
    go : (b : Bool) → windows.sample_at (xs ++ x ∷ []) y ≡ option_or (windows.sample_at xs y) (if x.0 == y then Some x.1 else None)
        → option_map (λ (s : ℕ × ℤ). s.1) (cond b (Some a) (find (λ (s : ℕ × ℤ). s.0 == y) (xs ++ x ∷ [])))
        ≡ option_or (option_map (λ (s : ℕ × ℤ). s.1) (cond b (Some a) (find (λ (s : ℕ × ℤ). s.0 == y) xs))) (if x.0 == y then Some x.1 else None)
    go true h = refl
    go false h = h

absent-before : (xs : List (ℕ × ℤ)) (y : ℕ) → AllByRecursion (λ (x : ℕ × ℤ). x.0 < y) xs → windows.sample_at xs y ≡ None
absent-before [] y h = refl
absent-before (x ∷ xs) y h =
    let less = h.0 in
    found-cons x xs y (ne_eqb x.0 y (λ e. absurd (omega (arith, less, e)))) ∙ absent-before xs y h.1

or-none : {X : Type 0} (o : Option X) → option_or o None ≡ o
or-none None = refl
or-none (Some x) = refl

-- the place of a parameter in a slot
abbrev pub place_at : ℕ → ℕ → Place
place_at id slot = record { param = id; slot = slot }

-- what an act files for a place, by what it files for the parameter
filed-by : (id y : ℕ) (act : Act) (o : Option (ℕ × ℤ)) → slot_filed id act ≡ o
    → filed_at (place_at id y) act ≡ option_map_or (λ (x : ℕ × ℤ). if x.0 == y then Some x.1 else None) o None
filed-by id y (Filed param slot v) o e = go (param == id) refl
  where
    go : (b : Bool) → (param == id) ≡ b
        → (if param == id && slot == y then Some v else None) ≡ option_map_or (λ (x : ℕ × ℤ). if x.0 == y then Some x.1 else None) o None
    go true q =
        ap (λ b. if b && slot == y then Some v else None) q
        ∙ ap (λ b. option_map_or (λ (x : ℕ × ℤ). if x.0 == y then Some x.1 else None) (if b then Some (slot, v) else None) None) (sym q)
        ∙ ap (λ p. option_map_or (λ (x : ℕ × ℤ). if x.0 == y then Some x.1 else None) p None) e
    go false q =
        ap (λ b. if b && slot == y then Some v else None) q
        ∙ ap (λ b. option_map_or (λ (x : ℕ × ℤ). if x.0 == y then Some x.1 else None) (if b then Some (slot, v) else None) None) (sym q)
        ∙ ap (λ p. option_map_or (λ (x : ℕ × ℤ). if x.0 == y then Some x.1 else None) p None) e
filed-by id y (Accepted k) o e = ap (λ p. option_map_or (λ (x : ℕ × ℤ). if x.0 == y then Some x.1 else None) p None) e
filed-by id y (TurnedAway k) o e = ap (λ p. option_map_or (λ (x : ℕ × ℤ). if x.0 == y then Some x.1 else None) p None) e
filed-by id y (Started k) o e = ap (λ p. option_map_or (λ (x : ℕ × ℤ). if x.0 == y then Some x.1 else None) p None) e
filed-by id y (NotStarted k) o e = ap (λ p. option_map_or (λ (x : ℕ × ℤ). if x.0 == y then Some x.1 else None) p None) e
filed-by id y (Executed k number flag) o e = ap (λ p. option_map_or (λ (x : ℕ × ℤ). if x.0 == y then Some x.1 else None) p None) e
filed-by id y (Completed k refused) o e = ap (λ p. option_map_or (λ (x : ℕ × ℤ). if x.0 == y then Some x.1 else None) p None) e
filed-by id y Emitted o e = ap (λ p. option_map_or (λ (x : ℕ × ℤ). if x.0 == y then Some x.1 else None) p None) e

-- the sample of a slot among those of a parameter is the one that was filed for its place
pub sample-found : (id y : ℕ) (moments : List Moment) → AreRising (filed_samples id moments)
    → windows.sample_at (filed_samples id moments) y ≡ sample_at (place_at id y) moments
sample-found id y [] rising = refl
sample-found id y (m ∷ earlier) rising = go (slot_filed id m.act) refl (sample-found id y earlier (rising-before id m earlier rising))
  where
    older : Option ℤ
    older = sample_at (place_at id y) earlier

    by_slot : (x : ℕ × ℤ) (b : Bool) → (x.0 == y) ≡ b → AllByRecursion (λ (z : ℕ × ℤ). z.0 < x.0) (filed_samples id earlier)
        → windows.sample_at (filed_samples id earlier) y ≡ older
        → option_or (windows.sample_at (filed_samples id earlier) y) (if b then Some x.1 else None) ≡ option_or (if b then Some x.1 else None) older
    by_slot x true q before ih =
        let same : x.0 ≡ y = (Decides-eqb x.0 y).0 q in
        ap (λ o. option_or o (Some x.1)) (absent-before (filed_samples id earlier) y (subst (λ n. AllByRecursion (λ (z : ℕ × ℤ). z.0 < n) (filed_samples id earlier)) same before))
    by_slot x false q before ih = or-none (windows.sample_at (filed_samples id earlier) y) ∙ ih

    go : (o : Option (ℕ × ℤ)) → slot_filed id m.act ≡ o → windows.sample_at (filed_samples id earlier) y ≡ older
        → windows.sample_at (filed_samples id (m ∷ earlier)) y ≡ option_or (filed_at (place_at id y) m.act) older
    go None e ih =
        ap (λ xs. windows.sample_at xs y) (samples-still id m earlier e) ∙ ih
        ∙ ap (λ o. option_or o older) (sym (filed-by id y m.act None e))
    go (Some x) e ih =
        let parts = rising-front (filed_samples id earlier) x (subst AreRising (samples-more id m earlier x e) rising) in
        ap (λ xs. windows.sample_at xs y) (samples-more id m earlier x e)
        ∙ found-pushed (filed_samples id earlier) x y
        ∙ ap (λ b. option_or (windows.sample_at (filed_samples id earlier) y) (if b then Some x.1 else None)) refl
        ∙ by_slot x (x.0 == y) refl parts.1 ih
        ∙ ap (λ o. option_or o older) (sym (filed-by id y m.act (Some x) e))

-- samples are of slots up to the one that runs
pub filed-up-to : (t : TailoringParts) (slot id : ℕ) (moments : List Moment) → AreFiledBy t slot moments → AreUpTo slot (filed_samples id moments)
filed-up-to t slot id [] h = tt
filed-up-to t slot id (m ∷ earlier) h = go (slot_filed id m.act) refl (filed-up-to t slot id earlier h.1)
  where
    own : (act : Act) (x : ℕ × ℤ) → IsFiledBy t slot act → slot_filed id act ≡ Some x → x.0 ≤ slot
    own (Filed param s v) x k e = by_param (param == id) e
      where
        by_param : (b : Bool) → (if b then Some (s, v) else None) ≡ Some x → x.0 ≤ slot
        by_param true f = subst (λ (y : ℕ × ℤ). y.0 ≤ slot) (same_Some (s, v) x f) k.0
        by_param false f = absurd (none-some x f)
    own (Accepted n) x k e = absurd (none-some x e)
    own (TurnedAway n) x k e = absurd (none-some x e)
    own (Started n) x k e = absurd (none-some x e)
    own (NotStarted n) x k e = absurd (none-some x e)
    own (Executed n number flag) x k e = absurd (none-some x e)
    own (Completed n refused) x k e = absurd (none-some x e)
    own Emitted x k e = absurd (none-some x e)

    pushed : (xs : List (ℕ × ℤ)) (x : ℕ × ℤ) → AreUpTo slot xs → x.0 ≤ slot → AreUpTo slot (xs ++ x ∷ [])
    pushed [] x a b = (b, tt)
    pushed (y ∷ ys) x a b = (a.0, pushed ys x a.1 b)

    go : (o : Option (ℕ × ℤ)) → slot_filed id m.act ≡ o → AreUpTo slot (filed_samples id earlier) → AreUpTo slot (filed_samples id (m ∷ earlier))
    go None e ih = subst (AreUpTo slot) (sym (samples-still id m earlier e)) ih
    go (Some x) e ih = subst (AreUpTo slot) (sym (samples-more id m earlier x e)) (pushed (filed_samples id earlier) x ih (own m.act x h.0 e))

-- whether there is a sample for a place, among the moments
filing-some : (id slot : ℕ) (act : Act) → is_filing id slot act ≡ is_some (filed_at (place_at id slot) act)
filing-some id slot (Filed param x v) = go (param == id && x == slot)
  where
    go : (b : Bool) → b ≡ is_some (if b then Some v else None)
    go true = refl
    go false = refl
filing-some id slot (Accepted k) = refl
filing-some id slot (TurnedAway k) = refl
filing-some id slot (Started k) = refl
filing-some id slot (NotStarted k) = refl
filing-some id slot (Executed k number flag) = refl
filing-some id slot (Completed k refused) = refl
filing-some id slot Emitted = refl

pub filed-some : (id slot : ℕ) (moments : List Moment) → list_any (λ m. is_filing id slot m.act) moments ≡ is_some (sample_at (place_at id slot) moments)
filed-some id slot [] = refl
filed-some id slot (m ∷ earlier) =
    ap₂ (λ a b. a || b) (filing-some id slot m.act) (filed-some id slot earlier) ∙ both (filed_at (place_at id slot) m.act)
  where
    both : (o : Option ℤ) → (is_some o || is_some (sample_at (place_at id slot) earlier)) ≡ is_some (option_or o (sample_at (place_at id slot) earlier))
    both None = refl
    both (Some v) = refl
