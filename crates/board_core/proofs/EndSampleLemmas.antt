-- The samples at the end of a slot: what is held of them is what is filed then, and what was filed before.
use Rattle.std.proofs.Common.{arith, ◌≡◌, ℕ, zero, suc, ◌+◌, ◌-◌, ◌*◌, ◌/◌, ◌<◌, ◌≤◌, ℤ, pos, refl, sym, ◌∙◌, ap, ap₂, subst, List, [], ◌∷◌, ◌++◌, map, drop, filter, cond, Bool, true, false, ◌==◌, ◌&&◌, ◌||◌, Option, Some, None}
use Rattle.std.specs.Prelude.{IfSome, IsTrue, is_some, find, filter_map, flat_map, slice_get, unwrap_or, if◌then◌else◌}
use Rattle.std.specs.List.{AllByRecursion, AllZip, list_any, list_all, cons_option}
use Rattle.std.specs.Option.{option_map_or, option_or, option_and_then}
use Rattle.std.proofs.lemmas.Bool.Decides.{Decides-eqb, nat_tests}
use Rattle.std.proofs.lemmas.Option.{none-some, same_Some}
use Rattle.std.proofs.lemmas.List.{append_assoc}
use Rattle.std.proofs.Math.Nat.{le-div_iff_mul-le, mul_comm, suc-mul}
use Rattle.hk_base.specs.Fit.{IsFit}
use Rattle.hk_base.specs.Definitions.{IsWellFormed, IsArray}
use Rattle.hk_base.specs.Parameters.{parameter, is_settable, fits}
use Rattle.hk_base.specs.Payload.{Group, repetitions, simple_group, groups, places, AllFit}
use Rattle.hk_base.specs.TailoringParts.{TailoringParts}
use Rattle.hk_base.specs.declared.types.Definition.{Definition}
use Rattle.hk_base.specs.declared.types.Param.{Param}
use Rattle.hk_base.specs.declared.types.Place.{Place}
use Rattle.hk_base.specs.declared.types.SuperList.{SuperList}
use Rattle.hk_base.proofs.Membership.{AllByRecursion-append}
use Rattle.body_fields.specs.Spelling.{AreOctets}
use Rattle.sample_slots.specs.Windows as windows
use Rattle.sample_slots.proofs.CountLemmas.{AreKnownGroups, known-groups}
use Rattle.sample_slots.proofs.WritingLemmas.{fit-anywhere}
use Rattle.hk_world.specs.Honest.{IsFiled}
use Rattle.hk_world.specs.Legal.{FilesSample}
use Rattle.hk_world.specs.Timelines.{EachAfter, Session, tailoring}
use Rattle.hk_world.specs.Worlds.{MayHappen}
use Rattle.hk_world.specs.declared.moment.Moment.{Moment}
use Rattle.hk_world.specs.declared.moment.Act.{Act}
use Rattle.hk_world.specs.declared.moment.Act.TheVariants.{Accepted, TurnedAway, Started, NotStarted, Executed, Completed, Emitted, Filed}
use Rattle.hk_world.proofs.OrderLemmas.{true_is_not_false}
use Rattle.board_steps.specs.Cores.{Core, session, state_of}
use Rattle.board_steps.specs.Plans.{does, settables, own_filing}
use Rattle.board_steps.specs.Slots.{is_set, is_complete, has_sample, sample_at, filed_at}
use Rattle.board_steps.specs.Steps.{AreNext}
use Rattle.board_steps.specs.Timeline.{IsGood}
use Rattle.board_steps.proofs.ClosingLemmas.{AreIdsApart, distinct-apart, whole}
use Rattle.board_steps.proofs.GrammarLemmas.{RequestsOnly}
use Rattle.board_steps.proofs.ValueLemmas.{settable-value}
use Rattle.board_state.specs.Values.{IsChannel, AreValues, channel_at, closing_sample}
use Rattle.board_state.specs.declared.channels.Channel.{Channel}
use Rattle.board_state.proofs.HeldLemmas.{channel-held, held-known, window-held}
use Rattle.board_core.specs.Closing.{end_clock, end_filings, end_sample, held_sample}

drop-next : {X : Type 0} (xs : List X) (n : ℕ) (x : X) → slice_get xs n ≡ Some x → drop n xs ≡ x ∷ drop (suc n) xs
drop-next [] zero x e = absurd (none-some x e)
drop-next [] (suc n) x e = absurd (none-some x e)
drop-next (y ∷ xs) zero x e = ap (λ z. z ∷ xs) (same_Some y x e)
drop-next (y ∷ xs) (suc n) x e = drop-next xs n x e

-- what is left, where the next member is found
pub drop-found : {X : Type 0} (xs : List X) (n : ℕ) (x : X) → slice_get xs n ≡ Some x → drop n xs ≡ x ∷ drop (n + 1) xs
drop-found xs n x e = let next : suc n ≡ n + 1 = omega arith in drop-next xs n x e ∙ ap (λ k. x ∷ drop k xs) next

-- all of what is left pass a test, where one does and where one doesn't
pub some-found : (f : Place → Bool) (ps : List Place) (n : ℕ) (p : Place) → slice_get ps n ≡ Some p → f p ≡ true → list_all f (drop n ps) ≡ list_all f ps → list_all f (drop (n + 1) ps) ≡ list_all f ps
some-found f ps n p e here before =
    sym (ap (λ b. b && list_all f (drop (n + 1) ps)) here) ∙ sym (ap (list_all f) (drop-found ps n p e)) ∙ before

pub none-found : (f : Place → Bool) (ps : List Place) (n : ℕ) (p : Place) → slice_get ps n ≡ Some p → f p ≡ false → list_all f (drop n ps) ≡ list_all f ps → false ≡ list_all f ps
none-found f ps n p e here before =
    sym (ap (λ b. b && list_all f (drop (n + 1) ps)) here) ∙ sym (ap (list_all f) (drop-found ps n p e)) ∙ before

-- the values that are there, so far
pub value-kept : (g : Place → Option ℤ) (values new : List ℤ) (ps : List Place) (n : ℕ) (p : Place) (o : Option ℤ) → slice_get ps n ≡ Some p → g p ≡ o → new ≡ values ++ cons_option o []
    → values ++ filter_map g (drop n ps) ≡ filter_map g ps → new ++ filter_map g (drop (n + 1) ps) ≡ filter_map g ps
value-kept g values new ps n p o e is more before =
    ap (λ xs. xs ++ filter_map g (drop (n + 1) ps)) more ∙ go o
    ∙ ap (λ x. values ++ cons_option x (filter_map g (drop (n + 1) ps))) (sym is) ∙ sym (ap (λ qs. values ++ filter_map g qs) (drop-found ps n p e)) ∙ before
  where
    go : (x : Option ℤ) → (values ++ cons_option x []) ++ filter_map g (drop (n + 1) ps) ≡ values ++ cons_option x (filter_map g (drop (n + 1) ps))
    go None = append_assoc values [] (filter_map g (drop (n + 1) ps))
    go (Some v) = append_assoc values (v ∷ []) (filter_map g (drop (n + 1) ps))

-- whether one of some parameters has an ID
abbrev names : ℕ → List Param → Bool
names id ps = list_any (λ p. p.id == id) ps

-- no other parameter has the ID of one
none-named : (p : Param) (id : ℕ) (ps : List Param) → p.id ≡ id → AllByRecursion (λ q. (p.id == q.id) ≡ false) ps → names id (filter is_settable ps) ≡ false
none-named p id [] e h = refl
none-named p id (q ∷ ps) e h = go (is_settable q) (none-named p id ps e h.1)
  where
    other : (q.id == id) ≡ false
    other = let apart : (p.id == q.id) ≡ false = h.0 in grind (arith, nat_tests)

    go : (b : Bool) → names id (filter is_settable ps) ≡ false → names id (cond b (q ∷ filter is_settable ps) (filter is_settable ps)) ≡ false
    go true ih = ap₂ (λ a b. a || b) other ih
    go false ih = ih

-- a settable parameter has an ID where the parameter with that ID is settable
settable-named : (id : ℕ) (ps : List Param) → AreIdsApart ps → names id (filter is_settable ps) ≡ option_map_or is_settable (find (λ p. p.id == id) ps) false
settable-named id [] h = refl
settable-named id (p ∷ ps) h = go (p.id == id) (is_settable p) refl refl (settable-named id ps h.1)
  where
    go : (a b : Bool) → (p.id == id) ≡ a → is_settable p ≡ b → names id (filter is_settable ps) ≡ option_map_or is_settable (find (λ p. p.id == id) ps) false
        → names id (filter is_settable (p ∷ ps)) ≡ option_map_or is_settable (find (λ p. p.id == id) (p ∷ ps)) false
    go true true e f ih =
        ap (λ b. names id (cond b (p ∷ filter is_settable ps) (filter is_settable ps))) f ∙ ap (λ b. b || names id (filter is_settable ps)) e
        ∙ sym (ap (λ b. option_map_or is_settable (cond b (Some p) (find (λ p. p.id == id) ps)) false) e ∙ f)
    go true false e f ih =
        let same : p.id ≡ id = (Decides-eqb p.id id).0 e in
        ap (λ b. names id (cond b (p ∷ filter is_settable ps) (filter is_settable ps))) f ∙ none-named p id ps same h.0
        ∙ sym (ap (λ b. option_map_or is_settable (cond b (Some p) (find (λ p. p.id == id) ps)) false) e ∙ f)
    go false true e f ih =
        ap (λ b. names id (cond b (p ∷ filter is_settable ps) (filter is_settable ps))) f ∙ ap (λ b. b || names id (filter is_settable ps)) e ∙ ih
        ∙ sym (ap (λ b. option_map_or is_settable (cond b (Some p) (find (λ p. p.id == id) ps)) false) e)
    go false false e f ih =
        ap (λ b. names id (cond b (p ∷ filter is_settable ps) (filter is_settable ps))) f ∙ ih
        ∙ sym (ap (λ b. option_map_or is_settable (cond b (Some p) (find (λ p. p.id == id) ps)) false) e)

turned : (a b : ℕ) → (a == b) ≡ (b == a)
turned a b = grind (arith, nat_tests)

-- an act that files for a place
filed-so : (place : Place) (act : Act) (v : ℤ) → filed_at place act ≡ Some v → act ≡ Filed place.param place.slot v
filed-so place (Filed id slot w) v e = go (id == place.param) (slot == place.slot) refl refl e
  where
    go : (a b : Bool) → (id == place.param) ≡ a → (slot == place.slot) ≡ b → (if a && b then Some w else None) ≡ Some v → Filed id slot w ≡ Filed place.param place.slot v
    go true true p q f =
        ap₂ (λ x y. Filed x y w) ((Decides-eqb id place.param).0 p) ((Decides-eqb slot place.slot).0 q) ∙ ap (Filed place.param place.slot) (same_Some w v f)
    go true false p q f = absurd (none-some v f)
    go false b p q f = absurd (none-some v f)
filed-so place (Accepted k) v e = absurd (none-some v e)
filed-so place (TurnedAway k) v e = absurd (none-some v e)
filed-so place (Started k) v e = absurd (none-some v e)
filed-so place (NotStarted k) v e = absurd (none-some v e)
filed-so place (Executed k number flag) v e = absurd (none-some v e)
filed-so place (Completed k refused) v e = absurd (none-some v e)
filed-so place Emitted v e = absurd (none-some v e)

-- a sample that is found was filed
pub found-filed : (place : Place) (v : ℤ) (moments : List Moment) → sample_at place moments ≡ Some v → IsFiled moments place v
found-filed place v [] e = absurd (none-some v e)
found-filed place v (m ∷ earlier) e = go (filed_at place m.act) refl e (λ g. found-filed place v earlier g)
  where
    go : (o : Option ℤ) → filed_at place m.act ≡ o → option_or o (sample_at place earlier) ≡ Some v → (sample_at place earlier ≡ Some v → IsFiled earlier place v) → IsFiled (m ∷ earlier) place v
    go None f g ih = let r = ih g in (suc r.0, r.1, r.2, r.3)
    go (Some w) f g ih = (0, m, refl, filed-so place m.act v (f ∙ g))

-- and fits its parameter
found-fits : (s : Session) (place : Place) (v : ℤ) (moments : List Moment) → EachAfter (MayHappen s) moments → sample_at place moments ≡ Some v
    → (q : Param) × (parameter (tailoring s) place.param ≡ Some q) × (fits q v ≡ true)
found-fits s place v [] h e = absurd (none-some v e)
found-fits s place v (m ∷ earlier) h e = go (filed_at place m.act) refl e (λ g. found-fits s place v earlier h.1 g)
  where
    go : (o : Option ℤ) → filed_at place m.act ≡ o → option_or o (sample_at place earlier) ≡ Some v
        → (sample_at place earlier ≡ Some v → (q : Param) × (parameter (tailoring s) place.param ≡ Some q) × (fits q v ≡ true))
        → (q : Param) × (parameter (tailoring s) place.param ≡ Some q) × (fits q v ≡ true)
    go None f g ih = ih g
    go (Some w) f g ih =
        let files : FilesSample s earlier (Filed place.param place.slot v) = subst (FilesSample s earlier) (filed-so place m.act v (f ∙ g)) h.0.sample in
        (files.0, files.1.known, files.1.fit)

module _ (c : Core) where
  -- the sample of a place once the values of some parameters are filed
  filings-sampled : (place : Place) (ps : List Param) (earlier after : List Moment) → AreNext (session c) (end_clock c) c.slot_now earlier (map (λ p. does (own_filing c p)) ps) after
      → sample_at place after ≡ (if names place.param ps && place.slot == c.slot_now then Some (unwrap_or ((state_of c).value place.param) (pos 0)) else sample_at place earlier)
  filings-sampled place [] earlier after h = ap (sample_at place) h
  filings-sampled place (p ∷ ps) earlier after h =
      filings-sampled place ps (h.0 ∷ earlier) after h.2
      ∙ ap (λ act. if names place.param ps && place.slot == c.slot_now then Some (unwrap_or ((state_of c).value place.param) (pos 0)) else option_or (filed_at place act) (sample_at place earlier)) h.1.follows.0
      ∙ ap (λ b. if names place.param ps && place.slot == c.slot_now then Some (unwrap_or ((state_of c).value place.param) (pos 0))
      else option_or (if p.id == place.param && b then Some (unwrap_or ((state_of c).value p.id) (pos 0)) else None) (sample_at place earlier)) (turned c.slot_now place.slot)
      ∙ go (p.id == place.param) (names place.param ps) (place.slot == c.slot_now) refl
    where
      go : (a b s : Bool) → (p.id == place.param) ≡ a
          → (if b && s then Some (unwrap_or ((state_of c).value place.param) (pos 0)) else option_or (if a && s then Some (unwrap_or ((state_of c).value p.id) (pos 0)) else None) (sample_at place earlier))
          ≡ (if (a || b) && s then Some (unwrap_or ((state_of c).value place.param) (pos 0)) else sample_at place earlier)
      go true true true e = refl
      go true true false e = refl
      go false true true e = refl
      go false true false e = refl
      go true false true e = ap (λ id. Some (unwrap_or ((state_of c).value id) (pos 0))) ((Decides-eqb p.id place.param).0 e)
      go true false false e = refl
      go false false true e = refl
      go false false false e = refl

-- a place of a known parameter, in one of the last slots
pub record IsNear (c : Core) (place : Place) : Type 0 where
  pub known : is_some (parameter c.tailoring place.param) ≡ true
  pub near : c.slot_now < place.slot + c.tailoring.widths.max_interval

module _ (c : Core) (fit : IsFit c.tailoring) (only : RequestsOnly c.tailoring) (octets : AllByRecursion AreOctets c.requests) where
  -- a settable parameter has a value, which fits
  set-value : (id : ℕ) → is_set c.tailoring id ≡ true → (v : ℤ) × ((state_of c).value id ≡ Some v) × (option_map_or (λ p. fits p v) (parameter c.tailoring id) false ≡ true)
  set-value id set = go (parameter c.tailoring id) refl
    where
      go : (o : Option Param) → parameter c.tailoring id ≡ o → (v : ℤ) × ((state_of c).value id ≡ Some v) × (option_map_or (λ p. fits p v) (parameter c.tailoring id) false ≡ true)
      go None e = absurd (true_is_not_false (sym set ∙ ap (λ o. option_map_or is_settable o false) e))
      go (Some q) e =
          let own : is_settable q ≡ true = sym (ap (λ o. option_map_or is_settable o false) e) ∙ set in
          let v = settable-value c only octets fit q id e own c.moments in
          (v.0, v.1, ap (λ o. option_map_or (λ p. fits p v.0) o false) e ∙ v.2)

  -- the sample of a place once all are filed
  pub filed-at-end : (place : Place) (after : List Moment) → AreNext (session c) (end_clock c) c.slot_now c.moments (end_filings c) after → sample_at place after ≡ end_sample c place
  filed-at-end place after h =
      filings-sampled c place (settables c.tailoring) c.moments after h
      ∙ ap (λ b. if b && place.slot == c.slot_now then Some (unwrap_or ((state_of c).value place.param) (pos 0)) else sample_at place c.moments)
      (settable-named place.param c.tailoring.params (distinct-apart c.tailoring.params fit.ids))
      ∙ go (is_set c.tailoring place.param) (place.slot == c.slot_now) refl
    where
      go : (a b : Bool) → is_set c.tailoring place.param ≡ a
          → (if a && b then Some (unwrap_or ((state_of c).value place.param) (pos 0)) else sample_at place c.moments) ≡ (if a && b then (state_of c).value place.param else sample_at place c.moments)
      go true true e = let v = set-value place.param e in ap (λ o. Some (unwrap_or o (pos 0))) v.1 ∙ sym v.1
      go true false e = refl
      go false b e = refl

  -- a sample at the end of the slot fits its parameter
  end-fits : EachAfter (MayHappen (session c)) c.moments → (place : Place) (v : ℤ) → end_sample c place ≡ Some v → option_map_or (λ p. fits p v) (parameter c.tailoring place.param) false ≡ true
  end-fits h place v e = go (is_set c.tailoring place.param) (place.slot == c.slot_now) refl e
    where
      found : sample_at place c.moments ≡ Some v → option_map_or (λ p. fits p v) (parameter c.tailoring place.param) false ≡ true
      found f = let q = found-fits (session c) place v c.moments h f in ap (λ o. option_map_or (λ p. fits p v) o false) q.1 ∙ q.2

      go : (a b : Bool) → is_set c.tailoring place.param ≡ a → (if a && b then (state_of c).value place.param else sample_at place c.moments) ≡ Some v
          → option_map_or (λ p. fits p v) (parameter c.tailoring place.param) false ≡ true
      go true true e f =
          let w = set-value place.param e in
          let same : w.0 ≡ v = same_Some w.0 v (sym w.1 ∙ f) in
          subst (λ z. option_map_or (λ p. fits p z) (parameter c.tailoring place.param) false ≡ true) same w.2
      go true false e f = found f
      go false b e f = found f

  all-end-fit : EachAfter (MayHappen (session c)) c.moments → (ps : List Place) (values : List ℤ) → AllZip (λ place v. end_sample c place ≡ Some v) ps values → AllFit c.tailoring ps values
  all-end-fit h [] [] k = tt
  all-end-fit h [] (v ∷ vs) k = absurd k
  all-end-fit h (p ∷ ps) [] k = absurd k
  all-end-fit h (p ∷ ps) (v ∷ vs) k = (end-fits h p v k.0, all-end-fit h ps vs k.1)

  -- there is one where the place counts as sampled
  end-some : (place : Place) → is_some (end_sample c place) ≡ has_sample c place
  end-some place = go (is_set c.tailoring place.param) (place.slot == c.slot_now) refl
    where
      go : (a b : Bool) → is_set c.tailoring place.param ≡ a
          → is_some (if a && b then (state_of c).value place.param else sample_at place c.moments) ≡ ((b && a) || is_some (sample_at place c.moments))
      go true true e = ap is_some (set-value place.param e).1
      go true false e = refl
      go false true e = refl
      go false false e = refl

  module _ (channels : List (ℕ × Channel)) (good : IsGood (session c) c.slot_now c.moments) (held : AreValues (session c) c.moments channels) where
    -- what is held of a place is its sample at the end
    held-is : (place : Place) → IsNear c place → held_sample channels c.slot_now place ≡ end_sample c place
    held-is place n = go (channel_at channels place.param) refl (channel-held (session c) c.moments channels place.param held.each)
      where
        go : (o : Option Channel) → channel_at channels place.param ≡ o → IfSome o (IsChannel (session c) c.moments place.param)
            → option_and_then (λ x. closing_sample x place.slot c.slot_now) (channel_at channels place.param) ≡ end_sample c place
        go None e k = absurd (true_is_not_false (sym n.known ∙ sym (held-known (session c) c.moments channels place.param held) ∙ ap is_some e))
        go (Some x) e k =
            let window = window-held (session c) c.slot_now place.slot c.moments place.param x good n.near k in
            ap (option_and_then (λ y. closing_sample y place.slot c.slot_now)) e
            ∙ ap (λ b. if b && place.slot == c.slot_now then x.value else windows.sample_at x.window.items place.slot) k.settable
            ∙ ap (λ v. if is_set c.tailoring place.param && place.slot == c.slot_now then v else windows.sample_at x.window.items place.slot) k.value
            ∙ ap (λ v. if is_set c.tailoring place.param && place.slot == c.slot_now then (state_of c).value place.param else v) window

    -- all places have a sample
    all-held : (ps : List Place) → AllByRecursion (IsNear c) ps → list_all (λ p. is_some (held_sample channels c.slot_now p)) ps ≡ list_all (has_sample c) ps
    all-held [] n = refl
    all-held (p ∷ ps) n = ap₂ (λ a b. a && b) (ap is_some (held-is p n.0) ∙ end-some p) (all-held ps n.1)

    -- their samples, where each has one
    held-samples : (ps : List Place) → AllByRecursion (IsNear c) ps → list_all (has_sample c) ps ≡ true
        → AllZip (λ place v. end_sample c place ≡ Some v) ps (filter_map (held_sample channels c.slot_now) ps)
    held-samples [] n h = tt
    held-samples (p ∷ ps) n h = both (has_sample c p) refl h (λ all. held-samples ps n.1 all)
      where
        first : (o : Option ℤ) → end_sample c p ≡ o → is_some o ≡ true → AllZip (λ place v. end_sample c place ≡ Some v) ps (filter_map (held_sample channels c.slot_now) ps)
            → AllZip (λ place v. end_sample c place ≡ Some v) (p ∷ ps) (cons_option o (filter_map (held_sample channels c.slot_now) ps))
        first None e some rest = absurd (true_is_not_false (sym some))
        first (Some v) e some rest = (e, rest)

        later : (b : Bool) → (true && b) ≡ true → b ≡ true
        later b e = e

        both : (a : Bool) → has_sample c p ≡ a → (a && list_all (has_sample c) ps) ≡ true
            → (list_all (has_sample c) ps ≡ true → AllZip (λ place v. end_sample c place ≡ Some v) ps (filter_map (held_sample channels c.slot_now) ps))
            → AllZip (λ place v. end_sample c place ≡ Some v) (p ∷ ps) (filter_map (held_sample channels c.slot_now) (p ∷ ps))
        both false e f ih = absurd (true_is_not_false (sym f))
        both true e f ih =
            subst (λ o. AllZip (λ place v. end_sample c place ≡ Some v) (p ∷ ps) (cons_option o (filter_map (held_sample channels c.slot_now) ps))) (sym (held-is p n.0))
            (first (end_sample c p) refl (end-some p ∙ e) (ih (later (list_all (has_sample c) ps) f)))

-- the repetitions of an array lie within its interval
repetitions-within : (ids : List ℕ) (spacing n k : ℕ) → 1 ≤ spacing → k * spacing ≤ n → AllByRecursion (λ (g : Group). g.lag < n) (repetitions ids spacing k)
repetitions-within ids spacing n zero some le = tt
repetitions-within ids spacing n (suc later) some le =
    let more = suc-mul later spacing in
    (omega (arith, more, some, le), repetitions-within ids spacing n later some (omega (arith, more, le)))

array-within : (t : TailoringParts) (n : ℕ) (a : SuperList) → 1 ≤ n → IsArray t n a → AllByRecursion (λ (g : Group). g.lag < n) (repetitions a.params (n / a.repetition) a.repetition)
array-within t n a some h =
    let r : 0 < a.repetition = omega (arith, h.repeated) in
    let le : a.repetition ≤ n = whole n a.repetition some h.divides in
    let one : 1 ≤ n / a.repetition = (le-div_iff_mul-le r).1 (omega (arith, le)) in
    let all : (n / a.repetition) * a.repetition ≤ n = (le-div_iff_mul-le r).0 (omega arith) in
    repetitions-within a.params (n / a.repetition) n a.repetition one (omega (arith, all, mul_comm (n / a.repetition) a.repetition))

arrays-within : (t : TailoringParts) (n : ℕ) (arrays : List SuperList) → 1 ≤ n → AllByRecursion (IsArray t n) arrays
    → AllByRecursion (λ (g : Group). g.lag < n) (flat_map (λ a. repetitions a.params (n / a.repetition) a.repetition) arrays)
arrays-within t n [] some h = tt
arrays-within t n (a ∷ arrays) some h =
    AllByRecursion-append (λ (g : Group). g.lag < n) (repetitions a.params (n / a.repetition) a.repetition) (flat_map (λ (x : SuperList). repetitions x.params (n / x.repetition) x.repetition) arrays)
    (array-within t n a some h.0) (arrays-within t n arrays some h.1)

simple-within : (n : ℕ) (ids : List ℕ) → 1 ≤ n → AllByRecursion (λ (g : Group). g.lag < n) (simple_group ids)
simple-within n [] some = tt
simple-within n (id ∷ ids) some = (omega (arith, some), tt)

groups-within : (t : TailoringParts) (d : Definition) → IsWellFormed t d → AllByRecursion (λ (g : Group). g.lag < d.interval) (groups d)
groups-within t d h =
    AllByRecursion-append (λ (g : Group). g.lag < d.interval) (simple_group d.simple) (flat_map (λ a. repetitions a.params (d.interval / a.repetition) a.repetition) d.arrays)
    (simple-within d.interval d.simple h.interval.0) (arrays-within t d.interval d.arrays h.interval.0 h.arrays)

-- so the places of a report are near
module _ (c : Core) (n : ℕ) (whole_interval : n ≤ c.slot_now + 1) (long : n ≤ c.tailoring.widths.max_interval) where
  group-near : (lag : ℕ) (ids : List ℕ) → lag < n → AllByRecursion (λ id. IsTrue (is_some (parameter c.tailoring id))) ids
      → AllByRecursion (IsNear c) (map (λ id. record { param = id; slot = c.slot_now - lag }) ids)
  group-near lag [] lt known = tt
  group-near lag (id ∷ ids) lt known = (record { known = known.0; near = omega (arith, lt, long, whole_interval) }, group-near lag ids lt known.1)

  groups-near : (gs : List Group) → AllByRecursion (λ (g : Group). g.lag < n) gs → AreKnownGroups c.tailoring gs
      → AllByRecursion (IsNear c)
      (flat_map (λ g. map (λ id. record { param = id; slot = c.slot_now - g.lag }) g.params) gs)
  groups-near [] lag known = tt
  groups-near (g ∷ gs) lag known =
      AllByRecursion-append (IsNear c)
      (map (λ id. record { param = id; slot = c.slot_now - g.lag }) g.params) (flat_map (λ (x : Group). map (λ id. record { param = id; slot = c.slot_now - x.lag }) x.params) gs)
      (group-near g.lag g.params lag.0 known.0) (groups-near gs lag.1 known.1)

module _ (c : Core) (fit : IsFit c.tailoring) (only : RequestsOnly c.tailoring) (octets : AllByRecursion AreOctets c.requests) (channels : List (ℕ × Channel))
    (good : IsGood (session c) c.slot_now c.moments) (held : AreValues (session c) c.moments channels) (d : Definition) (formed : IsWellFormed c.tailoring d) (whole_interval : d.interval ≤ c.slot_now + 1) where
  are-near : AllByRecursion (IsNear c) (places d c.slot_now)
  are-near = groups-near c d.interval whole_interval formed.interval.1 (groups d) (groups-within c.tailoring d formed) (known-groups c.tailoring d formed)

  -- whether a structure is complete
  pub complete-held : list_all (λ p. is_some (held_sample channels c.slot_now p)) (places d c.slot_now) ≡ is_complete c d
  complete-held = all-held c fit only octets channels good held (places d c.slot_now) are-near

  -- its samples, where it is
  pub complete-samples : is_complete c d ≡ true → AllZip (λ place v. end_sample c place ≡ Some v) (places d c.slot_now) (filter_map (held_sample channels c.slot_now) (places d c.slot_now))
  complete-samples all = held-samples c fit only octets channels good held (places d c.slot_now) are-near all

  -- they fit
  pub complete-fit : is_complete c d ≡ true → AllFit c.tailoring (places d d.interval) (filter_map (held_sample channels c.slot_now) (places d c.slot_now))
  complete-fit all =
      fit-anywhere c.tailoring c.slot_now d.interval (groups d) (filter_map (held_sample channels c.slot_now) (places d c.slot_now))
      (all-end-fit c fit only octets good.timeline (places d c.slot_now) (filter_map (held_sample channels c.slot_now) (places d c.slot_now)) (complete-samples all))
