-- What waits, once a packet was handled.
use Rattle.std.proofs.Common.{arith, ◌≡◌, ℕ, zero, suc, ◌+◌, ◌<◌, ◌≤◌, refl, sym, ◌∙◌, ap, subst, List, [], ◌∷◌, ◌++◌, length, length-append, reverse, Bool, true, false, ◌==◌, ◌||◌, Option, Some, None, ◌⊎◌, inl, inr}
use Rattle.std.specs.Prelude.{⊤, IsTrue, slice_get, filter_map, unwrap_or, option_and_then, if◌then◌else◌}
use Rattle.std.specs.List.{AllByRecursion, list_any, cons_option}
use Rattle.std.specs.Option.{option_map_or}
use Rattle.std.specs.Result.{result_ok}
use Rattle.std.proofs.lemmas.Bool.{eq-eqb, ne_eqb}
use Rattle.std.proofs.lemmas.Bool.Decides.{Decides-eqb, nat_tests}
use Rattle.hk_base.proofs.Membership.{AllByRecursion-append}
use Rattle.pus_messages.specs.Instructions.{instructions}
use Rattle.hk_world.specs.Timelines.{Session, request_at, request_number, is_act_of, last_act}
use Rattle.hk_world.specs.Legal.{is_pending, refused_number, refused_numbers}
use Rattle.hk_world.specs.Honest.{id_of_packet, request_id}
use Rattle.hk_world.specs.declared.moment.Moment.{Moment}
use Rattle.hk_world.specs.declared.moment.Act.{Act}
use Rattle.hk_world.specs.declared.moment.Act.TheVariants.{Accepted, TurnedAway}
use Rattle.hk_world.proofs.OrderLemmas.{true_is_not_false, last_act-other}
use Rattle.hk_world.proofs.RequestLemmas.{last_act-own}
use Rattle.board_state.specs.Waiting.{IsRunning, IsStage, AreWithin, AreInOrder, AreWaiting}
use Rattle.board_state.specs.declared.running.Running.{Running}
use Rattle.board_steps.proofs.GrownLemmas.{grown, slice_get-front}

-- an act handles the request with this number
abbrev pub Handles : ℕ → Act → Type 0
Handles k act = (act ≡ Accepted k) ⊎ (act ≡ TurnedAway k)

other-act : (k j : ℕ) (act : Act) → Handles k act → (k ≡ j → ⊥) → is_act_of j act ≡ false
other-act k j act (inl e) ne = ap (is_act_of j) e ∙ ne_eqb k j ne
other-act k j act (inr e) ne = ap (is_act_of j) e ∙ ne_eqb k j ne

none-refused : (k j : ℕ) (act : Act) → Handles k act → refused_number j act ≡ None
none-refused k j act (inl e) = ap (refused_number j) e
none-refused k j act (inr e) = ap (refused_number j) e

module _ (s : Session) (more : List (List ℕ)) (moments : List Moment) (m : Moment) (k : ℕ) (next : length s.requests ≤ k) (handles : Handles k m.act) where
  -- a request that waited waits as before
  running-on : (w : Running) → IsRunning s moments w → IsRunning (grown s more) (m ∷ moments) w
  running-on w h =
      let same : slice_get s.requests w.number ≡ slice_get (grown s more).requests w.number = sym (slice_get-front s.requests more w.number h.known) in
      let other : (k ≡ w.number → ⊥) = λ e. let lt = h.known in absurd (omega (arith, e, lt, next)) in
      record {
        known = let lt = h.known in omega (arith, lt, length-append s.requests more);
        request = ap (λ o. option_and_then (λ packet. result_ok (s.protocol.request packet)) o) (sym same) ∙ h.request;
        id = h.id ∙ ap (λ o. id_of_packet (unwrap_or o [])) same;
        stage = subst (IsStage w.number w.started w.executed) (sym (last_act-other w.number m moments (other-act k w.number m.act handles other))) h.stage;
        within = h.within;
        refused = h.refused ∙ ap (λ o. reverse (cons_option o (filter_map (λ x. refused_number w.number x.act) moments))) (sym (none-refused k w.number m.act handles));
        rises = h.rises;
      }

  all-running-on : (ws : List Running) → AllByRecursion (IsRunning s moments) ws → AllByRecursion (IsRunning (grown s more) (m ∷ moments)) ws
  all-running-on [] h = tt
  all-running-on (w ∷ ws) h = (running-on w h.0, all-running-on ws h.1)

  all-known : (ws : List Running) → AllByRecursion (IsRunning s moments) ws → AllByRecursion (λ w. w.number < k) ws
  all-known [] h = tt
  all-known (w ∷ ws) h = (let lt = h.0.known in omega (arith, lt, next), all-known ws h.1)

  -- a packet was turned away
  pub waiting-turned : (ws : List Running) → m.act ≡ TurnedAway k → AreWaiting s moments ws → AreWaiting (grown s more) (m ∷ moments) ws
  waiting-turned ws e h =
      record { each = all-running-on ws h.each; order = h.order; all = λ j p. go j (k == j) refl p }
    where
      go : (j : ℕ) (b : Bool) → (k == j) ≡ b → is_pending (last_act j (m ∷ moments)) ≡ true → IsTrue (list_any (λ w. w.number == j) ws)
      go j true q p =
          let own : is_act_of j m.act ≡ true = ap (is_act_of j) e ∙ q in
          absurd (true_is_not_false (sym p ∙ ap is_pending (last_act-own j m moments own ∙ ap Some e)))
      go j false q p = h.all j (sym (ap is_pending (last_act-other j m moments (ap (is_act_of j) e ∙ q))) ∙ p)

any-left : {X : Type 0} (p : X → Bool) (xs ys : List X) → list_any p xs ≡ true → list_any p (xs ++ ys) ≡ true
any-left p [] ys e = absurd (true_is_not_false (sym e))
any-left p (x ∷ xs) ys e = go (p x) e (any-left p xs ys)
  where
    go : (b : Bool) → (b || list_any p xs) ≡ true → (list_any p xs ≡ true → list_any p (xs ++ ys) ≡ true) → (b || list_any p (xs ++ ys)) ≡ true
    go true h ih = refl
    go false h ih = ih h

any-last : {X : Type 0} (p : X → Bool) (xs : List X) (y : X) → p y ≡ true → list_any p (xs ++ y ∷ []) ≡ true
any-last p [] y e = ap (λ b. b || false) e
any-last p (x ∷ xs) y e = go (p x) (any-last p xs y e)
  where
    go : (b : Bool) → list_any p (xs ++ y ∷ []) ≡ true → (b || list_any p (xs ++ y ∷ [])) ≡ true
    go true h = refl
    go false h = h

order-more : (ws : List Running) (w : Running) → AreInOrder ws → AllByRecursion (λ x. x.number < w.number) ws → AreInOrder (ws ++ w ∷ [])
order-more [] w h below = (tt, tt)
order-more (x ∷ ws) w h below =
    (AllByRecursion-append (λ y. x.number < y.number) ws (w ∷ []) h.0 (below.0, tt), order-more ws w h.1 below.1)

-- a packet was accepted, and its request waits
pub waiting-accepted : (s : Session) (more : List (List ℕ)) (moments : List Moment) (m : Moment) (k : ℕ) → length s.requests ≤ k → k < length (grown s more).requests
    → m.act ≡ Accepted k → (ws : List Running) (w : Running) → w.number ≡ k → w.started ≡ false → w.executed ≡ 0 → w.refused ≡ refused_numbers k moments
    → w.refused ≡ [] → request_at (grown s more) k ≡ Some w.request → w.id ≡ request_id (grown s more) k → AreWaiting s moments ws → AreWaiting (grown s more) (m ∷ moments) (ws ++ w ∷ [])
waiting-accepted s more moments m k next known e ws w number started executed refused none request id h =
    let P : ℕ → Type 0 = λ n. n < length (grown s more).requests in
    let new : IsRunning (grown s more) (m ∷ moments) w =
    record {
      known = subst P (sym number) known;
      request = ap (request_at (grown s more)) number ∙ request;
      id = id ∙ ap (request_id (grown s more)) (sym number);
      stage = subst (λ n. IsStage n w.started w.executed (last_act n (m ∷ moments))) (sym number)
          (subst (λ b. IsStage k b w.executed (last_act k (m ∷ moments))) (sym started) (executed, last_act-own k m moments own ∙ ap Some e));
      within = subst (λ n. n ≤ length (instructions w.request)) (sym executed) (omega arith);
      refused = refused ∙ ap (λ o. reverse (cons_option o (filter_map (λ x. refused_number k x.act) moments))) (sym (ap (refused_number k) e)) ∙ ap (λ n. refused_numbers n (m ∷ moments)) (sym number);
      rises = subst (AreWithin 0 w.executed) (sym none) (omega arith);
    } in
    record {
      each = AllByRecursion-append (IsRunning (grown s more) (m ∷ moments)) ws (w ∷ []) (all-running-on s more moments m k next (inl e) ws h.each) (new, tt);
      order = order-more ws w h.order (subst (λ n. AllByRecursion (λ x. x.number < n) ws) (sym number) (all-known s more moments m k next (inl e) ws h.each));
      all = λ j p. go j (k == j) refl p;
    }
  where
    own : is_act_of k m.act ≡ true
    own = ap (is_act_of k) e ∙ eq-eqb k k refl

    go : (j : ℕ) (b : Bool) → (k == j) ≡ b → is_pending (last_act j (m ∷ moments)) ≡ true → IsTrue (list_any (λ x. x.number == j) (ws ++ w ∷ []))
    go j true q p = any-last (λ x. x.number == j) ws w (ap (λ n. n == j) number ∙ q)
    go j false q p = any-left (λ x. x.number == j) ws (w ∷ []) (h.all j (sym (ap is_pending (last_act-other j m moments (ap (is_act_of j) e ∙ q))) ∙ p))
