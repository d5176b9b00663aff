-- The settings that are held are those of the state, in the order of the tailoring.
use Rattle.std.proofs.Common.{◌≡◌, ℕ, pos, refl, sym, ◌∙◌, ap, ap₂, List, [], ◌∷◌, map, filter, cond, Bool, true, false, ◌==◌, Some, None}
use Rattle.std.specs.Prelude.{find, unwrap_or, option_map, nat_eq, if◌then◌else◌}
use Rattle.std.specs.List.{AllByRecursion, IsDistinct, cons_option}
use Rattle.std.specs.Option.{option_map_or}
use Rattle.std.proofs.lemmas.Bool.{eq-eqb}
use Rattle.hk_base.specs.Fit.{IsFit}
use Rattle.hk_base.specs.Parameters.{parameter, is_settable}
use Rattle.hk_base.specs.declared.types.Param.{Param}
use Rattle.body_fields.specs.Spelling.{AreOctets}
use Rattle.st20_grammar.specs.declared.bodies.Setting.{Setting}
use Rattle.board_steps.specs.Cores.{Core, session, state_of}
use Rattle.board_steps.specs.Plans.{settables}
use Rattle.board_steps.specs.Slots.{is_set}
use Rattle.board_steps.proofs.GrammarLemmas.{RequestsOnly}
use Rattle.board_steps.proofs.ValueLemmas.{settable-value}
use Rattle.board_state.specs.Values.{IsChannel, AreValues, setting_held, settings_held}
use Rattle.board_state.specs.declared.channels.Channel.{Channel}
use Rattle.board_core.specs.Closing.{own_setting}

heads-same : (a b : ℕ) (xs ys : List ℕ) → a ∷ xs ≡ b ∷ ys → a ≡ b
heads-same a b xs ys e = cc

tails-same : (a b : ℕ) (xs ys : List ℕ) → a ∷ xs ≡ b ∷ ys → xs ≡ ys
tails-same a b xs ys e = cc

no-cons : (a : ℕ) (xs : List ℕ) → [] ≡ a ∷ xs → ⊥
no-cons a xs e = cc

-- each parameter is the one that its ID finds
own-param : (ps : List Param) → IsDistinct nat_eq (map (λ (p : Param). p.id) ps) → AllByRecursion (λ p. find (λ q. q.id == p.id) ps ≡ Some p) ps
unfolding IsDistinct
own-param [] d = tt
own-param (p ∷ ps) d =
    (ap (λ b. cond b (Some p) (find (λ (q : Param). q.id == p.id) ps)) (eq-eqb p.id p.id refl), rest ps (own-param ps d.1) d.0)
  where
    rest : (qs : List Param) → AllByRecursion (λ q. find (λ r. r.id == q.id) ps ≡ Some q) qs → AllByRecursion (λ k. nat_eq p.id k ≡ false) (map (λ (q : Param). q.id) qs)
        → AllByRecursion (λ q. find (λ r. r.id == q.id) (p ∷ ps) ≡ Some q) qs
    rest [] h g = tt
    rest (q ∷ qs) h g = (ap (λ b. cond b (Some p) (find (λ (r : Param). r.id == q.id) ps)) g.0 ∙ h.0, rest qs h.1 g.1)

module _ (c : Core) (channels : List (ℕ × Channel)) (fit : IsFit c.tailoring) (only : RequestsOnly c.tailoring) (octets : AllByRecursion AreOctets c.requests)
    (h : AreValues (session c) c.moments channels) where
  -- what is held of one parameter
  one-setting : (e : ℕ × Channel) (p : Param) → e.0 ≡ p.id → parameter c.tailoring p.id ≡ Some p → IsChannel (session c) c.moments e.0 e.1
      → setting_held e ≡ (if is_settable p then Some (own_setting c p) else None)
  one-setting e p same own k = go (is_settable p) refl
    where
      settable : e.1.is_settable ≡ is_settable p
      settable = k.settable ∙ ap (is_set c.tailoring) same ∙ ap (λ o. option_map_or is_settable o false) own

      go : (b : Bool) → is_settable p ≡ b → setting_held e ≡ (if b then Some (own_setting c p) else None)
      go false q = ap (λ b. if b then option_map (λ v. record { param = e.0; value = v }) e.1.value else None) (settable ∙ q)
      go true q =
          let v = settable-value c only octets fit p p.id own q c.moments in
          let value : e.1.value ≡ Some v.0 = k.value ∙ ap (λ n. (state_of c).value n) same ∙ v.1 in
          let is : unwrap_or ((state_of c).value p.id) (pos 0) ≡ v.0 = ap (λ o. unwrap_or o (pos 0)) v.1 in
          ap (λ b. if b then option_map (λ v. record { param = e.0; value = v }) e.1.value else None) (settable ∙ q)
          ∙ ap (option_map (λ w. record { param = e.0; value = w })) value
          ∙ ap₂ (λ n w. Some (record { param = n; value = w })) same (sym is)

  all-settings : (cs : List (ℕ × Channel)) (ps : List Param) → map (λ (e : ℕ × Channel). e.0) cs ≡ map (λ (p : Param). p.id) ps
      → AllByRecursion (λ p. find (λ q. q.id == p.id) c.tailoring.params ≡ Some p) ps → AllByRecursion (λ e. IsChannel (session c) c.moments e.0 e.1) cs
      → settings_held cs ≡ map (own_setting c) (filter is_settable ps)
  all-settings [] [] e own k = refl
  all-settings [] (p ∷ ps) e own k = absurd (no-cons p.id (map (λ (q : Param). q.id) ps) e)
  all-settings (x ∷ cs) [] e own k = absurd (no-cons x.0 (map (λ (y : ℕ × Channel). y.0) cs) (sym e))
  all-settings (x ∷ cs) (p ∷ ps) e own k =
      ap (λ o. cons_option o (settings_held cs)) (one-setting x p (heads-same x.0 p.id (map (λ (y : ℕ × Channel). y.0) cs) (map (λ (q : Param). q.id) ps) e) own.0 k.0)
      ∙ go (is_settable p) (all-settings cs ps (tails-same x.0 p.id (map (λ (y : ℕ × Channel). y.0) cs) (map (λ (q : Param). q.id) ps) e) own.1 k.1)
    where
      go : (b : Bool) → settings_held cs ≡ map (own_setting c) (filter is_settable ps)
          → cons_option (if b then Some (own_setting c p) else None) (settings_held cs) ≡ map (own_setting c) (cond b (p ∷ filter is_settable ps) (filter is_settable ps))
      go true ih = ap (λ (xs : List Setting). own_setting c p ∷ xs) ih
      go false ih = ih

  -- the settings that are held are the values of the settable parameters
  pub settings-are : settings_held channels ≡ map (own_setting c) (settables c.tailoring)
  settings-are = all-settings channels c.tailoring.params h.ids (own-param c.tailoring.params fit.ids) h.each
