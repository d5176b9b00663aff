-- What is seen in the world of a record's own lines is what was sent and received.
use Rattle.std.proofs.Common.{◌≡◌, List, [], ◌∷◌, ◌++◌, Option, Some, None, refl, sym, ap, subst, ◌∙◌}
use Rattle.std.specs.Prelude.{filter_map, reverse, unwrap_or}
use Rattle.std.specs.List.{AllZip}
use Rattle.std.proofs.lemmas.List.{reverse-append, append-nil}
use Rattle.std.proofs.lemmas.List.Elements.{filter_map-append}
use Rattle.hk_world.specs.Timelines.{Session}
use Rattle.hk_world.specs.Worlds.{World, Step, send, happen, deliver, stray, MayStep, packet_of, entries_seen}
use Rattle.session_record.specs.declared.header.Header.{Header}
use Rattle.session_record.specs.declared.entry.Entry.{Entry}
use Rattle.session_record.specs.declared.entry.Entry.TheVariants.{Sent, Got, Line}
use Rattle.session_texts.specs.Sessions.{seen_entry}
use Rattle.session_texts.specs.Truth.{IsSeenIn}
use Rattle.journaled_records.specs.OwnWorlds.{IsStepOf, IsOwnWorld}

-- what is taken of entries that stand the other way round
filter_map-reverse : {X Y : Type 0} (f : X → Option Y) (xs : List X) → filter_map f (reverse xs) ≡ reverse (filter_map f xs)
filter_map-reverse f [] = refl
filter_map-reverse {Y = Y} f (x ∷ xs) =
    ap (filter_map f) (reverse-append (x ∷ []) xs)
    ∙ filter_map-append f (reverse xs) (x ∷ [])
    ∙ ap (λ ys. ys ++ filter_map f (x ∷ [])) (filter_map-reverse f xs)
    ∙ last (f x) refl
  where
    last : (o : Option Y) → f x ≡ o → reverse (filter_map f xs) ++ filter_map f (x ∷ []) ≡ reverse (filter_map f (x ∷ xs))
    last (Some y) is = rw (is) (sym (reverse-append (y ∷ []) (filter_map f xs)))
    last None is = rw (is) (append-nil (reverse (filter_map f xs)))

-- what is seen of steps is what is taken of the entries that they are of
steps-seen : (s : Session) (steps : List Step) (newest : List Entry) → AllZip (IsStepOf s) steps newest
    → filter_map seen_entry newest ≡ entries_seen s.requests steps
steps-seen s [] [] each = refl
steps-seen s (send k ∷ steps) (Sent packet ∷ newest) each =
    let same : packet_of s.requests k ≡ packet = ap (λ o. unwrap_or o []) each.0 in
    let rest = steps-seen s steps newest each.1 in
    rw (rest, same) refl
steps-seen s (happen m ∷ steps) (Line text ∷ newest) each = steps-seen s steps newest each.1
steps-seen s (deliver m ∷ steps) (Got packet ∷ newest) each = let rest = steps-seen s steps newest each.1 in rw (rest, each.0) refl
steps-seen s (stray other ∷ steps) (Got packet ∷ newest) each = let rest = steps-seen s steps newest each.1 in rw (rest, each.0) refl
steps-seen s [] (e ∷ newest) each = absurd each
steps-seen s (step ∷ steps) [] each = absurd each
steps-seen s (send k ∷ steps) (Got packet ∷ newest) each = absurd each.0
steps-seen s (send k ∷ steps) (Line packet ∷ newest) each = absurd each.0
steps-seen s (happen m ∷ steps) (Sent text ∷ newest) each = absurd each.0
steps-seen s (happen m ∷ steps) (Got text ∷ newest) each = absurd each.0
steps-seen s (deliver m ∷ steps) (Sent packet ∷ newest) each = absurd each.0
steps-seen s (deliver m ∷ steps) (Line packet ∷ newest) each = absurd each.0
steps-seen s (stray other ∷ steps) (Sent packet ∷ newest) each = absurd each.0
steps-seen s (stray other ∷ steps) (Line packet ∷ newest) each = absurd each.0

-- the entries of a record, its lines left out, are what the ground saw in the world of its lines
pub own-seen : (w : World) (h : Header) (entries : List Entry) → IsOwnWorld w h entries → IsSeenIn w h entries
own-seen w h entries own =
    (own.known, own.long, sym (filter_map-reverse seen_entry entries) ∙ steps-seen w.session w.steps (reverse entries) own.steps)

-- one entry more, and the step that it stands for
pub own-next : (s : Session) (steps : List Step) (h : Header) (entries : List Entry) (e : Entry) (step : Step) → IsOwnWorld (record { session = s; steps = steps }) h entries
    → IsStepOf s step e → MayStep s steps step → IsOwnWorld (record { session = s; steps = step ∷ steps }) h (entries ++ e ∷ [])
own-next s steps h entries e step own of may =
    let P : List Entry → Type 0 = λ es. AllZip (IsStepOf s) (step ∷ steps) es in
    record {
      world = record { session = own.world.session; steps = (may, own.world.steps) };
      known = own.known;
      long = own.long;
      steps = subst P (sym (reverse-append entries (e ∷ []))) (of, own.steps);
    }
