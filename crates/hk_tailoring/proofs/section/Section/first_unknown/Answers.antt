use Rattle.std.proofs.Common.{◌≡◌, sym, ap, ◌∙◌, Some, map, string_bytes, true, false}
use Rattle.std.specs.List.{list_any}
use Rattle.std.specs.Str.{bytes_eq}
use Rattle.hk_tailoring.specs.Known.{known_keys, first_other}
use Rattle.hk_tailoring.proofs.KnownLemmas.{keys_of-members_view, first_other-passed, first_other-found}
use Rattle.hk_tailoring.proofs.section.Section.first_unknown.Goals as goal

pub loop-key-init : goal.loop-key-init
loop-key-init c =
    record {
      can = tt;
      finite = tt;
      rest =
          ap (λ keys. first_other (known_keys c.args.kind) (map string_bytes keys)) (c.into_iter-key-iterator.ensures.into_iter_gives ∙ c.keys-key-items.ensures.rest)
          ∙ ap (λ keys. first_other (known_keys c.args.kind) keys) (keys_of-members_view c.args.self.now.table.now.entries);
    }

pub loop-key-preserved : goal.loop-key-preserved
loop-key-preserved c =
    let known = known_keys c.args.kind in
    let has : list_any (bytes_eq (string_bytes c.in-Some.key.now)) known ≡ true =
    ap (λ bytes. list_any (bytes_eq bytes) known) (sym c.as_str.ensures.value) ∙ (sym c.has.ensures ∙ c.if-not-has.false) in
    record {
      can = tt;
      finite = tt;
      rest = first_other-passed known c.loop-key.key-iterator c.in-Some.key.now c.next.new.self c.in-Some.ensures.steps has ∙ c.loop-key.invariant.rest;
    }

pub returns-then-not-has : goal.returns-then-not-has
returns-then-not-has c =
    let known = known_keys c.args.kind in
    let has : list_any (bytes_eq (string_bytes c.in-Some.key.now)) known ≡ false =
    ap (λ bytes. list_any (bytes_eq bytes) known) (sym c.as_str.ensures.value) ∙ (sym c.has.ensures ∙ c.if-not-has.true) in
    ap (λ bytes. Some bytes) c.as_str-then-not-has.ensures.value
    ∙ (sym (first_other-found known c.loop-key.key-iterator c.in-Some.key.now c.next.new.self c.in-Some.ensures.steps has) ∙ c.loop-key.invariant.rest)

pub returns : goal.returns
returns c =
    ap (λ keys. first_other (known_keys c.args.kind) (map string_bytes keys)) (sym c.in-None.ensures.steps.0) ∙ c.loop-key.invariant.rest
