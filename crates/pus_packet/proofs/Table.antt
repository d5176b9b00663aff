-- The table has what is left of each octet.
use Rattle.std.proofs.Common.{◌≡◌, refl, sym, ap, ◌∙◌, ℕ, ◌<◌, List, [], ◌++◌, map, get_or, replicate, zero-add}
use Rattle.std.specs.List.{range_with_len}
use Rattle.std.proofs.lemmas.List.{get_or-map}
use Rattle.std.proofs.lemmas.List.FromFn.{get_or-map-range_with_len}
use Rattle.hk_base.specs.Fields.{digits}
use Rattle.pus_packet.specs.Packets.{remainder}
use Rattle.pus_packet.specs.declared.checksum.TheConstants.{TABLE}

-- what is left of an octet that is moved through a whole register
abbrev pub left_of : ℕ → List ℕ
left_of octet = remainder 8 (digits 2 8 octet ++ replicate 16 0)

each : map left_of (range_with_len 0 256) ≡ map (digits 2 16) TABLE
each = refl

pub table-row : (octet : ℕ) → octet < 256 → left_of octet ≡ digits 2 16 (get_or TABLE octet 0)
table-row octet small =
    sym (get_or-map-range_with_len left_of 0 256 octet octet [] small (zero-add octet))
    ∙ (ap (λ rows. get_or rows octet []) each ∙ get_or-map (digits 2 16) TABLE octet 0 [] small)
