-- Requests of the grammar, with the process and the source of a tailoring.
use Rattle.std.specs.Prelude.{◌≡◌}
use Rattle.hk_base.specs.TailoringParts.{TailoringParts}
use Rattle.pus_messages.specs.Spelling.{IsRequest}
use Rattle.pus_messages.specs.declared.message.Request.{Request}

-- a request of the grammar from the ground of the tailoring to its process
pub record IsOfGround (t : TailoringParts) (r : Request) : Type 0 where
  pub message : IsRequest t r
  pub apid : r.header.apid ≡ t.widths.apid
  pub source : r.header.source ≡ t.widths.ground
