-- A piece more is read only where what comes next isn't held in full, so never too much is.
use Rattle.std.proofs.Common.{◌≡◌, ◌∙◌, false, ap, rules}
use Rattle.std.specs.Prelude.{vec_len}
use Rattle.session_record.specs.Reading.{Reading}
use Rattle.session_record.specs.Steps.{is_ready}
use Rattle.session_record.proofs.WithinLemmas.{grown-fields}
use Rattle.session_record.proofs.reader.RecordReader.gather.Goals as goal

pub invariant_of-self-then-branch-eq0 : goal.invariant_of-self-then-branch-eq0
invariant_of-self-then-branch-eq0 g c =
    let inside = c.self.inside in
    let r : Reading = record { header = inside.header; offset = inside.offset; room = inside.room; held = inside.held; fault = inside.fault; most = vec_len inside.piece } in
    let unready : is_ready c.loop-self.self ≡ false = search rules in
    let open_still : is_ready r ≡ false = ap is_ready c.self.view_is ∙ unready in (
      c.self.invariant.0,
      c.self.invariant.1,
      search rules,
      grown-fields r c.read_more.new.self _ _ c.self.invariant.0 open_still c.self.invariant.3 c.in_ok-read_more.ensures.grows (search rules) (search rules),
    )

pub invariant_of-self-else-branch-eq0 : goal.invariant_of-self-else-branch-eq0
invariant_of-self-else-branch-eq0 g c =
    let inside = c.self.inside in
    let r : Reading = record { header = inside.header; offset = inside.offset; room = inside.room; held = inside.held; fault = inside.fault; most = vec_len inside.piece } in
    let unready : is_ready c.loop-self.self ≡ false = search rules in
    let open_still : is_ready r ≡ false = ap is_ready c.self.view_is ∙ unready in (
      c.self.invariant.0,
      c.self.invariant.1,
      search rules,
      grown-fields r c.read_more.new.self _ _ c.self.invariant.0 open_still c.self.invariant.3 c.in_ok-read_more.ensures.grows (search rules) (search rules),
    )
