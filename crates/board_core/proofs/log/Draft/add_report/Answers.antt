use Rattle.std.proofs.Common.{arith, ◌≡◌, ◌≤◌, sym, ◌∙◌, ap, subst}
use Rattle.hk_base.specs.Fit.{greatest_tag}
use Rattle.pus_messages.specs.Messages.{protocol}
use Rattle.pus_messages.specs.Protocol.{readable}
use Rattle.board_steps.specs.Cores.{header_of}
use Rattle.board_core.specs.Counts.{AreCounts, counted, type_place}
use Rattle.board_core.specs.Logs.{drafted}
use Rattle.board_core.proofs.LogLemmas.{greatest-small, header-stands, told-drafted}
use Rattle.board_core.proofs.log.Draft.add_report.Goals as goal

pub next_tag-tag-requires : goal.next_tag-tag-requires
next_tag-tag-requires c = omega (arith, c.requires.early, greatest-small c.args.tailoring.now c.widths-fit.ensures.fit)

pub packet_of-requires-clause-message : goal.packet_of-requires-clause-message
packet_of-requires-clause-message c =
    let t = c.args.tailoring.now in
    let l = c.requires.known.0 in
    let moments = drafted l c.args.self.now.moments.items in
    let counts = subst (λ x. AreCounts (protocol x) moments c.args.self.now.counters) c.requires.known.1 c.requires.known.2.counts in
    header-stands t moments c.next_tag-tag.result c.args.body c.header-header.result (c.header-header.ensures moments counts) c.widths-fit.ensures.fit c.requires.writable
    (subst (λ n. n ≤ greatest_tag t) (sym c.next_tag-tag.ensures) c.requires.early)

pub returns : goal.returns
returns c l same d =
    let old = c.args.self.now in
    let new = c.push.new.self in
    let tag = c.next_tag-tag.result in
    let moments = drafted l old.moments.items in
    let early : tag ≤ greatest_tag l.tailoring = subst (λ t. tag ≤ greatest_tag t) (sym same) (subst (λ n. n ≤ greatest_tag c.args.tailoring.now) (sym c.next_tag-tag.ensures) c.requires.early) in
    let counts = subst (λ x. AreCounts (protocol x) moments old.counters) same d.counts in
    let header = subst (λ x. c.header-header.result ≡ header_of (protocol x) moments tag c.args.body) (sym same) (c.header-header.ensures moments counts) in
    let told = subst (λ x. (protocol x).reception c.in_ok-packet.packet ≡ readable (record { header = c.header-header.result; body = c.args.body })) (sym same) c.in_ok-packet.ensures.read in
    told-drafted l c.args.act c.args.body tag c.in_ok-packet.packet c.header-header.result old
    (record { clock = new.clock; last_tag = new.last_tag; counters = c.count.new.self; moments = new.moments }) d c.next_tag-tag.ensures early header told c.in_ok-packet.ensures.octets
    c.in_ok-push.ensures.clock (c.count.ensures ∙ ap (counted (type_place c.args.body)) c.in_ok-push.ensures.counters) c.in_ok-push.ensures.ok.0 c.in_ok-push.ensures.ok.1
