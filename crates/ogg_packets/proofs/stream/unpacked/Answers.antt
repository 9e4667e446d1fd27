use Rattle.std.proofs.Common.{◌∙◌, sym, rules}
use Rattle.std.proofs.lemmas.List.{map-id}
use Rattle.std.proofs.lemmas.Iterator.Adapters.{YieldsList-from_vec}
use Rattle.std.proofs.lemmas.Iterator.Consumers.{YieldsList-end}
use Rattle.ogg_packets.proofs.stream.unpacked.Goals as goal

pub returns : goal.returns
returns c =
    let t = YieldsList-end (YieldsList-from_vec c.args.kept.items (cc) (search rules)) c.loop-entry.yielded _ c.loop-entry.yielded_by _ c.next.new.self c.in-None.is c.next.ensures.steps in
    c.loop-entry.invariant ∙ sym (map-id c.loop-entry.yielded) ∙ t.0
