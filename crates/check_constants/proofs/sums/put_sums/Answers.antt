use Rattle.std.proofs.Common.{◌∙◌, length, ap}
use Rattle.half_sums.proofs.LaidOut.{block_size_from}
use Rattle.check_constants.proofs.sums.put_sums.Goals as goal

pub half_sums-requires-clause-size : goal.half_sums-requires-clause-size
half_sums-requires-clause-size c =
    block_size_from (length c.deref-in_default.result.now) c.args.levels (ap length c.deref-in_default.ensures.value ∙ c.requires.size) c.requires.least c.requires.most
