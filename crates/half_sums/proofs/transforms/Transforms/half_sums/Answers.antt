use Rattle.std.proofs.Common.{◌≡◌, ◌*◌, ◌/◌, length, pos, subst, sym, arith}
use Rattle.std.proofs.lemmas.List.Elements.{All-from_get_or}
use Rattle.half_sums.specs.HalfSums.{IsSum}
use Rattle.half_sums.proofs.SilentSums.{silent_sums}
use Rattle.half_sums.proofs.transforms.Transforms.half_sums.Goals as goal

pub returns-then-is_silent : goal.returns-then-is_silent
returns-then-is_silent c =
    let count : length c.silence.new.sums ≡ 2 * length c.args.spectrum.now / 2 = omega arith in
    record {
      values = λ tables same. silent_sums tables (2 * length c.args.spectrum.now) c.args.spectrum.now (c.is_silent.ensures c.if-is_silent.true) c.silence.new.sums count c.silence.ensures;
      small = All-from_get_or IsSum c.silence.new.sums (pos 0) (λ i h. subst IsSum (sym (c.silence.ensures i)) (omega arith));
    }
