use Rattle.std.proofs.Common.{◌-◌, length, drop, arith}
use Rattle.std.proofs.lemmas.List.{take_rest, length-take, length-drop}
use Rattle.vf_outside.proofs.Writing.{Appends-more, Appends-kept}
use Rattle.vf_outside.proofs.std_sink.write_whole.Goals as goal
use Rattle.vf_outside.proofs.std_sink.write_whole.Goals.{in-Ok, in-Err}

pub loop-preserved : goal.loop-preserved
loop-preserved g c =
    let rest = take_rest c.args.bytes.now c.loop.at in
    elim c.match-write.branch [
      | in-Ok w ↦
          let step = rw rest at w.in-Ok.ensures.bytes in
          record {
            within = omega (arith, w.at-is, w.in-Ok.ensures.bound, length-take (length c.args.bytes.now - c.loop.at) (drop c.loop.at c.args.bytes.now), length-drop c.loop.at c.args.bytes.now);
            written = rw w.at-is (Appends-more _ _ _ c.args.bytes.now c.loop.at w.in-Ok.count c.loop.invariant.written step);
          }
      | in-Err w ↦
          record {
            within = omega (arith, w.at-is);
            written = rw w.at-is (Appends-kept _ _ _ _ c.loop.invariant.written w.in-Err.ensures.bytes);
          }
    ]
